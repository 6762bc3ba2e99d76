-- A page is read without a fault exactly where what lies ahead has the form.
use Rattle.std.proofs.Common.{◌≡◌, ◌≢◌, ◌<◌, ◌≤◌, ◌+◌, ◌-◌, ◌==◌, ◌∙◌, inl, inr, ℕ, Bool, true, false, List, [], ◌∷◌, length, get_or, Option, Some, Ok, is_some, nat_le, slice_get, refl, sym, ap, subst, arith}
use Rattle.std.proofs.lemmas.Bool.{cases_lt, cases_eq, eq-eqb, and_from, le-leb, false_from_ne_true, false≢true}
use Rattle.pm3_types.specs.Fields.{Fields}
use Rattle.pm3_types.specs.Layout.{Sheet, type_in, tail_in, size_by}
use Rattle.pm3_types.specs.PageForm.{is_head_of}
use Rattle.pm3_page.specs.declared.roles.Reading.{Reading}
use Rattle.pm3_page.specs.declared.roles.Role.{Role}
use Rattle.pm3_page.specs.declared.roles.Role.TheVariants.{Zero, Head}
use Rattle.pm3_page.specs.declared.steps.Step.{Step}
use Rattle.pm3_page.specs.Roles.{role_at}
use Rattle.pm3_page.specs.Scan.{scan, step_in, head_step, go_on, put_first, when, plain, object_reading}
use Rattle.pm3_page.proofs.StepCases.{Continues, go_on-Ok, part_step, step_part, head_step-Some, accepts, role_end, role_head, is_part-role}
use Rattle.pm3_page.proofs.Onward.{IsObject, Onward, IsAhead, AreWords, AreStarts, first_word, later_words, first_start, later_starts, onward_end, onward_part, onward_head}

ahead_more : (r : Reading) (i : ℕ) → IsAhead r i → (i ≡ r.next → r.end ≤ i) → IsAhead r (i + 1)
ahead_more r i ahead apart = elim (cases_eq i r.next) [
  | inl e ↦ (let past = apart e in record { low = omega (arith, ahead.low); next = omega (arith, ahead.end); end = ahead.end })
  | inr e ↦ record { low = omega (arith, ahead.low); next = omega (arith, ahead.next); end = ahead.end }
]

ahead_head : (r : Reading) (i : ℕ) (map : Fields) (tail : ℕ) → IsAhead r i → i + size_by (Some map) tail ≤ r.end → IsAhead (object_reading r i map tail) (i + 1)
ahead_head r i map tail ahead ends = record { low = omega (arith, ahead.low); next = omega arith; end = ends }

module _ (catalog : List Fields) (refer : ℕ → Option ℕ) (page : ℕ) (word : ℕ → ℕ) (begins : ℕ → Bool) where
  onward_nil : (r : Reading) (i : ℕ) → IsAhead r i → r.end ≤ i → AreWords word begins i [] → AreStarts word begins i []
      → Onward catalog (λ w. is_some (refer w)) word begins r i
  onward_nil r i ahead past words starts =
      let next : r.end ≤ r.next = omega (arith, ahead.next) in
      record {
        here = λ t from until. absurd (omega (arith, ahead.end));
        after = λ below. absurd (omega arith);
        parts = λ t from until. absurd (omega (arith, ahead.end));
        objects = λ t from is. absurd (false≢true (starts (t - i) ∙ ap begins (omega arith) ∙ is));
        rest = λ t from end. ap word (omega arith) ∙ sym (words (t - i));
      }

  -- one word read without a fault, before words of which the same is known
  onward_cons : (w : ℕ) (words : List ℕ) (r : Reading) (i : ℕ) (out : Sheet) → IsAhead r i → r.end ≤ i + 1 + length words
      → AreWords word begins i (w ∷ words) → AreStarts word begins i out.starts → scan catalog refer page (w ∷ words) r i ≡ Ok out
      → ((now : Reading) (sheet : Sheet) → IsAhead now (i + 1) → now.end ≤ i + 1 + length words → AreWords word begins (i + 1) words
      → AreStarts word begins (i + 1) sheet.starts → scan catalog refer page words now (i + 1) ≡ Ok sheet
      → Onward catalog (λ w. is_some (refer w)) word begins now (i + 1))
      → Onward catalog (λ w. is_some (refer w)) word begins r i
  onward_cons w words r i out ahead within are starts e rest =
      elim (cases_lt i r.end) [ inl before ↦ elim (cases_eq i r.next) [ inl next ↦ at_head before next | inr apart ↦ at_part before apart ] | inr past ↦ at_end past ]
    where
      ran : Continues (step_in catalog refer page r i (role_at r i) w) (λ now. scan catalog refer page words now (i + 1)) out
      ran = go_on-Ok i (step_in catalog refer page r i (role_at r i) w) _ out e

      here : word i ≡ w
      here = first_word word begins i w words are

      marks : AreStarts word begins i (ran.step.begins ∷ ran.sheet.starts)
      marks t = ap (λ (s : Sheet). get_or s.starts t false) (sym ran.whole) ∙ starts t

      more : (now : Reading) → ran.step.reading ≡ now → IsAhead now (i + 1) → now.end ≡ r.end → Onward catalog (λ w. is_some (refer w)) word begins now (i + 1)
      more now same ahead' end =
          rest now ran.sheet ahead' (omega (arith, within)) (later_words word begins i w words are)
          (later_starts word begins i ran.step.begins ran.sheet.starts marks)
          (ap (λ (s : Reading). scan catalog refer page words s (i + 1)) (sym same) ∙ ran.more)

      at_part : i < r.end → i ≢ r.next → Onward catalog (λ w. is_some (refer w)) word begins r i
      at_part before apart =
          let is = part_step catalog refer page r i (role_at r i) w ran.step (is_part-role r i ahead.low before apart) ran.is in
          onward_part word begins catalog (λ w. is_some (refer w)) r i (omega (arith, ahead.next)) ahead.end
          (ap (accepts (λ w. is_some (refer w)) (role_at r i)) here ∙ is.accepted)
          (first_start word begins i ran.step.begins ran.sheet.starts marks ∙ is.begins)
          (more r is.reading (ahead_more r i ahead (λ e. absurd (apart e))) refl)

      at_end : r.end ≤ i → Onward catalog (λ w. is_some (refer w)) word begins r i
      at_end past =
          let role : role_at r i ≡ Zero = role_end r i ahead.low past in
          let is = part_step catalog refer page r i Zero w ran.step refl (ap (λ (k : Role). step_in catalog refer page r i k w) (sym role) ∙ ran.is) in
          onward_end word begins catalog (λ w. is_some (refer w)) r i ahead past (here ∙ zero is.accepted)
          (first_start word begins i ran.step.begins ran.sheet.starts marks ∙ is.begins)
          (more r is.reading (ahead_more r i ahead (λ e. past)) refl)
        where
          zero : (w == 0) ≡ true → w ≡ 0
          zero t = grind arith

      at_head : i < r.end → i ≡ r.next → Onward catalog (λ w. is_some (refer w)) word begins r i
      at_head before next =
          let role : role_at r i ≡ Head = role_head r i ahead.low before next in
          let is = head_step-Some catalog (slice_get catalog (type_in w)) r i w ran.step refl (ap (λ (k : Role). step_in catalog refer page r i k w) (sym role) ∙ ran.is) in
          let tail : tail_in (word i) ≡ tail_in w = ap tail_in here in
          onward_head word begins catalog (λ w. is_some (refer w)) r i is.map next before
          (ap (λ (v : ℕ). slice_get catalog (type_in v)) here ∙ is.of)
          (ap (is_head_of is.map) here ∙ is.sound)
          (subst (λ (n : ℕ). i + size_by (Some is.map) n ≤ r.end) (sym tail) is.ends)
          (first_start word begins i ran.step.begins ran.sheet.starts marks ∙ is.begins)
          (more (object_reading r i is.map (tail_in (word i))) (is.reading ∙ ap (object_reading r i is.map) (sym tail))
          (ahead_head r i is.map (tail_in (word i)) ahead (subst (λ (n : ℕ). i + size_by (Some is.map) n ≤ r.end) (sym tail) is.ends)) refl)

  -- read without a fault
  pub scan_onward : (words : List ℕ) (r : Reading) (i : ℕ) (out : Sheet) → IsAhead r i → r.end ≤ i + length words
      → AreWords word begins i words → AreStarts word begins i out.starts → scan catalog refer page words r i ≡ Ok out
      → Onward catalog (λ w. is_some (refer w)) word begins r i
  scan_onward [] r i out ahead within words starts e =
      onward_nil r i ahead (omega arith) words (λ t. ap (λ (s : Sheet). get_or s.starts t false) (sym same) ∙ starts t)
    where
      same : out ≡ record { words = []; starts = [] }
      same = cc
  scan_onward (w ∷ words) r i out ahead within are starts e =
      onward_cons w words r i out ahead (omega (arith, within)) are starts e (λ now sheet a b c d f. scan_onward words now (i + 1) sheet a b c d f)

  -- what has the form is read
  onward_later : (r : Reading) (i : ℕ) → Onward catalog (λ w. is_some (refer w)) word begins r i → Onward catalog (λ w. is_some (refer w)) word begins r (i + 1)
  onward_later r i o = record {
    here = λ t from. o.here t (omega arith);
    after = o.after;
    parts = λ t from. o.parts t (omega arith);
    objects = λ t from. o.objects t (omega arith);
    rest = λ t from. o.rest t (omega arith);
  }

  onward_object : (r : Reading) (i : ℕ) → Onward catalog (λ w. is_some (refer w)) word begins r i → (o : IsObject catalog (λ w. is_some (refer w)) word begins r i)
      → Onward catalog (λ w. is_some (refer w)) word begins (object_reading r i o.map (tail_in (word i))) (i + 1)
  onward_object r i on o = record {
    here = λ t from until. o.alone t (omega arith) until;
    after = o.follows;
    parts = λ t from until. o.parts t (omega arith) until;
    objects = λ t from is. again t (on.objects t (omega arith) is);
    rest = λ t from. on.rest t (omega arith);
  }
    where
      again : (t : ℕ) → IsObject catalog (λ w. is_some (refer w)) word begins r t
          → IsObject catalog (λ w. is_some (refer w)) word begins (object_reading r i o.map (tail_in (word i))) t
      again t p = record {
        map = p.map;
        of = p.of;
        sound = p.sound;
        ends = p.ends;
        alone = p.alone;
        follows = p.follows;
        parts = p.parts;
      }

  -- the words read, and where objects begin
  abbrev pub Reads : List ℕ → List Bool → Reading → ℕ → Type 0
  Reads words starts r i = (out : List ℕ) × (scan catalog refer page words r i ≡ Ok (record { words = out; starts = starts }))

  reads_cons : (w : ℕ) (words : List ℕ) (b : Bool) (starts : List Bool) (r : Reading) (i : ℕ) (step : Step)
      → step_in catalog refer page r i (role_at r i) w ≡ Some step → b ≡ step.begins → Reads words starts step.reading (i + 1) → Reads (w ∷ words) (b ∷ starts) r i
  reads_cons w words b starts r i step is begins' more = (
    step.word ∷ more.0,
    ap (λ (o : Option Step). go_on i o (λ now. scan catalog refer page words now (i + 1))) is
        ∙ ap (put_first step) more.1
        ∙ ap (λ (c : Bool). Ok (record { words = step.word ∷ more.0; starts = c ∷ starts })) (sym begins'),
  )

  reads_step : (w : ℕ) (words : List ℕ) (b : Bool) (starts : List Bool) (r : Reading) (i : ℕ) → IsAhead r i
      → AreWords word begins i (w ∷ words) → AreStarts word begins i (b ∷ starts) → Onward catalog (λ w. is_some (refer w)) word begins r i
      → ((now : Reading) → IsAhead now (i + 1) → Onward catalog (λ w. is_some (refer w)) word begins now (i + 1) → Reads words starts now (i + 1))
      → Reads (w ∷ words) (b ∷ starts) r i
  reads_step w words b starts r i ahead are marks on rest =
      elim (cases_lt i r.end) [ inl before ↦ elim (cases_eq i r.next) [ inl next ↦ at_head before next | inr apart ↦ at_part before apart ] | inr past ↦ at_end past ]
    where
      here : word i ≡ w
      here = first_word word begins i w words are

      mark : begins i ≡ b
      mark = first_start word begins i b starts marks

      at_part : i < r.end → i ≢ r.next → Reads (w ∷ words) (b ∷ starts) r i
      at_part before apart =
          let within : i < r.next = omega (arith, ahead.next) in
          let made = step_part catalog refer page r i (role_at r i) w (ap (accepts (λ w. is_some (refer w)) (role_at r i)) (sym here) ∙ on.parts i (omega arith) within) in
          reads_cons w words b starts r i (plain r made.0) made.1 (sym mark ∙ on.here i (omega arith) within)
          (rest r (ahead_more r i ahead (λ e. absurd (apart e))) (onward_later r i on))

      at_end : r.end ≤ i → Reads (w ∷ words) (b ∷ starts) r i
      at_end past =
          let zero : (w == 0) ≡ true = eq-eqb w 0 (sym here ∙ on.rest i (omega arith) past) in
          let made = step_part catalog refer page r i Zero w zero in
          reads_cons w words b starts r i (plain r made.0)
          (ap (λ (k : Role). step_in catalog refer page r i k w) (role_end r i ahead.low past) ∙ made.1)
          (sym mark ∙ false_from_ne_true (begins i) (λ is. none is))
          (rest r (ahead_more r i ahead (λ e. past)) (onward_later r i on))
        where
          none : begins i ≡ true → ⊥
          none is = let o = on.objects i (omega arith) is in absurd (omega (arith, o.ends))

      at_head : i < r.end → i ≡ r.next → Reads (w ∷ words) (b ∷ starts) r i
      at_head before next =
          let start : begins i ≡ true = ap begins next ∙ on.after (omega arith) in
          let o = on.objects i (omega arith) start in
          let now : Reading = object_reading r i o.map (tail_in (word i)) in
          let step : Step = record { reading = now; begins = true; word = w } in
          reads_cons w words b starts r i step
          (ap (λ (k : Role). step_in catalog refer page r i k w) (role_head r i ahead.low before next) ∙ made o)
          (sym mark ∙ start)
          (rest now (ahead_head r i o.map (tail_in (word i)) ahead o.ends) (onward_object r i on o))
        where
          made : (o : IsObject catalog (λ w. is_some (refer w)) word begins r i)
              → head_step (slice_get catalog (type_in w)) r i w ≡ Some (record { reading = object_reading r i o.map (tail_in (word i)); begins = true; word = w })
          made o =
              let of : slice_get catalog (type_in w) ≡ Some o.map = ap (λ (v : ℕ). slice_get catalog (type_in v)) (sym here) ∙ o.of in
              let sound : is_head_of o.map w ≡ true = ap (is_head_of o.map) (sym here) ∙ o.sound in
              let tail : tail_in w ≡ tail_in (word i) = ap tail_in (sym here) in
              let fits : nat_le (i + size_by (Some o.map) (tail_in w)) r.end ≡ true =
              le-leb _ r.end (subst (λ (n : ℕ). i + size_by (Some o.map) n ≤ r.end) (sym tail) o.ends) in
              ap (λ (m : Option Fields). head_step m r i w) of
              ∙ ap (λ (t : Bool). when t (record { reading = object_reading r i o.map (tail_in w); begins = true; word = w })) (and_from _ _ sound fits)
              ∙ ap (λ (n : ℕ). Some (record { reading = object_reading r i o.map n; begins = true; word = w })) tail

  pub onward_scan : (words : List ℕ) (starts : List Bool) (r : Reading) (i : ℕ) → IsAhead r i → length starts ≡ length words
      → AreWords word begins i words → AreStarts word begins i starts → Onward catalog (λ w. is_some (refer w)) word begins r i → Reads words starts r i
  onward_scan [] [] r i ahead same are marks on = ([], refl)
  onward_scan [] (b ∷ starts) r i ahead same are marks on = absurd (omega arith)
  onward_scan (w ∷ words) [] r i ahead same are marks on = absurd (omega arith)
  onward_scan (w ∷ words) (b ∷ starts) r i ahead same are marks on =
      reads_step w words b starts r i ahead are marks on
      (λ now a o. onward_scan words starts now (i + 1) a (omega arith) (later_words word begins i w words are) (later_starts word begins i b starts marks) o)
