-- Whole pages: read, in their form, and there and back.
use Rattle.std.proofs.Common.{◌≡◌, ◌≢◌, ◌≤◌, ◌+◌, ◌*◌, ◌^◌, ◌==◌, ◌&&◌, ◌∙◌, inl, inr, ℕ, zero, suc, Bool, true, false, not, List, [], ◌∷◌, length, get_or, replicate, Option, Some, Ok, is_some, refl, sym, ap, subst, arith}
use Rattle.std.specs.List.{list_all}
use Rattle.std.proofs.lemmas.Bool.{cases_eq, cases_Bool, cond-true, cond-false, ne_eqb, eq-eqb, eqb-true, and_parts, and_left, not_from_true, false≢true}
use Rattle.pm3_types.specs.Fields.{Fields}
use Rattle.pm3_types.specs.Layout.{Sheet, blank_sheet, used_in, page_head, is_start}
use Rattle.pm3_types.specs.PageForm.{HasForm, HasObjects, HasRoots, is_page_head}
use Rattle.pm3_page.specs.declared.roles.Reading.{Reading}
use Rattle.pm3_page.specs.declared.steps.Step.{Step}
use Rattle.pm3_page.specs.Roles.{role_at}
use Rattle.pm3_page.specs.Scan.{Read, scan, step_in, go_on, put_first, when, plain, reading_to, first_reading, is_blank, pass}
use Rattle.pm3_page.proofs.StepCases.{go_on-Ok}
use Rattle.pm3_page.proofs.RoundTrips.{scan_back, scan_wider}
use Rattle.pm3_page.proofs.Onward.{Onward, IsAhead, AreWords}
use Rattle.pm3_page.proofs.Ahead.{scan_onward, onward_scan}
use Rattle.pm3_page.proofs.PageForms.{objects_from, objects_onward, roots_from, roots_onward, used, first_objects}

-- a page of zeros
pub blank-replicate : (words : List ℕ) → is_blank words ≡ true → words ≡ replicate (length words) 0
blank-replicate [] is = refl
blank-replicate (w ∷ words) is =
    let parts = and_parts (w == 0) (list_all (λ v. v == 0) words) is in
    let zero : w ≡ 0 = eqb-true w 0 parts.0 in
    let rest : words ≡ replicate (length words) 0 = blank-replicate words parts.1 in
    λ i. zero i ∷ rest i

pub replicate-blank : (n : ℕ) → is_blank (replicate n 0) ≡ true
replicate-blank zero = refl
replicate-blank (suc n) = replicate-blank n

-- the first word of a page that is not free is not 0
pub head_not_zero : (page word : ℕ) → is_page_head page word ≡ true → word ≢ 0
unfolding is_page_head page_head used_in
head_not_zero page word is none = elim (cases_eq page 2) [ inl two ↦ at_two two | inr apart ↦ (let u = used page word apart is in let more = u.more in omega arith) ]
  where
    at_two : page ≡ 2 → ⊥
    at_two two =
        let plain : (word == 2 + 2 ^ 32 * 18) ≡ true = sym (cond-true (page == 2) _ _ (eq-eqb page 2 two)) ∙ is in
        let same : word ≡ 2 + 2 ^ 32 * 18 = eqb-true word _ plain in
        omega arith

module _ (catalog : List Fields) (refer : ℕ → Option ℕ) (page : ℕ) where
  -- a run over a list gives lists of the same length
  pub scan-length : (words : List ℕ) (r : Reading) (i : ℕ) (out : Sheet) → scan catalog refer page words r i ≡ Ok out
      → (length out.words ≡ length words) × (length out.starts ≡ length words)
  scan-length [] r i out e =
      let same : out ≡ record { words = []; starts = [] } = cc in
      (ap (λ (s : Sheet). length s.words) same, ap (λ (s : Sheet). length s.starts) same)
  scan-length (w ∷ words) r i out e =
      let ran = go_on-Ok i (step_in catalog refer page r i (role_at r i) w) (λ now. scan catalog refer page words now (i + 1)) out e in
      let more = scan-length words ran.step.reading (i + 1) ran.sheet ran.more in
      (ap (λ (s : Sheet). length s.words) ran.whole ∙ ap suc more.0, ap (λ (s : Sheet). length s.starts) ran.whole ∙ ap suc more.1)

  -- the first two words of a page, and those behind them
  pub record IsOpened (first second : ℕ) (words : List ℕ) (out : Sheet) : Type 0 where
    pub head : is_page_head page first ≡ true
    pub zero : second ≡ 0
    pub sheet : Sheet
    pub more : scan catalog refer page words (first_reading page first) 2 ≡ Ok sheet
    pub whole : out ≡ record { words = first ∷ second ∷ sheet.words; starts = false ∷ false ∷ sheet.starts }

  when_plain : (b : Bool) (r : Reading) (w : ℕ) (step : Step) → when b (plain r w) ≡ Some step → (b ≡ true) × (step ≡ plain r w)
  when_plain true r w step e = (refl, cc)
  when_plain false r w step e = absurd (cc)

  pub opened : (first second : ℕ) (words : List ℕ) (out : Sheet) → scan catalog refer page (first ∷ second ∷ words) (reading_to 0 0) 0 ≡ Ok out
      → IsOpened first second words out
  opened first second words out e =
      let one = go_on-Ok 0 (when (is_page_head page first) (plain (first_reading page first) first)) (λ now. scan catalog refer page (second ∷ words) now 1) out e in
      let head = when_plain _ _ _ one.step one.is in
      let two = go_on-Ok 1 (when (second == 0) (plain one.step.reading second)) (λ now. scan catalog refer page words now 2) one.sheet one.more in
      let zero = when_plain _ _ _ two.step two.is in
      let reading : two.step.reading ≡ first_reading page first = ap (λ (s : Step). s.reading) zero.1 ∙ ap (λ (s : Step). s.reading) head.1 in
      record {
        head = head.0;
        zero = eqb-true second 0 zero.0;
        sheet = two.sheet;
        more = ap (λ (r : Reading). scan catalog refer page words r 2) (sym reading) ∙ two.more;
        whole =
            one.whole
            ∙ ap (λ (s : Sheet). record { words = one.step.word ∷ s.words; starts = one.step.begins ∷ s.starts }) two.whole
            ∙ ap (λ (s : Step). record { words = s.word ∷ two.step.word ∷ two.sheet.words; starts = s.begins ∷ two.step.begins ∷ two.sheet.starts }) head.1
            ∙ ap (λ (s : Step). record { words = first ∷ s.word ∷ two.sheet.words; starts = false ∷ s.begins ∷ two.sheet.starts }) zero.1;
      }

  pub closed : (first second : ℕ) (words : List ℕ) (sheet : Sheet) → is_page_head page first ≡ true → second ≡ 0
      → scan catalog refer page words (first_reading page first) 2 ≡ Ok sheet
      → scan catalog refer page (first ∷ second ∷ words) (reading_to 0 0) 0 ≡ Ok (record { words = first ∷ second ∷ sheet.words; starts = false ∷ false ∷ sheet.starts })
  closed first second words sheet head none more =
      ap (λ (b : Bool). go_on 0 (when b (plain (first_reading page first) first)) (λ now. scan catalog refer page (second ∷ words) now 1)) head
      ∙ ap (λ (b : Bool). put_first (plain (first_reading page first) first) (go_on 1 (when b (plain (first_reading page first) second)) (λ now. scan catalog refer page words now 2)))
      (eq-eqb second 0 none)
      ∙ ap (λ (r : Read). put_first (plain (first_reading page first) first) (put_first (plain (first_reading page first) second) r)) more

  -- where the first object of a page, or the root places, are ahead
  first_ahead : (first : ℕ) → is_page_head page first ≡ true → IsAhead (first_reading page first) 2
  first_ahead first head = elim (cases_eq page 2) [ inl two ↦ subst (λ (r : Reading). IsAhead r 2) (sym (roots two)) at_roots | inr apart ↦ at_objects apart ]
    where
      roots : page ≡ 2 → first_reading page first ≡ reading_to 18 18
      roots two = cond-true (page == 2) _ _ (eq-eqb page 2 two)

      at_roots : IsAhead (reading_to 18 18) 2
      at_roots = record { low = omega arith; next = omega arith; end = omega arith }

      at_objects : page ≢ 2 → IsAhead (first_reading page first) 2
      at_objects apart =
          let bounds = used page first apart head in
          let ahead : IsAhead (reading_to (used_in first) 2) 2 = record { low = omega arith; next = omega arith; end = omega (arith, bounds.more) } in
          subst (λ (r : Reading). IsAhead r 2) (sym (first_objects page first apart)) ahead

  first_end : (first : ℕ) → is_page_head page first ≡ true → (first_reading page first).end ≤ 512
  first_end first head = elim (cases_eq page 2) [
    | inl two ↦ subst (λ (r : Reading). r.end ≤ 512) (sym (cond-true (page == 2) (reading_to 18 18) (reading_to (used_in first) 2) (eq-eqb page 2 two))) (omega arith)
    | inr apart ↦ (let bounds = used page first apart head in subst (λ (r : Reading). r.end ≤ 512) (sym (first_objects page first apart)) bounds.most)
  ]

  -- what is known of a page that is no page of zeros
  pub record IsWhole (sheet : Sheet) : Type 0 where
    pub words : length sheet.words ≡ 512
    pub starts : length sheet.starts ≡ 512
    pub head : is_page_head page (get_or sheet.words 0 0) ≡ true
    pub second : get_or sheet.words 1 0 ≡ 0
    pub low : (s : ℕ) → is_start sheet s ≡ true → 2 ≤ s
    pub onward : Onward catalog (λ w. is_some (refer w)) (λ t. get_or sheet.words t 0) (is_start sheet) (first_reading page (get_or sheet.words 0 0)) 2

  behind_words : (first second : ℕ) (words : List ℕ) → AreWords (λ t. get_or (first ∷ second ∷ words) t 0) (λ t. false) 2 words
  behind_words first second words t = ap (λ (k : ℕ). get_or (first ∷ second ∷ words) k 0) same
    where
      same : suc (suc t) ≡ 2 + t
      same = omega arith

  behind_starts : (first second : Bool) (starts : List Bool) (t : ℕ) → get_or starts t false ≡ get_or (first ∷ second ∷ starts) (2 + t) false
  behind_starts first second starts t = ap (λ (k : ℕ). get_or (first ∷ second ∷ starts) k false) same
    where
      same : suc (suc t) ≡ 2 + t
      same = omega arith

  low_starts : (starts : List Bool) (s : ℕ) → get_or (false ∷ false ∷ starts) s false ≡ true → 2 ≤ s
  low_starts starts zero is = absurd (false≢true is)
  low_starts starts (suc zero) is = absurd (false≢true is)
  low_starts starts (suc (suc s)) is = omega arith

  -- read without a fault
  pub scan_whole : (words : List ℕ) (out : Sheet) → length words ≡ 512 → scan catalog refer page words (reading_to 0 0) 0 ≡ Ok out
      → IsWhole (record { words = words; starts = out.starts })
  scan_whole [] out all e = absurd (omega arith)
  scan_whole (first ∷ []) out all e = absurd (omega arith)
  scan_whole (first ∷ second ∷ words) out all e =
      subst (λ (starts : List Bool). IsWhole (record { words = first ∷ second ∷ words; starts = starts })) (ap (λ (s : Sheet). s.starts) (sym open_.whole)) (record {
        words = all;
        starts = omega (arith, (scan-length words (first_reading page first) 2 open_.sheet open_.more).1);
        head = open_.head;
        second = open_.zero;
        low = low_starts open_.sheet.starts;
        onward =
            scan_onward catalog refer page (λ t. get_or (first ∷ second ∷ words) t 0) (λ t. get_or (false ∷ false ∷ open_.sheet.starts) t false)
            words (first_reading page first) 2 open_.sheet (first_ahead first open_.head) (omega (arith, first_end first open_.head))
            (behind_words first second words) (behind_starts false false open_.sheet.starts) open_.more;
      })
    where
      open_ : IsOpened first second words out
      open_ = opened first second words out e

  -- a page with the form is read
  pub whole_scan : (words : List ℕ) (starts : List Bool) → IsWhole (record { words = words; starts = starts })
      → (out : List ℕ) × (scan catalog refer page words (reading_to 0 0) 0 ≡ Ok (record { words = out; starts = starts }))
  whole_scan [] starts whole = absurd (omega (arith, whole.words))
  whole_scan (first ∷ []) starts whole = absurd (omega (arith, whole.words))
  whole_scan (first ∷ second ∷ words) [] whole = absurd (omega (arith, whole.starts))
  whole_scan (first ∷ second ∷ words) (b ∷ []) whole = absurd (omega (arith, whole.starts))
  whole_scan (first ∷ second ∷ words) (b ∷ c ∷ starts) whole =
      let reads = onward_scan catalog refer page (λ t. get_or (first ∷ second ∷ words) t 0) (λ t. get_or (b ∷ c ∷ starts) t false)
      words starts (first_reading page first) 2 (first_ahead first whole.head) (omega (arith, whole.words, whole.starts))
      (behind_words first second words) (behind_starts b c starts) whole.onward in (
        first ∷ second ∷ reads.0,
        closed first second words (record { words = reads.0; starts = starts }) whole.head whole.second reads.1
            ∙ (λ i. Ok (record { words = first ∷ second ∷ reads.0; starts = sym none i ∷ sym nor i ∷ starts })),
      )
    where
      none : b ≡ false
      none = elim (cases_Bool b) [ inl is ↦ (let at = whole.low 0 is in absurd (omega arith)) | inr is ↦ is ]

      nor : c ≡ false
      nor = elim (cases_Bool c) [ inl is ↦ (let at = whole.low 1 is in absurd (omega arith)) | inr is ↦ is ]

  -- the form of a page that is read
  whole_form : (sheet : Sheet) → IsWhole sheet → HasForm catalog (λ w. is_some (refer w)) page sheet
  whole_form sheet whole = record {
    roots = λ two. roots_from catalog (λ w. is_some (refer w)) page sheet whole.words whole.starts (subst (λ (p : ℕ). is_page_head p (get_or sheet.words 0 0) ≡ true) two whole.head) whole.second whole.low
        (subst (λ (r : Reading). Onward catalog (λ w. is_some (refer w)) (λ t. get_or sheet.words t 0) (is_start sheet) r 2)
        (cond-true (page == 2) (reading_to 18 18) (reading_to (used_in (get_or sheet.words 0 0)) 2) (eq-eqb page 2 two)) whole.onward);
    objects = λ apart. inr (objects_from catalog (λ w. is_some (refer w)) page sheet apart whole.words whole.starts whole.head whole.second whole.low
        (subst (λ (r : Reading). Onward catalog (λ w. is_some (refer w)) (λ t. get_or sheet.words t 0) (is_start sheet) r 2)
        (first_objects page (get_or sheet.words 0 0) apart) whole.onward));
  }

  roots_whole : (sheet : Sheet) → page ≡ 2 → HasRoots (λ w. is_some (refer w)) sheet → IsWhole sheet
  roots_whole sheet two form = record {
    words = form.words;
    starts = form.starts;
    head = subst (λ (p : ℕ). is_page_head p (get_or sheet.words 0 0) ≡ true) (sym two) form.head;
    second = form.second;
    low = λ s is. absurd (false≢true (sym (form.empty s) ∙ is));
    onward =
        subst (λ (r : Reading). Onward catalog (λ w. is_some (refer w)) (λ t. get_or sheet.words t 0) (is_start sheet) r 2)
        (sym (cond-true (page == 2) (reading_to 18 18) (reading_to (used_in (get_or sheet.words 0 0)) 2) (eq-eqb page 2 two)))
        (roots_onward catalog (λ w. is_some (refer w)) page sheet form);
  }

  objects_whole : (sheet : Sheet) → page ≢ 2 → HasObjects catalog (λ w. is_some (refer w)) page sheet → IsWhole sheet
  objects_whole sheet apart form = record {
    words = form.laid.words;
    starts = form.laid.starts;
    head = form.head;
    second = form.second;
    low = λ s is. (form.laid.whole s is).0;
    onward =
        subst (λ (r : Reading). Onward catalog (λ w. is_some (refer w)) (λ t. get_or sheet.words t 0) (is_start sheet) r 2)
        (sym (first_objects page (get_or sheet.words 0 0) apart))
        (objects_onward catalog (λ w. is_some (refer w)) page sheet apart form);
  }

  -- the test for a page of zeros
  abbrev pub is_free : List ℕ → Bool
  is_free words = not (page == 2) && is_blank words

  not_free : (words : List ℕ) → is_page_head page (get_or words 0 0) ≡ true → is_free words ≡ false
  not_free [] head = absurd (head_not_zero page 0 head refl)
  not_free (first ∷ words) head = and_false (not (page == 2)) (and_left (first == 0) (list_all (λ v. v == 0) words) (ne_eqb first 0 (head_not_zero page first head)))
    where
      and_false : (b : Bool) {c : Bool} → c ≡ false → (b && c) ≡ false
      and_false true e = e
      and_false false e = refl

  pub pass_scan : (words : List ℕ) → is_free words ≡ false → pass catalog refer page words ≡ scan catalog refer page words (reading_to 0 0) 0
  pass_scan words free = cond-false (is_free words) _ _ free

  pub pass_blank : (words : List ℕ) → is_free words ≡ true → pass catalog refer page words ≡ Ok blank_sheet
  pass_blank words free = cond-true (is_free words) _ _ free

  -- a page of zeros
  pub free_pass : (words : List ℕ) (starts : List Bool) → page ≢ 2 → length words ≡ 512 → starts ≡ replicate 512 false → is_blank words ≡ true
      → pass catalog refer page words ≡ Ok (record { words = words; starts = starts })
  free_pass words starts apart all none blank =
      let free : is_free words ≡ true = ap (λ (b : Bool). not b && is_blank words) (ne_eqb page 2 apart) ∙ blank in
      let zeros : words ≡ replicate 512 0 = blank-replicate words blank ∙ ap (λ (n : ℕ). replicate n 0) all in
      pass_blank words free ∙ (λ i. Ok (record { words = sym zeros i; starts = sym none i }))

  -- what is read has the form
  pub pass_form : (words : List ℕ) (out : Sheet) → length words ≡ 512 → pass catalog refer page words ≡ Ok out
      → HasForm catalog (λ w. is_some (refer w)) page (record { words = words; starts = out.starts })
  pass_form words out all e = elim (cases_Bool (is_free words)) [ inl free ↦ zeros free | inr free ↦ whole_form _ (scan_whole words out all (sym (pass_scan words free) ∙ e)) ]
    where
      zeros : is_free words ≡ true → HasForm catalog (λ w. is_some (refer w)) page (record { words = words; starts = out.starts })
      zeros free =
          let parts = and_parts (not (page == 2)) (is_blank words) free in
          let same : out ≡ blank_sheet = cc (sym (pass_blank words free) ∙ e) in
          let zero : words ≡ replicate 512 0 = blank-replicate words parts.1 ∙ ap (λ (n : ℕ). replicate n 0) all in
          record {
            roots = λ two. absurd (false≢true (sym (not_from_true (page == 2) (eq-eqb page 2 two)) ∙ parts.0));
            objects = λ apart. inl (λ i. record { words = zero i; starts = (same i).starts });
          }

  -- what has the form is read
  pub form_pass : (sheet : Sheet) → HasForm catalog (λ w. is_some (refer w)) page sheet
      → (out : List ℕ) × (pass catalog refer page sheet.words ≡ Ok (record { words = out; starts = sheet.starts }))
  form_pass sheet form = elim (cases_eq page 2) [
    | inl two ↦ scanned (roots_whole sheet two (form.roots two))
    | inr apart ↦ elim (form.objects apart) [ inl blank ↦ zeros apart blank | inr objects ↦ scanned (objects_whole sheet apart objects) ]
  ]
    where
      scanned : IsWhole sheet → (out : List ℕ) × (pass catalog refer page sheet.words ≡ Ok (record { words = out; starts = sheet.starts }))
      scanned whole = let ran = whole_scan sheet.words sheet.starts whole in (ran.0, pass_scan sheet.words (not_free sheet.words whole.head) ∙ ran.1)

      zeros : page ≢ 2 → sheet ≡ blank_sheet → (out : List ℕ) × (pass catalog refer page sheet.words ≡ Ok (record { words = out; starts = sheet.starts }))
      zeros apart blank =
          let free : is_free sheet.words ≡ true =
          ap (λ (s : Sheet). is_free s.words) blank
          ∙ ap (λ (b : Bool). not b && is_blank (replicate 512 0)) (ne_eqb page 2 apart)
          ∙ replicate-blank 512 in
          (replicate 512 0, pass_blank sheet.words free ∙ ap (λ (s : Sheet). Ok (record { words = replicate 512 0; starts = s.starts })) (sym blank))

module _ (catalog : List Fields) (one other : ℕ → Option ℕ) (page : ℕ) where
  -- there and back
  pub pass_back : ((word made : ℕ) → one word ≡ Some made → other made ≡ Some word) → (words : List ℕ) (out : Sheet) → length words ≡ 512
      → pass catalog one page words ≡ Ok out → pass catalog other page out.words ≡ Ok (record { words = words; starts = out.starts })
  pass_back back words out all e = elim (cases_Bool (is_free catalog one page words)) [ inl free ↦ zeros free | inr free ↦ scanned free ]
    where
      zeros : is_free catalog one page words ≡ true → pass catalog other page out.words ≡ Ok (record { words = words; starts = out.starts })
      zeros free =
          let parts = and_parts (not (page == 2)) (is_blank words) free in
          let same : out ≡ blank_sheet = cc (sym (pass_blank catalog one page words free) ∙ e) in
          let zero : words ≡ replicate 512 0 = blank-replicate words parts.1 ∙ ap (λ (n : ℕ). replicate n 0) all in
          let again : is_free catalog other page out.words ≡ true =
          ap (λ (s : Sheet). not (page == 2) && is_blank s.words) same ∙ ap (λ (b : Bool). b && is_blank (replicate 512 0)) parts.0 ∙ replicate-blank 512 in
          pass_blank catalog other page out.words again ∙ (λ i. Ok (record { words = sym zero i; starts = (sym same i).starts }))

      scanned : is_free catalog one page words ≡ false → pass catalog other page out.words ≡ Ok (record { words = words; starts = out.starts })
      scanned free =
          let ran = sym (pass_scan catalog one page words free) ∙ e in
          let whole = scan_whole catalog one page words out all ran in
          let there = scan_back catalog one other page back words (reading_to 0 0) 0 out ran in
          pass_scan catalog other page out.words (not_free catalog other page out.words (first_kept words out ran whole.head)) ∙ there
        where
          first_kept : (words : List ℕ) (out : Sheet) → scan catalog one page words (reading_to 0 0) 0 ≡ Ok out
              → is_page_head page (get_or words 0 0) ≡ true → is_page_head page (get_or out.words 0 0) ≡ true
          first_kept [] out ran head = absurd (head_not_zero page 0 head refl)
          first_kept (first ∷ words) out ran head =
              let go = go_on-Ok 0 (when (is_page_head page first) (plain (first_reading page first) first)) (λ now. scan catalog one page words now 1) out ran in
              let step = when_plain catalog one page _ _ _ go.step go.is in
              ap (λ (s : Sheet). is_page_head page (get_or s.words 0 0)) go.whole ∙ ap (λ (s : Step). is_page_head page s.word) step.1 ∙ head

  -- what one direction reads, a wider one reads too
  pub pass_wider : ((word made : ℕ) → one word ≡ Some made → other word ≡ Some made) → (words : List ℕ) (out : Sheet)
      → pass catalog one page words ≡ Ok out → pass catalog other page words ≡ Ok out
  pass_wider wider words out e = elim (cases_Bool (is_free catalog one page words)) [
    | inl free ↦ pass_blank catalog other page words free ∙ sym (pass_blank catalog one page words free) ∙ e
    | inr free ↦ pass_scan catalog other page words free ∙ scan_wider catalog one other page wider words (reading_to 0 0) 0 out (sym (pass_scan catalog one page words free) ∙ e)
  ]
