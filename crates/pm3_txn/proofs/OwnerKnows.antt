-- What a view that has seen a history knows of new names, of pages that it knows not to be persistent, and of spaces.
use Rattle.std.proofs.Common.{◌≡◌, ◌<◌, ◌+◌, ◌==◌, ◌||◌, ◌∙◌, inl, inr, ℕ, Bool, true, false, nat_lt, cond, List, [], ◌∷◌, Option, Some, None, is_some, unwrap_or, refl, sym, ap, subst, arith}
use Rattle.std.proofs.lemmas.Bool.{lt-ltb, false≢true, cases_eq, ne_eqb, eq-eqb}
use Rattle.std.specs.Option.{option_or}
use Rattle.std.specs.Ordering.{nat_cmp}
use Rattle.std.specs.FinMap.{get, get-empty, empty, contains_key}
use Rattle.pm3_core.specs.declared.naming.TheConstants.{BASE}
use Rattle.pm3_types.specs.Fields.{Fields}
use Rattle.pm3_types.specs.Layout.{Sheet}
use Rattle.pm3_types.specs.Shown.{Images}
use Rattle.pm3_history.specs.Chronicled.{Chronicled}
use Rattle.pm3_history.specs.ChronicleLaws.{some_made}
use Rattle.pm3_history.specs.Entry.{Pass, Done, Entry}
use Rattle.pm3_history.specs.LastImages.{last_written}
use Rattle.pm3_history.specs.Lawful.{AreLawful, IsLawful}
use Rattle.pm3_history.specs.Opens.{Opens, LawfulFrom}
use Rattle.pm3_history.specs.Spaces.{AreOfSpace, NamesSpace}
use Rattle.pm3_history.specs.State.{State, step, entry_after, now}
use Rattle.pm3_history.proofs.Chronicles.{entry_keeps, openings_are_chronicled}
use Rattle.pm3_history.proofs.Laying.{none_if, off_cases, some_none}
use Rattle.pm3_history.proofs.Names.{names_are_made}
use Rattle.pm3_history.proofs.Spacing.{spaces_stand, spaces_are_left}
use Rattle.pm3_history.proofs.Sparing.{persistent_are_written}
use Rattle.pm3_table.specs.declared.view.Told.{Told}
use Rattle.pm3_table.specs.Entries.{makes, writes, is_space_of}
use Rattle.pm3_table.specs.Histories.{some_has}
use Rattle.pm3_table.specs.Holds.{is_in}
use Rattle.pm3_table.specs.Telling.{Lawful, names}
use Rattle.pm3_table.specs.Words.{space_unit, turn_unit}
use Rattle.pm3_txn.specs.OwnerLaws.{NewNamesAreNew, OthersAreBare, SpacesAreLast, UnnamedHaveNone}
use Rattle.pm3_txn.specs.Values.{after_pass, space_left}

same_made : (h : List Done) (n : ℕ) → some_made h n ≡ some_has makes h n
same_made [] n = refl
same_made (e ∷ es) n = ap (λ (b : Bool). makes e n || b) (same_made es n)

-- what the files opened to is the state of an opening, whose chronicle the history goes on
lawful_here : (told : Told) (h : List Done) (st : State) → Lawful told h → Opens BASE told.pages told.opening st → AreLawful told.opening.catalog BASE told.pages st h
unfolding LawfulFrom
lawful_here told h st lawful opens = lawful st opens

pub new_names_are_new : NewNamesAreNew
new_names_are_new told v n st below lawful from unmade opens =
    names_are_made told.opening.catalog BASE told.pages st v.seen n (openings_are_chronicled BASE told.pages told.opening st opens) (lawful_here told v.seen st lawful opens)
    (none_if (get st.graph.records n) (λ r has. let low = below.names st opens n r has in omega (arith, low, from)))
    (same_made v.seen n ∙ unmade)

or_none : (a b c : Bool) → (a || (b || c)) ≡ false → (a ≡ false) × (c ≡ false)
or_none true b c is = absurd (false≢true (sym is))
or_none false true c is = absurd (false≢true (sym is))
or_none false false c is = (refl, is)

none_of : (o : Option Sheet) → is_some o ≡ false → o ≡ None
none_of None is = refl
none_of (Some x) is = absurd (false≢true (sym is))

neither : (b c : Bool) → (b || c) ≡ false → (b ≡ false) × (c ≡ false)
neither true c is = absurd (false≢true (sym is))
neither false c is = (refl, is)

pub unwritten_by : (h : List Done) (p : ℕ) → some_has writes h p ≡ false → last_written h p ≡ None
unwritten_by [] p none = refl
unwritten_by (e ∷ es) p none =
    let parts = neither (contains_key e.written p) (some_has writes es p) none in
    ap (λ (o : Option Sheet). option_or o (get e.written p)) (unwritten_by es p parts.1) ∙ none_of (get e.written p) parts.0

pub others_are_bare : OthersAreBare
others_are_bare told v p a n st below lawful loose opens has at =
    let parts = or_none (nat_lt p told.frontier) (is_in p v.steady) (some_has writes v.seen p) loose in
    let was = persistent_are_written told.opening.catalog BASE told.pages st v.seen a n (openings_are_chronicled BASE told.pages told.opening st opens) (lawful_here told v.seen st lawful opens)
    (ap (last_written v.seen) at ∙ unwritten_by v.seen p parts.1) has in
    let low : p < told.frontier = subst (λ (q : ℕ). q < told.frontier) at (below.pages st opens a n (off_cases BASE st.book st.owner a n was).1) in
    false≢true (sym parts.0 ∙ lt-ltb p told.frontier low)

-- the last images of a space, from those that it had
step_space : (catalog : List Fields) (pages : ℕ) (st : State) (d : Done) (number : ℕ) (own : Images) → Chronicled catalog BASE st → IsLawful catalog BASE pages st (entry_after catalog BASE st d)
    → AreOfSpace st number own → AreOfSpace (step BASE st (entry_after catalog BASE st d)) number (unwrap_or (after_pass d.pass number) own)
step_space catalog pages st d number own chron lawful of = by d.pass refl
  where
    next : State
    next = step BASE st (entry_after catalog BASE st d)

    by : (pass : Option Pass) → d.pass ≡ pass → AreOfSpace next number (unwrap_or (after_pass pass number) own)
    by None none = spaces_stand catalog BASE pages st (entry_after catalog BASE st d) number own chron lawful (λ names. subst (λ (o : Option Pass). NamesSpace o number) none names) of
    by (Some p) is = elim (cases_eq p.space number) [
      | inl e ↦ subst (λ (b : Bool). AreOfSpace next number (unwrap_or (cond b (Some p.after) None) own)) (sym (eq-eqb p.space number e))
          (subst (λ (k : ℕ). AreOfSpace next k p.after) e (spaces_are_left catalog BASE pages st (entry_after catalog BASE st d) p chron lawful is))
      | inr ne ↦ subst (λ (b : Bool). AreOfSpace next number (unwrap_or (cond b (Some p.after) None) own)) (sym (ne_eqb p.space number ne))
          (spaces_stand catalog BASE pages st (entry_after catalog BASE st d) number own chron lawful (λ names. ne (subst (λ (o : Option Pass). NamesSpace o number) is names)) of)
    ]

after_both : (later first : Option Images) (own : Images) → unwrap_or later (unwrap_or first own) ≡ unwrap_or (option_or later first) own
after_both None first own = refl
after_both (Some x) first own = refl

history_space : (catalog : List Fields) (pages : ℕ) (st : State) (h : List Done) (number : ℕ) (own : Images) → Chronicled catalog BASE st → AreLawful catalog BASE pages st h
    → AreOfSpace st number own → AreOfSpace (now catalog BASE st h) number (unwrap_or (space_left h number) own)
history_space catalog pages st [] number own chron are of = of
history_space catalog pages st (d ∷ ds) number own chron are of =
    let e : Entry = entry_after catalog BASE st d in
    subst (AreOfSpace (now catalog BASE (step BASE st e) ds) number) (after_both (space_left ds number) (after_pass d.pass number) own)
    (history_space catalog pages (step BASE st e) ds number (unwrap_or (after_pass d.pass number) own) (entry_keeps catalog BASE pages st e chron are.0) are.1
    (step_space catalog pages st d number own chron are.0 of))

-- no space has images at an opening
opening_space : (told : Told) (st : State) (number : ℕ) → Opens BASE told.pages told.opening st → AreOfSpace st number empty
opening_space told st number opens = subst (λ (s : State). AreOfSpace s number empty) (sym opens.state)
    (λ q sheet. ((λ both. absurd (some_none (get empty q) number both.0 (get-empty nat_cmp q))), λ on. absurd (some_none (get empty q) sheet on (get-empty nat_cmp q))))

pub spaces_are_last : SpacesAreLast
spaces_are_last told h u space st lawful is opens =
    subst (AreOfSpace (now told.opening.catalog BASE st h) space.number) (sym is.last)
    (history_space told.opening.catalog told.pages st h space.number empty (openings_are_chronicled BASE told.pages told.opening st opens) (lawful_here told h st lawful opens) (opening_space told st space.number opens))

not_of : (pages number : ℕ) (pass : Option Pass) → is_space_of (turn_unit pages) (space_unit pages number) pass ≡ false → NamesSpace pass number → ⊥
not_of pages number None is names = names
not_of pages number (Some p) is names = false≢true (sym is ∙ eq-eqb (space_unit pages number + 32) (turn_unit pages + p.space) (omega (arith, names)))

pub unnamed_have_none : UnnamedHaveNone
unnamed_have_none told [] number none = tt
unnamed_have_none told (e ∷ es) number none =
    let parts = neither (names told e (space_unit told.pages number)) (some_has (names told) es (space_unit told.pages number)) none in
    let first = neither (space_unit told.pages number == turn_unit told.pages) (contains_key e.written (space_unit told.pages number) || is_space_of (turn_unit told.pages) (space_unit told.pages number) e.pass) parts.0 in
    let second = neither (contains_key e.written (space_unit told.pages number)) (is_space_of (turn_unit told.pages) (space_unit told.pages number) e.pass) first.1 in
    (not_of told.pages number e.pass second.1, unnamed_have_none told es number parts.1)
