-- What stands in the spaces after commits of others.
use Rattle.std.proofs.Common.{◌≡◌, ◌∙◌, ◌⊎◌, ◌↔◌, inl, inr, cond, ℕ, true, List, [], ◌∷◌, Option, Some, None, is_some, refl, sym, ap, subst}
use Rattle.std.specs.FinMap.{get, contains_key}
use Rattle.pm3_types.specs.Fields.{Fields}
use Rattle.pm3_types.specs.Graph.{Part}
use Rattle.pm3_types.specs.Layout.{Sheet, page_in}
use Rattle.pm3_types.specs.Shown.{Images}
use Rattle.pm3_history.specs.Chronicled.{Chronicled}
use Rattle.pm3_history.specs.Entry.{Pass, Entry}
use Rattle.pm3_history.specs.Laid.{laid, without}
use Rattle.pm3_history.specs.Lawful.{MeetsPass, IsFree, TakesPages, Stays, Moved, Dead, Fate}
use Rattle.pm3_history.specs.Named.{book_of, next_book}
use Rattle.pm3_history.specs.Spaces.{AreOfSpace, NamesSpace, SpacesStand, SpacesAreLeft, Spares, KnownStay}
use Rattle.pm3_history.specs.State.{State, step, entry_after, next_owner, next_volatile, owned_by}
use Rattle.pm3_history.proofs.Chronicles.{entry_keeps}
use Rattle.pm3_history.proofs.Laying.{some_none, one_value, laid_above, laid_below, without_keeps, without_cases, there_none}
use Rattle.pm3_history.proofs.OwnedBy.{get-owned_by, owned_by_none}
use Rattle.pm3_history.proofs.Passing.{still_booked}

module _ (base : ℕ) (st : State) (e : Entry) (p : Pass) (takes : TakesPages base st e p) where
  abbrev owner_now : ℕ → Option ℕ
  owner_now q = get (next_owner st.owner (Some p)) q

  abbrev volatile_now : ℕ → Option Sheet
  volatile_now q = get (next_volatile st.volatile (Some p)) q

  -- a page that the pass leaves to its space
  pub left_owner : (q : ℕ) (sheet : Sheet) → get p.after q ≡ Some sheet → owner_now q ≡ Some p.space
  left_owner q sheet on =
      laid_above (without st.owner p.before) (owned_by p.space p.after) q p.space
      (get-owned_by p.space p.after q ∙ ap (λ (o : Option Sheet). cond (is_some o) (Some p.space) None) on)

  pub left_image : (q : ℕ) (sheet : Sheet) → get p.after q ≡ Some sheet → volatile_now q ≡ Some sheet
  left_image q sheet on = laid_above (without st.volatile p.before) p.after q sheet on

  pub other_owner : (q : ℕ) → get p.after q ≡ None → owner_now q ≡ get (without st.owner p.before) q
  other_owner q none = laid_below (without st.owner p.before) (owned_by p.space p.after) q (owned_by_none p.space p.after q none)

  pub other_image : (q : ℕ) → get p.after q ≡ None → volatile_now q ≡ get (without st.volatile p.before) q
  other_image q none = laid_below (without st.volatile p.before) p.after q none

  -- a page that the pass had belonged to no other space
  pub of_pass : (q space : ℕ) → get st.owner q ≡ Some space → contains_key p.before q ≡ true → p.space ≡ space
  of_pass q space mine there = which (takes.before q there)
    where
      which : (get st.owner q ≡ Some p.space) ⊎ IsFree base st q → p.space ≡ space
      which (inl its) = one_value (get st.owner q) p.space space its mine
      which (inr free) = absurd (some_none (get st.owner q) space mine free.unowned)

  -- nor does one that it leaves to its space
  pub of_left : (q space : ℕ) → get st.owner q ≡ Some space → contains_key p.after q ≡ true → p.space ≡ space
  of_left q space mine there = which (takes.after q there)
    where
      which : (contains_key p.before q ≡ true) ⊎ IsFree base st q → p.space ≡ space
      which (inl before) = of_pass q space mine before
      which (inr free) = absurd (some_none (get st.owner q) space mine free.unowned)

  are_left : (q : ℕ) (sheet : Sheet) → ((owner_now q ≡ Some p.space) × (volatile_now q ≡ Some sheet)) ↔ (get p.after q ≡ Some sheet)
  are_left q sheet = (λ both. there both (get p.after q) refl, λ on. (left_owner q sheet on, left_image q sheet on))
    where
      there : (owner_now q ≡ Some p.space) × (volatile_now q ≡ Some sheet) → (o : Option Sheet) → get p.after q ≡ o → get p.after q ≡ Some sheet
      there both (Some other) on = on ∙ ap Some (one_value (volatile_now q) other sheet (left_image q other on) both.1)
      there both None none =
          let old = without_cases st.owner p.before q p.space (sym (other_owner q none) ∙ both.0) in
          absurd (there_none (get p.before q) (takes.space q old.1) old.0)

  module _ (space : ℕ) (images : Images) (other : p.space ≡ space → ⊥) (of : AreOfSpace st space images) where
    there : (q : ℕ) (sheet : Sheet) → (owner_now q ≡ Some space) × (volatile_now q ≡ Some sheet) → (o : Option Sheet) → get p.after q ≡ o → get images q ≡ Some sheet
    there q sheet both (Some x) on = absurd (other (one_value (owner_now q) p.space space (left_owner q x on) both.0))
    there q sheet both None none =
        (of q sheet).0
        ((without_cases st.owner p.before q space (sym (other_owner q none) ∙ both.0)).1, (without_cases st.volatile p.before q sheet (sym (other_image q none) ∙ both.1)).1)

    back : (q : ℕ) (sheet : Sheet) → get images q ≡ Some sheet → (o b : Option Sheet) → get p.after q ≡ o → get p.before q ≡ b
        → (owner_now q ≡ Some space) × (volatile_now q ≡ Some sheet)
    back q sheet is (Some x) b on before = absurd (other (of_left q space ((of q sheet).1 is).0 (ap is_some on)))
    back q sheet is None (Some x) none before = absurd (other (of_pass q space ((of q sheet).1 is).0 (ap is_some before)))
    back q sheet is None None none off =
        let old = (of q sheet).1 is in
        (other_owner q none ∙ without_keeps st.owner p.before q off ∙ old.0, other_image q none ∙ without_keeps st.volatile p.before q off ∙ old.1)

    stand : (q : ℕ) (sheet : Sheet) → ((owner_now q ≡ Some space) × (volatile_now q ≡ Some sheet)) ↔ (get images q ≡ Some sheet)
    stand q sheet = (λ both. there q sheet both (get p.after q) refl, λ is. back q sheet is (get p.after q) (get p.before q) refl refl)

-- the two laws and the one on known objects, of an entry by its fields
module _ (catalog : List Fields) (base pages : ℕ) (st : State) (found left : Part) (tag mutator next_name high_page : ℕ) (written : Images) where
  abbrev entry : Option Pass → Entry
  entry pass = record { tag = tag; mutator = mutator; next_name = next_name; high_page = high_page; found = found; left = left; written = written; pass = pass }

  stand_by : (pass : Option Pass) → MeetsPass catalog base pages st (entry pass) pass → (space : ℕ) (images : Images) → (NamesSpace pass space → ⊥)
      → AreOfSpace st space images → AreOfSpace (step base st (entry pass)) space images
  stand_by None meets space images other of = of
  stand_by (Some p) meets space images other of = stand base st (entry (Some p)) p meets.takes space images other of

  left_by : (pass : Option Pass) (p : Pass) → MeetsPass catalog base pages st (entry pass) pass → pass ≡ Some p → AreOfSpace (step base st (entry pass)) p.space p.after
  left_by None p meets is = absurd (some_none None p is refl)
  left_by (Some q) p meets is =
      let same : q ≡ p = one_value (Some q) q p refl is in
      let P : Pass → Type 0 = λ x. AreOfSpace (step base st (entry (Some q))) x.space x.after in
      subst P same (are_left base st (entry (Some q)) q meets.takes)

  known_by : (pass : Option Pass) → Chronicled catalog base st → MeetsPass catalog base pages st (entry pass) pass → (a n : ℕ) → Spares base st (entry pass) (page_in base a) pass
      → get st.book a ≡ Some n → get (step base st (entry pass)).book a ≡ Some n
  known_by None chron meets a n spares has = has
  known_by (Some p) chron meets a n spares has = by (get p.before (page_in base a)) refl
    where
      named : get (laid (book_of base p.before) st.book) a ≡ Some n
      named = laid_above (book_of base p.before) st.book a n has

      of_fate : Fate base p (next_book base st.book written (Some p)) a n → get (next_book base st.book written (Some p)) a ≡ Some n
      of_fate (Stays pinned is) = is
      of_fate (Moved to is there) = absurd ((spares a n refl named).0 to is)
      of_fate (Dead nowhere) = absurd ((spares a n refl named).1 nowhere)

      by : (o : Option Sheet) → get p.before (page_in base a) ≡ o → get (next_book base st.book written (Some p)) a ≡ Some n
      by None none = still_booked catalog base st (entry (Some p)) p chron meets.takes a n has none
      by (Some sheet) on = of_fate (meets.fate a n named (ap is_some on))

pub spaces_stand : SpacesStand
spaces_stand catalog base pages st e space images chron lawful other of =
    stand_by catalog base pages st e.found e.left e.tag e.mutator e.next_name e.high_page e.written e.pass lawful.by_pass space images other of

pub spaces_are_left : SpacesAreLeft
spaces_are_left catalog base pages st e p chron lawful is =
    left_by catalog base pages st e.found e.left e.tag e.mutator e.next_name e.high_page e.written e.pass p lawful.by_pass is

pub known_stay : KnownStay
known_stay catalog base pages st [] a n chron are spares has = has
known_stay catalog base pages st (d ∷ ds) a n chron are spares has =
    let e : Entry = entry_after catalog base st d in
    known_stay catalog base pages (step base st e) ds a n (entry_keeps catalog base pages st e chron are.0) are.1 spares.1
    (known_by catalog base pages st e.found e.left e.tag e.mutator e.next_name e.high_page e.written e.pass chron are.0.by_pass a n spares.0 has)
