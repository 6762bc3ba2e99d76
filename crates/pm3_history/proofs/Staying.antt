-- Persistent objects stay where they are.
use Rattle.std.proofs.Common.{◌≡◌, ◌∙◌, ◌⊎◌, inl, inr, ℕ, List, [], ◌∷◌, Option, Some, None, is_some, ap}
use Rattle.std.specs.FinMap.{get}
use Rattle.pm3_types.specs.Fields.{Fields}
use Rattle.pm3_types.specs.Graph.{Part}
use Rattle.pm3_types.specs.Layout.{page_in}
use Rattle.pm3_types.specs.Shown.{Images}
use Rattle.pm3_history.specs.ChronicleLaws.{PersistentStay}
use Rattle.pm3_history.specs.Chronicled.{Chronicled}
use Rattle.pm3_history.specs.Entry.{Pass, Entry}
use Rattle.pm3_history.specs.Lawful.{MeetsPass, IsFree, IsPass}
use Rattle.pm3_history.specs.Named.{next_book}
use Rattle.pm3_history.specs.Persistent.{persistent_book}
use Rattle.pm3_history.specs.State.{State, step, entry_after, next_owner}
use Rattle.pm3_history.proofs.Chronicles.{entry_keeps}
use Rattle.pm3_history.proofs.Laying.{some_none, off_cases, off_keeps, none_if}
use Rattle.pm3_history.proofs.Passing.{still_booked, after_off, owner_same, free_empty}

module _ (catalog : List Fields) (base pages : ℕ) (st : State) (e : Entry) (p : Pass) (chron : Chronicled catalog base st) (pass : IsPass catalog base pages st e p) where
  -- the page of a persistent object isn't one that the pass had
  off_pass : (a n : ℕ) → get st.owner (page_in base a) ≡ None → get st.book a ≡ Some n → get p.before (page_in base a) ≡ None
  off_pass a n free has = none_if (get p.before (page_in base a)) (λ sheet on. which (pass.takes.before (page_in base a) (ap is_some on)))
    where
      which : (get st.owner (page_in base a) ≡ Some p.space) ⊎ IsFree base st (page_in base a) → ⊥
      which (inl mine) = some_none (get st.owner (page_in base a)) p.space mine free
      which (inr drawn) = free_empty catalog base st e p chron pass.takes a n has drawn

  stays : (a n : ℕ) → get (persistent_book base st) a ≡ Some n
      → (get (next_book base st.book e.written (Some p)) a ≡ Some n) × (get (next_owner st.owner (Some p)) (page_in base a) ≡ None)
  stays a n has =
      let old = off_cases base st.book st.owner a n has in
      let off = off_pass a n old.0 old.1 in (
        still_booked catalog base st e p chron pass.takes a n old.1 off,
        owner_same catalog base st e p chron pass.takes (page_in base a) off (after_off catalog base st e p chron pass.takes a n old.1 off) ∙ old.0,
      )

pub stays_by : (catalog : List Fields) (base pages : ℕ) (st : State) (found left : Part) (tag mutator next_name high_page : ℕ) (written : Images) (pass : Option Pass)
    → let e : Entry = record { tag = tag; mutator = mutator; next_name = next_name; high_page = high_page; found = found; left = left; written = written; pass = pass } in
    Chronicled catalog base st → MeetsPass catalog base pages st e pass
    → (a n : ℕ) → get (persistent_book base st) a ≡ Some n → get (persistent_book base (step base st e)) a ≡ Some n
stays_by catalog base pages st found left tag mutator next_name high_page written None chron meets a n has = has
stays_by catalog base pages st found left tag mutator next_name high_page written (Some p) chron meets a n has =
    let e : Entry = record { tag = tag; mutator = mutator; next_name = next_name; high_page = high_page; found = found; left = left; written = written; pass = Some p } in
    let now = stays catalog base pages st e p chron meets a n has in
    off_keeps base (step base st e).book (step base st e).owner a now.1 ∙ now.0

pub persistent_stay : PersistentStay
persistent_stay catalog base pages st [] a n chron are has = has
persistent_stay catalog base pages st (d ∷ ds) a n chron are has =
    let e : Entry = entry_after catalog base st d in
    persistent_stay catalog base pages (step base st e) ds a n (entry_keeps catalog base pages st e chron are.0) are.1
    (stays_by catalog base pages st e.found e.left e.tag e.mutator e.next_name e.high_page e.written e.pass chron are.0.by_pass a n has)
