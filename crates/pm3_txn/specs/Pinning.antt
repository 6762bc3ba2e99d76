-- Which pages of a space the words of all rows pin.
use Rattle.std.specs.Prelude.{ℕ, ◌≡◌, ◌↔◌, ◌<◌, Bool, true, false, List, length, Some, slice_index}
use Rattle.std.specs.List.{Contains}
use Rattle.std.specs.FinMap.{contains_key}
use Rattle.std.specs.FinSet as set
use Rattle.std.specs.Ordering.{nat_cmp}
use Rattle.pm3_core.specs.declared.events.TheConstants.{PLACES}
use Rattle.pm3_core.specs.Naming.{Names}
use Rattle.pm3_page.specs.PageMap.{Images}
use Rattle.pm3_table.specs.declared.view.Deed.{Deed}
use Rattle.pm3_table.specs.declared.view.Told.{Told}
use Rattle.pm3_table.specs.declared.view.View.{View}
use Rattle.pm3_table.specs.Deeds.{IsClearedIn, marks_of, stands_of, word_of}
use Rattle.pm3_table.specs.Reads.{marked_then, read_of}
use Rattle.pm3_table.specs.Telling.{HasInSpace}
use Rattle.pm3_txn.specs.States.{MutatorState}
use Rattle.pm3_txn.specs.Takes.{with_view}

-- the pages of these images are pages of the table, in this space, which the view holds
abbrev pub AreOwnPages : Told → View → ℕ → Images → Type 0
AreOwnPages told v space images = (p : ℕ) → contains_key images p ≡ true → (p < told.pages) × HasInSpace told v space p

-- Nothing of the mutator is another but its log, and the words of its row are as they were.
pub record HasOnlyLogged {R : Type 0} (old new : MutatorState R) : Type 0 where
  pub rest : new ≡ with_view old (record old.pass.1 { log = new.pass.1.log })
  pub words : (q : ℕ) → word_of new.pass.1.log q ≡ word_of old.pass.1.log q
  pub stands : (q : ℕ) → stands_of new.pass.1.log q ≡ stands_of old.pass.1.log q

-- It marks just the pages that pass the test.
pub record HasMarked {R : Type 0} (old new : MutatorState R) (has : ℕ → Bool) : Type 0 where
  pub only : HasOnlyLogged old new
  pub marks : (p : ℕ) → marks_of new.pass.1.log p ≡ has p

-- the pinned pages are those that pass the test and that a word names
abbrev pub ArePinned : ℕ → (ℕ → Bool) → List ℕ → set.FinSet nat_cmp → Type 0
ArePinned pages has words pinned =
    (p : ℕ) → (set.contains pinned p ≡ true) ↔ ((has p ≡ true) × ((w : ℕ) × Contains words w × Names pages w p))

-- The pages that pass the test were marked, and then these words were read, one in each place of all rows. They pin some of the pages,
-- and each other is cleared.
pub record HasScanned (pages : ℕ) (log : List Deed) (has : ℕ → Bool) (words : List ℕ) (pins : set.FinSet nat_cmp) : Type 0 where
  pub wide : length words ≡ PLACES
  pub read : (n : ℕ) → n < PLACES → read_of log n ≡ Some (slice_index words n)
  pub marks : (p : ℕ) → marks_of log p ≡ has p
  pub marked : (p : ℕ) → marked_then log p ≡ has p
  pub pinned : ArePinned pages has words pins
  pub cleared : (p : ℕ) → has p ≡ true → set.contains pins p ≡ false → IsClearedIn pages log p

-- the mutator did so, and nothing else
pub record HasPinned {R : Type 0} (pages : ℕ) (old new : MutatorState R) (has : ℕ → Bool) (words : List ℕ) (pins : set.FinSet nat_cmp) : Type 0 where
  pub only : HasOnlyLogged old new
  pub scan : HasScanned pages new.pass.1.log has words pins
