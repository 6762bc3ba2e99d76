-- What is left of a mutator whose transaction was aborted.
use Rattle.std.specs.Prelude.{ℕ, ◌≡◌, ◌⊎◌, ◌||◌, Bool, true, false, if◌then◌else◌, Option, Some, None, is_some, slice_index_or}
use Rattle.std.specs.FinMap as map
use Rattle.pm3_types.specs.Layout.{PageImage}
use Rattle.pm3_page.specs.PageMap.{Images}
use Rattle.pm3_access.specs.Holding.{SpaceState}
use Rattle.pm3_table.specs.declared.view.Told.{Told}
use Rattle.pm3_table.specs.declared.view.View.{View}
use Rattle.pm3_table.specs.Deeds.{word_of, stands_of, marks_of}
use Rattle.pm3_table.specs.Holds.{holds_of, spans_of, is_in}
use Rattle.pm3_table.specs.Passes.{Becomes}
use Rattle.pm3_table.specs.Words.{space_unit}
use Rattle.pm3_txn.specs.Knowing.{KnowsWord}
use Rattle.pm3_txn.specs.Slots.{pages_of}
use Rattle.pm3_txn.specs.States.{MutatorState}
use Rattle.pm3_txn.specs.Takes.{with_view}
use Rattle.pm3_txn.specs.Values.{IsPageOf, IsSpaceOf}

-- the place was written since the transaction began
abbrev pub was_written : {R : Type 0} → MutatorState R → ℕ → Bool
was_written m q = slice_index_or m.wrote q false

-- These places hold 0 as nil references, and each other place is as it was. The mutator gave some units back; nothing else changed.
pub record HasCleared {R : Type 0} (old new : MutatorState R) (cleared : ℕ → Bool) : Type 0 where
  pub words : (q : ℕ) → word_of new.pass.1.log q ≡ (if cleared q then 0 else word_of old.pass.1.log q)
  pub refs : (q : ℕ) → slice_index_or new.refs q false ≡ (cleared q || slice_index_or old.refs q false)
  pub stands : (q : ℕ) → cleared q ≡ false → stands_of new.pass.1.log q ≡ stands_of old.pass.1.log q
  pub marks : (p : ℕ) → marks_of new.pass.1.log p ≡ marks_of old.pass.1.log p
  pub space : new.space ≡ old.space
  pub reader : new.reader ≡ old.reader
  pub next_name : new.next_name ≡ old.next_name
  pub view : Becomes old.pass new.pass (record old.pass.1 { log = new.pass.1.log; holds = new.pass.1.holds })

-- the mutator gave units back, and nothing else changed
abbrev pub HasOnlyGiven : {R : Type 0} → MutatorState R → MutatorState R → Type 0
HasOnlyGiven old new = new ≡ with_view old (record old.pass.1 { holds = new.pass.1.holds })

-- a view holds the pages of these images, and each has its last image here
abbrev pub AreOwed : Told → View → Images → Type 0
AreOwed told v images = (q : ℕ) (image : PageImage) → map.get images q ≡ Some image → (holds_of v.holds q ≡ true) × IsPageOf told v.seen q image

-- it holds the unit of the space, whose value is the last one here, with the pages that the view says; or there is no space
abbrev pub IsSpaceOwed : Told → View → ℕ → Option SpaceState → Type 0
IsSpaceOwed told v number None = Unit {0}
IsSpaceOwed told v number (Some s) = (holds_of v.holds (space_unit told.pages number) ≡ true) × IsSpaceOf told v.seen (space_unit told.pages number) s
    × ((p : ℕ) → is_in p (pages_of s) ≡ spans_of v.spans (space_unit told.pages number) p)

-- it holds nothing else
abbrev pub AreAll : Told → View → ℕ → Images → Option SpaceState → Type 0
AreAll told v number images space = (u : ℕ) → holds_of v.holds u ≡ true → (is_some (map.get images u) ≡ true) ⊎ ((is_some space ≡ true) × (u ≡ space_unit told.pages number))

-- each place of the row that is tagged as a reference and was not written holds nil or a persistent object
abbrev pub RemembersUnwritten : {R : Type 0} → Told → MutatorState R → Type 0
RemembersUnwritten told m = (q : ℕ) → slice_index_or m.refs q false ≡ true → was_written m q ≡ false → KnowsWord told m.pass.1 (word_of m.pass.1.log q)

-- the same of pages of two kinds
abbrev pub AreAllOf : Told → View → ℕ → Images → Images → Option SpaceState → Type 0
AreAllOf told v number images written space = (u : ℕ) → holds_of v.holds u ≡ true
    → (is_some (map.get images u) ≡ true) ⊎ ((is_some (map.get written u) ≡ true) ⊎ ((is_some space ≡ true) × (u ≡ space_unit told.pages number)))
