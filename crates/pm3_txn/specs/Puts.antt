-- What the calls on the row make of a mutator.
use Rattle.std.specs.Prelude.{ℕ, ◌≡◌, ◌≢◌, ◌⊎◌, Bool, true, ◌∷◌, slice_set}
use Rattle.pm3_core.specs.Machine.{put}
use Rattle.pm3_core.specs.Naming.{Names}
use Rattle.pm3_table.specs.declared.unit.Busy.{Busy}
use Rattle.pm3_table.specs.declared.unit.Unit.TheVariants.{Page}
use Rattle.pm3_table.specs.declared.view.Deed.TheVariants.{Stored, Found}
use Rattle.pm3_table.specs.Deeds.{word_of, stands_of, marks_of}
use Rattle.pm3_table.specs.Ops.{did}
use Rattle.pm3_table.specs.Passes.{Becomes}
use Rattle.pm3_table.specs.Words.{mark_in}
use Rattle.pm3_txn.specs.States.{MutatorState}

-- The place has the word, under this tag, and was written. The other places stand as they stood; of the view nothing changed
-- but what was done and refused.
pub record HasPut {R : Type 0} (old new : MutatorState R) (place word : ℕ) (is_ref : Bool) : Type 0 where
  pub words : (q : ℕ) → word_of new.pass.1.log q ≡ put (word_of old.pass.1.log) place word q
  pub stands : (q : ℕ) → q ≢ place → stands_of new.pass.1.log q ≡ stands_of old.pass.1.log q
  pub marks : (p : ℕ) → marks_of new.pass.1.log p ≡ marks_of old.pass.1.log p
  pub refs : new.refs ≡ slice_set old.refs place is_ref
  pub wrote : new.wrote ≡ slice_set old.wrote place true
  pub space : new.space ≡ old.space
  pub reader : new.reader ≡ old.reader
  pub next_name : new.next_name ≡ old.next_name
  pub view : Becomes old.pass new.pass (record old.pass.1 { log = new.pass.1.log; refusals = new.pass.1.refusals })

-- the place stands, or names no page
abbrev pub IsPinned : {R : Type 0} → ℕ → MutatorState R → ℕ → Type 0
IsPinned pages m place =
    (stands_of m.pass.1.log place ≡ true) ⊎ ((page : ℕ) → Names pages (word_of m.pass.1.log place) page → ⊥)

-- The page that the word names was refused, for a mark; that is one refusal more.
pub record IsMarked {R : Type 0} (pages word : ℕ) (old new : MutatorState R) (busy : Busy) : Type 0 where
  pub page : ℕ
  pub named : Names pages word page
  pub unit : busy.unit ≡ Page page
  pub mark : mark_in busy.word ≢ 0
  pub refused : new.pass.1.refusals ≡ record { unit = page; word = busy.word } ∷ old.pass.1.refusals

-- the mutator once it has stored a word at a place, which it notes
abbrev pub stored : {R : Type 0} → MutatorState R → ℕ → ℕ → MutatorState R
stored m place word = record m { pass = (m.pass.0, did m.pass.1 (Stored place word)); wrote = slice_set m.wrote place true }

-- and once it has read one at a place of its own row
abbrev pub read_own : {R : Type 0} → MutatorState R → ℕ → MutatorState R
read_own m place = record m { pass = (m.pass.0, did m.pass.1 (Found m.pass.1.row place (word_of m.pass.1.log place))) }
