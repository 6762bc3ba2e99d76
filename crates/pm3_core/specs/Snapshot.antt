-- What a `Core` holds, as lists, and the state of the machine that it stands for.
use Rattle.std.specs.Prelude.{◌≡◌, ℕ, Bool, false, ◌+◌, List, length, replicate, Option, Some, None, slice_index, slice_index_or}
use Rattle.pm3_core.specs.declared.events.Event.{Event}
use Rattle.pm3_core.specs.declared.events.Event.TheVariants.{Mark}
use Rattle.pm3_core.specs.declared.events.Stepped.{Stepped}
use Rattle.pm3_core.specs.declared.events.Stepped.TheVariants.{Done, Refused}
use Rattle.pm3_core.specs.declared.events.TheConstants.{PLACES}
use Rattle.pm3_core.specs.Machine.{Machine, after}
use Rattle.pm3_core.specs.Cleared.{IsStep}

-- a page's mark: the mutator, and for each place whether it is read off
pub record Marking : Type 0 where
  pub by : ℕ
  pub read : List Bool

-- a mutator's mark with no place read off
abbrev pub fresh : ℕ → Marking
fresh who = record { by = who; read = replicate PLACES false }

-- the page count, the word of each place, whether it stands, and the mark of each page
pub record Snapshot : Type 0 where
  pub pages : ℕ
  pub words : List ℕ
  pub stands : List Bool
  pub marks : List (Option Marking)

-- a snapshot of its parts
abbrev pub snapshot : ℕ → List ℕ → List Bool → List (Option Marking) → Snapshot
snapshot pages words stands marks =
    record { pages = pages; words = words; stands = stands; marks = marks }

-- the mutator's number plus one, or 0
abbrev pub mark_of : Option Marking → ℕ
mark_of None = 0
mark_of (Some marking) = marking.by + 1

-- the places read off under a mark
abbrev pub reads_of : Option Marking → ℕ → Bool
reads_of None = λ _. false
reads_of (Some marking) = λ n. slice_index_or marking.read n false

-- the state of the machine
abbrev pub state_of : Snapshot → Machine
state_of s = record {
  word = slice_index s.words;
  stands = λ n. slice_index_or s.stands n false;
  mark = λ page. mark_of (slice_index_or s.marks page None);
  read = λ page. reads_of (slice_index_or s.marks page None);
}

-- the places read off are kept for all rows
abbrev pub IsWide : Option Marking → Type 0
IsWide None = Unit {0}
IsWide (Some marking) = length marking.read ≡ PLACES

-- the lists have an item for each place, and for each page
pub record IsSound (s : Snapshot) : Type 0 where
  pub words_are : length s.words ≡ PLACES
  pub stands_are : length s.stands ≡ PLACES
  pub marks_are : length s.marks ≡ s.pages
  pub reads_are : (page : ℕ) → IsWide (slice_index_or s.marks page None)

-- only a mark that is a step asks for memory
abbrev pub AsksMemory : Snapshot → Event → Type 0
AsksMemory s (Mark who page) = IsStep s.pages (state_of s) (Mark who page)
AsksMemory s _ = ⊥

-- `Done` is the machine's step to the new state; `Refused` is no step, and nothing is changed
abbrev pub Answers : Snapshot → Event → Stepped → Snapshot → Type 0
Answers old event Done new =
    IsStep old.pages (state_of old) event × (state_of new ≡ after old.pages (state_of old) event)
Answers old event Refused new = (IsStep old.pages (state_of old) event → ⊥) × (new ≡ old)
