-- The part of the rule on rows and marks: they are a state of the pinning machine.
use Rattle.std.specs.Prelude.{◌≡◌, ◌≢◌, ℕ, ◌+◌, ◌<◌, ◌==◌, Bool, true, false, List, [], ◌∷◌, ◌++◌, map}
use Rattle.pm3_core.specs.declared.events.TheConstants.{ROWS, ROW_PLACES}
use Rattle.pm3_core.specs.declared.events.Event.{Event}
use Rattle.pm3_core.specs.declared.events.Event.TheVariants.{Move}
use Rattle.pm3_core.specs.Machine.{Machine, opening, reached, spot}
use Rattle.pm3_core.specs.Cleared.{AllSteps}
use Rattle.pm3_history.specs.Entry.{Done}
use Rattle.pm3_table.specs.declared.view.Deed.{Deed}
use Rattle.pm3_table.specs.Deeds.{word_of, stands_of, marks_of, reads_of}
use Rattle.pm3_table.specs.Entries.{moved_of}

pub record RowView : Type 0 where
  pub live : Bool
  pub log : List Deed

-- the view of a mutator with this log
abbrev pub row_with : List Deed → RowView
row_with log = record { live = true; log = log }

-- what the log of mutator k says is so
pub record KnowsRow (pages : ℕ) (m : Machine) (k : ℕ) (log : List Deed) : Type 0 where
  pub word : (q : ℕ) → q < ROW_PLACES → word_of log q ≡ m.word (spot k q)
  pub stands : (q : ℕ) → q < ROW_PLACES → stands_of log q ≡ m.stands (spot k q)
  pub marks : (p : ℕ) → marks_of log p ≡ (m.mark p == k + 1)
  pub reads : (p n : ℕ) → m.mark p ≡ k + 1 → reads_of pages log p n ≡ m.read p n

abbrev pub is_move : Event → Bool
is_move (Move who page) = true
is_move _ = false

-- the moves among events
abbrev pub moves : List Event → List Event
moves [] = []
moves (Move who page ∷ es) = Move who page ∷ moves es
moves (_ ∷ es) = moves es

-- a move from each page
abbrev pub moves_from : ℕ → List ℕ → List Event
moves_from k pages = map (Move k) pages

-- the moves of a history
abbrev pub moves_of : List Done → List Event
moves_of [] = []
moves_of (e ∷ es) = moves_from e.mutator (moved_of e) ++ moves_of es

-- The rows, the marks, the standing places and the read-off sets are the state that the machine comes to by events, each a
-- step, whose moves are those that are done. Each view knows its own row. A marked page has a live marker, and a row
-- without a mutator holds 0 and does not stand.
pub record RowsRule (pages : ℕ) (done : List Event) (m : Machine) (crew : ℕ → RowView) : Type 0 where
  pub events : List Event
  pub moved : moves events ≡ done
  pub is : reached pages events ≡ m
  pub steps : AllSteps pages events opening
  pub known : (k : ℕ) → (crew k).live ≡ true → KnowsRow pages m k (crew k).log
  pub marked : (p : ℕ) → m.mark p ≢ 0 → (p < pages) × ((k : ℕ) × (m.mark p ≡ k + 1) × ((crew k).live ≡ true))
  pub idle : (k : ℕ) → k < ROWS → (crew k).live ≡ false → (q : ℕ) → q < ROW_PLACES
      → (m.word (spot k q) ≡ 0) × (m.stands (spot k q) ≡ false)
