-- For what a value stands in the slot of each unit, and what the table reads of it.
use Rattle.std.specs.Prelude.{ℕ, List, [], ◌++◌}
use Rattle.std.specs.FinMap as map
use Rattle.std.specs.FinSet as set
use Rattle.pm3_disk.specs.declared.outside.Disk.{Ghosts}
use Rattle.pm3_access.specs.Holding.{SpaceState}
use Rattle.pm3_history.specs.Entry.{Done}
use Rattle.pm3_history.specs.Opens.{Origin}
use Rattle.pm3_table.specs.declared.view.Told.{Told}
use Rattle.pm3_table.specs.Starting.{blank_told}
use Rattle.pm3_txn.specs.declared.values.Turn.{Turn as Turns}
use Rattle.pm3_txn.specs.declared.values.Value.{Value}
use Rattle.pm3_txn.specs.declared.values.Value.TheVariants.{Page, Space, Turn}
use Rattle.pm3_txn.specs.Values.{TurnState, IsPageOf, IsSpaceOf, IsTurnOf, origin_of}

-- what goes with the turn
abbrev pub turn_state : {D R : Type 0} → Turns D R → TurnState D R
turn_state t = record { journal = t.journal; next_name = t.next_name; high_page = t.high_page; file = t.file; opened = t.opened.value }

-- the value stands for the unit after a history, where these commits failed
abbrev pub stands_for : {D R : Type 0} → Ghosts D R → Told → List Done → List Done → ℕ → Value D R → Type 0
stands_for g told lost h u (Page image) = IsPageOf told h u image
stands_for g told lost h u (Space space) = IsSpaceOf told h u space
stands_for g told lost h u (Turn turn) = IsTurnOf g told lost h u (turn_state turn)

-- what is told of the store that was opened; nothing by another value than the turn's
abbrev pub opening_in : {D R : Type 0} → Ghosts D R → Value D R → Origin
opening_in g (Page image) = blank_told.opening
opening_in g (Space space) = blank_told.opening
opening_in g (Turn turn) = origin_of g turn.opened.value

-- the pages of a space: those with an image, and the free ones
abbrev pub pages_of : SpaceState → List ℕ
pages_of space = map.keys space.images ++ set.items space.free

abbrev pub pages_in : {D R : Type 0} → Value D R → List ℕ
pages_in (Page image) = []
pages_in (Space space) = pages_of space
pages_in (Turn turn) = []

-- the faults that the journal's disk has counted
abbrev pub faults_in : {D R : Type 0} → Ghosts D R → Value D R → ℕ
faults_in g (Page image) = 0
faults_in g (Space space) = 0
faults_in g (Turn turn) = g.faults turn.journal.disk
