-- Homes in which the turn's value is the last.
use Rattle.std.specs.Prelude.{ℕ, ◌≡◌, ◌-◌, ◌<◌, Bool, true, false, List, length, Option, Some, None, slice_index_or}
use Rattle.pm3_txn.specs.declared.values.Turn.{Turn as Turns}
use Rattle.pm3_txn.specs.declared.values.Value.{Value}
use Rattle.pm3_txn.specs.declared.values.Value.TheVariants.{Page, Space, Turn}

abbrev pub is_turn : {D R : Type 0} → Option (Value D R) → Bool
is_turn None = false
is_turn (Some (Page image)) = false
is_turn (Some (Space space)) = false
is_turn (Some (Turn turn)) = true

-- none of the first n values is one of the turn
abbrev pub AreNoTurns : {D R : Type 0} → List (Option (Value D R)) → ℕ → Type 0
AreNoTurns homes n = (u : ℕ) → u < n → is_turn (slice_index_or homes u None) ≡ false

-- the last value is this one of the turn, and no other is
pub record EndsWithTurn {D R : Type 0} (homes : List (Option (Value D R))) (turn : Turns D R) : Type 0 where
  pub some : 0 < length homes
  pub last : slice_index_or homes (length homes - 1) None ≡ Some (Turn turn)
  pub others : AreNoTurns homes (length homes - 1)

abbrev pub HasTurnLast : {D R : Type 0} → List (Option (Value D R)) → Type 0
HasTurnLast {D} {R} homes = (turn : Turns D R) × EndsWithTurn homes turn

-- the disks are the page file and that of the journal in the last value
abbrev pub AreDisksOf : {D R : Type 0} → D → D → List (Option (Value D R)) → Type 0
AreDisksOf {D} {R} file disk homes = (turn : Turns D R) → EndsWithTurn homes turn → (file ≡ turn.file) × (disk ≡ turn.journal.disk)
