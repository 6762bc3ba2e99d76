-- The part of the rule on units, slots and the history that each view has seen.
use Rattle.std.specs.Prelude.{◌≡◌, ◌≢◌, ℕ, ◌+◌, ◌<◌, ◌≤◌, ◌==◌, Bool, true, List, length, ◌++◌}
use mathlib.Core.Option.{Option, none, some}
use lib.ListN.{get_elem?}
use Rattle.pm3_history.specs.Entry.{Done}
use Rattle.pm3_table.specs.declared.view.Hold.{Hold}
use Rattle.pm3_table.specs.Histories.{NoneHas}
use Rattle.pm3_table.specs.Holds.{holds_of}

pub record UnitView : Type 0 where
  pub live : Bool
  pub holds : List Hold
  pub seen : List Done
  pub faults : ℕ

-- What the view of mutator k says is so: it holds what its name stands on, and of the history it has seen a beginning;
-- no commit after that names a unit that it holds.
pub record KnowsUnits (names : Done → ℕ → Bool) (history : List Done) (holder : ℕ → ℕ) (k : ℕ) (v : UnitView) : Type 0 where
  pub holds : (u : ℕ) → holds_of v.holds u ≡ (holder u == k + 1)
  pub after : List Done
  pub is : history ≡ v.seen ++ after
  pub apart : (u : ℕ) → holder u ≡ k + 1 → NoneHas names after u

-- `good` says what a slot at home stands for after a history, and `count` how many faults the turn's value has counted.
module _ {S : Type 0} (good : List Done → ℕ → S → Type 0) (count : S → ℕ) (turn : ℕ) (names : Done → ℕ → Bool) where
  -- A unit without a holder is at home with a good value, a held one is out. A holder lives. Who holds the turn has seen
  -- the whole history, and at each moment some view has. No view has seen more faults than the turn's value counted.
  pub record UnitsRule (holder : ℕ → ℕ) (history : List Done) (homes : List (Option S)) (crew : ℕ → UnitView) : Type 0 where
    pub deep : length homes ≡ turn + 1
    pub home : (u : ℕ) → u < turn + 1 → holder u ≡ 0 → (x : S) × (get_elem? homes u ≡ some (some x)) × good history u x
    pub out : (u : ℕ) → u < turn + 1 → holder u ≢ 0 → get_elem? homes u ≡ some none
    pub held : (u : ℕ) → holder u ≢ 0 → (u < turn + 1) × ((k : ℕ) × (holder u ≡ k + 1) × ((crew k).live ≡ true))
    pub known : (k : ℕ) → (crew k).live ≡ true → KnowsUnits names history holder k (crew k)
    pub turn_sees : (k : ℕ) → holder turn ≡ k + 1 → history ≡ (crew k).seen
    pub one_sees : (k : ℕ) × ((crew k).live ≡ true) × (history ≡ (crew k).seen)
    pub heard : (x : S) → get_elem? homes turn ≡ some (some x) → (k : ℕ) → (crew k).live ≡ true → (crew k).faults ≤ count x
    pub heard_out : (j : ℕ) → holder turn ≡ j + 1 → (k : ℕ) → (crew k).live ≡ true → (crew k).faults ≤ (crew j).faults
