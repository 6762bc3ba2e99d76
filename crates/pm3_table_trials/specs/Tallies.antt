-- A value that counts the commits that name its unit.
use Rattle.std.specs.Prelude.{◌≡◌, ℕ, ◌+◌, Bool, false, if◌then◌else◌, List, [], ◌∷◌, ◌++◌, None}
use Rattle.std.proofs.Common.{ap}
use Rattle.std.specs.FinMap.{empty}
use Rattle.pm3_history.specs.Entry.{Done, blank_done}
use Rattle.pm3_history.specs.Opens.{Origin}
use Rattle.pm3_table.specs.declared.view.Told.{Told}
use Rattle.pm3_table.specs.Telling.{names}
use Rattle.pm3_table.specs.Words.{turn_unit}
use Rattle.pm3_table_trials.specs.declared.tallies.Tally.{Tally}

-- how many of the commits have it of a number
abbrev pub how_many : (Done → ℕ → Bool) → List Done → ℕ → ℕ
how_many has [] n = 0
how_many has (e ∷ es) n = (if has e n then 1 else 0) + how_many has es n

-- one that has it not leaves that number
abbrev pub one_more : (has : Done → ℕ → Bool) (h : List Done) (e : Done) (n : ℕ) → has e n ≡ false → how_many has (h ++ e ∷ []) n ≡ how_many has h n
one_more has [] e n free = ap (λ (b : Bool). (if b then 1 else 0) + 0) free
one_more has (x ∷ xs) e n free = ap (λ (k : ℕ). (if has x n then 1 else 0) + k) (one_more has xs e n free)

-- the value counts the commits that name the unit; with the turn it also says that no commit failed
abbrev pub Counts : Told → List Done → List Done → ℕ → Tally → Type 0
Counts told lost h u x = (x.count ≡ how_many (names told) h u) × (u ≡ turn_unit told.pages → lost ≡ [])

-- a commit of a mutator that changed nothing
abbrev pub nothing_by : ℕ → Done
nothing_by k = record blank_done { mutator = k }

-- an opening of which nothing is told
abbrev pub untold : Origin
untold = record { catalog = []; images = empty; summaries = []; due = 0; file = None; journal = None; faults = 0; stopped = None }
