-- Lists of commits, and which of them a number concerns.
use Rattle.std.specs.Prelude.{ℕ, ◌≡◌, ◌<◌, ◌==◌, ◌||◌, Bool, false, cond, List, [], ◌∷◌}
use Rattle.pm3_history.specs.Entry.{Done}

-- one of the commits has it of this number
abbrev pub some_has : (Done → ℕ → Bool) → List Done → ℕ → Bool
some_has has [] n = false
some_has has (e ∷ es) n = has e n || some_has has es n

-- none has it
abbrev pub NoneHas : (Done → ℕ → Bool) → List Done → ℕ → Type 0
NoneHas has h n = some_has has h n ≡ false

-- the commits of a mutator, in order
abbrev pub by : ℕ → List Done → List Done
by k [] = []
by k (e ∷ es) = cond (e.mutator == k) (e ∷ by k es) (by k es)

-- each is of this mutator
abbrev pub AllBy : ℕ → List Done → Type 0
AllBy k [] = Unit {0}
AllBy k (e ∷ es) = (e.mutator ≡ k) × AllBy k es

-- each is of a mutator below this number
abbrev pub AllBelow : ℕ → List Done → Type 0
AllBelow top [] = Unit {0}
AllBelow top (e ∷ es) = (e.mutator < top) × AllBelow top es
