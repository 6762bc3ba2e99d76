-- What an access adds to what a transaction has done.
use Rattle.std.specs.Prelude.{ℕ, ◌++◌, List, [], ◌∷◌}
use Rattle.pm3_graph.specs.declared.operations.Op.{Op}

-- one operation more, with its answer
abbrev pub with_step : List (Op × ℕ) → Op → ℕ → List (Op × ℕ)
with_step done op answer = done ++ (op, answer) ∷ []
