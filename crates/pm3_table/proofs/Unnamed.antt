-- What a commit leaves alone that does not name a unit.
use Rattle.std.proofs.Common.{◌≡◌, ◌≢◌, ℕ, ◌+◌, ◌==◌, false, arith}
use Rattle.std.proofs.lemmas.Bool.Decides.{nat_tests}
use Rattle.std.specs.FinMap.{contains_key}
use Rattle.pm3_history.specs.Entry.{Done}
use Rattle.pm3_table.specs.Entries.{names_unit, is_space_of}
use Rattle.pm3_table.specs.Words.{space_unit, turn_unit}

-- it does not write the page
pub not_written : (turn u : ℕ) (e : Done) → names_unit turn e u ≡ false → contains_key e.written u ≡ false
not_written turn u e free = grind (arith, nat_tests, free)

-- it has no pass of the space
pub not_its_space : (turn u : ℕ) (e : Done) → names_unit turn e u ≡ false → is_space_of turn u e.pass ≡ false
not_its_space turn u e free = grind (arith, nat_tests, free)

pub not_the_space : (pages number space : ℕ) → (space_unit pages number + 32 == turn_unit pages + space) ≡ false → (space == number) ≡ false
not_the_space pages number space free = grind (arith, nat_tests, free)

-- and it is not the turn
pub not_the_turn : (turn u : ℕ) (e : Done) → names_unit turn e u ≡ false → u ≢ turn
not_the_turn turn u e free same = grind (arith, nat_tests, free, same)
