use Rattle.std.specs.Prelude.{[]}
use Rattle.pm3_txn.proofs.mutator.Mutator.keep_turn.Given as goal

abbrev pub ghost-give_turn : goal.ghost-give_turn
ghost-give_turn g a = ([], [])
