use Rattle.std.specs.Prelude.{[], ◌∷◌}
use Rattle.pm3_txn.specs.Committing.{done_by}
use Rattle.pm3_txn.proofs.mutator.Mutator.fail_turn.Given as goal

abbrev pub ghost-end_turn : goal.ghost-end_turn
ghost-end_turn g a = ([], done_by a.self.now.pass.1.row a._entry.now a._parted.now ∷ [])
