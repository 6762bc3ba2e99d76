use Rattle.std.proofs.Common.{[], subst}
use Rattle.pm3_journal.specs.declared.faults.AppendFault.{AppendFault}
use Rattle.pm3_txn.specs.Committing.{MayGive, done_by, failed_by}
use Rattle.pm3_txn.specs.Slots.{turn_state}
use Rattle.pm3_txn.proofs.mutator.Mutator.fail_turn.Goals as goal

pub end_turn-requires : goal.end_turn-requires
end_turn-requires g c κs within = (
  within.0,
  (
    within.1,
    (
      c.requires.of,
      (
        c.requires.held,
        subst (λ (f : AppendFault). MayGive g.D.Disk c.args.heap.now.1 c.args.self.now.pass.1 (turn_state c.args.turn) [] (failed_by f (done_by c.args.self.now.pass.1.row c.args.entry.now c.args.parted.now)))
            c.in-JournalFault.is c.requires.may,
      ),
    ),
  ),
)
