use Rattle.std.proofs.Common.{inr}
use Rattle.pm3_txn.proofs.RootSteps.{root_placed, root_marked}
use Rattle.pm3_txn.proofs.transaction.Txn.root.Goals as goal

pub returns-in-Err-put_reference-clause-refused : goal.returns-in-Err-put_reference-clause-refused
returns-in-Err-put_reference-clause-refused g c =
    inr (root_marked c.args.self.now c.read_root.new.self c.put_reference.new.self c.args.slot c.args.j c.in-Ok.at c.in-Err-put_reference.busy c.of_busy.result
    c.in-Ok.ensures.read c.in-Err-put_reference.ensures.marked c.of_busy.ensures)

pub returns-clause-read : goal.returns-clause-read
returns-clause-read g c =
    root_placed c.args.self.now c.read_root.new.self c.put_reference.new.self c.args.slot c.args.j c.in-Ok.at c.in-Ok.ensures.read c.in_default.ensures.placed
