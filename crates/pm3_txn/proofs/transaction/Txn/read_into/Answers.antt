use Rattle.std.proofs.Common.{inr}
use Rattle.pm3_txn.proofs.PlaceSteps.{read_placed, read_marked}
use Rattle.pm3_txn.proofs.transaction.Txn.read_into.Goals as goal

pub returns-in-Err-put_reference-clause-refused : goal.returns-in-Err-put_reference-clause-refused
returns-in-Err-put_reference-clause-refused g c =
    inr (read_marked c.args.self.now c.read.new.self c.put_reference.new.self c.args.i c.args.place c.args.j c.in-Ok.at c.in-Err-put_reference.busy c.of_busy.result
    c.in-Ok.ensures.read c.in-Err-put_reference.ensures.marked c.of_busy.ensures)

pub returns-clause-read : goal.returns-clause-read
returns-clause-read g c =
    read_placed c.args.self.now c.read.new.self c.put_reference.new.self c.args.i c.args.place c.args.j c.in-Ok.at c.in-Ok.ensures.read c.in_default.ensures.placed
