use Rattle.std.proofs.Common.{arith}
use Rattle.pm3_journal.proofs.Entering.{size_of_items}
use Rattle.pm3_journal.proofs.journal.append.size_of_record.Goals as goal

pub returns-clause-size : goal.returns-clause-size
returns-clause-size c = omega (arith, size_of_items c.args.entry.now.pages.items)
