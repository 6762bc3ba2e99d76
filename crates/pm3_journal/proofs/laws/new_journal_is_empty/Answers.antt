use Rattle.pm3_journal.proofs.Examples.{empty_has_none}
use Rattle.pm3_journal.proofs.laws.new_journal_is_empty.Goals as goal

pub returns : goal.returns
returns c pages least most = empty_has_none pages least most
