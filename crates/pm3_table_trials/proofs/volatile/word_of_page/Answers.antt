use Rattle.pm3_table.proofs.Known.{used_in_space}
use Rattle.pm3_table_trials.proofs.volatile.word_of_page.Goals as goal

pub look-requires-clause-used : goal.look-requires-clause-used
look-requires-clause-used g c =
    used_in_space c.args.shared.now.1 c.args.pass.now.1 c.requires.has.0 c.args.page c.requires.has.1
