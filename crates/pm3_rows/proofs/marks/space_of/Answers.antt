use Rattle.pm3_table.proofs.Known.{used_in_space}
use Rattle.pm3_rows.proofs.marks.space_of.Goals as goal

pub look-word-requires-clause-used : goal.look-word-requires-clause-used
look-word-requires-clause-used g c =
    used_in_space c.args.shared.now.1 c.args.pass.now.1 c.requires.has.0 c.args.page c.requires.has.1
