use Rattle.std.proofs.Common.{◌∙◌}
use Rattle.pm3_journal.proofs.Scanning.{given_on}
use Rattle.pm3_journal.proofs.window.Window.read.Goals as goal

pub returns-then-give-clause-piece : goal.returns-then-give-clause-piece
returns-then-give-clause-piece g c bytes told =
    let given = c.give.ensures.given c.if-give.true in
    given.2 ∙ given_on bytes _ _ _ _ (c.requires.window bytes told) given.0 given.1
