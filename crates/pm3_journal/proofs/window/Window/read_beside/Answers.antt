use Rattle.std.proofs.Common.{rules, ◌≡◌, ◌∙◌, length}
use Rattle.pm3_journal.proofs.Scanning.{given_on, whole_piece}
use Rattle.pm3_journal.proofs.window.Window.read_beside.Goals as goal

pub returns-then-give-clause-piece : goal.returns-then-give-clause-piece
returns-then-give-clause-piece g c bytes told =
    let given = c.give.ensures.given c.if-give.true in
    given.2 ∙ given_on bytes _ _ _ _ (c.requires.window bytes told) given.0 given.1

pub returns-in-Ok-clause-piece : goal.returns-in-Ok-clause-piece
returns-in-Ok-clause-piece g c bytes told =
    let long : length c.read_at.new.out ≡ length c.args.out.now = search rules in
    whole_piece bytes c.read_at.new.out c.args.at _ _ long (c.requires.within bytes told) (c.in-Ok.ensures.bytes bytes told)
