use Rattle.std.proofs.Common.{◌≡◌, true, sym, subst, rules}
use Rattle.std.specs.FinSet as set
use Rattle.pm3_copy.specs.Spreading.{TurnsPage}
use Rattle.pm3_copy.proofs.Turning.{turned_now}
use Rattle.pm3_copy.proofs.spreading.turn.Goals as goal

pub returns-clause-turned : goal.returns-clause-turned
returns-clause-turned c =
    let is : set.contains c.args.pinned.now c.args.page ≡ true = search rules in
    subst (TurnsPage c.args.pinned.now c.args.page c.args.turned.now) (sym c.in_ok-add.ensures.added) (turned_now c.args.pinned.now c.args.turned.now c.args.page is)
