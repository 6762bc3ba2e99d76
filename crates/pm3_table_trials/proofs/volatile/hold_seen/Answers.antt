use Rattle.std.proofs.Common.{◌≡◌, true, sym, subst, inr}
use Rattle.pm3_table.specs.declared.view.View.{View}
use Rattle.pm3_table.specs.Settles.{unmark_log}
use Rattle.pm3_table.specs.Telling.{knows_used}
use Rattle.pm3_table_trials.proofs.Settled.{held_used}
use Rattle.pm3_table_trials.proofs.volatile.hold_seen.Goals as goal

pub settle-requires-clause-page : goal.settle-requires-clause-page
settle-requires-clause-page g c = (c.requires.low, inr (c.args.space, c.requires.has))

pub look-requires-clause-used : goal.look-requires-clause-used
look-requires-clause-used g c = subst (λ (v : View). knows_used c.args.shared.now.1 v c.args.page ≡ true) (sym c.settle.ensures.1)
    (held_used c.args.shared.now.1 c.args.pass.now.1 c.args.page (unmark_log c.args.pass.now.1.log c.args.page))
