use Rattle.std.proofs.Common.{◌∙◌}
use Rattle.std.proofs.IntoIterSteps.{All-taken}
use Rattle.oo7.proofs.all_of.Goals as goal

pub returns : goal.returns
returns c =
    let ran = c.in_ok-collect.ensures.ran in
    let drained = ran.1.2 tt in
    ran.2.0 ∙ All-taken c.args.arguments ran.0 (drained.0, (ran.1.0, ran.1.1, drained.1))
