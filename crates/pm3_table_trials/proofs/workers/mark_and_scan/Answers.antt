use Rattle.std.proofs.Common.{true, ap, ◌∙◌}
use Rattle.pm3_table.specs.declared.view.View.{View}
use Rattle.pm3_table.specs.Deeds.{marks_of}
use Rattle.pm3_table.proofs.Put.{put_here}
use Rattle.pm3_table_trials.proofs.workers.mark_and_scan.Goals as goal

pub returns-clause-cleared : goal.returns-clause-cleared
returns-clause-cleared c = λ free. c.scan.ensures.cleared c.args.page
    (ap (λ (v : View). marks_of v.log c.args.page) c.mark.ensures.1 ∙ put_here (marks_of c.args.pass.1.log) c.args.page true) free
