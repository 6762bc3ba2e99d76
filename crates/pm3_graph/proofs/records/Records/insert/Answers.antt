use Rattle.std.proofs.Common.{ap, ◌∙◌}
use Rattle.std.specs.FinMap.{insert}
use Rattle.pm3_graph.proofs.Views.{inserted}
use Rattle.pm3_graph.proofs.records.Records.insert.Goals as goal

pub returns-in-Ok-clause-ok : goal.returns-in-Ok-clause-ok
returns-in-Ok-clause-ok c =
    inserted c.self.inside.kept.entries c.insert.new.self.entries c.args.name c.args.kept (λ q. c.in-Ok.ensures.updates.0 q)
    ∙ ap (λ m. insert m c.args.name c.args.kept) c.self.view_is
