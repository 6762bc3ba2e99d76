use Rattle.std.proofs.Common.{ap, sym, ◌∙◌}
use Rattle.std.specs.FinMap.{get}
use Rattle.pm3_graph.proofs.Views.{get-entries_of}
use Rattle.pm3_graph.proofs.records.Records.get.Goals as goal

pub returns : goal.returns
returns c = c.get.ensures.value ∙ sym (get-entries_of c.self.inside.kept.entries c.args.name) ∙ ap (λ m. get m c.args.name) c.self.view_is
