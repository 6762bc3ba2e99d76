use Rattle.std.proofs.Common.{◌∙◌}
use Rattle.pm3_store.proofs.opens.open.Goals as goal

pub returns-in-Ok-read_parts-clause-told : goal.returns-in-Ok-read_parts-clause-told
returns-in-Ok-read_parts-clause-told g c file told bytes told_journal =
    c.in-Ok-read_parts.ensures.told file told bytes (c.in-Ok.ensures.reads.same ∙ told_journal)
