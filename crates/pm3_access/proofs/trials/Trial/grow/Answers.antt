use Rattle.pm3_core.specs.declared.naming.TheConstants.{BASE}
use Rattle.pm3_types.specs.PageForm.{is_memory_reference}
use Rattle.pm3_access.proofs.trials.Trial.grow.Goals as goal

pub invariant_of-self-2 : goal.invariant_of-self-2
invariant_of-self-2 c = λ sound.
    c.grow.ensures.form c.self.inside.catalog (is_memory_reference BASE 16384) c.in_ok-image.ensures.low (c.self.invariant sound)
