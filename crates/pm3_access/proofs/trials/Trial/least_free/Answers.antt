use Rattle.pm3_core.specs.declared.naming.TheConstants.{BASE}
use Rattle.pm3_types.specs.PageForm.{is_memory_reference}
use Rattle.pm3_access.proofs.trials.Trial.least_free.Goals as goal

pub invariant_of-self : goal.invariant_of-self
invariant_of-self c = λ sound. c.least_free.ensures.form c.self.inside.catalog (is_memory_reference BASE 16384) (c.self.invariant sound)
