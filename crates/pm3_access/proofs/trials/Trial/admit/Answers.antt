use Rattle.pm3_core.specs.declared.naming.TheConstants.{BASE}
use Rattle.pm3_types.specs.PageForm.{is_memory_reference}
use Rattle.pm3_access.proofs.trials.Trial.admit.Goals as goal

pub invariant_of-self-2 : goal.invariant_of-self-2
invariant_of-self-2 c = λ sound.
    c.admit.ensures.form c.self.inside.catalog (is_memory_reference BASE 16384) (c.self.invariant sound) c.in_ok-image.ensures.sound
