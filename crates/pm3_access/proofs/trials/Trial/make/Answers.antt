use Rattle.pm3_access.proofs.trials.Trial.make.Goals as goal

pub invariant_of-self : goal.invariant_of-self
invariant_of-self c = λ sound. c.make.ensures.sound 16384 (c.self.invariant sound)
