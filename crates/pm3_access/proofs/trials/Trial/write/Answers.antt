use Rattle.std.proofs.Common.{◌≡◌, true}
use Rattle.pm3_core.specs.declared.naming.TheConstants.{BASE}
use Rattle.pm3_types.specs.PageForm.{is_memory_reference}
use Rattle.pm3_access.proofs.trials.Trial.write.Goals as goal

pub invariant_of-self : goal.invariant_of-self
invariant_of-self c = λ sound.
    let may : c.may_stand.result ≡ true = c.if-not-may_stand.false in
    c.write.ensures.form (is_memory_reference BASE 16384) (c.self.invariant sound)
    (c.may_stand.ensures.sound may c.self.inside.catalog c.self.inside.held c.args.at)
