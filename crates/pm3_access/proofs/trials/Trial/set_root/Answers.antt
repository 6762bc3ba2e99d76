use Rattle.std.proofs.Common.{◌≡◌, true}
use Rattle.pm3_core.specs.declared.naming.TheConstants.{BASE}
use Rattle.pm3_types.specs.PageForm.{is_memory_reference}
use Rattle.pm3_access.proofs.trials.Trial.set_root.Goals as goal

pub invariant_of-self : goal.invariant_of-self
invariant_of-self c = λ sound.
    let refers : c.may_refer.result ≡ true = c.if-not-may_refer.false in
    c.set_root.ensures.form c.self.inside.catalog (is_memory_reference BASE 16384) (c.self.invariant sound) (c.may_refer.ensures refers)
