use Rattle.pm3_core.proofs.Effects.{opened, opened_sound}
use Rattle.pm3_core.proofs.machine.Core.new.Goals as goal

pub invariant_of-result : goal.invariant_of-result
invariant_of-result c =
    opened_sound c.args.pages c.in_ok-vec.field-0.items c.in_ok-vec-2.field-0.items c.in_ok-new.field-0 (c.in_ok-vec.ensures.items_if_clones_equal (λ y same. same)) (c.in_ok-vec-2.ensures.items_if_clones_equal (λ y same. same)) c.in_ok-new.ensures

pub returns-clause-opening : goal.returns-clause-opening
returns-clause-opening c =
    opened c.args.pages c.in_ok-vec.field-0.items c.in_ok-vec-2.field-0.items c.in_ok-new.field-0 (c.in_ok-vec.ensures.items_if_clones_equal (λ y same. same)) (c.in_ok-vec-2.ensures.items_if_clones_equal (λ y same. same)) c.in_ok-new.ensures
