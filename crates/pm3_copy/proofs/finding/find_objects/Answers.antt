use Rattle.std.proofs.Common.{◌≡◌, ◌∙◌, true, refl, ap, arith, lit<}
use Rattle.pm3_core.specs.declared.naming.TheConstants.{BASE}
use Rattle.pm3_types.specs.Layout.{begins_at}
use Rattle.pm3_copy.proofs.References.{objects_none, objects_more, objects_all}
use Rattle.pm3_types.proofs.FormedObjects.{address_of, page_is}
use Rattle.pm3_copy.proofs.Wholes.{below_page}
use Rattle.pm3_copy.proofs.finding.find_objects.Goals as goal

pub loop-next-init : goal.loop-next-init
loop-next-init c = objects_none BASE c.args.image.now (λ a b. b ≡ a) c.args.found.now (lit< tt)

pub loop-next-smaller : goal.loop-next-smaller
loop-next-smaller c =
    let high = below_page BASE c.in-Some.next (address_of BASE c.args.image.now c.in-Some.next c.in-Some.ensures.1) in
    let page = page_is BASE c.args.image.now c.in-Some.next c.in-Some.ensures.1 in
    let more = c.in-Some.ensures.0 in
    omega (arith, high, page, more)

pub loop-next-preserved : goal.loop-next-preserved
loop-next-preserved c =
    objects_more BASE c.args.image.now (λ a b. b ≡ a) c.loop-next.at c.in-Some.next c.args.found.now c.loop-next.found c.find.new.self c.in-Some.ensures.0 c.in-Some.ensures.1 c.in-Some.ensures.2
    c.loop-next.invariant c.find.ensures

pub returns : goal.returns
returns c =
    objects_all BASE c.args.image.now (λ a b. b ≡ a) (λ b. begins_at BASE c.args.image.now b ≡ true) c.loop-next.at c.args.found.now c.loop-next.found c.in_default.ensures
    (λ b is. (b, is, refl)) (λ a b is same. ap (begins_at BASE c.args.image.now) same ∙ is) c.loop-next.invariant
