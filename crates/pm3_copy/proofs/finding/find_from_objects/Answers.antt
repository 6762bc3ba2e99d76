use Rattle.std.proofs.Common.{arith, lit<}
use Rattle.pm3_core.specs.declared.naming.TheConstants.{BASE}
use Rattle.pm3_types.specs.Layout.{word_in}
use Rattle.pm3_copy.specs.References.{RefersIn, ObjectsOn}
use Rattle.pm3_copy.proofs.References.{objects_none, objects_more, objects_all}
use Rattle.pm3_types.proofs.FormedObjects.{address_of, page_is}
use Rattle.pm3_copy.proofs.Wholes.{below_page, whole_at}
use Rattle.pm3_copy.proofs.finding.find_from_objects.Goals as goal

pub loop-next-init : goal.loop-next-init
loop-next-init c = objects_none BASE c.args.image.now (λ a. RefersIn c.args.catalog.now c.args.image.now.sheet (word_in BASE a)) c.args.found.now (lit< tt)

pub find_referred-requires-clause-whole : goal.find_referred-requires-clause-whole
find_referred-requires-clause-whole c = whole_at c.args.catalog.now BASE 16384 c.args.image.now c.in-Some.next c.requires c.in-Some.ensures.1

pub loop-next-smaller : goal.loop-next-smaller
loop-next-smaller c =
    let high = below_page BASE c.in-Some.next (address_of BASE c.args.image.now c.in-Some.next c.in-Some.ensures.1) in
    let page = page_is BASE c.args.image.now c.in-Some.next c.in-Some.ensures.1 in
    let more = c.in-Some.ensures.0 in
    omega (arith, high, page, more)

pub loop-next-preserved : goal.loop-next-preserved
loop-next-preserved c =
    objects_more BASE c.args.image.now (λ a. RefersIn c.args.catalog.now c.args.image.now.sheet (word_in BASE a)) c.loop-next.at c.in-Some.next c.args.found.now c.loop-next.found c.find_referred.new.found
    c.in-Some.ensures.0 c.in-Some.ensures.1 c.in-Some.ensures.2 c.loop-next.invariant c.find_referred.ensures

pub returns : goal.returns
returns c =
    objects_all BASE c.args.image.now (λ a. RefersIn c.args.catalog.now c.args.image.now.sheet (word_in BASE a)) (ObjectsOn c.args.catalog.now BASE c.args.image.now) c.loop-next.at c.args.found.now c.loop-next.found c.in_default.ensures
    (λ b p. (p.0, p.1, p.2)) (λ a b is leads. (a, is, leads)) c.loop-next.invariant
