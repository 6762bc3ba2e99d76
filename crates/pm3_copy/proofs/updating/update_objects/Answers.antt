use Rattle.std.proofs.Common.{◌∙◌, refl, arith, lit<}
use Rattle.pm3_core.specs.declared.naming.TheConstants.{BASE}
use Rattle.pm3_copy.specs.Tables.{follows}
use Rattle.pm3_copy.proofs.RenamedPages.{upto_none, upto_more, upto_all, whole_now}
use Rattle.pm3_types.proofs.FormedObjects.{address_of, page_is}
use Rattle.pm3_copy.proofs.Wholes.{below_page}
use Rattle.pm3_copy.proofs.updating.update_objects.Goals as goal

pub loop-next-init : goal.loop-next-init
loop-next-init c = record { page = refl; sheet = upto_none c.args.catalog.now BASE c.args.image.now c.requires.sound (follows c.args.tables.now) (lit< tt) }

pub update_object-requires-clause-whole : goal.update_object-requires-clause-whole
update_object-requires-clause-whole c =
    whole_now c.args.catalog.now BASE c.args.image.now c.requires.sound (follows c.args.tables.now) c.loop-next.at c.loop-next.image c.loop-next.invariant.page c.loop-next.invariant.sheet c.in-Some.next c.in-Some.ensures.1

pub loop-next-smaller : goal.loop-next-smaller
loop-next-smaller c =
    let high = below_page BASE c.in-Some.next (address_of BASE c.loop-next.image c.in-Some.next c.in-Some.ensures.1) in
    let page = page_is BASE c.loop-next.image c.in-Some.next c.in-Some.ensures.1 ∙ c.loop-next.invariant.page in
    let more = c.in-Some.ensures.0 in
    omega (arith, high, page, more)

pub loop-next-preserved : goal.loop-next-preserved
loop-next-preserved c = record {
  page = c.update_object.ensures.page ∙ c.loop-next.invariant.page;
  sheet = upto_more c.args.catalog.now BASE c.args.image.now c.requires.sound (follows c.args.tables.now) c.loop-next.at c.loop-next.image c.loop-next.invariant.page c.loop-next.invariant.sheet c.in-Some.next
      c.in-Some.ensures.1 c.update_object.new.image.sheet c.in-Some.ensures.0 c.in-Some.ensures.2 c.update_object.ensures.sheet;
}

pub returns-clause-sheet : goal.returns-clause-sheet
returns-clause-sheet c =
    upto_all c.args.catalog.now BASE c.args.image.now c.requires.sound (follows c.args.tables.now) c.loop-next.at c.loop-next.image c.loop-next.invariant.page c.loop-next.invariant.sheet c.in_default.ensures
