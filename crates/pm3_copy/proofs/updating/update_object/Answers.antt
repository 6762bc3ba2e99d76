use Rattle.std.proofs.Common.{◌∙◌, refl, Some, arith}
use Rattle.pm3_core.specs.declared.naming.TheConstants.{BASE}
use Rattle.pm3_types.specs.Layout.{word_in}
use Rattle.pm3_copy.specs.Tables.{follows}
use Rattle.pm3_copy.proofs.ReferencePlaces.{place_on_page}
use Rattle.pm3_copy.proofs.Renamed.{places_none, places_more, places_all}
use Rattle.pm3_copy.proofs.updating.update_object.Goals as goal

pub loop-place-init : goal.loop-place-init
loop-place-init c = record { page = refl; sheet = places_none (Some c.map_of-map.result) c.tail_len-tail.result (word_in BASE c.args.at) (follows c.args.tables.now) c.args.image.now.sheet; low = omega arith }

pub update_place-requires-clause-within : goal.update_place-requires-clause-within
update_place-requires-clause-within c =
    place_on_page c.args.catalog.now c.args.image.now.sheet (word_in BASE c.args.at) c.map_of-map.result c.tail_len-tail.result c.in-Some.place c.map_of-map.ensures c.tail_len-tail.ensures c.requires.whole c.in-Some.ensures.1

pub loop-place-smaller : goal.loop-place-smaller
loop-place-smaller c =
    let low = place_on_page c.args.catalog.now c.args.image.now.sheet (word_in BASE c.args.at) c.map_of-map.result c.tail_len-tail.result c.in-Some.place c.map_of-map.ensures c.tail_len-tail.ensures c.requires.whole c.in-Some.ensures.1 in
    omega (arith, low, c.in-Some.ensures.0)

pub loop-place-preserved : goal.loop-place-preserved
loop-place-preserved c =
    let low = place_on_page c.args.catalog.now c.args.image.now.sheet (word_in BASE c.args.at) c.map_of-map.result c.tail_len-tail.result c.in-Some.place c.map_of-map.ensures c.tail_len-tail.ensures c.requires.whole c.in-Some.ensures.1 in
    record {
      page = c.update_place.ensures.page ∙ c.loop-place.invariant.page;
      sheet = places_more (Some c.map_of-map.result) c.tail_len-tail.result (word_in BASE c.args.at) (follows c.args.tables.now) c.loop-place.from c.in-Some.place c.args.image.now.sheet c.loop-place.image.sheet
          c.update_place.new.image.sheet c.in-Some.ensures.0 c.in-Some.ensures.1 c.in-Some.ensures.2 c.loop-place.invariant.sheet c.update_place.ensures.sheet;
      low = omega (arith, low);
    }

pub returns-clause-sheet : goal.returns-clause-sheet
returns-clause-sheet c =
    places_all c.args.catalog.now c.args.image.now.sheet c.loop-place.image.sheet (word_in BASE c.args.at) c.loop-place.from (Some c.map_of-map.result) c.tail_len-tail.result (follows c.args.tables.now)
    c.map_of-map.ensures c.tail_len-tail.ensures c.in_default.ensures c.loop-place.invariant.sheet
