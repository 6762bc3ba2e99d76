use Rattle.std.proofs.Common.{◌≡◌, ◌+◌, ◌∙◌, slice_index, Some, sym, arith}
use Rattle.pm3_core.specs.declared.naming.TheConstants.{BASE}
use Rattle.pm3_types.specs.Layout.{word_in}
use Rattle.pm3_copy.proofs.Adding.{adds_as}
use Rattle.pm3_copy.proofs.ReferencePlaces.{place_on_page}
use Rattle.pm3_copy.proofs.References.{places_none, places_more, places_all}
use Rattle.pm3_copy.proofs.finding.find_referred.Goals as goal

pub loop-place-init : goal.loop-place-init
loop-place-init c = record { found = places_none c.args.catalog.now c.args.image.now.sheet (word_in BASE c.args.at) c.args.found.now; low = omega arith }

pub field-requires-clause-within : goal.field-requires-clause-within
field-requires-clause-within c =
    place_on_page c.args.catalog.now c.args.image.now.sheet (word_in BASE c.args.at) c.map_of-map.result c.tail_len-tail.result c.in-Some.place c.map_of-map.ensures c.tail_len-tail.ensures c.requires.whole c.in-Some.ensures.1

pub loop-place-smaller : goal.loop-place-smaller
loop-place-smaller c =
    let low = place_on_page c.args.catalog.now c.args.image.now.sheet (word_in BASE c.args.at) c.map_of-map.result c.tail_len-tail.result c.in-Some.place c.map_of-map.ensures c.tail_len-tail.ensures c.requires.whole c.in-Some.ensures.1 in
    omega (arith, low, c.in-Some.ensures.0)

pub loop-place-preserved : goal.loop-place-preserved
loop-place-preserved c =
    let low = place_on_page c.args.catalog.now c.args.image.now.sheet (word_in BASE c.args.at) c.map_of-map.result c.tail_len-tail.result c.in-Some.place c.map_of-map.ensures c.tail_len-tail.ensures c.requires.whole c.in-Some.ensures.1 in
    record {
      found = places_more c.args.catalog.now c.args.image.now.sheet (word_in BASE c.args.at) (Some c.map_of-map.result) c.tail_len-tail.result c.map_of-map.ensures c.tail_len-tail.ensures c.loop-place.from c.in-Some.place c.args.found.now
          c.loop-place.found c.find.new.self c.in-Some.ensures.0 c.in-Some.ensures.1 c.in-Some.ensures.2 c.loop-place.invariant.found
          (adds_as _ (λ b. slice_index c.args.image.now.sheet.words (word_in BASE c.args.at + 2 + c.in-Some.place) ≡ b) c.loop-place.found c.find.new.self c.find.ensures
          (λ a there e. sym e ∙ sym c.field.ensures) (λ a e. sym c.field.ensures ∙ sym e));
      low = omega (arith, low);
    }

pub returns : goal.returns
returns c =
    places_all c.args.catalog.now c.args.image.now.sheet (word_in BASE c.args.at) (Some c.map_of-map.result) c.tail_len-tail.result c.map_of-map.ensures c.tail_len-tail.ensures c.loop-place.from c.args.found.now c.loop-place.found
    c.in_default.ensures c.loop-place.invariant.found
