use Rattle.std.proofs.Common.{◌^◌, ◌<◌, ℕ, sym, ap, subst, ◌∙◌, arith}
use Rattle.std.specs.Prelude.{slice_get}
use Rattle.pm3_core.specs.declared.naming.TheConstants.{BASE}
use Rattle.pm3_types.specs.Layout.{page_in, word_in}
use Rattle.pm3_types.specs.PageForm.{is_memory_reference}
use Rattle.pm3_types.proofs.FormedObjects.{start_of, whole_start}
use Rattle.oo7_dump.specs.Places.{HasPlaces, places_of}
use Rattle.oo7_dump.proofs.Placed.{places_held}
use Rattle.oo7_dump.proofs.looking.parts_at.Goals as goal

pub image_at-image-requires-clause-low : goal.image_at-image-requires-clause-low
image_at-image-requires-clause-low c = (c.requires.sound _ c.requires.held.image c.requires.held.on).2

pub type_of-requires-clause-unmoved : goal.type_of-requires-clause-unmoved
type_of-requires-clause-unmoved c =
    let image = c.image_at-image.result.now in
    let sound = (c.requires.sound (page_in BASE c.args.at) image c.image_at-image.ensures.on).3 in
    (whole_start c.args.catalog.now (is_memory_reference BASE c.args.pages) image.page image.sheet (word_in BASE c.args.at) sound (start_of BASE image c.args.at c.image_at-image.ensures.begins)).unmoved

pub unreachable-requires : goal.unreachable-requires
unreachable-requires c =
    let image = c.image_at-image.result.now in
    let sound = (c.requires.sound (page_in BASE c.args.at) image c.image_at-image.ensures.on).3 in
    let whole = whole_start c.args.catalog.now (is_memory_reference BASE c.args.pages) image.page image.sheet (word_in BASE c.args.at) sound (start_of BASE image c.args.at c.image_at-image.ensures.begins) in
    cc (sym c.in_default.is ∙ c.get.ensures ∙ ap (slice_get c.args.catalog.now) c.type_of.ensures ∙ whole.of)

pub tail_len-requires-clause-unmoved : goal.tail_len-requires-clause-unmoved
tail_len-requires-clause-unmoved c =
    let image = c.image_at-image.result.now in
    let sound = (c.requires.sound (page_in BASE c.args.at) image c.image_at-image.ensures.on).3 in
    (whole_start c.args.catalog.now (is_memory_reference BASE c.args.pages) image.page image.sheet (word_in BASE c.args.at) sound (start_of BASE image c.args.at c.image_at-image.ensures.begins)).unmoved

pub places_of-requires : goal.places_of-requires
places_of-requires c =
    let image = c.image_at-image.result.now in
    let sound = (c.requires.sound (page_in BASE c.args.at) image c.image_at-image.ensures.on).3 in
    let held = places_held c.args.catalog.now c.args.pages c.args.images.now.images image c.args.at c.in-Some.map c.image_at-image.ensures.on c.image_at-image.ensures.begins sound
    (ap (slice_get c.args.catalog.now) (sym c.type_of.ensures) ∙ sym c.get.ensures ∙ c.in-Some.is) in
    let within = held.within in
    subst (λ (n : ℕ). places_of c.in-Some.map n < 2 ^ 32) (sym c.tail_len.ensures) (omega (arith, within))

pub returns : goal.returns
returns c =
    let image = c.image_at-image.result.now in
    let sound = (c.requires.sound (page_in BASE c.args.at) image c.image_at-image.ensures.on).3 in
    subst (λ (n : ℕ). HasPlaces c.args.catalog.now c.args.pages c.args.images.now.images c.args.at c.in-Some.map n) (sym (c.places_of.ensures ∙ ap (places_of c.in-Some.map) c.tail_len.ensures))
    (places_held c.args.catalog.now c.args.pages c.args.images.now.images image c.args.at c.in-Some.map c.image_at-image.ensures.on c.image_at-image.ensures.begins sound
    (ap (slice_get c.args.catalog.now) (sym c.type_of.ensures) ∙ sym c.get.ensures ∙ c.in-Some.is))
