use Rattle.std.proofs.Common.{◌≡◌, ◌∙◌, Option, Some, refl, ap, sym, arith}
use Rattle.std.specs.FinMap as map
use Rattle.pm3_core.specs.declared.naming.TheConstants.{BASE}
use Rattle.pm3_types.specs.Layout.{Sheet, page_in, word_in}
use Rattle.pm3_types.specs.PassMoves.{size_on}
use Rattle.pm3_copy.proofs.Wholes.{whole_at, object_begins, sheet_on}
use Rattle.pm3_copy.proofs.wanted.size_at.Goals as goal

pub size_of-requires-clause-whole : goal.size_of-requires-clause-whole
size_of-requires-clause-whole c =
    let on : map.get c.args.images.now.images (page_in BASE c.args.at) ≡ Some c.in-Some.image.now = ap (map.get c.args.images.now.images) (sym c.page_of.ensures) ∙ sym c.in-Some.ensures in
    whole_at c.args.catalog.now BASE 16384 c.in-Some.image.now c.args.at (c.requires.sound.form (page_in BASE c.args.at) c.in-Some.image.now on)
    (object_begins BASE c.args.images.now.images (page_in BASE c.args.at) c.in-Some.image.now c.args.at on c.requires.object refl)

pub returns-clause-size : goal.returns-clause-size
returns-clause-size c =
    let on : map.get c.args.images.now.images (page_in BASE c.args.at) ≡ Some c.in-Some.image.now = ap (map.get c.args.images.now.images) (sym c.page_of.ensures) ∙ sym c.in-Some.ensures in
    c.size_of.ensures.size ∙ sym (ap (λ (o : Option Sheet). size_on c.args.catalog.now o (word_in BASE c.args.at)) (sheet_on c.args.images.now.images (page_in BASE c.args.at) c.in-Some.image.now on))

pub returns-clause-bounds : goal.returns-clause-bounds
returns-clause-bounds c =
    let on : map.get c.args.images.now.images (page_in BASE c.args.at) ≡ Some c.in-Some.image.now = ap (map.get c.args.images.now.images) (sym c.page_of.ensures) ∙ sym c.in-Some.ensures in
    let whole = whole_at c.args.catalog.now BASE 16384 c.in-Some.image.now c.args.at (c.requires.sound.form (page_in BASE c.args.at) c.in-Some.image.now on)
    (object_begins BASE c.args.images.now.images (page_in BASE c.args.at) c.in-Some.image.now c.args.at on c.requires.object refl) in
    (c.size_of.ensures.low, omega (arith, whole.low, c.size_of.ensures.within))
