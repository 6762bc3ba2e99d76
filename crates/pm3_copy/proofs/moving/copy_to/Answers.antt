use Rattle.std.proofs.Common.{◌≡◌, ◌<◌, ◌∙◌, Option, Some, refl, ap, sym, arith, rules}
use Rattle.std.specs.FinMap as map
use Rattle.pm3_core.specs.declared.naming.TheConstants.{BASE}
use Rattle.pm3_types.specs.Layout.{Sheet, PageImage, page_in, word_in, end_of}
use Rattle.pm3_types.specs.PassMoves.{size_on}
use Rattle.pm3_copy.proofs.CopiedObjects.{put_copy}
use Rattle.pm3_copy.proofs.SoundPages.{sound_put}
use Rattle.pm3_copy.proofs.Wholes.{same_some, whole_at, object_begins, sheet_on}
use Rattle.pm3_copy.proofs.moving.copy_to.Goals as goal

pub copy_object-requires-clause-whole : goal.copy_object-requires-clause-whole
copy_object-requires-clause-whole c =
    let on : map.get c.args.volatile.now.images (page_in BASE c.args.at) ≡ Some c.in-Some.source.now = ap (map.get c.args.volatile.now.images) (sym c.page_of.ensures) ∙ sym c.in-Some.ensures in
    whole_at c.args.catalog.now BASE 16384 c.in-Some.source.now c.args.at (c.requires.volatile.form (page_in BASE c.args.at) c.in-Some.source.now on)
    (object_begins BASE c.args.volatile.now.images (page_in BASE c.args.at) c.in-Some.source.now c.args.at on c.requires.object refl)

pub copy_object-requires-clause-fits : goal.copy_object-requires-clause-fits
copy_object-requires-clause-fits c =
    let on : map.get c.args.volatile.now.images (page_in BASE c.args.at) ≡ Some c.in-Some.source.now = ap (map.get c.args.volatile.now.images) (sym c.page_of.ensures) ∙ sym c.in-Some.ensures in
    let size = ap (λ (o : Option Sheet). size_on c.args.catalog.now o (word_in BASE c.args.at)) (sheet_on c.args.volatile.now.images (page_in BASE c.args.at) c.in-Some.source.now on) in
    let same : c.requires.target.0 ≡ c.in-Some-get_mut.target.now = same_some c.requires.target.0 c.in-Some-get_mut.target.now (sym c.requires.target.1 ∙ sym c.in-Some-get_mut.ensures.value) in
    let end = ap (λ (i : PageImage). end_of i.sheet) same in
    omega (arith, c.requires.target.3, size, end)

pub returns-clause-copied : goal.returns-clause-copied
returns-clause-copied c =
    let on : map.get c.args.volatile.now.images (page_in BASE c.args.at) ≡ Some c.in-Some.source.now = ap (map.get c.args.volatile.now.images) (sym c.page_of.ensures) ∙ sym c.in-Some.ensures in
    put_copy c.args.catalog.now BASE c.args.volatile.now.images c.args.at c.args.page c.args.fresh.now.images c.in-Some.source.now c.in-Some-get_mut.target.now c.copy_object.new.target on
    (object_begins BASE c.args.volatile.now.images (page_in BASE c.args.at) c.in-Some.source.now c.args.at on c.requires.object refl)
    (sym c.in-Some-get_mut.ensures.value) c.copy_object.ensures.copied

pub returns-clause-sound : goal.returns-clause-sound
returns-clause-sound c =
    let home : c.in-Some-get_mut.target.now.page ≡ c.args.page = c.requires.fresh.home c.args.page c.in-Some-get_mut.target.now (sym c.in-Some-get_mut.ensures.value) in
    let low : c.args.page < 16384 = search rules in
    sound_put c.args.catalog.now BASE 16384 c.args.fresh.now.images c.args.page c.copy_object.new.target c.requires.fresh (c.copy_object.ensures.copied.page ∙ home) low c.copy_object.ensures.sound
