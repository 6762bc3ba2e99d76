use Rattle.std.proofs.Common.{◌≡◌, ◌∙◌, Some, refl, ap, sym}
use Rattle.std.specs.FinMap as map
use Rattle.pm3_core.specs.declared.naming.TheConstants.{BASE}
use Rattle.pm3_types.specs.Layout.{page_in, word_in}
use Rattle.pm3_copy.specs.References.{RefersIn}
use Rattle.pm3_copy.specs.Spreading.{RefersFor}
use Rattle.pm3_copy.proofs.Adding.{adds_as}
use Rattle.pm3_copy.proofs.Turning.{refers_in, refers_to}
use Rattle.pm3_copy.proofs.Wholes.{whole_at, object_begins}
use Rattle.pm3_copy.proofs.keeping.follow.Goals as goal

pub find_referred-requires-clause-whole : goal.find_referred-requires-clause-whole
find_referred-requires-clause-whole c =
    let on : map.get c.args.volatile.now.images (page_in BASE c.args.at) ≡ Some c.in-Some.image.now = ap (map.get c.args.volatile.now.images) (sym c.page_of.ensures) ∙ sym c.in-Some.ensures in
    whole_at c.args.catalog.now BASE 16384 c.in-Some.image.now c.args.at (c.requires.sound.form (page_in BASE c.args.at) c.in-Some.image.now on)
    (object_begins BASE c.args.volatile.now.images (page_in BASE c.args.at) c.in-Some.image.now c.args.at on c.requires.object refl)

pub returns : goal.returns
returns c =
    let on : map.get c.args.volatile.now.images (page_in BASE c.args.at) ≡ Some c.in-Some.image.now = ap (map.get c.args.volatile.now.images) (sym c.page_of.ensures) ∙ sym c.in-Some.ensures in
    adds_as (RefersIn c.args.catalog.now c.in-Some.image.now.sheet (word_in BASE c.args.at)) (RefersFor c.args.catalog.now BASE c.args.volatile.now.images c.args.at) c.args.found.now c.find_referred.new.found c.find_referred.ensures
    (λ b there r. refers_in c.args.catalog.now BASE c.args.volatile.now.images c.requires.sound c.args.at b c.in-Some.image.now on r)
    (λ b r. refers_to c.args.catalog.now BASE c.args.volatile.now.images c.requires.sound c.args.at b c.in-Some.image.now on r)
