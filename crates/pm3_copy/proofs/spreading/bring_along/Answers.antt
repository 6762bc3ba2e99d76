use Rattle.std.proofs.Common.{◌≡◌, ◌∙◌, ℕ, true, Some, refl, ap, sym, subst}
use Rattle.std.specs.FinMap as map
use Rattle.std.specs.FinSet as set
use Rattle.pm3_core.specs.declared.naming.TheConstants.{BASE}
use Rattle.pm3_types.specs.Layout.{page_in, begins_at}
use Rattle.pm3_copy.specs.Finds.{Adds}
use Rattle.pm3_copy.specs.Spreading.{TurnsPage}
use Rattle.pm3_copy.proofs.Turning.{brought, whole_after}
use Rattle.pm3_copy.proofs.Adding.{adds_keeps}
use Rattle.pm3_types.proofs.FormedObjects.{page_is}
use Rattle.pm3_copy.proofs.Wholes.{whole_at, object_of, object_begins}
use Rattle.pm3_copy.proofs.spreading.bring_along.Goals as goal

pub find_referred-requires-clause-whole : goal.find_referred-requires-clause-whole
find_referred-requires-clause-whole c =
    let on : map.get c.args.volatile.now.images (page_in BASE c.args.at) ≡ Some c.in-Some.image.now = ap (map.get c.args.volatile.now.images) (sym c.page_of-page.ensures) ∙ sym c.in-Some.ensures in
    whole_at c.args.catalog.now BASE 16384 c.in-Some.image.now c.args.at (c.requires.sound.form (page_in BASE c.args.at) c.in-Some.image.now on)
    (object_begins BASE c.args.volatile.now.images (page_in BASE c.args.at) c.in-Some.image.now c.args.at on c.requires.object refl)

pub turn-requires-clause-whole : goal.turn-requires-clause-whole
turn-requires-clause-whole c = λ turned b is.
    let on : map.get c.args.volatile.now.images c.page_of-page.result ≡ Some c.in-Some.image.now = sym c.in-Some.ensures in
    let page : page_in BASE b ≡ c.page_of-page.result = page_is BASE c.in-Some.image.now b is ∙ c.requires.sound.home c.page_of-page.result c.in-Some.image.now on in
    adds_keeps _ c.args.found.now c.find_referred.new.found b c.find_referred.ensures
    (c.requires.whole b (ap (set.contains c.args.turned.now) page ∙ turned) (object_of BASE c.args.volatile.now.images c.page_of-page.result c.in-Some.image.now b c.requires.sound.home on is))

pub returns-clause-found : goal.returns-clause-found
returns-clause-found c =
    let on : map.get c.args.volatile.now.images (page_in BASE c.args.at) ≡ Some c.in-Some.image.now = ap (map.get c.args.volatile.now.images) (sym c.page_of-page.ensures) ∙ sym c.in-Some.ensures in
    let Turned : ℕ → Type 0 = λ p. Adds (λ b. (set.contains c.args.pinned.now p ≡ true) × (begins_at BASE c.in-Some.image.now b ≡ true)) c.find_referred.new.found c.turn.new.found in
    brought c.args.catalog.now BASE c.args.volatile.now.images c.requires.sound c.args.pinned.now c.args.at c.in-Some.image.now c.args.found.now c.find_referred.new.found c.turn.new.found on c.find_referred.ensures
    (subst Turned c.page_of-page.ensures c.in_ok-turn.ensures.found)

pub returns-clause-whole : goal.returns-clause-whole
returns-clause-whole c =
    let on : map.get c.args.volatile.now.images (page_in BASE c.args.at) ≡ Some c.in-Some.image.now = ap (map.get c.args.volatile.now.images) (sym c.page_of-page.ensures) ∙ sym c.in-Some.ensures in
    let Turned : ℕ → Type 0 = λ p. TurnsPage c.args.pinned.now p c.args.turned.now c.turn.new.turned in
    whole_after c.args.catalog.now BASE c.args.volatile.now.images c.requires.sound c.args.pinned.now c.args.turned.now c.turn.new.turned c.args.at c.in-Some.image.now c.args.found.now c.turn.new.found on
    c.requires.objects (returns-clause-found c) (subst Turned c.page_of-page.ensures c.in_ok-turn.ensures.turned) c.requires.whole
