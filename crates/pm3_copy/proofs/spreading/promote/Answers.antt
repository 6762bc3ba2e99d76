use Rattle.std.proofs.Common.{◌<◌, ℕ, [], List, length, get_or, refl, sym, subst, arith}
use Rattle.std.specs.List.{Contains}
use Rattle.std.proofs.lemmas.List.Elements.{Contains-get_or}
use Rattle.pm3_core.specs.declared.naming.TheConstants.{BASE}
use Rattle.pm3_types.specs.PassMoves.{IsListOf}
use Rattle.pm3_copy.specs.Spreading.{before_of, LeadsTo, TurnsPage}
use Rattle.pm3_copy.specs.Finds.{Adds}
use Rattle.pm3_types.specs.Layout.{page_in}
use Rattle.pm3_copy.specs.Whole.{IsObjectOf}
use Rattle.pm3_types.proofs.PassLater.{promoted_there}
use Rattle.pm3_copy.proofs.Wholes.{object_there}
use Rattle.pm3_copy.proofs.Turning.{IsPromoting, promoting_none, promoting_more, promoting_all, turned_all}
use Rattle.pm3_copy.proofs.spreading.promote.Goals as goal

nothing_in : (a : ℕ) → Contains [] a → ⊥
nothing_in a (k, low, is) = absurd (omega arith)

pub loop-next-init : goal.loop-next-init
loop-next-init c =
    subst (λ turned. IsPromoting c.args.catalog.now BASE c.args.volatile.now.images c.args.written.now.images c.args.pinned.now c.args.found.now.objects c.find_from_images.new.found turned 0) (sym c.new-turned.ensures)
    (promoting_none c.args.catalog.now BASE c.args.volatile.now.images c.args.written.now.images c.args.pinned.now c.requires.volatile c.requires.written c.args.found.now.objects c.requires.objects
    c.args.found.now c.find_from_images.new.found refl (λ a is. nothing_in a (subst (λ (xs : List ℕ). Contains xs a) c.requires.none is)) c.find_from_images.ensures)

pub bring_along-requires-clause-object : goal.bring_along-requires-clause-object
bring_along-requires-clause-object c =
    let low : c.loop-next.next < length c.loop-next.found.list = omega arith in
    let member = c.loop-next.invariant.spread.only (get_or c.loop-next.found.list c.loop-next.next 0) (Contains-get_or c.loop-next.found.list c.loop-next.next 0 low) in
    let before = before_of c.args.volatile.now.images c.args.written.now.images c.args.pinned.now in
    subst (IsObjectOf BASE c.args.volatile.now.images) (sym c.get-at.ensures)
    (object_there c.args.catalog.now BASE 16384 c.args.volatile.now.images (get_or c.loop-next.found.list c.loop-next.next 0) c.requires.volatile
    (promoted_there c.args.catalog.now BASE before (get_or c.loop-next.found.list c.loop-next.next 0) member))

pub bring_along-requires-clause-objects : goal.bring_along-requires-clause-objects
bring_along-requires-clause-objects c = subst (IsListOf (IsObjectOf BASE c.args.volatile.now.images)) (sym c.loop-next.invariant.same) c.requires.objects

pub loop-next-preserved : goal.loop-next-preserved
loop-next-preserved c =
    let low : c.loop-next.next < length c.loop-next.found.list = omega arith in
    let Follows : ℕ → Type 0 = λ a. Adds (LeadsTo c.args.catalog.now BASE c.args.volatile.now.images c.args.pinned.now a) c.loop-next.found c.bring_along.new.found in
    let Turned : ℕ → Type 0 = λ a. TurnsPage c.args.pinned.now (page_in BASE a) c.loop-next.turned c.bring_along.new.turned in
    promoting_more c.args.catalog.now BASE c.args.volatile.now.images c.args.written.now.images c.args.pinned.now c.requires.volatile c.requires.written c.args.found.now.objects c.requires.objects
    c.loop-next.found c.bring_along.new.found c.loop-next.turned c.bring_along.new.turned c.loop-next.next c.loop-next.invariant low (subst Follows c.get-at.ensures c.in_ok-bring_along.ensures.found)
    (subst Turned c.get-at.ensures c.in_ok-bring_along.ensures.turned) c.in_ok-bring_along.ensures.whole

pub returns-clause-promoted : goal.returns-clause-promoted
returns-clause-promoted c =
    promoting_all c.args.catalog.now BASE c.args.volatile.now.images c.args.written.now.images c.args.pinned.now c.requires.volatile c.requires.written c.args.found.now.objects c.requires.objects
    c.loop-next.found c.loop-next.turned c.loop-next.next c.loop-next.invariant (omega arith)

pub returns-clause-turned : goal.returns-clause-turned
returns-clause-turned c =
    turned_all c.args.catalog.now BASE c.args.volatile.now.images c.args.written.now.images c.args.pinned.now c.requires.volatile c.requires.written c.args.found.now.objects c.requires.objects
    c.loop-next.found c.loop-next.turned c.loop-next.next c.loop-next.invariant (omega arith)
