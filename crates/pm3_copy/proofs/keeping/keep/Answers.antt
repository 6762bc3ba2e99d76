use Rattle.std.proofs.Common.{◌<◌, ℕ, List, length, get_or, sym, subst, arith}
use Rattle.std.specs.List.{Contains}
use Rattle.std.proofs.lemmas.List.Elements.{Contains-get_or}
use Rattle.pm3_core.specs.declared.naming.TheConstants.{BASE}
use Rattle.pm3_copy.specs.Finds.{Adds}
use Rattle.pm3_copy.specs.Spreading.{RefersFor}
use Rattle.pm3_copy.specs.Whole.{IsObjectOf}
use Rattle.pm3_copy.proofs.Stayers.{IsKeeping, keeping_none, keeping_more, keeping_all}
use Rattle.pm3_copy.proofs.keeping.keep.Goals as goal

pub loop-next-init : goal.loop-next-init
loop-next-init c =
    subst (IsKeeping c.args.catalog.now BASE c.args.volatile.now.images c.args.pinned.now c.args.found.now c.find_on_pages.new.found) (sym c.len-next.ensures.count)
    (keeping_none c.args.catalog.now BASE c.args.volatile.now.images c.args.pinned.now c.requires.sound c.args.found.now c.requires.objects c.find_on_pages.new.found c.find_on_pages.ensures)

pub follow-requires-clause-object : goal.follow-requires-clause-object
follow-requires-clause-object c =
    let low : c.loop-next.next < length c.loop-next.found.list = omega arith in
    let there = c.len.ensures.whole (get_or c.loop-next.found.list c.loop-next.next 0) (Contains-get_or c.loop-next.found.list c.loop-next.next 0 low) in
    subst (IsObjectOf BASE c.args.volatile.now.images) (sym c.get-at.ensures)
    (c.requires.objects.only (get_or c.loop-next.found.list c.loop-next.next 0) (subst (λ (xs : List ℕ). Contains xs (get_or c.loop-next.found.list c.loop-next.next 0)) c.loop-next.invariant.same there))

pub loop-next-preserved : goal.loop-next-preserved
loop-next-preserved c =
    let low : c.loop-next.next < length c.loop-next.found.list = omega arith in
    let Follows : ℕ → Type 0 = λ a. Adds (RefersFor c.args.catalog.now BASE c.args.volatile.now.images a) c.loop-next.found c.follow.new.found in
    keeping_more c.args.catalog.now BASE c.args.volatile.now.images c.args.pinned.now c.requires.sound c.args.found.now c.requires.objects c.loop-next.found c.follow.new.found c.loop-next.next c.loop-next.invariant low
    (subst Follows c.get-at.ensures c.follow.ensures)

pub returns-clause-live : goal.returns-clause-live
returns-clause-live c =
    keeping_all c.args.catalog.now BASE c.args.volatile.now.images c.args.pinned.now c.requires.sound c.args.found.now c.requires.objects c.loop-next.found c.loop-next.next c.loop-next.invariant (omega arith)
