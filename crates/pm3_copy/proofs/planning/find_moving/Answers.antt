use Rattle.std.proofs.Common.{◌∙◌, ℕ, List, length, ap, sym, subst, arith}
use Rattle.std.specs.List.{All, Contains}
use Rattle.pm3_core.specs.declared.naming.TheConstants.{BASE}
use Rattle.pm3_types.specs.PassMoves.{IsRising, IsListOf}
use Rattle.pm3_types.specs.PassSets.{Promoted, Kept}
use Rattle.pm3_copy.specs.Blocks.{AreBothNumbered, AreOnSome}
use Rattle.pm3_copy.specs.Spreading.{AreFree, Picks, before_of}
use Rattle.pm3_copy.proofs.PlanParts.{few, on_pages, movers_on, promoted_movers, kept_movers, promoted_object, kept_object, promoted_objects, kept_objects}
use Rattle.pm3_copy.proofs.Stayers.{kept_apart}
use Rattle.pm3_copy.proofs.planning.find_moving.Goals as goal

pub movers-requires-clause-objects : goal.movers-requires-clause-objects
movers-requires-clause-objects c =
    let same = c.in_ok-turned.ensures.objects in
    on_pages c.args.catalog.now BASE c.args.volatile.now.images c.requires.volatile c.promote.new.found.objects
    (λ a is. c.in_ok-found.ensures.objects.only a (subst (λ (xs : List ℕ). Contains xs a) same is))

pub movers-requires-2-clause-others : goal.movers-requires-2-clause-others
movers-requires-2-clause-others c =
    subst (All (Contains c.keep.new.found.objects)) (sym c.deref.ensures.value)
    (subst (λ (xs : List ℕ). All (Contains xs) c.in_ok-promoted.promoted.items) (sym c.keep.ensures.objects) c.in_ok-promoted.ensures.within)

pub movers-requires-2-clause-objects : goal.movers-requires-2-clause-objects
movers-requires-2-clause-objects c =
    let same = c.keep.ensures.objects ∙ c.in_ok-turned.ensures.objects in
    on_pages c.args.catalog.now BASE c.args.volatile.now.images c.requires.volatile c.keep.new.found.objects
    (λ a is. c.in_ok-found.ensures.objects.only a (subst (λ (xs : List ℕ). Contains xs a) same is))

pub movers-requires-2-clause-free : goal.movers-requires-2-clause-free
movers-requires-2-clause-free c =
    subst (AreFree BASE c.args.pinned.now) (sym c.deref.ensures.value) (λ a is.
    ((promoted_movers c.args.catalog.now BASE c.args.volatile.now.images c.args.written.now.images c.args.pinned.now c.requires.volatile c.promote.new.found c.in_ok-promoted.promoted.items
    c.in_ok-turned.ensures.promoted c.in_ok-promoted.ensures.picked).only a is).1)

pub returns-clause-promoted : goal.returns-clause-promoted
returns-clause-promoted c =
    promoted_movers c.args.catalog.now BASE c.args.volatile.now.images c.args.written.now.images c.args.pinned.now c.requires.volatile c.promote.new.found c.in_ok-promoted.promoted.items c.in_ok-turned.ensures.promoted
    c.in_ok-promoted.ensures.picked

pub returns-clause-kept : goal.returns-clause-kept
returns-clause-kept c =
    let others = subst (λ (xs : List ℕ). IsListOf (Picks BASE c.args.pinned.now xs c.keep.new.found) c.in_ok-kept.kept.items) c.deref.ensures.value c.in_ok-kept.ensures.picked in
    kept_movers c.args.catalog.now BASE c.args.volatile.now.images c.args.written.now.images c.args.pinned.now c.requires.volatile c.keep.new.found c.in_ok-promoted.promoted.items c.in_ok-kept.kept.items
    (c.keep.ensures.live c.args.written.now.images c.in_ok-turned.ensures.promoted) (returns-clause-promoted c) others

pub returns-clause-turned : goal.returns-clause-turned
returns-clause-turned c = c.in_ok-turned.ensures.turned

pub returns-clause-freed : goal.returns-clause-freed
returns-clause-freed c = c.in_ok-freed.ensures

pub index_of-requires-clause-promoted : goal.index_of-requires-clause-promoted
index_of-requires-clause-promoted c =
    let before = before_of c.args.volatile.now.images c.args.written.now.images c.args.pinned.now in
    let movers = promoted_movers c.args.catalog.now BASE c.args.volatile.now.images c.args.written.now.images c.args.pinned.now c.requires.volatile c.promote.new.found c.in_ok-promoted.promoted.items
    c.in_ok-turned.ensures.promoted c.in_ok-promoted.ensures.picked in
    subst (AreOnSome BASE c.in_ok-freed.freed) (sym c.deref-2.ensures.value)
    (movers_on c.args.catalog.now BASE c.args.volatile.now.images c.args.written.now.images c.args.pinned.now c.requires.volatile (Promoted c.args.catalog.now BASE before) c.in_ok-promoted.promoted.items
    c.in_ok-freed.freed (promoted_object c.args.catalog.now BASE c.args.volatile.now.images c.args.written.now.images c.args.pinned.now c.requires.volatile) movers c.in_ok-freed.ensures)

pub index_of-requires-clause-kept : goal.index_of-requires-clause-kept
index_of-requires-clause-kept c =
    let before = before_of c.args.volatile.now.images c.args.written.now.images c.args.pinned.now in
    let promoted = promoted_movers c.args.catalog.now BASE c.args.volatile.now.images c.args.written.now.images c.args.pinned.now c.requires.volatile c.promote.new.found c.in_ok-promoted.promoted.items
    c.in_ok-turned.ensures.promoted c.in_ok-promoted.ensures.picked in
    let movers = kept_movers c.args.catalog.now BASE c.args.volatile.now.images c.args.written.now.images c.args.pinned.now c.requires.volatile c.keep.new.found c.in_ok-promoted.promoted.items c.in_ok-kept.kept.items
    (c.keep.ensures.live c.args.written.now.images c.in_ok-turned.ensures.promoted) promoted
    (subst (λ (xs : List ℕ). IsListOf (Picks BASE c.args.pinned.now xs c.keep.new.found) c.in_ok-kept.kept.items) c.deref.ensures.value c.in_ok-kept.ensures.picked) in
    subst (AreOnSome BASE c.in_ok-freed.freed) (sym c.deref-3.ensures.value)
    (movers_on c.args.catalog.now BASE c.args.volatile.now.images c.args.written.now.images c.args.pinned.now c.requires.volatile (Kept c.args.catalog.now BASE before) c.in_ok-kept.kept.items
    c.in_ok-freed.freed (kept_object c.args.catalog.now BASE c.args.volatile.now.images c.args.written.now.images c.args.pinned.now c.requires.volatile) movers c.in_ok-freed.ensures)

pub index_of-requires-clause-apart : goal.index_of-requires-clause-apart
index_of-requires-clause-apart c a one other =
    let first = subst (λ (xs : List ℕ). Contains xs a) c.deref-2.ensures.value one in
    let second = subst (λ (xs : List ℕ). Contains xs a) c.deref-3.ensures.value other in
    let promoted = promoted_movers c.args.catalog.now BASE c.args.volatile.now.images c.args.written.now.images c.args.pinned.now c.requires.volatile c.promote.new.found c.in_ok-promoted.promoted.items c.in_ok-turned.ensures.promoted
    c.in_ok-promoted.ensures.picked in
    let kept = kept_movers c.args.catalog.now BASE c.args.volatile.now.images c.args.written.now.images c.args.pinned.now c.requires.volatile c.keep.new.found c.in_ok-promoted.promoted.items c.in_ok-kept.kept.items
    (c.keep.ensures.live c.args.written.now.images c.in_ok-turned.ensures.promoted) promoted
    (subst (λ (xs : List ℕ). IsListOf (Picks BASE c.args.pinned.now xs c.keep.new.found) c.in_ok-kept.kept.items) c.deref.ensures.value c.in_ok-kept.ensures.picked) in
    kept_apart c.args.catalog.now BASE (before_of c.args.volatile.now.images c.args.written.now.images c.args.pinned.now) a (kept.only a second).0 (promoted.only a first).0

pub index_of-requires-clause-few : goal.index_of-requires-clause-few
index_of-requires-clause-few c =
    let promoted = promoted_movers c.args.catalog.now BASE c.args.volatile.now.images c.args.written.now.images c.args.pinned.now c.requires.volatile c.promote.new.found c.in_ok-promoted.promoted.items c.in_ok-turned.ensures.promoted
    c.in_ok-promoted.ensures.picked in
    let kept = kept_movers c.args.catalog.now BASE c.args.volatile.now.images c.args.written.now.images c.args.pinned.now c.requires.volatile c.keep.new.found c.in_ok-promoted.promoted.items c.in_ok-kept.kept.items
    (c.keep.ensures.live c.args.written.now.images c.in_ok-turned.ensures.promoted) promoted
    (subst (λ (xs : List ℕ). IsListOf (Picks BASE c.args.pinned.now xs c.keep.new.found) c.in_ok-kept.kept.items) c.deref.ensures.value c.in_ok-kept.ensures.picked) in
    let first = few c.args.catalog.now BASE c.args.volatile.now.images c.requires.volatile c.in_ok-promoted.promoted.items promoted.rising
    (promoted_objects c.args.catalog.now BASE c.args.volatile.now.images c.args.written.now.images c.args.pinned.now c.requires.volatile c.in_ok-promoted.promoted.items promoted) in
    let second = few c.args.catalog.now BASE c.args.volatile.now.images c.requires.volatile c.in_ok-kept.kept.items kept.rising
    (kept_objects c.args.catalog.now BASE c.args.volatile.now.images c.args.written.now.images c.args.pinned.now c.requires.volatile c.in_ok-kept.kept.items kept) in
    let a = ap (λ (xs : List ℕ). length xs) c.deref-2.ensures.value in
    let b = ap (λ (xs : List ℕ). length xs) c.deref-3.ensures.value in
    omega (arith, first, second, a, b)

pub index_of-requires-clause-promoted_rise : goal.index_of-requires-clause-promoted_rise
index_of-requires-clause-promoted_rise c = subst IsRising (sym c.deref-2.ensures.value) c.in_ok-promoted.ensures.picked.rising

pub index_of-requires-clause-kept_rise : goal.index_of-requires-clause-kept_rise
index_of-requires-clause-kept_rise c = subst IsRising (sym c.deref-3.ensures.value) c.in_ok-kept.ensures.picked.rising

pub returns-clause-numbered : goal.returns-clause-numbered
returns-clause-numbered c =
    let Are : List ℕ → List ℕ → Type 0 = AreBothNumbered BASE c.in_ok-index.index.blocks.by_page.items c.in_ok-index.index.numbers.items in
    subst (Are c.in_ok-promoted.promoted.items) c.deref-3.ensures.value (subst (λ first. Are first c.deref-3.result.now) c.deref-2.ensures.value c.in_ok-index.ensures)
