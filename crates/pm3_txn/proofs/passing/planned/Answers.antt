use Rattle.std.proofs.Common.{◌≡◌, ◌∙◌, sym, ap, subst, arith}
use Rattle.atomic_table.specs.Seated.{TableId}
use Rattle.pm3_page.specs.PageSheets.{sheets_of}
use Rattle.pm3_access.specs.Parting.{joined}
use Rattle.pm3_copy.specs.Planning.{PlanState}
use Rattle.pm3_table.specs.declared.view.Told.{Told}
use Rattle.pm3_txn.specs.PassSteps.{IsPassing, set_aside, space_room}
use Rattle.pm3_txn.proofs.PassDraws.{drew_none, passing_roomy, some_rest}
use Rattle.pm3_txn.proofs.PassParts.{more_both}
use Rattle.pm3_txn.proofs.PassPlans.{sound_wide, volatile_sound, wanted_few, written_sound}
use Rattle.pm3_txn.proofs.Preparing.{fresh_on, plan_on, scan_on, turns_on}
use Rattle.pm3_txn.proofs.passing.planned.Goals as goal

pub plan-requires-clause-volatile : goal.plan-requires-clause-volatile
plan-requires-clause-volatile g c =
    let same : c.args.heap.now.1.opening.catalog ≡ c.heap.inside.catalog = ap (λ (h : TableId × Told). h.1.opening.catalog) (sym c.heap.view_is) ∙ c.heap.invariant.catalog_is in
    sound_wide c.args.heap.now.1.opening.catalog c.heap.inside.catalog c.args.heap.now.1.pages c.args.parted.now.volatile.images same c.page_count.ensures.small
    (volatile_sound c.args.heap.now.1 (set_aside c.args.heap.now.1 c.args.mutator.now c.requires.ready.log).pass.1 c.args.mutator.now.space c.args.parted.now c.requires.ready.underway.holding c.requires.parted c.page_count.ensures.small
    (some_rest c.args.parted.now.volatile.images c.args.parted.now.rest.space c.requires.ready.space))

pub plan-requires-clause-written : goal.plan-requires-clause-written
plan-requires-clause-written g c =
    let same : c.args.heap.now.1.opening.catalog ≡ c.heap.inside.catalog = ap (λ (h : TableId × Told). h.1.opening.catalog) (sym c.heap.view_is) ∙ c.heap.invariant.catalog_is in
    sound_wide c.args.heap.now.1.opening.catalog c.heap.inside.catalog c.args.heap.now.1.pages c.args.parted.now.written.images same c.page_count.ensures.small
    (written_sound c.args.heap.now.1 (set_aside c.args.heap.now.1 c.args.mutator.now c.requires.ready.log).pass.1 c.args.mutator.now.space c.args.parted.now c.requires.ready.underway.holding c.requires.parted c.page_count.ensures.small)

pub returns-then-not-turns_all-clause-drawn : goal.returns-then-not-turns_all-clause-drawn
returns-then-not-turns_all-clause-drawn g c = (0, drew_none c.args.mutator.now)

pub overflow_add-wanted : goal.overflow_add-wanted
overflow_add-wanted g c =
    let persistent : c.plan-2.inside.persistent ≡ c.in-Ok.plan.persistent = ap (λ (p : PlanState). p.persistent) c.plan-2.view_is in
    let volatile : c.plan-2.inside.volatile ≡ c.in-Ok.plan.volatile = ap (λ (p : PlanState). p.volatile) c.plan-2.view_is in
    let moved : c.plan-2.inside.moved ≡ c.in-Ok.plan.moved = ap (λ (p : PlanState). p.moved) c.plan-2.view_is in
    let one = c.in-Ok.ensures.plan.persistent in let other = c.in-Ok.ensures.plan.volatile in let both = c.in-Ok.ensures.plan.moved in
    let few = wanted_few c.heap.inside.catalog (sheets_of c.args.parted.now.volatile.images) c.in-Ok.plan.promoted in
    let less = wanted_few c.heap.inside.catalog (sheets_of c.args.parted.now.volatile.images) c.in-Ok.plan.kept in
    let fits = c.plan-2.ranges.1.1.1 in
    omega (arith, persistent, volatile, moved, one, other, both, few, less, fits)

pub room_for-requires-clause-few : goal.room_for-requires-clause-few
room_for-requires-clause-few g c =
    let persistent : c.plan-2.inside.persistent ≡ c.in-Ok.plan.persistent = ap (λ (p : PlanState). p.persistent) c.plan-2.view_is in
    let volatile : c.plan-2.inside.volatile ≡ c.in-Ok.plan.volatile = ap (λ (p : PlanState). p.volatile) c.plan-2.view_is in
    let long = c.in-Ok-fresh_pages.ensures.fresh.1 in let count = c.len.ensures.count in let few = c.len.ensures.few in
    let pins = c.in-Ok.ensures.plan.pins in let counted = c.len-2.ensures.count in let less = c.len-2.ensures.few in
    (omega (arith, persistent, volatile, long, count, few), omega (arith, pins, counted, less), c.in-Ok.ensures.few_turned)

pub returns-in_default-room_for-clause-ready : goal.returns-in_default-room_for-clause-ready
returns-in_default-room_for-clause-ready g c =
    subst (IsPassing g.D.Reader.Reader.content c.args.heap.now c.fresh_pages.new.mutator) (sym c.room_for.ensures.same)
    (passing_roomy g.D.Reader.Reader.content c.args.heap.now c.fresh_pages.new.mutator (joined c.fresh_pages.new.parted) c.fresh_pages.ensures.ready (space_room c.room_for.new.parted.rest.space))

pub returns-clause-ready : goal.returns-clause-ready
returns-clause-ready g c =
    subst (IsPassing g.D.Reader.Reader.content c.args.heap.now c.fresh_pages.new.mutator) (sym c.room_for.ensures.same)
    (passing_roomy g.D.Reader.Reader.content c.args.heap.now c.fresh_pages.new.mutator (joined c.fresh_pages.new.parted) c.fresh_pages.ensures.ready (space_room c.room_for.new.parted.rest.space))

pub returns-clause-parts : goal.returns-clause-parts
returns-clause-parts g c = more_both c.args.parted.now c.fresh_pages.new.parted c.room_for.new.parted c.fresh_pages.ensures.parts c.room_for.ensures.parts

pub returns-clause-prepared : goal.returns-clause-prepared
returns-clause-prepared g c =
    let same : c.args.heap.now.1.opening.catalog ≡ c.heap.inside.catalog = ap (λ (h : TableId × Told). h.1.opening.catalog) (sym c.heap.view_is) ∙ c.heap.invariant.catalog_is in
    let parts = more_both c.args.parted.now c.fresh_pages.new.parted c.room_for.new.parted c.fresh_pages.ensures.parts c.room_for.ensures.parts in
    let drawn = c.fresh_pages.ensures.drawn.1 in
    let persistent : c.plan-2.inside.persistent ≡ c.in-Ok.plan.persistent = ap (λ (p : PlanState). p.persistent) c.plan-2.view_is in
    let volatile : c.plan-2.inside.volatile ≡ c.in-Ok.plan.volatile = ap (λ (p : PlanState). p.volatile) c.plan-2.view_is in
    record {
      ready = returns-clause-ready g c;
      kept = drawn.kept;
      parts = parts;
      few = (let drew = drawn.drew in let most = c.fresh_pages.ensures.drawn.2 in omega (arith, drew, most, persistent, volatile));
      planned = record {
        words = c.requires.scanned.0;
        scanned = scan_on c.args.heap.now.1.pages c.args.mutator.now.pass.1.log c.fresh_pages.new.mutator.pass.1.log c.args.parted.now.volatile.images c.room_for.new.parted.volatile.images
            c.requires.scanned.0 c.args.pins drawn.log parts.volatile c.requires.scanned.1;
        plan = plan_on c.args.heap.now.1.opening.catalog c.heap.inside.catalog c.args.parted.now.volatile.images c.room_for.new.parted.volatile.images c.args.parted.now.written.images c.room_for.new.parted.written.images
            c.args.pins c.in-Ok.plan same parts.volatile parts.written c.in-Ok.ensures.plan;
        fresh = fresh_on c.fresh_pages.new.parted.rest.space c.room_for.new.parted.rest.space c.in-Ok-fresh_pages.fresh.images c.room_for.ensures.free c.in-Ok-fresh_pages.ensures.fresh.0;
        count = (let long = c.in-Ok-fresh_pages.ensures.fresh.1 in omega (arith, long, persistent, volatile));
        roomy = c.in-Ok-room_for.ensures.enough;
        turns = turns_on c.args.heap.now.1.pages c.args.mutator.now c.fresh_pages.new.mutator c.args.parted.now.volatile.images c.room_for.new.parted.volatile.images c.args.named.now c.in-Ok.plan.turned
            drawn.kept parts.volatile c.requires.named (c.turns_all.ensures.all c.if-not-turns_all.false);
      };
    }
