use Rattle.std.proofs.Common.{◌≡◌, ◌+◌, ◌++◌, ◌∙◌, inl, inr, ℕ, List, take, drop, length, ap, sym, subst, arith}
use Rattle.std.specs.FinMap as map
use Rattle.pm3_core.specs.declared.naming.TheConstants.{BASE}
use Rattle.pm3_types.specs.PassMoves.{paired, moved_by, wanted_by}
use Rattle.pm3_page.specs.PageMap.{Images}
use Rattle.pm3_page.specs.PageSheets.{sheets_of}
use Rattle.pm3_copy.specs.Moving.{AreMoved}
use Rattle.pm3_copy.specs.Renaming.{AreUpdated}
use Rattle.pm3_copy.specs.Spreading.{before_of}
use Rattle.pm3_copy.specs.Tables.{follows}
use Rattle.pm3_copy.specs.Whole.{IsObjectOf}
use Rattle.pm3_copy.proofs.Carried.{updated_pages}
use Rattle.pm3_copy.proofs.CarriedOut.{is_carried_out}
use Rattle.pm3_copy.proofs.FreshPages.{blank_sound, fresh_next, first_long, second_long, filled_least}
use Rattle.pm3_copy.proofs.PlanParted.{parted_of, parted_sound, parted_apart, parted_bounded, keeps_references}
use Rattle.pm3_copy.proofs.PlanParts.{all_of, promoted_objects, kept_objects}
use Rattle.pm3_copy.proofs.Stayers.{kept_apart}
use Rattle.pm3_copy.proofs.carrying.carry_out.Goals as goal

pub move_both-tables-requires-clause-promoted : goal.move_both-tables-requires-clause-promoted
move_both-tables-requires-clause-promoted c =
    let plan = rw (← c.plan.view_is) at c.requires.plan in
    all_of (IsObjectOf BASE c.args.volatile.now.images) c.plan.inside.promoted
    (promoted_objects c.args.catalog.now BASE c.args.volatile.now.images c.args.written.now.images plan.0 c.requires.volatile c.plan.inside.promoted plan.1.promoted)

pub move_both-tables-requires-clause-kept : goal.move_both-tables-requires-clause-kept
move_both-tables-requires-clause-kept c =
    let plan = rw (← c.plan.view_is) at c.requires.plan in
    all_of (IsObjectOf BASE c.args.volatile.now.images) c.plan.inside.kept
    (kept_objects c.args.catalog.now BASE c.args.volatile.now.images c.args.written.now.images plan.0 c.requires.volatile c.plan.inside.kept plan.1.kept)

pub move_both-tables-requires-clause-promoted_rise : goal.move_both-tables-requires-clause-promoted_rise
move_both-tables-requires-clause-promoted_rise c = (let plan = rw (← c.plan.view_is) at c.requires.plan in plan.1.promoted.rising)

pub move_both-tables-requires-clause-kept_rise : goal.move_both-tables-requires-clause-kept_rise
move_both-tables-requires-clause-kept_rise c = (let plan = rw (← c.plan.view_is) at c.requires.plan in plan.1.kept.rising)

pub move_both-tables-requires-clause-apart : goal.move_both-tables-requires-clause-apart
move_both-tables-requires-clause-apart c = λ a one other.
    let plan = rw (← c.plan.view_is) at c.requires.plan in
    kept_apart c.args.catalog.now BASE (before_of c.args.volatile.now.images c.args.written.now.images plan.0) a (plan.1.kept.only a other).0 (plan.1.promoted.only a one).0

pub move_both-tables-requires-clause-fresh : goal.move_both-tables-requires-clause-fresh
move_both-tables-requires-clause-fresh c = blank_sound c.args.catalog.now BASE c.args.fresh.images c.requires.fresh

pub move_both-tables-requires-clause-room : goal.move_both-tables-requires-clause-room
move_both-tables-requires-clause-room c =
    let plan = rw (← c.plan.view_is) at c.requires.plan in
    let wanted = rw (← c.plan.view_is) at c.requires.wanted in
    let n = wanted_by c.args.catalog.now BASE (sheets_of c.args.volatile.now.images) c.plan.inside.promoted in
    let m = wanted_by c.args.catalog.now BASE (sheets_of c.args.volatile.now.images) c.plan.inside.kept in
    let long : map.len c.args.fresh.images ≡ n + m = omega (arith, wanted, plan.1.persistent, plan.1.volatile) in (
      take n (map.keys c.args.fresh.images),
      drop n (map.keys c.args.fresh.images),
      fresh_next c.args.fresh.images c.requires.fresh n m long,
      first_long c.args.fresh.images c.requires.fresh n m long,
      second_long c.args.fresh.images c.requires.fresh n m long,
    )

pub part-requires-clause-pages : goal.part-requires-clause-pages
part-requires-clause-pages c =
    let n = c.plan.inside.persistent in
    let m = c.plan.inside.volatile in
    let long : map.len c.args.fresh.images ≡ n + m = rw (← c.plan.view_is) at c.requires.wanted in (
      take n (map.keys c.args.fresh.images),
      drop n (map.keys c.args.fresh.images),
      filled_least c.args.fresh.images c.requires.fresh n m long c.move_both-tables.new.fresh.images c.move_both-tables.ensures.moved.pages,
      first_long c.args.fresh.images c.requires.fresh n m long,
      second_long c.args.fresh.images c.requires.fresh n m long,
    )

pub update_all-requires-clause-keeps : goal.update_all-requires-clause-keeps
update_all-requires-clause-keeps c =
    keeps_references c.args.catalog.now BASE c.args.volatile.now.images c.plan.inside.promoted c.plan.inside.kept (follows c.move_both-tables.result) c.args.fresh.images c.move_both-tables.new.fresh.images
    c.move_both-tables.ensures.moved

pub update_all-requires-clause-sound : goal.update_all-requires-clause-sound
update_all-requires-clause-sound c =
    let plan = rw (← c.plan.view_is) at c.requires.plan in
    let wanted = rw (← c.plan.view_is) at c.requires.wanted in
    parted_sound c.args.catalog.now BASE c.args.volatile.now.images c.args.written.now.images c.args.fresh.images c.move_both-tables.new.fresh.images c.part.new.volatile.images c.part.new.written.images plan.0 _ plan.1
    plan.2 c.requires.apart c.requires.fresh_apart c.requires.fresh wanted c.move_both-tables.ensures.moved.pages c.part.ensures
    c.requires.volatile c.requires.written c.move_both-tables.ensures.sound c.part.new.volatile.images (λ p image on. inl on)

pub update_all-requires-2-clause-sound : goal.update_all-requires-2-clause-sound
update_all-requires-2-clause-sound c =
    let plan = rw (← c.plan.view_is) at c.requires.plan in
    let wanted = rw (← c.plan.view_is) at c.requires.wanted in
    parted_sound c.args.catalog.now BASE c.args.volatile.now.images c.args.written.now.images c.args.fresh.images c.move_both-tables.new.fresh.images c.part.new.volatile.images c.part.new.written.images plan.0 _ plan.1
    plan.2 c.requires.apart c.requires.fresh_apart c.requires.fresh wanted c.move_both-tables.ensures.moved.pages c.part.ensures
    c.requires.volatile c.requires.written c.move_both-tables.ensures.sound c.part.new.written.images (λ p image on. inr on)

pub returns-clause-carried : goal.returns-clause-carried
returns-clause-carried c pinned all now is_plan within joined_all joined_now =
    let plan = rw (← c.plan.view_is) at is_plan in
    let wanted = rw (← c.plan.view_is) at c.requires.wanted in
    let parted = parted_of c.args.catalog.now BASE c.args.volatile.now.images c.args.written.now.images c.args.fresh.images c.move_both-tables.new.fresh.images c.part.new.volatile.images c.part.new.written.images pinned _ plan
    within c.requires.apart c.requires.fresh_apart c.requires.fresh wanted c.move_both-tables.ensures.moved.pages c.part.ensures in
    let table = c.move_both-tables.result in
    let To : List ℕ → List ℕ → ℕ → ℕ = λ first second w. moved_by (paired first c.move_both-tables.result.promoted.news.items ++ paired second c.move_both-tables.result.kept.news.items) w in
    let olds = c.move_both-tables.ensures.olds in
    let n = wanted_by c.args.catalog.now BASE (sheets_of c.args.volatile.now.images) c.plan.inside.promoted in
    let m = wanted_by c.args.catalog.now BASE (sheets_of c.args.volatile.now.images) c.plan.inside.kept in
    let long : map.len c.args.fresh.images ≡ n + m = omega (arith, wanted, plan.persistent, plan.volatile) in
    let settled = c.move_both-tables.ensures.settled (take n (map.keys c.args.fresh.images)) (drop n (map.keys c.args.fresh.images)) (fresh_next c.args.fresh.images c.requires.fresh n m long)
    (first_long c.args.fresh.images c.requires.fresh n m long) (second_long c.args.fresh.images c.requires.fresh n m long) in
    let Moved : List ℕ → List ℕ → Type 0 = λ first second. AreMoved c.args.catalog.now BASE c.args.volatile.now.images c.plan.inside.promoted c.plan.inside.kept (To first second) c.args.fresh.images c.move_both-tables.new.fresh.images in
    let moved : Moved c.plan.inside.promoted c.plan.inside.kept =
    subst (Moved c.plan.inside.promoted) olds.1 (subst (λ first. Moved first c.move_both-tables.result.kept.olds.items) olds.0 c.move_both-tables.ensures.moved) in
    let Updated : Images → Images → List ℕ → List ℕ → Type 0 = λ old new first second. AreUpdated c.args.catalog.now (To first second) old new in
    let space : Updated c.part.new.volatile.images c.update_all.new.pages.images c.plan.inside.promoted c.plan.inside.kept =
    subst (Updated c.part.new.volatile.images c.update_all.new.pages.images c.plan.inside.promoted) olds.1
    (subst (λ first. Updated c.part.new.volatile.images c.update_all.new.pages.images first c.move_both-tables.result.kept.olds.items) olds.0 c.update_all.ensures.updated) in
    let written : Updated c.part.new.written.images c.update_all-2.new.pages.images c.plan.inside.promoted c.plan.inside.kept =
    subst (Updated c.part.new.written.images c.update_all-2.new.pages.images c.plan.inside.promoted) olds.1
    (subst (λ first. Updated c.part.new.written.images c.update_all-2.new.pages.images first c.move_both-tables.result.kept.olds.items) olds.0 c.update_all-2.ensures.updated) in
    is_carried_out c.args.catalog.now BASE (omega arith) c.args.volatile.now.images c.args.written.now.images c.args.fresh.images c.move_both-tables.new.fresh.images c.part.new.volatile.images c.part.new.written.images
    c.update_all.new.pages.images c.update_all-2.new.pages.images pinned c.plan.inside.turned c.plan.inside.freed c.plan.inside.promoted c.plan.inside.kept (map.keys c.args.fresh.images) table.promoted.news.items
    table.kept.news.items all now c.requires.volatile c.requires.written c.move_both-tables.ensures.sound c.requires.fresh c.requires.no_roots plan.promoted plan.kept plan.turned parted moved space written joined_all joined_now
    settled.0 settled.1 (c.move_both-tables.ensures.tables.promoted_whole ∙ ap (λ (xs : List ℕ). length xs) olds.0) (c.move_both-tables.ensures.tables.kept_whole ∙ ap (λ (xs : List ℕ). length xs) olds.1)

pub returns-clause-apart : goal.returns-clause-apart
returns-clause-apart c p is =
    let plan = rw (← c.plan.view_is) at c.requires.plan in
    let wanted = rw (← c.plan.view_is) at c.requires.wanted in
    c.update_all-2.ensures.updated.none p (parted_apart c.args.catalog.now BASE c.args.volatile.now.images c.args.written.now.images c.args.fresh.images c.move_both-tables.new.fresh.images c.part.new.volatile.images c.part.new.written.images plan.0 _ plan.1
    plan.2 c.requires.apart c.requires.fresh_apart c.requires.fresh wanted c.move_both-tables.ensures.moved.pages c.part.ensures
    p (sym (updated_pages c.args.catalog.now (follows c.move_both-tables.result) c.part.new.volatile.images c.update_all.new.pages.images c.update_all.ensures.updated p) ∙ is))

pub returns-clause-bounded : goal.returns-clause-bounded
returns-clause-bounded c pages of_space of_written fresh =
    let plan = rw (← c.plan.view_is) at c.requires.plan in
    let wanted = rw (← c.plan.view_is) at c.requires.wanted in
    parted_bounded c.args.catalog.now BASE c.args.volatile.now.images c.args.written.now.images c.args.fresh.images c.move_both-tables.new.fresh.images c.part.new.volatile.images c.part.new.written.images plan.0 _ plan.1
    plan.2 c.requires.apart c.requires.fresh_apart c.requires.fresh wanted c.move_both-tables.ensures.moved.pages c.part.ensures
    c.requires.volatile c.requires.written c.move_both-tables.ensures.sound c.plan.inside.promoted c.plan.inside.kept (follows c.move_both-tables.result) c.update_all.new.pages.images c.update_all-2.new.pages.images pages
    c.move_both-tables.ensures.moved c.update_all.ensures.updated c.update_all-2.ensures.updated of_space of_written fresh c.update_all.ensures.sound c.update_all-2.ensures.sound

pub update_all-requires-2-clause-keeps : goal.update_all-requires-2-clause-keeps
update_all-requires-2-clause-keeps c =
    keeps_references c.args.catalog.now BASE c.args.volatile.now.images c.plan.inside.promoted c.plan.inside.kept (follows c.move_both-tables.result) c.args.fresh.images c.move_both-tables.new.fresh.images
    c.move_both-tables.ensures.moved
