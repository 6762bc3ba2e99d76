use Rattle.std.proofs.Common.{◌-◌, ◌≤◌, ◌≡◌, ◌∙◌, true, max, is_some, refl, sym, ap, subst, arith}
use Rattle.std.specs.FinSet as set
use Rattle.pm3_access.specs.Holding.{Holding, by_space, with_free}
use Rattle.pm3_access.specs.Parting.{joined}
use Rattle.pm3_table.specs.Ops.{saw_full}
use Rattle.pm3_txn.specs.DrawnLaws.{with_free_page}
use Rattle.pm3_txn.specs.PassSteps.{IsPassing}
use Rattle.pm3_txn.specs.Takes.{with_view}
use Rattle.pm3_txn.proofs.PassDraws.{drawn_view, has_drawn, new_free, new_not_free, new_unmarked, one_more_free, passing_drawn, passing_full, some_rest}
use Rattle.pm3_txn.proofs.PassParts.{more_both, more_by}
use Rattle.pm3_txn.proofs.fresh.draw_free.Goals as goal

pub returns-in-Ok-draw_own_page-clause-ready : goal.returns-in-Ok-draw_own_page-clause-ready
returns-in-Ok-draw_own_page-clause-ready g c =
    let new = c.in-Ok-draw_own_page.ensures.drawn.1 in
    let high : 3 ≤ c.in-Ok-draw_own_page.page = (let from = new.from in let least = c.page_count.ensures.least in omega (arith, from, least)) in
    let old : Holding = joined c.args.parted.now in
    let same : joined c.add_free.new.self ≡ with_free_page (by_space (λ s. with_free s s.free (max s.room 1)) old) c.in-Ok-draw_own_page.page (λ s. s.room - 1) =
    c.add_free.ensures.joined ∙ ap (λ (h : Holding). with_free_page h c.in-Ok-draw_own_page.page (λ s. s.room - 1)) c.in-Ok.ensures.joined in
    rw c.in-Ok-draw_own_page.ensures.drawn.2 (subst (IsPassing g.D.Reader.Reader.content c.args.heap.now (with_view c.args.mutator.now (drawn_view g.D.Reader.Reader.content c.args.heap.now c.args.mutator.now old c.requires.ready c.in-Ok-draw_own_page.page high c.in-Ok-draw_own_page.ensures.drawn.0 new))) (sym same)
    (passing_drawn g.D.Reader.Reader.content c.args.heap.now c.args.mutator.now old c.requires.ready c.in-Ok-draw_own_page.page high c.in-Ok-draw_own_page.ensures.drawn.0 new))

pub returns-in-Ok-draw_own_page-clause-parts : goal.returns-in-Ok-draw_own_page-clause-parts
returns-in-Ok-draw_own_page-clause-parts g c =
    more_both c.args.parted.now c.reserve_free.new.self c.add_free.new.self
    (more_by (λ s. s.free) (λ s. max s.room 1) (λ s p is. is) c.args.parted.now c.reserve_free.new.self c.in-Ok.ensures.room c.reserve_free.ensures.rejoin)
    (more_by (λ s. set.insert s.free c.in-Ok-draw_own_page.page) (λ s. s.room - 1) (one_more_free c.in-Ok-draw_own_page.page) c.reserve_free.new.self c.add_free.new.self c.add_free.ensures.added c.add_free.ensures.rejoin)

pub returns-in-Ok-draw_own_page-clause-drawn : goal.returns-in-Ok-draw_own_page-clause-drawn
returns-in-Ok-draw_own_page-clause-drawn g c =
    let new = c.in-Ok-draw_own_page.ensures.drawn.1 in
    let there : is_some c.args.parted.now.rest.space ≡ true = some_rest c.args.parted.now.volatile.images c.args.parted.now.rest.space c.requires.ready.space in
    let high : 3 ≤ c.in-Ok-draw_own_page.page = (let from = new.from in let least = c.page_count.ensures.least in omega (arith, from, least)) in
    rw c.in-Ok-draw_own_page.ensures.drawn.2 (has_drawn g.D.Reader.Reader.content c.args.heap.now c.args.mutator.now (joined c.args.parted.now) c.requires.ready c.in-Ok-draw_own_page.page high
    c.in-Ok-draw_own_page.ensures.drawn.0 new
    (new_unmarked g.D.Reader.Reader.content c.args.heap.now c.args.mutator.now (joined c.args.parted.now) c.requires.ready c.args.parted.now.rest.space c.args.parted.now.volatile.images refl there c.requires.marks
    c.in-Ok-draw_own_page.page new))

pub returns-in-Ok-draw_own_page-clause-page : goal.returns-in-Ok-draw_own_page-clause-page
returns-in-Ok-draw_own_page-clause-page g c =
    let new = c.in-Ok-draw_own_page.ensures.drawn.1 in
    let there : is_some c.args.parted.now.rest.space ≡ true = some_rest c.args.parted.now.volatile.images c.args.parted.now.rest.space c.requires.ready.space in (
      rw (c.add_free.ensures.added, c.in-Ok.ensures.room) (new_free c.args.parted.now.rest.space c.in-Ok-draw_own_page.page 1 there
          (new_not_free g.D.Reader.Reader.content c.args.heap.now c.args.mutator.now (joined c.args.parted.now) c.requires.ready c.args.parted.now.rest.space c.args.parted.now.volatile.images refl
          c.in-Ok-draw_own_page.page new)),
      (let from = new.from in let least = c.page_count.ensures.least in omega (arith, from, least)),
      (let low = c.in-Ok-draw_own_page.ensures.drawn.0 in let small = c.page_count.ensures.small in omega (arith, low, small)),
    )

pub returns-in-Err-clause-ready : goal.returns-in-Err-clause-ready
returns-in-Err-clause-ready g c =
    let old : Holding = joined c.args.parted.now in
    rw c.in-Err.ensures.full.1 (subst (IsPassing g.D.Reader.Reader.content c.args.heap.now (with_view c.args.mutator.now (saw_full 0 c.args.mutator.now.pass.1))) (sym c.in-Ok.ensures.joined)
    (passing_full g.D.Reader.Reader.content c.args.heap.now c.args.mutator.now old c.requires.ready))

pub returns-in-Err-clause-parts : goal.returns-in-Err-clause-parts
returns-in-Err-clause-parts g c = more_by (λ s. s.free) (λ s. max s.room 1) (λ s p is. is) c.args.parted.now c.reserve_free.new.self c.in-Ok.ensures.room c.reserve_free.ensures.rejoin
