use Rattle.std.proofs.Common.{◌≡◌, ◌≤◌, ◌+◌, ◌∙◌, sym, ap, arith}
use Rattle.std.specs.FinMap as map
use Rattle.std.specs.FinSet as set
use Rattle.pm3_page.specs.PageMap.{PageMap}
use Rattle.pm3_access.specs.declared.parted.Parted.{Parted}
use Rattle.pm3_copy.specs.Planning.{PlanState}
use Rattle.pm3_journal.specs.JournalState.{JournalState}
use Rattle.pm3_txn.proofs.passing.room_for.Goals as goal

pub returns-clause-enough : goal.returns-clause-enough
returns-clause-enough g c =
    let written : c.reserve_free.new.self.written ≡ c.reserve-2.new.self = ap (λ (p : Parted). p.written) c.in-Ok-reserve_free.ensures.room in
    let volatile : c.reserve_free.new.self.volatile ≡ c.reserve.new.self = ap (λ (p : Parted). p.volatile) c.in-Ok-reserve_free.ensures.room in
    let spare : c.reserve_free.new.self.written.spare ≡ c.reserve-2.new.self.spare = ap (λ (m : PageMap). m.spare) written in
    let kept : c.reserve_free.new.self.volatile.spare ≡ c.reserve.new.self.spare = ap (λ (m : PageMap). m.spare) volatile in
    let persistent : c.plan.inside.persistent ≡ c.args.plan.now.persistent = ap (λ (p : PlanState). p.persistent) c.plan.view_is in
    let staying : c.plan.inside.volatile ≡ c.args.plan.now.volatile = ap (λ (p : PlanState). p.volatile) c.plan.view_is in
    let pins : c.plan.inside.pins ≡ c.args.plan.now.pins = ap (λ (p : PlanState). p.pins) c.plan.view_is in
    let turned = c.requires.few.2 in
    let made = c.in-Ok-reserve.ensures.room in
    let room = c.in-Ok.ensures.room in
    let count : c.len.result ≡ map.len c.reserve_free.new.self.written.images = c.len.ensures.count in
    let more : map.len c.reserve_free.new.self.written.images + (c.args.plan.now.persistent + set.len c.args.plan.now.turned) ≤ c.len.result + (c.plan.inside.persistent + c.plan.inside.pins) =
    omega (arith, count, persistent, pins, turned) in
    record {
      written = omega (arith, spare, persistent, pins, turned, made);
      volatile = omega (arith, kept, staying, room);
      freed = (let free = c.freed_count.ensures in rw (sym free) c.in-Ok-reserve_free.ensures.enough);
      record_room = (c.len.result + (c.plan.inside.persistent + c.plan.inside.pins), ap (λ (j : JournalState _). j.room) c.in-Ok-reserve-2.ensures.room, more);
      none = c.in-Ok-reserve-3.ensures.same ∙ c.new-pages.ensures;
      list = (let listed = c.in-Ok-reserve-3.ensures.room in omega (arith, more, listed));
    }
