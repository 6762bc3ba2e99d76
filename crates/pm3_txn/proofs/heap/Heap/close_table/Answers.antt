use Rattle.std.proofs.Common.{sym, subst}
use Rattle.std.specs.Mem.Slots.{slots_items, IsFull}
use Rattle.pm3_table.specs.Closing.{IsCloseFault}
use Rattle.pm3_txn.specs.Closing.{AreLastDisks}
use Rattle.pm3_txn.specs.Draining.{HasTurnLast}
use Rattle.pm3_txn.specs.Slots.{faults_in, stands_for}
use Rattle.pm3_txn.proofs.ClosingSteps.{disks_are, last_store, open_store}
use Rattle.pm3_txn.proofs.LastHomes as last
use Rattle.pm3_txn.proofs.heap.Heap.close_table.Goals as goal

pub store_of-requires-clause-last : goal.store_of-requires-clause-last
store_of-requires-clause-last g c = last.has_last g.D.Disk c.self.inside.shared.1 c.args.pass.1 c.in-Ok.homes c.in-Ok.ensures.ok

pub store_of-requires-clause-home : goal.store_of-requires-clause-home
store_of-requires-clause-home g c = last.home g.D.Disk c.self.inside.shared.1 c.args.pass.1 c.in-Ok.homes c.in-Ok.ensures.ok

pub returns-in-Ok-store_of-clause-store : goal.returns-in-Ok-store_of-clause-store
returns-in-Ok-store_of-clause-store g c =
    rw (← c.self.view_is) (last_store g.D.Disk c.self.inside.shared.1 c.args.pass.1 c.in-Ok.homes c.in-Ok.ensures.ok c.self.inside.catalog c.self.inside.frontier c.self.invariant
    c.page_count-pages.result c.page_count-pages.ensures.0 c.in-Ok-store_of.store c.in-Ok-store_of.ensures.store)

pub returns-in-Ok-store_of-clause-open : goal.returns-in-Ok-store_of-clause-open
returns-in-Ok-store_of-clause-open g c =
    open_store g.D.Disk c.self.inside.shared.1 c.args.pass.1 c.in-Ok.homes c.in-Ok.ensures.ok c.self.inside.catalog c.self.inside.frontier c.self.invariant
    c.page_count-pages.result c.page_count-pages.ensures.0 c.in-Ok-store_of.store c.in-Ok-store_of.ensures.store
    c.page_form_law.ensures.sound c.page_form_law.ensures.same_words c.page_form_law.ensures.same_image

pub returns-in-Ok-store_of-clause-all : goal.returns-in-Ok-store_of-clause-all
returns-in-Ok-store_of-clause-all g c = rw (← c.self.view_is) (last.seen_all g.D.Disk c.self.inside.shared.1 c.args.pass.1 c.in-Ok.homes c.in-Ok.ensures.ok)

pub returns-in-Err-clause-fault : goal.returns-in-Err-clause-fault
returns-in-Err-clause-fault g c =
    rw (← c.self.view_is) (disks_are g.D.Disk c.self.inside.shared.1 c.args.pass.1 c.in-Ok.homes c.in-Ok.ensures.ok c.in-Err.pages c.in-Err.journal c.in-Err.ensures.back)

pub disks_in-pages-requires-clause-full : goal.disks_in-pages-requires-clause-full
disks_in-pages-requires-clause-full g c =
    let err = subst (λ f. IsCloseFault (stands_for g.D.Disk) (faults_in g.D.Disk) c.self.inside.shared c.args.pass f) c.in-Err-Memory.field-0-is c.in-Err-Memory.ensures.err in
    subst (λ h. IsFull h.slots) (sym c.in-Err-Memory.homes-is) err.0

pub disks_in-pages-requires-clause-last : goal.disks_in-pages-requires-clause-last
disks_in-pages-requires-clause-last g c =
    let err = subst (λ f. IsCloseFault (stands_for g.D.Disk) (faults_in g.D.Disk) c.self.inside.shared c.args.pass f) c.in-Err-Memory.field-0-is c.in-Err-Memory.ensures.err in
    subst (λ h. HasTurnLast (slots_items h.slots)) (sym c.in-Err-Memory.homes-is)
    (last.has_last g.D.Disk c.self.inside.shared.1 c.args.pass.1 (slots_items c.in-Err-Memory.homes.slots) err.1)

pub returns-in-Err-Memory-clause-fault : goal.returns-in-Err-Memory-clause-fault
returns-in-Err-Memory-clause-fault g c =
    let err = subst (λ f. IsCloseFault (stands_for g.D.Disk) (faults_in g.D.Disk) c.self.inside.shared c.args.pass f) c.in-Err-Memory.field-0-is c.in-Err-Memory.ensures.err in
    let back = subst (λ h. AreLastDisks g.D.Disk (slots_items h.slots) c.disks_in-pages.result.0 c.disks_in-pages.result.1) c.in-Err-Memory.homes-is c.disks_in-pages.ensures in
    rw (← c.self.view_is) (disks_are g.D.Disk c.self.inside.shared.1 c.args.pass.1 (slots_items c.in-Err-Memory.homes.slots) err.1 c.disks_in-pages.result.0 c.disks_in-pages.result.1 back)
