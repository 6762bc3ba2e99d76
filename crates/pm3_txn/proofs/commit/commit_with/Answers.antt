use Rattle.std.proofs.Common.{◌≡◌, ◌∙◌, ℕ, Ok, Err, inl, inr, ⊎_elim, sym, ap, arith}
use Rattle.atomic_table.specs.Seated.{TableId}
use Rattle.pm3_journal.specs.declared.faults.AppendFault.TheVariants.{Stopped}
use Rattle.pm3_table.specs.declared.view.Told.{Told}
use Rattle.pm3_txn.proofs.CommitWith.{end_is, fails, fit, keeps, kept_underway, not_stopped, parted, recorded, records, sound, under}
use Rattle.pm3_txn.proofs.commit.commit_with.Goals as goal

pub entry_for-made-requires : goal.entry_for-made-requires
entry_for-made-requires g c =
    let same : c.args.heap.now.1.opening.catalog ≡ c.heap.inside.catalog = ap (λ (h : TableId × Told). h.1.opening.catalog) (sym c.heap.view_is) ∙ c.heap.invariant.catalog_is in
    record {
      sound = sound g.D.Disk g.D.Reader.Reader.content c.args.heap.now c.args.mutator c.args.turn c.args.held c.args.tag c.in-Ok.parted c.requires.ready
          (c.page_count.ensures.small, c.page_count.ensures.least) c.in-Ok.ensures.joined c.in-Ok.ensures.rejoin c.in-Ok.ensures.written c.in-Ok.ensures.others c.heap.inside.catalog same;
    }

pub keep_turn-requires-clause-may : goal.keep_turn-requires-clause-may
keep_turn-requires-clause-may g c = keeps g.D.Disk g.D.Reader.Reader.content c.args.heap.now c.args.mutator c.args.turn c.args.held c.args.tag c.in-Ok.parted c.requires.ready
    (c.page_count.ensures.small, c.page_count.ensures.least) c.in-Ok.ensures.joined c.in-Ok.ensures.rejoin c.in-Ok.ensures.written c.in-Ok.ensures.others c.entry_for-made.new.turn c.entry_for-made.ensures.room

pub invariant_of-result : goal.invariant_of-result
invariant_of-result g c = rw c.rejoin.ensures (kept_underway g.D.Disk g.D.Reader.Reader.content c.args.heap.now c.args.mutator c.args.turn c.args.held c.args.tag c.in-Ok.parted c.requires.ready
    (c.page_count.ensures.small, c.page_count.ensures.least) c.in-Ok.ensures.joined c.in-Ok.ensures.rejoin c.in-Ok.ensures.written c.in-Ok.ensures.others c.entry_for-made.new.turn c.entry_for-made.ensures.room c.keep_turn.new.self c.keep_turn.ensures.ended c.keep_turn.ensures.kept)

pub append-requires-clause-fit : goal.append-requires-clause-fit
append-requires-clause-fit g c =
    let same : c.args.heap.now.1.opening.catalog ≡ c.heap.inside.catalog = ap (λ (h : TableId × Told). h.1.opening.catalog) (sym c.heap.view_is) ∙ c.heap.invariant.catalog_is in
    fit g.D.Disk g.D.Reader.Reader.content c.args.heap.now c.args.mutator c.args.turn c.args.held c.args.tag c.in-Ok.parted c.requires.ready
    (c.page_count.ensures.small, c.page_count.ensures.least) c.in-Ok.ensures.joined c.in-Ok.ensures.rejoin c.in-Ok.ensures.written c.in-Ok.ensures.others c.entry_for-made.new.turn c.entry_for-made.ensures.room
    c.heap.inside.catalog same c.in-Ok-made.entry c.in-Ok-made.ensures.entry c.in-Ok-made.ensures.filed
    (let due = c.next.ensures in let low = c.next.type_inv in omega (arith, due, low)) (let fits = c.ranges.tag.fits in omega (arith, fits))

pub concluded-requires-clause-under : goal.concluded-requires-clause-under
concluded-requires-clause-under g c = under g.D.Disk g.D.Reader.Reader.content c.args.heap.now c.args.mutator c.args.turn c.args.held c.args.tag c.in-Ok.parted c.requires.ready
    (c.page_count.ensures.small, c.page_count.ensures.least) c.in-Ok.ensures.joined c.in-Ok.ensures.rejoin c.in-Ok.ensures.written c.in-Ok.ensures.others

pub concluded-requires-clause-parted : goal.concluded-requires-clause-parted
concluded-requires-clause-parted g c = parted g.D.Disk g.D.Reader.Reader.content c.args.heap.now c.args.mutator c.args.turn c.args.held c.args.tag c.in-Ok.parted c.requires.ready
    (c.page_count.ensures.small, c.page_count.ensures.least) c.in-Ok.ensures.joined c.in-Ok.ensures.rejoin c.in-Ok.ensures.written c.in-Ok.ensures.others

pub concluded-requires-clause-may : goal.concluded-requires-clause-may
concluded-requires-clause-may g c =
    let same : c.args.heap.now.1.opening.catalog ≡ c.heap.inside.catalog = ap (λ (h : TableId × Told). h.1.opening.catalog) (sym c.heap.view_is) ∙ c.heap.invariant.catalog_is in
    records g.D.Disk g.D.Reader.Reader.content c.args.heap.now c.args.mutator c.args.turn c.args.held c.args.tag c.in-Ok.parted c.requires.ready
    (c.page_count.ensures.small, c.page_count.ensures.least) c.in-Ok.ensures.joined c.in-Ok.ensures.rejoin c.in-Ok.ensures.written c.in-Ok.ensures.others c.entry_for-made.new.turn c.entry_for-made.ensures.room
    c.heap.inside.catalog same c.in-Ok-made.entry c.in-Ok-made.ensures.entry c.in-Ok-made.ensures.filed c.frame_of_runs.ensures c.append.new.self
    (let other : (seq : ℕ) → Ok c.in-Ok-append.receipt ≡ Err (Stopped seq) → ⊥ = λ seq at. cc at in (not_stopped c.append.result c.entry_for-made.new.turn.journal.stopped c.append.ensures.stopped (λ seq at. other seq (sym c.in-Ok-append.is ∙ at))))
    c.in-Ok-append.ensures.grown c.in-Ok-append.ensures.added c.in-Ok-append.ensures.honest

pub returns-in-Ok-append-clause-recorded : goal.returns-in-Ok-append-clause-recorded
returns-in-Ok-append-clause-recorded g c =
    let same : c.args.heap.now.1.opening.catalog ≡ c.heap.inside.catalog = ap (λ (h : TableId × Told). h.1.opening.catalog) (sym c.heap.view_is) ∙ c.heap.invariant.catalog_is in
    recorded g.D.Disk g.D.Reader.Reader.content c.args.heap.now c.args.mutator c.args.turn c.args.held c.args.tag c.in-Ok.parted c.requires.ready
    (c.page_count.ensures.small, c.page_count.ensures.least) c.in-Ok.ensures.joined c.in-Ok.ensures.rejoin c.in-Ok.ensures.written c.in-Ok.ensures.others c.entry_for-made.new.turn c.entry_for-made.ensures.room
    c.heap.inside.catalog same c.in-Ok-made.entry c.in-Ok-made.ensures.entry c.in-Ok-made.ensures.filed c.frame_of_runs.ensures c.append.new.self
    (let other : (seq : ℕ) → Ok c.in-Ok-append.receipt ≡ Err (Stopped seq) → ⊥ = λ seq at. cc at in (not_stopped c.append.result c.entry_for-made.new.turn.journal.stopped c.append.ensures.stopped (λ seq at. other seq (sym c.in-Ok-append.is ∙ at))))
    c.in-Ok-append.ensures.grown c.in-Ok-append.ensures.added c.in-Ok-append.ensures.honest
    c.concluded.result c.in-Ok-append.receipt c.concluded.ensures.given c.in-Ok-append.ensures.receipt

pub failed-requires-clause-under : goal.failed-requires-clause-under
failed-requires-clause-under g c = under g.D.Disk g.D.Reader.Reader.content c.args.heap.now c.args.mutator c.args.turn c.args.held c.args.tag c.in-Ok.parted c.requires.ready
    (c.page_count.ensures.small, c.page_count.ensures.least) c.in-Ok.ensures.joined c.in-Ok.ensures.rejoin c.in-Ok.ensures.written c.in-Ok.ensures.others

pub failed-requires-clause-may : goal.failed-requires-clause-may
failed-requires-clause-may g c =
    let same : c.args.heap.now.1.opening.catalog ≡ c.heap.inside.catalog = ap (λ (h : TableId × Told). h.1.opening.catalog) (sym c.heap.view_is) ∙ c.heap.invariant.catalog_is in
    fails g.D.Disk g.D.Reader.Reader.content c.args.heap.now c.args.mutator c.args.turn c.args.held c.args.tag c.in-Ok.parted c.requires.ready
    (c.page_count.ensures.small, c.page_count.ensures.least) c.in-Ok.ensures.joined c.in-Ok.ensures.rejoin c.in-Ok.ensures.written c.in-Ok.ensures.others c.entry_for-made.new.turn c.entry_for-made.ensures.room
    c.heap.inside.catalog same c.in-Ok-made.entry c.in-Ok-made.ensures.entry c.in-Ok-made.ensures.filed c.frame_of_runs.ensures c.append.new.self c.append.result c.append.ensures.stopped c.append.ensures.halted c.append.ensures.part c.append.ensures.fault c.append.ensures.later
    c.in-Err.fault c.in-Err.is (⊎_elim (λ e. inl (c.in-Err.is ∙ e)) (λ e. inr e) c.in-Err.ensures.refused)

pub returns-clause-fault : goal.returns-clause-fault
returns-clause-fault g c =
    let same : c.args.heap.now.1.opening.catalog ≡ c.heap.inside.catalog = ap (λ (h : TableId × Told). h.1.opening.catalog) (sym c.heap.view_is) ∙ c.heap.invariant.catalog_is in (
      rw c.of_append.ensures (
          end_is g.D.Disk g.D.Reader.Reader.content c.args.heap.now c.args.mutator c.args.turn c.args.held c.args.tag c.in-Ok.parted c.requires.ready
          (c.page_count.ensures.small, c.page_count.ensures.least) c.in-Ok.ensures.joined c.in-Ok.ensures.rejoin c.in-Ok.ensures.written c.in-Ok.ensures.others c.entry_for-made.new.turn c.entry_for-made.ensures.room
          c.heap.inside.catalog same c.in-Ok-made.entry c.in-Ok-made.ensures.entry c.in-Ok-made.ensures.filed c.frame_of_runs.ensures c.append.new.self c.append.result c.append.ensures.stopped c.append.ensures.halted c.append.ensures.part c.append.ensures.fault c.append.ensures.later
          c.in-Err.fault c.in-Err.is (⊎_elim (λ e. inl (c.in-Err.is ∙ e)) (λ e. inr e) c.in-Err.ensures.refused)
          (λ limit at. ((c.append.ensures.full limit).0 at).1) c.failed.result c.failed.ensures.failed c.failed.ensures.heard),
      c.failed.ensures.bare,
      c.failed.ensures.kept,
    )
