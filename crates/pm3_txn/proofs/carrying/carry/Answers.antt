use Rattle.std.proofs.Common.{◌≡◌, ◌∙◌, max, refl, sym, ap, subst, arith}
use Rattle.atomic_table.specs.Seated.{TableId}
use Rattle.pm3_copy.specs.declared.carrying.Report.{Report}
use Rattle.pm3_access.specs.declared.parted.Parted.{Parted}
use Rattle.pm3_table.specs.declared.view.Told.{Told}
use Rattle.pm3_txn.specs.PassEnding.{HasLeft}
use Rattle.pm3_txn.specs.Slots.{turn_state}
use Rattle.pm3_txn.specs.SpaceCommits.{carried_of}
use Rattle.pm3_txn.specs.States.{MutatorState}
use Rattle.pm3_txn.proofs.PassPlanned.{carried_back, commit_is, fresh_apart, has_left, may_append, may_plan, sound_back, volatile_wide, writes_wide, written_few, written_wide}
use Rattle.pm3_txn.proofs.carrying.carry.Goals as goal

pub carry_out-report-requires-clause-plan : goal.carry_out-report-requires-clause-plan
carry_out-report-requires-clause-plan g c =
    let same : c.args.heap.now.1.opening.catalog ≡ c.heap.inside.catalog = ap (λ (h : TableId × Told). h.1.opening.catalog) (sym c.heap.view_is) ∙ c.heap.invariant.catalog_is in
    may_plan g.D.Reader.Reader.content c.args.heap.now c.args.mutator.now c.args.parted.now c.args.prepared c.args.turn.now.journal.room c.requires.ready c.requires.parted c.requires.planned c.page_count.ensures.small c.heap.inside.catalog same

pub carry_out-report-requires-clause-volatile : goal.carry_out-report-requires-clause-volatile
carry_out-report-requires-clause-volatile g c =
    let same : c.args.heap.now.1.opening.catalog ≡ c.heap.inside.catalog = ap (λ (h : TableId × Told). h.1.opening.catalog) (sym c.heap.view_is) ∙ c.heap.invariant.catalog_is in
    volatile_wide g.D.Reader.Reader.content c.args.heap.now c.args.mutator.now c.args.parted.now c.args.prepared c.args.turn.now.journal.room c.requires.ready c.requires.parted c.requires.planned c.page_count.ensures.small c.heap.inside.catalog same

pub carry_out-report-requires-clause-written : goal.carry_out-report-requires-clause-written
carry_out-report-requires-clause-written g c =
    let same : c.args.heap.now.1.opening.catalog ≡ c.heap.inside.catalog = ap (λ (h : TableId × Told). h.1.opening.catalog) (sym c.heap.view_is) ∙ c.heap.invariant.catalog_is in
    written_wide g.D.Reader.Reader.content c.args.heap.now c.args.mutator.now c.args.parted.now c.args.prepared c.args.turn.now.journal.room c.requires.ready c.requires.parted c.requires.planned c.page_count.ensures.small c.heap.inside.catalog same

pub carry_out-report-requires-clause-fresh_apart : goal.carry_out-report-requires-clause-fresh_apart
carry_out-report-requires-clause-fresh_apart g c = fresh_apart g.D.Reader.Reader.content c.args.heap.now c.args.mutator.now c.args.parted.now c.args.prepared c.args.turn.now.journal.room c.requires.ready c.requires.parted c.requires.planned c.page_count.ensures.small

pub entry_of_pass-entry-requires-clause-sound : goal.entry_of_pass-entry-requires-clause-sound
entry_of_pass-entry-requires-clause-sound g c =
    let same : c.args.heap.now.1.opening.catalog ≡ c.heap.inside.catalog = ap (λ (h : TableId × Told). h.1.opening.catalog) (sym c.heap.view_is) ∙ c.heap.invariant.catalog_is in
    let left : Parted = record c.args.parted.now { volatile = c.carry_out-report.new.volatile; written = c.carry_out-report.new.written } in
    writes_wide g.D.Reader.Reader.content c.args.heap.now c.args.mutator.now c.args.parted.now c.args.prepared c.args.turn.now.journal.room c.requires.ready c.requires.parted c.requires.planned c.page_count.ensures.small left refl c.page_count.ensures.below
    (carried_back g.D.Reader.Reader.content c.args.heap.now c.args.mutator.now c.args.parted.now c.args.prepared c.args.turn.now.journal.room c.requires.ready c.requires.parted c.requires.planned c.page_count.ensures.small c.heap.inside.catalog same left.volatile.images left.written.images c.carry_out-report.ensures.carried) c.carry_out-report.ensures.apart
    (sound_back g.D.Reader.Reader.content c.args.heap.now c.args.mutator.now c.args.parted.now c.args.prepared c.args.turn.now.journal.room c.requires.ready c.requires.parted c.requires.planned c.page_count.ensures.small c.heap.inside.catalog same left.volatile.images left.written.images c.carry_out-report.ensures.bounded) c.heap.inside.catalog same

pub entry_of_pass-entry-requires-clause-room : goal.entry_of_pass-entry-requires-clause-room
entry_of_pass-entry-requires-clause-room g c =
    let same : c.args.heap.now.1.opening.catalog ≡ c.heap.inside.catalog = ap (λ (h : TableId × Told). h.1.opening.catalog) (sym c.heap.view_is) ∙ c.heap.invariant.catalog_is in
    let left : Parted = record c.args.parted.now { volatile = c.carry_out-report.new.volatile; written = c.carry_out-report.new.written } in
    let few = written_few g.D.Reader.Reader.content c.args.heap.now c.args.mutator.now c.args.parted.now c.args.prepared c.args.turn.now.journal.room c.requires.ready c.requires.parted c.requires.planned c.page_count.ensures.small left refl c.page_count.ensures.below
    (carried_back g.D.Reader.Reader.content c.args.heap.now c.args.mutator.now c.args.parted.now c.args.prepared c.args.turn.now.journal.room c.requires.ready c.requires.parted c.requires.planned c.page_count.ensures.small c.heap.inside.catalog same left.volatile.images left.written.images c.carry_out-report.ensures.carried) c.carry_out-report.ensures.apart
    (sound_back g.D.Reader.Reader.content c.args.heap.now c.args.mutator.now c.args.parted.now c.args.prepared c.args.turn.now.journal.room c.requires.ready c.requires.parted c.requires.planned c.page_count.ensures.small c.heap.inside.catalog same left.volatile.images left.written.images c.carry_out-report.ensures.bounded) in
    let most = c.requires.planned.roomy.list in omega (arith, few, most)

pub returns-clause-commit : goal.returns-clause-commit
returns-clause-commit g c =
    let same : c.args.heap.now.1.opening.catalog ≡ c.heap.inside.catalog = ap (λ (h : TableId × Told). h.1.opening.catalog) (sym c.heap.view_is) ∙ c.heap.invariant.catalog_is in
    let left : Parted = record c.args.parted.now { volatile = c.carry_out-report.new.volatile; written = c.carry_out-report.new.written } in
    commit_is g.D.Reader.Reader.content c.args.heap.now c.args.mutator.now c.args.parted.now c.args.prepared c.args.turn.now.journal.room c.requires.ready c.requires.parted c.requires.planned c.page_count.ensures.small left refl c.page_count.ensures.below
    (carried_back g.D.Reader.Reader.content c.args.heap.now c.args.mutator.now c.args.parted.now c.args.prepared c.args.turn.now.journal.room c.requires.ready c.requires.parted c.requires.planned c.page_count.ensures.small c.heap.inside.catalog same left.volatile.images left.written.images c.carry_out-report.ensures.carried) c.carry_out-report.ensures.apart
    (sound_back g.D.Reader.Reader.content c.args.heap.now c.args.mutator.now c.args.parted.now c.args.prepared c.args.turn.now.journal.room c.requires.ready c.requires.parted c.requires.planned c.page_count.ensures.small c.heap.inside.catalog same left.volatile.images left.written.images c.carry_out-report.ensures.bounded) g.D.Disk (turn_state c.args.turn.now) c.requires.value refl c.entry_of_pass-entry.result c.args.tag c.heap.inside.catalog same c.entry_of_pass-entry.ensures.entry c.entry_of_pass-entry.ensures.filed
    (c.entry_of_pass-entry.ensures.name ∙ ap (λ (x : MutatorState g.row.D-Reader.Denot). max c.args.turn.now.next_name x.next_name) c.mutator.view_is)
    (let fits = c.ranges.tag.fits in omega (arith, fits))
    (c.entry_of_pass-entry.ensures.counts.0 ∙ ap (λ r. r.pins) c.carry_out-report.ensures.report, c.entry_of_pass-entry.ensures.counts.1 ∙ ap (λ r. r.moved) c.carry_out-report.ensures.report)
    c.entry_of_pass-entry.ensures.count

pub returns-clause-left : goal.returns-clause-left
returns-clause-left g c =
    let same : c.args.heap.now.1.opening.catalog ≡ c.heap.inside.catalog = ap (λ (h : TableId × Told). h.1.opening.catalog) (sym c.heap.view_is) ∙ c.heap.invariant.catalog_is in
    let left : Parted = record c.args.parted.now { volatile = c.carry_out-report.new.volatile; written = c.carry_out-report.new.written } in
    subst (λ (r : Report). HasLeft (carried_of c.args.parted.now c.args.prepared c.args.mutator.now.pass.1.log left) left c.args.prepared.pins r.promoted r.freed) (sym c.carry_out-report.ensures.report)
    (has_left g.D.Reader.Reader.content c.args.heap.now c.args.mutator.now c.args.parted.now c.args.prepared c.args.turn.now.journal.room c.requires.ready c.requires.parted c.requires.planned c.page_count.ensures.small left refl c.page_count.ensures.below
    (carried_back g.D.Reader.Reader.content c.args.heap.now c.args.mutator.now c.args.parted.now c.args.prepared c.args.turn.now.journal.room c.requires.ready c.requires.parted c.requires.planned c.page_count.ensures.small c.heap.inside.catalog same left.volatile.images left.written.images c.carry_out-report.ensures.carried) c.carry_out-report.ensures.apart
    (sound_back g.D.Reader.Reader.content c.args.heap.now c.args.mutator.now c.args.parted.now c.args.prepared c.args.turn.now.journal.room c.requires.ready c.requires.parted c.requires.planned c.page_count.ensures.small c.heap.inside.catalog same left.volatile.images left.written.images c.carry_out-report.ensures.bounded))

pub returns-clause-append : goal.returns-clause-append
returns-clause-append g c =
    let same : c.args.heap.now.1.opening.catalog ≡ c.heap.inside.catalog = ap (λ (h : TableId × Told). h.1.opening.catalog) (sym c.heap.view_is) ∙ c.heap.invariant.catalog_is in
    let left : Parted = record c.args.parted.now { volatile = c.carry_out-report.new.volatile; written = c.carry_out-report.new.written } in
    may_append g.D.Reader.Reader.content c.args.heap.now c.args.mutator.now c.args.parted.now c.args.prepared c.args.turn.now.journal.room c.requires.ready c.requires.parted c.requires.planned c.page_count.ensures.small left refl c.page_count.ensures.below
    (carried_back g.D.Reader.Reader.content c.args.heap.now c.args.mutator.now c.args.parted.now c.args.prepared c.args.turn.now.journal.room c.requires.ready c.requires.parted c.requires.planned c.page_count.ensures.small c.heap.inside.catalog same left.volatile.images left.written.images c.carry_out-report.ensures.carried) c.carry_out-report.ensures.apart
    (sound_back g.D.Reader.Reader.content c.args.heap.now c.args.mutator.now c.args.parted.now c.args.prepared c.args.turn.now.journal.room c.requires.ready c.requires.parted c.requires.planned c.page_count.ensures.small c.heap.inside.catalog same left.volatile.images left.written.images c.carry_out-report.ensures.bounded) g.D.Disk (turn_state c.args.turn.now) c.requires.value refl c.entry_of_pass-entry.result c.args.tag c.heap.inside.catalog same c.entry_of_pass-entry.ensures.entry c.entry_of_pass-entry.ensures.filed
    (c.entry_of_pass-entry.ensures.name ∙ ap (λ (x : MutatorState g.row.D-Reader.Denot). max c.args.turn.now.next_name x.next_name) c.mutator.view_is)
    (let fits = c.ranges.tag.fits in omega (arith, fits))
    (c.entry_of_pass-entry.ensures.counts.0 ∙ ap (λ r. r.pins) c.carry_out-report.ensures.report, c.entry_of_pass-entry.ensures.counts.1 ∙ ap (λ r. r.moved) c.carry_out-report.ensures.report)
    c.entry_of_pass-entry.ensures.count
