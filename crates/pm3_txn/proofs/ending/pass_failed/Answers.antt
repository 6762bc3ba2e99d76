use Rattle.pm3_txn.proofs.PassFailed.{freed_marked, freed_own, has_failed_pass, known, mutator, nothing_else, one_space, pages_owed, pins_marked, pins_own}
use Rattle.pm3_txn.proofs.ending.pass_failed.Goals as goal

pub unmark_others-requires-clause-own : goal.unmark_others-requires-clause-own
unmark_others-requires-clause-own g c =
    let was = c.requires.1.1.0 in
    freed_own g.D.Reader.Reader.content c.args.heap.now c.args.mutator was.0 c.args.parted c.args.pins c.args.report.promoted c.args.report.freed was.1 was.2 c.new-none.result c.new-none.ensures

pub unmark_others-requires-clause-marked : goal.unmark_others-requires-clause-marked
unmark_others-requires-clause-marked g c =
    let was = c.requires.1.1.0 in
    freed_marked g.D.Reader.Reader.content c.args.heap.now c.args.mutator was.0 c.args.parted c.args.pins c.args.report.promoted c.args.report.freed was.1 was.2 c.new-none.result c.new-none.ensures

pub unmark_others-requires-2-clause-own : goal.unmark_others-requires-2-clause-own
unmark_others-requires-2-clause-own g c =
    let was = c.requires.1.1.0 in
    pins_own g.D.Reader.Reader.content c.args.heap.now c.args.mutator was.0 c.args.parted c.args.pins c.args.report.promoted c.args.report.freed was.1 was.2 c.new-none.result c.new-none.ensures
    c.unmark_others.new.mutator c.unmark_others.ensures.only c.unmark_others.ensures.marks

pub unmark_others-requires-2-clause-marked : goal.unmark_others-requires-2-clause-marked
unmark_others-requires-2-clause-marked g c =
    let was = c.requires.1.1.0 in
    pins_marked g.D.Reader.Reader.content c.args.heap.now c.args.mutator was.0 c.args.parted c.args.pins c.args.report.promoted c.args.report.freed was.1 was.2 c.new-none.result c.new-none.ensures
    c.unmark_others.new.mutator c.unmark_others.ensures.only c.unmark_others.ensures.marks

pub restored-requires-clause-of : goal.restored-requires-clause-of
restored-requires-clause-of g c =
    let was = c.requires.1.1.0 in
    mutator g.D.Reader.Reader.content c.args.heap.now c.args.mutator was.0 c.args.parted c.args.pins c.args.report.promoted c.args.report.freed was.1 was.2 c.new-none.result c.new-none.ensures
    c.unmark_others.new.mutator c.unmark_others.ensures.only c.unmark_others.ensures.marks c.unmark_others-2.new.mutator c.unmark_others-2.ensures.only c.unmark_others-2.ensures.marks
    c.give_back.new.self g.failed (g.D.Disk.faults c.args.turn.journal.disk) c.give_back.ensures.ended

pub restored-requires-clause-known : goal.restored-requires-clause-known
restored-requires-clause-known g c =
    let was = c.requires.1.1.0 in
    known g.D.Reader.Reader.content c.args.heap.now c.args.mutator was.0 c.args.parted c.args.pins c.args.report.promoted c.args.report.freed was.1 was.2 c.new-none.result c.new-none.ensures
    c.unmark_others.new.mutator c.unmark_others.ensures.only c.unmark_others.ensures.marks c.unmark_others-2.new.mutator c.unmark_others-2.ensures.only c.unmark_others-2.ensures.marks
    c.give_back.new.self g.failed (g.D.Disk.faults c.args.turn.journal.disk) c.give_back.ensures.ended

pub restored-requires-clause-owed : goal.restored-requires-clause-owed
restored-requires-clause-owed g c =
    let was = c.requires.1.1.0 in
    pages_owed g.D.Reader.Reader.content c.args.heap.now c.args.mutator was.0 c.args.parted c.args.pins c.args.report.promoted c.args.report.freed was.1 was.2 c.new-none.result c.new-none.ensures
    c.unmark_others.new.mutator c.unmark_others.ensures.only c.unmark_others.ensures.marks c.unmark_others-2.new.mutator c.unmark_others-2.ensures.only c.unmark_others-2.ensures.marks
    c.give_back.new.self g.failed (g.D.Disk.faults c.args.turn.journal.disk) c.give_back.ensures.ended
    c.undo.result.pages.images c.undo.result.space c.undo.ensures.pages c.undo.ensures.space

pub restored-requires-clause-space : goal.restored-requires-clause-space
restored-requires-clause-space g c =
    let was = c.requires.1.1.0 in
    one_space g.D.Reader.Reader.content c.args.heap.now c.args.mutator was.0 c.args.parted c.args.pins c.args.report.promoted c.args.report.freed was.1 was.2 c.new-none.result c.new-none.ensures
    c.unmark_others.new.mutator c.unmark_others.ensures.only c.unmark_others.ensures.marks c.unmark_others-2.new.mutator c.unmark_others-2.ensures.only c.unmark_others-2.ensures.marks
    c.give_back.new.self g.failed (g.D.Disk.faults c.args.turn.journal.disk) c.give_back.ensures.ended
    c.undo.result.pages.images c.undo.result.space c.undo.ensures.pages c.undo.ensures.space

pub restored-requires-clause-all : goal.restored-requires-clause-all
restored-requires-clause-all g c =
    let was = c.requires.1.1.0 in
    nothing_else g.D.Reader.Reader.content c.args.heap.now c.args.mutator was.0 c.args.parted c.args.pins c.args.report.promoted c.args.report.freed was.1 was.2 c.new-none.result c.new-none.ensures
    c.unmark_others.new.mutator c.unmark_others.ensures.only c.unmark_others.ensures.marks c.unmark_others-2.new.mutator c.unmark_others-2.ensures.only c.unmark_others-2.ensures.marks
    c.give_back.new.self g.failed (g.D.Disk.faults c.args.turn.journal.disk) c.give_back.ensures.ended
    c.undo.result.pages.images c.undo.result.space c.undo.ensures.pages c.undo.ensures.space

pub returns-clause-failed : goal.returns-clause-failed
returns-clause-failed g c =
    let was = c.requires.1.1.0 in
    has_failed_pass g.D.Reader.Reader.content c.args.heap.now c.args.mutator was.0 c.args.parted c.args.pins c.args.report.promoted c.args.report.freed was.1 was.2 c.new-none.result c.new-none.ensures
    c.unmark_others.new.mutator c.unmark_others.ensures.only c.unmark_others.ensures.marks c.unmark_others-2.new.mutator c.unmark_others-2.ensures.only c.unmark_others-2.ensures.marks
    c.give_back.new.self g.failed (g.D.Disk.faults c.args.turn.journal.disk) c.give_back.ensures.ended
    c.restored.result c.restored.ensures.cleared c.requires.1.1.1.heard
