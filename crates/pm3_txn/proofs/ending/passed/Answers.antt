use Rattle.pm3_txn.specs.PassEnds.{is_promoted}
use Rattle.pm3_txn.proofs.PassReturns.{all_owed, changed_owed, has_given, left_home, pages_owed, parts_apart, space_owed}
use Rattle.pm3_txn.proofs.ending.passed.Goals as goal

pub end_pass-requires : goal.end_pass-requires
end_pass-requires g c κs within = (within.0, (within.1, (c.requires.1.1.0, (c.requires.1.1.1.0, c.requires.1.1.1.1.0))))

pub finish-requires-clause-home : goal.finish-requires-clause-home
finish-requires-clause-home g c =
    let is = c.requires.1.1.0 in left_home is.0 c.args.parted c.args.pins c.args.report.promoted c.args.report.freed is.1.has.carried.space_sound.home is.2

pub give_undone-requires-clause-pages : goal.give_undone-requires-clause-pages
give_undone-requires-clause-pages g c =
    let is = c.requires.1.1.0 in
    pages_owed c.quiet_law.ensures.others g.D.Reader.Reader.content c.args.heap.now c.args.mutator c.end_pass.new.mutator is.0 g.commit is.1 c.args.parted c.args.pins c.args.report.promoted c.args.report.freed is.2
    (g.D.Disk.faults c.args.turn.journal.disk) c.end_pass.ensures.ended c.finish.result.pages.images c.finish.ensures.pages

pub give_undone-requires-clause-written : goal.give_undone-requires-clause-written
give_undone-requires-clause-written g c =
    let is = c.requires.1.1.0 in
    changed_owed c.quiet_law.ensures.others g.D.Reader.Reader.content c.args.heap.now c.args.mutator c.end_pass.new.mutator is.0 g.commit is.1 c.args.parted c.args.pins c.args.report.promoted c.args.report.freed is.2
    (g.D.Disk.faults c.args.turn.journal.disk) c.end_pass.ensures.ended c.finish.result.written.images c.finish.ensures.written

pub give_undone-requires-clause-apart : goal.give_undone-requires-clause-apart
give_undone-requires-clause-apart g c =
    let is = c.requires.1.1.0 in
    parts_apart c.quiet_law.ensures.others g.D.Reader.Reader.content c.args.heap.now c.args.mutator c.end_pass.new.mutator is.0 g.commit is.1 c.args.parted c.args.pins c.args.report.promoted c.args.report.freed is.2
    (g.D.Disk.faults c.args.turn.journal.disk) c.end_pass.ensures.ended c.finish.result.pages.images c.finish.result.written.images c.finish.ensures.pages c.finish.ensures.written

pub give_undone-requires-clause-space : goal.give_undone-requires-clause-space
give_undone-requires-clause-space g c =
    let is = c.requires.1.1.0 in
    space_owed c.quiet_law.ensures.others g.D.Reader.Reader.content c.args.heap.now c.args.mutator c.end_pass.new.mutator is.0 g.commit is.1 c.args.parted c.args.pins c.args.report.promoted c.args.report.freed is.2
    (g.D.Disk.faults c.args.turn.journal.disk) c.end_pass.ensures.ended c.finish.result.space c.finish.ensures.space

pub give_undone-requires-clause-all : goal.give_undone-requires-clause-all
give_undone-requires-clause-all g c =
    let is = c.requires.1.1.0 in
    all_owed c.quiet_law.ensures.others g.D.Reader.Reader.content c.args.heap.now c.args.mutator c.end_pass.new.mutator is.0 g.commit is.1 c.args.parted c.args.pins c.args.report.promoted c.args.report.freed is.2
    (g.D.Disk.faults c.args.turn.journal.disk) c.end_pass.ensures.ended c.finish.result.pages.images c.finish.result.written.images c.finish.ensures.pages c.finish.ensures.written c.finish.result.space c.finish.ensures.space

pub returns-clause-given : goal.returns-clause-given
returns-clause-given g c =
    has_given c.args.heap.now.1 c.args.mutator g.commit (g.D.Disk.faults c.args.turn.journal.disk) c.end_pass.new.mutator c.give_undone.result (is_promoted c.args.parted) c.end_pass.ensures.ended c.give_undone.ensures.given
