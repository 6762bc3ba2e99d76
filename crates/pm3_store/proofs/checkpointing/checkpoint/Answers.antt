use Rattle.std.proofs.Common.{◌≡◌, ◌<◌, length, None, Err, rules, arith, ap}
use Rattle.pm3_disk.proofs.Contents.{told_same}
use Rattle.pm3_core.specs.declared.naming.TheConstants.{BASE}
use Rattle.pm3_store.proofs.Crashing.{both_exits, gate_kept, no_journal_call, pages_kept}
use Rattle.pm3_store.proofs.Recording.{any_step, none_told, changed_as, emptied_store, home, leaves_as, replaced_as, same_given, stopped_store, torn_store, with_images, with_journal, writable}
use Rattle.pm3_store.proofs.checkpointing.checkpoint.Goals as goal

pub write_records-requires-clause-images : goal.write_records-requires-clause-images
write_records-requires-clause-images g c =
    writable g.D.Disk BASE (g.D.Disk.content c.args.opened.now.pages) c.args.opened.now.journal c.args.opened.now.catalog c.args.opened.now.images.images c.args.opened.now.marks c.requires.open

pub write_records-requires-clause-home : goal.write_records-requires-clause-home
write_records-requires-clause-home g c =
    home g.D.Disk BASE (g.D.Disk.content c.args.opened.now.pages) c.args.opened.now.journal c.args.opened.now.catalog c.args.opened.now.images.images c.args.opened.now.marks c.requires.open

pub returns-in-Err-PageFault-clause-open : goal.returns-in-Err-PageFault-clause-open
returns-in-Err-PageFault-clause-open g c =
    let idle : c.args.opened.now.journal.stopped ≡ None = search rules in
    let some : 0 < length c.args.opened.now.journal.summaries = omega (arith, ap length c.entries.ensures.summaries, c.len.ensures) in
    let keeps = c.stopped.ensures.keeps in
    let same = same_given c.args.opened.now.journal.summaries c.entries-2.result.now.summaries c.args.opened.now.marks c.args.opened.now.catalog BASE c.args.opened.now.images.images c.entries-2.ensures.summaries in
    with_images g.D.Disk BASE (g.D.Disk.content c.write_records.new.pages) c.args.opened.now.journal c.args.opened.now.catalog c.args.opened.now.images.images c.write_records.new.images.images c.args.opened.now.marks c.write_records.ensures.same
    (torn_store g.D.Disk BASE (g.D.Disk.content c.args.opened.now.pages) c.args.opened.now.journal c.args.opened.now.catalog c.args.opened.now.images.images c.args.opened.now.marks c.requires.open keeps idle some (g.D.Disk.content c.write_records.new.pages) (changed_as _ _ _ _ same (c.in-Err-PageFault.ensures.torn (ap Err c.in-Err-PageFault.field-0-is))))

pub returns-in-Err-PageFault-clause-pages_crash : goal.returns-in-Err-PageFault-clause-pages_crash
returns-in-Err-PageFault-clause-pages_crash g c graph stands =
    let idle : c.args.opened.now.journal.stopped ≡ None = search rules in
    let some : 0 < length c.args.opened.now.journal.summaries = omega (arith, ap length c.entries.ensures.summaries, c.len.ensures) in
    let keeps = c.stopped.ensures.keeps in
    let same = same_given c.args.opened.now.journal.summaries c.entries-2.result.now.summaries c.args.opened.now.marks c.args.opened.now.catalog BASE c.args.opened.now.images.images c.entries-2.ensures.summaries in
    pages_kept g.D.Disk c.args.opened.now.pages c.args.opened.now.journal c.args.opened.now.catalog c.args.opened.now.images.images c.args.opened.now.marks c.requires.open keeps idle some graph stands c.write_records.new.pages (leaves_as g.D.Disk _ _ _ _ same c.write_records.ensures.crash)

pub returns-in-Err-PageFault-clause-stands : goal.returns-in-Err-PageFault-clause-stands
returns-in-Err-PageFault-clause-stands g c graph stands =
    let idle : c.args.opened.now.journal.stopped ≡ None = search rules in
    let some : 0 < length c.args.opened.now.journal.summaries = omega (arith, ap length c.entries.ensures.summaries, c.len.ensures) in
    let keeps = c.stopped.ensures.keeps in
    let same = same_given c.args.opened.now.journal.summaries c.entries-2.result.now.summaries c.args.opened.now.marks c.args.opened.now.catalog BASE c.args.opened.now.images.images c.entries-2.ensures.summaries in
    both_exits g.D.Disk graph c.args.opened.now.pages c.write_records.new.pages c.args.opened.now.journal.disk c.args.opened.now.journal.disk stands (pages_kept g.D.Disk c.args.opened.now.pages c.args.opened.now.journal c.args.opened.now.catalog c.args.opened.now.images.images c.args.opened.now.marks c.requires.open keeps idle some graph stands c.write_records.new.pages (leaves_as g.D.Disk _ _ _ _ same c.write_records.ensures.crash)) (no_journal_call g.D.Disk c.args.opened.now.journal.disk graph c.write_records.new.pages)

pub returns-in-Ok-close_first_gate-clause-open : goal.returns-in-Ok-close_first_gate-clause-open
returns-in-Ok-close_first_gate-clause-open g c =
    let idle : c.args.opened.now.journal.stopped ≡ None = search rules in
    let some : 0 < length c.args.opened.now.journal.summaries = omega (arith, ap length c.entries.ensures.summaries, c.len.ensures) in
    let keeps = c.stopped.ensures.keeps in
    let same = same_given c.args.opened.now.journal.summaries c.entries-2.result.now.summaries c.args.opened.now.marks c.args.opened.now.catalog BASE c.args.opened.now.images.images c.entries-2.ensures.summaries in
    with_journal g.D.Disk BASE (g.D.Disk.content c.write_records.new.pages) c.close_first_gate.new.self _ c.args.opened.now.catalog c.write_records.new.images.images c.args.opened.now.marks c.in-Ok-close_first_gate.ensures.emptied
    (with_images g.D.Disk BASE (g.D.Disk.content c.write_records.new.pages) _ c.args.opened.now.catalog c.args.opened.now.images.images c.write_records.new.images.images c.args.opened.now.marks c.write_records.ensures.same
    (emptied_store g.D.Disk BASE (g.D.Disk.content c.args.opened.now.pages) c.args.opened.now.journal c.args.opened.now.catalog c.args.opened.now.images.images c.args.opened.now.marks c.requires.open keeps idle some (g.D.Disk.content c.write_records.new.pages) (g.D.Disk.moment c.close_first_gate.new.self.disk) c.close_first_gate.new.self.disk (replaced_as _ _ _ _ same c.in-Ok.ensures.ok) c.in-Ok-close_first_gate.ensures.none))

pub returns-in-Ok-close_first_gate-clause-pages_crash : goal.returns-in-Ok-close_first_gate-clause-pages_crash
returns-in-Ok-close_first_gate-clause-pages_crash g c graph stands =
    let idle : c.args.opened.now.journal.stopped ≡ None = search rules in
    let some : 0 < length c.args.opened.now.journal.summaries = omega (arith, ap length c.entries.ensures.summaries, c.len.ensures) in
    let keeps = c.stopped.ensures.keeps in
    let same = same_given c.args.opened.now.journal.summaries c.entries-2.result.now.summaries c.args.opened.now.marks c.args.opened.now.catalog BASE c.args.opened.now.images.images c.entries-2.ensures.summaries in
    pages_kept g.D.Disk c.args.opened.now.pages c.args.opened.now.journal c.args.opened.now.catalog c.args.opened.now.images.images c.args.opened.now.marks c.requires.open keeps idle some graph stands c.write_records.new.pages (leaves_as g.D.Disk _ _ _ _ same c.write_records.ensures.crash)

pub returns-in-Ok-close_first_gate-clause-journal_crash : goal.returns-in-Ok-close_first_gate-clause-journal_crash
returns-in-Ok-close_first_gate-clause-journal_crash g c graph stands =
    let idle : c.args.opened.now.journal.stopped ≡ None = search rules in
    let some : 0 < length c.args.opened.now.journal.summaries = omega (arith, ap length c.entries.ensures.summaries, c.len.ensures) in
    let keeps = c.stopped.ensures.keeps in
    let same = same_given c.args.opened.now.journal.summaries c.entries-2.result.now.summaries c.args.opened.now.marks c.args.opened.now.catalog BASE c.args.opened.now.images.images c.entries-2.ensures.summaries in
    gate_kept g.D.Disk c.args.opened.now.pages c.args.opened.now.journal c.args.opened.now.catalog c.args.opened.now.images.images c.args.opened.now.marks c.requires.open keeps idle some graph stands c.write_records.new.pages c.close_first_gate.new.self.disk (λ bytes told. g.met.D.Disk.leaves_what_it_reads c.args.opened.now.pages bytes told) c.in-Ok.ensures.settled (replaced_as _ _ _ _ same c.in-Ok.ensures.ok) (c.close_first_gate.ensures.crash (keeps.untorn idle)) c.close_first_gate.ensures.crash_write

pub returns-in-Ok-close_first_gate-clause-stands : goal.returns-in-Ok-close_first_gate-clause-stands
returns-in-Ok-close_first_gate-clause-stands g c graph stands =
    let idle : c.args.opened.now.journal.stopped ≡ None = search rules in
    let some : 0 < length c.args.opened.now.journal.summaries = omega (arith, ap length c.entries.ensures.summaries, c.len.ensures) in
    let keeps = c.stopped.ensures.keeps in
    let same = same_given c.args.opened.now.journal.summaries c.entries-2.result.now.summaries c.args.opened.now.marks c.args.opened.now.catalog BASE c.args.opened.now.images.images c.entries-2.ensures.summaries in
    both_exits g.D.Disk graph c.args.opened.now.pages c.write_records.new.pages c.args.opened.now.journal.disk c.close_first_gate.new.self.disk stands (pages_kept g.D.Disk c.args.opened.now.pages c.args.opened.now.journal c.args.opened.now.catalog c.args.opened.now.images.images c.args.opened.now.marks c.requires.open keeps idle some graph stands c.write_records.new.pages (leaves_as g.D.Disk _ _ _ _ same c.write_records.ensures.crash)) (gate_kept g.D.Disk c.args.opened.now.pages c.args.opened.now.journal c.args.opened.now.catalog c.args.opened.now.images.images c.args.opened.now.marks c.requires.open keeps idle some graph stands c.write_records.new.pages c.close_first_gate.new.self.disk (λ bytes told. g.met.D.Disk.leaves_what_it_reads c.args.opened.now.pages bytes told) c.in-Ok.ensures.settled (replaced_as _ _ _ _ same c.in-Ok.ensures.ok) (c.close_first_gate.ensures.crash (keeps.untorn idle)) c.close_first_gate.ensures.crash_write)

pub returns-in-Err-clause-open : goal.returns-in-Err-clause-open
returns-in-Err-clause-open g c =
    let idle : c.args.opened.now.journal.stopped ≡ None = search rules in
    let some : 0 < length c.args.opened.now.journal.summaries = omega (arith, ap length c.entries.ensures.summaries, c.len.ensures) in
    let keeps = c.stopped.ensures.keeps in
    let same = same_given c.args.opened.now.journal.summaries c.entries-2.result.now.summaries c.args.opened.now.marks c.args.opened.now.catalog BASE c.args.opened.now.images.images c.entries-2.ensures.summaries in
    with_journal g.D.Disk BASE (g.D.Disk.content c.write_records.new.pages) c.close_first_gate.new.self _ c.args.opened.now.catalog c.write_records.new.images.images c.args.opened.now.marks c.in-Err.ensures.torn
    (with_images g.D.Disk BASE (g.D.Disk.content c.write_records.new.pages) _ c.args.opened.now.catalog c.args.opened.now.images.images c.write_records.new.images.images c.args.opened.now.marks c.write_records.ensures.same
    (stopped_store g.D.Disk BASE (g.D.Disk.content c.args.opened.now.pages) c.args.opened.now.journal c.args.opened.now.catalog c.args.opened.now.images.images c.args.opened.now.marks c.requires.open keeps idle some (g.D.Disk.content c.write_records.new.pages) c.close_first_gate.new.self.disk (replaced_as _ _ _ _ same c.in-Ok.ensures.ok)))

pub returns-in-Err-clause-pages_crash : goal.returns-in-Err-clause-pages_crash
returns-in-Err-clause-pages_crash g c graph stands =
    let idle : c.args.opened.now.journal.stopped ≡ None = search rules in
    let some : 0 < length c.args.opened.now.journal.summaries = omega (arith, ap length c.entries.ensures.summaries, c.len.ensures) in
    let keeps = c.stopped.ensures.keeps in
    let same = same_given c.args.opened.now.journal.summaries c.entries-2.result.now.summaries c.args.opened.now.marks c.args.opened.now.catalog BASE c.args.opened.now.images.images c.entries-2.ensures.summaries in
    pages_kept g.D.Disk c.args.opened.now.pages c.args.opened.now.journal c.args.opened.now.catalog c.args.opened.now.images.images c.args.opened.now.marks c.requires.open keeps idle some graph stands c.write_records.new.pages (leaves_as g.D.Disk _ _ _ _ same c.write_records.ensures.crash)

pub returns-in-Err-clause-journal_crash : goal.returns-in-Err-clause-journal_crash
returns-in-Err-clause-journal_crash g c graph stands =
    let idle : c.args.opened.now.journal.stopped ≡ None = search rules in
    let some : 0 < length c.args.opened.now.journal.summaries = omega (arith, ap length c.entries.ensures.summaries, c.len.ensures) in
    let keeps = c.stopped.ensures.keeps in
    let same = same_given c.args.opened.now.journal.summaries c.entries-2.result.now.summaries c.args.opened.now.marks c.args.opened.now.catalog BASE c.args.opened.now.images.images c.entries-2.ensures.summaries in
    gate_kept g.D.Disk c.args.opened.now.pages c.args.opened.now.journal c.args.opened.now.catalog c.args.opened.now.images.images c.args.opened.now.marks c.requires.open keeps idle some graph stands c.write_records.new.pages c.close_first_gate.new.self.disk (λ bytes told. g.met.D.Disk.leaves_what_it_reads c.args.opened.now.pages bytes told) c.in-Ok.ensures.settled (replaced_as _ _ _ _ same c.in-Ok.ensures.ok) (c.close_first_gate.ensures.crash (keeps.untorn idle)) c.close_first_gate.ensures.crash_write

pub returns-in-Err-clause-stands : goal.returns-in-Err-clause-stands
returns-in-Err-clause-stands g c graph stands =
    let idle : c.args.opened.now.journal.stopped ≡ None = search rules in
    let some : 0 < length c.args.opened.now.journal.summaries = omega (arith, ap length c.entries.ensures.summaries, c.len.ensures) in
    let keeps = c.stopped.ensures.keeps in
    let same = same_given c.args.opened.now.journal.summaries c.entries-2.result.now.summaries c.args.opened.now.marks c.args.opened.now.catalog BASE c.args.opened.now.images.images c.entries-2.ensures.summaries in
    both_exits g.D.Disk graph c.args.opened.now.pages c.write_records.new.pages c.args.opened.now.journal.disk c.close_first_gate.new.self.disk stands (pages_kept g.D.Disk c.args.opened.now.pages c.args.opened.now.journal c.args.opened.now.catalog c.args.opened.now.images.images c.args.opened.now.marks c.requires.open keeps idle some graph stands c.write_records.new.pages (leaves_as g.D.Disk _ _ _ _ same c.write_records.ensures.crash)) (gate_kept g.D.Disk c.args.opened.now.pages c.args.opened.now.journal c.args.opened.now.catalog c.args.opened.now.images.images c.args.opened.now.marks c.requires.open keeps idle some graph stands c.write_records.new.pages c.close_first_gate.new.self.disk (λ bytes told. g.met.D.Disk.leaves_what_it_reads c.args.opened.now.pages bytes told) c.in-Ok.ensures.settled (replaced_as _ _ _ _ same c.in-Ok.ensures.ok) (c.close_first_gate.ensures.crash (keeps.untorn idle)) c.close_first_gate.ensures.crash_write)

pub returns-then-len-eq0-clause-emptied : goal.returns-then-len-eq0-clause-emptied
returns-then-len-eq0-clause-emptied g c = none_told g.D.Disk c.args.opened.now.journal c.stopped.ensures.keeps (search rules) (omega (arith, ap length c.entries.ensures.summaries, c.len.ensures))

pub returns-in-Ok-close_first_gate-clause-emptied : goal.returns-in-Ok-close_first_gate-clause-emptied
returns-in-Ok-close_first_gate-clause-emptied g c bytes told = (c.in-Ok-close_first_gate.ensures.none.back bytes told).2.list

pub returns-then-len-eq0-clause-told : goal.returns-then-len-eq0-clause-told
returns-then-len-eq0-clause-told g c = (told_same (g.D.Disk.content c.args.opened.now.pages), told_same (g.D.Disk.content c.args.opened.now.journal.disk))

pub returns-in-Ok-close_first_gate-clause-told : goal.returns-in-Ok-close_first_gate-clause-told
returns-in-Ok-close_first_gate-clause-told g c = (any_step c.in-Ok.ensures.ok, any_step c.in-Ok-close_first_gate.ensures.none)
