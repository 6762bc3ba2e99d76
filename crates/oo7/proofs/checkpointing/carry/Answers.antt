use Rattle.std.proofs.Common.{◌∙◌, Err, refl, ap, sym}
use Rattle.pm3_store.specs.Standing.{files_of}
use Rattle.oo7.proofs.Openings.{stands}
use Rattle.oo7.proofs.checkpointing.carry.Goals as goal

pub unreachable-requires : goal.unreachable-requires
unreachable-requires g c =
    let stopped = (c.checkpoint.ensures.stopped c.in-Err-Stopped.field-0-0).0 (c.in-Err-Stopped.is ∙ ap Err c.in-Err-Stopped.field-0-is) in
    absurd (cc (sym stopped ∙ c.requires.runs))

pub returns-in-Ok-clause-ends : goal.returns-in-Ok-clause-ends
returns-in-Ok-clause-ends g c =
    let synced = c.in-Ok.ensures.synced c.requires.synced.pages in (
      refl,
      record {
        honest = c.in-Ok.ensures.honest;
        graph = λ graph opens. (
            let file = c.in-Ok.ensures.told.0.onward opens.file opens.file_told in
            let journal = c.in-Ok.ensures.told.1.onward opens.journal opens.journal_told in
            record {
              file = file.0;
              journal = journal.0;
              file_told = file.1;
              journal_told = journal.1;
              opens = c.checkpoint.ensures.stands graph (stands g.D.Disk (files_of c.args.opened.now) graph c.requires.synced opens) file.0 journal.0
                  (g.met.D.Disk.leaves_what_it_reads c.checkpoint.new.opened.pages file.0 file.1)
                  (g.met.D.Disk.leaves_what_it_reads c.checkpoint.new.opened.journal.disk journal.0 journal.1);
            }
            );
        emptied = c.in-Ok.ensures.emptied;
        synced = record { pages = synced.0; journal = synced.1 };
      },
    )
