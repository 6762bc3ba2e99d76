use Rattle.std.proofs.Common.{inr}
use Rattle.pm3_store.specs.Standing.{files_of}
use Rattle.oo7.proofs.Openings.{ends_since, stands_since}
use Rattle.oo7.proofs.checkpointing.checkpoint.Goals as goal

pub returns-clause-reason : goal.returns-clause-reason
returns-clause-reason g c =
    rw c.on_store.ensures
    (ends_since g.D.Disk (record { pages = c.args.pages; journal = c.args.journal }) (files_of c.in-Ok.opened) (files_of c.carry-outcome.new.opened) c.in-Ok.ensures.read c.in-Ok.ensures.honest c.carry-outcome.result c.carry-outcome.ensures.ends)

pub returns-clause-stops : goal.returns-clause-stops
returns-clause-stops g c =
    rw c.on_store.ensures
    (inr (record {
      opened = files_of c.in-Ok.opened;
      read = c.in-Ok.ensures.read;
      synced = c.in-Ok.ensures.synced;
      pages = λ graph opens. c.carry-outcome.ensures.pages graph (stands_since g.D.Disk _ _ c.in-Ok.ensures.read c.in-Ok.ensures.synced graph opens);
      journal = λ graph opens. c.carry-outcome.ensures.journal graph (stands_since g.D.Disk _ _ c.in-Ok.ensures.read c.in-Ok.ensures.synced graph opens);
      exit = λ graph opens. c.carry-outcome.ensures.exit graph (stands_since g.D.Disk _ _ c.in-Ok.ensures.read c.in-Ok.ensures.synced graph opens);
    }))
