use Rattle.pm3_store.specs.Standing.{files_of}
use Rattle.oo7.proofs.Openings.{dumped_since}
use Rattle.oo7.proofs.dumping.dump.Goals as goal

pub returns-clause-reason : goal.returns-clause-reason
returns-clause-reason g c =
    rw c.on_store.ensures
    (dumped_since g.D.Disk (record { pages = c.args.pages; journal = c.args.journal }) (files_of c.in-Ok.opened) (files_of c.text_of-outcome.new.opened) c.in-Ok.ensures.read c.in-Ok.ensures.honest c.text_of-outcome.result c.text_of-outcome.ensures.ends)
