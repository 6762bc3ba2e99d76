use Rattle.oo7.proofs.Openings.{refused}
use Rattle.oo7.proofs.opening.open_store.Goals as goal

pub returns-in-Err-clause-cause : goal.returns-in-Err-clause-cause
returns-in-Err-clause-cause g c =
    rw c.refusal_of.ensures
    (refused g.D.Disk (record { pages = c.args.pages; journal = c.args.journal }) (record { pages = c.in-Err.field-0.pages; journal = c.in-Err.field-0.journal }) c.in-Err.field-0.cause c.in-Err.ensures.back c.in-Err.ensures.cause c.in-Err.ensures.fault)
