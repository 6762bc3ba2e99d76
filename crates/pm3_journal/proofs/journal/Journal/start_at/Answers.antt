use Rattle.pm3_journal.proofs.Emptying.{keeps_numbered}
use Rattle.pm3_journal.proofs.journal.Journal.start_at.Goals as goal

pub invariant_of-self : goal.invariant_of-self
invariant_of-self g c = (keeps_numbered g.D.Disk _ c.args.seq (rw (← c.self.view_is) at c.requires.none) c.self.invariant.0, c.self.invariant.1, c.self.invariant.2, c.self.invariant.3)
