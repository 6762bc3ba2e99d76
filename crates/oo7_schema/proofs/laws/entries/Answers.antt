use Rattle.oo7_schema.proofs.Coming.{entries_come, entries_go, entries_come_and_go, dates_turn}
use Rattle.oo7_schema.proofs.laws.entries.Goals as goal

pub returns-clause-come : goal.returns-clause-come
returns-clause-come c = entries_come

pub returns-clause-go : goal.returns-clause-go
returns-clause-go c = entries_go

pub returns-clause-both : goal.returns-clause-both
returns-clause-both c = entries_come_and_go

pub returns-clause-dates : goal.returns-clause-dates
returns-clause-dates c = dates_turn
