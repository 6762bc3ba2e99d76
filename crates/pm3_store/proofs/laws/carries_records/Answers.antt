use Rattle.pm3_store.proofs.Carrying.{torn_opens, written_opens}
use Rattle.pm3_store.proofs.laws.carries_records.Goals as goal

pub returns-clause-torn : goal.returns-clause-torn
returns-clause-torn c = torn_opens

pub returns-clause-written : goal.returns-clause-written
returns-clause-written c = written_opens
