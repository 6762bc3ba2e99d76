use Rattle.oo7_schema.proofs.Swapping.{swaps_leave_designs}
use Rattle.oo7_schema.proofs.Turning.{dates_leave_designs}
use Rattle.oo7_schema.proofs.Deleting.{deletes_leave_designs}
use Rattle.oo7_schema.proofs.Insertions.{inserts_leave_designs, jobs_leave_designs, jobs_leave_closed}
use Rattle.oo7_schema.proofs.laws.changes_stay.Goals as goal

pub returns-clause-swaps : goal.returns-clause-swaps
returns-clause-swaps c = swaps_leave_designs

pub returns-clause-dates : goal.returns-clause-dates
returns-clause-dates c = dates_leave_designs

pub returns-clause-deletes : goal.returns-clause-deletes
returns-clause-deletes c = deletes_leave_designs

pub returns-clause-inserts : goal.returns-clause-inserts
returns-clause-inserts c = inserts_leave_designs

pub returns-clause-jobs : goal.returns-clause-jobs
returns-clause-jobs c = jobs_leave_designs

pub returns-clause-closed : goal.returns-clause-closed
returns-clause-closed c = jobs_leave_closed
