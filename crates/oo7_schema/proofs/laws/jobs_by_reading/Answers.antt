use Rattle.oo7_schema.proofs.NewNames.{jobs_see_readings, job_is_of_reading}
use Rattle.oo7_schema.proofs.Running.{runs_by_reading, runs_leave_readings, runs_on_designs, reports_tell_runs}
use Rattle.oo7_schema.proofs.laws.jobs_by_reading.Goals as goal

pub returns-clause-same : goal.returns-clause-same
returns-clause-same c = jobs_see_readings

pub returns-clause-job : goal.returns-clause-job
returns-clause-job c = job_is_of_reading

pub returns-clause-run : goal.returns-clause-run
returns-clause-run c = runs_by_reading

pub returns-clause-store : goal.returns-clause-store
returns-clause-store c = runs_on_designs

pub returns-clause-left : goal.returns-clause-left
returns-clause-left c = runs_leave_readings

pub returns-clause-reports : goal.returns-clause-reports
returns-clause-reports c = reports_tell_runs
