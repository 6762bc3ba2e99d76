use Rattle.oo7_schema.proofs.LineReading.{jobs_are_read, lines_are_jobs, lines_are_short}
use Rattle.oo7_schema.proofs.laws.job_lines.Goals as goal

pub returns-clause-read : goal.returns-clause-read
returns-clause-read c = jobs_are_read

pub returns-clause-written : goal.returns-clause-written
returns-clause-written c = lines_are_jobs

pub returns-clause-short : goal.returns-clause-short
returns-clause-short c = lines_are_short
