use Rattle.oo7_schema.proofs.Bounding.{jobs_make_within, turns_make_within, builds_make_within}
use Rattle.oo7_schema.proofs.laws.within_room.Goals as goal

pub returns-clause-jobs : goal.returns-clause-jobs
returns-clause-jobs c = jobs_make_within

pub returns-clause-turns : goal.returns-clause-turns
returns-clause-turns c = turns_make_within

pub returns-clause-builds : goal.returns-clause-builds
returns-clause-builds c = builds_make_within
