use Rattle.pm3_history.proofs.Committing.{commits_keep, commits_run}
use Rattle.pm3_history.proofs.PlainCommits.{plain_commits_follow}
use Rattle.pm3_history.proofs.commit.commit_law.Goals as goal

pub returns : goal.returns
returns c = record { kept = commits_keep; run = commits_run c.frame_of_runs.ensures; plain = plain_commits_follow }
