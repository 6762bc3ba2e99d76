use Rattle.pm3_history.proofs.Filing.{files_open}
use Rattle.pm3_history.proofs.files.files_law.Goals as goal

pub returns : goal.returns
returns c = record { opens = files_open c.reached_names.ensures.alike }
