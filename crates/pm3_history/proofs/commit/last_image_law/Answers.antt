use Rattle.pm3_history.proofs.Lasting.{written_stand, left_stand, last_is_written}
use Rattle.pm3_history.proofs.commit.last_image_law.Goals as goal

pub returns : goal.returns
returns c = record { written = written_stand; left = left_stand; last = last_is_written }
