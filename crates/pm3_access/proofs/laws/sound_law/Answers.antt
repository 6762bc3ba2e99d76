use Rattle.pm3_access.proofs.SoundingPages.{sound_for_more}
use Rattle.pm3_access.proofs.laws.sound_law.Goals as goal

pub returns : goal.returns
returns c = sound_for_more
