use Rattle.pm3_page.proofs.BitLists.{bits_in-zeros}
use Rattle.pm3_page.proofs.start_bits.StartBits.new.Goals as goal

pub returns : goal.returns
returns c = bits_in-zeros 8
