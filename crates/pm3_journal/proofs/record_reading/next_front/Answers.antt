use Rattle.std.proofs.Common.{◌-◌, arith, length}
use Rattle.pm3_types.specs.Bytes.{piece}
use Rattle.pm3_journal.proofs.Pieces.{stands_short}
use Rattle.pm3_journal.proofs.record_reading.next_front.Goals as goal

pub returns-then-len-at-lt-FRONT_SIZE-clause-none : goal.returns-then-len-at-lt-FRONT_SIZE-clause-none
returns-then-len-at-lt-FRONT_SIZE-clause-none g c bytes told = stands_short c.args.due (length bytes - c.args.at) (piece c.args.at 48 bytes) (omega (arith, c.requires.len bytes told))
