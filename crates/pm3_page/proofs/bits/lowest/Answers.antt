use Rattle.std.proofs.Common.{arith}
use Rattle.pm3_page.proofs.Bitmaps.{none_from, least_from, bit_below_64}
use Rattle.pm3_page.proofs.bits.lowest.Goals as goal

pub returns-then-rest-eq0 : goal.returns-then-rest-eq0
returns-then-rest-eq0 c = record { next = none_from c.args.word c.args.low c.if-rest-eq0.true; small = tt }

pub returns : goal.returns
returns c = let found = least_from c.args.word c.args.low (omega arith) (omega arith) in record { next = found; small = bit_below_64 c.args.word _ (omega arith) found.there }
