use Rattle.pm3_page.proofs.Bitmaps.{has_bit-set}
use Rattle.pm3_page.proofs.bits.Bits.set.Goals as goal

pub returns-clause-set : goal.returns-clause-set
returns-clause-set c = λ q. has_bit-set c.args.self.now.words.items c.args.page c.index_mut.result.now q c.requires c.index_mut.ensures.value
