use Rattle.pm3_page.proofs.Bitmaps.{has_bit-clear}
use Rattle.pm3_page.proofs.bits.Bits.clear.Goals as goal

pub returns-clause-cleared : goal.returns-clause-cleared
returns-clause-cleared c = λ q. has_bit-clear c.args.self.now.words.items c.args.page c.index_mut.result.now q c.requires c.index_mut.ensures.value
