use Rattle.std.proofs.Common.{rules, arith, ◌≡◌, length}
use Rattle.pm3_page.proofs.BitLists.{bits_in-clear}
use Rattle.pm3_page.proofs.start_bits.StartBits.remove.Goals as goal

pub returns : goal.returns
returns c =
    let eight : length c.self.inside.bits ≡ 8 = search rules in
    rw (← c.self.view_is) (bits_in-clear c.self.inside.bits c.args.word (omega arith))
