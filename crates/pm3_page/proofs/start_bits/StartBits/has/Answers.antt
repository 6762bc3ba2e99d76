use Rattle.std.proofs.Common.{◌==◌, ◌/◌, ◌%◌, ℕ, get_or, ap, sym, ◌∙◌}
use Rattle.std.proofs.lemmas.Nat.Bits.{shr_and_one}
use Rattle.pm3_page.proofs.BitLists.{get-bits_in_at}
use Rattle.pm3_page.proofs.start_bits.StartBits.has.Goals as goal

pub returns : goal.returns
returns c =
    rw (← c.self.view_is) (
    ap (λ (b : ℕ). b == 1) (shr_and_one (get_or c.self.inside.bits (c.args.word / 64) 0) (c.args.word % 64))
    ∙ sym (get-bits_in_at c.self.inside.bits c.args.word))
