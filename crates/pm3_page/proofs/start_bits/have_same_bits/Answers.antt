use Rattle.std.proofs.Common.{rules, ◌≡◌, ◌<◌, ◌^◌, ℕ, get_or, IsTrue, ap}
use Rattle.pm3_page.specs.StartBits.{bits_in}
use Rattle.pm3_page.proofs.SameBits.{same_words}
use Rattle.pm3_page.proofs.start_bits.have_same_bits.Goals as goal

pub returns : goal.returns
returns c =
    let low_one : (j : ℕ) → get_or c.args.one.now j 0 < 2 ^ 64 = search rules in
    let low_other : (j : ℕ) → get_or c.args.other.now j 0 < 2 ^ 64 = search rules in
    let same : IsTrue c.eq.result → c.args.one.now ≡ c.args.other.now = search rules in
    let is : c.args.one.now ≡ c.args.other.now → IsTrue c.eq.result = search rules in
    (λ true_. ap bits_in (same true_), λ bits. is (same_words c.args.one.now c.args.other.now c.requires low_one low_other bits))
