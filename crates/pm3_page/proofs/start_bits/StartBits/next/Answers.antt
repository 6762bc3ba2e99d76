use Rattle.std.proofs.Common.{◌≡◌, ◌<◌, ◌∙◌, ℕ, Bool, false, List, get_or, sym, ap, rules}
use Rattle.pm3_page.specs.Bits.{has_bit}
use Rattle.pm3_page.specs.StartBits.{bits_in}
use Rattle.pm3_page.proofs.BitLists.{get-bits_in_at}
use Rattle.pm3_page.proofs.start_bits.StartBits.next.Goals as goal

-- whether an object begins at a word, by the bits
by_bit : (bits : List ℕ) (starts : List Bool) (i : ℕ) → starts ≡ bits_in bits → get_or starts i false ≡ has_bit bits i
unfolding has_bit
by_bit bits starts i is = ap (λ (xs : List Bool). get_or xs i false) is ∙ get-bits_in_at bits i

pub returns-in-Some : goal.returns-in-Some
returns-in-Some c =
    let next = c.in-Some.ensures.next in
    let low : c.in-Some.word < 512 = search rules in (
      next.reached,
      low,
      by_bit c.self.inside.bits c.args.self.now c.in-Some.word (sym c.self.view_is) ∙ next.there,
      λ i from below. by_bit c.self.inside.bits c.args.self.now i (sym c.self.view_is) ∙ next.least i from below,
    )

pub returns-in-None : goal.returns-in-None
returns-in-None c i from low = by_bit c.self.inside.bits c.args.self.now i (sym c.self.view_is) ∙ c.in-None.ensures.next i from
