-- Words with the same bits are the same words.
use Rattle.std.proofs.Common.{◌≡◌, ◌<◌, ◌+◌, ◌*◌, ◌^◌, ◌==◌, ℕ, Bool, false, List, length, get_or, arith, sym, ap, ◌∙◌}
use Rattle.std.proofs.lemmas.Bool.Decides.{nat_tests}
use Rattle.std.specs.Int.{bit_at}
use Rattle.std.proofs.lemmas.Nat.Bits.{bit_at-lt, same_from_bits_below}
use Rattle.std.proofs.lemmas.List.{ext_get_or}
use Rattle.pm3_page.specs.StartBits.{bits_in}
use Rattle.pm3_page.proofs.BitLists.{get-bits_in}

same_bit : (x y : ℕ) → x < 2 → y < 2 → (x == 1) ≡ (y == 1) → x ≡ y
same_bit x y one two same = grind (arith, nat_tests)

pub same_words : (ws vs : List ℕ) → length ws ≡ length vs → ((j : ℕ) → get_or ws j 0 < 2 ^ 64) → ((j : ℕ) → get_or vs j 0 < 2 ^ 64) → bits_in ws ≡ bits_in vs → ws ≡ vs
same_words ws vs long low_ws low_vs same = ext_get_or 0 ws vs long (λ j there. same_from_bits_below 64 (get_or ws j 0) (get_or vs j 0) (low_ws j) (low_vs j) (λ i below.
    same_bit (bit_at (get_or ws j 0) i) (bit_at (get_or vs j 0) i) (bit_at-lt (get_or ws j 0) i) (bit_at-lt (get_or vs j 0) i)
    (sym (get-bits_in ws j i below) ∙ ap (λ (l : List Bool). get_or l (64 * j + i) false) same ∙ get-bits_in vs j i below)))
