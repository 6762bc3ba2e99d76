-- Page numbers as bits: 64 to a word, the lowest number in the lowest bit.
use Rattle.std.specs.Prelude.{ℕ, zero, suc, ◌*◌, ◌/◌, ◌%◌, Bool, ◌==◌, List, length, slice_index}
use Rattle.std.specs.Int.{bit_at}
use Rattle.std.specs.Ordering.{nat_cmp}
use Rattle.std.specs.FinSet as set

-- whether the bit of a page is set
unfoldable pub has_bit : List ℕ → ℕ → Bool
has_bit words page = bit_at (slice_index words (page / 64)) (page % 64) == 1

-- the numbers below n
unfoldable pub below : ℕ → set.FinSet nat_cmp
below zero = set.empty
below (suc n) = set.insert (below n) n

-- the pages whose bits are set
unfoldable pub pages_of : List ℕ → set.FinSet nat_cmp
pages_of words = set.retain (below (64 * length words)) (has_bit words)
