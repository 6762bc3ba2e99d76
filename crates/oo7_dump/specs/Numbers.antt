-- The numbers of addresses, in a table for each page on which an address has one.
use Rattle.std.specs.Prelude.{◌≡◌, ◌+◌, ◌-◌, ◌<◌, ◌≤◌, ◌==◌, ℕ, nat_lt, cond, List, length, Option, None, Some, slice_index, slice_index_or}
use Rattle.pm3_core.specs.declared.naming.TheConstants.{BASE}
use Rattle.pm3_types.specs.Layout.{is_address, page_in, word_in}
use Rattle.pm3_types.specs.Numbering.{number_of}

-- where the table of a page ends among all numbers: below 512 where it has none
abbrev pub end_of : List ℕ → ℕ → ℕ
end_of ends page = slice_index_or ends page 0

-- the number in a cell, where 0 is none
abbrev pub number_in : ℕ → Option ℕ
number_in n = cond (n == 0) None (Some n)

-- the number of a word in the table that ends here
abbrev pub number_at : List ℕ → ℕ → ℕ → Option ℕ
number_at numbers end word = cond (nat_lt end 512) None (number_in (slice_index numbers (end - 512 + word)))

-- the number that the tables have for an address
abbrev pub noted : List ℕ → List ℕ → ℕ → Option ℕ
noted ends numbers a = cond (is_address BASE a) (number_at numbers (end_of ends (page_in BASE a)) (word_in BASE a)) None

-- tables lie within the numbers, and no two overlap
pub record AreTables (ends numbers : List ℕ) : Type 0 where
  pub within : (page : ℕ) → end_of ends page ≤ length numbers
  pub apart : (page other : ℕ) → 512 ≤ end_of ends page → end_of ends page ≤ end_of ends other → end_of ends other < end_of ends page + 512 → page ≡ other

-- the tables have the number of each address of the list, and no other
pub record AreNumbers (ends numbers list : List ℕ) : Type 0 where
  pub tables : AreTables ends numbers
  pub are : (a : ℕ) → noted ends numbers a ≡ number_of list a
