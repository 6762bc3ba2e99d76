-- The free pages of a space.
use Rattle.std.specs.Prelude.{ℕ, List}
use Rattle.std.specs.Ordering.{nat_cmp}
use Rattle.std.specs.FinSet as set

-- page numbers
abbrev pub Numbers : Type 0
Numbers = set.FinSet nat_cmp

-- the pages that are free, how many more there is room for, and how many beside those, which were drawn
pub record FreeList : Type 0 where
  pub pages : Numbers
  pub room : ℕ
  pub kept : ℕ

-- the set with the pages of a list
abbrev pub with_pages : Numbers → List ℕ → Numbers
with_pages pages more = set.union pages (set.from_list more)
