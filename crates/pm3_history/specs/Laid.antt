-- Maps by number that are laid over one another or cut.
use Rattle.std.specs.Prelude.{ℕ, Bool, not, List, [], ◌∷◌}
use Rattle.std.specs.Ordering.{nat_cmp}
use Rattle.std.specs.FinMap.{FinMap, insert, entries, retain_keys, contains_key}

module _ {X : Type 0} where
  -- the map in which these entries replace those of m or are added
  abbrev pub with_entries : FinMap nat_cmp X → List (ℕ × X) → FinMap nat_cmp X
  with_entries m [] = m
  with_entries m (e ∷ es) = insert (with_entries m es) e.0 e.1

  -- what `more` has, and else what m has
  abbrev pub laid : FinMap nat_cmp X → FinMap nat_cmp X → FinMap nat_cmp X
  laid m more = with_entries m (entries more)

  -- what m has under numbers that pass a test
  abbrev pub where_number : FinMap nat_cmp X → (ℕ → Bool) → FinMap nat_cmp X
  where_number m passes = retain_keys m passes

-- what m has under numbers that `gone` lacks
abbrev pub without : {X Y : Type 0} → FinMap nat_cmp X → FinMap nat_cmp Y → FinMap nat_cmp X
without m gone = where_number m (λ n. not (contains_key gone n))
