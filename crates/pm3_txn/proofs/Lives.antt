-- How long the values of slots live: as long as their disk and its reader.
use Rattle.std.proofs.Common.{[], ◌++◌}
use base.Fml.{Lft}
use contract.BorrowLft.{◌⊑◌, ⊑_meet, ⊑_static}

module _ (κ D R : Lft) (d : κ ⊑ D) (r : κ ⊑ R) where
  abbrev own : Lft
  own = D ++ (R ++ [])

  abbrev journal : Lft
  journal = D ++ (((D ++ []) ++ (((D ++ []) ++ []) ++ [])) ++ [])

  abbrev snapshot : Lft
  snapshot = (own ++ (D ++ ((own ++ journal) ++ []))) ++ []

  end : κ ⊑ []
  end = ⊑_static κ

  both : (a b : Lft) → κ ⊑ a → κ ⊑ b → κ ⊑ (a ++ b)
  both a b = ⊑_meet κ a b

  of_own : κ ⊑ own
  of_own = ⊑_meet κ _ _ d (⊑_meet κ _ _ r end)

  of_journal : κ ⊑ journal
  of_journal = both _ _ d (both _ _ (both _ _ (both _ _ d end) (both _ _ (both _ _ (both _ _ d end) end) end)) end)

  of_snapshot : κ ⊑ snapshot
  of_snapshot = both _ _ (both _ _ of_own (both _ _ d (both _ _ (both _ _ of_own of_journal) end))) end

  pub value_lives : κ ⊑ (own ++ (((own ++ ((own ++ journal) ++ (D ++ ((snapshot ++ ((snapshot ++ []) ++ [])) ++ [])))) ++ []) ++ []))
  value_lives = both _ _ of_own (both _ _ (both _ _ (both _ _ of_own (both _ _ (both _ _ of_own of_journal) (both _ _ d (both _ _ (both _ _ of_snapshot (both _ _ (both _ _ of_snapshot end) end)) end)))) end) end)
