-- A pass moves objects of the space alone.
use Rattle.std.proofs.Common.{◌≡◌, ◌⊎◌, inl, inr, ℕ, true, List, None}
use Rattle.std.specs.FinMap.{get}
use Rattle.std.specs.List.{Contains}
use Rattle.pm3_types.specs.Fields.{Fields}
use Rattle.pm3_types.specs.Layout.{page_in}
use Rattle.pm3_types.specs.Least.Least.{begin, next}
use Rattle.pm3_types.specs.PassMoves.{AreMovers}
use Rattle.pm3_types.specs.PassSets.{Before, is_of_space, Promoted, Kept}
use Rattle.pm3_types.proofs.PassCarried.{no_object}

module _ (catalog : List Fields) (base : ℕ) (before : Before) where
  pub promoted_there : (a : ℕ) → Promoted catalog base before a → is_of_space base before a ≡ true
  promoted_there _ (begin a first) = first.0
  promoted_there _ (next a b member leads) = leads.0

  pub kept_there : (a : ℕ) → Kept catalog base before a → is_of_space base before a ≡ true
  kept_there _ (begin a first) = first.0
  kept_there _ (next a b member leads) = leads.0

  pub nothing_later : (olds : List ℕ) (a : ℕ) → AreMovers base before (Promoted catalog base before) olds ⊎ AreMovers base before (Kept catalog base before) olds
      → get before.space (page_in base a) ≡ None → Contains olds a → ⊥
  nothing_later olds a (inl movers) none is = no_object base before.space a none (promoted_there a (movers.only a is).0)
  nothing_later olds a (inr movers) none is = no_object base before.space a none (kept_there a (movers.only a is).0)
