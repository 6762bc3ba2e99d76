-- What a pass leaves.
use Rattle.std.specs.Prelude.{ℕ, ◌≡◌, ◌⊎◌, ◌↔◌, true, List, take, drop}
use Rattle.std.specs.List.{Contains}
use Rattle.std.specs.FinMap as map
use Rattle.std.specs.FinSet as set
use Rattle.pm3_types.specs.Fields.{Fields}
use Rattle.pm3_types.specs.Objects.{is_object_at}
use Rattle.pm3_types.specs.PassMoves.{Move, AreMoves, moved_by, wanted_by}
use Rattle.pm3_types.specs.Layout.{page_in}
use Rattle.pm3_types.specs.PassSets.{Before, IsDead, Kept, Promoted, Turns}
use Rattle.pm3_types.specs.PassShown.{AreAddresses, AreCarried}
use Rattle.pm3_types.specs.Shown.{Images}

-- A pass was carried out: of all images before it, those now are these of the space and these of written pages.
--
-- The objects have moved as the sets of the pass and these fresh pages tell, each onto one of these pages, each that is not dead
-- stands at its new address with all references following, and no other object is left. What is promoted stands on a written page then, and what is kept on a page
-- of the space. Written pages are those before, the pinned ones that turn persistent,
-- and the least of the fresh ones; pages of the space are the other pinned ones and the other fresh ones.
pub record IsCarriedOut (catalog : List Fields) (base : ℕ) (before : Before) (fresh : List ℕ) (all now space written : Images) : Type 0 where
  pub moves : List Move
  pub are : AreMoves catalog base before fresh moves
  pub addresses : AreAddresses base (moved_by moves) all
  pub goes : (a : ℕ) → (moved_by moves a ≡ a) ⊎ Contains fresh (page_in base (moved_by moves a))
  pub carried : AreCarried catalog base (moved_by moves) (IsDead catalog base before) all now
  pub only : (b : ℕ) → is_object_at base now b ≡ true → (a : ℕ) × (moved_by moves a ≡ b) × (is_object_at base all a ≡ true) × (IsDead catalog base before a → ⊥)
  pub persistent : (a : ℕ) → Promoted catalog base before a → map.contains_key written (page_in base (moved_by moves a)) ≡ true
  pub volatile : (a : ℕ) → Kept catalog base before a → map.contains_key space (page_in base (moved_by moves a)) ≡ true
  pub written_pages : (p : ℕ) → (map.contains_key written p ≡ true)
      ↔ ((map.contains_key before.written p ≡ true) ⊎ (Turns catalog base before p ⊎ Contains (take (wanted_by catalog base before.space are.promoted) fresh) p))
  pub space_pages : (p : ℕ) → (map.contains_key space p ≡ true)
      ↔ (((set.contains before.pinned p ≡ true) × (Turns catalog base before p → ⊥)) ⊎ Contains (drop (wanted_by catalog base before.space are.promoted) fresh) p)
