-- The lists of a plan.
use Rattle.std.proofs.Common.{◌≡◌, ◌<◌, ◌≤◌, ◌+◌, ◌↔◌, inl, inr, ◌∙◌, ℕ, true, false, List, [], length, get_or, Option, None, Some, is_some, refl, ap, arith}
use Rattle.std.specs.Ordering.{nat_cmp}
use Rattle.std.specs.FinSet as set
use Rattle.std.specs.List.{All, Contains}
use Rattle.std.proofs.lemmas.List.Elements.{Contains-get_or, All-map}
use Rattle.pm3_types.specs.Fields.{Fields}
use Rattle.pm3_types.specs.Layout.{Sheet, PageImage, is_address, page_in, word_in}
use Rattle.pm3_types.specs.PassMoves.{IsRising, IsListOf, AreMovers, size_on, size_from, sizes}
use Rattle.pm3_types.specs.PassSets.{is_pinned, Promoted, Kept, Live}
use Rattle.pm3_types.proofs.PassLater.{promoted_there, kept_there}
use Rattle.pm3_page.specs.PageMap.{Images}
use Rattle.pm3_page.specs.PageSheets.{AreSoundPages, sheet_in, sheets_of}
use Rattle.pm3_page.proofs.SheetsOf.{get-sheets_of}
use Rattle.std.specs.FinMap as map
use Rattle.pm3_copy.specs.Blocks.{AreOnSome}
use Rattle.pm3_copy.specs.Finds.{Finds, AreFound}
use Rattle.pm3_copy.specs.Spreading.{AreOnPages, Picks, before_of}
use Rattle.pm3_copy.specs.Whole.{IsObjectOf}
use Rattle.pm3_copy.proofs.Listing.{list_as, rising_room}
use Rattle.pm3_copy.proofs.Stayers.{kept_apart}
use Rattle.pm3_types.proofs.FormedObjects.{address_of}
use Rattle.pm3_copy.proofs.Wholes.{above_page, below_page, object_there, sheet_on, whole_at}

nothing_in : (a : ℕ) → Contains [] a → ⊥
nothing_in a (k, low, is) = absurd (omega arith)

module _ (catalog : List Fields) (base : ℕ) (images : Images) (sound : AreSoundPages catalog base 16384 images) where
  -- where the objects of the images lie
  pub on_page : (a : ℕ) → IsObjectOf base images a → (is_address base a ≡ true) × (page_in base a < 16384)
  on_page a object = (address_of base object.image a object.begins, sound.low (page_in base a) (ap is_some object.on))

  pub on_pages : (list : List ℕ) → ((a : ℕ) → Contains list a → IsObjectOf base images a) → AreOnPages base list
  on_pages list are i low = on_page (get_or list i 0) (are (get_or list i 0) (Contains-get_or list i 0 low))

  -- there are no more objects than words
  pub few : (list : List ℕ) → IsRising list → ((a : ℕ) → Contains list a → IsObjectOf base images a) → length list ≤ 67108864
  few list rising are = rising_room list base 67108864 rising within
    where
      within : (i : ℕ) → i < length list → (base ≤ get_or list i 0) × (get_or list i 0 < base + 67108864)
      within i low =
          let at = on_pages list are i low in
          let above = above_page base (get_or list i 0) at.0 in
          let below = below_page base (get_or list i 0) at.0 in
          (omega arith, omega (arith, at.1))

  -- an object has from 2 to 510 words
  pub size_within : (a : ℕ) → IsObjectOf base images a → (2 ≤ size_from catalog base (sheets_of images) a) × (size_from catalog base (sheets_of images) a ≤ 510)
  size_within a object =
      let whole = whole_at catalog base 16384 object.image a (sound.form (page_in base a) object.image object.on) object.begins in
      let e = ap (λ (o : Option Sheet). size_on catalog o (word_in base a)) (sheet_on images (page_in base a) object.image object.on) in
      (omega (arith, e, whole.size), omega (arith, e, whole.within, whole.low))

  pub sizes_within : (list : List ℕ) → ((a : ℕ) → Contains list a → IsObjectOf base images a) → All (λ s. (2 ≤ s) × (s ≤ 510)) (sizes catalog base (sheets_of images) list)
  sizes_within list are = All-map (λ s. (2 ≤ s) × (s ≤ 510)) (size_from catalog base (sheets_of images)) list (λ k d low. size_within _ (are _ (Contains-get_or list k d low)))

module _ (catalog : List Fields) (base : ℕ) (images written : Images) (pinned : set.FinSet nat_cmp) (sound : AreSoundPages catalog base 16384 images) where
  pub promoted_object : (a : ℕ) → Promoted catalog base (before_of images written pinned) a → IsObjectOf base images a
  promoted_object a is = object_there catalog base 16384 images a sound (promoted_there catalog base (before_of images written pinned) a is)

  pub kept_object : (a : ℕ) → Kept catalog base (before_of images written pinned) a → IsObjectOf base images a
  kept_object a is = object_there catalog base 16384 images a sound (kept_there catalog base (before_of images written pinned) a is)

  -- those that were found first and lie on no pinned page
  pub promoted_movers : (found : Finds) (list : List ℕ) → AreFound (Promoted catalog base (before_of images written pinned)) found → IsListOf (Picks base pinned [] found) list
      → AreMovers base (before_of images written pinned) (Promoted catalog base (before_of images written pinned)) list
  promoted_movers found list are picked =
      list_as (Picks base pinned [] found) (λ a. Promoted catalog base (before_of images written pinned) a × (is_pinned base (before_of images written pinned) a ≡ false)) list picked
      (λ a p. (are.only a p.0, p.1)) (λ a p. (are.all a p.0, p.1, nothing_in a))

  -- those that were found besides
  pub kept_movers : (found : Finds) (first list : List ℕ) → AreFound (Live catalog base (before_of images written pinned)) found
      → AreMovers base (before_of images written pinned) (Promoted catalog base (before_of images written pinned)) first → IsListOf (Picks base pinned first found) list
      → AreMovers base (before_of images written pinned) (Kept catalog base (before_of images written pinned)) list
  kept_movers found first list are movers picked =
      list_as (Picks base pinned first found) (λ a. Kept catalog base (before_of images written pinned) a × (is_pinned base (before_of images written pinned) a ≡ false)) list picked
      to (λ a p. (are.all a (inr p.0), p.1, λ is. kept_apart catalog base (before_of images written pinned) a p.0 (movers.only a is).0))
    where
      to : (a : ℕ) → Picks base pinned first found a → Kept catalog base (before_of images written pinned) a × (is_pinned base (before_of images written pinned) a ≡ false)
      to a (there, free, others) = (by (are.only a there), free)
        where
          by : Live catalog base (before_of images written pinned) a → Kept catalog base (before_of images written pinned) a
          by (inl promoted) = absurd (others (movers.all a (promoted, free)))
          by (inr kept) = kept

  -- the members of a list of movers lie on pages of the space that are not pinned
  pub movers_on : (InSet : ℕ → Type 0) (list : List ℕ) (freed : set.FinSet nat_cmp) → ((a : ℕ) → InSet a → IsObjectOf base images a) → AreMovers base (before_of images written pinned) InSet list
      → ((p : ℕ) → (set.contains freed p ≡ true) ↔ ((map.contains_key images p ≡ true) × (set.contains pinned p ≡ false))) → AreOnSome base freed list
  movers_on InSet list freed object movers are a is =
      let member = movers.only a is in
      let there = object a member.0 in
      (address_of base there.image a there.begins, (are (page_in base a)).1 (ap is_some there.on, member.1))

  pub promoted_objects : (list : List ℕ) → AreMovers base (before_of images written pinned) (Promoted catalog base (before_of images written pinned)) list → (a : ℕ) → Contains list a → IsObjectOf base images a
  promoted_objects list movers a is = promoted_object a (movers.only a is).0

  pub kept_objects : (list : List ℕ) → AreMovers base (before_of images written pinned) (Kept catalog base (before_of images written pinned)) list → (a : ℕ) → Contains list a → IsObjectOf base images a
  kept_objects list movers a is = kept_object a (movers.only a is).0

pub all_of : (P : ℕ → Type 0) (list : List ℕ) → ((a : ℕ) → Contains list a → P a) → All P list
all_of P list are k d low = are (get_or list k d) (Contains-get_or list k d low)

some_sheet : (o : Option PageImage) → is_some (sheet_in o) ≡ is_some o
some_sheet None = refl
some_sheet (Some image) = refl

-- the pages of images are those of their sheets
pub same_pages : (images : Images) (p : ℕ) → map.contains_key (sheets_of images) p ≡ map.contains_key images p
same_pages images p = ap is_some (get-sheets_of images p) ∙ some_sheet (map.get images p)
