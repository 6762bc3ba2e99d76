-- Images that go from one collection to another.
use Rattle.std.specs.Prelude.{ℕ, ◌≡◌, ◌⊎◌, true, false, List, None}
use Rattle.std.specs.List.{Contains}
use Rattle.std.specs.FinMap as map
use Rattle.std.specs.FinSet as set
use Rattle.std.specs.Ordering.{nat_cmp}
use Rattle.pm3_page.specs.PageMap.{Images}

-- the images of these pages have gone from one collection to another, and all others are where they were
pub record AreSent (Goes : ℕ → Type 0) (from to left now : Images) : Type 0 where
  pub there : (p : ℕ) → Goes p → map.get now p ≡ map.get from p
  pub gone : (p : ℕ) → Goes p → map.get left p ≡ None
  pub others : (p : ℕ) → (Goes p → ⊥) → (map.get now p ≡ map.get to p) × (map.get left p ≡ map.get from p)

-- the images of these pages are gone
pub record AreGone (list : set.FinSet nat_cmp) (old new : Images) : Type 0 where
  pub gone : (p : ℕ) → set.contains list p ≡ true → map.get new p ≡ None
  pub others : (p : ℕ) → set.contains list p ≡ false → map.get new p ≡ map.get old p

-- where the images of a space, of written pages and of filled ones are once some pages of the space are turned and others are
-- given up: the first of the filled pages are written ones, and the second are pages of the space
pub record ArePlaced (first second : List ℕ) (turned freed : set.FinSet nat_cmp) (space written filled now_space now_written : Images) : Type 0 where
  pub turns : (p : ℕ) → set.contains turned p ≡ true → map.get now_written p ≡ map.get space p
  pub persistent : (p : ℕ) → Contains first p → map.get now_written p ≡ map.get filled p
  pub stay_written : (p : ℕ) → set.contains turned p ≡ false → (Contains first p → ⊥) → map.get now_written p ≡ map.get written p
  pub volatile : (p : ℕ) → Contains second p → map.get now_space p ≡ map.get filled p
  pub gone : (p : ℕ) → (set.contains turned p ≡ true) ⊎ (set.contains freed p ≡ true) → (Contains second p → ⊥) → map.get now_space p ≡ None
  pub stays : (p : ℕ) → set.contains turned p ≡ false → set.contains freed p ≡ false → (Contains second p → ⊥) → map.get now_space p ≡ map.get space p
