-- What images show once objects have new addresses.
use Rattle.std.specs.Prelude.{ℕ, ◌≡◌, ◌≢◌, ◌⊎◌, ◌+◌, ◌<◌, true, List, Some, None, slice_index}
use Rattle.std.specs.Option.{option_or}
use Rattle.std.specs.FinMap.{get}
use Rattle.pm3_types.specs.Fields.{Fields}
use Rattle.pm3_types.specs.Layout.{Sheet, page_in, word_in, is_address, is_unmoved, size_at}
use Rattle.pm3_types.specs.Objects.{is_object_at, RefersTo, RootIs}
use Rattle.pm3_types.specs.PageForm.{IsReferenceIn, map_at, tail_at}
use Rattle.pm3_types.specs.Shown.{Book, Images}

-- the new book has the new addresses of what is not lost, under the same names, and nothing else
pub record IsBookAfter (to : ℕ → ℕ) (IsLost : ℕ → Type 0) (old new : Book) : Type 0 where
  pub has : (a n : ℕ) → get old a ≡ Some n → (IsLost a → ⊥) → get new (to a) ≡ Some n
  pub only : (b n : ℕ) → get new b ≡ Some n → (a : ℕ) × (to a ≡ b) × (get old a ≡ Some n) × (IsLost a → ⊥)

-- at word t of a sheet is the object that was at word s of another, with new addresses in its reference places
pub record IsCopy (catalog : List Fields) (to : ℕ → ℕ) (sheet : Sheet) (s : ℕ) (now : Sheet) (t : ℕ) : Type 0 where
  pub object : is_unmoved now t ≡ true
  pub head : slice_index now.words t ≡ slice_index sheet.words s
  pub name : slice_index now.words (t + 1) ≡ slice_index sheet.words (s + 1)
  pub references : (k : ℕ) → IsReferenceIn (map_at catalog sheet s) (tail_at sheet s) k
      → slice_index now.words (t + 2 + k) ≡ to (slice_index sheet.words (s + 2 + k))
  pub others : (k : ℕ) → 2 + k < size_at catalog sheet s → (IsReferenceIn (map_at catalog sheet s) (tail_at sheet s) k → ⊥)
      → slice_index now.words (t + 2 + k) ≡ slice_index sheet.words (s + 2 + k)

-- each object that is not lost stands at its new address, and the root slots have new addresses too
pub record AreCarried (catalog : List Fields) (base : ℕ) (to : ℕ → ℕ) (IsLost : ℕ → Type 0) (old now : Images) : Type 0 where
  pub objects : (a : ℕ) (sheet : Sheet) → is_object_at base old a ≡ true → (IsLost a → ⊥) → get old (page_in base a) ≡ Some sheet
      → (is_address base (to a) ≡ true)
      × ((copy : Sheet) × (get now (page_in base (to a)) ≡ Some copy) × IsCopy catalog to sheet (word_in base a) copy (word_in base (to a)))
  pub roots : (sheet : Sheet) → get old 2 ≡ Some sheet
      → (copy : Sheet) × (get now 2 ≡ Some copy)
      × ((slot : ℕ) → slot < 16 → slice_index copy.words (2 + slot) ≡ to (slice_index sheet.words (2 + slot)))
  pub no_roots : get old 2 ≡ None → get now 2 ≡ None

-- only an object has another new address, and none is 0
pub record AreAddresses (base : ℕ) (to : ℕ → ℕ) (old : Images) : Type 0 where
  pub others : (a : ℕ) → is_object_at base old a ≢ true → to a ≡ a
  pub nonzero : (a : ℕ) → a ≢ 0 → to a ≢ 0
  pub zero : to 0 ≡ 0

-- nothing that is not lost refers to what is
pub record IsClosed (catalog : List Fields) (base : ℕ) (IsLost : ℕ → Type 0) (old : Images) : Type 0 where
  pub roots : (b : ℕ) → RootIs old b → IsLost b → ⊥
  pub objects : (a b : ℕ) → is_object_at base old a ≡ true → (IsLost a → ⊥) → RefersTo catalog base old a b → IsLost b → ⊥

-- two collections of images that share no page, put together
pub record AreJoined (xs ys both : Images) : Type 0 where
  pub has : (p : ℕ) → get both p ≡ option_or (get xs p) (get ys p)
  pub apart : (p : ℕ) → (get xs p ≡ None) ⊎ (get ys p ≡ None)
