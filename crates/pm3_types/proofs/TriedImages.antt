-- The records of small images, computed from the definition.
use Rattle.std.proofs.Common.{◌≡◌, ℕ, ◌+◌, ◌*◌, ◌^◌, List, [], ◌∷◌, Some, None, refl, true, false}
use Rattle.std.specs.Prelude.{unwrap_or}
use Rattle.std.specs.FinMap.{get}
use Rattle.pm3_types.specs.Fields.{Fields, is_reference}
use Rattle.pm3_types.specs.declared.type_map.Tail.TheVariants.{Refs, Bytes}
use Rattle.pm3_types.specs.Layout.{Sheet, type_in, tail_in, is_forwarded}
use Rattle.pm3_types.specs.Shown.{Book, record_at, object_in, byte_in}

-- a type with one reference and a tail of bytes, and one with a number, a reference and a tail of references
abbrev maps : List Fields
maps = record { count = 1; refs = 1; tail = Bytes } ∷ record { count = 2; refs = 2; tail = Refs } ∷ []

-- a page with an object of five bytes at word 2, named 7, and one behind it at word 6, named 9, that refers to address a
abbrev page : ℕ → List ℕ
page a = (4 + 2 ^ 32 * 11) ∷ 0 ∷ (0 + 65536 * 5) ∷ 7 ∷ 0 ∷ (97 + 256 * 98 + 65536 * 99 + 2 ^ 24 * 100 + 2 ^ 32 * 101) ∷ (1 + 65536 * 1) ∷ 9 ∷ 55 ∷ 0 ∷ a ∷ []

first : (book : Book) → record_at book maps (page 0) 2 ≡ record { ty = 0; fields = 0 ∷ []; tail = 97 ∷ 98 ∷ 99 ∷ 100 ∷ 101 ∷ [] }
unfolding type_in tail_in byte_in is_reference
first book = refl

-- the reference in the tail is read as the book's name for the address
second : (book : Book) → record_at book maps (page 17592186060816) 6 ≡ record { ty = 1; fields = 55 ∷ 0 ∷ []; tail = unwrap_or (get book 17592186060816) 0 ∷ [] }
unfolding type_in tail_in byte_in is_reference
second book = refl

-- where no object begins, or one that was forwarded, nothing is shown
abbrev sheet : ℕ → Sheet
sheet head = record { words = 0 ∷ 0 ∷ head ∷ 7 ∷ 0 ∷ []; starts = false ∷ false ∷ true ∷ false ∷ false ∷ [] }

nothing_between : (book : Book) → object_in book maps (Some (sheet 0)) 3 ≡ None
nothing_between book = refl

forwarded_away : (book : Book) → object_in book maps (Some (sheet (2 ^ 63 + 17592186060816))) 2 ≡ None
unfolding is_forwarded
forwarded_away book = refl

there : (book : Book) → object_in book maps (Some (sheet 0)) 2 ≡ Some (record { ty = 0; fields = 0 ∷ []; tail = [] })
unfolding is_forwarded type_in tail_in byte_in is_reference
there book = refl
