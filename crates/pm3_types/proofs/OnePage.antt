-- The bytes of a catalog have the form and tell the catalog.
use Rattle.std.proofs.Common.{◌≡◌, ◌≤◌, ◌<◌, ◌+◌, ◌-◌, ◌^◌, ℕ, List, [], ◌∷◌, ◌++◌, length, take, drop, replicate, Bool, true, false, Option, None, Some, refl, sym, arith, ap, ◌∙◌, nat_le, nat_lt}
use Rattle.std.proofs.lemmas.Bool.Decides.{nat_tests}
use Rattle.std.proofs.lemmas.Nat.{from_le_bytes-to_le_bytes_4}
use Rattle.std.specs.Prelude.{slice_index}
use Rattle.std.specs.Int.{w32, to_le_bytes, from_le_bytes}
use Rattle.std.specs.Option.{option_or}
use Rattle.std.proofs.Math.Nat.{pow-le-pow_right}
use Rattle.pm3_types.specs.declared.type_map.Tail.{Tail}
use Rattle.pm3_types.specs.declared.type_map.Tail.TheVariants.{Empty, Refs, Bytes}
use Rattle.pm3_types.specs.Fields.{Fields, IsTypeMap, tail_code}
use Rattle.pm3_types.specs.PageOne.{zeros, padded, catalog_head, catalog_page, map_bytes, maps_bytes}
use Rattle.pm3_types.specs.CatalogForm.{map_departure, maps_departure, departure}
use Rattle.pm3_types.specs.Bytes.{number_at, unless}
use Rattle.pm3_types.specs.PageLaws.{AreTypeMaps, PageHasForm, OneCatalog}
use Rattle.pm3_types.proofs.ZeroBytes.{is_zero-replicate}
use Rattle.pm3_types.proofs.Reading.{padded-behind}

at_most : (m n : ℕ) → m ≤ n → nat_le m n ≡ true
at_most m n is = grind (arith, nat_tests)

below : (m n : ℕ) → m < n → nat_lt m n ≡ true
below m n is = grind (arith, nat_tests)

-- a mask fits four bytes
mask_fits : (count refs : ℕ) → IsTypeMap count refs → refs < 2 ^ 32
mask_fits count refs is =
    let most : 2 ^ count ≤ 2 ^ 32 = pow-le-pow_right (omega arith) is.0 in
    omega (arith, is.1)

tail_known : (tail : Tail) → nat_le (tail_code tail) 2 ≡ true
tail_known Empty = refl
tail_known Refs = refl
tail_known Bytes = refl

unless_true : (b : Bool) (at : ℕ) → b ≡ true → unless b at ≡ None
unless_true true at is = refl
unless_true false at is = cc

neither : (o p : Option ℕ) → o ≡ None → p ≡ None → option_or o p ≡ None
neither None p is also = also
neither (Some x) p is also = cc

mask_of : (map : Fields) → IsTypeMap map.count map.refs → from_le_bytes w32 (to_le_bytes w32 map.refs) ≡ map.refs
mask_of map is = from_le_bytes-to_le_bytes_4 map.refs (mask_fits map.count map.refs is)

map_has_form : (at : ℕ) (map : Fields) → IsTypeMap map.count map.refs → map_departure at (map_bytes map) ≡ None
unfolding number_at
map_has_form at map is =
    neither _ _ (unless_true _ at (at_most map.count 32 is.0))
    (neither _ _ (unless_true _ (at + 1) (tail_known map.tail))
    (unless_true _ (at + 4) (ap (λ (refs : ℕ). nat_lt refs (2 ^ map.count)) (mask_of map is) ∙ below map.refs (2 ^ map.count) is.1)))

maps_have_form : (at k : ℕ) (maps : List Fields) → AreTypeMaps maps → maps_departure (length maps) at (maps_bytes maps ++ replicate k 0) ≡ None
maps_have_form at k [] are = unless_true _ at (is_zero-replicate k)
maps_have_form at k (map ∷ maps) are = neither _ _ (map_has_form at map are.0) (maps_have_form (at + 8) k maps are.1)

-- the page is the head, the maps and zeros
page_parts : (maps : List Fields) → catalog_page maps ≡ catalog_head (length maps) ++ (maps_bytes maps ++ replicate (4088 - length (maps_bytes maps)) 0)
unfolding padded zeros
page_parts maps = sym (padded-behind 8 4088 (catalog_head (length maps)) (maps_bytes maps) refl)

number_of_head : (n : ℕ) → n ≤ 256 → from_le_bytes w32 (to_le_bytes w32 n) ≡ n
number_of_head n few = from_le_bytes-to_le_bytes_4 n (omega arith)

pub page_has_form : PageHasForm
unfolding number_at
page_has_form maps is =
    ap departure (page_parts maps)
    ∙ neither _ _
    (neither _ _ (unless_true _ 0 (ap (λ (n : ℕ). nat_le n 256) (number_of_head (length maps) is.0) ∙ at_most (length maps) 256 is.0)) refl)
    (ap (λ (n : ℕ). maps_departure n 8 (maps_bytes maps ++ replicate (4088 - length (maps_bytes maps)) 0)) (number_of_head (length maps) is.0)
    ∙ maps_have_form 8 _ maps is.1)

same_tail : (s t : Tail) → tail_code s ≡ tail_code t → s ≡ t
same_tail Empty Empty is = refl
same_tail Empty Refs is = absurd (omega arith)
same_tail Empty Bytes is = absurd (omega arith)
same_tail Refs Empty is = absurd (omega arith)
same_tail Refs Refs is = refl
same_tail Refs Bytes is = absurd (omega arith)
same_tail Bytes Empty is = absurd (omega arith)
same_tail Bytes Refs is = absurd (omega arith)
same_tail Bytes Bytes is = refl

-- the first four bytes as a number
abbrev number_in : List ℕ → ℕ
number_in bytes = from_le_bytes w32 (take 4 bytes)

same_map : (x y : Fields) (rest others : List ℕ) → IsTypeMap x.count x.refs → IsTypeMap y.count y.refs → map_bytes x ++ rest ≡ map_bytes y ++ others → x ≡ y
same_map x y rest others is also same =
    let count : x.count ≡ y.count = ap (λ (bytes : List ℕ). slice_index bytes 0) same in
    let tail : x.tail ≡ y.tail = same_tail x.tail y.tail (ap (λ (bytes : List ℕ). slice_index bytes 1) same) in
    let mask : from_le_bytes w32 (to_le_bytes w32 x.refs) ≡ from_le_bytes w32 (to_le_bytes w32 y.refs) =
    ap (λ (bytes : List ℕ). from_le_bytes w32 (take 4 (drop 4 bytes))) same in
    let refs : x.refs ≡ y.refs = sym (mask_of x is) ∙ mask ∙ mask_of y also in
    λ i. record { count = count i; refs = refs i; tail = tail i }

same_maps : (xs ys : List Fields) (rest others : List ℕ) → length xs ≡ length ys → AreTypeMaps xs → AreTypeMaps ys → maps_bytes xs ++ rest ≡ maps_bytes ys ++ others → xs ≡ ys
same_maps [] [] rest others number are also same = refl
same_maps [] (y ∷ ys) rest others number are also same = absurd (omega arith)
same_maps (x ∷ xs) [] rest others number are also same = absurd (omega arith)
same_maps (x ∷ xs) (y ∷ ys) rest others number are also same =
    let first : x ≡ y = same_map x y (maps_bytes xs ++ rest) (maps_bytes ys ++ others) are.0 also.0 same in
    let behind : xs ≡ ys = same_maps xs ys rest others (omega arith) are.1 also.1 (ap (drop 8) same) in
    λ i. first i ∷ behind i

pub one_catalog : OneCatalog
one_catalog maps others is also same =
    same_maps maps others _ _ (sym (number_of_head (length maps) is.0) ∙ ap number_in joined ∙ number_of_head (length others) also.0) is.1 also.1 (ap (drop 8) joined)
  where
    joined : catalog_head (length maps) ++ (maps_bytes maps ++ replicate (4088 - length (maps_bytes maps)) 0)
        ≡ catalog_head (length others) ++ (maps_bytes others ++ replicate (4088 - length (maps_bytes others)) 0)
    joined = sym (page_parts maps) ∙ same ∙ page_parts others
