-- Images that stand under their own pages, as images are added.
use Rattle.std.proofs.Common.{◌≡◌, ◌≢◌, ℕ, ◌+◌, ◌<◌, ◌≤◌, false, cond, Option, None, Some, is_some, refl, sym, ap, ◌∙◌, arith, inl, inr}
use Rattle.std.proofs.lemmas.Bool.{cases_eq, cases_lt, eq-eqb, ne_eqb}
use Rattle.std.specs.Ordering.{nat_cmp}
use Rattle.std.specs.Cmp.{nat_cmp_total, unsigned_tied}
use Rattle.std.specs.Option.{option_or}
use Rattle.std.specs.FinMap as map
use Rattle.std.specs.FinMap.{nat_cmp-IsAntisymmetric, same_map, get-empty, get-insert}
use Rattle.pm3_types.specs.Layout.{PageImage}
use Rattle.pm3_page.specs.PageMap.{Images, IsAtHome}
use Rattle.pm3_access.specs.Holding.{AreHeld, nothing_held, image_in}
use mathlib.Core.Bool.{true≢false}

pub some_of : {T : Type 0} (x y : T) → Some x ≡ Some y → x ≡ y
some_of x y e = ap (λ o. value_or o x) e
  where
    value_or : {T : Type 0} → Option T → T → T
    value_or None d = d
    value_or (Some z) d = z

pub is_some_none : {T : Type 0} (x : T) → None ≡ Some x → ⊥
is_some_none x e = true≢false (sym (ap is_some e))

pub get_same : (m : Images) (k q : ℕ) (v : PageImage) → q ≡ k → map.get (map.insert m k v) q ≡ Some v
get_same m k q v is = get-insert nat_cmp_total m k v q ∙ ap (λ b. cond b (Some v) (map.get m q)) (unsigned_tied q k ∙ eq-eqb q k is)

pub get_other : (m : Images) (k q : ℕ) (v : PageImage) → q ≢ k → map.get (map.insert m k v) q ≡ map.get m q
get_other m k q v ne = get-insert nat_cmp_total m k v q ∙ ap (λ b. cond b (Some v) (map.get m q)) (unsigned_tied q k ∙ ne_eqb q k ne)

pub home_none : (images : Images) → images ≡ map.empty → IsAtHome images
home_none images none page image is = absurd (is_some_none image (sym (ap (λ m. map.get m page) none ∙ get-empty nat_cmp page) ∙ is))

pub home_insert : (images : Images) (page : ℕ) (image : PageImage) → image.page ≡ page → IsAtHome images → IsAtHome (map.insert images page image)
home_insert images page image own home q other is = elim (cases_eq q page) [
  | inl same ↦ sym (ap (λ (i : PageImage). i.page) (some_of image other (sym (get_same images page q image same) ∙ is))) ∙ own ∙ sym same
  | inr ne ↦ home q other (sym (get_other images page q image ne) ∙ is)
]

pub held_none : (left found : Images) → left ≡ map.empty → found ≡ map.empty → AreHeld left found
held_none left found no_left no_found = record {
  kept = λ page is. ap (λ m. map.get m page) no_found ∙ get-empty nat_cmp page;
  left_home = home_none left no_left;
  found_home = home_none found no_found;
}

pub held_same : (images left : Images) → left ≡ images → IsAtHome images → AreHeld left images
held_same images left same home = record {
  kept = λ page is. ap (λ m. map.get m page) (sym same) ∙ is;
  left_home = λ page image is. home page image (ap (λ m. map.get m page) (sym same) ∙ is);
  found_home = home;
}

-- another image of a page that is there, or of a new one
pub held_insert : (left found : Images) (page : ℕ) (image : PageImage) → image.page ≡ page → AreHeld left found → AreHeld (map.insert left page image) found
held_insert left found page image own held = record {
  kept = λ q is. elim (cases_eq q page) [
    | inl same ↦ absurd (is_some_none image (sym is ∙ get_same left page q image same))
    | inr ne ↦ held.kept q (sym (get_other left page q image ne) ∙ is)
  ];
  left_home = home_insert left page image own held.left_home;
  found_home = held.found_home;
}

pub held_admit : (left found : Images) (page : ℕ) (image : PageImage) → image.page ≡ page → AreHeld left found → AreHeld (map.insert left page image) (map.insert found page image)
held_admit left found page image own held = record {
  kept = λ q is. elim (cases_eq q page) [
    | inl same ↦ absurd (is_some_none image (sym is ∙ get_same left page q image same))
    | inr ne ↦ get_other found page q image ne ∙ held.kept q (sym (get_other left page q image ne) ∙ is)
  ];
  left_home = home_insert left page image own held.left_home;
  found_home = home_insert found page image own held.found_home;
}

-- the first map has what the second has below n, and nothing else
pub record IsCopiedTo (copies images : Images) (n : ℕ) : Type 0 where
  pub below : (q : ℕ) → q < n → map.get copies q ≡ map.get images q
  pub above : (q : ℕ) → n ≤ q → map.get copies q ≡ None

none_of : {T : Type 0} (o : Option T) → is_some o ≡ false → o ≡ None
none_of None e = refl
none_of (Some x) e = absurd (true≢false e)

pub copied_none : (copies images : Images) → copies ≡ map.empty → IsCopiedTo copies images 0
copied_none copies images none = record {
  below = λ q lt. absurd (omega arith);
  above = λ q le. ap (λ m. map.get m q) none ∙ get-empty nat_cmp q;
}

-- one more, where none is between
pub copied_more : (copies images : Images) (n page : ℕ) (image : PageImage) → map.get images page ≡ Some image → n ≤ page → ((q : ℕ) → n ≤ q → q < page → map.contains_key images q ≡ false)
    → IsCopiedTo copies images n → IsCopiedTo (map.insert copies page image) images (page + 1)
copied_more copies images n page image is le none copied = record {
  below = λ q lt. elim (cases_eq q page) [
    | inl same ↦ get_same copies page q image same ∙ sym (ap (map.get images) same ∙ is)
    | inr ne ↦ get_other copies page q image ne ∙ elim (cases_lt q n) [
      | inl lt' ↦ copied.below q lt'
      | inr ge ↦ copied.above q ge ∙ sym (none_of (map.get images q) (none q ge (omega arith)))
    ]
  ];
  above = λ q ge. let ne : q ≢ page = λ e. omega arith in get_other copies page q image ne ∙ copied.above q (omega arith);
}

pub copied_all : (copies images : Images) (n : ℕ) → ((q : ℕ) → n ≤ q → map.contains_key images q ≡ false) → IsCopiedTo copies images n → copies ≡ images
copied_all copies images n none copied = same_map nat_cmp_total nat_cmp-IsAntisymmetric copies images (λ q. elim (cases_lt q n) [
  | inl lt ↦ copied.below q lt
  | inr ge ↦ copied.above q ge ∙ sym (none_of (map.get images q) (none q ge))
])

-- nothing is held
pub nothing_there : (page : ℕ) → image_in nothing_held page ≡ None
nothing_there page = ap (λ o. option_or o None) (get-empty nat_cmp page)
