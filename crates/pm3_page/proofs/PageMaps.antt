-- The map of images that the tables stand for, as images come and go.
use Rattle.std.proofs.Common.{◌≡◌, ℕ, zero, suc, ◌+◌, ◌-◌, ◌*◌, ◌<◌, ◌≤◌, ◌≢◌, Bool, true, false, eqb, ltb, cond, not, ◌&&◌, List, [], ◌∷◌, ◌++◌, Option, None, Some, is_some, length, get_or, set, refl, sym, ap, ◌∙◌, arith, inl, inr, length-append, length-set}
use Rattle.std.proofs.lemmas.Bool.{cases_eq, cases_lt, eq-eqb, ne_eqb, lt-ltb, le-ltb, ltb-true, ltb-false, cond-true, cond-false, false_from_ne_true}
use Rattle.std.specs.Prelude.{slice_get, IfSome}
use Rattle.std.specs.Option.{IsSome, option_copied, option_copied_mut}
use Rattle.std.specs.Borrow.{Bor, MutBor}
use mathlib.Core.Bool.{true≢false}
use Rattle.std.specs.Ordering.{nat_cmp, eq_by_cmp}
use Rattle.std.specs.Cmp.{nat_cmp_total, unsigned_tied}
use Rattle.std.specs.FinMap as map
use Rattle.std.specs.FinMap.{nat_cmp-IsAntisymmetric, same_map, get-empty, get-insert, get-remove, len-empty}
use Rattle.std.specs.FinSet as set_of
use Rattle.std.specs.FinSet.{contains-empty, contains-remove}
use Rattle.std.proofs.lemmas.List.{get_or_past}
use Rattle.pm3_types.specs.Layout.{PageImage}
use Rattle.pm3_page.specs.Bits.{has_bit, pages_of}
use Rattle.pm3_page.specs.PageMap.{Images, slot_of, image_at, with_some, gather, images_of}
use Rattle.pm3_page.specs.PageIndex.{IsIndex}
use Rattle.pm3_page.proofs.Bitmaps.{contains-pages_of, none_is_empty, below_rest, in_words}
use Rattle.pm3_page.proofs.Indexes.{few_homes}

get-with_some : (images : Images) (page : ℕ) (image : Option PageImage) (q : ℕ) → map.get images page ≡ None → map.get (with_some images page image) q ≡ cond (eqb q page) image (map.get images q)
unfolding with_some
get-with_some images page None q none = elim (cases_eq q page) [
  | inl same ↦ ap (map.get images) same ∙ none ∙ sym (cond-true (eqb q page) None (map.get images q) (eq-eqb q page same))
  | inr apart ↦ sym (cond-false (eqb q page) None (map.get images q) (ne_eqb q page apart))
]
get-with_some images page (Some image) q none = get-insert nat_cmp_total images page image q ∙ ap (λ b. cond b (Some image) (map.get images q)) (unsigned_tied q page)

one_more : (f : ℕ → Option PageImage) (n q : ℕ) → cond (eqb q n) (f n) (cond (ltb q n) (f q) None) ≡ cond (ltb q (suc n)) (f q) None
one_more f n q = elim (cases_eq q n) [
  | inl same ↦ cond-true (eqb q n) _ _ (eq-eqb q n same) ∙ ap f (sym same) ∙ sym (cond-true (ltb q (suc n)) _ _ (lt-ltb q (suc n) (omega arith)))
  | inr apart ↦ cond-false (eqb q n) _ _ (ne_eqb q n apart) ∙ elim (cases_lt q n) [
    | inl lt ↦ cond-true (ltb q n) _ _ (lt-ltb q n lt) ∙ sym (cond-true (ltb q (suc n)) _ _ (lt-ltb q (suc n) (omega arith)))
    | inr ge ↦ cond-false (ltb q n) _ _ (le-ltb q n ge) ∙ sym (cond-false (ltb q (suc n)) _ _ (le-ltb q (suc n) (omega arith)))
  ]
]

-- a gathered map answers as the function, below its end
get-gather : (f : ℕ → Option PageImage) (n q : ℕ) → map.get (gather f n) q ≡ cond (ltb q n) (f q) None
unfolding gather
get-gather f zero q = get-empty nat_cmp q ∙ sym (cond-false (ltb q 0) _ _ (le-ltb q 0 (omega arith)))
get-gather f (suc n) q =
    get-with_some (gather f n) n (f n) q (get-gather f n n ∙ cond-false (ltb n n) _ _ (le-ltb n n (omega arith)))
    ∙ ap (cond (eqb q n) (f n)) (get-gather f n q) ∙ one_more f n q

-- an item of a list, by its index
get_past : (xs : List PageImage) (i : ℕ) → length xs ≤ i → slice_get xs i ≡ None
get_past [] i past = refl
get_past (x ∷ xs) zero past = absurd (omega arith)
get_past (x ∷ xs) (suc i) past = get_past xs i (omega arith)

get_within : (xs : List PageImage) (i : ℕ) (d : PageImage) → i < length xs → slice_get xs i ≡ Some (get_or xs i d)
get_within [] i d lt = absurd (omega arith)
get_within (x ∷ xs) zero d lt = refl
get_within (x ∷ xs) (suc i) d lt = get_within xs i d (omega arith)

is_some-get : (xs : List PageImage) (i : ℕ) → is_some (slice_get xs i) ≡ ltb i (length xs)
is_some-get [] i = sym (le-ltb i 0 (omega arith))
is_some-get (x ∷ xs) zero = sym (lt-ltb 0 (length (x ∷ xs)) (omega arith))
is_some-get (x ∷ xs) (suc i) = is_some-get xs i ∙ same_test i (length xs)
  where
    same_test : (i n : ℕ) → ltb i n ≡ ltb (suc i) (suc n)
    same_test i n = elim (cases_lt i n) [
      | inl lt ↦ lt-ltb i n lt ∙ sym (lt-ltb (suc i) (suc n) (omega arith))
      | inr ge ↦ le-ltb i n ge ∙ sym (le-ltb (suc i) (suc n) (omega arith))
    ]

get_pushed : (xs : List PageImage) (x : PageImage) → slice_get (xs ++ x ∷ []) (length xs) ≡ Some x
get_pushed [] x = refl
get_pushed (y ∷ xs) x = get_pushed xs x

get_before : (xs : List PageImage) (x : PageImage) (i : ℕ) → i < length xs → slice_get (xs ++ x ∷ []) i ≡ slice_get xs i
get_before [] x i lt = absurd (omega arith)
get_before (y ∷ xs) x zero lt = refl
get_before (y ∷ xs) x (suc i) lt = get_before xs x i (omega arith)

get-set_here : (xs : List PageImage) (i : ℕ) (x : PageImage) → i < length xs → slice_get (set xs i x) i ≡ Some x
get-set_here [] i x lt = absurd (omega arith)
get-set_here (y ∷ xs) zero x lt = refl
get-set_here (y ∷ xs) (suc i) x lt = get-set_here xs i x (omega arith)

get-set_apart : (xs : List PageImage) (i j : ℕ) (x : PageImage) → j ≢ i → slice_get (set xs i x) j ≡ slice_get xs j
get-set_apart [] i j x ne = refl
get-set_apart (y ∷ xs) zero zero x ne = absurd (ne refl)
get-set_apart (y ∷ xs) zero (suc j) x ne = refl
get-set_apart (y ∷ xs) (suc i) zero x ne = refl
get-set_apart (y ∷ xs) (suc i) (suc j) x ne = get-set_apart xs i j x (λ e. ne (ap suc e))

-- the map has at each page the image that its slot leads to
pub get-images_of : (slots : List ℕ) (images : List PageImage) (q : ℕ) → length images ≤ 65535 → map.get (images_of slots images) q ≡ image_at slots images q
get-images_of slots images q few = get-gather (image_at slots images) (length slots) q ∙ elim (cases_lt q (length slots)) [
  | inl lt ↦ cond-true (ltb q (length slots)) _ _ (lt-ltb q (length slots) lt)
  | inr past ↦ cond-false (ltb q (length slots)) _ _ (le-ltb q (length slots) past) ∙ sym (get_past images (slot_of slots q) (let none = get_or_past slots q 65535 past in omega arith))
]

-- tables that lead alike stand for one map
pub same_images : (slots slots' : List ℕ) (images : List PageImage) → length images ≤ 65535 → ((q : ℕ) → slot_of slots' q ≡ slot_of slots q) → images_of slots' images ≡ images_of slots images
same_images slots slots' images few same = same_map nat_cmp_total nat_cmp-IsAntisymmetric _ _ (λ q.
    get-images_of slots' images q few ∙ ap (slice_get images) (same q) ∙ sym (get-images_of slots images q few))

pub no_images : images_of [] [] ≡ map.empty
no_images = same_map nat_cmp_total nat_cmp-IsAntisymmetric _ _ (λ q. get-images_of [] [] q (omega arith) ∙ sym (get-empty nat_cmp q))

module _ (slots homes words : List ℕ) (images : List PageImage) (index : IsIndex slots homes words) (as_many : length homes ≡ length images) where
  pub few_images : length images ≤ 16384
  few_images = omega (arith, as_many, few_homes slots homes words index)

  -- a page has an image exactly where its bit is set
  pub contains-images_of : (q : ℕ) → map.contains_key (images_of slots images) q ≡ has_bit words q
  contains-images_of q =
      ap is_some (get-images_of slots images q (omega (arith, few_images))) ∙ is_some-get images (slot_of slots q)
      ∙ ap (ltb (slot_of slots q)) (sym as_many) ∙ sym (index.marked q)

  -- a page without an image has no slot
  pub absent_slot : (page : ℕ) → map.get (images_of slots images) page ≡ None → length homes ≤ slot_of slots page
  absent_slot page none = elim (cases_lt (slot_of slots page) (length homes)) [
    | inr ge ↦ ge
    | inl lt ↦ absurd (true≢false (sym (index.marked page ∙ lt-ltb _ _ lt) ∙ sym (contains-images_of page) ∙ ap is_some none))
  ]

  -- two pages have two slots
  one_page : (q page : ℕ) → slot_of slots page < length homes → slot_of slots q ≡ slot_of slots page → q ≡ page
  one_page q page lt same = sym (index.own q (omega arith)) ∙ ap (λ (i : ℕ). get_or homes i 0) same ∙ index.own page lt

  get-inserted : (page : ℕ) (image : PageImage) (q : ℕ) → map.get (map.insert (images_of slots images) page image) q ≡ cond (eqb q page) (Some image) (image_at slots images q)
  get-inserted page image q =
      get-insert nat_cmp_total (images_of slots images) page image q ∙ ap (λ b. cond b (Some image) (map.get (images_of slots images) q)) (unsigned_tied q page)
      ∙ ap (cond (eqb q page) (Some image)) (get-images_of slots images q (omega (arith, few_images)))

  -- an image that is pushed is inserted
  pub images_put : (slots' : List ℕ) (page : ℕ) (image : PageImage) → ((q : ℕ) → slot_of slots' q ≡ cond (eqb q page) (length homes) (slot_of slots q))
      → images_of slots' (images ++ image ∷ []) ≡ map.insert (images_of slots images) page image
  images_put slots' page image is = same_map nat_cmp_total nat_cmp-IsAntisymmetric _ _ (λ q.
      get-images_of slots' (images ++ image ∷ []) q (omega (arith, few_images, length-append images (image ∷ []))) ∙ there q ∙ sym (get-inserted page image q))
    where
      there : (q : ℕ) → image_at slots' (images ++ image ∷ []) q ≡ cond (eqb q page) (Some image) (image_at slots images q)
      there q = elim (cases_eq q page) [
        | inl same ↦
            let at : slot_of slots' q ≡ length images = is q ∙ cond-true (eqb q page) _ _ (eq-eqb q page same) ∙ as_many in
            ap (slice_get (images ++ image ∷ [])) at ∙ get_pushed images image ∙ sym (cond-true (eqb q page) _ _ (eq-eqb q page same))
        | inr apart ↦
            let at : slot_of slots' q ≡ slot_of slots q = is q ∙ cond-false (eqb q page) _ _ (ne_eqb q page apart) in
            ap (slice_get (images ++ image ∷ [])) at ∙ elim (index.within q) [
              | inl lt ↦ get_before images image (slot_of slots q) (omega arith)
              | inr none ↦ get_past (images ++ image ∷ []) (slot_of slots q) (omega (arith, few_images, length-append images (image ∷ []))) ∙ sym (get_past images (slot_of slots q) (omega (arith, few_images)))
            ] ∙ sym (cond-false (eqb q page) _ _ (ne_eqb q page apart))
      ]

  -- an image that is written over is inserted
  pub images_set : (page : ℕ) (image : PageImage) → slot_of slots page < length images → images_of slots (set images (slot_of slots page) image) ≡ map.insert (images_of slots images) page image
  images_set page image lt = same_map nat_cmp_total nat_cmp-IsAntisymmetric _ _ (λ q.
      get-images_of slots (set images (slot_of slots page) image) q (omega (arith, few_images, length-set images (slot_of slots page) image)) ∙ there q ∙ sym (get-inserted page image q))
    where
      there : (q : ℕ) → image_at slots (set images (slot_of slots page) image) q ≡ cond (eqb q page) (Some image) (image_at slots images q)
      there q = elim (cases_eq q page) [
        | inl same ↦ ap (image_at slots (set images (slot_of slots page) image)) same ∙ get-set_here images (slot_of slots page) image lt ∙ sym (cond-true (eqb q page) _ _ (eq-eqb q page same))
        | inr apart ↦ get-set_apart images (slot_of slots page) (slot_of slots q) image (λ e. apart (one_page q page (omega arith) e)) ∙ sym (cond-false (eqb q page) _ _ (ne_eqb q page apart))
      ]

  -- an image whose place the last takes is removed
  pub images_take : (slots' : List ℕ) (images' : List PageImage) (page slot : ℕ) (d : PageImage) → slot ≡ slot_of slots page → slot < length images → length images' + 1 ≡ length images
      → (slot + 1 < length images → get_or images' slot d ≡ get_or images (length images - 1) d)
      → ((k : ℕ) → k ≢ slot → k + 1 < length images → get_or images' k d ≡ get_or images k d)
      → ((q : ℕ) → slot_of slots' q ≡ cond (eqb q page) 65535 (cond (eqb (slot_of slots q) (length homes - 1)) slot (slot_of slots q)))
      → images_of slots' images' ≡ map.remove (images_of slots images) page
  images_take slots' images' page slot d at lt one_less last_moved others is = same_map nat_cmp_total nat_cmp-IsAntisymmetric _ _ (λ q.
      get-images_of slots' images' q (omega (arith, few_images)) ∙ there q ∙ sym (
      get-remove nat_cmp_total (images_of slots images) page q ∙ ap (λ b. cond b None (map.get (images_of slots images) q)) (unsigned_tied q page)
      ∙ ap (cond (eqb q page) None) (get-images_of slots images q (omega (arith, few_images)))))
    where
      there : (q : ℕ) → image_at slots' images' q ≡ cond (eqb q page) None (image_at slots images q)
      there q = elim (cases_eq q page) [
        | inl same ↦
            let none : slot_of slots' q ≡ 65535 = is q ∙ cond-true (eqb q page) _ _ (eq-eqb q page same) in
            get_past images' (slot_of slots' q) (omega (arith, few_images)) ∙ sym (cond-true (eqb q page) _ _ (eq-eqb q page same))
        | inr apart ↦ let inner = is q ∙ cond-false (eqb q page) _ _ (ne_eqb q page apart) in
            let other : slot_of slots q ≢ slot = λ e. apart (one_page q page (omega arith) (e ∙ at)) in
            elim (cases_eq (slot_of slots q) (length homes - 1)) [
              | inl at_last ↦
                  let now : slot_of slots' q ≡ slot = inner ∙ cond-true (eqb (slot_of slots q) (length homes - 1)) _ _ (eq-eqb _ _ at_last) in
                  let more : slot + 1 < length images = omega arith in
                  ap (slice_get images') now ∙ get_within images' slot d (omega arith) ∙ ap Some (last_moved more)
                  ∙ sym (get_within images (length images - 1) d (omega arith)) ∙ ap (slice_get images) (let same : length images - 1 ≡ slot_of slots q = omega arith in same)
              | inr before ↦
                  let now : slot_of slots' q ≡ slot_of slots q = inner ∙ cond-false (eqb (slot_of slots q) (length homes - 1)) _ _ (ne_eqb _ _ before) in
                  ap (slice_get images') now ∙ elim (index.within q) [
                    | inl within ↦ get_within images' (slot_of slots q) d (omega arith) ∙ ap Some (others (slot_of slots q) other (omega arith)) ∙ sym (get_within images (slot_of slots q) d (omega arith))
                    | inr none ↦ get_past images' (slot_of slots q) (omega (arith, few_images)) ∙ sym (get_past images (slot_of slots q) (omega (arith, few_images)))
                  ]
            ] ∙ sym (cond-false (eqb q page) _ _ (ne_eqb q page apart))
      ]

-- a map and a set of the same pages have the same number
none_from_false : (x : Option PageImage) → is_some x ≡ false → x ≡ None
none_from_false None is = refl
none_from_false (Some image) is = absurd (true≢false is)

some_key : (m : Images) (q : ℕ) → map.contains_key m q ≡ true → 0 < map.len m
some_key m q there = elim (cases_eq (map.len m) 0) [
  | inl none ↦ absurd (true≢false (sym there ∙ ap is_some (ap (λ n. map.get n q) (map.empty_of_len m none) ∙ get-empty nat_cmp q)))
  | inr some ↦ omega arith
]

some_item : (s : set_of.FinSet nat_cmp) (q : ℕ) → set_of.contains s q ≡ true → 0 < set_of.len s
some_item s q there = elim (cases_eq (set_of.len s) 0) [
  | inl none ↦ absurd (true≢false (sym there ∙ ap (λ n. set_of.contains n q) (set_of.empty_of_len s none) ∙ contains-empty nat_cmp q))
  | inr some ↦ omega arith
]

is_some-cond : (b : Bool) (x : Option PageImage) → is_some (cond b None x) ≡ (not b && is_some x)
is_some-cond true x = refl
is_some-cond false x = refl

one_less_each : (a b : ℕ) (t : Bool) → (t ≡ true → 0 < a) → (t ≡ true → 0 < b) → cond t (a - 1) a ≡ cond t (b - 1) b → a ≡ b
one_less_each a b true p q e = let x = p refl in let y = q refl in omega arith
one_less_each a b false p q e = e

pub same_number : (n : ℕ) (m : Images) (s : set_of.FinSet nat_cmp) → ((q : ℕ) → map.contains_key m q ≡ set_of.contains s q) → ((q : ℕ) → set_of.contains s q ≡ true → q < n) → map.len m ≡ set_of.len s
same_number zero m s same below_n =
    let none : (q : ℕ) → set_of.contains s q ≡ false = λ q. false_from_ne_true _ (λ there. let lt = below_n q there in omega arith) in
    ap map.len (same_map nat_cmp_total nat_cmp-IsAntisymmetric m map.empty (λ q. none_from_false _ (same q ∙ none q) ∙ sym (get-empty nat_cmp q)))
    ∙ len-empty nat_cmp PageImage ∙ sym (none_is_empty s none)
same_number (suc n) m s same below_n =
    let rest = same_number n (map.remove m n) (set_of.remove s n)
    (λ q. ap is_some (get-remove nat_cmp_total m n q) ∙ is_some-cond _ (map.get m q) ∙ ap (λ b. not (eq_by_cmp nat_cmp q n) && b) (same q) ∙ sym (contains-remove nat_cmp_total s n q))
    (below_rest n s below_n) in
    one_less_each (map.len m) (set_of.len s) (set_of.contains s n) (λ t. some_key m n (same n ∙ t)) (some_item s n)
    (ap (λ b. cond b (map.len m - 1) (map.len m)) (sym (same n)) ∙ sym (map.len-remove nat_cmp_total m n) ∙ rest ∙ set_of.len-remove nat_cmp_total s n)

-- the map has as many images as the list
pub len-images_of : (slots homes words : List ℕ) (images : List PageImage) → IsIndex slots homes words → length homes ≡ length images → map.len (images_of slots images) ≡ length images
len-images_of slots homes words images index as_many =
    same_number (64 * length words) (images_of slots images) (pages_of words)
    (λ q. contains-images_of slots homes words images index as_many q ∙ sym (contains-pages_of words q)) (in_words words)
    ∙ sym index.count ∙ as_many

-- a page without an image is removed already
pub remove_absent : (images : Images) (page : ℕ) → map.get images page ≡ None → images ≡ map.remove images page
remove_absent images page none = same_map nat_cmp_total nat_cmp-IsAntisymmetric _ _ (λ q.
    kept q ∙ sym (get-remove nat_cmp_total images page q ∙ ap (λ b. cond b None (map.get images q)) (unsigned_tied q page)))
  where
    kept : (q : ℕ) → map.get images q ≡ cond (eqb q page) None (map.get images q)
    kept q = elim (cases_eq q page) [
      | inl same ↦ ap (map.get images) same ∙ none ∙ sym (cond-true (eqb q page) None (map.get images q) (eq-eqb q page same))
      | inr apart ↦ sym (cond-false (eqb q page) None (map.get images q) (ne_eqb q page apart))
    ]

-- where the slot is past the images there is none, and else the image that stands there
pub get_none : (slots : List ℕ) (images : List PageImage) (page : ℕ) → length images ≤ 65535 → length images ≤ slot_of slots page → map.get (images_of slots images) page ≡ None
get_none slots images page few past = get-images_of slots images page few ∙ get_past images (slot_of slots page) past

pub get_some : (slots : List ℕ) (images : List PageImage) (page : ℕ) (image : PageImage) → length images ≤ 65535 → slot_of slots page < length images → image ≡ get_or images (slot_of slots page) image
    → map.get (images_of slots images) page ≡ Some image
get_some slots images page image few lt read = get-images_of slots images page few ∙ get_within images (slot_of slots page) image lt ∙ ap Some (sym read)

-- what a list's `get` answers
pub copied_get : (r : Option (Bor PageImage)) (xs : List PageImage) (i : ℕ) → is_some r ≡ ltb i (length xs) → IfSome r (λ x. x.now ≡ get_or xs i x.now) → option_copied r ≡ slice_get xs i
copied_get None xs i is at = sym (get_past xs i (ltb-false i (length xs) (sym is)))
copied_get (Some x) xs i is at = ap Some at ∙ sym (get_within xs i x.now (ltb-true i (length xs) (sym is)))

-- what a list's `get_mut` answers
pub copied_get_mut : (r : Option (MutBor PageImage)) (xs : List PageImage) (i : ℕ) → (IsSome r → i < length xs) → (i < length xs → IsSome r) → IfSome r (λ x. x.now ≡ get_or xs i x.now) → option_copied_mut r ≡ slice_get xs i
copied_get_mut None xs i there back at = elim (cases_lt i (length xs)) [ inl lt ↦ absurd (true≢false (sym (back lt))) | inr past ↦ sym (get_past xs i past) ]
copied_get_mut (Some x) xs i there back at = ap Some at ∙ sym (get_within xs i x.now (there refl))
