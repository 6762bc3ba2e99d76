-- What images have and name, as tests and one by one.
use Rattle.std.proofs.Common.{◌≡◌, ◌⊎◌, ℕ, zero, suc, ◌+◌, ◌<◌, ◌≤◌, ◌==◌, ◌&&◌, ◌||◌, Bool, true, false, nat_lt, nat_le, ◌-◌, List, [], ◌∷◌, Option, Some, None, is_some, slice_index, refl, sym, ap, ◌∙◌, subst, inl, inr, ⊎_elim, arith}
use Rattle.std.proofs.lemmas.Bool.{false≢true, and_parts}
use Rattle.std.proofs.lemmas.Bool.Decides.{nat_tests}
use mathlib.Core.Logic.{dite}
use native.Mathlib.Decide.{ℕ_discrete}
use Rattle.std.specs.FinMap.{get, keys, contains_key, contains_key-keys}
use Rattle.std.specs.List.{list_any, range_with_len}
use Rattle.std.specs.Ordering.{nat_cmp, eq_by_cmp}
use Rattle.pm3_core.specs.Naming.{page_in}
use Rattle.pm3_types.specs.Fields.{Fields, is_reference, has_refs}
use Rattle.pm3_types.specs.declared.type_map.Tail.{Tail}
use Rattle.pm3_types.specs.declared.type_map.Tail.TheVariants.{Empty, Refs, Bytes}
use Rattle.pm3_core.specs.declared.naming.TheConstants.{BASE}
use Rattle.pm3_types.specs.Layout as layout
use Rattle.pm3_types.specs.Layout.{Sheet, PageImage, is_start, size_at, is_address, word_in}
use Rattle.pm3_types.specs.PageForm.{HasForm, IsReferenceIn, IsSound, IsTailReference, is_memory_reference, map_at, tail_at}
use Rattle.pm3_types.specs.Whole.{IsWhole}
use Rattle.pm3_types.proofs.Books.{same_key, key_same}
use Rattle.pm3_types.proofs.FormedObjects.{reference_within, whole_start, objects_of}
use Rattle.pm3_page.specs.PageMap.{Images}
use Rattle.pm3_page.specs.PageSheets.{sheet_in, sheets_of}
use Rattle.pm3_page.proofs.SheetsOf.{get-sheets_of}
use Rattle.pm3_table.specs.Entries.{images_refer, is_reference_in, object_refers, sheet_refers}
use Rattle.pm3_txn.specs.Frontiers.{IsTop, Below, IsObjectNamed, IsRootNamed, IsNamedOn, IsNamedUnder}
use Rattle.pm3_txn.proofs.Topping.{top_same}

or_cases : (a b : Bool) → (a || b) ≡ true → (a ≡ true) ⊎ (b ≡ true)
or_cases true b is = inl refl
or_cases false b is = inr is

or_left : (a b : Bool) → a ≡ true → (a || b) ≡ true
or_left a b is = ap (λ x. x || b) is

or_right : (a b : Bool) → b ≡ true → (a || b) ≡ true
or_right true b is = refl
or_right false b is = is

and_both : (a b : Bool) → a ≡ true → b ≡ true → (a && b) ≡ true
and_both a b x y = λ i. x i && y i

-- a number of a range that passes a test
pub in_range : (f : ℕ → Bool) (n a : ℕ) → list_any f (range_with_len a n) ≡ true → (i : ℕ) × (a ≤ i) × (i < a + n) × (f i ≡ true)
in_range f zero a is = absurd (false≢true is)
in_range f (suc n) a is = ⊎_elim
    (λ here. (a, omega arith, omega arith, here))
    (λ there. let o = in_range f n (a + 1) there in (o.0, (let l = o.1 in omega (arith, l)), (let h = o.2 in omega (arith, h)), o.3))
    (or_cases (f a) (list_any f (range_with_len (a + 1) n)) is)

pub range_has : (f : ℕ → Bool) (n a i : ℕ) → a ≤ i → i < a + n → f i ≡ true → list_any f (range_with_len a n) ≡ true
range_has f zero a i low high is = absurd (omega (arith, low, high))
range_has f (suc n) a i low high is =
    dite (ℕ_discrete i a) (λ here. or_left (f a) (list_any f (range_with_len (a + 1) n)) (sym (ap f here) ∙ is))
    (λ other. or_right (f a) (list_any f (range_with_len (a + 1) n)) (range_has f n (a + 1) i (omega (arith, low, other)) (omega (arith, high)) is))

-- a key that passes a test
in_list : (f : ℕ → Bool) (ks : List ℕ) → list_any f ks ≡ true → (k : ℕ) × (list_any (eq_by_cmp nat_cmp k) ks ≡ true) × (f k ≡ true)
in_list f [] is = absurd (false≢true is)
in_list f (x ∷ xs) is = ⊎_elim
    (λ here. (x, or_left (eq_by_cmp nat_cmp x x) (list_any (eq_by_cmp nat_cmp x) xs) (key_same x), here))
    (λ there. let o = in_list f xs there in (o.0, or_right (eq_by_cmp nat_cmp o.0 x) (list_any (eq_by_cmp nat_cmp o.0) xs) o.1, o.2))
    (or_cases (f x) (list_any f xs) is)

list_has : (f : ℕ → Bool) (ks : List ℕ) (k : ℕ) → list_any (eq_by_cmp nat_cmp k) ks ≡ true → f k ≡ true → list_any f ks ≡ true
list_has f [] k there is = there
list_has f (x ∷ xs) k there is = ⊎_elim
    (λ here. or_left (f x) (list_any f xs) (sym (ap f (same_key k x here)) ∙ is))
    (λ other. or_right (f x) (list_any f xs) (list_has f xs k other is))
    (or_cases (eq_by_cmp nat_cmp k x) (list_any (eq_by_cmp nat_cmp k) xs) there)

-- references of a map, as a test
refs_of : (tail : Tail) (len k : ℕ) → IsTailReference tail len k → (has_refs tail ≡ true) × (k < len)
refs_of Empty len k is = absurd is
refs_of Refs len k is = (refl, is)
refs_of Bytes len k is = absurd is

of_refs : (tail : Tail) (len k : ℕ) → has_refs tail ≡ true → k < len → IsTailReference tail len k
of_refs Empty len k has low = absurd (false≢true has)
of_refs Refs len k has low = low
of_refs Bytes len k has low = absurd (false≢true has)

reference_is : (map : Option Fields) (len k : ℕ) → IsReferenceIn map len k → is_reference_in map len k ≡ true
reference_is None len k is = absurd is
reference_is (Some fields) len k (inl field) =
    or_left (nat_lt k fields.count && is_reference fields k) ((nat_le fields.count k && has_refs fields.tail) && nat_lt (k - fields.count) len)
    (and_both (nat_lt k fields.count) (is_reference fields k) (let l = field.0 in grind (arith, nat_tests, l)) field.1)
reference_is (Some fields) len k (inr item) =
    let refs = refs_of fields.tail len (k - fields.count) item.1 in
    or_right (nat_lt k fields.count && is_reference fields k) ((nat_le fields.count k && has_refs fields.tail) && nat_lt (k - fields.count) len)
    (and_both (nat_le fields.count k && has_refs fields.tail) (nat_lt (k - fields.count) len)
    (and_both (nat_le fields.count k) (has_refs fields.tail) (let l = item.0 in grind (arith, nat_tests, l)) refs.0) (let l = refs.1 in grind (arith, nat_tests, l)))

is_reference_of : (map : Option Fields) (len k : ℕ) → is_reference_in map len k ≡ true → IsReferenceIn map len k
is_reference_of None len k is = absurd (false≢true is)
is_reference_of (Some fields) len k is = ⊎_elim
    (λ field. let parts = and_parts (nat_lt k fields.count) (is_reference fields k) field in let l = parts.0 in inl (grind (arith, nat_tests, l), parts.1))
    (λ item.
    let parts = and_parts (nat_le fields.count k && has_refs fields.tail) (nat_lt (k - fields.count) len) item in
    let first = and_parts (nat_le fields.count k) (has_refs fields.tail) parts.0 in
    let l = first.0 in let h = parts.1 in
    inr (grind (arith, nat_tests, l), of_refs fields.tail len (k - fields.count) first.1 (grind (arith, nat_tests, h))))
    (or_cases (nat_lt k fields.count && is_reference fields k) ((nat_le fields.count k && has_refs fields.tail) && nat_lt (k - fields.count) len) is)

equal_is : (a b : ℕ) → a ≡ b → (a == b) ≡ true
equal_is a b same = grind (arith, nat_tests, same)

is_equal : (a b : ℕ) → (a == b) ≡ true → a ≡ b
is_equal a b is = grind (arith, nat_tests, is)

pub word_page : (word : ℕ) → page_in word ≡ layout.page_in BASE word
unfolding layout.page_in
word_page word = refl

reference_low : (pages word : ℕ) → 3 ≤ pages → is_memory_reference BASE pages word ≡ true → page_in word < pages
unfolding is_memory_reference
reference_low pages word some is = ⊎_elim
    (λ nil. let none : page_in word ≡ 0 = ap page_in (is_equal word 0 nil) in omega (arith, none, some))
    (λ form.
    let outer = and_parts (is_address BASE word) ((nat_le 3 (layout.page_in BASE word) && nat_lt (layout.page_in BASE word) pages) && nat_le 2 (word_in BASE word)) form in
    let inner = and_parts (nat_le 3 (layout.page_in BASE word) && nat_lt (layout.page_in BASE word) pages) (nat_le 2 (word_in BASE word)) outer.1 in
    let within = and_parts (nat_le 3 (layout.page_in BASE word)) (nat_lt (layout.page_in BASE word) pages) inner.0 in
    let l = within.1 in let low : layout.page_in BASE word < pages = grind (arith, nat_tests, l) in
    subst (λ (n : ℕ). n < pages) (sym (word_page word)) low)
    (or_cases (word == 0) (is_address BASE word && ((nat_le 3 (layout.page_in BASE word) && nat_lt (layout.page_in BASE word) pages) && nat_le 2 (word_in BASE word))) is)

module _ (catalog : List Fields) where
  object_is : (sheet : Sheet) (s p : ℕ) → (is_start sheet s ≡ true → IsWhole catalog sheet s) → IsObjectNamed catalog sheet s p → object_refers catalog sheet p s ≡ true
  object_is sheet s p whole named =
      let k : ℕ = named.1.0 in
      let within : 2 + k < size_at catalog sheet s = reference_within (map_at catalog sheet s) (tail_at sheet s) k named.1.1.0 in
      let end = (whole named.0).within in
      let test : ℕ → Bool = λ j. is_reference_in (map_at catalog sheet s) (tail_at sheet s) j && (page_in (slice_index sheet.words (s + 2 + j)) == p) in
      and_both (is_start sheet s) (list_any test (range_with_len 0 512)) named.0
      (range_has test 512 0 k (omega arith) (omega (arith, within, end))
      (and_both (is_reference_in (map_at catalog sheet s) (tail_at sheet s) k) (page_in (slice_index sheet.words (s + 2 + k)) == p)
      (reference_is (map_at catalog sheet s) (tail_at sheet s) k named.1.1.0) (equal_is (page_in (slice_index sheet.words (s + 2 + k))) p named.1.1.1)))

  is_object : (sheet : Sheet) (s p : ℕ) → object_refers catalog sheet p s ≡ true → IsObjectNamed catalog sheet s p
  is_object sheet s p is =
      let test : ℕ → Bool = λ j. is_reference_in (map_at catalog sheet s) (tail_at sheet s) j && (page_in (slice_index sheet.words (s + 2 + j)) == p) in
      let parts = and_parts (is_start sheet s) (list_any test (range_with_len 0 512)) is in
      let o = in_range test 512 0 parts.1 in
      let found = and_parts (is_reference_in (map_at catalog sheet s) (tail_at sheet s) o.0) (page_in (slice_index sheet.words (s + 2 + o.0)) == p) o.3 in
      (parts.0, (o.0, (is_reference_of (map_at catalog sheet s) (tail_at sheet s) o.0 found.0, is_equal (page_in (slice_index sheet.words (s + 2 + o.0))) p found.1)))

  -- an image refers to a page where a root or an object of it does
  refers_is : (image : PageImage) (p : ℕ) → ((s : ℕ) → is_start image.sheet s ≡ true → IsWhole catalog image.sheet s) → IsRootNamed image p ⊎ Below (IsObjectNamed catalog image.sheet) 512 p
      → sheet_refers catalog p image.page (Some image.sheet) ≡ true
  refers_is image p whole (inl root) =
      or_right (list_any (object_refers catalog image.sheet p) (range_with_len 0 512)) ((image.page == 2) && list_any (λ slot. page_in (slice_index image.sheet.words (2 + slot)) == p) (range_with_len 0 16))
      (and_both (image.page == 2) (list_any (λ slot. page_in (slice_index image.sheet.words (2 + slot)) == p) (range_with_len 0 16)) (equal_is image.page 2 root.0)
      (range_has (λ slot. page_in (slice_index image.sheet.words (2 + slot)) == p) 16 0 root.1.0 (omega arith) (let l = root.1.1 in omega (arith, l)) (equal_is (page_in (slice_index image.sheet.words (2 + root.1.0))) p root.1.2)))
  refers_is image p whole (inr object) =
      or_left (list_any (object_refers catalog image.sheet p) (range_with_len 0 512)) ((image.page == 2) && list_any (λ slot. page_in (slice_index image.sheet.words (2 + slot)) == p) (range_with_len 0 16))
      (range_has (object_refers catalog image.sheet p) 512 0 object.0 (omega arith) (let l = object.1 in omega (arith, l)) (object_is image.sheet object.0 p (whole object.0) object.2))

  is_referred : (image : PageImage) (p : ℕ) → sheet_refers catalog p image.page (Some image.sheet) ≡ true → IsRootNamed image p ⊎ Below (IsObjectNamed catalog image.sheet) 512 p
  is_referred image p is = ⊎_elim
      (λ objects. let o = in_range (object_refers catalog image.sheet p) 512 0 objects in inr (o.0, (let l = o.2 in omega (arith, l)), is_object image.sheet o.0 p o.3))
      (λ roots.
      let parts = and_parts (image.page == 2) (list_any (λ slot. page_in (slice_index image.sheet.words (2 + slot)) == p) (range_with_len 0 16)) roots in
      let o = in_range (λ slot. page_in (slice_index image.sheet.words (2 + slot)) == p) 16 0 parts.1 in
      inl (is_equal image.page 2 parts.0, (o.0, (let l = o.2 in omega (arith, l)), is_equal (page_in (slice_index image.sheet.words (2 + o.0))) p o.3)))
      (or_cases (list_any (object_refers catalog image.sheet p) (range_with_len 0 512)) ((image.page == 2) && list_any (λ slot. page_in (slice_index image.sheet.words (2 + slot)) == p) (range_with_len 0 16)) is)

  -- what a sound image has or names is one of the store's pages
  named_low : (pages : ℕ) (image : PageImage) (p : ℕ) → 3 ≤ pages → image.page < pages → IsSound catalog BASE pages image → IsNamedOn catalog image p → p < pages
  named_low pages image p some low sound (inl same) = omega (arith, low, same)
  named_low pages image p some low sound (inr (inl root)) =
      let word : ℕ = slice_index image.sheet.words (2 + root.1.0) in
      let reference = (sound.roots root.0).roots root.1.0 root.1.1 in
      subst (λ (n : ℕ). n < pages) root.1.2 (reference_low pages word some reference)
  named_low pages image p some low sound (inr (inr object)) =
      let s : ℕ = object.0 in let k : ℕ = object.2.1.0 in
      let objects = (objects_of catalog (is_memory_reference BASE pages) image.page image.sheet s sound object.2.0).1 in
      subst (λ (n : ℕ). n < pages) object.2.1.1.1 (reference_low pages (slice_index image.sheet.words (s + 2 + k)) some (objects.references s k object.2.0 object.2.1.1.0))

  module _ (images : Images) (home : (page : ℕ) (image : PageImage) → get images page ≡ Some image → (image.page ≡ page) × (page < 16384))
      (whole : (page : ℕ) (image : PageImage) → get images page ≡ Some image → (s : ℕ) → is_start image.sheet s ≡ true → IsWhole catalog image.sheet s) where
    sheet_there : (q : ℕ) (image : PageImage) → get images q ≡ Some image → get (sheets_of images) q ≡ Some image.sheet
    sheet_there q image there = get-sheets_of images q ∙ ap sheet_in there

    image_there : (q : ℕ) → contains_key (sheets_of images) q ≡ true → (image : PageImage) × (get images q ≡ Some image)
    image_there q has = of (get images q) refl
      where
        of : (o : Option PageImage) → get images q ≡ o → (image : PageImage) × (get images q ≡ Some image)
        of None is = absurd (false≢true (sym (ap is_some (get-sheets_of images q ∙ ap sheet_in is)) ∙ has))
        of (Some image) is = (image, is)

    named_is : (p : ℕ) → Below (IsNamedUnder catalog images) 16384 p → images_refer catalog (sheets_of images) p ≡ true
    named_is p named =
        let q : ℕ = named.0 in let image : PageImage = named.2.0 in let there = named.2.1 in
        let refers : ℕ → Bool = λ from. sheet_refers catalog p from (get (sheets_of images) from) in
        let has : contains_key (sheets_of images) q ≡ true = ap is_some (sheet_there q image there) in
        let key : list_any (eq_by_cmp nat_cmp q) (keys (sheets_of images)) ≡ true = sym (contains_key-keys (sheets_of images) q) ∙ has in
        ⊎_elim
        (λ same. or_left (contains_key (sheets_of images) p) (list_any refers (keys (sheets_of images))) (ap (contains_key (sheets_of images)) (sym same ∙ (home q image there).0) ∙ has))
        (λ other. or_right (contains_key (sheets_of images) p) (list_any refers (keys (sheets_of images)))
        (list_has refers (keys (sheets_of images)) q key
        (ap (sheet_refers catalog p q) (sheet_there q image there) ∙ ap (λ (k : ℕ). sheet_refers catalog p k (Some image.sheet)) (sym (home q image there).0) ∙ refers_is image p (whole q image there) other)))
        named.2.2

    is_named : (p : ℕ) → images_refer catalog (sheets_of images) p ≡ true → Below (IsNamedUnder catalog images) 16384 p
    is_named p is =
        let refers : ℕ → Bool = λ from. sheet_refers catalog p from (get (sheets_of images) from) in
        ⊎_elim
        (λ has. let o = image_there p has in (p, (home p o.0 o.1).1, (o.0, o.1, inl (home p o.0 o.1).0)))
        (λ refer.
        let o = in_list refers (keys (sheets_of images)) refer in
        let i = image_there o.0 (contains_key-keys (sheets_of images) o.0 ∙ o.1) in
        let here = home o.0 i.0 i.1 in
        (o.0, here.1, (i.0, i.1, inr (is_referred i.0 p (ap (λ (k : ℕ). sheet_refers catalog p k (Some i.0.sheet)) here.0 ∙ sym (ap (sheet_refers catalog p o.0) (sheet_there o.0 i.0 i.1)) ∙ o.2)))))
        (or_cases (contains_key (sheets_of images) p) (list_any refers (keys (sheets_of images))) is)

    -- so the number above all that is named is the one above all that images have or refer to
    pub top_referred : (a t : ℕ) → IsTop (Below (IsNamedUnder catalog images) 16384) a t → IsTop (λ p. images_refer catalog (sheets_of images) p ≡ true) a t
    top_referred a t top = top_same (Below (IsNamedUnder catalog images) 16384) (λ p. images_refer catalog (sheets_of images) p ≡ true) a t named_is is_named top

  -- and the number above all that a store's sound images have or refer to is among its pages
  pub frontier_is : (pages : ℕ) (images : Images) (a t : ℕ) → 3 ≤ pages → a ≤ pages → pages < 16385
      → ((page : ℕ) (image : PageImage) → get images page ≡ Some image → (image.page ≡ page) × (2 ≤ page) × (page < pages) × IsSound catalog BASE pages image)
      → IsTop (Below (IsNamedUnder catalog images) 16384) a t
      → (t ≤ pages) × IsTop (λ p. images_refer catalog (sheets_of images) p ≡ true) a t
  frontier_is pages images a t some high small sound top = (
    ⊎_elim (λ same. omega (arith, same, high))
        (λ o.
        let there = sound o.1.0 o.1.2.0 o.1.2.1 in
        let page_is = there.0 in let page_low = there.2 in
        let low = named_low pages o.1.2.0 o.0 some (omega (arith, page_is, page_low)) there.3 o.1.2.2 in
        let is = o.2 in omega (arith, low, is))
        top.met,
    top_referred images (λ page image there. let is = sound page image there in (is.0, (let l = is.2 in omega (arith, l, small))))
        (λ page image there s begins. whole_start catalog (is_memory_reference BASE pages) image.page image.sheet s (sound page image there).3 begins) a t top,
  )

  -- what a root or an object of such an image refers to is named
  pub image_refers : (pages : ℕ) (images : Images) → pages < 16385
      → ((page : ℕ) (image : PageImage) → get images page ≡ Some image → (image.page ≡ page) × (2 ≤ page) × (page < pages) × IsSound catalog BASE pages image)
      → (u : ℕ) (image : PageImage) → get images u ≡ Some image → (p : ℕ) → IsRootNamed image p ⊎ ((s : ℕ) × IsObjectNamed catalog image.sheet s p)
      → images_refer catalog (sheets_of images) p ≡ true
  image_refers pages images small sound u image there p named =
      let is = sound u image there in let low = is.2 in
      let whole : (page : ℕ) (i : PageImage) → get images page ≡ Some i → (s : ℕ) → is_start i.sheet s ≡ true → IsWhole catalog i.sheet s =
      λ page i at s begins. whole_start catalog (is_memory_reference BASE pages) i.page i.sheet s (sound page i at).3 begins
      in
      named_is images (λ page i at. let o = sound page i at in (o.0, (let l = o.2 in omega (arith, l, small)))) whole p (
        u,
        omega (arith, low, small),
        (
          image,
          there,
          inr (⊎_elim (λ root. inl root)
              (λ object. let w = whole u image there object.0 object.1.0 in let within = w.within in let size = w.size in inr (object.0, omega (arith, within, size), object.1)) named),
        ),
      )

  -- and where all that images refer to passes a test of references, what holds of those pages holds of all that is named
  pub refers_used : (pages : ℕ) (refers : ℕ → Bool) (images : Images) (holds : ℕ → Type 0) → pages < 16385
      → ((page : ℕ) (image : PageImage) → get images page ≡ Some image → (image.page ≡ page) × (page < pages) × HasForm catalog refers image.page image.sheet)
      → ((page : ℕ) (image : PageImage) → get images page ≡ Some image → (image.page ≡ page) × (2 ≤ page) × (page < pages) × IsSound catalog BASE pages image)
      → ((page : ℕ) (image : PageImage) → get images page ≡ Some image → holds page)
      → ((word : ℕ) → refers word ≡ true → holds (page_in word))
      → (p : ℕ) → images_refer catalog (sheets_of images) p ≡ true → holds p
  refers_used pages refers images holds small form sound here used p is =
      let named = is_named images (λ page image there. let o = sound page image there in (o.0, (let l = o.2 in omega (arith, l, small))))
      (λ page image there s begins. whole_start catalog (is_memory_reference BASE pages) image.page image.sheet s (sound page image there).3 begins) p is in
      let image : PageImage = named.2.0 in
      let there = named.2.1 in
      of named.0 image there (form named.0 image there) named.2.2
    where
      of : (q : ℕ) (image : PageImage) → get images q ≡ Some image → (image.page ≡ q) × (q < pages) × HasForm catalog refers image.page image.sheet → IsNamedOn catalog image p → holds p
      of q image there at (inl same) = subst holds (sym at.0 ∙ same) (here q image there)
      of q image there at (inr (inl root)) =
          let word : ℕ = slice_index image.sheet.words (2 + root.1.0) in
          subst holds root.1.2 (used word ((at.2.roots root.0).roots root.1.0 root.1.1))
      of q image there at (inr (inr object)) =
          let s : ℕ = object.0 in let k : ℕ = object.2.1.0 in
          let objects = (objects_of catalog refers image.page image.sheet s at.2 object.2.0).1 in
          subst holds object.2.1.1.1 (used (slice_index image.sheet.words (s + 2 + k)) (objects.references s k object.2.0 object.2.1.1.0))
