-- The pages of an entry are those of the images that were written.
use Rattle.std.proofs.Common.{◌≡◌, ◌≢◌, ◌⊎◌, ◌<◌, ◌≤◌, ◌+◌, ◌-◌, max, ◌++◌, ◌==◌, ◌&&◌, ◌∙◌, inl, inr, ℕ, zero, suc, T, Bool, true, false, if◌then◌else◌, List, [], ◌∷◌, map, length, length-append, Option, Some, None, Ok, is_some, get_or, refl, sym, ap, subst, arith}
use Rattle.std.specs.Option.{option_map, option_or}
use Rattle.std.specs.FinMap.{get, contains_key, len, keys, entries, entries_sorted, len-entries, get-entries, from_sorted, get-from_sorted, entries-from_sorted, same_map, nat_cmp-IsAntisymmetric}
use Rattle.std.specs.FinMap.Entries.{is_sorted, below_all, find}
use Rattle.std.specs.Ordering.{nat_cmp, is_lt}
use Rattle.std.specs.Cmp.{nat_cmp_total}
use Rattle.std.proofs.lemmas.Bool.{cases_eq, cases_lt, eq-eqb, ne_eqb, false≢true}
use Rattle.std.proofs.lemmas.List.{length-map}
use Rattle.pm3_core.specs.declared.naming.TheConstants.{BASE}
use Rattle.pm3_types.specs.Fields.{Fields}
use Rattle.pm3_types.specs.Layout.{PageImage, Sheet}
use Rattle.pm3_types.specs.PageForm.{IsSound}
use Rattle.pm3_page.specs.PageBytes.{file_bytes, page_read}
use Rattle.pm3_page.specs.PageMap.{Images}
use Rattle.pm3_page.specs.PageSheets.{sheet_in, sheets_of}
use Rattle.pm3_page.proofs.SheetsOf.{get-sheets_of}
use Rattle.pm3_journal.specs.Format.{AreParts, page_in}
use Rattle.pm3_journal.specs.Opening.{image_in}
use Rattle.pm3_journal.specs.Pages.{AreBelow, IsRising, page_at}
use Rattle.pm3_journal.specs.Summaries.{part_of}
use Rattle.pm3_txn.specs.Committing.{AreFiled, AreWritable, IsFiled, HasItem, file_items}
use Rattle.pm3_txn.specs.Frontiers.{IsTop}
use Rattle.pm3_txn.proofs.Rises.{Rises, below, below_all_of, below_few, below_low, below_more, below_none, entries_rise, few, found_else, found_here, not_found, rises_from}

-- the page of an image with its bytes in a file
abbrev pub item_of : List Fields → ℕ × PageImage → ℕ × List ℕ
item_of catalog e = (e.0, file_bytes catalog BASE e.1)

map-append : {A B : Type 0} (f : A → B) (a b : List A) → map f (a ++ b) ≡ map f a ++ map f b
map-append f [] b = refl
map-append f (x ∷ xs) b = ap (λ (l : List _). f x ∷ l) (map-append f xs b)

-- so far the items are those of the pages below a number
pub items_none : (catalog : List Fields) (written : Images) → map (item_of catalog) (below 0 (entries written)) ≡ []
items_none catalog written = ap (map (item_of catalog)) (below_none 0 0 (entries written) (omega arith) (entries_rise written))

pub items_more : (catalog : List Fields) (written : Images) (from page : ℕ) (image : PageImage) → get written page ≡ Some image → from ≤ page
    → ((q : ℕ) → from ≤ q → q < page → contains_key written q ≡ false)
    → map (item_of catalog) (below (page + 1) (entries written)) ≡ map (item_of catalog) (below from (entries written)) ++ (page, file_bytes catalog BASE image) ∷ []
items_more catalog written from page image there low least =
    ap (map (item_of catalog)) (below_more 0 from page image (entries written) (entries_rise written) (sym (get-entries written page) ∙ there) low
    (λ q ge lt. ap is_some (sym (get-entries written q)) ∙ least q ge lt))
    ∙ map-append (item_of catalog) (below from (entries written)) ((page, image) ∷ [])

pub items_all : (catalog : List Fields) (written : Images) (from : ℕ) → ((q : ℕ) → from ≤ q → contains_key written q ≡ false)
    → map (item_of catalog) (below from (entries written)) ≡ file_items catalog written
items_all catalog written from none =
    ap (map (item_of catalog)) (below_all_of from (entries written) (λ q ge. ap is_some (sym (get-entries written q)) ∙ none q ge))

pub items_few : (catalog : List Fields) (written : Images) (from : ℕ) → length (map (item_of catalog) (below from (entries written))) ≤ len written
items_few catalog written from =
    let long = length-map (below from (entries written)) (item_of catalog) in
    let low = below_few from (entries written) in
    let all = len-entries written in
    omega (arith, long, low, all)

get_or-item : (catalog : List Fields) (es : List (ℕ × PageImage)) (i : ℕ) (d : ℕ × PageImage) → i < length es → page_at (map (item_of catalog) es) i ≡ (get_or es i d).0
get_or-item catalog [] i d low = absurd (omega (arith, low))
get_or-item catalog (e ∷ es) zero d low = refl
get_or-item catalog (e ∷ es) (suc i) d low = get_or-item catalog es i d (omega (arith, low))

first_of : (es : List (ℕ × PageImage)) (i : ℕ) → i < length es → (d : ℕ × PageImage) × (0 < 1)
first_of [] i low = absurd (omega (arith, low))
first_of (e ∷ es) i low = (e, omega arith)

pub items_low : (catalog : List Fields) (written : Images) (from page : ℕ) → from ≤ page → AreBelow page (map (item_of catalog) (below from (entries written)))
items_low catalog written from page low i within =
    let long = length-map (below from (entries written)) (item_of catalog) in
    let inside : i < length (below from (entries written)) = omega (arith, within, long) in
    let d = (first_of (below from (entries written)) i inside).0 in
    let at = get_or-item catalog (below from (entries written)) i d inside in
    let under = below_low from d (entries written) i inside in
    omega (arith, at, under, low)

pub items_room : (catalog : List Fields) (written : Images) (from page room : ℕ) (image : PageImage) → get written page ≡ Some image → from ≤ page
    → ((q : ℕ) → from ≤ q → q < page → contains_key written q ≡ false) → len written ≤ room + length (map (item_of catalog) (below from (entries written))) → 0 < room
items_room catalog written from page room image there low least enough =
    let more = ap length (items_more catalog written from page image there low least) in
    let one = length-append (map (item_of catalog) (below from (entries written))) ((page, file_bytes catalog BASE image) ∷ []) in
    let most = items_few catalog written (page + 1) in
    omega (arith, enough, more, one, most)

-- the items are of exactly the pages that were written
pub items_long : (catalog : List Fields) (written : Images) → length (file_items catalog written) ≡ len written
items_long catalog written = length-map (entries written) (item_of catalog) ∙ sym (len-entries written)

item_has : (catalog : List Fields) (es : List (ℕ × PageImage)) (p : ℕ) → HasItem (map (item_of catalog) es) p → is_some (find nat_cmp p es) ≡ true
item_has catalog [] p (i, low, is) = absurd (omega (arith, low))
item_has catalog (e ∷ es) p (zero, low, is) = ap is_some (found_here p e es (sym is))
item_has catalog (e ∷ es) p (suc i, low, is) = elim (cases_eq p e.0) [
  | inl same ↦ ap is_some (found_here p e es same)
  | inr apart ↦ ap is_some (found_else p e es apart) ∙ item_has catalog es p (i, omega (arith, low), is)
]

has_item : (catalog : List Fields) (es : List (ℕ × PageImage)) (p : ℕ) → is_some (find nat_cmp p es) ≡ true → HasItem (map (item_of catalog) es) p
has_item catalog [] p is = absurd (false≢true is)
has_item catalog (e ∷ es) p is = elim (cases_eq p e.0) [
  | inl same ↦ (0, omega arith, sym same)
  | inr apart ↦ (let rest = has_item catalog es p (sym (ap is_some (found_else p e es apart)) ∙ is) in (suc rest.0, (let low = rest.1 in omega (arith, low)), rest.2))
]

-- so the number above all items is that above all pages that were written
pub top_written : (catalog : List Fields) (written : Images) (least top : ℕ) → IsTop (HasItem (file_items catalog written)) least top → IsTop (λ p. contains_key written p ≡ true) least top
top_written catalog written least top is = record {
  most = is.most;
  above = λ p has. is.above p (has_item catalog (entries written) p (sym (ap is_some (get-entries written p)) ∙ has));
  met = of is.met;
}
  where
    of : (top ≡ least) ⊎ ((p : ℕ) × HasItem (file_items catalog written) p × (top ≡ p + 1)) → (top ≡ least) ⊎ ((p : ℕ) × (contains_key written p ≡ true) × (top ≡ p + 1))
    of (inl same) = inl same
    of (inr (p, has, at)) = inr (p, ap is_some (get-entries written p) ∙ item_has catalog (entries written) p has, at)

-- the sheets of images stand in the same order
abbrev sheet_of : ℕ × PageImage → ℕ × Sheet
sheet_of e = (e.0, e.1.sheet)

below-same : (n : ℕ) (es : List (ℕ × PageImage)) → below_all nat_cmp n (map sheet_of es) ≡ below_all nat_cmp n es
below-same n [] = refl
below-same n (e ∷ es) = ap (λ (b : Bool). is_lt (nat_cmp n e.0) && b) (below-same n es)

sorted-same : (es : List (ℕ × PageImage)) → is_sorted nat_cmp (map sheet_of es) ≡ is_sorted nat_cmp es
sorted-same [] = refl
sorted-same (e ∷ es) = λ i. below-same e.0 es i && sorted-same es i

find-same : (q : ℕ) (es : List (ℕ × PageImage)) → find nat_cmp q (map sheet_of es) ≡ sheet_in (find nat_cmp q es)
find-same q [] = refl
find-same q (e ∷ es) = elim (cases_eq q e.0) [
  | inl same ↦ found_here q (sheet_of e) (map sheet_of es) same ∙ sym (ap sheet_in (found_here q e es same))
  | inr apart ↦ found_else q (sheet_of e) (map sheet_of es) apart ∙ find-same q es ∙ sym (ap sheet_in (found_else q e es apart))
]

map-map : {A B C : Type 0} (f : A → B) (g : B → C) (l : List A) → map g (map f l) ≡ map (λ a. g (f a)) l
map-map f g [] = refl
map-map f g (x ∷ xs) = ap (λ (l : List _). g (f x) ∷ l) (map-map f g xs)

pub keys_same : (written : Images) → keys (sheets_of written) ≡ keys written
keys_same written =
    ap keys (same_map nat_cmp_total nat_cmp-IsAntisymmetric (sheets_of written) (from_sorted (map sheet_of (entries written)))
    (λ q. get-sheets_of written q ∙ ap sheet_in (get-entries written q) ∙ sym (find-same q (entries written)) ∙ sym (get-from_sorted nat_cmp (map sheet_of (entries written)) q sorted)))
    ∙ ap (map (λ e. e.0)) (entries-from_sorted nat_cmp (map sheet_of (entries written)) sorted)
    ∙ map-map sheet_of (λ e. e.0) (entries written)
  where
    sorted : T (is_sorted nat_cmp (map sheet_of (entries written)))
    sorted = subst (λ (b : Bool). T b) (sym (sorted-same (entries written))) (entries_sorted written)

-- and a record's pages are theirs
pub pages_same : (catalog : List Fields) (written : Images) → map page_in (map part_of (file_items catalog written)) ≡ keys (sheets_of written)
pages_same catalog written =
    map-map part_of page_in (file_items catalog written) ∙ map-map (item_of catalog) (λ item. page_in (part_of item)) (entries written) ∙ sym (keys_same written)

image_in-items : (catalog : List Fields) (n page : ℕ) (es : List (ℕ × PageImage)) (was : Option (List ℕ)) → Rises n es
    → image_in page (map part_of (map (item_of catalog) es)) was ≡ option_or (option_map (file_bytes catalog BASE) (find nat_cmp page es)) was
image_in-items catalog n page [] was rises = refl
image_in-items catalog n page (e ∷ es) was rises = elim (cases_eq page e.0) [
  | inl same ↦ image_in-items catalog (e.0 + 1) page es (if e.0 == page then Some (file_bytes catalog BASE e.1) else was) rises.1
      ∙ ap (λ (o : Option PageImage). option_or (option_map (file_bytes catalog BASE) o) (if e.0 == page then Some (file_bytes catalog BASE e.1) else was))
      (not_found (e.0 + 1) page es (omega (arith, same)) rises.1)
      ∙ ap (λ (b : Bool). if b then Some (file_bytes catalog BASE e.1) else was) (eq-eqb e.0 page (sym same))
      ∙ sym (ap (λ (o : Option PageImage). option_or (option_map (file_bytes catalog BASE) o) was) (found_here page e es same))
  | inr apart ↦ image_in-items catalog (e.0 + 1) page es (if e.0 == page then Some (file_bytes catalog BASE e.1) else was) rises.1
      ∙ ap (λ (b : Bool). option_or (option_map (file_bytes catalog BASE) (find nat_cmp page es)) (if b then Some (file_bytes catalog BASE e.1) else was)) (ne_eqb e.0 page (λ same. apart (sym same)))
      ∙ sym (ap (λ (o : Option PageImage). option_or (option_map (file_bytes catalog BASE) o) was) (found_else page e es apart))
]

pub image_of_record : (catalog : List Fields) (written : Images) (page : ℕ)
    → image_in page (map part_of (file_items catalog written)) None ≡ option_map (file_bytes catalog BASE) (get written page)
image_of_record catalog written page =
    image_in-items catalog 0 page (entries written) None (entries_rise written)
    ∙ or_none (option_map (file_bytes catalog BASE) (find nat_cmp page (entries written)))
    ∙ ap (option_map (file_bytes catalog BASE)) (sym (get-entries written page))
  where
    or_none : (o : Option (List ℕ)) → option_or o None ≡ o
    or_none None = refl
    or_none (Some x) = refl

-- the parts of a record rise among the pages of the store
parts_from : (catalog : List Fields) (pages last : ℕ) (es : List (ℕ × PageImage)) → Rises (last + 1) es
    → ((q : ℕ) (image : PageImage) → find nat_cmp q es ≡ Some image → (q < pages) × (length (file_bytes catalog BASE image) ≡ 4096))
    → AreParts pages last (map part_of (map (item_of catalog) es))
parts_from catalog pages last [] rises are = tt
parts_from catalog pages last (e ∷ es) rises are =
    let here = are e.0 e.1 (found_here e.0 e es refl) in
    let first = rises.0 in
    (omega (arith, first), here.0, here.1, parts_from catalog pages e.0 es rises.1 (λ q image is. are q image (found_else q e es (later q image is) ∙ is)))
  where
    later : (q : ℕ) (image : PageImage) → find nat_cmp q es ≡ Some image → q ≢ e.0
    later q image is same = none_some (sym (not_found (e.0 + 1) q es (omega (arith, same)) rises.1) ∙ is)
      where
        none_some : None ≡ Some image → ⊥
        none_some e = cc e

some_of : {X : Type 0} (o : Option X) → is_some o ≡ true → (x : X) × (o ≡ Some x)
some_of None is = absurd (false≢true is)
some_of (Some x) is = (x, refl)

module _ (catalog : List Fields) (pages : ℕ) (written : Images) (writable : AreWritable catalog pages written) where
  has_low : (q : ℕ) → is_some (find nat_cmp q (entries written)) ≡ true → (2 ≤ q) × (q < pages)
  has_low q is =
      let o = some_of (find nat_cmp q (entries written)) is in
      let low = writable q o.0 (get-entries written q ∙ o.1) in
      (low.1, low.2)

  rises : Rises 2 (entries written)
  rises = rises_from 2 0 (entries written) (entries_rise written) (λ q is. (has_low q is).0)

  pub parts_are : AreFiled catalog written → AreParts pages 1 (map part_of (file_items catalog written))
  parts_are filed = parts_from catalog pages 1 (entries written) rises
      (λ q image is. let there : get written q ≡ Some image = get-entries written q ∙ is in ((writable q image there).2, (filed q image there).long))

  pub number_low : 2 ≤ pages → length (map part_of (file_items catalog written)) < pages
  number_low some =
      let long = length-map (file_items catalog written) part_of in
      let items = length-map (entries written) (item_of catalog) in
      let low = few 2 pages (entries written) some rises (λ q is. (has_low q is).1) in
      omega (arith, long, items, low)

-- the number above all items is that above the last one, and above none without items
pub top_nothing : (items : List (ℕ × List ℕ)) (n : ℕ) → length items ≡ 0 → IsTop (HasItem items) n n
top_nothing items n none = record {
  most = omega arith;
  above = λ p has. (let low = has.1 in absurd (omega (arith, low, none)));
  met = inl refl;
}

pub top_last : (items : List (ℕ × List ℕ)) (n last top : ℕ) → IsRising items → 0 < length items → last ≡ page_at items (length items - 1) → top ≡ max n (last + 1) → IsTop (HasItem items) n top
top_last items n last top rising some last_is is = record {
  most = omega (arith, is);
  above = λ p has. (let low = below_last has.0 has.1 in let at = has.2 in omega (arith, low, at, is, last_is));
  met = of (cases_lt n (last + 1));
}
  where
    below_last : (i : ℕ) → i < length items → page_at items i ≤ page_at items (length items - 1)
    below_last i low = elim (cases_lt i (length items - 1)) [
      | inl lt ↦ (let up = rising i (length items - 1) lt (omega (arith, some)) in omega (arith, up))
      | inr ge ↦ (let same : i ≡ length items - 1 = omega (arith, low, ge) in let at = ap (page_at items) same in omega (arith, at))
    ]

    of : (n < last + 1) ⊎ (last + 1 ≤ n) → (top ≡ n) ⊎ ((p : ℕ) × HasItem items p × (top ≡ p + 1))
    of (inl lt) = inr (last, (length items - 1, omega (arith, some), sym last_is), omega (arith, is, lt))
    of (inr ge) = inl (omega (arith, is, ge))

-- the pages of all items are in the store
pub items_within : (catalog : List Fields) (written : Images) → AreWritable catalog 16384 written → (i : ℕ) → i < length (file_items catalog written) → page_at (file_items catalog written) i < 16384
items_within catalog written writable i low =
    let long = length-map (entries written) (item_of catalog) in
    let inside : i < length (entries written) = omega (arith, low, long) in
    (has_low catalog 16384 written writable (page_at (file_items catalog written) i) (item_has catalog (entries written) (page_at (file_items catalog written) i) (i, low, refl))).1

-- the images below a number are filed, and one more
pub filed_more : (catalog : List Fields) (written : Images) (from page : ℕ) (image : PageImage) → get written page ≡ Some image → IsFiled catalog image
    → ((q : ℕ) → from ≤ q → q < page → contains_key written q ≡ false) → ((q : ℕ) (x : PageImage) → q < from → get written q ≡ Some x → IsFiled catalog x)
    → (q : ℕ) (x : PageImage) → q < page + 1 → get written q ≡ Some x → IsFiled catalog x
filed_more catalog written from page image there filed least before q x low is = elim (cases_lt q from) [
  | inl lt ↦ before q x lt is
  | inr ge ↦ elim (cases_eq q page) [
    | inl same ↦ subst (IsFiled catalog) (one (sym there ∙ sym (ap (get written) same) ∙ is)) filed
    | inr apart ↦ absurd (false≢true (sym (least q ge (omega (arith, low, apart))) ∙ ap is_some is))
  ]
]
  where
    one : Some image ≡ Some x → image ≡ x
    one e = cc e

pub filed_all : (catalog : List Fields) (written : Images) (from : ℕ) → ((q : ℕ) → from ≤ q → contains_key written q ≡ false)
    → ((q : ℕ) (x : PageImage) → q < from → get written q ≡ Some x → IsFiled catalog x) → AreFiled catalog written
filed_all catalog written from none before q x is = elim (cases_lt q from) [
  | inl lt ↦ before q x lt is
  | inr ge ↦ absurd (false≢true (sym (none q ge) ∙ ap is_some is))
]

pub filed_by : (catalog : List Fields) (image : PageImage) (bytes : List ℕ) → bytes ≡ file_bytes catalog BASE image → length bytes ≡ 4096
    → ((pages : ℕ) → pages ≤ 16384 → IsSound catalog BASE pages image → page_read catalog BASE pages image.page bytes ≡ Ok image.sheet) → IsFiled catalog image
filed_by catalog image bytes same long read = record {
  long = sym (ap length same) ∙ long;
  back = λ pages most sound. subst (λ (b : List ℕ). page_read catalog BASE pages image.page b ≡ Ok image.sheet) same (read pages most sound);
}
