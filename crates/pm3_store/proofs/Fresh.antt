-- A new store opens to the graph without objects.
use Rattle.std.proofs.Common.{◌≡◌, inl, inr, ◌+◌, ◌-◌, ◌*◌, ◌<◌, ◌≤◌, ℕ, suc, true, leb, List, [], ◌∷◌, ◌++◌, length, take, drop, Option, Some, None, is_some, option_map, slice_index, refl, sym, ◌∙◌, ap, subst, arith, append_assoc, length-append}
use Rattle.std.specs.Ordering.{nat_cmp}
use Rattle.std.specs.FinMap.{get, empty, get-empty}
use Rattle.std.proofs.lemmas.Bool.{and_parts, leb-true}
use Rattle.std.proofs.lemmas.List.{take_at, drop_at, length-replicate, drop-drop, get_or-replicate}
use Rattle.pm3_types.specs.Fields.{Fields}
use Rattle.pm3_types.specs.Layout.{Sheet, is_address}
use Rattle.pm3_types.specs.Objects.{IsReachedAt, RootIs, is_object_at, root, next}
use Rattle.pm3_types.specs.PageLaws.{IsCatalog}
use Rattle.pm3_types.specs.PageOne.{catalog_head, catalog_page, maps_bytes, padded, zeros}
use Rattle.pm3_types.specs.Shown.{Images, roots_in, shown, shown_records}
use Rattle.pm3_types.proofs.Books.{shown_from}
use Rattle.pm3_types.proofs.Parts.{same_part}
use Rattle.pm3_page.specs.Head.{AreMarks, head_page}
use Rattle.pm3_page.specs.PageBytes.{page_read}
use Rattle.pm3_pagefile.specs.EmptyFile.{first_marks, page_file, roots_bytes}
use Rattle.pm3_pagefile.specs.PageBytes.{page_at}
use Rattle.pm3_pagefile.proofs.OneHead.{size}
use Rattle.pm3_journal.specs.FileHead.{empty_journal}
use Rattle.pm3_journal.specs.Opening.{AreAt, AreImagesOf, AreReached, OpenTo}
use Rattle.pm3_journal.proofs.Examples.{empty_has_none, page_count_is}
use Rattle.pm3_store.specs.NewStore.{empty_graph, NewStoreOpens}
use Rattle.pm3_store.proofs.Carrying.{never_last}
use Rattle.pm3_store.proofs.Recording.{none_or_some}
use Rattle.pm3_store.proofs.Imagined.{imagined}
use Rattle.pm3_store.proofs.Roots.{roots_nil, roots_read, roots_sheet}

length-maps : (maps : List Fields) → length (maps_bytes maps) ≡ 8 * length maps
length-maps [] = refl
length-maps (m ∷ maps) =
    let more = length-maps maps in
    omega (arith, more)

length-zeros : (n : ℕ) → length (zeros n) ≡ n
unfolding zeros
length-zeros n = length-replicate n 0

length-padded : (n : ℕ) (bytes : List ℕ) → length bytes ≤ n → length (padded n bytes) ≡ n
unfolding padded
length-padded n bytes fits =
    let front = length-append bytes (zeros (n - length bytes)) in
    let behind = length-zeros (n - length bytes) in
    omega (arith, front, behind, fits)

length-catalog : (maps : List Fields) → length maps ≤ 256 → length (catalog_page maps) ≡ 4096
length-catalog maps few =
    let front = length-append (catalog_head (length maps)) (maps_bytes maps) in
    let behind = length-maps maps in
    length-padded 4096 (catalog_head (length maps) ++ maps_bytes maps) (omega (arith, front, behind, few))

never : (a n : ℕ) → get (empty {K = ℕ} {X = ℕ} {R = nat_cmp}) a ≡ Some n → ⊥
never a n is = absurd (cc (sym (get-empty nat_cmp a) ∙ is))

-- no object is at address 0
no_object : (base : ℕ) (images : Images) (a : ℕ) → 0 < base → a ≡ 0 → is_object_at base images a ≡ true → ⊥
unfolding is_address
no_object base images a positive nil is =
    let at = and_parts (is_address base a) _ is in
    let above = and_parts (leb base a) _ at.0 in
    let low : base ≤ a = leb-true base a above.0 in
    omega (arith, low, nil, positive)

nil_word : (slot : ℕ) → slot < 16 → slice_index roots_sheet.words (2 + slot) ≡ 0
unfolding roots_sheet
nil_word slot low =
    let behind : 2 + slot ≡ suc (1 + slot) = omega arith in
    ap (λ (n : ℕ). slice_index roots_sheet.words n) behind ∙ get_or-replicate 511 (1 + slot) 0 0 (omega (arith, low))

nothing_shown : (catalog : List Fields) (base : ℕ) (images : Images) (q : ℕ) → get (shown_records catalog base empty images) q ≡ None
nothing_shown catalog base images q = elim (none_or_some (get (shown_records catalog base empty images) q)) [
  | inl none ↦ none
  | inr some ↦ (let from = shown_from catalog base empty images q some.0 some.1 in absurd (never from.0 q from.1))
]

module _ (pages : ℕ) (catalog : List Fields) (least : 16 ≤ pages) (most : pages ≤ 16384) (is_catalog : IsCatalog catalog) where
  first : List ℕ
  first = head_page (first_marks pages)

  free : List ℕ
  free = zeros (4096 * (pages - 3))

  regrouped : page_file pages catalog ≡ head_page (first_marks pages) ++ (catalog_page catalog ++ (padded 4096 roots_bytes ++ zeros (4096 * (pages - 3))))
  regrouped =
      append_assoc (head_page (first_marks pages) ++ catalog_page catalog) (padded 4096 roots_bytes) (zeros (4096 * (pages - 3)))
      ∙ append_assoc (head_page (first_marks pages)) (catalog_page catalog) (padded 4096 roots_bytes ++ zeros (4096 * (pages - 3)))

  long_head : length (head_page (first_marks pages)) ≡ 4096
  long_head = size (first_marks pages)

  long_catalog : length (catalog_page catalog) ≡ 4096
  long_catalog = length-catalog catalog is_catalog.0

  long_roots : length (padded 4096 roots_bytes) ≡ 4096
  long_roots = length-padded 4096 roots_bytes (omega arith)

  head_there : page_at 0 (page_file pages catalog) ≡ head_page (first_marks pages)
  head_there =
      ap (λ (l : List ℕ). take 4096 l) regrouped
      ∙ take_at (head_page (first_marks pages)) (catalog_page catalog ++ (padded 4096 roots_bytes ++ zeros (4096 * (pages - 3)))) 4096 long_head

  behind_head : drop 4096 (page_file pages catalog) ≡ catalog_page catalog ++ (padded 4096 roots_bytes ++ zeros (4096 * (pages - 3)))
  behind_head =
      ap (λ (l : List ℕ). drop 4096 l) regrouped
      ∙ drop_at (head_page (first_marks pages)) (catalog_page catalog ++ (padded 4096 roots_bytes ++ zeros (4096 * (pages - 3)))) 4096 long_head

  catalog_there : page_at 1 (page_file pages catalog) ≡ catalog_page catalog
  catalog_there =
      ap (λ (l : List ℕ). take 4096 l) behind_head
      ∙ take_at (catalog_page catalog) (padded 4096 roots_bytes ++ zeros (4096 * (pages - 3))) 4096 long_catalog

  behind_catalog : drop 8192 (page_file pages catalog) ≡ padded 4096 roots_bytes ++ zeros (4096 * (pages - 3))
  behind_catalog =
      sym (drop-drop 4096 4096 (page_file pages catalog)) ∙ ap (λ (l : List ℕ). drop 4096 l) behind_head
      ∙ drop_at (catalog_page catalog) (padded 4096 roots_bytes ++ zeros (4096 * (pages - 3))) 4096 long_catalog

  roots_there : page_at 2 (page_file pages catalog) ≡ padded 4096 roots_bytes
  roots_there =
      ap (λ (l : List ℕ). take 4096 l) behind_catalog
      ∙ take_at (padded 4096 roots_bytes) (zeros (4096 * (pages - 3))) 4096 long_roots

  whole : length (page_file pages catalog) ≡ 4096 * pages
  whole =
      let one = length-append ((head_page (first_marks pages) ++ catalog_page catalog) ++ padded 4096 roots_bytes) (zeros (4096 * (pages - 3))) in
      let two = length-append (head_page (first_marks pages) ++ catalog_page catalog) (padded 4096 roots_bytes) in
      let three = length-append (head_page (first_marks pages)) (catalog_page catalog) in
      let rest = length-zeros (4096 * (pages - 3)) in
      omega (arith, one, two, three, rest, long_head, long_catalog, long_roots, least)

  marks_are : AreMarks (first_marks pages)
  marks_are = record {
    pages = (least, most);
    high_page = (omega arith, omega (arith, least));
    next_name = (omega arith, omega arith);
    next_seq = (omega arith, omega arith);
  }

  own_at : AreAt (page_file pages catalog) [] pages 1 3
  own_at = record {
    head = λ _. (first_marks pages, marks_are, head_there, refl, refl, refl);
    last = λ front r is. absurd (never_last front r is);
  }

  module _ (base : ℕ) (positive : 0 < base) where
    images_there : (images : Images) × AreImagesOf catalog base pages (page_file pages catalog) [] images
    images_there = imagined catalog base pages (page_file pages catalog) [] (omega (arith, least))

    module _ (images : Images) (are : AreImagesOf catalog base pages (page_file pages catalog) [] images) where
      roots_are : get images 2 ≡ Some roots_sheet
      roots_are = (are 2 roots_sheet).1 (omega arith, omega (arith, least), ap (page_read catalog base pages 2) roots_there ∙ roots_read catalog base pages)

      nil : (slot : ℕ) → slot < 16 → slice_index roots_sheet.words (2 + slot) ≡ 0
      nil slot low = nil_word slot low

      root_nil : (b : ℕ) → RootIs images b → b ≡ 0
      root_nil b r =
          let same : r.sheet ≡ roots_sheet = cc (sym r.on ∙ roots_are) in
          sym r.is ∙ ap (λ (s : Sheet). slice_index s.words (2 + r.slot)) same ∙ nil r.slot r.low

      nothing : (a : ℕ) → IsReachedAt catalog base images a → ⊥
      nothing a (root _ is object) = no_object base images a positive (root_nil a is) object
      nothing a (next m _ before refers object) = nothing m before

      reached : AreReached catalog base [] images empty 1 3
      reached = record {
        roots = ap is_some roots_are;
        recorded = λ page there. absurd (cc there);
        reached = λ a is. absurd (nothing a is);
        only = λ a n is. absurd (never a n is);
        fits = record {
          one = λ a b n is also. absurd (never a n is);
          named = λ a n is. absurd (never a n is);
          objects = λ a n sheet is. absurd (never a n is);
          references = λ a n k sheet is. absurd (never a n is);
          roots = λ slot sheet low is.
              let same : sheet ≡ roots_sheet = cc (sym is ∙ roots_are) in
              inl (ap (λ (s : Sheet). slice_index s.words (2 + slot)) same ∙ nil slot low);
        };
        names = λ a n is. absurd (never a n is);
        pages = λ a n is. absurd (never a n is);
        references = λ a n s k sheet is. absurd (never a n is);
      }

      graph_is : empty_graph ≡ shown catalog base empty images
      graph_is = same_part empty_graph (shown catalog base empty images) (λ q. get-empty nat_cmp q ∙ sym (nothing_shown catalog base images q)) (sym (ap (roots_in catalog base empty images) roots_are ∙ roots_nil catalog base images))

    opens_here : OpenTo base (page_file pages catalog) (empty_journal pages) empty_graph
    opens_here =
        let count = page_count_is pages most in
        record {
          list = [];
          catalog = catalog;
          images = images_there.0;
          book = empty;
          next_name = 1;
          high_page = 3;
          records_are = empty_has_none pages least most;
          size = whole ∙ ap (λ (n : ℕ). 4096 * n) (sym count);
          at = subst (λ (n : ℕ). AreAt (page_file pages catalog) [] n 1 3) (sym count) own_at;
          is_catalog = is_catalog;
          catalog_is = catalog_there;
          images_are = subst (λ (n : ℕ). AreImagesOf catalog base n (page_file pages catalog) [] images_there.0) (sym count) images_there.1;
          reached = reached images_there.0 images_there.1;
          graph = graph_is images_there.0 images_there.1;
        }

pub new_store_opens : NewStoreOpens
new_store_opens base pages catalog positive least most is_catalog = opens_here pages catalog least most is_catalog base positive

from_made : (content : Option (List ℕ)) (made bytes : List ℕ) → content ≡ Some bytes → (was : Option (List ℕ)) → content ≡ option_map (λ _. made) was → bytes ≡ made
from_made content made bytes told None is = absurd (cc (sym is ∙ told))
from_made content made bytes told (Some x) is = cc (sym told ∙ is)

-- files that were made open so
pub made_opens : (base pages : ℕ) (catalog : List Fields) → 0 < base → 16 ≤ pages → pages ≤ 16384 → IsCatalog catalog → (was now was_journal journal : Option (List ℕ))
    → now ≡ option_map (λ _. page_file pages catalog) was → journal ≡ option_map (λ _. empty_journal pages) was_journal
    → (file bytes : List ℕ) → now ≡ Some file → journal ≡ Some bytes → OpenTo base file bytes empty_graph
made_opens base pages catalog positive least most is_catalog was now was_journal journal made made_journal file bytes told told_journal =
    let file_is : file ≡ page_file pages catalog = from_made now (page_file pages catalog) file told was made in
    let bytes_are : bytes ≡ empty_journal pages = from_made journal (empty_journal pages) bytes told_journal was_journal made_journal in
    subst (λ (f : List ℕ). OpenTo base f bytes empty_graph) (sym file_is)
    (subst (λ (b : List ℕ). OpenTo base (page_file pages catalog) b empty_graph) (sym bytes_are) (new_store_opens base pages catalog positive least most is_catalog))
