-- What images show once others take their place on some pages, under a book that goes on from the old one.
use Rattle.std.proofs.Common.{◌≡◌, ◌<◌, ◌+◌, ◌∙◌, ◌⊎◌, inl, inr, ℕ, Bool, true, false, cond, List, Option, Some, None, is_some, unwrap_or, refl, sym, ap, arith}
use Rattle.std.specs.Prelude.{◌==◌, ◌≢◌, slice_get, slice_index}
use Rattle.std.specs.Option.{option_or}
use Rattle.std.specs.FinMap.{get}
use Rattle.std.proofs.lemmas.Bool.{cond-true, cases_eq}
use Rattle.pm3_types.specs.Fields.{Fields}
use Rattle.pm3_types.specs.Graph.{Part, PartOf, with_part}
use Rattle.pm3_types.specs.Layout.{Sheet, type_in, page_in, word_in, is_address, is_unmoved}
use Rattle.pm3_types.specs.PageForm.{IsReferenceIn, map_at, tail_at}
use Rattle.pm3_types.specs.Record.{Record}
use Rattle.pm3_types.specs.Shown.{Book, Images, IsKnown, FitsImages, name_by, record_at, object_in, object_at, roots_in, shown_records, shown}
use Rattle.pm3_types.proofs.Books.{shown_at, shown_from}
use Rattle.pm3_types.proofs.Parts.{get-with_part, part_of_with}
use Rattle.pm3_types.proofs.PassRecords.{record_same}
use Rattle.pm3_types.proofs.Writes.{alike}
use Rattle.pm3_history.specs.Entry.{Entry}
use Rattle.pm3_history.specs.Lawful.{Tells, images_of}
use Rattle.pm3_history.proofs.Laying.{some_of, some_none}

-- an object at an address on a page that is there
pub object_is : (catalog : List Fields) (base : ℕ) (book : Book) (images : Images) (a : ℕ) (sheet : Sheet) → get images (page_in base a) ≡ Some sheet
    → is_address base a ≡ true → is_unmoved sheet (word_in base a) ≡ true
    → object_at book catalog base images a ≡ Some (record_at book catalog sheet.words (word_in base a))
object_is catalog base book images a sheet on is unmoved =
    cond-true (is_address base a) (object_in book catalog (get images (page_in base a)) (word_in base a)) None is
    ∙ ap (λ (o : Option Sheet). object_in book catalog o (word_in base a)) on
    ∙ cond-true (is_unmoved sheet (word_in base a)) (Some (record_at book catalog sheet.words (word_in base a))) None unmoved

-- an object of a book that fits the images, on a page that is there, is shown
pub object_shown : (catalog : List Fields) (base : ℕ) (book : Book) (images : Images) (a n : ℕ) → FitsImages catalog base book images
    → is_some (get images (page_in base a)) ≡ true → get book a ≡ Some n
    → (sheet : Sheet) × (get images (page_in base a) ≡ Some sheet)
    × (get (shown_records catalog base book images) n ≡ Some (record_at book catalog sheet.words (word_in base a)))
object_shown catalog base book images a n fits there has =
    let on = some_of (get images (page_in base a)) there in
    let place = fits.objects a n on.0 has on.1 in
    (on.0, on.1, shown_at catalog base book images a n fits.one has ∙ object_is catalog base book images a on.0 on.1 place.0 place.1)

-- images that agree on a page have the same object there
pub object_alike : (catalog : List Fields) (base : ℕ) (book : Book) (images now : Images) (a : ℕ) → get now (page_in base a) ≡ get images (page_in base a)
    → object_at book catalog base now a ≡ object_at book catalog base images a
object_alike catalog base book images now a same =
    ap (λ (o : Option Sheet). cond (is_address base a) (object_in book catalog o (word_in base a)) None) same

either : (b : Bool) → cond {A = Option Record} b None None ≡ None
either true = refl
either false = refl

-- there is none on a page that isn't there
pub nothing_at : (catalog : List Fields) (base : ℕ) (book : Book) (images : Images) (a : ℕ) → get images (page_in base a) ≡ None → object_at book catalog base images a ≡ None
nothing_at catalog base book images a none =
    ap (λ (o : Option Sheet). cond (is_address base a) (object_in book catalog o (word_in base a)) None) none ∙ either (is_address base a)

-- a known word stands for the same name in a book that keeps it
pub name_kept : (old new : Book) (w : ℕ) → IsKnown old w → ((m : ℕ) → w ≢ 0 → get old w ≡ Some m → get new w ≡ Some m) → name_by new w ≡ name_by old w
name_kept old new w known keeps = elim (cases_eq w 0) [
  | inl e ↦ ap (name_by new) e ∙ sym (ap (name_by old) e)
  | inr more ↦ by more known
]
  where
    by : w ≢ 0 → IsKnown old w → name_by new w ≡ name_by old w
    by more (inl e) = absurd (more e)
    by more (inr is) =
        let has = some_of (get old w) is in
        ap (λ (o : Option ℕ). cond (w == 0) 0 (unwrap_or o 0)) (keeps has.0 more has.1 ∙ sym has.1)

pub known_kept : (old new : Book) (w : ℕ) → IsKnown old w → ((m : ℕ) → w ≢ 0 → get old w ≡ Some m → get new w ≡ Some m) → IsKnown new w
known_kept old new w known keeps = elim (cases_eq w 0) [
  | inl e ↦ inl e
  | inr more ↦ by more known
]
  where
    by : w ≢ 0 → IsKnown old w → IsKnown new w
    by more (inl e) = inl e
    by more (inr is) = (let has = some_of (get old w) is in inr (ap is_some (keeps has.0 more has.1)))

-- the object is shown alike under a book that keeps the names of all to which it refers
pub object_same : (catalog : List Fields) (base : ℕ) (old new : Book) (images : Images) (a n : ℕ) → FitsImages catalog base old images → get old a ≡ Some n
    → ((k m : ℕ) (sheet : Sheet) → get images (page_in base a) ≡ Some sheet → IsReferenceIn (map_at catalog sheet (word_in base a)) (tail_at sheet (word_in base a)) k
    → slice_index sheet.words (word_in base a + 2 + k) ≢ 0 → get old (slice_index sheet.words (word_in base a + 2 + k)) ≡ Some m → get new (slice_index sheet.words (word_in base a + 2 + k)) ≡ Some m)
    → object_at new catalog base images a ≡ object_at old catalog base images a
object_same catalog base old new images a n fits has keeps = by (get images (page_in base a)) refl
  where
    by : (o : Option Sheet) → get images (page_in base a) ≡ o → object_at new catalog base images a ≡ object_at old catalog base images a
    by None none =
        ap (λ (o : Option Sheet). cond (is_address base a) (object_in new catalog o (word_in base a)) None) none
        ∙ sym (ap (λ (o : Option Sheet). cond (is_address base a) (object_in old catalog o (word_in base a)) None) none)
    by (Some sheet) on =
        let place = fits.objects a n sheet has on in
        let at : ℕ = word_in base a in
        object_is catalog base new images a sheet on place.0 place.1
        ∙ ap Some (record_same old new sheet.words sheet.words (slice_get catalog (type_in (slice_index sheet.words at))) at at (slice_index sheet.words at)
        (λ k reference. name_kept old new (slice_index sheet.words (at + 2 + k)) (fits.references a n k sheet has on reference) (λ m. keeps k m sheet on reference))
        (λ k low other. refl))
        ∙ sym (object_is catalog base old images a sheet on place.0 place.1)

-- so are the roots
pub roots_same : (catalog : List Fields) (base : ℕ) (old new : Book) (images : Images) → FitsImages catalog base old images
    → ((slot m : ℕ) (sheet : Sheet) → slot < 16 → get images 2 ≡ Some sheet → slice_index sheet.words (2 + slot) ≢ 0 → get old (slice_index sheet.words (2 + slot)) ≡ Some m → get new (slice_index sheet.words (2 + slot)) ≡ Some m)
    → roots_in catalog base new images (get images 2) ≡ roots_in catalog base old images (get images 2)
roots_same catalog base old new images fits keeps = by (get images 2) refl
  where
    by : (o : Option Sheet) → get images 2 ≡ o → roots_in catalog base new images (get images 2) ≡ roots_in catalog base old images (get images 2)
    by None none = ap (roots_in catalog base new images) none ∙ sym (ap (roots_in catalog base old images) none)
    by (Some sheet) on =
        ap (roots_in catalog base new images) on
        ∙ ap Some (alike _ _ 16 0 (λ slot from until.
        name_kept old new (slice_index sheet.words (2 + slot)) (fits.roots slot sheet (omega arith) on) (λ m. keeps slot m sheet (omega arith) on)))
        ∙ sym (ap (roots_in catalog base old images) on)

-- On the pages of `over` the new images are these, under a new book that fits them. What the new book has elsewhere the old one
-- has, on the image that was there, and all to which it refers keeps its name.
pub record IsReplaced (catalog : List Fields) (base : ℕ) (old : Book) (images : Images) (new : Book) (now over : Images) : Type 0 where
  pub fits : FitsImages catalog base new over
  pub above : (q : ℕ) (sheet : Sheet) → get over q ≡ Some sheet → get now q ≡ Some sheet
  pub below : (a n : ℕ) → get new a ≡ Some n → get over (page_in base a) ≡ None
      → (get now (page_in base a) ≡ get images (page_in base a)) × (get old a ≡ Some n)
  pub root_page : get over 2 ≡ None → get now 2 ≡ get images 2
  pub words : (a n k m : ℕ) (sheet : Sheet) → get new a ≡ Some n → get over (page_in base a) ≡ None → get images (page_in base a) ≡ Some sheet
      → IsReferenceIn (map_at catalog sheet (word_in base a)) (tail_at sheet (word_in base a)) k
      → slice_index sheet.words (word_in base a + 2 + k) ≢ 0 → get old (slice_index sheet.words (word_in base a + 2 + k)) ≡ Some m → get new (slice_index sheet.words (word_in base a + 2 + k)) ≡ Some m
  pub slots : (slot m : ℕ) (sheet : Sheet) → slot < 16 → get over 2 ≡ None → get images 2 ≡ Some sheet
      → slice_index sheet.words (2 + slot) ≢ 0 → get old (slice_index sheet.words (2 + slot)) ≡ Some m → get new (slice_index sheet.words (2 + slot)) ≡ Some m

or_part : {A : Type 0} (o p : Option A) → ((x : A) → o ≡ Some x → p ≡ Some x) → option_or o p ≡ p
or_part None p there = refl
or_part (Some x) p there = sym (there x refl)

module _ (catalog : List Fields) (base : ℕ) (old : Book) (images : Images) (new : Book) (now over : Images)
    (r : IsReplaced catalog base old images new now over) (fits : FitsImages catalog base old images) where
  -- the image of a page of `over` is there
  over_is : (q : ℕ) (sheet other : Sheet) → get over q ≡ Some sheet → get now q ≡ Some other → get over q ≡ Some other
  over_is q sheet other is on = is ∙ sym (r.above q sheet is) ∙ on

  pub fits_now : FitsImages catalog base new now
  fits_now = record {
    one = r.fits.one;
    named = r.fits.named;
    objects = λ a n sheet has on. objects a n sheet has on (get over (page_in base a)) refl;
    references = λ a n k sheet has on is. references a n k sheet has on is (get over (page_in base a)) refl;
    roots = λ slot sheet low on. roots slot sheet low on (get over 2) refl;
  }
    where
      objects : (a n : ℕ) (sheet : Sheet) → get new a ≡ Some n → get now (page_in base a) ≡ Some sheet → (o : Option Sheet) → get over (page_in base a) ≡ o
          → (is_address base a ≡ true) × (is_unmoved sheet (word_in base a) ≡ true) × (slice_index sheet.words (word_in base a + 1) ≡ n)
      objects a n sheet has on (Some s) is = r.fits.objects a n sheet has (over_is (page_in base a) s sheet is on)
      objects a n sheet has on None none =
          let below = r.below a n has none in fits.objects a n sheet below.1 (sym below.0 ∙ on)

      references : (a n k : ℕ) (sheet : Sheet) → get new a ≡ Some n → get now (page_in base a) ≡ Some sheet
          → IsReferenceIn (map_at catalog sheet (word_in base a)) (tail_at sheet (word_in base a)) k → (o : Option Sheet) → get over (page_in base a) ≡ o
          → IsKnown new (slice_index sheet.words (word_in base a + 2 + k))
      references a n k sheet has on reference (Some s) is = r.fits.references a n k sheet has (over_is (page_in base a) s sheet is on) reference
      references a n k sheet has on reference None none =
          let below = r.below a n has none in
          let was : get images (page_in base a) ≡ Some sheet = sym below.0 ∙ on in
          known_kept old new (slice_index sheet.words (word_in base a + 2 + k)) (fits.references a n k sheet below.1 was reference)
          (λ m. r.words a n k m sheet has none was reference)

      roots : (slot : ℕ) (sheet : Sheet) → slot < 16 → get now 2 ≡ Some sheet → (o : Option Sheet) → get over 2 ≡ o
          → IsKnown new (slice_index sheet.words (2 + slot))
      roots slot sheet low on (Some s) is = r.fits.roots slot sheet low (over_is 2 s sheet is on)
      roots slot sheet low on None none =
          let was : get images 2 ≡ Some sheet = sym (r.root_page none) ∙ on in
          known_kept old new (slice_index sheet.words (2 + slot)) (fits.roots slot sheet low was) (λ m. r.slots slot m sheet low none was)

  -- off the pages of `over` each object is as it was
  pub object_stays : (a n : ℕ) → get new a ≡ Some n → get over (page_in base a) ≡ None → object_at new catalog base now a ≡ object_at old catalog base images a
  object_stays a n has none =
      let below = r.below a n has none in
      object_alike catalog base new images now a below.0
      ∙ object_same catalog base old new images a n fits below.1 (λ k m sheet on reference. r.words a n k m sheet has none on reference)

  pub roots_stay : get over 2 ≡ None → roots_in catalog base new now (get now 2) ≡ roots_in catalog base old images (get images 2)
  roots_stay none =
      ap (roots_in catalog base new now) (r.root_page none)
      ∙ roots_same catalog base old new images fits (λ slot m sheet low on. r.slots slot m sheet low none on)

  module _ (g s : Part) (e : Entry) (tells : Tells g s e) (shows : PartOf (shown catalog base old images) g)
      (part : PartOf (shown catalog base new over) s)
      (apart : (a n : ℕ) → get new a ≡ Some n → get over (page_in base a) ≡ None → get s.records n ≡ None)
      (rootless : get over 2 ≡ None → get (images_of e) 2 ≡ None) where
    kept : (n : ℕ) (x : Record) → get g.records n ≡ Some x → get s.records n ≡ None → get (with_part g e.left).records n ≡ Some x
    kept n x is unseen = get-with_part g e.left n ∙ or_part (get e.left.records n) (get g.records n) (λ y has. by y (tells.unchanged n y has)) ∙ is
      where
        by : (y : Record) → (get e.found.records n ≡ Some y) ⊎ (get s.records n ≡ Some y) → get g.records n ≡ Some y
        by y (inl found) = tells.found.records n y found
        by y (inr seen) = absurd (some_none (get s.records n) y seen unseen)

    records : (n : ℕ) (x : Record) → get (shown_records catalog base new now) n ≡ Some x → get (with_part g e.left).records n ≡ Some x
    records n x is = by (get over (page_in base from.0)) refl
      where
        from : (a : ℕ) × (get new a ≡ Some n) × (object_at new catalog base now a ≡ Some x)
        from = shown_from catalog base new now n x is

        by : (o : Option Sheet) → get over (page_in base from.0) ≡ o → get (with_part g e.left).records n ≡ Some x
        by (Some sheet) on =
            let same : get over (page_in base from.0) ≡ get now (page_in base from.0) = on ∙ sym (r.above (page_in base from.0) sheet on) in
            (part_of_with g e.left).records n x (tells.shows.records n x (part.records n x
            (shown_at catalog base new over from.0 n r.fits.one from.1 ∙ object_alike catalog base new now over from.0 same ∙ from.2)))
        by None none =
            let below = r.below from.0 n from.1 none in
            kept n x (shows.records n x (shown_at catalog base old images from.0 n fits.one below.1 ∙ sym (object_stays from.0 n from.1 none) ∙ from.2))
            (apart from.0 n from.1 none)

    roots : (names : List ℕ) → roots_in catalog base new now (get now 2) ≡ Some names → (with_part g e.left).roots ≡ Some names
    roots names is = by (get over 2) refl
      where
        by : (o : Option Sheet) → get over 2 ≡ o → (with_part g e.left).roots ≡ Some names
        by (Some sheet) on =
            let same : get over 2 ≡ get now 2 = on ∙ sym (r.above 2 sheet on) in
            (part_of_with g e.left).roots names (tells.shows.roots names (part.roots names (ap (roots_in catalog base new over) same ∙ is)))
        by None none =
            or_part e.left.roots g.roots (λ ns has. tells.found.roots ns (sym (tells.roots (rootless none)) ∙ has))
            ∙ shows.roots names (sym (roots_stay none) ∙ is)

    -- what the new images show is part of the graph after the entry
    pub shows_now : PartOf (shown catalog base new now) (with_part g e.left)
    shows_now = record { records = records; roots = roots }
