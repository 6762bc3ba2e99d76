-- Images of a journal that are made into images in memory, one by one.
use Rattle.std.proofs.Common.{◌≡◌, ◌≢◌, ◌⊎◌, inl, inr, ◌+◌, ◌<◌, ◌≤◌, ℕ, zero, suc, Bool, true, false, eqb, if◌then◌else◌, List, [], ◌∷◌, length, slice_index_or, ◌*◌, Option, Some, None, is_some, Ok, Err, refl, sym, ◌∙◌, ap, subst, arith}
use Rattle.std.specs.Ordering.{nat_cmp}
use Rattle.std.specs.FinMap.{get, insert, empty, get-empty}
use Rattle.std.proofs.lemmas.Bool.{cases_eq, cases_lt, eqb-true, eq-eqb}
use Rattle.pm3_types.specs.Fields.{Fields}
use Rattle.pm3_types.specs.Layout.{PageImage}
use Rattle.pm3_types.specs.PageForm.{IsSound}
use Rattle.pm3_page.specs.PageBytes.{file_bytes, page_read}
use Rattle.pm3_page.specs.PageMap.{Images}
use Rattle.pm3_journal.specs.Opened.{IsHeldFrom}
use Rattle.pm3_journal.specs.Pages.{image_of, IsRising, page_at}
use Rattle.pm3_store.specs.Recovering.{ArePictures, bytes_at, IsFirstBad}
use Rattle.pm3_store.specs.declared.causes.OpenCause.{OpenCause}
use Rattle.pm3_store.specs.declared.causes.OpenCause.TheVariants.{JournalDamaged, Memory}
use Rattle.pm3_store.proofs.Moving.{get_other, get_same}
use Rattle.pm3_store.proofs.Recording.{none_or_some}

-- numbers that rise from 2 on are beyond their indexes
pub pages_rise : (items : List (ℕ × List ℕ)) → IsRising items → ((i : ℕ) → i < length items → 2 ≤ page_at items i) → (i : ℕ) → i < length items → i + 2 ≤ page_at items i
pages_rise items rising above zero low = above zero low
pages_rise items rising above (suc i) low =
    let before = pages_rise items rising above i (omega (arith, low)) in
    let more = rising i (suc i) (omega arith) low in
    omega (arith, before, more)

chosen : (b : Bool) (x bytes : List ℕ) (rest : Option (List ℕ)) → (if b then Some x else rest) ≡ Some bytes → (b ≡ true) × (x ≡ bytes) ⊎ ((b ≡ false) × (rest ≡ Some bytes))
chosen true x bytes rest is = inl (refl, cc is)
chosen false x bytes rest is = inr (refl, is)

abbrev IsAtIndex : ℕ → List (ℕ × List ℕ) → List ℕ → Type 0
IsAtIndex page items bytes = (i : ℕ) × (i < length items) × (page_at items i ≡ page) × (bytes_at items i ≡ bytes)

-- the image of a page stands at some index
pub image_index : (page : ℕ) (items : List (ℕ × List ℕ)) (bytes : List ℕ) → image_of page items ≡ Some bytes → IsAtIndex page items bytes
image_index page [] bytes is = absurd (cc is)
image_index page (item ∷ items) bytes is = elim (chosen (eqb item.0 page) item.1 bytes (image_of page items) is) [
  | inl here ↦ (0, omega arith, eqb-true item.0 page here.0, here.1)
  | inr later ↦ (let more = image_index page items bytes later.1 in (suc more.0, omega (arith, more.1), more.2, more.3))
]

taken : (b : Bool) (x : List ℕ) (rest : Option (List ℕ)) → (b ≡ false → is_some rest ≡ true) → is_some (if b then Some x else rest) ≡ true
taken true x rest more = refl
taken false x rest more = more refl

-- a page at an index has an image
pub index_image : (items : List (ℕ × List ℕ)) (i : ℕ) → i < length items → is_some (image_of (page_at items i) items) ≡ true
index_image [] i low = absurd (omega (arith, low))
index_image (item ∷ items) zero low = taken (eqb item.0 item.0) item.1 (image_of item.0 items) (λ never. absurd (never_other item.0 never))
  where
    never_other : (n : ℕ) → eqb n n ≡ false → ⊥
    never_other n is = absurd (cc (sym is ∙ eq-eqb n n refl))
index_image (item ∷ items) (suc i) low =
    taken (eqb item.0 (page_at items i)) item.1 (image_of (page_at items i) items) (λ _. index_image items i (omega (arith, low)))

pub pictures_none : (catalog : List Fields) (base pages : ℕ) (items : List (ℕ × List ℕ)) (images : Images) → images ≡ empty → ArePictures catalog base pages items 0 images
pictures_none catalog base pages items images none = record {
  each = λ i low. absurd (omega (arith, low));
  only = λ page image is. absurd (cc (sym (ap (λ (m : Images). get m page) none ∙ get-empty nat_cmp page) ∙ is));
}

module _ (catalog : List Fields) (base pages : ℕ) (items : List (ℕ × List ℕ)) (i : ℕ) (images : Images) (rising : IsRising items) (low : i < length items)
    (so_far : ArePictures catalog base pages items i images) where
  apart : (k : ℕ) → k < i → page_at items k ≢ page_at items i
  apart k before same = let less = rising k i before low in omega (arith, less, same)

  -- the next page has no image yet
  pub picture_absent : (page : ℕ) → page ≡ page_at items i → get images page ≡ None
  picture_absent page is = elim (none_or_some (get images page)) [
    | inl none ↦ none
    | inr some ↦ (let from = so_far.only page some.0 some.1 in absurd (apart from.0 from.1 (from.2 ∙ is)))
  ]

  module _ (image : PageImage) (home : image.page ≡ page_at items i) (read : page_read catalog base pages (page_at items i) (bytes_at items i) ≡ Ok image.sheet)
      (same : file_bytes catalog base image ≡ bytes_at items i) (sound : IsSound catalog base pages image) (now : Images) (put : now ≡ insert images image.page image) where
    own : image ≡ record { page = page_at items i; sheet = image.sheet }
    own = λ t. record { page = home t; sheet = image.sheet }

    here : IsHeldFrom catalog base pages (page_at items i) now (bytes_at items i)
    here = record {
      sheet = image.sheet;
      held = ap (λ (m : Images). get m (page_at items i)) put ∙ get_same images image.page image (page_at items i) (sym home) ∙ ap Some own;
      read = read;
      written = ap (file_bytes catalog base) (sym own) ∙ same;
    }

    kept : (k : ℕ) → k < i → IsHeldFrom catalog base pages (page_at items k) now (bytes_at items k)
    kept k before =
        let was = so_far.each k before in
        record {
          sheet = was.sheet;
          held = ap (λ (m : Images). get m (page_at items k)) put ∙ get_other images image.page image (page_at items k) (λ e. apart k before (e ∙ home)) ∙ was.held;
          read = was.read;
          written = was.written;
        }

    pub picture_more : ArePictures catalog base pages items (i + 1) now
    picture_more = record {
      each = λ k below. elim (cases_lt k i) [
        | inl before ↦ kept k before
        | inr behind ↦ (let same_index : k ≡ i = omega (arith, below, behind) in
            subst (λ (n : ℕ). IsHeldFrom catalog base pages (page_at items n) now (bytes_at items n)) (sym same_index) here)
      ];
      only = λ page other is. elim (cases_eq page image.page) [
        | inl own_page ↦ (let same_image : image ≡ other = cc (sym (ap (λ (m : Images). get m page) put ∙ get_same images image.page image page own_page) ∙ is) in
            (i, omega arith, sym home ∙ sym own_page, ap (λ (x : PageImage). x.page) (sym same_image) ∙ sym own_page, subst (IsSound catalog base pages) same_image sound))
        | inr others ↦ (let from = so_far.only page other (sym (ap (λ (m : Images). get m page) put ∙ get_other images image.page image page others) ∙ is) in
            (from.0, omega (arith, from.1), from.2, from.3, from.4))
      ];
    }

pub pictures_as : (catalog : List Fields) (base pages pages_now : ℕ) (items items_now : List (ℕ × List ℕ)) (count : ℕ) (images : Images) → pages_now ≡ pages → items_now ≡ items
    → ArePictures catalog base pages_now items_now count images → ArePictures catalog base pages items count images
pictures_as catalog base pages pages_now items items_now count images same_pages same_items pictures =
    subst (λ (n : ℕ). ArePictures catalog base n items count images) same_pages
    (subst (λ (l : List (ℕ × List ℕ)). ArePictures catalog base pages_now l count images) same_items pictures)

pub pictures_whole : (catalog : List Fields) (base pages : ℕ) (items : List (ℕ × List ℕ)) (count : ℕ) (images : Images) → count ≡ length items → ArePictures catalog base pages items count images
    → ArePictures catalog base pages items (length items) images
pictures_whole catalog base pages items count images same pictures = subst (λ (n : ℕ). ArePictures catalog base pages items n images) same pictures

-- the first image that departs, behind those that were made
pub first_bad : (catalog : List Fields) (base pages : ℕ) (items : List (ℕ × List ℕ)) (offsets : List (Option ℕ)) (i : ℕ) (images : Images) (cause : OpenCause) → IsRising items → i < length items
    → ArePictures catalog base pages items i images
    → (cause ≡ Memory) ⊎ ((word : ℕ) × (place : ℕ) × (page_read catalog base pages (page_at items i) (bytes_at items i) ≡ Err word) × (slice_index_or offsets (page_at items i) None ≡ Some place)
    × (cause ≡ JournalDamaged (place + 8 * word)))
    → (cause ≡ Memory) ⊎ IsFirstBad catalog base pages items offsets cause
first_bad catalog base pages items offsets i images cause rising low pictures either = elim either [
  | inl is ↦ inl is
  | inr bad ↦ inr (record {
    rising = rising;
    index = i;
    word = bad.0;
    place = bad.1;
    low = low;
    read = bad.2;
    at = bad.3;
    is = bad.4;
    earlier = λ k below. ((pictures.each k below).sheet, (pictures.each k below).read);
  })
]

pub pictures_from : (catalog : List Fields) (base pages pages_now : ℕ) (items items_now : List (ℕ × List ℕ)) (images : Images) → pages_now ≡ pages → items_now ≡ items
    → ArePictures catalog base pages_now items_now (length items_now) images → ArePictures catalog base pages items (length items) images
pictures_from catalog base pages pages_now items items_now images same_pages same_items pictures =
    subst (λ (n : ℕ). ArePictures catalog base n items (length items) images) same_pages
    (subst (λ (l : List (ℕ × List ℕ)). ArePictures catalog base pages_now l (length l) images) same_items pictures)
