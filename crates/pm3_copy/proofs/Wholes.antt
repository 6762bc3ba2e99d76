-- Where the objects of images lie, and that those of sound images lie whole.
use Rattle.std.proofs.Common.{◌≡◌, ℕ, ◌+◌, ◌*◌, ◌<◌, ◌≤◌, true, not, List, Option, None, Some, is_some, refl, sym, ap, subst, ◌∙◌, arith}
use Rattle.std.proofs.lemmas.Bool.{and_parts, and_from, false≢true}
use Rattle.std.specs.Prelude.{slice_index}
use Rattle.std.specs.FinMap as map
use Rattle.pm3_types.specs.Fields.{Fields}
use Rattle.pm3_types.specs.Layout.{Sheet, PageImage, is_start, is_unmoved, is_forwarded, is_address, page_in, word_in, begins_at}
use Rattle.pm3_types.specs.Objects.{is_object_at, is_unmoved_on}
use Rattle.pm3_types.specs.PageForm.{IsSound, is_memory_reference}
use Rattle.pm3_types.proofs.Addressing as addressing
use Rattle.pm3_types.proofs.FormedObjects.{address_of, page_is, start_of, begins, whole_start}
use Rattle.pm3_page.specs.PageMap.{Images, IsAtHome}
use Rattle.pm3_page.specs.PageSheets.{AreSoundPages, sheet_in, sheets_of}
use Rattle.pm3_page.proofs.SheetsOf.{get-sheets_of}
use Rattle.pm3_types.specs.Whole.{IsWhole}
use Rattle.pm3_copy.specs.Whole.{IsObjectOf}

pub some_of : {A : Type 0} (o : Option A) → is_some o ≡ true → (x : A) × (o ≡ Some x)
some_of None is = absurd (false≢true is)
some_of (Some x) is = (x, refl)

pub same_some : {A : Type 0} (x y : A) → Some x ≡ Some y → x ≡ y
same_some x y e = cc

pub none_some : {A : Type 0} (x : A) (P : Type 0) → ◌≡◌ {A = Option A} None (Some x) → P
none_some x P e = cc

-- the addresses of a page
pub above_page : (base a : ℕ) → is_address base a ≡ true → base + 4096 * page_in base a ≤ a
unfolding page_in
above_page base a is = (let low = addressing.above_base base a is in omega arith)

pub below_page : (base a : ℕ) → is_address base a ≡ true → a < base + 4096 * (page_in base a + 1)
unfolding page_in
below_page base a is = (let low = addressing.above_base base a is in omega arith)

-- an object of a sound image lies whole
pub whole_at : (catalog : List Fields) (base pages : ℕ) (image : PageImage) (a : ℕ) → IsSound catalog base pages image → begins_at base image a ≡ true → IsWhole catalog image.sheet (word_in base a)
whole_at catalog base pages image a form is = whole_start catalog (is_memory_reference base pages) image.page image.sheet (word_in base a) form (start_of base image a is)

-- the sheet of an image that is there
pub sheet_on : (images : Images) (p : ℕ) (image : PageImage) → map.get images p ≡ Some image → map.get (sheets_of images) p ≡ Some image.sheet
sheet_on images p image on = get-sheets_of images p ∙ ap sheet_in on

image_by : (o : Option PageImage) (sheet : Sheet) → sheet_in o ≡ Some sheet → (image : PageImage) × (o ≡ Some image) × (image.sheet ≡ sheet)
image_by None sheet is = none_some sheet _ is
image_by (Some image) sheet is = (image, refl, same_some image.sheet sheet is)

pub image_on : (images : Images) (p : ℕ) (sheet : Sheet) → map.get (sheets_of images) p ≡ Some sheet → (image : PageImage) × (map.get images p ≡ Some image) × (image.sheet ≡ sheet)
image_on images p sheet on = image_by (map.get images p) sheet (sym (get-sheets_of images p) ∙ on)

-- an object of sound images, in the words of their sheets
pub object_here : (catalog : List Fields) (base pages : ℕ) (images : Images) (a : ℕ) → AreSoundPages catalog base pages images → IsObjectOf base images a → is_object_at base (sheets_of images) a ≡ true
object_here catalog base pages images a sound object =
    let whole = whole_at catalog base pages object.image a (sound.form (page_in base a) object.image object.on) object.begins in
    let unmoved : is_unmoved object.image.sheet (word_in base a) ≡ true =
    and_from (is_start object.image.sheet (word_in base a)) (not (is_forwarded (slice_index object.image.sheet.words (word_in base a)))) whole.begins (ap not whole.unmoved) in
    and_from (is_address base a) (is_unmoved_on (map.get (sheets_of images) (page_in base a)) (word_in base a)) (address_of base object.image a object.begins)
    (ap (λ (o : Option Sheet). is_unmoved_on o (word_in base a)) (sheet_on images (page_in base a) object.image object.on) ∙ unmoved)

pub object_there : (catalog : List Fields) (base pages : ℕ) (images : Images) (a : ℕ) → AreSoundPages catalog base pages images → is_object_at base (sheets_of images) a ≡ true → IsObjectOf base images a
object_there catalog base pages images a sound is = by (map.get images (page_in base a)) refl
  where
    parts : (is_address base a ≡ true) × (is_unmoved_on (map.get (sheets_of images) (page_in base a)) (word_in base a) ≡ true)
    parts = and_parts (is_address base a) (is_unmoved_on (map.get (sheets_of images) (page_in base a)) (word_in base a)) is

    by : (o : Option PageImage) → map.get images (page_in base a) ≡ o → IsObjectOf base images a
    by None none = absurd (false≢true (sym (ap (λ (o : Option Sheet). is_unmoved_on o (word_in base a)) (get-sheets_of images (page_in base a) ∙ ap sheet_in none)) ∙ parts.1))
    by (Some image) on =
        let unmoved : is_unmoved image.sheet (word_in base a) ≡ true = sym (ap (λ (o : Option Sheet). is_unmoved_on o (word_in base a)) (sheet_on images (page_in base a) image on)) ∙ parts.1 in
        record {
          image = image;
          on = on;
          begins = begins base image a parts.0 (sym (sound.home (page_in base a) image on))
              (and_parts (is_start image.sheet (word_in base a)) (not (is_forwarded (slice_index image.sheet.words (word_in base a)))) unmoved).0;
        }

-- an object of an image that stands under its own page
pub object_of : (base : ℕ) (images : Images) (p : ℕ) (image : PageImage) (a : ℕ) → IsAtHome images → map.get images p ≡ Some image → begins_at base image a ≡ true → IsObjectOf base images a
object_of base images p image a home on is =
    record { image = image; on = ap (map.get images) (page_is base image a is ∙ home p image on) ∙ on; begins = is }

-- the object of a page begins in that page's image
pub object_begins : (base : ℕ) (images : Images) (p : ℕ) (image : PageImage) (a : ℕ) → map.get images p ≡ Some image → IsObjectOf base images a → page_in base a ≡ p → begins_at base image a ≡ true
object_begins base images p image a on object same =
    let e : object.image ≡ image = same_some object.image image (sym object.on ∙ ap (map.get images) same ∙ on) in
    subst (λ i. begins_at base i a ≡ true) e object.begins
