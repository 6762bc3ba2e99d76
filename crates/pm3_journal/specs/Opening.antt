-- When the bytes of a page file and of a journal open to a graph.
use Rattle.std.specs.Prelude.{ℕ, ◌≡◌, ◌⊎◌, ◌↔◌, ◌+◌, ◌*◌, ◌<◌, ◌≤◌, ◌==◌, if◌then◌else◌, true, List, [], ◌∷◌, ◌++◌, length, take, Option, Some, None, is_some, unwrap_or, Ok, slice_index}
use Rattle.std.specs.FinMap.{get}
use Rattle.pm3_types.specs.Fields.{Fields}
use Rattle.pm3_types.specs.Graph.{Part}
use Rattle.pm3_types.specs.Layout.{Sheet, is_start, page_in}
use Rattle.pm3_types.specs.PageForm.{IsReferenceIn, map_at, tail_at}
use Rattle.pm3_types.specs.PageLaws.{IsCatalog}
use Rattle.pm3_types.specs.PageOne.{catalog_page}
use Rattle.pm3_types.specs.Shown.{Book, Images, FitsImages, shown}
use Rattle.pm3_types.specs.Objects.{IsReachedAt}
use Rattle.pm3_page.specs.Head.{AreMarks, head_page}
use Rattle.pm3_page.specs.PageBytes.{page_read}
use Rattle.pm3_page.specs.declared.marks.Marks.{Marks}
use Rattle.pm3_journal.specs.Format.{PagePart, Image, JournalRecord}
use Rattle.pm3_journal.specs.FileHead.{page_count_of}
use Rattle.pm3_types.specs.Bytes.{piece}
use Rattle.pm3_journal.specs.Records.{records, Whole}

-- the image of a page in the parts of a record, or what it was before
abbrev pub image_in : ℕ → List PagePart → Option (List ℕ) → Option (List ℕ)
image_in page [] was = was
image_in page (Image number image ∷ parts) was = image_in page parts (if number == page then Some image else was)

-- the last image of a page in the records, or what it was before
abbrev pub last_image : ℕ → List JournalRecord → Option (List ℕ) → Option (List ℕ)
last_image page [] was = was
last_image page (r ∷ rs) was = last_image page rs (image_in page r.parts was)

-- the bytes of a page: its last image in the records, or what the file has
abbrev pub page_bytes : List ℕ → List JournalRecord → ℕ → List ℕ
page_bytes file list page = unwrap_or (last_image page list None) (piece (4096 * page) 4096 file)

-- the next name and the high page of a store: those of the last record, or those of page 0 where there is none
pub record AreAt (file : List ℕ) (list : List JournalRecord) (pages next_name high_page : ℕ) : Type 0 where
  pub head : list ≡ [] → (marks : Marks) × AreMarks marks × (piece 0 4096 file ≡ head_page marks)
      × (marks.pages ≡ pages) × (marks.next_name ≡ next_name) × (marks.high_page ≡ high_page)
  pub last : (front : List JournalRecord) (r : JournalRecord) → list ≡ front ++ r ∷ []
      → (r.next_name ≡ next_name) × (r.high_page ≡ high_page)

-- the images are those of the pages from 2 on whose bytes have the form
abbrev pub AreImagesOf : List Fields → ℕ → ℕ → List ℕ → List JournalRecord → Images → Type 0
AreImagesOf catalog base pages file list images = (page : ℕ) (sheet : Sheet)
    → get images page ≡ Some sheet ↔ ((2 ≤ page) × (page < pages)
    × (page_read catalog base pages page (page_bytes file list page) ≡ Ok sheet))

-- The images are whole as far as they are reached: page 2 and all pages of the records are among them, and the book names
-- what is reached from the roots, below the next name and the high page.
pub record AreReached (catalog : List Fields) (base : ℕ) (list : List JournalRecord) (images : Images)
    (book : Book) (next_name high_page : ℕ) : Type 0 where
  pub roots : is_some (get images 2) ≡ true
  pub recorded : (page : ℕ) → is_some (last_image page list None) ≡ true → is_some (get images page) ≡ true
  pub reached : (a : ℕ) → IsReachedAt catalog base images a → is_some (get book a) ≡ true
  pub only : (a n : ℕ) → get book a ≡ Some n → IsReachedAt catalog base images a
  pub fits : FitsImages catalog base book images
  pub names : (a n : ℕ) → get book a ≡ Some n → n < next_name
  pub pages : (a n : ℕ) → get book a ≡ Some n → page_in base a < high_page
  pub references : (a n s k : ℕ) (sheet : Sheet) → get book a ≡ Some n → get images (page_in base a) ≡ Some sheet → is_start sheet s ≡ true
      → IsReferenceIn (map_at catalog sheet s) (tail_at sheet s) k
      → (slice_index sheet.words (s + 2 + k) ≡ 0) ⊎ (page_in base (slice_index sheet.words (s + 2 + k)) < high_page)

-- The bytes of a page file and of a journal open to the graph g: what the objects show that are reached from the roots.
pub record OpenTo (base : ℕ) (file journal : List ℕ) (g : Part) : Type 0 where
  pub list : List JournalRecord
  pub catalog : List Fields
  pub images : Images
  pub book : Book
  pub next_name : ℕ
  pub high_page : ℕ
  pub records_are : records journal ≡ Whole list
  pub size : length file ≡ 4096 * page_count_of (take 32 journal)
  pub at : AreAt file list (page_count_of (take 32 journal)) next_name high_page
  pub is_catalog : IsCatalog catalog
  pub catalog_is : page_bytes file list 1 ≡ catalog_page catalog
  pub images_are : AreImagesOf catalog base (page_count_of (take 32 journal)) file list images
  pub reached : AreReached catalog base list images book next_name high_page
  pub graph : g ≡ shown catalog base book images
