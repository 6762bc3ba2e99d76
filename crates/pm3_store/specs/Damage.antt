-- Why the bytes of two files aren't those of a store.
use Rattle.std.specs.Prelude.{◌≡◌, ◌⊎◌, ℕ, ◌+◌, ◌*◌, ◌<◌, ◌==◌, min, if◌then◌else◌, List, [], ◌∷◌, length, take, Option, None, Some, option_map, Ok, Err}
use Rattle.std.specs.Option.{option_or}
use Rattle.pm3_types.specs.Fields.{Fields}
use Rattle.pm3_types.specs.Layout.{Sheet}
use Rattle.pm3_types.specs.PageOne.{catalog_page}
use Rattle.pm3_page.specs.PageBytes.{page_read}
use Rattle.pm3_pagefile.specs.CatalogBytes.{page_departure}
use Rattle.pm3_pagefile.specs.HeadForm.{head_departure_in}
use Rattle.pm3_pagefile.specs.PageBytes.{page_at}
use Rattle.pm3_journal.specs.FileHead.{page_count_of}
use Rattle.pm3_journal.specs.Format.{JournalRecord}
use Rattle.pm3_journal.specs.Offsets.{last_offset}
use Rattle.pm3_journal.specs.Opening.{last_image}
use Rattle.pm3_journal.specs.Records.{records, Damaged, Whole}
use Rattle.pm3_store.specs.declared.causes.OpenCause.{OpenCause}
use Rattle.pm3_store.specs.declared.causes.OpenCause.TheVariants.{JournalFault, JournalDamaged, PageFault, PageDamaged, Memory}

-- a page file of another length is damaged at the smaller of the two lengths
abbrev pub length_departure : ℕ → List ℕ → Option ℕ
length_departure pages file = if length file == 4096 * pages then None else Some (min (length file) (4096 * pages))

-- page 0 counts only where the journal has no record, and gives the journal's page count
abbrev pub head_departure_below : {A : Type 0} → ℕ → List A → List ℕ → Option ℕ
head_departure_below pages [] file = head_departure_in pages pages (page_at 0 file)
head_departure_below pages (r ∷ rs) file = None

-- where page 1 departs from the form of a catalog
abbrev pub catalog_departure : List ℕ → Option ℕ
catalog_departure file = option_map (λ at. 4096 + at) (page_departure (page_at 1 file))

-- the first byte of the page file that departs from the form, beside a journal with this page count and these records
abbrev pub page_file_departure : {A : Type 0} → ℕ → List A → List ℕ → Option ℕ
page_file_departure pages list file =
    option_or (length_departure pages file) (option_or (head_departure_below pages list file) (catalog_departure file))

-- so the page file departs beside the journal with these bytes
abbrev pub PageFileDeparts : List ℕ → List ℕ → Option ℕ → Type 0
PageFileDeparts file journal departure = (list : List JournalRecord) × (records journal ≡ Whole list)
    × (page_file_departure (page_count_of (take 32 journal)) list file ≡ departure)

-- the last image of a page in the records departs from the form, and that of no page before it does
pub record IsFirstDamaged (catalog : List Fields) (base pages : ℕ) (list : List JournalRecord) (offset : ℕ) : Type 0 where
  pub page : ℕ
  pub bytes : List ℕ
  pub word : ℕ
  pub place : ℕ
  pub last : last_image page list None ≡ Some bytes
  pub at : last_offset page 32 list None ≡ Some place
  pub read : page_read catalog base pages page bytes ≡ Err word
  pub is : offset ≡ place + 8 * word
  pub earlier : (q : ℕ) (own : List ℕ) → q < page → last_image q list None ≡ Some own
      → (sheet : Sheet) × (page_read catalog base pages q own ≡ Ok sheet)

-- the page file has its form, and the journal is damaged in an image, under the catalog of page 1
pub record ImageDeparts (base : ℕ) (file journal : List ℕ) (offset : ℕ) : Type 0 where
  pub list : List JournalRecord
  pub catalog : List Fields
  pub records_are : records journal ≡ Whole list
  pub sound : page_file_departure (page_count_of (take 32 journal)) list file ≡ None
  pub catalog_is : page_at 1 file ≡ catalog_page catalog
  pub first : IsFirstDamaged catalog base (page_count_of (take 32 journal)) list offset

-- the bytes of the two files have this damage, if it is one
abbrev pub IsCauseIn : ℕ → List ℕ → List ℕ → OpenCause → Type 0
IsCauseIn base file journal JournalFault = Unit {0}
IsCauseIn base file journal (JournalDamaged offset) = (records journal ≡ Damaged offset) ⊎ ImageDeparts base file journal offset
IsCauseIn base file journal PageFault = Unit {0}
IsCauseIn base file journal (PageDamaged offset) = PageFileDeparts file journal (Some offset)
IsCauseIn base file journal Memory = Unit {0}

-- the cause that a reading of the page file may have, where this is what departs
abbrev pub IsPageCause : Option ℕ → OpenCause → Type 0
IsPageCause departure JournalFault = ⊥
IsPageCause departure (JournalDamaged offset) = ⊥
IsPageCause departure PageFault = Unit {0}
IsPageCause departure (PageDamaged offset) = departure ≡ Some offset
IsPageCause departure Memory = Unit {0}
