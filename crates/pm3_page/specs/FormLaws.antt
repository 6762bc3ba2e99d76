-- What the reading of pages word by word means: the form of pages as a whole.
use Rattle.std.specs.Prelude.{◌≡◌, ◌≢◌, ◌+◌, ◌≤◌, ℕ, List, Bool, true, length, take, Ok, Err}
use Rattle.pm3_types.specs.Fields.{Fields}
use Rattle.pm3_types.specs.Bytes.{is_zero}
use Rattle.pm3_types.specs.Layout.{Sheet, PageImage}
use Rattle.pm3_types.specs.PageForm.{HasForm, IsSound, is_file_reference}
use Rattle.pm3_page.specs.PageBytes.{file_words}
use Rattle.pm3_page.specs.References.{from_file}
use Rattle.pm3_page.specs.Scan.{pass}

-- what is read without a fault has the form, in the file and as an image
abbrev pub ReadHasForm : Type 0
ReadHasForm = (catalog : List Fields) (base pages page : ℕ) (words : List ℕ) (sheet : Sheet) → length words ≡ 512
    → pass catalog (from_file base pages) page words ≡ Ok sheet
    → HasForm catalog (is_file_reference pages) page (record { words = words; starts = sheet.starts })
    × IsSound catalog base pages (record { page = page; sheet = sheet })

-- a page of a file that has the form is read without a fault
abbrev pub FormIsRead : Type 0
FormIsRead = (catalog : List Fields) (base pages page : ℕ) (words : List ℕ) (starts : List Bool)
    → HasForm catalog (is_file_reference pages) page (record { words = words; starts = starts })
    → (made : List ℕ) × (pass catalog (from_file base pages) page words ≡ Ok (record { words = made; starts = starts }))

-- Where a word is named as a fault, nothing behind it can mend the page: no page with the same words up to and with that one
-- has the form, but for a page of zeros, which is free.
abbrev pub FaultStands : Type 0
FaultStands = (catalog : List Fields) (base pages page i : ℕ) (words others : List ℕ) (starts : List Bool) → length words ≡ 512
    → pass catalog (from_file base pages) page words ≡ Err i
    → take (i + 1) others ≡ take (i + 1) words
    → HasForm catalog (is_file_reference pages) page (record { words = others; starts = starts })
    → (page ≢ 2) × (is_zero others ≡ true)

-- to write what was read gives the same words
abbrev pub WritesWhatWasRead : Type 0
WritesWhatWasRead = (catalog : List Fields) (base pages page : ℕ) (words : List ℕ) (sheet : Sheet) → pages ≤ 16384 → length words ≡ 512
    → pass catalog (from_file base pages) page words ≡ Ok sheet
    → file_words catalog base (record { page = page; sheet = sheet }) ≡ words

-- to read what was written gives the same image
abbrev pub ReadsWhatWasWritten : Type 0
ReadsWhatWasWritten = (catalog : List Fields) (base pages : ℕ) (image : PageImage) → pages ≤ 16384 → IsSound catalog base pages image
    → pass catalog (from_file base pages) image.page (file_words catalog base image) ≡ Ok image.sheet
