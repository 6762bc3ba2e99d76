-- What a page of a file reads as, also where the file ends within it.
use Rattle.std.specs.Prelude.{◌≡◌, ℕ, ◌/◌, min, nat_lt, cond, List, length, Result, Ok, Err}
use Rattle.pm3_types.specs.Fields.{Fields}
use Rattle.pm3_types.specs.Layout.{PageImage}
use Rattle.pm3_types.specs.PageOne.{padded}
use Rattle.pm3_page.specs.PageBytes.{page_read}
use Rattle.pm3_page.specs.Scan.{Read}
use Rattle.pm3_pagefile.specs.declared.faults.LoadFault.{LoadFault}
use Rattle.pm3_pagefile.specs.declared.faults.LoadFault.TheVariants.{PageFault, Damaged, Memory}

-- the first word that departs in what is there of a page, or the first that isn't whole
abbrev pub part_word : Read → ℕ → ℕ
part_word (Ok sheet) whole = whole
part_word (Err word) whole = min word whole

-- the sheet of a page with these bytes, or the first word at which it departs from the form
abbrev pub read_of : List Fields → ℕ → ℕ → ℕ → List ℕ → Read
read_of catalog base pages page bytes =
    cond (nat_lt (length bytes) 4096) (Err (part_word (page_read catalog base pages page (padded 4096 bytes)) (length bytes / 8)))
    (page_read catalog base pages page bytes)

-- the page was read as this image, or the fault names the first word that departs
abbrev pub IsLoaded : ℕ → Read → Result PageImage LoadFault → Type 0
IsLoaded page read (Ok image) = (image.page ≡ page) × (read ≡ Ok image.sheet)
IsLoaded page read (Err PageFault) = Unit {0}
IsLoaded page read (Err (Damaged p word)) = (p ≡ page) × (read ≡ Err word)
IsLoaded page read (Err Memory) = Unit {0}
