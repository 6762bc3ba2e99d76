-- A page file that its journal is ahead of: what may be written of the records, and what the two files then open to.
use Rattle.std.specs.Prelude.{◌≡◌, ◌⊎◌, ℕ, ◌<◌, ◌≤◌, List, [], ◌∷◌, ◌++◌, length, take, Some, None}
use Rattle.pm3_types.specs.Graph.{Part}
use Rattle.pm3_page.specs.Head.{AreMarks, head_page}
use Rattle.pm3_page.specs.declared.marks.Marks.{Marks}
use Rattle.pm3_pagefile.specs.PageBytes.{Given, ChangesOnly, IsReplaced}
use Rattle.pm3_journal.specs.Format.{JournalRecord}
use Rattle.pm3_journal.specs.FileHead.{page_count_of}
use Rattle.pm3_journal.specs.Opening.{OpenTo, last_image}
use Rattle.pm3_journal.specs.Records.{records, Whole}

-- page 0 is given the marks, and each page behind it its last image in the records, if they have one
pub record AreLast (list : List JournalRecord) (marks : Marks) (given : Given) : Type 0 where
  pub head : given 0 ≡ Some (head_page marks)
  pub last : (page : ℕ) → 1 ≤ page → given page ≡ last_image page list None

-- these are marks of a store of so many pages behind these records
pub record AreLeft (list : List JournalRecord) (pages : ℕ) (marks : Marks) : Type 0 where
  pub bounds : AreMarks marks
  pub page_count : marks.pages ≡ pages
  pub last : (front : List JournalRecord) (r : JournalRecord) → list ≡ front ++ r ∷ []
      → (marks.next_name ≡ r.next_name) × (marks.high_page ≡ r.high_page)

-- While the records stand, a page file opens as before whose pages of the records, and page 0, have any bytes.
abbrev pub TornOpens : Type 0
TornOpens = (base : ℕ) (file torn journal : List ℕ) (g : Part) (list : List JournalRecord) (marks : Marks) (given : Given)
    → OpenTo base file journal g → records journal ≡ Whole list → 0 < length list
    → AreLast list marks given → ChangesOnly given file torn → OpenTo base torn journal g

-- Once all last images stand in the page file, and the marks, it opens as before, with the records and without them.
abbrev pub WrittenOpens : Type 0
WrittenOpens = (base : ℕ) (file written journal closed : List ℕ) (g : Part) (list : List JournalRecord) (marks : Marks) (given : Given)
    → OpenTo base file journal g → records journal ≡ Whole list → 0 < length list
    → AreLast list marks given → AreLeft list (page_count_of (take 32 journal)) marks → IsReplaced given file written
    → page_count_of (take 32 closed) ≡ page_count_of (take 32 journal)
    → (records closed ≡ Whole list) ⊎ (records closed ≡ Whole []) → OpenTo base written closed g
