-- Laws of the bytes of page 0.
use Rattle.std.specs.Prelude.{◌≡◌, ◌≢◌, ℕ, ◌+◌, nat_lt, if◌then◌else◌, List, take, None, Some}
use Rattle.pm3_page.specs.declared.marks.Marks.{Marks}
use Rattle.pm3_page.specs.Head.{AreMarks, head_page}
use Rattle.pm3_pagefile.specs.HeadForm.{head_departure}

-- the page of marks has the form
abbrev pub HeadHasForm : Type 0
HeadHasForm = (marks : Marks) → AreMarks marks → head_departure (head_page marks) ≡ None

-- a page is that of one set of marks
abbrev pub OneHead : Type 0
OneHead = (marks others : Marks) → AreMarks marks → AreMarks others → head_page marks ≡ head_page others → marks ≡ others

-- the byte behind the field of page 0 that begins at this byte
abbrev pub behind_field : ℕ → ℕ
behind_field at = if nat_lt at 8 then 8 else (if nat_lt at 24 then at + 4 else (if nat_lt at 40 then at + 8 else 4096))

-- Where a field is named as the first that departs, nothing behind it can mend the page: no marks' page has the same bytes
-- up to that field's end.
abbrev pub HeadDepartureStands : Type 0
HeadDepartureStands = (bytes : List ℕ) (at : ℕ) (marks : Marks) → head_departure bytes ≡ Some at → AreMarks marks
    → take (behind_field at) (head_page marks) ≢ take (behind_field at) bytes
