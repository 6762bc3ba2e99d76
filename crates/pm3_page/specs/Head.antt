-- The bytes of page 0.
use Rattle.std.specs.Prelude.{ℕ, ◌^◌, ◌<◌, ◌≤◌, List, ◌++◌, codes}
use Rattle.std.specs.Int.{w32, w64, to_le_bytes}
use Rattle.pm3_page.specs.declared.marks.Marks.{Marks}
use Rattle.pm3_types.specs.PageOne.{padded}

-- What the file is, its version, the number of pages, the high page, four zeros, the next name and the next sequence
-- number.
abbrev pub head_bytes : Marks → List ℕ
head_bytes marks =
    codes "PM3PAGES" ++ (to_le_bytes w32 1 ++ (to_le_bytes w32 marks.pages ++ (to_le_bytes w32 marks.high_page ++ (to_le_bytes w32 0
    ++ (to_le_bytes w64 marks.next_name ++ to_le_bytes w64 marks.next_seq)))))

-- page 0: the head, and zeros to the end
abbrev pub head_page : Marks → List ℕ
head_page marks = padded 4096 (head_bytes marks)

-- what a store's marks can be
pub record AreMarks (marks : Marks) : Type 0 where
  pub pages : (16 ≤ marks.pages) × (marks.pages ≤ 16384)
  pub high_page : (3 ≤ marks.high_page) × (marks.high_page ≤ marks.pages)
  pub next_name : (1 ≤ marks.next_name) × (marks.next_name ≤ 2 ^ 62)
  pub next_seq : (1 ≤ marks.next_seq) × (marks.next_seq < 2 ^ 64)
