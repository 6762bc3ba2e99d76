-- The page file of a store without objects.
use Rattle.std.specs.Prelude.{ℕ, ◌-◌, ◌*◌, List, ◌++◌}
use Rattle.std.specs.Int.{w32, to_le_bytes}
use Rattle.pm3_types.specs.Fields.{Fields}
use Rattle.pm3_types.specs.PageOne.{catalog_page, padded, zeros}
use Rattle.pm3_page.specs.declared.marks.Marks.{Marks}
use Rattle.pm3_page.specs.Head.{head_page}

-- nothing was given out yet
abbrev pub first_marks : ℕ → Marks
first_marks pages = record { pages = pages; high_page = 3; next_name = 1; next_seq = 1 }

-- the first word of page 2: its number, and one above its last word in use, behind the sixteen roots
abbrev pub roots_bytes : List ℕ
roots_bytes = to_le_bytes w32 2 ++ to_le_bytes w32 18

-- the head, the catalog, the roots, all of them nil, and free pages
abbrev pub page_file : ℕ → List Fields → List ℕ
page_file pages catalog =
    head_page (first_marks pages) ++ catalog_page catalog ++ padded 4096 roots_bytes ++ zeros (4096 * (pages - 3))
