-- What a write of images leaves, and when.
use Rattle.std.specs.Prelude.{◌≡◌, ℕ, ◌<◌, ◌≤◌, ◌==◌, cond, List, Some, None, option_map}
use Rattle.std.specs.FinMap as map
use Rattle.pm3_types.specs.Fields.{Fields}
use Rattle.pm3_types.specs.Layout.{PageImage}
use Rattle.pm3_types.specs.PageForm.{IsSound}
use Rattle.pm3_page.specs.PageBytes.{file_bytes}
use Rattle.pm3_page.specs.PageMap.{Images}
use Rattle.pm3_page.specs.declared.marks.Marks.{Marks}
use Rattle.pm3_page.specs.Head.{head_page}
use Rattle.pm3_disk.specs.Content.{IfTold}
use Rattle.pm3_disk.specs.Moments.{After}
use Rattle.pm3_disk.specs.declared.outside.Disk.{Ghosts}
use Rattle.pm3_pagefile.specs.PageBytes.{Given, ChangesOnly, IsReplaced}

-- images of pages from 2 to below the number of pages, each in its form and with nothing forwarded
pub record AreWritable (catalog : List Fields) (base pages : ℕ) (images : Images) : Type 0 where
  pub within : (page : ℕ) (image : PageImage) → map.get images page ≡ Some image → (2 ≤ page) × (page < pages)
  pub sound : (page : ℕ) (image : PageImage) → map.get images page ≡ Some image → IsSound catalog base 16384 image

-- the bytes of one page
abbrev pub only : ℕ → List ℕ → Given
only page bytes p = cond (p == page) (Some bytes) None

-- the bytes of the pages that have images
abbrev pub images_given : List Fields → ℕ → Images → Given
images_given catalog base images page = option_map (file_bytes catalog base) (map.get images page)

-- and those of page 0
abbrev pub head_given : Marks → Given → Given
head_given marks given page = cond (page == 0) (Some (head_page marks)) (given page)

-- both: what a write of these marks and images puts into the file
abbrev pub store_given : Marks → List Fields → ℕ → Images → Given
store_given marks catalog base images = head_given marks (images_given catalog base images)

-- Up to a moment, the turn, a crash leaves what comes by a change of the given pages alone from what one could leave
-- before. Where page 0 is written after it, all that was given had been written by then.
pub record HeadComesLast {D R : Type 0} (g : Ghosts D R) (old new : D) (given : Given) : Type 0 where
  pub turn : ℕ
  pub until : (t : ℕ) (left : List ℕ) → g.moment old < t → t ≤ turn → g.may_leave new t left → After (g.may_leave old (g.moment old)) (ChangesOnly given) left
  pub stand : turn < g.moment new → IfTold (g.content old) (λ bytes. (left : List ℕ) × g.may_leave new turn left × IsReplaced given bytes left)
