-- Images parted by a test of their pages, and what a checkpoint writes.
use Rattle.std.specs.Prelude.{ℕ, ◌≡◌, ◌+◌, ◌==◌, Bool, true, false, cond, List, Some, None, option_map}
use Rattle.std.specs.FinMap.{get, insert, remove}
use Rattle.pm3_types.specs.Fields.{Fields}
use Rattle.pm3_types.specs.Layout.{PageImage}
use Rattle.pm3_page.specs.Head.{head_page}
use Rattle.pm3_page.specs.PageBytes.{file_bytes}
use Rattle.pm3_page.specs.PageMap.{Images, PageMap}
use Rattle.pm3_page.specs.declared.marks.Marks.{Marks}
use Rattle.pm3_pagefile.specs.PageBytes.{Given}
use Rattle.pm3_journal.specs.Summaries.{Summary, has_page}

-- the images of the pages that pass the test are mine, and the rest are the others
pub record ArePartedBy (test : ℕ → Bool) (whole mine others : Images) : Type 0 where
  pub passed : (page : ℕ) → test page ≡ true → (get mine page ≡ get whole page) × (get others page ≡ None)
  pub failed : (page : ℕ) → test page ≡ false → (get mine page ≡ None) × (get others page ≡ get whole page)

-- the image of a page has moved, and its room
pub record Moves (page : ℕ) (source goal source_now goal_now : PageMap) : Type 0 where
  pub image : PageImage
  pub there : get source.images page ≡ Some image
  pub gone : source_now.images ≡ remove source.images page
  pub put : goal_now.images ≡ insert goal.images page image
  pub freed : source_now.spare ≡ source.spare + 1
  pub used : goal_now.spare + 1 ≡ goal.spare

-- the image of a page stays if it passes the test, and moves if not
pub record StaysOrMoves (passes : Bool) (page : ℕ) (source goal source_now goal_now : PageMap) : Type 0 where
  pub stays : passes ≡ true → (source_now ≡ source) × (goal_now ≡ goal)
  pub moves : passes ≡ false → Moves page source goal source_now goal_now

-- what a checkpoint writes: the marks into page 0, and into each page of the records the image that is held
abbrev pub recorded_given : List Summary → Marks → List Fields → ℕ → Images → Given
recorded_given summaries marks catalog base images page =
    cond (page == 0) (Some (head_page marks))
    (cond (has_page summaries page) (option_map (file_bytes catalog base) (get images page)) None)
