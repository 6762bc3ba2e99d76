-- Page 2 of a new store.
use Rattle.std.proofs.Common.{◌≡◌, ℕ, false, List, ◌∷◌, replicate, Ok, Some, refl}
use Rattle.pm3_types.specs.Fields.{Fields, is_reference}
use Rattle.pm3_types.specs.Layout.{Sheet, page_head, used_in}
use Rattle.pm3_types.specs.PageForm.{is_file_reference, is_page_head, memory_reference}
use Rattle.pm3_types.specs.PageOne.{padded, zeros}
use Rattle.std.specs.FinMap.{empty}
use Rattle.pm3_types.specs.Shown.{Images, roots_in}
use Rattle.pm3_page.specs.PageBytes.{page_read, words_in}
use Rattle.pm3_pagefile.specs.EmptyFile.{roots_bytes}

-- the number 2 and above it 18 words in use, and else zeros
unfoldable pub roots_sheet : Sheet
roots_sheet = record { words = 77309411330 ∷ replicate 511 0; starts = replicate 512 false }

pub roots_read : (catalog : List Fields) (base pages : ℕ) → page_read catalog base pages 2 (padded 4096 roots_bytes) ≡ Ok roots_sheet
unfolding words_in padded zeros page_head used_in is_file_reference is_page_head memory_reference is_reference roots_sheet
roots_read catalog base pages = refl

-- each root is nil
pub roots_nil : (catalog : List Fields) (base : ℕ) (images : Images) → roots_in catalog base empty images (Some roots_sheet) ≡ Some (replicate 16 0)
unfolding roots_sheet is_reference
roots_nil catalog base images = refl
