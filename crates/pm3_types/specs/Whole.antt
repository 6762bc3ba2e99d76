-- Objects that lie whole on their pages.
use Rattle.std.specs.Prelude.{ℕ, ◌≡◌, ◌+◌, ◌≤◌, true, false, List, Some, slice_index}
use Rattle.pm3_types.specs.Fields.{Fields}
use Rattle.pm3_types.specs.Layout.{Sheet, is_start, is_forwarded, size_at}
use Rattle.pm3_types.specs.PageForm.{map_at, is_head_of, is_name}

-- an object begins at a word of a sheet; its type is known, it was not forwarded, it has a name, and it ends on the page
pub record IsWhole (catalog : List Fields) (sheet : Sheet) (s : ℕ) : Type 0 where
  pub fields : Fields
  pub of : map_at catalog sheet s ≡ Some fields
  pub begins : is_start sheet s ≡ true
  pub low : 2 ≤ s
  pub size : 2 ≤ size_at catalog sheet s
  pub within : s + size_at catalog sheet s ≤ 512
  pub unmoved : is_forwarded (slice_index sheet.words s) ≡ false
  pub head : is_head_of fields (slice_index sheet.words s) ≡ true
  pub name : is_name (slice_index sheet.words (s + 1)) ≡ true
