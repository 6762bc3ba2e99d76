-- Copies of objects.
use Rattle.std.specs.Prelude.{ℕ, ◌≡◌, ◌+◌, ◌<◌, true, slice_index, slice_set}
use Rattle.pm3_types.specs.Layout.{Sheet, PageImage, end_of}

-- behind the last object of a page stands a copy of the object of so many words at word s of a sheet
pub record IsCopied (sheet : Sheet) (s size : ℕ) (old new : PageImage) : Type 0 where
  pub page : new.page ≡ old.page
  pub starts : new.sheet.starts ≡ slice_set old.sheet.starts (end_of old.sheet) true
  pub end : end_of new.sheet ≡ end_of old.sheet + size
  pub object : (k : ℕ) → k < size → slice_index new.sheet.words (end_of old.sheet + k) ≡ slice_index sheet.words (s + k)
  pub others : (i : ℕ) → 0 < i → i < end_of old.sheet → slice_index new.sheet.words i ≡ slice_index old.sheet.words i
