-- Words that are written over others.
use Rattle.std.specs.Prelude.{ℕ, ◌+◌, true, List, ◌++◌, take, drop, length, slice_set}
use Rattle.pm3_types.specs.Layout.{Sheet, PageImage, end_of, page_head}

-- the words with these in place of those from a place on
abbrev pub overwritten : List ℕ → ℕ → List ℕ → List ℕ
overwritten words from new = take from words ++ new ++ drop (from + length new) words

-- so many words of a sheet from one on
abbrev pub words_at : Sheet → ℕ → ℕ → List ℕ
words_at sheet from size = take size (drop from sheet.words)

-- the sheet of this page with a new object of so many words behind the last one, which are these
abbrev pub copied : ℕ → Sheet → ℕ → List ℕ → Sheet
copied page sheet size object = record {
  words = slice_set (overwritten sheet.words (end_of sheet) object) 0 (page_head page (end_of sheet + size));
  starts = slice_set sheet.starts (end_of sheet) true;
}

abbrev pub copied_on : PageImage → ℕ → List ℕ → PageImage
copied_on image size object = record { page = image.page; sheet = copied image.page image.sheet size object }
