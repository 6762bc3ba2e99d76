-- The bytes of pages in a file.
use Rattle.std.specs.Prelude.{ℕ, zero, suc, List, [], ◌∷◌, drop, Ok, Err}
use Rattle.std.specs.List.{flat_map}
use Rattle.byteorder.specs.Endian.{little_bytes, little_number}
use Rattle.pm3_types.specs.Fields.{Fields}
use Rattle.pm3_types.specs.Layout.{PageImage}
use Rattle.pm3_page.specs.References.{from_file, to_file}
use Rattle.pm3_page.specs.Scan.{Read, pass}

-- eight bytes for each word, the lowest first
unfoldable pub bytes_of : List ℕ → List ℕ
bytes_of words = flat_map (little_bytes 8) words

-- the first n words that bytes stand for
unfoldable pub words_in : ℕ → List ℕ → List ℕ
words_in zero bytes = []
words_in (suc n) bytes = little_number 8 bytes ∷ words_in n (drop 8 bytes)

-- the sheet that a page of a store of so many pages reads as, or the first word at which it departs from the form
abbrev pub page_read : List Fields → ℕ → ℕ → ℕ → List ℕ → Read
page_read catalog base pages page bytes = pass catalog (from_file base pages) page (words_in 512 bytes)

-- the words of a sheet that was read
abbrev pub words_of : Read → List ℕ
words_of (Ok sheet) = sheet.words
words_of (Err i) = []

-- the words and the bytes of an image in a file
abbrev pub file_words : List Fields → ℕ → PageImage → List ℕ
file_words catalog base image = words_of (pass catalog (to_file base 16384) image.page image.sheet.words)

abbrev pub file_bytes : List Fields → ℕ → PageImage → List ℕ
file_bytes catalog base image = bytes_of (file_words catalog base image)
