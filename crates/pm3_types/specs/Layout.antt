-- Where objects lie in the words of a page.
use Rattle.std.specs.Prelude.{ℕ, ◌≡◌, ◌+◌, ◌-◌, ◌*◌, ◌/◌, ◌%◌, ◌^◌, ◌<◌, ◌≤◌, ◌==◌, ◌&&◌, Bool, true, false, not, cond, nat_le, List, ◌++◌, take, drop, length, replicate, Option, Some, None, slice_get, slice_index, slice_index_or, slice_set}
use Rattle.pm3_types.specs.Fields.{Fields}
use Rattle.pm3_types.specs.declared.type_map.Tail.{Tail}
use Rattle.pm3_types.specs.declared.type_map.Tail.TheVariants.{Empty, Refs, Bytes}

-- the 512 words of a page, and for each word whether an object begins there
pub record Sheet : Type 0 where
  pub words : List ℕ
  pub starts : List Bool

-- a sheet under its page's number
pub record PageImage : Type 0 where
  pub page : ℕ
  pub sheet : Sheet

-- the bounds of an image: whole lists, and the number of a page that may have objects or roots
pub record IsImage (image : PageImage) : Type 0 where
  pub words : length image.sheet.words ≡ 512
  pub starts : length image.sheet.starts ≡ 512
  pub above : 2 ≤ image.page
  pub below : image.page < 16384

-- a sheet of zeros, without an object
abbrev pub blank_sheet : Sheet
blank_sheet = record { words = replicate 512 0; starts = replicate 512 false }

-- the type and the length of the tail in an object's first word, its head
unfoldable pub type_in : ℕ → ℕ
type_in head = head % 65536

unfoldable pub tail_in : ℕ → ℕ
tail_in head = head / 65536 % 2 ^ 32

-- the head of an object of this type with a tail of this length
unfoldable pub head_of : ℕ → ℕ → ℕ
head_of ty tail = ty + 65536 * tail

-- the head of an object that was forwarded has its highest bit set, and the new address in the others
unfoldable pub is_forwarded : ℕ → Bool
is_forwarded head = nat_le (2 ^ 63) head

-- objects of this type have a tail
abbrev pub has_tail_by : Tail → Bool
has_tail_by Empty = false
has_tail_by Refs = true
has_tail_by Bytes = true

abbrev pub has_tail : Option Fields → Bool
has_tail None = false
has_tail (Some map) = has_tail_by map.tail

-- the words of a tail of so many references or bytes
abbrev pub tail_words : Tail → ℕ → ℕ
tail_words Empty n = 0
tail_words Refs n = n
tail_words Bytes n = (n + 7) / 8

-- the words of an object: head, name, fields and tail; 0 where its type is not there
abbrev pub size_by : Option Fields → ℕ → ℕ
size_by None tail = 0
size_by (Some map) tail = 2 + map.count + tail_words map.tail tail

-- the words of an object with this head
abbrev pub size_of : List Fields → ℕ → ℕ
size_of catalog head = size_by (slice_get catalog (type_in head)) (tail_in head)

-- an object begins at the word
abbrev pub is_start : Sheet → ℕ → Bool
is_start sheet at = slice_index_or sheet.starts at false

-- an object begins at the word, and it was not forwarded
abbrev pub is_unmoved : Sheet → ℕ → Bool
is_unmoved sheet at = is_start sheet at && not (is_forwarded (slice_index sheet.words at))

-- the words of the object at a word
abbrev pub size_at : List Fields → Sheet → ℕ → ℕ
size_at catalog sheet at = size_of catalog (slice_index sheet.words at)

-- the first word of a page has the page's number below, and above it the number of words in use, 0 on a page without objects
unfoldable pub page_head : ℕ → ℕ → ℕ
page_head page used = page + 2 ^ 32 * used

unfoldable pub used_in : ℕ → ℕ
used_in word = word / 2 ^ 32

-- the word behind the last object
abbrev pub end_by : ℕ → ℕ
end_by used = cond (used == 0) 2 used

abbrev pub end_of : Sheet → ℕ
end_of sheet = end_by (used_in (slice_index sheet.words 0))

-- objects lie one after another without a gap from word 2 to the end, and what is behind them is 0
pub record IsLaid (catalog : List Fields) (sheet : Sheet) : Type 0 where
  pub words : length sheet.words ≡ 512
  pub starts : length sheet.starts ≡ 512
  pub end : (2 ≤ end_of sheet) × (end_of sheet ≤ 512)
  pub first : 2 < end_of sheet → is_start sheet 2 ≡ true
  pub whole : (s : ℕ) → is_start sheet s ≡ true → (2 ≤ s) × (2 ≤ size_at catalog sheet s) × (s + size_at catalog sheet s ≤ end_of sheet)
  pub apart : (s t : ℕ) → is_start sheet s ≡ true → s < t → t < s + size_at catalog sheet s → is_start sheet t ≡ false
  pub next : (s : ℕ) → is_start sheet s ≡ true → s + size_at catalog sheet s < end_of sheet → is_start sheet (s + size_at catalog sheet s) ≡ true
  pub rest : (i : ℕ) → end_of sheet ≤ i → slice_index sheet.words i ≡ 0

-- the address of a word of a page, where page 0 is at `base`
abbrev pub address : ℕ → ℕ → ℕ → ℕ
address base page word = base + 4096 * page + 8 * word

-- the page and the word of an address
unfoldable pub page_in : ℕ → ℕ → ℕ
page_in base a = (a - base) / 4096

unfoldable pub word_in : ℕ → ℕ → ℕ
word_in base a = (a - base) % 4096 / 8

-- it is the address of a word of some page
unfoldable pub is_address : ℕ → ℕ → Bool
is_address base a = nat_le base a && ((a - base) % 8 == 0)

-- an object of the image begins at the address
abbrev pub begins_at : ℕ → PageImage → ℕ → Bool
begins_at base image a = (is_address base a && (page_in base a == image.page)) && is_start image.sheet (word_in base a)

-- the head of the object at an address
abbrev pub head_at : ℕ → PageImage → ℕ → ℕ
head_at base image a = slice_index image.sheet.words (word_in base a)

-- the head of a forwarded object, and the new address in a head
abbrev pub forwarding : ℕ → ℕ
forwarding to = 2 ^ 63 + to

unfoldable pub forwarded_to : ℕ → Option ℕ
forwarded_to head = cond (is_forwarded head) (Some (head - 2 ^ 63)) None

-- the least address above this one at which an object of the image begins, or None where there is none
abbrev pub IsNextObject : ℕ → PageImage → ℕ → Option ℕ → Type 0
IsNextObject base image a None = (b : ℕ) → a < b → begins_at base image b ≡ false
IsNextObject base image a (Some b) = (a < b) × (begins_at base image b ≡ true) × ((m : ℕ) → a < m → m < b → begins_at base image m ≡ false)

-- the words with zeros from one word up to another
abbrev pub zeroed : List ℕ → ℕ → ℕ → List ℕ
zeroed words from to = take from words ++ replicate (to - from) 0 ++ drop to words

-- the sheet with another word
abbrev pub with_word : Sheet → ℕ → ℕ → Sheet
with_word sheet i v = record { words = slice_set sheet.words i v; starts = sheet.starts }

-- the image with another word
abbrev pub with_word_at : PageImage → ℕ → ℕ → PageImage
with_word_at image i v = record { page = image.page; sheet = with_word image.sheet i v }

-- the sheet of this page with a new object of so many words behind the last one, and 0 in all its places
abbrev pub placed : ℕ → Sheet → ℕ → ℕ → ℕ → Sheet
placed page sheet size head name = record {
  words =
      slice_set (slice_set (slice_set (zeroed sheet.words (end_of sheet) (end_of sheet + size)) 0 (page_head page (end_of sheet + size)))
      (end_of sheet) head) (end_of sheet + 1) name;
  starts = slice_set sheet.starts (end_of sheet) true;
}

abbrev pub placed_on : PageImage → ℕ → ℕ → ℕ → PageImage
placed_on image size head name = record { page = image.page; sheet = placed image.page image.sheet size head name }
