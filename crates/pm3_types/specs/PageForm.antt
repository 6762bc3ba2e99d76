-- The form of pages: heads, names, references and padding, in a file and in memory.
use Rattle.std.specs.Prelude.{ℕ, ◌≡◌, ◌≢◌, ◌⊎◌, ◌+◌, ◌-◌, ◌*◌, ◌/◌, ◌%◌, ◌^◌, ◌<◌, ◌≤◌, ◌==◌, ◌&&◌, ◌||◌, Bool, true, false, cond, nat_lt, nat_le, List, length, Option, Some, None, slice_get, slice_index}
use Rattle.pm3_types.specs.Fields.{Fields, is_reference}
use Rattle.pm3_types.specs.declared.type_map.Tail.{Tail}
use Rattle.pm3_types.specs.declared.type_map.Tail.TheVariants.{Empty, Refs, Bytes}
use Rattle.pm3_types.specs.Layout.{Sheet, PageImage, IsLaid, blank_sheet, is_start, type_in, tail_in, has_tail_by, page_head, used_in, page_in, word_in, is_address}

-- a reference of a file: nil, or an offset below a page's number, of a word behind the first two on a page from 3 on
unfoldable pub is_file_reference : ℕ → ℕ → Bool
is_file_reference pages r =
    (r == 0) || ((nat_le 3 (r / 2 ^ 32) && nat_lt (r / 2 ^ 32) pages) && ((nat_le 16 (r % 2 ^ 32) && nat_le (r % 2 ^ 32) 4088) && (r % 8 == 0)))

-- a reference in memory: nil, or the address of such a word
unfoldable pub is_memory_reference : ℕ → ℕ → ℕ → Bool
is_memory_reference base pages a =
    (a == 0) || (is_address base a && ((nat_le 3 (page_in base a) && nat_lt (page_in base a) pages) && nat_le 2 (word_in base a)))

-- the same reference in memory, and in a file
unfoldable pub memory_reference : ℕ → ℕ → ℕ
memory_reference base r = cond (r == 0) 0 (base + 4096 * (r / 2 ^ 32) + r % 2 ^ 32)

unfoldable pub file_reference : ℕ → ℕ → ℕ
file_reference base a = cond (a == 0) 0 (2 ^ 32 * page_in base a + 8 * word_in base a)

-- the first word of a page with roots or objects
unfoldable pub is_page_head : ℕ → ℕ → Bool
is_page_head page word =
    cond (page == 2) (word == page_head 2 18) ((word % 2 ^ 32 == page) && (nat_lt 2 (used_in word) && nat_le (used_in word) 512))

-- a name
unfoldable pub is_name : ℕ → Bool
is_name word = nat_lt 0 word && nat_lt word (2 ^ 62)

-- of a word of a tail with so many bytes left, those past the last are 0
unfoldable pub is_padded : ℕ → ℕ → Bool
is_padded left word = nat_le 8 left || (word / 2 ^ (8 * left) == 0)

-- the head of an object of this type: nothing above the tail's length, which is 0 where the type has no tail
unfoldable pub is_head_of : Fields → ℕ → Bool
is_head_of map head = nat_lt head (2 ^ 48) && (has_tail_by map.tail || (tail_in head == 0))

-- item k of an object's body is a reference of its tail
abbrev pub IsTailReference : Tail → ℕ → ℕ → Type 0
IsTailReference Empty len k = ⊥
IsTailReference Refs len k = k < len
IsTailReference Bytes len k = ⊥

-- word k of an object's body is a reference, where its type has this map and its tail this length
abbrev pub IsReferenceIn : Option Fields → ℕ → ℕ → Type 0
IsReferenceIn None len k = ⊥
IsReferenceIn (Some map) len k = ((k < map.count) × (is_reference map k ≡ true)) ⊎ ((map.count ≤ k) × IsTailReference map.tail len (k - map.count))

-- word k of an object's body is the one with byte 8 * j of its tail
abbrev pub IsTailBytes : Option Fields → ℕ → ℕ → ℕ → Type 0
IsTailBytes None len j k = ⊥
IsTailBytes (Some map) len j k = (map.tail ≡ Bytes) × (8 * j < len) × (k ≡ map.count + j)

-- the type and the tail of the object at a word
abbrev pub map_at : List Fields → Sheet → ℕ → Option Fields
map_at catalog sheet s = slice_get catalog (type_in (slice_index sheet.words s))

abbrev pub tail_at : Sheet → ℕ → ℕ
tail_at sheet s = tail_in (slice_index sheet.words s)

-- a page of roots, whose references meet this test
pub record HasRoots (refers : ℕ → Bool) (sheet : Sheet) : Type 0 where
  pub words : length sheet.words ≡ 512
  pub starts : length sheet.starts ≡ 512
  pub head : is_page_head 2 (slice_index sheet.words 0) ≡ true
  pub second : slice_index sheet.words 1 ≡ 0
  pub roots : (slot : ℕ) → slot < 16 → refers (slice_index sheet.words (2 + slot)) ≡ true
  pub rest : (i : ℕ) → 18 ≤ i → slice_index sheet.words i ≡ 0
  pub empty : (s : ℕ) → is_start sheet s ≡ false

-- a page of objects, one after another without a gap, each with a sound head, name, references and padding
pub record HasObjects (catalog : List Fields) (refers : ℕ → Bool) (page : ℕ) (sheet : Sheet) : Type 0 where
  pub head : is_page_head page (slice_index sheet.words 0) ≡ true
  pub second : slice_index sheet.words 1 ≡ 0
  pub laid : IsLaid catalog sheet
  pub heads : (s : ℕ) (map : Fields) → is_start sheet s ≡ true → map_at catalog sheet s ≡ Some map → is_head_of map (slice_index sheet.words s) ≡ true
  pub names : (s : ℕ) → is_start sheet s ≡ true → is_name (slice_index sheet.words (s + 1)) ≡ true
  pub references : (s k : ℕ) → is_start sheet s ≡ true → IsReferenceIn (map_at catalog sheet s) (tail_at sheet s) k → refers (slice_index sheet.words (s + 2 + k)) ≡ true
  pub padding : (s j k : ℕ) → is_start sheet s ≡ true → IsTailBytes (map_at catalog sheet s) (tail_at sheet s) j k
      → is_padded (tail_at sheet s - 8 * j) (slice_index sheet.words (s + 2 + k)) ≡ true

-- a page has the form: page 2 has roots, and every other page has objects or nothing but zeros
pub record HasForm (catalog : List Fields) (refers : ℕ → Bool) (page : ℕ) (sheet : Sheet) : Type 0 where
  pub roots : page ≡ 2 → HasRoots refers sheet
  pub objects : page ≢ 2 → (sheet ≡ blank_sheet) ⊎ HasObjects catalog refers page sheet

-- an image has the form in memory, in a store of so many pages
abbrev pub IsSound : List Fields → ℕ → ℕ → PageImage → Type 0
IsSound catalog base pages image = HasForm catalog (is_memory_reference base pages) image.page image.sheet
