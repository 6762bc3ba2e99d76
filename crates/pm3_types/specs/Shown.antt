-- What the images of pages show under a book.
use Rattle.std.specs.Prelude.{ℕ, ◌≡◌, ◌≢◌, ◌⊎◌, ◌+◌, ◌*◌, ◌/◌, ◌%◌, ◌^◌, ◌<◌, ◌==◌, Bool, true, false, cond, List, [], ◌∷◌, map, Option, Some, None, is_some, unwrap_or, slice_get, slice_index, option_and_then}
use Rattle.std.specs.Ordering.{nat_cmp}
use Rattle.std.specs.List.{range_with_len}
use Rattle.std.specs.FinMap.{FinMap, get, insert, empty, keys}
use Rattle.pm3_types.specs.Fields.{Fields, is_reference}
use Rattle.pm3_types.specs.declared.type_map.Tail.{Tail}
use Rattle.pm3_types.specs.declared.type_map.Tail.TheVariants.{Empty, Refs, Bytes}
use Rattle.pm3_types.specs.Record.{Record}
use Rattle.pm3_types.specs.Graph.{Records, Part}
use Rattle.pm3_types.specs.Layout.{Sheet, type_in, tail_in, is_unmoved, page_in, word_in, is_address}
use Rattle.pm3_types.specs.PageForm.{IsReferenceIn, map_at, tail_at}

-- names by the addresses of objects
abbrev pub Book : Type 0
Book = FinMap nat_cmp ℕ

-- sheets by the numbers of their pages
abbrev pub Images : Type 0
Images = FinMap nat_cmp Sheet

-- the name that a word of a reference place stands for: the book's name for that address, and 0 for 0
abbrev pub name_by : Book → ℕ → ℕ
name_by book a = cond (a == 0) 0 (unwrap_or (get book a) 0)

-- byte k of a word, the lowest first
unfoldable pub byte_in : ℕ → ℕ → ℕ
byte_in word k = word / 2 ^ (8 * k) % 256

-- f at 0, 1, .. and n - 1
abbrev pub list_of : {A : Type 0} → ℕ → (ℕ → A) → List A
list_of n f = map f (range_with_len 0 n)

module _ (book : Book) where
  -- the value of field f of the object at a word
  abbrev pub field_of : Fields → List ℕ → ℕ → ℕ → ℕ
  field_of fields words at f = cond (is_reference fields f) (name_by book (slice_index words (at + 2 + f))) (slice_index words (at + 2 + f))

  -- the names or bytes of the tail that begins at a word
  abbrev pub tail_of : Tail → List ℕ → ℕ → ℕ → List ℕ
  tail_of Empty words at len = []
  tail_of Refs words at len = list_of len (λ k. name_by book (slice_index words (at + k)))
  tail_of Bytes words at len = list_of len (λ k. byte_in (slice_index words (at + k / 8)) (k % 8))

  -- the record of the object with this head at a word
  abbrev pub record_by : Option Fields → List ℕ → ℕ → ℕ → Record
  record_by None words at head = record { ty = type_in head; fields = []; tail = [] }
  record_by (Some fields) words at head = record {
    ty = type_in head;
    fields = list_of fields.count (field_of fields words at);
    tail = tail_of fields.tail words (at + 2 + fields.count) (tail_in head);
  }

  abbrev pub record_at : List Fields → List ℕ → ℕ → Record
  record_at catalog words at = record_by (slice_get catalog (type_in (slice_index words at))) words at (slice_index words at)

  -- the record of the object at a word of a page, if one begins there that was not forwarded
  abbrev pub object_in : List Fields → Option Sheet → ℕ → Option Record
  object_in catalog None at = None
  object_in catalog (Some sheet) at = cond (is_unmoved sheet at) (Some (record_at catalog sheet.words at)) None

  -- the record of the object at an address
  abbrev pub object_at : List Fields → ℕ → Images → ℕ → Option Record
  object_at catalog base images a = cond (is_address base a) (object_in catalog (get images (page_in base a)) (word_in base a)) None

abbrev pub is_name_of : Option ℕ → ℕ → Bool
is_name_of None n = false
is_name_of (Some m) n = m == n

-- the first of these addresses that has the name in the book
abbrev pub address_among : Book → List ℕ → ℕ → Option ℕ
address_among book [] n = None
address_among book (a ∷ rest) n = cond (is_name_of (get book a) n) (Some a) (address_among book rest n)

-- the address that the book has under a name
abbrev pub address_of : Book → ℕ → Option ℕ
address_of book n = address_among book (keys book) n

-- the names that the book has
abbrev pub names_of : Book → List ℕ
names_of book = map (λ a. unwrap_or (get book a) 0) (keys book)

-- what f gives at these names
abbrev pub put_some : Records → ℕ → Option Record → Records
put_some records n None = records
put_some records n (Some r) = insert records n r

abbrev pub gathered : (ℕ → Option Record) → List ℕ → Records
gathered f [] = empty
gathered f (n ∷ ns) = put_some (gathered f ns) n (f n)

module _ (catalog : List Fields) (base : ℕ) (book : Book) (images : Images) where
  -- the record that the images show under a name
  abbrev pub seen : ℕ → Option Record
  seen n = option_and_then (object_at book catalog base images) (address_of book n)

  -- the names in the root slots, if page 2 is among the images
  abbrev pub roots_in : Option Sheet → Option (List ℕ)
  roots_in None = None
  roots_in (Some sheet) = Some (list_of 16 (λ slot. name_by book (slice_index sheet.words (2 + slot))))

  abbrev pub shown_records : Records
  shown_records = gathered seen (names_of book)

  -- what the images show: one record for each object that the book has, under its name
  abbrev pub shown : Part
  shown = record { records = shown_records; roots = roots_in (get images 2) }

-- no two addresses have one name
abbrev pub IsOneToOne : Book → Type 0
IsOneToOne book = (a b n : ℕ) → get book a ≡ Some n → get book b ≡ Some n → a ≡ b

-- a word of a reference place is 0 or an address that the book has
abbrev pub IsKnown : Book → ℕ → Type 0
IsKnown book a = (a ≡ 0) ⊎ (is_some (get book a) ≡ true)

-- the book fits the images: each of its addresses on their pages is an object with that name, and it has every reference in
-- these objects and in the root slots
pub record FitsImages (catalog : List Fields) (base : ℕ) (book : Book) (images : Images) : Type 0 where
  pub one : IsOneToOne book
  pub named : (a n : ℕ) → get book a ≡ Some n → n ≢ 0
  pub objects : (a n : ℕ) (sheet : Sheet) → get book a ≡ Some n → get images (page_in base a) ≡ Some sheet
      → (is_address base a ≡ true) × (is_unmoved sheet (word_in base a) ≡ true) × (slice_index sheet.words (word_in base a + 1) ≡ n)
  pub references : (a n k : ℕ) (sheet : Sheet) → get book a ≡ Some n → get images (page_in base a) ≡ Some sheet
      → IsReferenceIn (map_at catalog sheet (word_in base a)) (tail_at sheet (word_in base a)) k
      → IsKnown book (slice_index sheet.words (word_in base a + 2 + k))
  pub roots : (slot : ℕ) (sheet : Sheet) → slot < 16 → get images 2 ≡ Some sheet → IsKnown book (slice_index sheet.words (2 + slot))
