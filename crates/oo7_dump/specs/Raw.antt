-- Objects as records in which references are the words as they stand: addresses in place of names.
use Rattle.std.specs.Prelude.{ℕ, ◌+◌, ◌/◌, ◌%◌, cond, List, [], Option, Some, None, slice_get, slice_index}
use Rattle.std.specs.FinMap.{get}
use Rattle.pm3_types.specs.declared.type_map.Tail.{Tail}
use Rattle.pm3_types.specs.declared.type_map.Tail.TheVariants.{Empty, Refs, Bytes}
use Rattle.pm3_types.specs.Fields.{Fields}
use Rattle.pm3_types.specs.Record.{Record}
use Rattle.pm3_types.specs.Layout.{Sheet, type_in, tail_in, is_unmoved, page_in, word_in, is_address}
use Rattle.pm3_types.specs.Shown.{Images, byte_in, list_of}

-- the words of the fields of the object at a word
abbrev pub raw_fields : Option Fields → List ℕ → ℕ → List ℕ
raw_fields None words at = []
raw_fields (Some map) words at = list_of map.count (λ f. slice_index words (at + 2 + f))

-- the references or bytes of the tail that begins at a word
abbrev pub raw_items : Tail → List ℕ → ℕ → ℕ → List ℕ
raw_items Empty words at len = []
raw_items Refs words at len = list_of len (λ k. slice_index words (at + k))
raw_items Bytes words at len = list_of len (λ k. byte_in (slice_index words (at + k / 8)) (k % 8))

-- those of a tail of so many, behind the fields
abbrev pub raw_tail : Option Fields → List ℕ → ℕ → ℕ → List ℕ
raw_tail None words at len = []
raw_tail (Some map) words at len = raw_items map.tail words (at + 2 + map.count) len

-- the record whose header word this is
abbrev pub raw_by : Option Fields → List ℕ → ℕ → ℕ → Record
raw_by map words at head = record { ty = type_in head; fields = raw_fields map words at; tail = raw_tail map words at (tail_in head) }

-- the record of the object at a word
abbrev pub raw_record : List Fields → List ℕ → ℕ → Record
raw_record catalog words at = raw_by (slice_get catalog (type_in (slice_index words at))) words at (slice_index words at)

-- the record of the object at a word of a page, if one begins there that was not forwarded
abbrev pub raw_in : List Fields → Option Sheet → ℕ → Option Record
raw_in catalog None at = None
raw_in catalog (Some sheet) at = cond (is_unmoved sheet at) (Some (raw_record catalog sheet.words at)) None

-- the record of the object at an address
abbrev pub raw_at : List Fields → ℕ → Images → ℕ → Option Record
raw_at catalog base images a = cond (is_address base a) (raw_in catalog (get images (page_in base a)) (word_in base a)) None

-- the addresses in the root slots, if page 2 is there
abbrev pub root_words : Option Sheet → List ℕ
root_words None = []
root_words (Some sheet) = list_of 16 (λ slot. slice_index sheet.words (2 + slot))
