-- The text of a graph, in which names and addresses do not show: objects are numbered in the order in which they are met.
use Rattle.std.specs.Prelude.{ℕ, ◌+◌, ◌/◌, ◌%◌, List, [], ◌∷◌, ◌++◌, cond, Option, None, Some, unwrap_or, slice_get, codes, false}
use Rattle.std.specs.List.{flat_map}
use Rattle.std.specs.Fmt.{decimal, digit_glyph}
use Rattle.std.specs.FinMap.{get}
use Rattle.pm3_types.specs.declared.type_map.Tail.{Tail}
use Rattle.pm3_types.specs.declared.type_map.Tail.TheVariants.{Empty, Refs, Bytes}
use Rattle.pm3_types.specs.Fields.{Fields, is_reference}
use Rattle.pm3_types.specs.Record.{Record}
use Rattle.pm3_types.specs.Graph.{Part}
use Rattle.pm3_types.specs.Numbering.{met_names, number_of}

-- the number of a name, or `nil` where it has none
abbrev pub number_text : Option ℕ → List ℕ
number_text None = codes "nil"
number_text (Some k) = decimal k

abbrev pub name_text : List ℕ → ℕ → List ℕ
name_text met n = number_text (number_of met n)

-- a line for each root slot from this one on
abbrev pub root_lines : List ℕ → ℕ → List ℕ → List ℕ
root_lines met slot [] = []
root_lines met slot (n ∷ ns) = codes "root " ++ decimal slot ++ codes " " ++ name_text met n ++ codes "\n" ++ root_lines met (slot + 1) ns

-- the values of the fields from f on
abbrev pub fields_text : List ℕ → Fields → ℕ → List ℕ → List ℕ
fields_text met map f [] = []
fields_text met map f (v ∷ vs) = codes " " ++ cond (is_reference map f) (codes "@" ++ name_text met v) (decimal v) ++ fields_text met map (f + 1) vs

-- a byte as two hexadecimal digits
abbrev pub byte_text : ℕ → List ℕ
byte_text b = digit_glyph false (b / 16) ∷ digit_glyph false (b % 16) ∷ []

abbrev pub tail_text : List ℕ → Tail → List ℕ → List ℕ
tail_text met Empty items = []
tail_text met Refs items = codes " *" ++ flat_map (λ n. codes " @" ++ name_text met n) items
tail_text met Bytes items = codes " #" ++ flat_map byte_text items

-- the fields and the tail of a record
abbrev pub parts_text : List ℕ → Option Fields → Record → List ℕ
parts_text met None r = []
parts_text met (Some map) r = fields_text met map 0 r.fields ++ tail_text met map.tail r.tail

abbrev pub record_text : List Fields → List ℕ → Option Record → List ℕ
record_text catalog met None = []
record_text catalog met (Some r) = decimal r.ty ++ parts_text met (slice_get catalog r.ty) r

-- a line for each of these names, numbered from k on
abbrev pub object_lines : List Fields → (ℕ → Option Record) → List ℕ → ℕ → List ℕ → List ℕ
object_lines catalog records met k [] = []
object_lines catalog records met k (n ∷ ns) =
    decimal k ++ codes " " ++ record_text catalog met (records n) ++ codes "\n" ++ object_lines catalog records met (k + 1) ns

-- a line for each of these roots, then one for each record met
abbrev pub text_of : List Fields → (ℕ → Option Record) → List ℕ → List ℕ → List ℕ
text_of catalog records roots met = root_lines met 0 roots ++ object_lines catalog records met 1 met

-- a line for each root, then one for each object that the roots reach
unfoldable pub dump : List Fields → Part → List ℕ
dump catalog g = text_of catalog (get g.records) (unwrap_or g.roots []) (met_names catalog g)
