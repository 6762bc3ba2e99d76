-- Objects by their names, and what stands in their places. A tree as a list is an object of one further class, with the keys
-- of its entries as words and their objects as its tail.
use Rattle.std.specs.Prelude.{ℕ, ◌==◌, ◌++◌, List, [], ◌∷◌, Bool, cond, Option, None, Some, option_map}
use Rattle.pm3_types.specs.declared.places.Place.{Place}
use Rattle.pm3_types.specs.declared.places.Place.TheVariants.{Word, Reference}
use Rattle.pm3_types.specs.declared.type_map.Tail.TheVariants.{Refs}
use Rattle.pm3_types.specs.Fields.{Fields, has_refs, has_bytes}
use Rattle.pm3_types.specs.Record.{Record}
use Rattle.pm3_types.specs.Places.{is_place, value_at, with_value}
use Rattle.oo7_schema.specs.Schema.{class, schema}
use Rattle.std.specs.List.{slice_get}

abbrev pub Look : Type 0
Look = ℕ → Option Record

-- the twelve classes, and behind them that of trees as lists
abbrev pub listed_schema : List Fields
listed_schema = schema ++ class 0 0 Refs ∷ []

abbrev pub class_in : Option Record → Option ℕ
class_in o = option_map (λ (r : Record). r.ty) o

abbrev pub class_of : Look → ℕ → Option ℕ
class_of look n = class_in (look n)

-- what stands in a place of an object, and 0 where it has no such place
abbrev pub value_in : Option Record → Place → ℕ
value_in None place = 0
value_in (Some r) place = cond (is_place listed_schema r place) (value_at r place) 0

abbrev pub word : Look → ℕ → ℕ → ℕ
word look n f = value_in (look n) (Word f)

abbrev pub reference : Look → ℕ → ℕ → ℕ
reference look n f = value_in (look n) (Reference f)

-- the tail of an object, where its class has one of this kind
abbrev pub tail_by : (Fields → Bool) → Option Fields → List ℕ → List ℕ
tail_by kind None tail = []
tail_by kind (Some map) tail = cond (kind map) tail []

abbrev pub tail_in : (Fields → Bool) → Option Record → List ℕ
tail_in kind None = []
tail_in kind (Some r) = tail_by kind (slice_get listed_schema r.ty) r.tail

-- the references in the tail
abbrev pub items : Look → ℕ → List ℕ
items look n = tail_in (λ (map : Fields). has_refs map.tail) (look n)

-- the bytes in the tail
abbrev pub bytes : Look → ℕ → List ℕ
bytes look n = tail_in (λ (map : Fields). has_bytes map.tail) (look n)

-- with this record under the name n
abbrev pub put : Look → ℕ → Record → Look
put look n r m = cond (m == n) (Some r) (look m)

-- with a change to the object n
abbrev pub update : Look → ℕ → (Option Record → Option Record) → Look
update look n change m = cond (m == n) (change (look n)) (look m)

-- with this value in a place, where the object has the place
abbrev pub set_in : Place → ℕ → Option Record → Option Record
set_in place v None = None
set_in place v (Some r) = Some (cond (is_place listed_schema r place) (with_value r place v) r)

abbrev pub set : Look → ℕ → Place → ℕ → Look
set look n place v = update look n (set_in place v)
