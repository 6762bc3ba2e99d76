-- Records as data, and which records a catalog allows.
use Rattle.std.specs.Prelude.{ℕ, ◌≡◌, ◌<◌, List, length, Some, All, IsTrue, slice_get, replicate, refl}
use Rattle.std.specs.Coded.{Coded, code_by, coded×, coded_ℕ, coded_list}
use Rattle.pm3_types.specs.Fields.{Fields, has_bytes}
use Rattle.pm3_types.specs.declared.type_map.Tail.TheVariants.{Empty}

-- a type; in field order the values of its word fields and the names in its reference fields; the names or bytes of its tail
pub record Record : Type 0 where
  pub ty : ℕ
  pub fields : List ℕ
  pub tail : List ℕ

-- its type is in the catalog, and its parts have the numbers that the type map gives; its bytes are bytes
pub record Fits (catalog : List Fields) (r : Record) : Type 0 where
  pub map : Fields
  pub of : slice_get catalog r.ty ≡ Some map
  pub fields : length r.fields ≡ map.count
  pub tail : map.tail ≡ Empty → length r.tail ≡ 0
  pub bytes : IsTrue (has_bytes map.tail) → All (λ b. b < 256) r.tail

-- a new record of a type: zeros in all places
abbrev pub blank : Fields → ℕ → ℕ → Record
blank map ty tail = record { ty = ty; fields = replicate map.count 0; tail = replicate tail 0 }

-- a record as it is told from others: the tuple of its parts
abbrev pub coded_record : Coded Record
coded_record =
    code_by (ℕ × (List ℕ × List ℕ)) (coded× coded_ℕ (coded× (coded_list coded_ℕ) (coded_list coded_ℕ)))
    (λ r. (r.ty, (r.fields, r.tail))) (λ p. record { ty = p.0; fields = p.1.0; tail = p.1.1 }) (λ _. refl)
