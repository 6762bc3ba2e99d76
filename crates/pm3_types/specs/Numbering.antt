-- The reached names of a graph in the order in which they are first met, breadth first from the roots.
use Rattle.std.specs.Prelude.{ℕ, ◌+◌, ◌==◌, ◌&&◌, List, [], ◌∷◌, ◌++◌, Bool, not, cond, Option, None, Some, is_some, unwrap_or, slice_get, fold}
use Rattle.std.specs.List.{list_any, range_with_len, position_from}
use Rattle.std.specs.FinMap.{get, len, retain_keys}
use Rattle.pm3_types.specs.Fields.{Fields, is_reference, has_refs}
use Rattle.pm3_types.specs.Record.{Record}
use Rattle.pm3_types.specs.Graph.{Part}

-- of the values of the fields from f on, those in reference fields
abbrev pub names_in_fields : Fields → ℕ → List ℕ → List ℕ
names_in_fields map f [] = []
names_in_fields map f (v ∷ vs) = cond (is_reference map f) (v ∷ names_in_fields map (f + 1) vs) (names_in_fields map (f + 1) vs)

abbrev pub names_in_by : Option Fields → Record → List ℕ
names_in_by None r = []
names_in_by (Some map) r = names_in_fields map 0 r.fields ++ cond (has_refs map.tail) r.tail []

-- the names in the reference places of a record: those in its fields, then those in its tail
abbrev pub names_in : List Fields → Record → List ℕ
names_in catalog r = names_in_by (slice_get catalog r.ty) r

-- a name is in a list of names
abbrev pub is_among : List ℕ → ℕ → Bool
is_among names n = list_any (λ m. n == m) names

-- the names met so far, and behind them those of the new names that are there and were not met
abbrev pub meet : (ℕ → Option Record) → List ℕ → List ℕ → List ℕ
meet records met [] = met
meet records met (n ∷ ns) = meet records (cond (is_some (records n) && not (is_among met n)) (met ++ n ∷ []) met) ns

abbrev pub names_of : List Fields → Option Record → List ℕ
names_of catalog None = []
names_of catalog (Some r) = names_in catalog r

abbrev pub names_under : List Fields → (ℕ → Option Record) → Option ℕ → List ℕ
names_under catalog records None = []
names_under catalog records (Some n) = names_of catalog (records n)

-- what is met once the i-th record that was met, from 0, has been looked at
abbrev pub look : List Fields → (ℕ → Option Record) → List ℕ → ℕ → List ℕ
look catalog records met i = meet records met (names_under catalog records (slice_get met i))

-- what is met from these roots among so many records
abbrev pub met_from : List Fields → (ℕ → Option Record) → ℕ → List ℕ → List ℕ
met_from catalog records count roots = fold (look catalog records) (meet records [] roots) (range_with_len 0 count)

-- the reached names in the order in which they are met: the roots in order of slots, then what each record refers to, in order
unfoldable pub met_names : List Fields → Part → List ℕ
met_names catalog g = met_from catalog (get g.records) (len g.records) (unwrap_or g.roots [])

-- the number of a name, from 1
abbrev pub number_of : List ℕ → ℕ → Option ℕ
number_of met n = position_from (λ m. m == n) 1 met

-- g cut to the names that are reached, with its roots
abbrev pub closure : List Fields → Part → Part
closure catalog g = record { records = retain_keys g.records (is_among (met_names catalog g)); roots = g.roots }
