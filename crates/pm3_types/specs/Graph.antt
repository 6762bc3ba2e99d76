-- Graphs and parts of graphs as data. Nothing in them has an address.
use Rattle.std.specs.Prelude.{ℕ, ◌≡◌, ◌<◌, ◌^◌, List, [], ◌∷◌, length, Option, Some, All, IsSome, refl}
use Rattle.std.specs.Ordering.{nat_cmp}
use Rattle.std.specs.Option.{option_or}
use Rattle.std.specs.FinMap.{FinMap, code, get, insert, entries}
use Rattle.std.specs.Coded.{Coded, code_by, coded×, coded_ℕ, coded_list, coded_option}
use Rattle.pm3_types.specs.Record.{Record, coded_record}

-- records by their names
abbrev pub Records : Type 0
Records = FinMap nat_cmp Record

-- records by their names, and the names in the sixteen root slots or no roots; the name 0 is nil
pub record Part : Type 0 where
  pub records : Records
  pub roots : Option (List ℕ)

-- names are from 1 to 2^62 - 1, and each of sixteen roots is a name or nil
pub record IsPart (f : Part) : Type 0 where
  pub names : (n : ℕ) (r : Record) → get f.records n ≡ Some r → (0 < n) × (n < 2 ^ 62)
  pub roots : (names : List ℕ) → f.roots ≡ Some names → (length names ≡ 16) × All (λ n. n < 2 ^ 62) names

-- a graph is a part that has roots
abbrev pub IsGraph : Part → Type 0
IsGraph g = IsPart g × IsSome g.roots

-- g agrees with f on all that f has
pub record PartOf (f g : Part) : Type 0 where
  pub records : (n : ℕ) (r : Record) → get f.records n ≡ Some r → get g.records n ≡ Some r
  pub roots : (names : List ℕ) → f.roots ≡ Some names → g.roots ≡ Some names

-- the map in which these entries replace those of m or are added
abbrev pub with_entries : Records → List (ℕ × Record) → Records
with_entries m [] = m
with_entries m (e ∷ es) = insert (with_entries m es) e.0 e.1

-- "G with l": the records of l, and its roots where it has them, replace those of g or are added
abbrev pub with_part : Part → Part → Part
with_part g l = record { records = with_entries g.records (entries l.records); roots = option_or l.roots g.roots }

-- a part as it is told from others: the tuple of its halves
abbrev pub coded_part : Coded Part
coded_part =
    code_by (Records × Option (List ℕ)) (coded× (code coded_ℕ coded_record) (coded_option (coded_list coded_ℕ)))
    (λ p. (p.records, p.roots)) (λ p. record { records = p.0; roots = p.1 }) (λ _. refl)
