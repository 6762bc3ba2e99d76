-- Lists of entries: what a tree is to all that is above it. Entries rise by their keys; those of one key stand in the order
-- in which they came.
use Rattle.std.specs.Prelude.{ℕ, ◌≡◌, ◌≤◌, ◌==◌, ◌&&◌, List, [], ◌∷◌, Bool, cond, leb, map, zip, count_by, find, Option, None, Some}
use Rattle.std.specs.List.{AllByRecursion, list_any}
use Rattle.pm3_types.specs.Record.{Record}
use Rattle.oo7_schema.specs.Lookup.{Look}

-- a key and an object
abbrev pub Entry : Type 0
Entry = ℕ × ℕ

-- the objects of entries
abbrev pub objects : List Entry → List ℕ
objects es = map (λ (e : Entry). e.1) es

-- with an entry behind all whose keys are not greater
abbrev pub with_entry : ℕ → ℕ → List Entry → List Entry
with_entry key n [] = (key, n) ∷ []
with_entry key n (e ∷ es) = cond (leb e.0 key) (e ∷ with_entry key n es) ((key, n) ∷ e ∷ es)

-- without the first entry with this key and this object
abbrev pub without_entry : ℕ → ℕ → List Entry → List Entry
without_entry key n [] = []
without_entry key n (e ∷ es) = cond (e.0 == key && e.1 == n) es (e ∷ without_entry key n es)

-- the first entry with this key
abbrev pub first_with : ℕ → List Entry → Option Entry
first_with key es = find (λ (e : Entry). e.0 == key) es

-- an entry with this key and this object is there
abbrev pub has_entry : ℕ → ℕ → List Entry → Bool
has_entry key n es = list_any (λ (e : Entry). e.0 == key && e.1 == n) es

-- the entries from the first whose key is at least this one
abbrev pub from_key : ℕ → List Entry → List Entry
from_key key [] = []
from_key key (e ∷ es) = cond (leb key e.0) (e ∷ es) (from_key key es)

-- how many entries have keys from `low` to `high`
abbrev pub count_between : ℕ → ℕ → List Entry → ℕ
count_between low high es = count_by (λ (e : Entry). leb low e.0 && leb e.0 high) es

-- no key is smaller than one before it
abbrev pub AreRising : List Entry → Type 0
AreRising [] = Unit {0}
AreRising (e ∷ es) = AllByRecursion (λ (later : Entry). e.0 ≤ later.0) es × AreRising es

-- how often a name stands in a list
abbrev pub times : ℕ → List ℕ → ℕ
times n ns = count_by (λ (m : ℕ). m == n) ns

-- no name stands in the list twice
abbrev pub Once : List ℕ → Type 0
Once ns = (n : ℕ) → times n ns ≤ 1

-- the entries have just these objects, each under the key that `key` says, and rise
pub record Holds (key : ℕ → ℕ) (ns : List ℕ) (es : List Entry) : Type 0 where
  pub same : (n : ℕ) → times n (objects es) ≡ times n ns
  pub keys : AllByRecursion (λ (e : Entry). e.0 ≡ key e.1) es
  pub rising : AreRising es

-- a tree as a list
abbrev pub list_record : List Entry → Record
list_record es = record { ty = 12; fields = map (λ (e : Entry). e.0) es; tail = map (λ (e : Entry). e.1) es }

abbrev pub entries_in : Option Record → List Entry
entries_in None = []
entries_in (Some r) = cond (r.ty == 12) (zip r.fields r.tail) []

-- the entries of a tree as a list
abbrev pub entries_at : Look → ℕ → List Entry
entries_at look n = entries_in (look n)
