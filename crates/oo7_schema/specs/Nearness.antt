-- What stays of a design where dates, x and y of atomic parts change, and one tree with them: what T2 and T3 rest on.
use Rattle.std.specs.Prelude.{ℕ, ◌≡◌, ◌-◌, ◌^◌, ◌<◌, ◌≤◌, List, length, get_or, Option, Some, slice_index}
use Rattle.pm3_types.specs.Record.{Record}
use Rattle.oo7_schema.specs.Lookup.{Look, class_of}
use Rattle.oo7_schema.specs.Entries.{Entry, list_record, entries_at, Holds}
use Rattle.oo7_schema.specs.Flat.{Flat, with_look}
use Rattle.oo7_schema.specs.Members.{build_date, x_of, y_of}
use Rattle.oo7_schema.specs.Walk.{assemblies_under, parts_of}
use Rattle.oo7_schema.specs.Designs.{IsManual, IsAssembly, IsAtomic, IsComposite, IsList, IsFlatDesign, atomics}

-- an atomic part before and after, which differ in date, x and y at most
pub record NearAtomic (o p : Option Record) : Type 0 where
  pub old : Record
  pub new : Record
  pub was : o ≡ Some old
  pub is : p ≡ Some new
  pub class : new.ty ≡ old.ty
  pub long : length new.fields ≡ length old.fields
  pub id : get_or new.fields 0 0 ≡ get_or old.fields 0 0
  pub part : get_or new.fields 5 0 ≡ get_or old.fields 5 0
  pub tail : new.tail ≡ old.tail

-- w differs from v in these words of atomic parts, and in the tree t, at most
pub record Near (t : ℕ) (v w : Look) : Type 0 where
  pub same : (n : ℕ) → (n ≡ t → ⊥) → (class_of v n ≡ Some 6 → ⊥) → w n ≡ v n
  pub atomic : (n : ℕ) → (n ≡ t → ⊥) → class_of v n ≡ Some 6 → NearAtomic (v n) (w n)

-- the bounds of an atomic part
pub record Bounded (look : Look) (n : ℕ) : Type 0 where
  pub dated : 1 ≤ build_date look n
  pub early : build_date look n ≤ 2 ^ 64 - 2
  pub x : x_of look n < 100000
  pub y : y_of look n < 100000

-- what then stays: the manual, the assemblies, the composite parts whose atomic parts are within their bounds, and their visits
pub record KeptParts (v w : Look) : Type 0 where
  pub manual : (n : ℕ) → IsManual v n → IsManual w n
  pub assembly : (parts : List ℕ) (k n : ℕ) → IsAssembly v parts k n → IsAssembly w parts k n
  pub assemblies : (parts : List ℕ) (k n : ℕ) → IsAssembly v parts k n → assemblies_under w k n ≡ assemblies_under v k n
  pub composite : (atomics n : ℕ) → ((p : ℕ) → IsAtomic v n p → Bounded w p) → IsComposite v atomics n → IsComposite w atomics n
  pub visit : (atomics n : ℕ) → IsComposite v atomics n → parts_of w atomics n ≡ parts_of v atomics n

abbrev pub NearDesignsKeep : Type 0
NearDesignsKeep = (t : ℕ) (v w : Look) (es : List Entry) → Near t v w → v t ≡ Some (list_record es) → KeptParts v w

-- so a design is one still, where its atomic parts are within their bounds and the list by date is that of their dates
abbrev pub NearDesignsStay : Type 0
NearDesignsStay = (g : Flat) (w : Look) → IsFlatDesign g → Near (slice_index g.roots 2) g.look w
    → IsList w (slice_index g.roots 2) → Holds (build_date w) (atomics g) (entries_at w (slice_index g.roots 2))
    → ((c p : ℕ) → IsAtomic g.look c p → Bounded w p) → IsFlatDesign (with_look g w)
