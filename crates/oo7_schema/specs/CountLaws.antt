-- Laws on numbers: how many changes, objects and assemblies there are.
use Rattle.std.specs.Prelude.{ℕ, ◌≡◌, ◌+◌, ◌*◌, ◌^◌, ◌<◌, ◌≤◌, List, length, true}
use Rattle.oo7_schema.specs.declared.sizes.Params.{Params}
use Rattle.oo7_schema.specs.declared.jobs.Extent.TheVariants.{A, B, C}
use Rattle.oo7_schema.specs.Lookup.{Look}
use Rattle.oo7_schema.specs.Flat.{Flat}
use Rattle.oo7_schema.specs.Members.{params_in, greatest_composite}
use Rattle.oo7_schema.specs.Walk.{assemblies_under, bases, depth_of}
use Rattle.oo7_schema.specs.Texts.{repeated, document_line}
use Rattle.oo7_schema.specs.Traversals.{t1, t6, changes}
use Rattle.oo7_schema.specs.Composites.{composite_objects, objects_in}
use Rattle.oo7_schema.specs.Changes.{has_room, insert}

-- T2 and T3 make a change a visit, a change a part, or four changes a part
pub record ChangesOf (g : Flat) : Type 0 where
  pub a : changes g A ≡ t6 g
  pub b : changes g B ≡ t1 g
  pub c : changes g C ≡ 4 * t1 g

abbrev pub ChangesAreCounted : Type 0
ChangesAreCounted = (g : Flat) → ChangesOf g

-- each level has three times as many assemblies as the one above it
abbrev pub BasesAreCounted : Type 0
BasesAreCounted = (g : Flat) → length (bases g) ≡ 3 ^ depth_of g

abbrev pub AssembliesAreCounted : Type 0
AssembliesAreCounted = (look : Look) (k n : ℕ) → 2 * length (assemblies_under look k n) + 1 ≡ 3 ^ (k + 1)

-- a document is as long as its size says, and a composite part has so many objects as `objects_in` says
abbrev pub DocumentsAreLong : Type 0
DocumentsAreLong = (k count : ℕ) → length (repeated (document_line k) count) ≡ count

abbrev pub ObjectsAreCounted : Type 0
ObjectsAreCounted = (p : Params) (k : ℕ) (names nums : List ℕ) → length (composite_objects p k names nums) ≡ objects_in p

-- an insertion makes at most five composite parts, and five where the ids of all five are allowed
abbrev pub InsertMakesFew : Type 0
InsertMakesFew = (g : Flat) (choice : ℕ) (names : List ℕ) → (insert g choice names).parts ≤ 5 * (params_in g).atomics

abbrev pub InsertMakesFive : Type 0
InsertMakesFive = (g : Flat) (choice : ℕ) (names : List ℕ)
    → ((i : ℕ) → i < 5 → has_room (params_in g) (greatest_composite g + 1 + i) ≡ true) → (insert g choice names).parts ≡ 5 * (params_in g).atomics
