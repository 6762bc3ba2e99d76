-- Laws of what is reached.
use Rattle.std.specs.Prelude.{ℕ, ◌≡◌, ◌⊎◌, List, Some, IsSome, Contains}
use Rattle.std.specs.FinMap.{get}
use Rattle.pm3_types.specs.Fields.{Fields}
use Rattle.pm3_types.specs.Record.{Record}
use Rattle.pm3_types.specs.Places.{Refers}
use Rattle.pm3_types.specs.Graph.{Part, PartOf, with_part}
use Rattle.pm3_types.specs.Reached.{Reached, IsClosure}

-- h has the roots of g, and what g has under each name that is reached in g
pub record AgreesOnReached (catalog : List Fields) (g h : Part) : Type 0 where
  pub roots : g.roots ≡ h.roots
  pub records : (n : ℕ) (r : Record) → Reached catalog g n → get g.records n ≡ Some r → get h.records n ≡ Some r

-- a graph has one closure
abbrev pub OneClosure : Type 0
OneClosure = (catalog : List Fields) (g c d : Part) → IsClosure catalog g c → IsClosure catalog g d → c ≡ d

-- graphs that agree on what is reached in either have the same closure
abbrev pub AlikeClosures : Type 0
AlikeClosures = (catalog : List Fields) (g h c : Part)
    → AgreesOnReached catalog g h → AgreesOnReached catalog h g → IsClosure catalog g c → IsClosure catalog h c

-- what is reached in a part with roots is reached in each graph of which it is part
abbrev pub PartsReach : Type 0
PartsReach = (catalog : List Fields) (f g : Part) (n : ℕ) → PartOf f g → IsSome f.roots → Reached catalog f n → Reached catalog g n

-- a closure is its own closure
abbrev pub ClosureIsClosed : Type 0
ClosureIsClosed = (catalog : List Fields) (g c : Part) → IsClosure catalog g c → IsClosure catalog c c

-- n is in l or is reached in g
abbrev pub IsIn : List Fields → Part → Part → ℕ → Type 0
IsIn catalog g l n = IsSome (get l.records n) ⊎ Reached catalog g n

-- where the roots and the records of l refer to nothing but what is in l or is reached in g, each name that is reached in "g
-- with l" is in l or is reached in g
abbrev pub ReachedWith : Type 0
ReachedWith = (catalog : List Fields) (g l : Part)
    → ((names : List ℕ) (n : ℕ) → l.roots ≡ Some names → Contains names n → IsSome (get (with_part g l).records n) → IsIn catalog g l n)
    → ((m n : ℕ) (r : Record) → get l.records m ≡ Some r → Refers catalog r n → IsSome (get (with_part g l).records n) → IsIn catalog g l n)
    → (n : ℕ) → Reached catalog (with_part g l) n → IsIn catalog g l n
