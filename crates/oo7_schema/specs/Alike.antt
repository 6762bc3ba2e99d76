-- Graphs that differ in their names alone. Likeness is told by a relation of names, so that nothing need be said of names that
-- nothing leads to.
use Rattle.std.specs.Prelude.{ℕ, suc, ◌≡◌, ◌⊎◌, List, [], ◌∷◌, Bool, true, false, Option, None, Some}
use Rattle.std.specs.List.{AllZip, slice_get}
use Rattle.pm3_types.specs.Fields.{Fields, is_reference, has_refs}
use Rattle.pm3_types.specs.Record.{Record}
use Rattle.pm3_types.specs.Numbering.{is_among, met_from, names_of, number_of}
use Rattle.oo7_schema.specs.Lookup.{Look, listed_schema}
use Rattle.oo7_schema.specs.Flat.{Flat}

-- each name stands for at most one, at most one stands for it, and nil stands for nil
pub record Pairing (R : ℕ → ℕ → Type 0) : Type 0 where
  pub one : (m n p : ℕ) → R m n → R m p → n ≡ p
  pub back : (m q n : ℕ) → R m n → R q n → m ≡ q
  pub nil : R 0 0

-- names that stand for each other, where these are names, and else equal words
abbrev pub AreAlike : (ℕ → ℕ → Type 0) → Bool → ℕ → ℕ → Type 0
AreAlike R true v w = R v w
AreAlike R false v w = v ≡ w

-- the values of the fields from f on
abbrev pub AlikeFields : (ℕ → ℕ → Type 0) → Fields → ℕ → List ℕ → List ℕ → Type 0
AlikeFields R map f [] [] = Unit {0}
AlikeFields R map f [] (w ∷ ws) = ⊥
AlikeFields R map f (v ∷ vs) [] = ⊥
AlikeFields R map f (v ∷ vs) (w ∷ ws) = AreAlike R (is_reference map f) v w × AlikeFields R map (suc f) vs ws

abbrev pub AlikeTail : (ℕ → ℕ → Type 0) → Bool → List ℕ → List ℕ → Type 0
AlikeTail R true vs ws = AllZip R vs ws
AlikeTail R false vs ws = vs ≡ ws

-- the places of two records of a class; a class that is not there has no names
abbrev pub AlikePlaces : (ℕ → ℕ → Type 0) → Option Fields → Record → Record → Type 0
AlikePlaces R None r s = (r.fields ≡ s.fields) × (r.tail ≡ s.tail)
AlikePlaces R (Some map) r s = AlikeFields R map 0 r.fields s.fields × AlikeTail R (has_refs map.tail) r.tail s.tail

-- records of one class, with equal words and names that stand for each other
pub record AlikeRecords (R : ℕ → ℕ → Type 0) (r s : Record) : Type 0 where
  pub class : r.ty ≡ s.ty
  pub places : AlikePlaces R (slice_get listed_schema r.ty) r s

abbrev pub AlikeObjects : (ℕ → ℕ → Type 0) → Option Record → Option Record → Type 0
AlikeObjects R None None = Unit {0}
AlikeObjects R None (Some s) = ⊥
AlikeObjects R (Some r) None = ⊥
AlikeObjects R (Some r) (Some s) = AlikeRecords R r s

-- names that stand for each other have alike objects
pub record Alike (R : ℕ → ℕ → Type 0) (f g : Look) : Type 0 where
  pub at : (m n : ℕ) → R m n → AlikeObjects R (f m) (g n)

-- graphs whose roots and objects are alike
pub record AlikeFlats (R : ℕ → ℕ → Type 0) (f g : Flat) : Type 0 where
  pub looks : Alike R f.look g.look
  pub roots : AllZip R f.roots g.roots

-- the names that are met in a graph by so many looks
abbrev pub met : Flat → ℕ → List ℕ
met g count = met_from listed_schema g.look count g.roots

-- a number stands for the name that has it, and nil for nil
abbrev pub Stands : List ℕ → ℕ → ℕ → Type 0
Stands ns i n = (number_of ns n ≡ Some i) ⊎ ((i ≡ 0) × (n ≡ 0))

-- so many looks find all that is reached: each name that is met or that a root or an object met has is nil or met and there
pub record IsClosed (g : Flat) (count : ℕ) : Type 0 where
  pub nil : g.look 0 ≡ None
  pub roots : (n : ℕ) → is_among g.roots n ≡ true → (n ≡ 0) ⊎ (is_among (met g count) n ≡ true)
  pub refers : (m n : ℕ) → is_among (met g count) m ≡ true → is_among (names_of listed_schema (g.look m)) n ≡ true
      → (n ≡ 0) ⊎ (is_among (met g count) n ≡ true)
