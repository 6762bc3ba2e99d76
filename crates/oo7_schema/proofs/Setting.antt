-- What a design's module and its base assemblies are once words and places of theirs are set.
use Rattle.std.proofs.Common.{◌≡◌, ◌+◌, ◌<◌, ℕ, zero, suc, List, [], ◌∷◌, Bool, false, cond, Option, Some, ◌⊎◌, inl, inr, refl, sym, arith, ap, subst, ◌∙◌, get_or}
use Rattle.std.specs.Prelude.{◌==◌}
use Rattle.std.specs.List.{slice_get}
use Rattle.pm3_types.specs.declared.places.Place.{Place}
use Rattle.pm3_types.specs.declared.places.Place.TheVariants.{Word, Reference}
use Rattle.pm3_types.specs.Fields.{Fields, is_reference}
use Rattle.pm3_types.specs.Record.{Record}
use Rattle.oo7_schema.specs.Lookup.{Look, listed_schema, value_in, set_in, set}
use Rattle.oo7_schema.specs.Nodes.{IsOf}
use Rattle.oo7_schema.proofs.Testing.{itself}
use Rattle.oo7_schema.proofs.Pieces.{written_out}
use Rattle.oo7_schema.proofs.Rebasing.{Asks, no_items, base, Uses}

pub set_off : (look : Look) (n : ℕ) (place : Place) (value m : ℕ) → (m == n) ≡ false → set look n place value m ≡ look m
set_off look n place value m off = ap (λ (b : Bool). cond b (set_in place value (look n)) (look m)) off

pub set_here : (look : Look) (n : ℕ) (place : Place) (value : ℕ) → set look n place value n ≡ set_in place value (look n)
set_here look n place value = ap (λ (b : Bool). cond b (set_in place value (look n)) (look n)) (itself n)

-- a module, written out
abbrev pub head : ℕ → ℕ → ℕ → ℕ → ℕ → ℕ → ℕ → Record
head id size atomic composite assemblies manual root = record { ty = 0; fields = id ∷ size ∷ atomic ∷ composite ∷ assemblies ∷ manual ∷ root ∷ []; tail = [] }

pub record HeadAt (o : Option Record) : Type 0 where
  pub id : ℕ
  pub size : ℕ
  pub atomic : ℕ
  pub composite : ℕ
  pub assemblies : ℕ
  pub manual : ℕ
  pub root : ℕ
  pub is : o ≡ Some (head id size atomic composite assemblies manual root)

pub head_at : (look : Look) (n : ℕ) → IsOf look 0 n → HeadAt (look n)
head_at look n of =
    let asks : Asks (slice_get listed_schema 0) of.object =
    subst (λ (o : Option Fields). Asks o of.object) (sym of.fits.of ∙ ap (λ (ty : ℕ). slice_get listed_schema ty) of.of) (of.fits.fields, of.fits.tail) in
    let fields : List ℕ = of.object.fields in
    let tail : of.object.tail ≡ [] = no_items of.object.tail (asks.1 refl) in
    record {
      id = get_or fields 0 0;
      size = get_or fields 1 0;
      atomic = get_or fields 2 0;
      composite = get_or fields 3 0;
      assemblies = get_or fields 4 0;
      manual = get_or fields 5 0;
      root = get_or fields 6 0;
      is = of.is ∙ (λ i. Some (record { ty = of.of i; fields = written_out fields 7 asks.0 i; tail = tail i }));
    }

-- with other greatest ids
pub head_set : (id size atomic composite assemblies manual root a c : ℕ)
    → set_in (Word 3) c (set_in (Word 2) a (Some (head id size atomic composite assemblies manual root))) ≡ Some (head id size a c assemblies manual root)
unfolding is_reference
head_set id size atomic composite assemblies manual root a c = refl

-- what a module's places say
pub record HeadSays (id size atomic composite assemblies manual root : ℕ) : Type 0 where
  pub size_is : value_in (Some (head id size atomic composite assemblies manual root)) (Word 1) ≡ size
  pub atomic_is : value_in (Some (head id size atomic composite assemblies manual root)) (Word 2) ≡ atomic
  pub composite_is : value_in (Some (head id size atomic composite assemblies manual root)) (Word 3) ≡ composite
  pub manual_is : value_in (Some (head id size atomic composite assemblies manual root)) (Reference 5) ≡ manual
  pub root_is : value_in (Some (head id size atomic composite assemblies manual root)) (Reference 6) ≡ root

pub head_says : (id size atomic composite assemblies manual root : ℕ) → HeadSays id size atomic composite assemblies manual root
unfolding is_reference
head_says id size atomic composite assemblies manual root = record { size_is = refl; atomic_is = refl; composite_is = refl; manual_is = refl; root_is = refl }

-- this holds of a name, or it is c
abbrev pub Or : (ℕ → Type 0) → ℕ → ℕ → Type 0
Or P c n = P n ⊎ (n ≡ c)

first_set : (c id date one two three : ℕ) → set_in (Reference 2) c (Some (base id date one two three)) ≡ Some (base id date c two three)
unfolding is_reference
first_set c id date one two three = refl

second_set : (c id date one two three : ℕ) → set_in (Reference 3) c (Some (base id date one two three)) ≡ Some (base id date one c three)
unfolding is_reference
second_set c id date one two three = refl

third_set : (c id date one two three : ℕ) → set_in (Reference 4) c (Some (base id date one two three)) ≡ Some (base id date one two c)
unfolding is_reference
third_set c id date one two three = refl

-- a base assembly of which one of three places is set
pub uses_set : (P : ℕ → Type 0) (c place : ℕ) (o : Option Record) → place < 3 → Uses P o → Uses (Or P c) (set_in (Reference (2 + place)) c o)
uses_set P c zero o low uses = record {
  id = uses.id;
  date = uses.date;
  one = c;
  two = uses.two;
  three = uses.three;
  is = ap (set_in (Reference 2) c) uses.is ∙ first_set c uses.id uses.date uses.one uses.two uses.three;
  first = inr refl;
  second = inl uses.second;
  third = inl uses.third;
}
uses_set P c (suc zero) o low uses = record {
  id = uses.id;
  date = uses.date;
  one = uses.one;
  two = c;
  three = uses.three;
  is = ap (set_in (Reference 3) c) uses.is ∙ second_set c uses.id uses.date uses.one uses.two uses.three;
  first = inl uses.first;
  second = inr refl;
  third = inl uses.third;
}
uses_set P c (suc (suc zero)) o low uses = record {
  id = uses.id;
  date = uses.date;
  one = uses.one;
  two = uses.two;
  three = c;
  is = ap (set_in (Reference 4) c) uses.is ∙ third_set c uses.id uses.date uses.one uses.two uses.three;
  first = inl uses.first;
  second = inl uses.second;
  third = inr refl;
}
uses_set P c (suc (suc (suc place))) o low uses = absurd (omega arith)
