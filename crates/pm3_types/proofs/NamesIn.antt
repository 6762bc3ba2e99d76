-- The names in a record's reference places are those to which it refers.
use Rattle.std.proofs.Common.{◌≡◌, ◌<◌, ◌+◌, ℕ, zero, suc, List, [], ◌∷◌, ◌++◌, length, Bool, true, false, cond, Option, None, Some, refl, sym, arith, ap, ◌∙◌, nat_lt, ◌⊎◌, inl, inr, subst}
use Rattle.std.specs.Prelude.{◌==◌, ◌&&◌, ◌||◌, slice_get, slice_index, Contains}
use Rattle.std.specs.Cmp.{nat_eq_equiv}
use Rattle.std.proofs.lemmas.Bool.Decides.{nat_tests}
use Rattle.std.proofs.lemmas.List.Folds.{list_any-append}
use Rattle.std.proofs.lemmas.Map.Views.{list_any-from_Contains, Contains-from_any}
use Rattle.pm3_types.specs.declared.places.Place.{Place}
use Rattle.pm3_types.specs.declared.places.Place.TheVariants.{Word, Reference, TailRef, Byte}
use Rattle.pm3_types.specs.Fields.{Fields, is_reference, has_refs}
use Rattle.pm3_types.specs.Record.{Record}
use Rattle.pm3_types.specs.Places.{is_place_of, is_place_by, value_at, is_for_names, Refers}
use Rattle.pm3_types.specs.Numbering.{names_in, names_in_by, names_in_fields, is_among}

pub same_name : (a b : ℕ) → (a == b) ≡ true → a ≡ b
same_name a b is = grind (arith, nat_tests)

pub itself : (n : ℕ) → (n == n) ≡ true
itself n = grind (arith, nat_tests)

pub and_first : (a b : Bool) → a && b ≡ true → a ≡ true
and_first true b is = refl
and_first false b is = cc

pub and_second : (a b : Bool) → a && b ≡ true → b ≡ true
and_second true b is = is
and_second false b is = cc

both : (a b : Bool) → a ≡ true → b ≡ true → a && b ≡ true
both true b is also = also
both false b is also = cc

pub or_first : (a b : Bool) → a ≡ true → a || b ≡ true
or_first true b is = refl
or_first false b is = cc

pub or_second : (a b : Bool) → b ≡ true → a || b ≡ true
or_second true b is = refl
or_second false b is = is

pub or_cases : (a b : Bool) → a || b ≡ true → (a ≡ true) ⊎ (b ≡ true)
or_cases true b is = inl refl
or_cases false b is = inr is

-- a name among two lists
pub among_first : (xs ys : List ℕ) (n : ℕ) → is_among xs n ≡ true → is_among (xs ++ ys) n ≡ true
among_first xs ys n is = list_any-append (λ m. n == m) xs ys ∙ or_first _ _ is

pub among_second : (xs ys : List ℕ) (n : ℕ) → is_among ys n ≡ true → is_among (xs ++ ys) n ≡ true
among_second xs ys n is = list_any-append (λ m. n == m) xs ys ∙ or_second _ _ is

pub among_either : (xs ys : List ℕ) (n : ℕ) → is_among (xs ++ ys) n ≡ true → (is_among xs n ≡ true) ⊎ (is_among ys n ≡ true)
among_either xs ys n is = or_cases _ _ (sym (list_any-append (λ m. n == m) xs ys) ∙ is)

pub among_contained : (xs : List ℕ) (n : ℕ) → Contains xs n → is_among xs n ≡ true
among_contained xs n is = list_any-from_Contains nat_eq_equiv n xs is

pub contained_among : (xs : List ℕ) (n : ℕ) → is_among xs n ≡ true → Contains xs n
contained_among xs n is = Contains-from_any same_name n xs is

-- an item of a list is among it, and what is among it is an item
item_among : (xs : List ℕ) (k : ℕ) → k < length xs → is_among xs (slice_index xs k) ≡ true
item_among [] k less = absurd (omega arith)
item_among (x ∷ xs) zero less = or_first _ _ (itself x)
item_among (x ∷ xs) (suc k) less = or_second _ _ (item_among xs k (omega arith))

among_item : (xs : List ℕ) (n : ℕ) → is_among xs n ≡ true → (k : ℕ) × (k < length xs) × (slice_index xs k ≡ n)
among_item [] n is = cc
among_item (x ∷ xs) n is = elim (or_cases (n == x) (is_among xs n) is) [
  | inl here ↦ (zero, omega arith, sym (same_name n x here))
  | inr later ↦ let rest = among_item xs n later in (suc rest.0, omega (arith, rest.1), rest.2)
]

among_cond : (b : Bool) (x n : ℕ) (xs : List ℕ) → is_among xs n ≡ true → is_among (cond b (x ∷ xs) xs) n ≡ true
among_cond true x n xs is = or_second _ _ is
among_cond false x n xs is = is

head_among : (b : Bool) (x : ℕ) (xs : List ℕ) → b ≡ true → is_among (cond b (x ∷ xs) xs) x ≡ true
head_among true x xs is = or_first _ _ (itself x)
head_among false x xs is = cc

module _ (map : Fields) where
  field_among : (base f : ℕ) (vs : List ℕ) → f < length vs → is_reference map (base + f) ≡ true → is_among (names_in_fields map base vs) (slice_index vs f) ≡ true
  field_among base f [] less is = absurd (omega arith)
  field_among base zero (v ∷ vs) less is =
      let here : is_reference map base ≡ true = ap (is_reference map) (omega arith) ∙ is in
      head_among (is_reference map base) v (names_in_fields map (base + 1) vs) here
  field_among base (suc f) (v ∷ vs) less is =
      let there : is_reference map (base + 1 + f) ≡ true = ap (is_reference map) (omega arith) ∙ is in
      among_cond (is_reference map base) v (slice_index vs f) (names_in_fields map (base + 1) vs) (field_among (base + 1) f vs (omega arith) there)

  -- the field in which a name stands
  record InField (base : ℕ) (vs : List ℕ) (n : ℕ) : Type 0 where
    f : ℕ
    less : f < length vs
    reference : is_reference map (base + f) ≡ true
    value : slice_index vs f ≡ n

  later_field : (base v n : ℕ) (vs : List ℕ) → InField (base + 1) vs n → InField base (v ∷ vs) n
  later_field base v n vs is = record {
    f = suc is.f;
    less = omega (arith, is.less);
    reference = ap (is_reference map) (omega arith) ∙ is.reference;
    value = is.value;
  }

  among_cases : (b : Bool) (x n : ℕ) (xs : List ℕ) → is_among (cond b (x ∷ xs) xs) n ≡ true → ((b ≡ true) × (n ≡ x)) ⊎ (is_among xs n ≡ true)
  among_cases false x n xs is = inr is
  among_cases true x n xs is = elim (or_cases (n == x) (is_among xs n) is) [ inl here ↦ inl (refl, same_name n x here) | inr later ↦ inr later ]

  among_field : (base n : ℕ) (vs : List ℕ) → is_among (names_in_fields map base vs) n ≡ true → InField base vs n
  among_field base n [] is = cc
  among_field base n (v ∷ vs) is = elim (among_cases (is_reference map base) v n (names_in_fields map (base + 1) vs) is) [
    | inl here ↦ record { f = zero; less = omega arith; reference = ap (is_reference map) (omega arith) ∙ here.0; value = sym here.1 }
    | inr later ↦ later_field base v n vs (among_field (base + 1) n vs later)
  ]

less_of : (m n : ℕ) → nat_lt m n ≡ true → m < n
less_of m n is = grind (arith, nat_tests)

of_less : (m n : ℕ) → m < n → nat_lt m n ≡ true
of_less m n is = grind (arith, nat_tests)

tail_cond : (b : Bool) (n : ℕ) (items : List ℕ) → b ≡ true → is_among items n ≡ true → is_among (cond b items []) n ≡ true
tail_cond true n items is among = among
tail_cond false n items is among = cc

cond_tail : (b : Bool) (n : ℕ) (items : List ℕ) → is_among (cond b items []) n ≡ true → (b ≡ true) × (is_among items n ≡ true)
cond_tail true n items among = (refl, among)
cond_tail false n items among = cc

renamed : (xs : List ℕ) (m n : ℕ) → m ≡ n → is_among xs m ≡ true → is_among xs n ≡ true
renamed xs m n is among = subst (λ (k : ℕ). is_among xs k ≡ true) is among

place_among : (map : Fields) (r : Record) (n : ℕ) (place : Place) → is_place_of map r place ≡ true → is_for_names place ≡ true → value_at r place ≡ n
    → is_among (names_in_by (Some map) r) n ≡ true
place_among map r n (Word f) there names value = cc
place_among map r n (Byte k) there names value = cc
place_among map r n (Reference f) there names value =
    among_first (names_in_fields map 0 r.fields) _ n
    (renamed (names_in_fields map 0 r.fields) _ n value
    (field_among map 0 f r.fields (less_of f (length r.fields) (and_first (nat_lt f (length r.fields)) (is_reference map f) there))
    (ap (is_reference map) (omega arith) ∙ and_second (nat_lt f (length r.fields)) (is_reference map f) there)))
place_among map r n (TailRef k) there names value =
    among_second (names_in_fields map 0 r.fields) _ n
    (tail_cond (has_refs map.tail) n r.tail (and_first (has_refs map.tail) (nat_lt k (length r.tail)) there)
    (renamed r.tail _ n value (item_among r.tail k (less_of k (length r.tail) (and_second (has_refs map.tail) (nat_lt k (length r.tail)) there)))))

place_by : (o : Option Fields) (r : Record) (n : ℕ) (place : Place) → is_place_by o r place ≡ true → is_for_names place ≡ true → value_at r place ≡ n
    → is_among (names_in_by o r) n ≡ true
place_by None r n place there names value = cc
place_by (Some map) r n place there names value = place_among map r n place there names value

-- a name to which a record refers is among its names
pub refers_among : (catalog : List Fields) (r : Record) (n : ℕ) → Refers catalog r n → is_among (names_in catalog r) n ≡ true
refers_among catalog r n refers =
    place_by (slice_get catalog r.ty) r n refers.place refers.there refers.for_names refers.value

-- a place for names in which a name stands
record NamePlace (o : Option Fields) (r : Record) (n : ℕ) : Type 0 where
  place : Place
  there : is_place_by o r place ≡ true
  for_names : is_for_names place ≡ true
  value : value_at r place ≡ n

among_place : (map : Fields) (r : Record) (n : ℕ) → (is_among (names_in_fields map 0 r.fields) n ≡ true) ⊎ (is_among (cond (has_refs map.tail) r.tail []) n ≡ true)
    → NamePlace (Some map) r n
among_place map r n (inl among) =
    let field = among_field map 0 n r.fields among in
    record {
      place = Reference field.f;
      there = both _ _ (of_less field.f (length r.fields) field.less) (ap (is_reference map) (omega arith) ∙ field.reference);
      for_names = refl;
      value = field.value;
    }
among_place map r n (inr among) =
    let tail = cond_tail (has_refs map.tail) n r.tail among in
    let item = among_item r.tail n tail.1 in
    record { place = TailRef item.0; there = both _ _ tail.0 (of_less item.0 (length r.tail) item.1); for_names = refl; value = item.2 }

among_by : (o : Option Fields) (r : Record) (n : ℕ) → is_among (names_in_by o r) n ≡ true → NamePlace o r n
among_by None r n among = cc
among_by (Some map) r n among = among_place map r n (among_either (names_in_fields map 0 r.fields) (cond (has_refs map.tail) r.tail []) n among)

-- a record refers to each of its names
pub among_refers : (catalog : List Fields) (r : Record) (n : ℕ) → is_among (names_in catalog r) n ≡ true → Refers catalog r n
among_refers catalog r n among =
    let found = among_by (slice_get catalog r.ty) r n among in
    record { place = found.place; there = found.there; for_names = found.for_names; value = found.value }
