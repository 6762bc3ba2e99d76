-- A graph is alike to its own reading: each number stands for the name that has it, and nil for nil.
use Rattle.std.proofs.Common.{◌≡◌, ◌+◌, ℕ, zero, suc, List, [], ◌∷◌, ◌++◌, Bool, true, false, cond, not, Option, None, Some, is_some, ◌⊎◌, inl, inr, refl, sym, arith, ap, subst, ◌∙◌, map, eq-eqb}
use Rattle.std.specs.Prelude.{◌==◌, ◌&&◌, fold, flat_map, unwrap_or, option_to_list}
use Rattle.std.specs.List.{AllZip, slice_get, range_with_len, position_from, list_all}
use Rattle.std.proofs.lemmas.Bool.Decides.{nat_tests}
use Rattle.std.proofs.lemmas.List.Folds.{list_all-append, list_any-append}
use Rattle.pm3_types.specs.Fields.{Fields, is_reference, has_refs}
use Rattle.pm3_types.specs.Record.{Record}
use Rattle.pm3_types.specs.Numbering.{is_among, meet, names_in_fields, names_in_by, names_in, names_of, names_under, look, met_from, number_of}
use Rattle.oo7_schema.specs.Lookup.{Look, listed_schema}
use Rattle.oo7_schema.specs.Flat.{Flat, number, numbered_fields, numbered_by, numbered, reading_of, object_of, flat_of}
use Rattle.oo7_schema.specs.Alike.{Pairing, AreAlike, AlikeFields, AlikeTail, AlikePlaces, AlikeRecords, AlikeObjects, AlikeFlats, met, Stands, IsClosed}
use Rattle.oo7_schema.proofs.Testing.{itself, and_first, and_second, or_cases, or_first, or_second}

same_name : (a b : ℕ) → (a == b) ≡ true → a ≡ b
same_name a b is = grind (arith, nat_tests)

both : (a b : Bool) → a ≡ true → b ≡ true → a && b ≡ true
both true b is also = also
both false b is also = cc

among_first : (xs ys : List ℕ) (n : ℕ) → is_among xs n ≡ true → is_among (xs ++ ys) n ≡ true
among_first xs ys n is = list_any-append (λ m. n == m) xs ys ∙ or_first (is_among xs n) (is_among ys n) is

among_second : (xs ys : List ℕ) (n : ℕ) → is_among ys n ≡ true → is_among (xs ++ ys) n ≡ true
among_second xs ys n is = list_any-append (λ m. n == m) xs ys ∙ or_second (is_among xs n) (is_among ys n) is

-- all names of a list have objects
abbrev pub AreThere : Look → List ℕ → Type 0
AreThere records ns = list_all (λ (n : ℕ). is_some (records n)) ns ≡ true

module _ (records : Look) where
  joined_there : (b : Bool) (n : ℕ) (met : List ℕ) → (b ≡ true → is_some (records n) ≡ true) → AreThere records met → AreThere records (cond b (met ++ n ∷ []) met)
  joined_there false n met new there = there
  joined_there true n met new there =
      list_all-append (λ (k : ℕ). is_some (records k)) met (n ∷ []) ∙ both (list_all (λ (k : ℕ). is_some (records k)) met) (is_some (records n) && true) there
      (both (is_some (records n)) true (new refl) refl)

  meet_there : (met ns : List ℕ) → AreThere records met → AreThere records (meet records met ns)
  meet_there met [] there = there
  meet_there met (n ∷ ns) there =
      meet_there (cond (is_some (records n) && not (is_among met n)) (met ++ n ∷ []) met) ns
      (joined_there (is_some (records n) && not (is_among met n)) n met (λ is. and_first (is_some (records n)) (not (is_among met n)) is) there)

  looks_there : (is met : List ℕ) → AreThere records met → AreThere records (fold (look listed_schema records) met is)
  looks_there [] met there = there
  looks_there (i ∷ is) met there =
      looks_there is (look listed_schema records met i) (meet_there met (names_under listed_schema records (slice_get met i)) there)

  pub met_there : (count : ℕ) (roots : List ℕ) → AreThere records (met_from listed_schema records count roots)
  met_there count roots = looks_there (range_with_len 0 count) (meet records [] roots) (meet_there [] roots refl)

  at_there : (ns : List ℕ) (k n : ℕ) → AreThere records ns → slice_get ns k ≡ Some n → is_some (records n) ≡ true
  at_there [] k n there is = cc
  at_there (m ∷ ns) zero n there is =
      let same : m ≡ n = cc in
      ap (λ (x : ℕ). is_some (records x)) (sym same) ∙ and_first (is_some (records m)) (list_all (λ (x : ℕ). is_some (records x)) ns) there
  at_there (m ∷ ns) (suc k) n there is = at_there ns k n (and_second (is_some (records m)) (list_all (λ (x : ℕ). is_some (records x)) ns) there) is

  head_listed : (o : Option Record) (rest : List Record) → is_some o ≡ true → slice_get (option_to_list o ++ rest) 0 ≡ o
  head_listed None rest there = cc
  head_listed (Some r) rest there = refl

  next_listed : (o : Option Record) (rest : List Record) (k : ℕ) → is_some o ≡ true → slice_get (option_to_list o ++ rest) (suc k) ≡ slice_get rest k
  next_listed None rest k there = cc
  next_listed (Some r) rest k there = refl

  objects_at : (ns : List ℕ) (k n : ℕ) → AreThere records ns → slice_get ns k ≡ Some n → slice_get (flat_map (λ (m : ℕ). option_to_list (records m)) ns) k ≡ records n
  objects_at [] k n there is = cc
  objects_at (m ∷ ns) zero n there is =
      let same : m ≡ n = cc in
      head_listed (records m) (flat_map (λ (x : ℕ). option_to_list (records x)) ns) (and_first (is_some (records m)) (list_all (λ (x : ℕ). is_some (records x)) ns) there)
      ∙ ap records same
  objects_at (m ∷ ns) (suc k) n there is =
      next_listed (records m) (flat_map (λ (x : ℕ). option_to_list (records x)) ns) k (and_first (is_some (records m)) (list_all (λ (x : ℕ). is_some (records x)) ns) there)
      ∙ objects_at ns k n (and_second (is_some (records m)) (list_all (λ (x : ℕ). is_some (records x)) ns) there) is

mapped_at : (h : Record → Record) (rs : List Record) (k : ℕ) (r : Record) → slice_get rs k ≡ Some r → slice_get (map h rs) k ≡ Some (h r)
mapped_at h [] k r is = cc
mapped_at h (x ∷ rs) zero r is = let same : x ≡ r = cc in ap (λ (y : Record). Some (h y)) same
mapped_at h (x ∷ rs) (suc k) r is = mapped_at h rs k r is

-- where a position was found, the name stands
record IsAt (xs : List ℕ) (from n j : ℕ) : Type 0 where
  place : ℕ
  counted : j ≡ from + place
  is : slice_get xs place ≡ Some n

position_by : (b : Bool) (x n i j : ℕ) (xs : List ℕ) → (x == n) ≡ b → cond b (Some i) (position_from (λ (y : ℕ). y == n) (i + 1) xs) ≡ Some j
    → (position_from (λ (y : ℕ). y == n) (i + 1) xs ≡ Some j → IsAt xs (i + 1) n j) → IsAt (x ∷ xs) i n j
position_by true x n i j xs test is later =
    let same : x ≡ n = same_name x n test in
    let first : i ≡ j = cc in
    record { place = 0; counted = omega arith; is = ap (λ (y : ℕ). Some y) same }
position_by false x n i j xs test is later =
    let rest : IsAt xs (i + 1) n j = later is in
    record { place = suc rest.place; counted = omega (arith, rest.counted); is = rest.is }

position_at : (n i j : ℕ) (xs : List ℕ) → position_from (λ (y : ℕ). y == n) i xs ≡ Some j → IsAt xs i n j
position_at n i j [] is = cc
position_at n i j (x ∷ xs) is = position_by (x == n) x n i j xs refl is (position_at n (i + 1) j xs)

flipped : (m n : ℕ) → (m == n) ≡ true → (n == m) ≡ true
flipped m n is = eq-eqb n m (sym (same_name m n is))

-- what is among a list has a position in it
record HasPosition (xs : List ℕ) (from n : ℕ) : Type 0 where
  number : ℕ
  is : position_from (λ (y : ℕ). y == n) from xs ≡ Some number

position_found : (b : Bool) (x n i : ℕ) (xs : List ℕ) → (x == n) ≡ b → (b ≡ false → HasPosition xs (i + 1) n) → HasPosition (x ∷ xs) i n
position_found true x n i xs test later = record { number = i; is = ap (λ (b : Bool). cond b (Some i) (position_from (λ (y : ℕ). y == n) (i + 1) xs)) test }
position_found false x n i xs test later = record {
  number = (later refl).number;
  is = ap (λ (b : Bool). cond b (Some i) (position_from (λ (y : ℕ). y == n) (i + 1) xs)) test ∙ (later refl).is;
}

position_of : (n i : ℕ) (xs : List ℕ) → is_among xs n ≡ true → HasPosition xs i n
position_of n i [] is = cc
position_of n i (x ∷ xs) is =
    position_found (x == n) x n i xs refl
    (λ apart. elim (or_cases (n == x) (is_among xs n) is) [
      | inl here ↦ cc (flipped n x here, apart)
      | inr later ↦ position_of n (i + 1) xs later
    ])

item_among : (xs : List ℕ) (k n : ℕ) → slice_get xs k ≡ Some n → is_among xs n ≡ true
item_among [] k n is = cc
item_among (x ∷ xs) zero n is = let same : n ≡ x = cc in or_first (n == x) (is_among xs n) (eq-eqb n x same)
item_among (x ∷ xs) (suc k) n is = or_second (n == x) (is_among xs n) (item_among xs k n is)

unnumbered : (o : Option ℕ) → ((i : ℕ) → o ≡ Some i → ⊥) → unwrap_or o 0 ≡ 0
unnumbered None never = refl
unnumbered (Some i) never = absurd (never i refl)

here_among : (b : Bool) (v : ℕ) (vs : List ℕ) → b ≡ true → is_among (cond b (v ∷ vs) vs) v ≡ true
here_among true v vs is = or_first (v == v) (is_among vs v) (itself v)
here_among false v vs is = cc

later_among : (b : Bool) (v n : ℕ) (vs : List ℕ) → is_among vs n ≡ true → is_among (cond b (v ∷ vs) vs) n ≡ true
later_among true v n vs is = or_second (n == v) (is_among vs n) is
later_among false v n vs is = is

numbered_class : (ns : List ℕ) (o : Option Fields) (r : Record) → (numbered_by ns o r).ty ≡ r.ty
numbered_class ns None r = refl
numbered_class ns (Some m) r = refl

both_there_by : (R : ℕ → ℕ → Type 0) (o p : Option Record) → AlikeObjects R o p → is_some o ≡ is_some p
both_there_by R None None alike = refl
both_there_by R None (Some s) alike = absurd alike
both_there_by R (Some r) None alike = absurd alike
both_there_by R (Some r) (Some s) alike = refl

module _ (g : Flat) (count : ℕ) (closed : IsClosed g count) where
  not_nil : (k : ℕ) → slice_get (met g count) k ≡ Some 0 → ⊥
  not_nil k is =
      let there : is_some (g.look 0) ≡ true = at_there g.look (met g count) k 0 (met_there g.look count g.roots) is in
      let none : is_some (g.look 0) ≡ false = ap (λ (o : Option Record). is_some o) closed.nil in
      cc (there, none)

  not_numbered : (i : ℕ) → number_of (met g count) 0 ≡ Some i → ⊥
  not_numbered i is =
      let at : IsAt (met g count) 1 0 i = position_at 0 1 i (met g count) is in
      not_nil at.place at.is

  one_name : (i n p : ℕ) → Stands (met g count) i n → Stands (met g count) i p → n ≡ p
  one_name i n p (inl is) (inl also) =
      let at : IsAt (met g count) 1 n i = position_at n 1 i (met g count) is in
      let other : IsAt (met g count) 1 p i = position_at p 1 i (met g count) also in
      let same : at.place ≡ other.place = omega (arith, at.counted, other.counted) in
      let first : Some n ≡ Some p = sym at.is ∙ ap (λ (k : ℕ). slice_get (met g count) k) same ∙ other.is in
      cc
  one_name i n p (inl is) (inr also) =
      let at : IsAt (met g count) 1 n i = position_at n 1 i (met g count) is in
      let zero_number : i ≡ 0 = also.0 in
      absurd (omega (arith, at.counted, zero_number))
  one_name i n p (inr is) (inl also) =
      let at : IsAt (met g count) 1 p i = position_at p 1 i (met g count) also in
      let zero_number : i ≡ 0 = is.0 in
      absurd (omega (arith, at.counted, zero_number))
  one_name i n p (inr is) (inr also) = is.1 ∙ sym also.1

  one_number : (i j n : ℕ) → Stands (met g count) i n → Stands (met g count) j n → i ≡ j
  one_number i j n (inl is) (inl also) = let same : Some i ≡ Some j = sym is ∙ also in cc
  one_number i j n (inl is) (inr also) =
      absurd (not_numbered i (ap (λ (k : ℕ). number_of (met g count) k) (sym also.1) ∙ is))
  one_number i j n (inr is) (inl also) =
      absurd (not_numbered j (ap (λ (k : ℕ). number_of (met g count) k) (sym is.1) ∙ also))
  one_number i j n (inr is) (inr also) = is.0 ∙ sym also.0

  pub numbers_pair : Pairing (Stands (met g count))
  numbers_pair = record { one = one_name; back = one_number; nil = inr (refl, refl) }

  -- the number of a name that is nil or met stands for it
  number_stands : (n : ℕ) → (n ≡ 0) ⊎ (is_among (met g count) n ≡ true)
      → Stands (met g count) (number (met g count) n) n
  number_stands n (inl nil) =
      inr (ap (λ (k : ℕ). number (met g count) k) nil ∙ unnumbered (number_of (met g count) 0) not_numbered, nil)
  number_stands n (inr among) =
      let found : HasPosition (met g count) 1 n = position_of n 1 (met g count) among in
      inl (found.is ∙ ap (λ (o : Option ℕ). Some (unwrap_or o 0)) (sym found.is))

  value_stands : (b : Bool) (v : ℕ) → (b ≡ true → (v ≡ 0) ⊎ (is_among (met g count) v ≡ true))
      → AreAlike (Stands (met g count)) b (cond b (number (met g count) v) v) v
  value_stands true v known = number_stands v (known refl)
  value_stands false v known = refl

  fields_stand : (map : Fields) (f : ℕ) (vs : List ℕ)
      → ((n : ℕ) → is_among (names_in_fields map f vs) n ≡ true → (n ≡ 0) ⊎ (is_among (met g count) n ≡ true))
      → AlikeFields (Stands (met g count)) map f (numbered_fields (met g count) map f vs) vs
  fields_stand map f [] known = tt
  fields_stand map f (v ∷ vs) known =
      let at : suc f ≡ f + 1 = omega arith in (
        value_stands (is_reference map f) v (λ is. known v (here_among (is_reference map f) v (names_in_fields map (f + 1) vs) is)),
        fields_stand map (suc f) vs (λ n among. known n (later_among (is_reference map f) v n (names_in_fields map (f + 1) vs)
            (subst (λ (k : ℕ). is_among (names_in_fields map k vs) n ≡ true) at among))),
      )

  names_stand : (vs : List ℕ) → ((n : ℕ) → is_among vs n ≡ true → (n ≡ 0) ⊎ (is_among (met g count) n ≡ true))
      → AllZip (Stands (met g count)) (map (number (met g count)) vs) vs
  names_stand [] known = tt
  names_stand (v ∷ vs) known =
      (number_stands v (known v (or_first (v == v) (is_among vs v) (itself v))), names_stand vs (λ n among. known n (or_second (n == v) (is_among vs n) among)))

  tail_stands : (b : Bool) (vs : List ℕ) → ((n : ℕ) → is_among (cond b vs []) n ≡ true → (n ≡ 0) ⊎ (is_among (met g count) n ≡ true))
      → AlikeTail (Stands (met g count)) b (cond b (map (number (met g count)) vs) vs) vs
  tail_stands true vs known = names_stand vs known
  tail_stands false vs known = refl

  places_stand : (o : Option Fields) (r : Record)
      → ((n : ℕ) → is_among (names_in_by o r) n ≡ true → (n ≡ 0) ⊎ (is_among (met g count) n ≡ true))
      → AlikePlaces (Stands (met g count)) o (numbered_by (met g count) o r) r
  places_stand None r known = (refl, refl)
  places_stand (Some m) r known = (
    fields_stand m 0 r.fields (λ n among. known n (among_first (names_in_fields m 0 r.fields) (cond (has_refs m.tail) r.tail []) n among)),
    tail_stands (has_refs m.tail) r.tail (λ n among. known n (among_second (names_in_fields m 0 r.fields) (cond (has_refs m.tail) r.tail []) n among)),
  )

  record_stands : (r : Record) → ((n : ℕ) → is_among (names_in listed_schema r) n ≡ true → (n ≡ 0) ⊎ (is_among (met g count) n ≡ true))
      → AlikeRecords (Stands (met g count)) (numbered (met g count) r) r
  record_stands r known = record {
    class = numbered_class (met g count) (slice_get listed_schema r.ty) r;
    places = subst (λ (ty : ℕ). AlikePlaces (Stands (met g count)) (slice_get listed_schema ty) (numbered (met g count) r) r)
        (sym (numbered_class (met g count) (slice_get listed_schema r.ty) r)) (places_stand (slice_get listed_schema r.ty) r known);
  }

  object_stands_by : (o : Option Record) (p : Option Record) → is_some o ≡ true
      → ((r : Record) → o ≡ Some r → p ≡ Some (numbered (met g count) r))
      → ((n : ℕ) → is_among (names_of listed_schema o) n ≡ true → (n ≡ 0) ⊎ (is_among (met g count) n ≡ true))
      → AlikeObjects (Stands (met g count)) p o
  object_stands_by None p there is known = cc
  object_stands_by (Some r) p there is known =
      subst (λ (q : Option Record). AlikeObjects (Stands (met g count)) q (Some r)) (sym (is r refl)) (record_stands r known)

  object_stands : (i n : ℕ) → Stands (met g count) i n
      → AlikeObjects (Stands (met g count)) (object_of (reading_of g count).objects i) (g.look n)
  object_stands i n (inl is) =
      let at : IsAt (met g count) 1 n i = position_at n 1 i (met g count) is in
      let next : suc at.place ≡ i = omega (arith, at.counted) in
      subst (λ (k : ℕ). AlikeObjects (Stands (met g count)) (object_of (reading_of g count).objects k) (g.look n)) next
      (object_stands_by (g.look n) (slice_get (reading_of g count).objects at.place)
      (at_there g.look (met g count) at.place n (met_there g.look count g.roots) at.is)
      (λ r there. mapped_at (numbered (met g count)) (flat_map (λ (m : ℕ). option_to_list (g.look m)) (met g count)) at.place r
      (objects_at g.look (met g count) at.place n (met_there g.look count g.roots) at.is ∙ there))
      (λ m among. closed.refers n m (item_among (met g count) at.place n at.is) among))
  object_stands i n (inr is) =
      let none : g.look n ≡ None = ap g.look is.1 ∙ closed.nil in
      subst (λ (o : Option Record). AlikeObjects (Stands (met g count)) (object_of (reading_of g count).objects i) o) (sym none)
      (subst (λ (k : ℕ). AlikeObjects (Stands (met g count)) (object_of (reading_of g count).objects k) None) (sym is.0) tt)

  pub reading_stands : AlikeFlats (Stands (met g count)) (flat_of (reading_of g count)) g
  reading_stands = record { looks = record { at = object_stands }; roots = names_stand g.roots closed.roots }

  -- a number that a name has is that of an object, and so is the name
  pub stands_there : (i n : ℕ) → number_of (met g count) n ≡ Some i → ((flat_of (reading_of g count)).look i ≡ None → ⊥) × (g.look n ≡ None → ⊥)
  stands_there i n is =
      let at : IsAt (met g count) 1 n i = position_at n 1 i (met g count) is in
      let there : is_some (g.look n) ≡ true = at_there g.look (met g count) at.place n (met_there g.look count g.roots) at.is in
      let alike : is_some (object_of (reading_of g count).objects i) ≡ is_some (g.look n) =
      both_there_by (Stands (met g count)) (object_of (reading_of g count).objects i) (g.look n) (object_stands i n (inl is)) in
      (λ none. cc (alike, there, ap (λ (o : Option Record). is_some o) none), λ none. cc (there, ap (λ (o : Option Record). is_some o) none))
