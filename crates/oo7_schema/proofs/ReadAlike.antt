-- What is read of alike objects is alike.
use Rattle.std.proofs.Common.{◌≡◌, ◌+◌, ◌<◌, ℕ, zero, suc, List, [], ◌∷◌, length, Bool, true, false, cond, not, Option, None, Some, refl, sym, arith, ap, subst, ◌∙◌, get_or, eq-eqb, nat_lt}
use Rattle.std.specs.Prelude.{◌==◌, ◌&&◌, slice_index}
use Rattle.std.specs.List.{AllZip, slice_get}
use Rattle.std.proofs.lemmas.Bool.Decides.{nat_tests}
use Rattle.pm3_types.specs.declared.type_map.Tail.{Tail}
use Rattle.pm3_types.specs.declared.type_map.Tail.TheVariants.{Empty, Refs, Bytes}
use Rattle.pm3_types.specs.declared.places.Place.TheVariants.{Word, Reference}
use Rattle.pm3_types.specs.Fields.{Fields, is_reference, has_refs, has_bytes}
use Rattle.pm3_types.specs.Record.{Record}
use Rattle.pm3_types.specs.Places.{is_place_by}
use Rattle.pm3_types.specs.Numbering.{is_among}
use Rattle.oo7_schema.specs.Lookup.{Look, listed_schema, value_in, tail_in, tail_by, word, reference, items, bytes}
use Rattle.oo7_schema.specs.Alike.{Pairing, AreAlike, AlikeFields, AlikeTail, AlikePlaces, AlikeObjects, Alike}
use Rattle.oo7_schema.proofs.Zips.{zip_any}
use Rattle.oo7_schema.proofs.Testing.{same_number, and_first, and_second}

less_of : (m n : ℕ) → nat_lt m n ≡ true → m < n
less_of m n is = grind (arith, nat_tests)

-- two tests that lead to each other are one
both_ways : (a b : Bool) → (a ≡ true → b ≡ true) → (b ≡ true → a ≡ true) → a ≡ b
both_ways true b there back = sym (there refl)
both_ways false true there back = back refl
both_ways false false there back = refl

module _ (R : ℕ → ℕ → Type 0) where
  pub fields_length : (map : Fields) (f : ℕ) (vs ws : List ℕ) → AlikeFields R map f vs ws → length vs ≡ length ws
  fields_length map f [] [] alike = refl
  fields_length map f [] (w ∷ ws) alike = absurd alike
  fields_length map f (v ∷ vs) [] alike = absurd alike
  fields_length map f (v ∷ vs) (w ∷ ws) alike = ap (λ (n : ℕ). suc n) (fields_length map (suc f) vs ws alike.1)

  pub field_alike : (map : Fields) (f k : ℕ) (vs ws : List ℕ) → AlikeFields R map f vs ws → k < length vs
      → AreAlike R (is_reference map (f + k)) (get_or vs k 0) (get_or ws k 0)
  field_alike map f k [] [] alike less = absurd (omega arith)
  field_alike map f k [] (w ∷ ws) alike less = absurd alike
  field_alike map f k (v ∷ vs) [] alike less = absurd alike
  field_alike map f zero (v ∷ vs) (w ∷ ws) alike less =
      let at : f ≡ f + 0 = omega arith in
      subst (λ (n : ℕ). AreAlike R (is_reference map n) v w) at alike.0
  field_alike map f (suc k) (v ∷ vs) (w ∷ ws) alike less =
      let at : suc f + k ≡ f + suc k = omega arith in
      subst (λ (n : ℕ). AreAlike R (is_reference map n) (get_or vs k 0) (get_or ws k 0)) at
      (field_alike map (suc f) k vs ws alike.1 (omega arith))

  -- a name where a test holds, and nil else
  guarded_name : R 0 0 → (b c : Bool) (v w : ℕ) → (b && c ≡ true → R v w) → R (cond (b && c) v 0) (cond (b && c) w 0)
  guarded_name nil true true v w alike = alike refl
  guarded_name nil true false v w alike = nil
  guarded_name nil false c v w alike = nil

  name_there : (b c : Bool) (v w : ℕ) → c ≡ b → b ≡ true → AreAlike R c v w → R v w
  name_there b true v w same is alike = alike
  name_there true false v w same is alike = cc
  name_there false false v w same is alike = cc

  word_there : (c : Bool) (v w : ℕ) → not c ≡ true → AreAlike R c v w → v ≡ w
  word_there false v w is alike = alike
  word_there true v w is alike = cc

  guarded_word : (b : Bool) (v w : ℕ) → (b ≡ true → v ≡ w) → cond b v 0 ≡ cond b w 0
  guarded_word true v w same = same refl
  guarded_word false v w same = refl

  name_in : R 0 0 → (k : ℕ) (o : Option Fields) (r s : Record) → AlikePlaces R o r s
      → R (cond (is_place_by o r (Reference k)) (slice_index r.fields k) 0) (cond (is_place_by o s (Reference k)) (slice_index s.fields k) 0)
  name_in nil k None r s alike = nil
  name_in nil k (Some map) r s alike =
      let long : length r.fields ≡ length s.fields = fields_length map 0 r.fields s.fields alike.0 in
      let at : 0 + k ≡ k = omega arith in
      subst (λ (n : ℕ). R (cond (nat_lt k (length r.fields) && is_reference map k) (slice_index r.fields k) 0) (cond (nat_lt k n && is_reference map k) (slice_index s.fields k) 0)) long
      (guarded_name nil (nat_lt k (length r.fields)) (is_reference map k) (slice_index r.fields k) (slice_index s.fields k)
      (λ is. name_there (is_reference map k) (is_reference map (0 + k)) (slice_index r.fields k) (slice_index s.fields k)
      (ap (is_reference map) at) (and_second (nat_lt k (length r.fields)) (is_reference map k) is)
      (field_alike map 0 k r.fields s.fields alike.0 (less_of k (length r.fields) (and_first (nat_lt k (length r.fields)) (is_reference map k) is)))))

  word_in : (k : ℕ) (o : Option Fields) (r s : Record) → AlikePlaces R o r s
      → cond (is_place_by o r (Word k)) (slice_index r.fields k) 0 ≡ cond (is_place_by o s (Word k)) (slice_index s.fields k) 0
  word_in k None r s alike = refl
  word_in k (Some map) r s alike =
      let long : length r.fields ≡ length s.fields = fields_length map 0 r.fields s.fields alike.0 in
      let at : 0 + k ≡ k = omega arith in
      let there : nat_lt k (length r.fields) && not (is_reference map k) ≡ true → slice_index r.fields k ≡ slice_index s.fields k =
      (λ is. word_there (is_reference map (0 + k)) (slice_index r.fields k) (slice_index s.fields k)
      (ap (λ (n : ℕ). not (is_reference map n)) at ∙ and_second (nat_lt k (length r.fields)) (not (is_reference map k)) is)
      (field_alike map 0 k r.fields s.fields alike.0 (less_of k (length r.fields) (and_first (nat_lt k (length r.fields)) (not (is_reference map k)) is)))) in
      guarded_word (nat_lt k (length r.fields) && not (is_reference map k)) (slice_index r.fields k) (slice_index s.fields k) there
      ∙ ap (λ (n : ℕ). cond (nat_lt k n && not (is_reference map k)) (slice_index s.fields k) 0) long

  pub value_name : R 0 0 → (k : ℕ) (o p : Option Record) → AlikeObjects R o p → R (value_in o (Reference k)) (value_in p (Reference k))
  value_name nil k None None alike = nil
  value_name nil k None (Some s) alike = absurd alike
  value_name nil k (Some r) None alike = absurd alike
  value_name nil k (Some r) (Some s) alike =
      subst (λ (ty : ℕ). R (value_in (Some r) (Reference k)) (cond (is_place_by (slice_get listed_schema ty) s (Reference k)) (slice_index s.fields k) 0)) alike.class
      (name_in nil k (slice_get listed_schema r.ty) r s alike.places)

  pub value_word : (k : ℕ) (o p : Option Record) → AlikeObjects R o p → value_in o (Word k) ≡ value_in p (Word k)
  value_word k None None alike = refl
  value_word k None (Some s) alike = absurd alike
  value_word k (Some r) None alike = absurd alike
  value_word k (Some r) (Some s) alike =
      word_in k (slice_get listed_schema r.ty) r s alike.places
      ∙ ap (λ (ty : ℕ). cond (is_place_by (slice_get listed_schema ty) s (Word k)) (slice_index s.fields k) 0) alike.class

  tail_names : (t : Tail) (vs ws : List ℕ) → AlikeTail R (has_refs t) vs ws → AllZip R (cond (has_refs t) vs []) (cond (has_refs t) ws [])
  tail_names Empty vs ws alike = tt
  tail_names Refs vs ws alike = alike
  tail_names Bytes vs ws alike = tt

  tail_bytes : (t : Tail) (vs ws : List ℕ) → AlikeTail R (has_refs t) vs ws → cond (has_bytes t) vs [] ≡ cond (has_bytes t) ws []
  tail_bytes Empty vs ws alike = refl
  tail_bytes Refs vs ws alike = refl
  tail_bytes Bytes vs ws alike = alike

  names_by : (o : Option Fields) (r s : Record) → AlikePlaces R o r s → AllZip R (tail_by (λ (map : Fields). has_refs map.tail) o r.tail) (tail_by (λ (map : Fields). has_refs map.tail) o s.tail)
  names_by None r s alike = tt
  names_by (Some map) r s alike = tail_names map.tail r.tail s.tail alike.1

  bytes_by : (o : Option Fields) (r s : Record) → AlikePlaces R o r s → tail_by (λ (map : Fields). has_bytes map.tail) o r.tail ≡ tail_by (λ (map : Fields). has_bytes map.tail) o s.tail
  bytes_by None r s alike = refl
  bytes_by (Some map) r s alike = tail_bytes map.tail r.tail s.tail alike.1

  pub tail_items : (o p : Option Record) → AlikeObjects R o p → AllZip R (tail_in (λ (map : Fields). has_refs map.tail) o) (tail_in (λ (map : Fields). has_refs map.tail) p)
  tail_items None None alike = tt
  tail_items None (Some s) alike = absurd alike
  tail_items (Some r) None alike = absurd alike
  tail_items (Some r) (Some s) alike =
      subst (λ (ty : ℕ). AllZip R (tail_in (λ (map : Fields). has_refs map.tail) (Some r)) (tail_by (λ (map : Fields). has_refs map.tail) (slice_get listed_schema ty) s.tail)) alike.class
      (names_by (slice_get listed_schema r.ty) r s alike.places)

  pub tail_text : (o p : Option Record) → AlikeObjects R o p → tail_in (λ (map : Fields). has_bytes map.tail) o ≡ tail_in (λ (map : Fields). has_bytes map.tail) p
  tail_text None None alike = refl
  tail_text None (Some s) alike = absurd alike
  tail_text (Some r) None alike = absurd alike
  tail_text (Some r) (Some s) alike =
      bytes_by (slice_get listed_schema r.ty) r s alike.places
      ∙ ap (λ (ty : ℕ). tail_by (λ (map : Fields). has_bytes map.tail) (slice_get listed_schema ty) s.tail) alike.class

module _ (R : ℕ → ℕ → Type 0) (pairing : Pairing R) where
  -- names that stand for each other are told apart alike
  pub same_test : (m n p q : ℕ) → R m n → R p q → (m == p) ≡ (n == q)
  same_test m n p q one other =
      both_ways (m == p) (n == q)
      (λ is. eq-eqb n q (pairing.one m n q one (subst (λ (k : ℕ). R k q) (sym (same_number m p is)) other)))
      (λ is. eq-eqb m p (pairing.back m p n one (subst (λ (k : ℕ). R p k) (sym (same_number n q is)) other)))

  pub among_alike : (m n : ℕ) (xs ys : List ℕ) → R m n → AllZip R xs ys → is_among xs m ≡ is_among ys n
  among_alike m n xs ys pair zipped = zip_any R (λ p. m == p) (λ q. n == q) (λ p q other. same_test m n p q pair other) xs ys zipped

  module _ (f g : Look) (alike : Alike R f g) where
    pub reference_alike : (k m n : ℕ) → R m n → R (reference f m k) (reference g n k)
    reference_alike k m n pair = value_name R pairing.nil k (f m) (g n) (alike.at m n pair)

    pub word_alike : (k m n : ℕ) → R m n → word f m k ≡ word g n k
    word_alike k m n pair = value_word R k (f m) (g n) (alike.at m n pair)

    pub items_alike : (m n : ℕ) → R m n → AllZip R (items f m) (items g n)
    items_alike m n pair = tail_items R (f m) (g n) (alike.at m n pair)

    pub bytes_alike : (m n : ℕ) → R m n → bytes f m ≡ bytes g n
    bytes_alike m n pair = tail_text R (f m) (g n) (alike.at m n pair)
