-- A renaming of records changes no text.
use Rattle.std.proofs.Common.{◌≡◌, ◌+◌, ◌++◌, ℕ, zero, suc, Bool, true, false, cond, not, List, [], ◌∷◌, map, Option, Some, None, is_some, refl, sym, ap, subst, ◌∙◌, inl, inr, eqb}
use Rattle.std.specs.Prelude.{◌==◌, ◌&&◌, ◌||◌, slice_get, fold, codes}
use Rattle.std.specs.Fmt.{decimal}
use Rattle.std.specs.Option.{option_map}
use Rattle.std.specs.List.{AllByRecursion, flat_map, position_from, range_with_len}
use Rattle.std.proofs.lemmas.Bool.{cases_eq, eq-eqb, ne_eqb}
use Rattle.std.proofs.lemmas.List.{map-append}
use Rattle.std.proofs.lemmas.Option.{slice_get-map}
use Rattle.pm3_types.specs.declared.type_map.Tail.{Tail}
use Rattle.pm3_types.specs.declared.type_map.Tail.TheVariants.{Empty, Refs, Bytes}
use Rattle.pm3_types.specs.Dump.{fields_text, name_text, number_text, object_lines, parts_text, record_text, root_lines, tail_text, text_of}
use Rattle.pm3_types.specs.Fields.{Fields, has_refs, is_reference}
use Rattle.pm3_types.specs.Numbering.{is_among, look, meet, met_from, names_in, names_in_by, names_in_fields, names_of, names_under}
use Rattle.pm3_types.specs.Record.{Record}

-- P holds of each item
abbrev pub Each : (ℕ → Type 0) → List ℕ → Type 0
Each P xs = AllByRecursion P xs

pub each_append : (P : ℕ → Type 0) (xs ys : List ℕ) → Each P xs → Each P ys → Each P (xs ++ ys)
each_append P [] ys first second = second
each_append P (x ∷ xs) ys first second = (first.0, each_append P xs ys first.1 second)

pub each_first : (P : ℕ → Type 0) (xs ys : List ℕ) → Each P (xs ++ ys) → Each P xs
each_first P [] ys all = tt
each_first P (x ∷ xs) ys all = (all.0, each_first P xs ys all.1)

pub each_second : (P : ℕ → Type 0) (xs ys : List ℕ) → Each P (xs ++ ys) → Each P ys
each_second P [] ys all = all
each_second P (x ∷ xs) ys all = each_second P xs ys all.1

pub each_weaker : (P Q : ℕ → Type 0) (xs : List ℕ) → ((x : ℕ) → P x → Q x) → Each P xs → Each Q xs
each_weaker P Q [] by all = tt
each_weaker P Q (x ∷ xs) by all = (by x all.0, each_weaker P Q xs by all.1)

pub each_at : (P : ℕ → Type 0) (xs : List ℕ) (i x : ℕ) → Each P xs → slice_get xs i ≡ Some x → P x
each_at P [] i x all is = absurd (cc is)
each_at P (y ∷ xs) zero x all is = let same : y ≡ x = cc is in subst P same all.0
each_at P (y ∷ xs) (suc i) x all is = each_at P xs i x all.1 is

module _ (nm : ℕ → ℕ) where
  -- the values of the fields from f on, renamed where they are references
  abbrev pub rename_fields : Fields → ℕ → List ℕ → List ℕ
  rename_fields m f [] = []
  rename_fields m f (v ∷ vs) = cond (is_reference m f) (nm v) v ∷ rename_fields m (f + 1) vs

  abbrev pub fields_by : Option Fields → List ℕ → List ℕ
  fields_by None vs = vs
  fields_by (Some m) vs = rename_fields m 0 vs

  abbrev pub rename_items : Tail → List ℕ → List ℕ
  rename_items Empty items = items
  rename_items Refs items = map nm items
  rename_items Bytes items = items

  abbrev pub tail_by : Option Fields → List ℕ → List ℕ
  tail_by None items = items
  tail_by (Some m) items = rename_items m.tail items

  -- a record with other names in its reference places
  abbrev pub renamed : List Fields → Record → Record
  renamed catalog r = record { ty = r.ty; fields = fields_by (slice_get catalog r.ty) r.fields; tail = tail_by (slice_get catalog r.ty) r.tail }

  field_names : (m : Fields) (f : ℕ) (vs : List ℕ) → names_in_fields m f (rename_fields m f vs) ≡ map nm (names_in_fields m f vs)
  field_names m f [] = refl
  field_names m f (v ∷ vs) = by (is_reference m f) (field_names m (f + 1) vs)
    where
      by : (b : Bool) → names_in_fields m (f + 1) (rename_fields m (f + 1) vs) ≡ map nm (names_in_fields m (f + 1) vs)
          → cond b (cond b (nm v) v ∷ names_in_fields m (f + 1) (rename_fields m (f + 1) vs)) (names_in_fields m (f + 1) (rename_fields m (f + 1) vs))
          ≡ map nm (cond b (v ∷ names_in_fields m (f + 1) vs) (names_in_fields m (f + 1) vs))
      by true rest = ap (λ (l : List ℕ). nm v ∷ l) rest
      by false rest = rest

  tail_names : (tail : Tail) (items : List ℕ) → cond (has_refs tail) (rename_items tail items) [] ≡ map nm (cond (has_refs tail) items [])
  tail_names Empty items = refl
  tail_names Refs items = refl
  tail_names Bytes items = refl

  names_by : (o : Option Fields) (r : Record) → names_in_by o (record { ty = r.ty; fields = fields_by o r.fields; tail = tail_by o r.tail }) ≡ map nm (names_in_by o r)
  names_by None r = refl
  names_by (Some m) r =
      ap (λ (l : List ℕ). l ++ cond (has_refs m.tail) (rename_items m.tail r.tail) []) (field_names m 0 r.fields)
      ∙ ap (λ (l : List ℕ). map nm (names_in_fields m 0 r.fields) ++ l) (tail_names m.tail r.tail)
      ∙ sym (map-append nm (names_in_fields m 0 r.fields) (cond (has_refs m.tail) r.tail []))

  names_renamed : (catalog : List Fields) (o : Option Record) → names_of catalog (option_map (renamed catalog) o) ≡ map nm (names_of catalog o)
  names_renamed catalog None = refl
  names_renamed catalog (Some r) = names_by (slice_get catalog r.ty) r

-- Of records under A and under B: those under B are those under A, renamed, as far as K goes; K is closed under what records
-- refer to; and no two names of K, of which one has a record, become one.
pub record IsRenaming (catalog : List Fields) (A B : ℕ → Option Record) (nm : ℕ → ℕ) (K : ℕ → Type 0) : Type 0 where
  pub agrees : (a : ℕ) → K a → B (nm a) ≡ option_map (renamed nm catalog) (A a)
  pub closed : (a : ℕ) (r : Record) → K a → A a ≡ Some r → Each K (names_in catalog r)
  pub apart : (a b : ℕ) → K a → K b → is_some (A a) ≡ true → nm a ≡ nm b → a ≡ b

still_some : (f : Record → Record) (o : Option Record) → is_some (option_map f o) ≡ is_some o
still_some f None = refl
still_some f (Some r) = refl

module _ (catalog : List Fields) (A B : ℕ → Option Record) (nm : ℕ → ℕ) (K : ℕ → Type 0) (renaming : IsRenaming catalog A B nm K) where
  -- what is met: it is known, and it is there
  abbrev IsThere : ℕ → Type 0
  IsThere a = K a × (is_some (A a) ≡ true)

  same_test : (a b : ℕ) → IsThere a → K b → eqb (nm b) (nm a) ≡ eqb b a
  same_test a b there known = elim (cases_eq b a) [
    | inl same ↦ eq-eqb (nm b) (nm a) (ap nm same) ∙ sym (eq-eqb b a same)
    | inr other ↦ ne_eqb (nm b) (nm a) (λ e. other (sym (renaming.apart a b there.0 known there.1 (sym e)))) ∙ sym (ne_eqb b a other)
  ]

  same_place_test : (a b : ℕ) → IsThere a → K b → eqb (nm a) (nm b) ≡ eqb a b
  same_place_test a b there known = elim (cases_eq a b) [
    | inl same ↦ eq-eqb (nm a) (nm b) (ap nm same) ∙ sym (eq-eqb a b same)
    | inr other ↦ ne_eqb (nm a) (nm b) (λ e. other (renaming.apart a b there.0 known there.1 e)) ∙ sym (ne_eqb a b other)
  ]

  among_renamed : (met : List ℕ) (b : ℕ) → Each IsThere met → K b → is_among (map nm met) (nm b) ≡ is_among met b
  among_renamed [] b all known = refl
  among_renamed (a ∷ met) b all known =
      ap (λ (t : Bool). t || is_among (map nm met) (nm b)) (same_test a b all.0 known)
      ∙ ap (λ (t : Bool). (b == a) || t) (among_renamed met b all.1 known)

  abbrev joined : Bool → ℕ → List ℕ → List ℕ
  joined t x met = cond t (met ++ x ∷ []) met

  joined_there : (there old : Bool) (x : ℕ) (met : List ℕ) → is_some (A x) ≡ there → K x → Each IsThere met → Each IsThere (joined (there && not old) x met)
  joined_there true true x met is known all = all
  joined_there true false x met is known all = each_append IsThere met (x ∷ []) all ((known, is), tt)
  joined_there false old x met is known all = all

  joined_map : (t : Bool) (x : ℕ) (met : List ℕ) → joined t (nm x) (map nm met) ≡ map nm (joined t x met)
  joined_map true x met = sym (map-append nm met (x ∷ []))
  joined_map false x met = refl

  meet_there : (met ns : List ℕ) → Each IsThere met → Each K ns → Each IsThere (meet A met ns)
  meet_there met [] all known = all
  meet_there met (x ∷ ns) all known =
      meet_there (joined (is_some (A x) && not (is_among met x)) x met) ns
      (joined_there (is_some (A x)) (is_among met x) x met refl known.0 all) known.1

  meet_renamed : (met ns : List ℕ) → Each IsThere met → Each K ns → meet B (map nm met) (map nm ns) ≡ map nm (meet A met ns)
  meet_renamed met [] all known = refl
  meet_renamed met (x ∷ ns) all known =
      ap (λ (l : List ℕ). meet B l (map nm ns)) one
      ∙ meet_renamed (joined (is_some (A x) && not (is_among met x)) x met) ns
      (joined_there (is_some (A x)) (is_among met x) x met refl known.0 all) known.1
    where
      there : is_some (B (nm x)) ≡ is_some (A x)
      there = ap is_some (renaming.agrees x known.0) ∙ still_some (renamed nm catalog) (A x)

      one : joined (is_some (B (nm x)) && not (is_among (map nm met) (nm x))) (nm x) (map nm met) ≡ map nm (joined (is_some (A x) && not (is_among met x)) x met)
      one =
          ap (λ (t : Bool). joined (t && not (is_among (map nm met) (nm x))) (nm x) (map nm met)) there
          ∙ ap (λ (t : Bool). joined (is_some (A x) && not t) (nm x) (map nm met)) (among_renamed met x all known.0)
          ∙ joined_map (is_some (A x) && not (is_among met x)) x met

  pub known_names : (a : ℕ) (o : Option Record) → A a ≡ o → K a → Each K (names_of catalog o)
  known_names a None is known = tt
  known_names a (Some r) is known = renaming.closed a r known is

  under_known : (met : List ℕ) (o : Option ℕ) (i : ℕ) → slice_get met i ≡ o → Each IsThere met → Each K (names_under catalog A o)
  under_known met None i is all = tt
  under_known met (Some a) i is all = known_names a (A a) refl (each_at IsThere met i a all is).0

  under_renamed : (met : List ℕ) (o : Option ℕ) (i : ℕ) → slice_get met i ≡ o → Each IsThere met → names_under catalog B (option_map nm o) ≡ map nm (names_under catalog A o)
  under_renamed met None i is all = refl
  under_renamed met (Some a) i is all = ap (names_of catalog) (renaming.agrees a (each_at IsThere met i a all is).0) ∙ names_renamed nm catalog (A a)

  look_there : (met : List ℕ) (i : ℕ) → Each IsThere met → Each IsThere (look catalog A met i)
  look_there met i all = meet_there met (names_under catalog A (slice_get met i)) all (under_known met (slice_get met i) i refl all)

  look_renamed : (met : List ℕ) (i : ℕ) → Each IsThere met → look catalog B (map nm met) i ≡ map nm (look catalog A met i)
  look_renamed met i all =
      ap (λ (o : Option ℕ). meet B (map nm met) (names_under catalog B o)) (slice_get-map nm met i)
      ∙ ap (meet B (map nm met)) (under_renamed met (slice_get met i) i refl all)
      ∙ meet_renamed met (names_under catalog A (slice_get met i)) all (under_known met (slice_get met i) i refl all)

  fold_there : (k i : ℕ) (met : List ℕ) → Each IsThere met → Each IsThere (fold (look catalog A) met (range_with_len i k))
  fold_there zero i met all = all
  fold_there (suc k) i met all = fold_there k (i + 1) (look catalog A met i) (look_there met i all)

  fold_renamed : (k i : ℕ) (met : List ℕ) → Each IsThere met
      → fold (look catalog B) (map nm met) (range_with_len i k) ≡ map nm (fold (look catalog A) met (range_with_len i k))
  fold_renamed zero i met all = refl
  fold_renamed (suc k) i met all =
      ap (λ (l : List ℕ). fold (look catalog B) l (range_with_len (i + 1) k)) (look_renamed met i all)
      ∙ fold_renamed k (i + 1) (look catalog A met i) (look_there met i all)

  -- what is met is known, and there
  pub met_there : (count : ℕ) (roots : List ℕ) → Each K roots → Each IsThere (met_from catalog A count roots)
  met_there count roots known = fold_there count 0 (meet A [] roots) (meet_there [] roots tt known)

  pub met_renamed : (count : ℕ) (roots : List ℕ) → Each K roots → met_from catalog B count (map nm roots) ≡ map nm (met_from catalog A count roots)
  met_renamed count roots known =
      ap (λ (l : List ℕ). fold (look catalog B) l (range_with_len 0 count)) (meet_renamed [] roots tt known)
      ∙ fold_renamed count 0 (meet A [] roots) (meet_there [] roots tt known)

  place_renamed : (i : ℕ) (met : List ℕ) (b : ℕ) → Each IsThere met → K b → position_from (λ m. m == nm b) i (map nm met) ≡ position_from (λ m. m == b) i met
  place_renamed i [] b all known = refl
  place_renamed i (a ∷ met) b all known =
      ap (λ (t : Bool). cond t (Some i) (position_from (λ m. m == nm b) (i + 1) (map nm met))) (same_place_test a b all.0 known)
      ∙ ap (λ (o : Option ℕ). cond (a == b) (Some i) o) (place_renamed (i + 1) met b all.1 known)

  module _ (met : List ℕ) (all : Each IsThere met) where
    name_renamed : (b : ℕ) → K b → name_text (map nm met) (nm b) ≡ name_text met b
    name_renamed b known = ap number_text (place_renamed 1 met b all known)

    roots_renamed : (slot : ℕ) (roots : List ℕ) → Each K roots → root_lines (map nm met) slot (map nm roots) ≡ root_lines met slot roots
    roots_renamed slot [] known = refl
    roots_renamed slot (a ∷ roots) known =
        ap (λ (l : List ℕ). codes "root " ++ decimal slot ++ codes " " ++ l ++ codes "\n" ++ root_lines (map nm met) (slot + 1) (map nm roots)) (name_renamed a known.0)
        ∙ ap (λ (l : List ℕ). codes "root " ++ decimal slot ++ codes " " ++ name_text met a ++ codes "\n" ++ l) (roots_renamed (slot + 1) roots known.1)

    value_renamed : (b : Bool) (v : ℕ) (rest : List ℕ) → Each K (cond b (v ∷ rest) rest)
        → (cond b (codes "@" ++ name_text (map nm met) (cond b (nm v) v)) (decimal (cond b (nm v) v)) ≡ cond b (codes "@" ++ name_text met v) (decimal v)) × Each K rest
    value_renamed true v rest known = (ap (λ (l : List ℕ). codes "@" ++ l) (name_renamed v known.0), known.1)
    value_renamed false v rest known = (refl, known)

    fields_renamed : (m : Fields) (f : ℕ) (vs : List ℕ) → Each K (names_in_fields m f vs) → fields_text (map nm met) m f (rename_fields nm m f vs) ≡ fields_text met m f vs
    fields_renamed m f [] known = refl
    fields_renamed m f (v ∷ vs) known =
        let value = value_renamed (is_reference m f) v (names_in_fields m (f + 1) vs) known in
        ap (λ (l : List ℕ). codes " " ++ l ++ fields_text (map nm met) m (f + 1) (rename_fields nm m (f + 1) vs)) value.0
        ∙ ap (λ (l : List ℕ). codes " " ++ cond (is_reference m f) (codes "@" ++ name_text met v) (decimal v) ++ l) (fields_renamed m (f + 1) vs value.1)

    items_renamed : (items : List ℕ) → Each K items → flat_map (λ n. codes " @" ++ name_text (map nm met) n) (map nm items) ≡ flat_map (λ n. codes " @" ++ name_text met n) items
    items_renamed [] known = refl
    items_renamed (a ∷ items) known =
        ap (λ (l : List ℕ). (codes " @" ++ l) ++ flat_map (λ n. codes " @" ++ name_text (map nm met) n) (map nm items)) (name_renamed a known.0)
        ∙ ap (λ (l : List ℕ). (codes " @" ++ name_text met a) ++ l) (items_renamed items known.1)

    tail_renamed : (tail : Tail) (items : List ℕ) → Each K (cond (has_refs tail) items []) → tail_text (map nm met) tail (rename_items nm tail items) ≡ tail_text met tail items
    tail_renamed Empty items known = refl
    tail_renamed Refs items known = ap (λ (l : List ℕ). codes " *" ++ l) (items_renamed items known)
    tail_renamed Bytes items known = refl

    parts_renamed : (o : Option Fields) (r : Record) → Each K (names_in_by o r)
        → parts_text (map nm met) o (record { ty = r.ty; fields = fields_by nm o r.fields; tail = tail_by nm o r.tail }) ≡ parts_text met o r
    parts_renamed None r known = refl
    parts_renamed (Some m) r known =
        ap (λ (l : List ℕ). l ++ tail_text (map nm met) m.tail (rename_items nm m.tail r.tail))
        (fields_renamed m 0 r.fields (each_first K (names_in_fields m 0 r.fields) (cond (has_refs m.tail) r.tail []) known))
        ∙ ap (λ (l : List ℕ). fields_text met m 0 r.fields ++ l)
        (tail_renamed m.tail r.tail (each_second K (names_in_fields m 0 r.fields) (cond (has_refs m.tail) r.tail []) known))

    record_renamed : (o : Option Record) → Each K (names_of catalog o) → record_text catalog (map nm met) (option_map (renamed nm catalog) o) ≡ record_text catalog met o
    record_renamed None known = refl
    record_renamed (Some r) known = ap (λ (l : List ℕ). decimal r.ty ++ l) (parts_renamed (slice_get catalog r.ty) r known)

    objects_renamed : (k : ℕ) (ns : List ℕ) → Each IsThere ns → object_lines catalog B (map nm met) k (map nm ns) ≡ object_lines catalog A met k ns
    objects_renamed k [] known = refl
    objects_renamed k (a ∷ ns) known =
        ap (λ (l : List ℕ). decimal k ++ codes " " ++ l ++ codes "\n" ++ object_lines catalog B (map nm met) (k + 1) (map nm ns))
        (ap (record_text catalog (map nm met)) (renaming.agrees a known.0.0) ∙ record_renamed (A a) (known_names a (A a) refl known.0.0))
        ∙ ap (λ (l : List ℕ). decimal k ++ codes " " ++ record_text catalog met (A a) ++ codes "\n" ++ l) (objects_renamed (k + 1) ns known.1)

  -- the text of what is met under B is that of what is met under A
  pub text_renamed : (count : ℕ) (roots : List ℕ) → Each K roots
      → text_of catalog B (map nm roots) (met_from catalog B count (map nm roots)) ≡ text_of catalog A roots (met_from catalog A count roots)
  text_renamed count roots known =
      let there = met_there count roots known in
      ap (text_of catalog B (map nm roots)) (met_renamed count roots known)
      ∙ ap (λ (l : List ℕ). l ++ object_lines catalog B (map nm (met_from catalog A count roots)) 1 (map nm (met_from catalog A count roots)))
      (roots_renamed (met_from catalog A count roots) there 0 roots known)
      ∙ ap (λ (l : List ℕ). root_lines (met_from catalog A count roots) 0 roots ++ l)
      (objects_renamed (met_from catalog A count roots) there 1 (met_from catalog A count roots) there)
