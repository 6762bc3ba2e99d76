-- Graphs that are alike have one reading.
use Rattle.std.proofs.Common.{◌≡◌, ◌+◌, ℕ, zero, suc, List, [], ◌∷◌, ◌++◌, Bool, true, false, cond, not, Option, None, Some, is_some, refl, arith, ap, subst, ◌∙◌, map}
use Rattle.std.specs.Prelude.{◌==◌, ◌&&◌, flat_map, unwrap_or, option_to_list}
use Rattle.std.specs.List.{AllZip, slice_get, range_with_len, position_from}
use Rattle.pm3_types.specs.declared.type_map.Tail.{Tail}
use Rattle.pm3_types.specs.declared.type_map.Tail.TheVariants.{Empty, Refs, Bytes}
use Rattle.pm3_types.specs.Fields.{Fields, is_reference, has_refs}
use Rattle.pm3_types.specs.Record.{Record}
use Rattle.pm3_types.specs.Numbering.{is_among, meet, names_in_fields, names_in_by, names_in, names_of, names_under, look, met_from}
use Rattle.oo7_schema.specs.Lookup.{Look, listed_schema}
use Rattle.oo7_schema.specs.Flat.{Flat, number, numbered_fields, numbered_by, numbered, numbered_objects, reading_of}
use Rattle.oo7_schema.specs.Alike.{Pairing, AreAlike, AlikeFields, AlikeTail, AlikePlaces, AlikeRecords, AlikeObjects, Alike, AlikeFlats}
use Rattle.oo7_schema.proofs.Zips.{zip_join, zip_flat, zip_fold, zip_same, map_same, Either}
use Rattle.oo7_schema.proofs.ReadAlike.{same_test, among_alike}

module _ (R : ℕ → ℕ → Type 0) where
  cond_name : (b : Bool) (v w : ℕ) (vs ws : List ℕ) → AreAlike R b v w → AllZip R vs ws → AllZip R (cond b (v ∷ vs) vs) (cond b (w ∷ ws) ws)
  cond_name true v w vs ws here rest = (here, rest)
  cond_name false v w vs ws here rest = rest

  field_names : (map : Fields) (f : ℕ) (vs ws : List ℕ) → AlikeFields R map f vs ws → AllZip R (names_in_fields map f vs) (names_in_fields map f ws)
  field_names map f [] [] alike = tt
  field_names map f [] (w ∷ ws) alike = absurd alike
  field_names map f (v ∷ vs) [] alike = absurd alike
  field_names map f (v ∷ vs) (w ∷ ws) alike =
      let at : suc f ≡ f + 1 = omega arith in
      cond_name (is_reference map f) v w (names_in_fields map (f + 1) vs) (names_in_fields map (f + 1) ws) alike.0
      (subst (λ (n : ℕ). AllZip R (names_in_fields map n vs) (names_in_fields map n ws)) at (field_names map (suc f) vs ws alike.1))

  tail_names : (t : Tail) (vs ws : List ℕ) → AlikeTail R (has_refs t) vs ws → AllZip R (cond (has_refs t) vs []) (cond (has_refs t) ws [])
  tail_names Empty vs ws alike = tt
  tail_names Refs vs ws alike = alike
  tail_names Bytes vs ws alike = tt

  place_names : (o : Option Fields) (r s : Record) → AlikePlaces R o r s → AllZip R (names_in_by o r) (names_in_by o s)
  place_names None r s alike = tt
  place_names (Some map) r s alike =
      zip_join R (names_in_fields map 0 r.fields) (cond (has_refs map.tail) r.tail []) (names_in_fields map 0 s.fields) (cond (has_refs map.tail) s.tail [])
      (field_names map 0 r.fields s.fields alike.0) (tail_names map.tail r.tail s.tail alike.1)

  object_names : (o p : Option Record) → AlikeObjects R o p → AllZip R (names_of listed_schema o) (names_of listed_schema p)
  object_names None None alike = tt
  object_names None (Some s) alike = absurd alike
  object_names (Some r) None alike = absurd alike
  object_names (Some r) (Some s) alike =
      subst (λ (ty : ℕ). AllZip R (names_in listed_schema r) (names_in_by (slice_get listed_schema ty) s)) alike.class
      (place_names (slice_get listed_schema r.ty) r s alike.places)

  there_alike : (o p : Option Record) → AlikeObjects R o p → is_some o ≡ is_some p
  there_alike None None alike = refl
  there_alike None (Some s) alike = absurd alike
  there_alike (Some r) None alike = absurd alike
  there_alike (Some r) (Some s) alike = refl

  listed_alike : (o p : Option Record) → AlikeObjects R o p → AllZip (AlikeRecords R) (option_to_list o) (option_to_list p)
  listed_alike None None alike = tt
  listed_alike None (Some s) alike = absurd alike
  listed_alike (Some r) None alike = absurd alike
  listed_alike (Some r) (Some s) alike = (alike, tt)

  at_alike : (xs ys : List ℕ) (i : ℕ) → AllZip R xs ys → Either R (slice_get xs i) (slice_get ys i)
  at_alike [] [] i zipped = tt
  at_alike [] (y ∷ ys) i zipped = absurd zipped
  at_alike (x ∷ xs) [] i zipped = absurd zipped
  at_alike (x ∷ xs) (y ∷ ys) zero zipped = zipped.0
  at_alike (x ∷ xs) (y ∷ ys) (suc i) zipped = at_alike xs ys i zipped.1

  cond_lists : (b : Bool) (xs2 ys2 xs ys : List ℕ) → AllZip R xs2 ys2 → AllZip R xs ys → AllZip R (cond b xs2 xs) (cond b ys2 ys)
  cond_lists true xs2 ys2 xs ys here else = here
  cond_lists false xs2 ys2 xs ys here else = else

module _ (R : ℕ → ℕ → Type 0) (pairing : Pairing R) where
  module _ (f g : Look) (alike : Alike R f g) where
    meet_alike : (met met2 ns ns2 : List ℕ) → AllZip R met met2 → AllZip R ns ns2 → AllZip R (meet f met ns) (meet g met2 ns2)
    meet_alike met met2 [] [] before zipped = before
    meet_alike met met2 [] (n ∷ ns2) before zipped = absurd zipped
    meet_alike met met2 (m ∷ ns) [] before zipped = absurd zipped
    meet_alike met met2 (m ∷ ns) (n ∷ ns2) before zipped =
        let test : (is_some (f m) && not (is_among met m)) ≡ (is_some (g n) && not (is_among met2 n)) =
        λ i. there_alike R (f m) (g n) (alike.at m n zipped.0) i && not (among_alike R pairing m n met met2 zipped.0 before i) in
        meet_alike (cond (is_some (f m) && not (is_among met m)) (met ++ m ∷ []) met) (cond (is_some (g n) && not (is_among met2 n)) (met2 ++ n ∷ []) met2) ns ns2
        (subst (λ (b : Bool). AllZip R (cond (is_some (f m) && not (is_among met m)) (met ++ m ∷ []) met) (cond b (met2 ++ n ∷ []) met2)) test
        (cond_lists R (is_some (f m) && not (is_among met m)) (met ++ m ∷ []) (met2 ++ n ∷ []) met met2
        (zip_join R met (m ∷ []) met2 (n ∷ []) before (zipped.0, tt)) before)) zipped.1

    under_alike : (o p : Option ℕ) → Either R o p → AllZip R (names_under listed_schema f o) (names_under listed_schema g p)
    under_alike None None both = tt
    under_alike None (Some n) both = absurd both
    under_alike (Some m) None both = absurd both
    under_alike (Some m) (Some n) both = object_names R (f m) (g n) (alike.at m n both)

    look_alike : (met met2 : List ℕ) (i : ℕ) → AllZip R met met2 → AllZip R (look listed_schema f met i) (look listed_schema g met2 i)
    look_alike met met2 i before =
        meet_alike met met2 (names_under listed_schema f (slice_get met i)) (names_under listed_schema g (slice_get met2 i)) before
        (under_alike (slice_get met i) (slice_get met2 i) (at_alike R met met2 i before))

    pub met_from_alike : (count : ℕ) (roots roots2 : List ℕ) → AllZip R roots roots2 → AllZip R (met_from listed_schema f count roots) (met_from listed_schema g count roots2)
    met_from_alike count roots roots2 zipped =
        zip_fold (λ (i j : ℕ). i ≡ j) (AllZip R) (look listed_schema f) (look listed_schema g)
        (λ c d i j before same. subst (λ (k : ℕ). AllZip R (look listed_schema f c i) (look listed_schema g d k)) same (look_alike c d i before))
        (meet f [] roots) (meet g [] roots2) (range_with_len 0 count) (range_with_len 0 count) (meet_alike [] [] roots roots2 tt zipped) (zip_same (range_with_len 0 count))

  position_alike : (m n i : ℕ) (xs ys : List ℕ) → R m n → AllZip R xs ys → position_from (λ (x : ℕ). x == m) i xs ≡ position_from (λ (y : ℕ). y == n) i ys
  position_alike m n i [] [] pair zipped = refl
  position_alike m n i [] (y ∷ ys) pair zipped = absurd zipped
  position_alike m n i (x ∷ xs) [] pair zipped = absurd zipped
  position_alike m n i (x ∷ xs) (y ∷ ys) pair zipped =
      λ j. cond (same_test R pairing x y m n zipped.0 pair j) (Some i) (position_alike m n (i + 1) xs ys pair zipped.1 j)

  module _ (met met2 : List ℕ) (zipped : AllZip R met met2) where
    number_alike : (m n : ℕ) → R m n → number met m ≡ number met2 n
    number_alike m n pair = λ i. unwrap_or (position_alike m n 1 met met2 pair zipped i) 0

    value_alike : (b : Bool) (v w : ℕ) → AreAlike R b v w → cond b (number met v) v ≡ cond b (number met2 w) w
    value_alike true v w alike = number_alike v w alike
    value_alike false v w alike = alike

    fields_alike : (map : Fields) (f : ℕ) (vs ws : List ℕ) → AlikeFields R map f vs ws → numbered_fields met map f vs ≡ numbered_fields met2 map f ws
    fields_alike map f [] [] alike = refl
    fields_alike map f [] (w ∷ ws) alike = absurd alike
    fields_alike map f (v ∷ vs) [] alike = absurd alike
    fields_alike map f (v ∷ vs) (w ∷ ws) alike =
        λ i. value_alike (is_reference map f) v w alike.0 i ∷ fields_alike map (suc f) vs ws alike.1 i

    tail_alike : (b : Bool) (vs ws : List ℕ) → AlikeTail R b vs ws → cond b (map (number met) vs) vs ≡ cond b (map (number met2) ws) ws
    tail_alike true vs ws alike = map_same R (number met) (number met2) number_alike vs ws alike
    tail_alike false vs ws alike = alike

    by_alike : (o : Option Fields) (r s : Record) → r.ty ≡ s.ty → AlikePlaces R o r s → numbered_by met o r ≡ numbered_by met2 o s
    by_alike None r s class alike = λ i. record { ty = class i; fields = alike.0 i; tail = alike.1 i }
    by_alike (Some m) r s class alike =
        λ i. record { ty = class i; fields = fields_alike m 0 r.fields s.fields alike.0 i; tail = tail_alike (has_refs m.tail) r.tail s.tail alike.1 i }

    numbered_alike : (r s : Record) → AlikeRecords R r s → numbered met r ≡ numbered met2 s
    numbered_alike r s alike =
        by_alike (slice_get listed_schema r.ty) r s alike.class alike.places ∙ ap (λ (ty : ℕ). numbered_by met2 (slice_get listed_schema ty) s) alike.class

    objects_alike : (f g : Look) → Alike R f g → numbered_objects f met met ≡ numbered_objects g met2 met2
    objects_alike f g alike =
        map_same (AlikeRecords R) (numbered met) (numbered met2) numbered_alike (flat_map (λ (n : ℕ). option_to_list (f n)) met) (flat_map (λ (n : ℕ). option_to_list (g n)) met2)
        (zip_flat R (AlikeRecords R) (λ (n : ℕ). option_to_list (f n)) (λ (n : ℕ). option_to_list (g n)) (λ m n pair. listed_alike R (f m) (g n) (alike.at m n pair)) met met2 zipped)

  pub alike_reading : (f g : Flat) (count : ℕ) → AlikeFlats R f g → reading_of f count ≡ reading_of g count
  alike_reading f g count alike =
      let zipped : AllZip R (met_from listed_schema f.look count f.roots) (met_from listed_schema g.look count g.roots) =
      met_from_alike f.look g.look alike.looks count f.roots g.roots alike.roots in
      λ i. record {
        objects = objects_alike (met_from listed_schema f.look count f.roots) (met_from listed_schema g.look count g.roots) zipped f.look g.look alike.looks i;
        roots = map_same R (number (met_from listed_schema f.look count f.roots)) (number (met_from listed_schema g.look count g.roots))
            (number_alike (met_from listed_schema f.look count f.roots) (met_from listed_schema g.look count g.roots) zipped) f.roots g.roots alike.roots i;
      }
