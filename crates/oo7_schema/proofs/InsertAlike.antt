-- An insertion into alike graphs leaves them alike: the names that the one's makes draw stand for those that the other's draw.
use Rattle.std.proofs.Common.{◌≡◌, ◌+◌, ◌*◌, ◌%◌, ℕ, zero, suc, List, [], ◌∷◌, ◌++◌, length, Bool, true, false, cond, refl, ap, subst, map, get_or, take, drop}
use Rattle.std.specs.Prelude.{◌==◌, slice_index, fold, flat_map}
use Rattle.std.specs.List.{AllZip, slice_get, range_with_len}
use Rattle.pm3_types.specs.declared.places.Place.TheVariants.{Word, Reference}
use Rattle.pm3_types.specs.Fields.{is_reference}
use Rattle.pm3_types.specs.Record.{Record}
use Rattle.rand_pcg.specs.Lcg.{Lcg}
use Rattle.oo7_schema.specs.declared.sizes.Params.{Params}
use Rattle.oo7_schema.specs.Lookup.{Look, listed_schema, word, put, set}
use Rattle.oo7_schema.specs.Entries.{with_entry}
use Rattle.oo7_schema.specs.Flat.{Flat, index, with_look}
use Rattle.oo7_schema.specs.Members.{module_of, params_in, greatest_composite}
use Rattle.oo7_schema.specs.Walk.{bases}
use Rattle.oo7_schema.specs.Texts.{repeated, document_line, chunk_count, chunk_objects}
use Rattle.oo7_schema.specs.Draws.{begun, drawn, after}
use Rattle.oo7_schema.specs.Composites.{composite_bounds, composite_objects, composite_object, document_object, part_object, connection_record, connection_by, connection_objects, objects_in, part_names, connection_names, chunk_names, connection_draws, part_draws, part_id}
use Rattle.oo7_schema.specs.Changes.{Course, put_all, with_object, with_part, with_composite, has_room, used, counted, inserted, insertions, insert}
use Rattle.oo7_schema.specs.Alike.{Pairing, AlikePlaces, AlikeRecords, Alike, AlikeFlats}
use Rattle.oo7_schema.proofs.Zips.{zip_join, zip_map, zip_flat, zip_fold, zip_length, zip_get, zip_same, zip_take, zip_drop}
use Rattle.oo7_schema.proofs.ReadAlike.{word_alike}
use Rattle.oo7_schema.proofs.VisitAlike.{AlikeEntries, index_alike, module_alike, params_alike, bases_alike}
use Rattle.oo7_schema.proofs.WriteAlike.{put_alike, set_word_alike, set_name_alike, with_entry_alike, with_index_alike, look_alike, AlikeCourses}

-- objects made under names that stand for each other
abbrev pub AlikeMade : (ℕ → ℕ → Type 0) → ℕ × Record → ℕ × Record → Type 0
AlikeMade R o q = R o.0 q.0 × AlikeRecords R o.1 q.1

module _ (R : ℕ → ℕ → Type 0) (pairing : Pairing R) where
  name_alike : (xs ys : List ℕ) (k : ℕ) → AllZip R xs ys → R (slice_index xs k) (slice_index ys k)
  name_alike xs ys k zipped = zip_get R 0 0 pairing.nil xs ys k zipped

  part_names_alike : (p : Params) (xs ys : List ℕ) → AllZip R xs ys → AllZip R (part_names p xs) (part_names p ys)
  part_names_alike p xs ys zipped = zip_take R p.atomics (drop 2 xs) (drop 2 ys) (zip_drop R 2 xs ys zipped)

  connection_names_alike : (p : Params) (xs ys : List ℕ) (a : ℕ) → AllZip R xs ys → AllZip R (connection_names p xs a) (connection_names p ys a)
  connection_names_alike p xs ys a zipped =
      zip_take R p.connections (drop (2 + p.atomics + a * p.connections) xs) (drop (2 + p.atomics + a * p.connections) ys)
      (zip_drop R (2 + p.atomics + a * p.connections) xs ys zipped)

  chunk_names_alike : (p : Params) (xs ys : List ℕ) → AllZip R xs ys → AllZip R (chunk_names p xs) (chunk_names p ys)
  chunk_names_alike p xs ys zipped =
      zip_take R (chunk_count p.document) (drop (2 + p.atomics + p.atomics * p.connections) xs) (drop (2 + p.atomics + p.atomics * p.connections) ys)
      (zip_drop R (2 + p.atomics + p.atomics * p.connections) xs ys zipped)

  composite_record : (k date m1 n1 m2 n2 : ℕ) (ms ns : List ℕ) → R m1 n1 → R m2 n2 → AllZip R ms ns
      → AlikePlaces R (slice_get listed_schema 4) (record { ty = 4; fields = k ∷ date ∷ m1 ∷ m2 ∷ []; tail = ms }) (record { ty = 4; fields = k ∷ date ∷ n1 ∷ n2 ∷ []; tail = ns })
  unfolding is_reference
  composite_record k date m1 n1 m2 n2 ms ns one two tails = ((refl, (refl, (one, (two, tt)))), tails)

  document_record : (k long m1 n1 m2 n2 : ℕ) → R m1 n1 → R m2 n2
      → AlikePlaces R (slice_get listed_schema 5) (record { ty = 5; fields = k ∷ long ∷ m1 ∷ m2 ∷ []; tail = [] }) (record { ty = 5; fields = k ∷ long ∷ n1 ∷ n2 ∷ []; tail = [] })
  unfolding is_reference
  document_record k long m1 n1 m2 n2 one two = ((refl, (refl, (one, (two, tt)))), refl)

  part_record : (id kind date x y m n : ℕ) (ms ns : List ℕ) → R m n → AllZip R ms ns
      → AlikePlaces R (slice_get listed_schema 6) (record { ty = 6; fields = id ∷ kind ∷ date ∷ x ∷ y ∷ m ∷ []; tail = ms }) (record { ty = 6; fields = id ∷ kind ∷ date ∷ x ∷ y ∷ n ∷ []; tail = ns })
  unfolding is_reference
  part_record id kind date x y m n ms ns one tails = ((refl, (refl, (refl, (refl, (refl, (one, tt)))))), tails)

  connection_alike : (kind long m1 n1 m2 n2 : ℕ) → R m1 n1 → R m2 n2
      → AlikePlaces R (slice_get listed_schema 7) (connection_record kind long m1 m2) (connection_record kind long n1 n2)
  unfolding is_reference
  connection_alike kind long m1 n1 m2 n2 one two = ((refl, (refl, (one, (two, tt)))), refl)

  chunk_record : (m n : ℕ) (text : List ℕ) → R m n
      → AlikePlaces R (slice_get listed_schema 8) (record { ty = 8; fields = m ∷ []; tail = text }) (record { ty = 8; fields = n ∷ []; tail = text })
  unfolding is_reference
  chunk_record m n text one = ((one, tt), refl)

  chunks_made : (xs ys : List ℕ) (text : List ℕ) → AllZip R xs ys → AllZip (AlikeMade R) (chunk_objects xs text) (chunk_objects ys text)
  chunks_made xs ys text zipped =
      zip_map (λ (i j : ℕ). i ≡ j) (AlikeMade R)
      (λ (i : ℕ). (slice_index xs i, record { ty = 8; fields = slice_index xs (i + 1) ∷ []; tail = take 3072 (drop (3072 * i) text) }))
      (λ (i : ℕ). (slice_index ys i, record { ty = 8; fields = slice_index ys (i + 1) ∷ []; tail = take 3072 (drop (3072 * i) text) }))
      (λ i j same. subst (λ (k : ℕ). AlikeMade R (slice_index xs i, record { ty = 8; fields = slice_index xs (i + 1) ∷ []; tail = take 3072 (drop (3072 * i) text) })
      (slice_index ys k, record { ty = 8; fields = slice_index ys (k + 1) ∷ []; tail = take 3072 (drop (3072 * k) text) })) same
      (name_alike xs ys i zipped, record { class = refl; places = chunk_record (slice_index xs (i + 1)) (slice_index ys (i + 1)) (take 3072 (drop (3072 * i) text)) (name_alike xs ys (i + 1) zipped) }))
      (range_with_len 0 (chunk_count (length text))) (range_with_len 0 (chunk_count (length text))) (zip_same (range_with_len 0 (chunk_count (length text))))

  connection_by_alike : (xs ys : List ℕ) (atomics a m : ℕ) (nums : List ℕ) → AllZip R xs ys
      → AlikeRecords R (connection_by xs atomics a m nums) (connection_by ys atomics a m nums)
  connection_by_alike xs ys atomics a zero nums zipped = record {
    class = refl;
    places = connection_alike (slice_index nums 0) (slice_index nums 1) (slice_index xs a) (slice_index ys a) (slice_index xs ((a + 1) % atomics)) (slice_index ys ((a + 1) % atomics))
        (name_alike xs ys a zipped) (name_alike xs ys ((a + 1) % atomics) zipped);
  }
  connection_by_alike xs ys atomics a (suc m) nums zipped = record {
    class = refl;
    places = connection_alike (slice_index nums 1) (slice_index nums 2) (slice_index xs a) (slice_index ys a) (slice_index xs (slice_index nums 0)) (slice_index ys (slice_index nums 0))
        (name_alike xs ys a zipped) (name_alike xs ys (slice_index nums 0) zipped);
  }

  module _ (p : Params) (k : ℕ) (nums xs ys : List ℕ) (zipped : AllZip R xs ys) where
    connections_made : (a : ℕ) → AllZip (AlikeMade R) (connection_objects p xs nums a) (connection_objects p ys nums a)
    connections_made a =
        zip_map (λ (i j : ℕ). i ≡ j) (AlikeMade R)
        (λ (m : ℕ). (slice_index (connection_names p xs a) m, connection_by (part_names p xs) p.atomics a m (connection_draws p nums a m)))
        (λ (m : ℕ). (slice_index (connection_names p ys a) m, connection_by (part_names p ys) p.atomics a m (connection_draws p nums a m)))
        (λ i j same. subst (λ (m : ℕ). AlikeMade R (slice_index (connection_names p xs a) i, connection_by (part_names p xs) p.atomics a i (connection_draws p nums a i))
        (slice_index (connection_names p ys a) m, connection_by (part_names p ys) p.atomics a m (connection_draws p nums a m))) same (
          name_alike (connection_names p xs a) (connection_names p ys a) i (connection_names_alike p xs ys a zipped),
          connection_by_alike (part_names p xs) (part_names p ys) p.atomics a i (connection_draws p nums a i) (part_names_alike p xs ys zipped),
        ))
        (range_with_len 0 p.connections) (range_with_len 0 p.connections) (zip_same (range_with_len 0 p.connections))

    part_made : (a : ℕ) → AlikeMade R (part_object p k xs nums a) (part_object p k ys nums a)
    part_made a = (
      name_alike (part_names p xs) (part_names p ys) a (part_names_alike p xs ys zipped),
      record {
        class = refl;
        places = part_record (part_id p k a) (slice_index (part_draws nums a) 0) (1000 + slice_index (part_draws nums a) 1) (slice_index (part_draws nums a) 2) (slice_index (part_draws nums a) 3)
            (slice_index xs 0) (slice_index ys 0) (connection_names p xs a) (connection_names p ys a) (name_alike xs ys 0 zipped) (connection_names_alike p xs ys a zipped);
      },
    )

    parts_made : AllZip (AlikeMade R) (map (part_object p k xs nums) (range_with_len 0 p.atomics)) (map (part_object p k ys nums) (range_with_len 0 p.atomics))
    parts_made =
        zip_map (λ (i j : ℕ). i ≡ j) (AlikeMade R) (part_object p k xs nums) (part_object p k ys nums)
        (λ i j same. subst (λ (a : ℕ). AlikeMade R (part_object p k xs nums i) (part_object p k ys nums a)) same (part_made i))
        (range_with_len 0 p.atomics) (range_with_len 0 p.atomics) (zip_same (range_with_len 0 p.atomics))

    all_connections_made : AllZip (AlikeMade R) (flat_map (connection_objects p xs nums) (range_with_len 0 p.atomics)) (flat_map (connection_objects p ys nums) (range_with_len 0 p.atomics))
    all_connections_made =
        zip_flat (λ (i j : ℕ). i ≡ j) (AlikeMade R) (connection_objects p xs nums) (connection_objects p ys nums)
        (λ i j same. subst (λ (a : ℕ). AllZip (AlikeMade R) (connection_objects p xs nums i) (connection_objects p ys nums a)) same (connections_made i))
        (range_with_len 0 p.atomics) (range_with_len 0 p.atomics) (zip_same (range_with_len 0 p.atomics))

    composite_made : AlikeMade R (composite_object p k xs nums) (composite_object p k ys nums)
    composite_made = (
      name_alike xs ys 0 zipped,
      record {
        class = refl;
        places = composite_record k (cond (slice_index nums 0 == 0) (2000 + slice_index nums 1) (slice_index nums 1)) (slice_index xs 1) (slice_index ys 1) (slice_index xs 2) (slice_index ys 2)
            (part_names p xs) (part_names p ys) (name_alike xs ys 1 zipped) (name_alike xs ys 2 zipped) (part_names_alike p xs ys zipped);
      },
    )

    document_made : AlikeMade R (document_object p k xs) (document_object p k ys)
    document_made = (
      name_alike xs ys 1 zipped,
      record {
        class = refl;
        places = document_record k p.document (slice_index xs 0) (slice_index ys 0) (slice_index (chunk_names p xs) 0) (slice_index (chunk_names p ys) 0)
            (name_alike xs ys 0 zipped) (name_alike (chunk_names p xs) (chunk_names p ys) 0 (chunk_names_alike p xs ys zipped));
      },
    )

    pub objects_made : AllZip (AlikeMade R) (composite_objects p k xs nums) (composite_objects p k ys nums)
    objects_made =
        zip_join (AlikeMade R)
        ((composite_object p k xs nums ∷ document_object p k xs ∷ map (part_object p k xs nums) (range_with_len 0 p.atomics)) ++ flat_map (connection_objects p xs nums) (range_with_len 0 p.atomics))
        (chunk_objects (chunk_names p xs) (repeated (document_line k) p.document))
        ((composite_object p k ys nums ∷ document_object p k ys ∷ map (part_object p k ys nums) (range_with_len 0 p.atomics)) ++ flat_map (connection_objects p ys nums) (range_with_len 0 p.atomics))
        (chunk_objects (chunk_names p ys) (repeated (document_line k) p.document))
        (zip_join (AlikeMade R)
        (composite_object p k xs nums ∷ document_object p k xs ∷ map (part_object p k xs nums) (range_with_len 0 p.atomics)) (flat_map (connection_objects p xs nums) (range_with_len 0 p.atomics))
        (composite_object p k ys nums ∷ document_object p k ys ∷ map (part_object p k ys nums) (range_with_len 0 p.atomics)) (flat_map (connection_objects p ys nums) (range_with_len 0 p.atomics))
        (composite_made, (document_made, parts_made)) all_connections_made)
        (chunks_made (chunk_names p xs) (chunk_names p ys) (repeated (document_line k) p.document) (chunk_names_alike p xs ys zipped))

  put_all_alike : (f g : Look) (os qs : List (ℕ × Record)) → Alike R f g → AllZip (AlikeMade R) os qs → Alike R (put_all f os) (put_all g qs)
  put_all_alike f g os qs alike made =
      zip_fold (AlikeMade R) (Alike R) (λ (l : Look) (o : ℕ × Record). put l o.0 o.1) (λ (l : Look) (o : ℕ × Record). put l o.0 o.1)
      (λ v w o q looks pair. put_alike R pairing v w o.0 q.0 o.1 q.1 looks pair.0 pair.1) f g os qs alike made

  with_object_alike : (slot k : ℕ) (f g : Flat) (m n : ℕ) → AlikeFlats R f g → R m n → AlikeFlats R (with_object slot k f m) (with_object slot k g n)
  with_object_alike slot k f g m n alike pair =
      with_index_alike R pairing f g slot (with_entry (word f.look m k) m (index f slot)) (with_entry (word g.look n k) n (index g slot)) alike
      (subst (λ (key : ℕ). AllZip (AlikeEntries R) (with_entry (word f.look m k) m (index f slot)) (with_entry key n (index g slot)))
      (word_alike R pairing f.look g.look alike.looks k m n pair)
      (with_entry_alike R (word f.look m k) m n (index f slot) (index g slot) pair (index_alike R pairing f g alike slot)))

  with_part_alike : (f g : Flat) (m n : ℕ) → AlikeFlats R f g → R m n → AlikeFlats R (with_part f m) (with_part g n)
  with_part_alike f g m n alike pair =
      with_object_alike 2 2 (with_object 1 0 f m) (with_object 1 0 g n) m n (with_object_alike 1 0 f g m n alike pair) pair

  with_composite_alike : (p : Params) (k : ℕ) (xs ys nums : List ℕ) (f g : Flat) → AllZip R xs ys → AlikeFlats R f g
      → AlikeFlats R (with_composite p k xs nums f) (with_composite p k ys nums g)
  with_composite_alike p k xs ys nums f g zipped alike =
      let f1 : Flat = with_look f (put_all f.look (composite_objects p k xs nums)) in
      let g1 : Flat = with_look g (put_all g.look (composite_objects p k ys nums)) in
      let made : AlikeFlats R f1 g1 =
      look_alike R pairing f g (put_all f.look (composite_objects p k xs nums)) (put_all g.look (composite_objects p k ys nums)) alike
      (put_all_alike f.look g.look (composite_objects p k xs nums) (composite_objects p k ys nums) alike.looks (objects_made p k nums xs ys zipped)) in
      let f2 : Flat = fold with_part f1 (part_names p xs) in
      let g2 : Flat = fold with_part g1 (part_names p ys) in
      let parts : AlikeFlats R f2 g2 =
      zip_fold R (AlikeFlats R) with_part with_part (λ v w m n flats pair. with_part_alike v w m n flats pair) f1 g1 (part_names p xs) (part_names p ys) made
      (part_names_alike p xs ys zipped) in
      with_object_alike 4 0 (with_object 3 0 f2 (get_or xs 1 0)) (with_object 3 0 g2 (get_or ys 1 0)) (get_or xs 0 0) (get_or ys 0 0)
      (with_object_alike 3 0 f2 g2 (get_or xs 1 0) (get_or ys 1 0) parts (name_alike xs ys 1 zipped)) (name_alike xs ys 0 zipped)

  used_alike : (i place m n : ℕ) (f g : Flat) → R m n → AlikeFlats R f g → AlikeFlats R (used i place m f) (used i place n g)
  used_alike i place m n f g pair alike =
      look_alike R pairing f g (set f.look (get_or (bases f) i 0) (Reference (2 + place)) m) (set g.look (get_or (bases g) i 0) (Reference (2 + place)) n) alike
      (set_name_alike R pairing f.look g.look (get_or (bases f) i 0) (get_or (bases g) i 0) (2 + place) m n alike.looks
      (zip_get R 0 0 pairing.nil (bases f) (bases g) i (bases_alike R pairing f g alike)) pair)

  counted_alike : (p : Params) (k : ℕ) (f g : Flat) → AlikeFlats R f g → AlikeFlats R (counted p k f) (counted p k g)
  counted_alike p k f g alike =
      look_alike R pairing f g (set (set f.look (module_of f) (Word 2) (k * p.atomics)) (module_of f) (Word 3) k) (set (set g.look (module_of g) (Word 2) (k * p.atomics)) (module_of g) (Word 3) k) alike
      (set_word_alike R pairing (set f.look (module_of f) (Word 2) (k * p.atomics)) (set g.look (module_of g) (Word 2) (k * p.atomics)) (module_of f) (module_of g) 3 k k
      (set_word_alike R pairing f.look g.look (module_of f) (module_of g) 2 (k * p.atomics) (k * p.atomics) alike.looks (module_alike R pairing f g alike) refl)
      (module_alike R pairing f g alike) refl)

  inserted_alike : (p : Params) (k : ℕ) (xs ys : List ℕ) (s t : Course) → AllZip R xs ys → AlikeCourses R pairing s t
      → AlikeCourses R pairing (inserted p k xs s) (inserted p k ys t)
  inserted_alike p k xs ys s t zipped alike =
      let count : length (bases s.design) ≡ length (bases t.design) = zip_length R (bases s.design) (bases t.design) (bases_alike R pairing s.design t.design alike.designs) in
      let nums : drawn (composite_bounds p) s.draws ≡ drawn (composite_bounds p) t.draws = ap (λ (g : Lcg). drawn (composite_bounds p) g) alike.draws in
      let behind : after (composite_bounds p) s.draws ≡ after (composite_bounds p) t.draws = ap (λ (g : Lcg). after (composite_bounds p) g) alike.draws in
      let chosen : drawn (length (bases s.design) ∷ 3 ∷ []) (after (composite_bounds p) s.draws) ≡ drawn (length (bases t.design) ∷ 3 ∷ []) (after (composite_bounds p) t.draws) =
      λ i. drawn (count i ∷ 3 ∷ []) (behind i) in
      let with : AlikeFlats R (with_composite p k xs (drawn (composite_bounds p) s.draws) s.design) (with_composite p k ys (drawn (composite_bounds p) t.draws) t.design) =
      subst (λ (ns : List ℕ). AlikeFlats R (with_composite p k xs (drawn (composite_bounds p) s.draws) s.design) (with_composite p k ys ns t.design)) nums
      (with_composite_alike p k xs ys (drawn (composite_bounds p) s.draws) s.design t.design zipped alike.designs) in
      let place : List ℕ = drawn (length (bases s.design) ∷ 3 ∷ []) (after (composite_bounds p) s.draws) in
      record {
        designs = subst (λ (c : List ℕ). AlikeFlats R (inserted p k xs s).design
            (counted p k (used (get_or c 0 0) (get_or c 1 0) (get_or ys 0 0) (with_composite p k ys (drawn (composite_bounds p) t.draws) t.design)))) chosen
            (counted_alike p k (used (get_or place 0 0) (get_or place 1 0) (get_or xs 0 0) (with_composite p k xs (drawn (composite_bounds p) s.draws) s.design))
            (used (get_or place 0 0) (get_or place 1 0) (get_or ys 0 0) (with_composite p k ys (drawn (composite_bounds p) t.draws) t.design))
            (used_alike (get_or place 0 0) (get_or place 1 0) (get_or xs 0 0) (get_or ys 0 0) (with_composite p k xs (drawn (composite_bounds p) s.draws) s.design)
            (with_composite p k ys (drawn (composite_bounds p) t.draws) t.design) (name_alike xs ys 0 zipped) with));
        draws = λ i. after (count i ∷ 3 ∷ []) (behind i);
        parts = λ i. alike.parts i + p.atomics;
      }

  cond_courses : (b : Bool) (s2 t2 s t : Course) → AlikeCourses R pairing s2 t2 → AlikeCourses R pairing s t → AlikeCourses R pairing (cond b s2 s) (cond b t2 t)
  cond_courses true s2 t2 s t here else = here
  cond_courses false s2 t2 s t here else = else

  insertions_alike : (p : Params) (tries k : ℕ) (xs ys : List ℕ) (s t : Course) → AllZip R xs ys → AlikeCourses R pairing s t
      → AlikeCourses R pairing (insertions p tries k xs s) (insertions p tries k ys t)
  insertions_alike p zero k xs ys s t zipped alike = alike
  insertions_alike p (suc tries) k xs ys s t zipped alike =
      cond_courses (has_room p k) (insertions p tries (k + 1) (drop (objects_in p) xs) (inserted p k (take (objects_in p) xs) s))
      (insertions p tries (k + 1) (drop (objects_in p) ys) (inserted p k (take (objects_in p) ys) t)) s t
      (insertions_alike p tries (k + 1) (drop (objects_in p) xs) (drop (objects_in p) ys) (inserted p k (take (objects_in p) xs) s) (inserted p k (take (objects_in p) ys) t)
      (zip_drop R (objects_in p) xs ys zipped)
      (inserted_alike p k (take (objects_in p) xs) (take (objects_in p) ys) s t (zip_take R (objects_in p) xs ys zipped) alike)) alike

  pub insert_alike : (f g : Flat) (choice : ℕ) (xs ys : List ℕ) → AllZip R xs ys → AlikeFlats R f g → AlikeCourses R pairing (insert f choice xs) (insert g choice ys)
  insert_alike f g choice xs ys zipped alike =
      subst (λ (p : Params). AlikeCourses R pairing (insert f choice xs) (insertions p 5 (greatest_composite g + 1) ys (record { design = g; draws = begun choice 7; parts = 0 })))
      (params_alike R pairing f g alike)
      (subst (λ (k : ℕ). AlikeCourses R pairing (insert f choice xs) (insertions (params_in f) 5 (k + 1) ys (record { design = g; draws = begun choice 7; parts = 0 })))
      (word_alike R pairing f.look g.look alike.looks 3 (module_of f) (module_of g) (module_alike R pairing f g alike))
      (insertions_alike (params_in f) 5 (greatest_composite f + 1) xs ys (record { design = f; draws = begun choice 7; parts = 0 }) (record { design = g; draws = begun choice 7; parts = 0 }) zipped
      (record { designs = alike; draws = refl; parts = refl })))
