-- Writes to alike graphs leave them alike, and so do the jobs.
use Rattle.std.proofs.Common.{◌≡◌, ◌+◌, ℕ, zero, suc, List, [], ◌∷◌, length, Bool, true, false, cond, not, Option, None, Some, refl, sym, arith, ap, subst, ◌∙◌, map, get_or, set as put_at, leb}
use Rattle.std.specs.Prelude.{◌==◌, ◌&&◌, nat_lt, slice_index, fold}
use Rattle.std.specs.List.{AllZip, slice_get}
use Rattle.pm3_types.specs.declared.type_map.Tail.TheVariants.{Refs}
use Rattle.pm3_types.specs.declared.places.Place.TheVariants.{Word, Reference}
use Rattle.pm3_types.specs.Fields.{Fields, is_reference}
use Rattle.pm3_types.specs.Record.{Record}
use Rattle.pm3_types.specs.Places.{is_place_by, with_field}
use Rattle.rand_pcg.specs.Lcg.{Lcg}
use Rattle.oo7_schema.specs.declared.jobs.Extent.{Extent}
use Rattle.oo7_schema.specs.Schema.{class}
use Rattle.oo7_schema.specs.Lookup.{Look, listed_schema, word, reference, items, put, update, set, set_in}
use Rattle.oo7_schema.specs.Entries.{Entry, list_record, with_entry, without_entry}
use Rattle.oo7_schema.specs.Flat.{Flat, index, with_look, with_index}
use Rattle.oo7_schema.specs.Members.{document_of, build_date, x_of, y_of}
use Rattle.oo7_schema.specs.Walk.{bases}
use Rattle.oo7_schema.specs.Traversals.{swapped, t2, turned, redated, t3, extent}
use Rattle.oo7_schema.specs.Draws.{begun, below}
use Rattle.oo7_schema.specs.Changes.{Course, without_object, without_part, cleared, unlinked, without_composite, deleted, deletions, delete}
use Rattle.oo7_schema.specs.Alike.{Pairing, AreAlike, AlikeFields, AlikePlaces, AlikeRecords, AlikeObjects, Alike, AlikeFlats}
use Rattle.oo7_schema.proofs.Zips.{zip_fold, zip_length, zip_get}
use Rattle.oo7_schema.proofs.ReadAlike.{same_test, fields_length, reference_alike, word_alike, items_alike}
use Rattle.oo7_schema.proofs.VisitAlike.{AlikeEntries, no_reference, slot_alike, index_alike, bases_alike, extent_alike}
use Rattle.oo7_schema.proofs.Testing.{and_second}

module _ (R : ℕ → ℕ → Type 0) where
  fields_set : (map : Fields) (f k : ℕ) (vs ws : List ℕ) (v w : ℕ) → AlikeFields R map f vs ws → AreAlike R (is_reference map (f + k)) v w
      → AlikeFields R map f (put_at vs k v) (put_at ws k w)
  fields_set map f k [] [] v w alike here = tt
  fields_set map f k [] (y ∷ ws) v w alike here = absurd alike
  fields_set map f k (x ∷ vs) [] v w alike here = absurd alike
  fields_set map f zero (x ∷ vs) (y ∷ ws) v w alike here =
      let at : f + 0 ≡ f = omega arith in
      (subst (λ (n : ℕ). AreAlike R (is_reference map n) v w) at here, alike.1)
  fields_set map f (suc k) (x ∷ vs) (y ∷ ws) v w alike here =
      let at : f + suc k ≡ suc f + k = omega arith in
      (alike.0, fields_set map (suc f) k vs ws v w alike.1 (subst (λ (n : ℕ). AreAlike R (is_reference map n) v w) at here))

  as_word : (b : Bool) (v w : ℕ) → not b ≡ true → v ≡ w → AreAlike R b v w
  as_word false v w is same = same
  as_word true v w is same = cc

  as_name : (b : Bool) (v w : ℕ) → b ≡ true → R v w → AreAlike R b v w
  as_name true v w is pair = pair
  as_name false v w is pair = cc

  word_set : (o : Option Fields) (r s : Record) (k v w : ℕ) → AlikePlaces R o r s → is_place_by o r (Word k) ≡ true → v ≡ w
      → AlikePlaces R o (with_field r k v) (with_field s k w)
  word_set None r s k v w alike is same = cc
  word_set (Some map) r s k v w alike is same =
      let at : 0 + k ≡ k = omega arith in (
        fields_set map 0 k r.fields s.fields v w alike.0
            (as_word (is_reference map (0 + k)) v w (ap (λ (n : ℕ). not (is_reference map n)) at ∙ and_second (nat_lt k (length r.fields)) (not (is_reference map k)) is) same),
        alike.1,
      )

  name_set : (o : Option Fields) (r s : Record) (k v w : ℕ) → AlikePlaces R o r s → is_place_by o r (Reference k) ≡ true → R v w
      → AlikePlaces R o (with_field r k v) (with_field s k w)
  name_set None r s k v w alike is pair = cc
  name_set (Some map) r s k v w alike is pair =
      let at : 0 + k ≡ k = omega arith in (
        fields_set map 0 k r.fields s.fields v w alike.0
            (as_name (is_reference map (0 + k)) v w (ap (is_reference map) at ∙ and_second (nat_lt k (length r.fields)) (is_reference map k) is) pair),
        alike.1,
      )

  same_word_place : (o : Option Fields) (r s : Record) (k : ℕ) → AlikePlaces R o r s → is_place_by o r (Word k) ≡ is_place_by o s (Word k)
  same_word_place None r s k alike = refl
  same_word_place (Some map) r s k alike = ap (λ (n : ℕ). nat_lt k n && not (is_reference map k)) (fields_length R map 0 r.fields s.fields alike.0)

  same_name_place : (o : Option Fields) (r s : Record) (k : ℕ) → AlikePlaces R o r s → is_place_by o r (Reference k) ≡ is_place_by o s (Reference k)
  same_name_place None r s k alike = refl
  same_name_place (Some map) r s k alike = ap (λ (n : ℕ). nat_lt k n && is_reference map k) (fields_length R map 0 r.fields s.fields alike.0)

  chosen : (b : Bool) (r2 s2 r s : Record) → (b ≡ true → AlikeRecords R r2 s2) → AlikeRecords R r s → AlikeRecords R (cond b r2 r) (cond b s2 s)
  chosen true r2 s2 r s changed alike = changed refl
  chosen false r2 s2 r s changed alike = alike

  pub word_set_in : (k v w : ℕ) → v ≡ w → (o p : Option Record) → AlikeObjects R o p → AlikeObjects R (set_in (Word k) v o) (set_in (Word k) w p)
  word_set_in k v w same None None alike = tt
  word_set_in k v w same None (Some s) alike = absurd alike
  word_set_in k v w same (Some r) None alike = absurd alike
  word_set_in k v w same (Some r) (Some s) alike =
      let one : is_place_by (slice_get listed_schema r.ty) r (Word k) ≡ is_place_by (slice_get listed_schema s.ty) s (Word k) =
      same_word_place (slice_get listed_schema r.ty) r s k alike.places ∙ ap (λ (ty : ℕ). is_place_by (slice_get listed_schema ty) s (Word k)) alike.class in
      subst (λ (b : Bool). AlikeRecords R (cond (is_place_by (slice_get listed_schema r.ty) r (Word k)) (with_field r k v) r) (cond b (with_field s k w) s)) one
      (chosen (is_place_by (slice_get listed_schema r.ty) r (Word k)) (with_field r k v) (with_field s k w) r s
      (λ is. record { class = alike.class; places = word_set (slice_get listed_schema r.ty) r s k v w alike.places is same }) alike)

  pub name_set_in : (k v w : ℕ) → R v w → (o p : Option Record) → AlikeObjects R o p → AlikeObjects R (set_in (Reference k) v o) (set_in (Reference k) w p)
  name_set_in k v w pair None None alike = tt
  name_set_in k v w pair None (Some s) alike = absurd alike
  name_set_in k v w pair (Some r) None alike = absurd alike
  name_set_in k v w pair (Some r) (Some s) alike =
      let one : is_place_by (slice_get listed_schema r.ty) r (Reference k) ≡ is_place_by (slice_get listed_schema s.ty) s (Reference k) =
      same_name_place (slice_get listed_schema r.ty) r s k alike.places ∙ ap (λ (ty : ℕ). is_place_by (slice_get listed_schema ty) s (Reference k)) alike.class in
      subst (λ (b : Bool). AlikeRecords R (cond (is_place_by (slice_get listed_schema r.ty) r (Reference k)) (with_field r k v) r) (cond b (with_field s k w) s)) one
      (chosen (is_place_by (slice_get listed_schema r.ty) r (Reference k)) (with_field r k v) (with_field s k w) r s
      (λ is. record { class = alike.class; places = name_set (slice_get listed_schema r.ty) r s k v w alike.places is pair }) alike)

  cond_objects : (b : Bool) (o2 p2 o p : Option Record) → AlikeObjects R o2 p2 → AlikeObjects R o p → AlikeObjects R (cond b o2 o) (cond b p2 p)
  cond_objects true o2 p2 o p here else = here
  cond_objects false o2 p2 o p here else = else

  key_fields : (f : ℕ) (es ds : List Entry) → AllZip (AlikeEntries R) es ds
      → AlikeFields R (class 0 0 Refs) f (map (λ (e : Entry). e.0) es) (map (λ (e : Entry). e.0) ds)
  key_fields f [] [] zipped = tt
  key_fields f [] (d ∷ ds) zipped = absurd zipped
  key_fields f (e ∷ es) [] zipped = absurd zipped
  key_fields f (e ∷ es) (d ∷ ds) zipped =
      (subst (λ (b : Bool). AreAlike R b e.0 d.0) (sym (no_reference f)) zipped.0.0, key_fields (suc f) es ds zipped.1)

  entry_names : (es ds : List Entry) → AllZip (AlikeEntries R) es ds → AllZip R (map (λ (e : Entry). e.1) es) (map (λ (e : Entry). e.1) ds)
  entry_names [] [] zipped = tt
  entry_names [] (d ∷ ds) zipped = absurd zipped
  entry_names (e ∷ es) [] zipped = absurd zipped
  entry_names (e ∷ es) (d ∷ ds) zipped = (zipped.0.1, entry_names es ds zipped.1)

  pub lists_alike : (es ds : List Entry) → AllZip (AlikeEntries R) es ds → AlikeRecords R (list_record es) (list_record ds)
  lists_alike es ds zipped = record { class = refl; places = (key_fields 0 es ds zipped, entry_names es ds zipped) }

  cond_entries : (b : Bool) (es2 ds2 es ds : List Entry) → AllZip (AlikeEntries R) es2 ds2 → AllZip (AlikeEntries R) es ds
      → AllZip (AlikeEntries R) (cond b es2 es) (cond b ds2 ds)
  cond_entries true es2 ds2 es ds here else = here
  cond_entries false es2 ds2 es ds here else = else

  pub with_entry_alike : (key m n : ℕ) (es ds : List Entry) → R m n → AllZip (AlikeEntries R) es ds → AllZip (AlikeEntries R) (with_entry key m es) (with_entry key n ds)
  with_entry_alike key m n [] [] pair zipped = ((refl, pair), tt)
  with_entry_alike key m n [] (d ∷ ds) pair zipped = absurd zipped
  with_entry_alike key m n (e ∷ es) [] pair zipped = absurd zipped
  with_entry_alike key m n (e ∷ es) (d ∷ ds) pair zipped =
      subst (λ (k : ℕ). AllZip (AlikeEntries R) (with_entry key m (e ∷ es)) (cond (leb k key) (d ∷ with_entry key n ds) ((key, n) ∷ d ∷ ds))) zipped.0.0
      (cond_entries (leb e.0 key) (e ∷ with_entry key m es) (d ∷ with_entry key n ds) ((key, m) ∷ e ∷ es) ((key, n) ∷ d ∷ ds)
      (zipped.0, with_entry_alike key m n es ds pair zipped.1) ((refl, pair), zipped))

module _ (R : ℕ → ℕ → Type 0) (pairing : Pairing R) where
  pub update_alike : (f g : Look) (m n : ℕ) (change change2 : Option Record → Option Record) → Alike R f g → R m n → AlikeObjects R (change (f m)) (change2 (g n))
      → Alike R (update f m change) (update g n change2)
  update_alike f g m n change change2 alike pair changed = record {
    at = λ p q other.
        subst (λ (b : Bool). AlikeObjects R (cond (p == m) (change (f m)) (f p)) (cond b (change2 (g n)) (g q))) (same_test R pairing p q m n other pair)
        (cond_objects R (p == m) (change (f m)) (change2 (g n)) (f p) (g q) changed (alike.at p q other));
  }

  pub put_alike : (f g : Look) (m n : ℕ) (r s : Record) → Alike R f g → R m n → AlikeRecords R r s → Alike R (put f m r) (put g n s)
  put_alike f g m n r s alike pair put = record {
    at = λ p q other.
        subst (λ (b : Bool). AlikeObjects R (cond (p == m) (Some r) (f p)) (cond b (Some s) (g q))) (same_test R pairing p q m n other pair)
        (cond_objects R (p == m) (Some r) (Some s) (f p) (g q) put (alike.at p q other));
  }

  pub set_word_alike : (f g : Look) (m n k v w : ℕ) → Alike R f g → R m n → v ≡ w → Alike R (set f m (Word k) v) (set g n (Word k) w)
  set_word_alike f g m n k v w alike pair same =
      update_alike f g m n (set_in (Word k) v) (set_in (Word k) w) alike pair (word_set_in R k v w same (f m) (g n) (alike.at m n pair))

  pub set_name_alike : (f g : Look) (m n k v w : ℕ) → Alike R f g → R m n → R v w → Alike R (set f m (Reference k) v) (set g n (Reference k) w)
  set_name_alike f g m n k v w alike pair named =
      update_alike f g m n (set_in (Reference k) v) (set_in (Reference k) w) alike pair (name_set_in R k v w named (f m) (g n) (alike.at m n pair))

  without_entry_alike : (key m n : ℕ) (es ds : List Entry) → R m n → AllZip (AlikeEntries R) es ds → AllZip (AlikeEntries R) (without_entry key m es) (without_entry key n ds)
  without_entry_alike key m n [] [] pair zipped = tt
  without_entry_alike key m n [] (d ∷ ds) pair zipped = absurd zipped
  without_entry_alike key m n (e ∷ es) [] pair zipped = absurd zipped
  without_entry_alike key m n (e ∷ es) (d ∷ ds) pair zipped =
      let one : (e.0 == key && e.1 == m) ≡ (d.0 == key && d.1 == n) = λ i. (zipped.0.0 i == key) && same_test R pairing e.1 d.1 m n zipped.0.1 pair i in
      subst (λ (b : Bool). AllZip (AlikeEntries R) (cond (e.0 == key && e.1 == m) es (e ∷ without_entry key m es)) (cond b ds (d ∷ without_entry key n ds))) one
      (cond_entries R (e.0 == key && e.1 == m) es ds (e ∷ without_entry key m es) (d ∷ without_entry key n ds) zipped.1
      (zipped.0, without_entry_alike key m n es ds pair zipped.1))

  pub look_alike : (f g : Flat) (v w : Look) → AlikeFlats R f g → Alike R v w → AlikeFlats R (with_look f v) (with_look g w)
  look_alike f g v w alike looks = record { looks = looks; roots = alike.roots }

  pub with_index_alike : (f g : Flat) (slot : ℕ) (es ds : List Entry) → AlikeFlats R f g → AllZip (AlikeEntries R) es ds → AlikeFlats R (with_index f slot es) (with_index g slot ds)
  with_index_alike f g slot es ds alike zipped =
      look_alike f g (put f.look (slice_index f.roots slot) (list_record es)) (put g.look (slice_index g.roots slot) (list_record ds)) alike
      (put_alike f.look g.look (slice_index f.roots slot) (slice_index g.roots slot) (list_record es) (list_record ds) alike.looks (slot_alike R pairing f g alike slot)
      (lists_alike R es ds zipped))

  swapped_alike : (f g : Look) (m n : ℕ) → Alike R f g → R m n → Alike R (swapped f m) (swapped g n)
  swapped_alike f g m n alike pair =
      set_word_alike (set f m (Word 3) (y_of f m)) (set g n (Word 3) (y_of g n)) m n 4 (x_of f m) (x_of g n)
      (set_word_alike f g m n 3 (y_of f m) (y_of g n) alike pair (word_alike R pairing f g alike 4 m n pair)) pair (word_alike R pairing f g alike 3 m n pair)

  pub t2_alike : (f g : Flat) (e : Extent) → AlikeFlats R f g → AlikeFlats R (t2 f e) (t2 g e)
  t2_alike f g e alike =
      look_alike f g (fold swapped f.look (extent f e)) (fold swapped g.look (extent g e)) alike
      (zip_fold R (Alike R) swapped swapped (λ v w m n looks pair. swapped_alike v w m n looks pair) f.look g.look (extent f e) (extent g e) alike.looks
      (extent_alike R pairing f g alike e))

  redated_alike : (f g : Flat) (m n : ℕ) → AlikeFlats R f g → R m n → AlikeFlats R (redated f m) (redated g n)
  redated_alike f g m n alike pair =
      let old : build_date f.look m ≡ build_date g.look n = word_alike R pairing f.look g.look alike.looks 2 m n pair in
      let less : AllZip (AlikeEntries R) (without_entry (build_date f.look m) m (index f 2)) (without_entry (build_date f.look m) n (index g 2)) =
      without_entry_alike (build_date f.look m) m n (index f 2) (index g 2) pair (index_alike R pairing f g alike 2) in
      subst (λ (date : ℕ). AlikeFlats R (redated f m) (with_index (with_look g (set g.look n (Word 2) (turned date))) 2 (with_entry (turned date) n (without_entry date n (index g 2))))) old
      (with_index_alike (with_look f (set f.look m (Word 2) (turned (build_date f.look m)))) (with_look g (set g.look n (Word 2) (turned (build_date f.look m)))) 2
      (with_entry (turned (build_date f.look m)) m (without_entry (build_date f.look m) m (index f 2)))
      (with_entry (turned (build_date f.look m)) n (without_entry (build_date f.look m) n (index g 2)))
      (look_alike f g (set f.look m (Word 2) (turned (build_date f.look m))) (set g.look n (Word 2) (turned (build_date f.look m))) alike
      (set_word_alike f.look g.look m n 2 (turned (build_date f.look m)) (turned (build_date f.look m)) alike.looks pair refl))
      (with_entry_alike R (turned (build_date f.look m)) m n (without_entry (build_date f.look m) m (index f 2)) (without_entry (build_date f.look m) n (index g 2)) pair less))

  pub t3_alike : (f g : Flat) (e : Extent) → AlikeFlats R f g → AlikeFlats R (t3 f e) (t3 g e)
  t3_alike f g e alike =
      zip_fold R (AlikeFlats R) redated redated (λ v w m n flats pair. redated_alike v w m n flats pair) f g (extent f e) (extent g e) alike
      (extent_alike R pairing f g alike e)

  without_object_alike : (slot k : ℕ) (f g : Flat) (m n : ℕ) → AlikeFlats R f g → R m n → AlikeFlats R (without_object slot k f m) (without_object slot k g n)
  without_object_alike slot k f g m n alike pair =
      with_index_alike f g slot (without_entry (word f.look m k) m (index f slot)) (without_entry (word g.look n k) n (index g slot)) alike
      (subst (λ (key : ℕ). AllZip (AlikeEntries R) (without_entry (word f.look m k) m (index f slot)) (without_entry key n (index g slot)))
      (word_alike R pairing f.look g.look alike.looks k m n pair)
      (without_entry_alike (word f.look m k) m n (index f slot) (index g slot) pair (index_alike R pairing f g alike slot)))

  without_part_alike : (f g : Flat) (m n : ℕ) → AlikeFlats R f g → R m n → AlikeFlats R (without_part f m) (without_part g n)
  without_part_alike f g m n alike pair =
      without_object_alike 2 2 (without_object 1 0 f m) (without_object 1 0 g n) m n (without_object_alike 1 0 f g m n alike pair) pair

  cond_looks : (b : Bool) (f2 g2 f g : Look) → Alike R f2 g2 → Alike R f g → Alike R (cond b f2 f) (cond b g2 g)
  cond_looks true f2 g2 f g here else = here
  cond_looks false f2 g2 f g here else = else

  cleared_alike : (c d : ℕ) → R c d → (f g : Look) (m n place : ℕ) → Alike R f g → R m n → Alike R (cleared c f m place) (cleared d g n place)
  cleared_alike c d named f g m n place alike pair =
      subst (λ (b : Bool). Alike R (cleared c f m place) (cond b (set g n (Reference place) 0) g))
      (same_test R pairing (reference f m place) (reference g n place) c d (reference_alike R pairing f g alike place m n pair) named)
      (cond_looks (reference f m place == c) (set f m (Reference place) 0) (set g n (Reference place) 0) f g
      (set_name_alike f g m n place 0 0 alike pair pairing.nil) alike)

  unlinked_alike : (c d : ℕ) → R c d → (f g : Look) (m n : ℕ) → Alike R f g → R m n → Alike R (unlinked c f m) (unlinked d g n)
  unlinked_alike c d named f g m n alike pair =
      cleared_alike c d named (cleared c (cleared c f m 2) m 3) (cleared d (cleared d g n 2) n 3) m n 4
      (cleared_alike c d named (cleared c f m 2) (cleared d g n 2) m n 3 (cleared_alike c d named f g m n 2 alike pair) pair) pair

  without_composite_alike : (e d : Entry) (f g : Flat) → AlikeEntries R e d → AlikeFlats R f g → AlikeFlats R (without_composite e f) (without_composite d g)
  without_composite_alike e d f g same alike =
      let partless : AlikeFlats R (fold without_part f (items f.look e.1)) (fold without_part g (items g.look d.1)) =
      zip_fold R (AlikeFlats R) without_part without_part (λ v w m n flats pair. without_part_alike v w m n flats pair) f g (items f.look e.1) (items g.look d.1) alike
      (items_alike R pairing f.look g.look alike.looks e.1 d.1 same.1) in
      let f1 : Flat = without_object 3 0 (fold without_part f (items f.look e.1)) (document_of f.look e.1) in
      let g1 : Flat = without_object 3 0 (fold without_part g (items g.look d.1)) (document_of g.look d.1) in
      let less : AlikeFlats R f1 g1 =
      without_object_alike 3 0 (fold without_part f (items f.look e.1)) (fold without_part g (items g.look d.1)) (document_of f.look e.1) (document_of g.look d.1) partless
      (reference_alike R pairing f.look g.look alike.looks 2 e.1 d.1 same.1) in
      let entries : AllZip (AlikeEntries R) (without_entry e.0 e.1 (index f1 4)) (without_entry d.0 d.1 (index g1 4)) =
      subst (λ (key : ℕ). AllZip (AlikeEntries R) (without_entry e.0 e.1 (index f1 4)) (without_entry key d.1 (index g1 4))) same.0
      (without_entry_alike e.0 e.1 d.1 (index f1 4) (index g1 4) same.1 (index_alike R pairing f1 g1 less 4)) in
      let f2 : Flat = with_index f1 4 (without_entry e.0 e.1 (index f1 4)) in
      let g2 : Flat = with_index g1 4 (without_entry d.0 d.1 (index g1 4)) in
      let rest : AlikeFlats R f2 g2 = with_index_alike f1 g1 4 (without_entry e.0 e.1 (index f1 4)) (without_entry d.0 d.1 (index g1 4)) less entries in
      look_alike f2 g2 (fold (unlinked e.1) f2.look (bases f)) (fold (unlinked d.1) g2.look (bases g)) rest
      (zip_fold R (Alike R) (unlinked e.1) (unlinked d.1) (λ v w m n looks pair. unlinked_alike e.1 d.1 same.1 v w m n looks pair) f2.look g2.look (bases f) (bases g) rest.looks
      (bases_alike R pairing f g alike))

  -- the courses of a job on alike graphs
  pub record AlikeCourses (s t : Course) : Type 0 where
    pub designs : AlikeFlats R s.design t.design
    pub draws : s.draws ≡ t.draws
    pub parts : s.parts ≡ t.parts

  deleted_alike : (s t : Course) → AlikeCourses s t → AlikeCourses (deleted s) (deleted t)
  deleted_alike s t alike =
      let lists : AllZip (AlikeEntries R) (index s.design 4) (index t.design 4) = index_alike R pairing s.design t.design alike.designs 4 in
      let drawn : below (length (index s.design 4)) s.draws ≡ below (length (index t.design 4)) t.draws =
      λ i. below (zip_length (AlikeEntries R) (index s.design 4) (index t.design 4) lists i) (alike.draws i) in
      let taken : AlikeEntries R (get_or (index s.design 4) (below (length (index s.design 4)) s.draws).0 (0, 0)) (get_or (index t.design 4) (below (length (index t.design 4)) t.draws).0 (0, 0)) =
      subst (λ (d : ℕ × Lcg). AlikeEntries R (get_or (index s.design 4) (below (length (index s.design 4)) s.draws).0 (0, 0)) (get_or (index t.design 4) d.0 (0, 0))) drawn
      (zip_get (AlikeEntries R) (0, 0) (0, 0) (refl, pairing.nil) (index s.design 4) (index t.design 4) (below (length (index s.design 4)) s.draws).0 lists) in
      record {
        designs = without_composite_alike (get_or (index s.design 4) (below (length (index s.design 4)) s.draws).0 (0, 0)) (get_or (index t.design 4) (below (length (index t.design 4)) t.draws).0 (0, 0)) s.design t.design taken alike.designs;
        draws = λ i. (drawn i).1;
        parts = λ i. alike.parts i + zip_length R (items s.design.look (get_or (index s.design 4) (below (length (index s.design 4)) s.draws).0 (0, 0)).1)
            (items t.design.look (get_or (index t.design 4) (below (length (index t.design 4)) t.draws).0 (0, 0)).1)
            (items_alike R pairing s.design.look t.design.look alike.designs.looks (get_or (index s.design 4) (below (length (index s.design 4)) s.draws).0 (0, 0)).1
            (get_or (index t.design 4) (below (length (index t.design 4)) t.draws).0 (0, 0)).1 taken.1) i;
      }

  cond_courses : (b : Bool) (s2 t2 s t : Course) → AlikeCourses s2 t2 → AlikeCourses s t → AlikeCourses (cond b s2 s) (cond b t2 t)
  cond_courses true s2 t2 s t here else = here
  cond_courses false s2 t2 s t here else = else

  deletions_alike : (tries : ℕ) (s t : Course) → AlikeCourses s t → AlikeCourses (deletions tries s) (deletions tries t)
  deletions_alike zero s t alike = alike
  deletions_alike (suc tries) s t alike =
      subst (λ (n : ℕ). AlikeCourses (deletions (suc tries) s) (cond (n == 0) t (deletions tries (deleted t))))
      (zip_length (AlikeEntries R) (index s.design 4) (index t.design 4) (index_alike R pairing s.design t.design alike.designs 4))
      (cond_courses (length (index s.design 4) == 0) s t (deletions tries (deleted s)) (deletions tries (deleted t)) alike
      (deletions_alike tries (deleted s) (deleted t) (deleted_alike s t alike)))

  pub delete_alike : (f g : Flat) (choice : ℕ) → AlikeFlats R f g → AlikeCourses (delete f choice) (delete g choice)
  delete_alike f g choice alike =
      deletions_alike 5 (record { design = f; draws = begun choice 7; parts = 0 }) (record { design = g; draws = begun choice 7; parts = 0 })
      (record { designs = alike; draws = refl; parts = refl })
