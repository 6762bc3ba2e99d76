-- The walk, the parts of visits, texts and entries of alike graphs are alike, and so what is answered of them is equal.
use Rattle.std.proofs.Common.{◌≡◌, ◌-◌, ◌%◌, ◌^◌, ℕ, zero, suc, List, [], ◌∷◌, ◌++◌, length, Bool, true, false, cond, not, Option, None, Some, refl, arith, ap, subst, ◌∙◌, map, replicate, leb}
use Rattle.std.specs.Prelude.{◌==◌, ◌&&◌, nat_lt, slice_index, flat_map, count_by, sum, zip}
use Rattle.std.specs.List.{AllZip, slice_get}
use Rattle.std.proofs.Math.Nat.{zero-div}
use Rattle.std.proofs.lemmas.Bool.Decides.{nat_tests}
use Rattle.pm3_types.specs.declared.type_map.Tail.TheVariants.{Refs}
use Rattle.pm3_types.specs.Fields.{is_reference}
use Rattle.pm3_types.specs.Record.{Record}
use Rattle.pm3_types.specs.Numbering.{is_among}
use Rattle.oo7_schema.specs.declared.sizes.Params.{Params}
use Rattle.oo7_schema.specs.declared.jobs.Extent.{Extent}
use Rattle.oo7_schema.specs.declared.jobs.Extent.TheVariants.{A, B, C}
use Rattle.oo7_schema.specs.Schema.{class}
use Rattle.oo7_schema.specs.Sizes.{params_of, size_at}
use Rattle.oo7_schema.specs.Lookup.{Look, listed_schema, word, reference, items, bytes}
use Rattle.oo7_schema.specs.Entries.{Entry, entries_in, first_with, count_between}
use Rattle.oo7_schema.specs.Flat.{Flat, index}
use Rattle.oo7_schema.specs.Members.{module_of, params_in, greatest_atomic, greatest_composite, manual_of, design_root, places, root_part, neighbours, date_of, part_of, x_of}
use Rattle.oo7_schema.specs.Walk.{bases_under, parts_at, depth_of, bases, walk, met_once, met_under, parts_of, all_parts}
use Rattle.oo7_schema.specs.Texts.{chunks, text_from}
use Rattle.oo7_schema.specs.Traversals.{t1, t6, t8, t9, extent, changes, manual_text, bit}
use Rattle.oo7_schema.specs.Queries.{q1, q2, q3, q4, q5, q7, told, users, has_younger, numbers_to}
use Rattle.oo7_schema.specs.Alike.{Pairing, AreAlike, AlikeFields, AlikePlaces, AlikeObjects, Alike, AlikeFlats}
use Rattle.oo7_schema.proofs.Zips.{zip_join, zip_map, zip_flat, zip_filter, zip_length, zip_fold, zip_count, zip_any, zip_get, zip_find, zip_replicate, flat_same, Either}
use Rattle.oo7_schema.proofs.ReadAlike.{same_test, among_alike, reference_alike, word_alike, items_alike, bytes_alike}

-- one key, and objects that stand for each other
abbrev pub AlikeEntries : (ℕ → ℕ → Type 0) → Entry → Entry → Type 0
AlikeEntries R e d = (e.0 ≡ d.0) × R e.1 d.1

pub no_reference : (f : ℕ) → is_reference (record { count = 0; refs = 0; tail = Refs }) f ≡ false
unfolding is_reference
no_reference f = ap (λ (n : ℕ). n % 2 == 1) (zero-div (2 ^ f))

module _ (R : ℕ → ℕ → Type 0) where
  same_words : (f : ℕ) (vs ws : List ℕ) → AlikeFields R (class 0 0 Refs) f vs ws → vs ≡ ws
  same_words f [] [] alike = refl
  same_words f [] (w ∷ ws) alike = absurd alike
  same_words f (v ∷ vs) [] alike = absurd alike
  same_words f (v ∷ vs) (w ∷ ws) alike =
      let here : v ≡ w = subst (λ (b : Bool). AreAlike R b v w) (no_reference f) alike.0 in
      λ i. here i ∷ same_words (suc f) vs ws alike.1 i

  zip_entries : (ks vs ws : List ℕ) → AllZip R vs ws → AllZip (AlikeEntries R) (zip ks vs) (zip ks ws)
  zip_entries [] vs ws zipped = tt
  zip_entries (k ∷ ks) [] [] zipped = tt
  zip_entries (k ∷ ks) [] (w ∷ ws) zipped = absurd zipped
  zip_entries (k ∷ ks) (v ∷ vs) [] zipped = absurd zipped
  zip_entries (k ∷ ks) (v ∷ vs) (w ∷ ws) zipped = ((refl, zipped.0), zip_entries ks vs ws zipped.1)

  number_same : (a b : ℕ) → (a == b) ≡ true → a ≡ b
  number_same a b is = grind (arith, nat_tests)

  list_entries : (r s : Record) → AlikePlaces R (slice_get listed_schema 12) r s → AllZip (AlikeEntries R) (zip r.fields r.tail) (zip s.fields s.tail)
  list_entries r s alike =
      subst (λ (ks : List ℕ). AllZip (AlikeEntries R) (zip r.fields r.tail) (zip ks s.tail)) (same_words 0 r.fields s.fields alike.0)
      (zip_entries r.fields r.tail s.tail alike.1)

  guarded_entries : (b : Bool) (es ds : List Entry) → (b ≡ true → AllZip (AlikeEntries R) es ds) → AllZip (AlikeEntries R) (cond b es []) (cond b ds [])
  guarded_entries true es ds alike = alike refl
  guarded_entries false es ds alike = tt

  entries_of_objects : (o p : Option Record) → AlikeObjects R o p → AllZip (AlikeEntries R) (entries_in o) (entries_in p)
  entries_of_objects None None alike = tt
  entries_of_objects None (Some s) alike = absurd alike
  entries_of_objects (Some r) None alike = absurd alike
  entries_of_objects (Some r) (Some s) alike =
      subst (λ (ty : ℕ). AllZip (AlikeEntries R) (entries_in (Some r)) (cond (ty == 12) (zip s.fields s.tail) [])) alike.class
      (guarded_entries (r.ty == 12) (zip r.fields r.tail) (zip s.fields s.tail)
      (λ is. list_entries r s (subst (λ (ty : ℕ). AlikePlaces R (slice_get listed_schema ty) r s) (number_same r.ty 12 is) alike.places)))

module _ (R : ℕ → ℕ → Type 0) (pairing : Pairing R) where
  module _ (f g : Look) (alike : Alike R f g) where
    pub places_alike : (m n : ℕ) → R m n → AllZip R (places f m) (places g n)
    places_alike m n pair =
        (reference_alike R pairing f g alike 2 m n pair, (reference_alike R pairing f g alike 3 m n pair, (reference_alike R pairing f g alike 4 m n pair, tt)))

    bases_under_alike : (k m n : ℕ) → R m n → AllZip R (bases_under f k m) (bases_under g k n)
    bases_under_alike zero m n pair = (pair, tt)
    bases_under_alike (suc k) m n pair =
        zip_flat R R (bases_under f k) (bases_under g k) (bases_under_alike k) (places f m) (places g n) (places_alike m n pair)

    pub parts_at_alike : (m n : ℕ) → R m n → AllZip R (parts_at f m) (parts_at g n)
    parts_at_alike m n pair =
        zip_filter R (λ p. not (p == 0)) (λ q. not (q == 0)) (λ p q other. ap not (same_test R pairing p q 0 0 other pairing.nil))
        (places f m) (places g n) (places_alike m n pair)

    neighbours_alike : (m n : ℕ) → R m n → AllZip R (neighbours f m) (neighbours g n)
    neighbours_alike m n pair =
        zip_map R R (λ (c : ℕ). reference f c 3) (λ (c : ℕ). reference g c 3) (reference_alike R pairing f g alike 3) (items f m) (items g n)
        (items_alike R pairing f g alike m n pair)

    met_once_alike : (step step2 : List ℕ → ℕ → List ℕ) → ((met met2 : List ℕ) (m n : ℕ) → AllZip R met met2 → R m n → AllZip R (step met m) (step2 met2 n))
        → (next next2 : List ℕ) (b : Bool) (met met2 : List ℕ) (m n : ℕ) → AllZip R next next2 → AllZip R met met2 → R m n
        → AllZip R (met_once step next b met m) (met_once step2 next2 b met2 n)
    met_once_alike step step2 steps next next2 true met met2 m n further before pair = before
    met_once_alike step step2 steps next next2 false met met2 m n further before pair =
        zip_fold R (AllZip R) step step2 (λ c d p q more other. steps c d p q more other)
        (met ++ m ∷ []) (met2 ++ n ∷ []) next next2 (zip_join R met (m ∷ []) met2 (n ∷ []) before (pair, tt)) further

    met_alike : (d : ℕ) (met met2 : List ℕ) (m n : ℕ) → AllZip R met met2 → R m n
        → AllZip R (met_under (neighbours f) d met m) (met_under (neighbours g) d met2 n)
    met_alike zero met met2 m n before pair = before
    met_alike (suc d) met met2 m n before pair =
        subst (λ (b : Bool). AllZip R (met_under (neighbours f) (suc d) met m) (met_once (met_under (neighbours g) d) (neighbours g n) b met2 n))
        (among_alike R pairing m n met met2 pair before)
        (met_once_alike (met_under (neighbours f) d) (met_under (neighbours g) d) (met_alike d) (neighbours f m) (neighbours g n) (is_among met m) met met2 m n
        (neighbours_alike m n pair) before pair)

    pub parts_of_alike : (atomics m n : ℕ) → R m n → AllZip R (parts_of f atomics m) (parts_of g atomics n)
    parts_of_alike atomics m n pair = met_alike atomics [] [] (root_part f m) (root_part g n) tt (reference_alike R pairing f g alike 3 m n pair)

    chunks_alike : (most m n : ℕ) → R m n → AllZip R (chunks f most m) (chunks g most n)
    chunks_alike zero m n pair = tt
    chunks_alike (suc most) zero zero pair = tt
    chunks_alike (suc most) zero (suc n) pair = cc (pairing.one 0 (suc n) 0 pair pairing.nil)
    chunks_alike (suc most) (suc m) zero pair = cc (pairing.back (suc m) 0 0 pair pairing.nil)
    chunks_alike (suc most) (suc m) (suc n) pair =
        (pair, chunks_alike most (reference f (suc m) 0) (reference g (suc n) 0) (reference_alike R pairing f g alike 0 (suc m) (suc n) pair))

    text_alike : (count m n : ℕ) → R m n → text_from f count m ≡ text_from g count n
    text_alike count m n pair =
        flat_same R (bytes f) (bytes g) (bytes_alike R pairing f g alike) (chunks f count m) (chunks g count n) (chunks_alike count m n pair)

    younger_alike : (m n : ℕ) → R m n → has_younger f m ≡ has_younger g n
    younger_alike m n pair =
        zip_any R (λ (c : ℕ). nat_lt (date_of f m) (date_of f c)) (λ (c : ℕ). nat_lt (date_of g n) (date_of g c))
        (λ c d other. λ i. nat_lt (word_alike R pairing f g alike 1 m n pair i) (word_alike R pairing f g alike 1 c d other i))
        (parts_at f m) (parts_at g n) (parts_at_alike m n pair)

  module _ (f g : Flat) (alike : AlikeFlats R f g) where
    root_alike : (slot : ℕ) → R (slice_index f.roots slot) (slice_index g.roots slot)
    root_alike slot = zip_get R 0 0 pairing.nil f.roots g.roots slot alike.roots

    pub module_alike : R (module_of f) (module_of g)
    module_alike = root_alike 0

    pub slot_alike : (slot : ℕ) → R (slice_index f.roots slot) (slice_index g.roots slot)
    slot_alike slot = root_alike slot

    pub params_alike : params_in f ≡ params_in g
    params_alike = ap (λ (n : ℕ). params_of (size_at n)) (word_alike R pairing f.look g.look alike.looks 1 (module_of f) (module_of g) module_alike)

    pub index_alike : (slot : ℕ) → AllZip (AlikeEntries R) (index f slot) (index g slot)
    index_alike slot =
        entries_of_objects R (f.look (slice_index f.roots slot)) (g.look (slice_index g.roots slot)) (alike.looks.at (slice_index f.roots slot) (slice_index g.roots slot) (root_alike slot))

    pub bases_alike : AllZip R (bases f) (bases g)
    bases_alike =
        subst (λ (p : Params). AllZip R (bases f) (bases_under g.look (p.levels - 1) (design_root g))) params_alike
        (bases_under_alike f.look g.look alike.looks (depth_of f) (design_root f) (design_root g)
        (reference_alike R pairing f.look g.look alike.looks 6 (module_of f) (module_of g) module_alike))

    pub walk_alike : AllZip R (walk f) (walk g)
    walk_alike = zip_flat R R (parts_at f.look) (parts_at g.look) (parts_at_alike f.look g.look alike.looks) (bases f) (bases g) bases_alike

    pub all_parts_alike : AllZip R (all_parts f) (all_parts g)
    all_parts_alike =
        subst (λ (p : Params). AllZip R (all_parts f) (flat_map (parts_of g.look p.atomics) (walk g))) params_alike
        (zip_flat R R (parts_of f.look (params_in f).atomics) (parts_of g.look (params_in f).atomics) (parts_of_alike f.look g.look alike.looks (params_in f).atomics)
        (walk f) (walk g) walk_alike)

    pub extent_alike : (e : Extent) → AllZip R (extent f e) (extent g e)
    extent_alike A = zip_map R R (root_part f.look) (root_part g.look) (reference_alike R pairing f.look g.look alike.looks 3) (walk f) (walk g) walk_alike
    extent_alike B = all_parts_alike
    extent_alike C =
        zip_flat R R (λ (p : ℕ). replicate 4 p) (λ (p : ℕ). replicate 4 p) (λ m n pair. zip_replicate R 4 m n pair) (all_parts f) (all_parts g) all_parts_alike

    pub t1_alike : t1 f ≡ t1 g
    t1_alike = zip_length R (all_parts f) (all_parts g) all_parts_alike

    pub t6_alike : t6 f ≡ t6 g
    t6_alike = zip_length R (walk f) (walk g) walk_alike

    pub changes_alike : (e : Extent) → changes f e ≡ changes g e
    changes_alike e = zip_length R (extent f e) (extent g e) (extent_alike e)

    manual_alike : manual_text f ≡ manual_text g
    manual_alike =
        text_alike f.look g.look alike.looks (word f.look (manual_of f) 0) (reference f.look (manual_of f) 1) (reference g.look (manual_of g) 1)
        (reference_alike R pairing f.look g.look alike.looks 1 (manual_of f) (manual_of g) manual)
        ∙ ap (λ (n : ℕ). text_from g.look n (reference g.look (manual_of g) 1)) (word_alike R pairing f.look g.look alike.looks 0 (manual_of f) (manual_of g) manual)
      where
        manual : R (manual_of f) (manual_of g)
        manual = reference_alike R pairing f.look g.look alike.looks 5 (module_of f) (module_of g) module_alike

    pub t8_alike : t8 f ≡ t8 g
    t8_alike = ap (λ (text : List ℕ). count_by (λ (b : ℕ). b == 73) text) manual_alike

    pub t9_alike : t9 f ≡ t9 g
    t9_alike = ap (λ (text : List ℕ). bit (slice_index text 0 == slice_index text (length text - 1))) manual_alike

    told_alike : (tell tell2 : ℕ → ℕ) → ((m n : ℕ) → R m n → tell m ≡ tell2 n) → (o p : Option Entry) → Either (AlikeEntries R) o p → told tell o ≡ told tell2 p
    told_alike tell tell2 tells None None both = refl
    told_alike tell tell2 tells None (Some d) both = absurd both
    told_alike tell tell2 tells (Some e) None both = absurd both
    told_alike tell tell2 tells (Some e) (Some d) both = tells e.1 d.1 both.1

    -- what the first entry with a key tells
    first_alike : (tell tell2 : ℕ → ℕ) → ((m n : ℕ) → R m n → tell m ≡ tell2 n) → (slot key : ℕ)
        → told tell (first_with key (index f slot)) ≡ told tell2 (first_with key (index g slot))
    first_alike tell tell2 tells slot key =
        told_alike tell tell2 tells (first_with key (index f slot)) (first_with key (index g slot))
        (zip_find (AlikeEntries R) (λ (e : Entry). e.0 == key) (λ (e : Entry). e.0 == key) (λ e d both. λ i. both.0 i == key) (index f slot) (index g slot) (index_alike slot))

    sums : (h k : ℕ → ℕ) → ((n : ℕ) → h n ≡ k n) → (ns : List ℕ) → sum (map h ns) ≡ sum (map k ns)
    sums h k same ns = λ i. sum (map (λ (n : ℕ). same n i) ns)

    pub q1_alike : (choice : ℕ) → q1 f choice ≡ q1 g choice
    q1_alike choice =
        sums (λ id. told (x_of f.look) (first_with id (index f 1))) (λ id. told (x_of g.look) (first_with id (index g 1)))
        (first_alike (x_of f.look) (x_of g.look) (word_alike R pairing f.look g.look alike.looks 3) 1) (numbers_to 10 (greatest_atomic f) choice)
        ∙ ap (λ (n : ℕ). sum (map (λ (id : ℕ). told (x_of g.look) (first_with id (index g 1))) (numbers_to 10 n choice)))
        (word_alike R pairing f.look g.look alike.looks 2 (module_of f) (module_of g) module_alike)

    between_alike : (low high slot : ℕ) → count_between low high (index f slot) ≡ count_between low high (index g slot)
    between_alike low high slot =
        zip_count (AlikeEntries R) (λ (e : Entry). leb low e.0 && leb e.0 high) (λ (e : Entry). leb low e.0 && leb e.0 high)
        (λ e d both. λ i. leb low (both.0 i) && leb (both.0 i) high) (index f slot) (index g slot) (index_alike slot)

    pub q2_alike : q2 f ≡ q2 g
    q2_alike = between_alike 1990 1999 2

    pub q3_alike : q3 f ≡ q3 g
    q3_alike = between_alike 1900 1999 2

    users_alike : (m n : ℕ) → R m n → users f m ≡ users g n
    users_alike m n pair =
        zip_count R (λ (base : ℕ). is_among (parts_at f.look base) m) (λ (base : ℕ). is_among (parts_at g.look base) n)
        (λ b d other. among_alike R pairing m n (parts_at f.look b) (parts_at g.look d) pair (parts_at_alike f.look g.look alike.looks b d other))
        (bases f) (bases g) bases_alike

    pub q4_alike : (choice : ℕ) → q4 f choice ≡ q4 g choice
    q4_alike choice =
        sums (λ title. told (λ (d : ℕ). users f (part_of f.look d)) (first_with title (index f 3))) (λ title. told (λ (d : ℕ). users g (part_of g.look d)) (first_with title (index g 3)))
        (first_alike (λ (d : ℕ). users f (part_of f.look d)) (λ (d : ℕ). users g (part_of g.look d))
        (λ m n pair. users_alike (part_of f.look m) (part_of g.look n) (reference_alike R pairing f.look g.look alike.looks 2 m n pair)) 3)
        (numbers_to 100 (greatest_composite f) choice)
        ∙ ap (λ (n : ℕ). sum (map (λ (title : ℕ). told (λ (d : ℕ). users g (part_of g.look d)) (first_with title (index g 3))) (numbers_to 100 n choice)))
        (word_alike R pairing f.look g.look alike.looks 3 (module_of f) (module_of g) module_alike)

    pub q5_alike : q5 f ≡ q5 g
    q5_alike = zip_count R (has_younger f.look) (has_younger g.look) (younger_alike f.look g.look alike.looks) (bases f) (bases g) bases_alike

    pub q7_alike : q7 f ≡ q7 g
    q7_alike = zip_length (AlikeEntries R) (index f 1) (index g 1) (index_alike 1)
