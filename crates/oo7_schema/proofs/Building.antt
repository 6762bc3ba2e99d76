-- The design of each size and seed is one.
use Rattle.std.proofs.Common.{◌≡◌, ◌+◌, ◌-◌, ◌*◌, ◌/◌, ◌<◌, ◌≤◌, ℕ, zero, suc, List, [], ◌∷◌, ◌++◌, length, true, Option, Some, inl, inr, refl, sym, arith, ap, subst, ◌∙◌, map, take, drop, get_or, replicate, length-take}
use Rattle.std.specs.Prelude.{flat_map, slice_index}
use Rattle.std.specs.List.{AllByRecursion, concat, range_with_len}
use Rattle.std.proofs.Math.Seq.{take-length}
use Rattle.std.proofs.lemmas.List.{map-append}
use Rattle.std.proofs.lemmas.List.FromFn.{length-range_with_len}
use Rattle.pm3_types.specs.declared.places.Place.TheVariants.{Word, Reference}
use Rattle.pm3_types.specs.Fields.{is_reference}
use Rattle.pm3_types.specs.Record.{Record}
use Rattle.pm3_types.specs.Numbering.{is_among}
use Rattle.oo7_schema.specs.declared.sizes.Params.{Params}
use Rattle.oo7_schema.specs.declared.sizes.Size.{Size}
use Rattle.oo7_schema.specs.declared.sizes.Size.TheVariants.{Tiny, Small, Small6, Small9, Medium}
use Rattle.oo7_schema.specs.Sizes.{params_of, size_at}
use Rattle.oo7_schema.specs.Lookup.{Look, value_in, word, items}
use Rattle.oo7_schema.specs.Entries.{Entry, objects, list_record, entries_in, times, Once, Holds}
use Rattle.oo7_schema.specs.Flat.{Flat, index}
use Rattle.oo7_schema.specs.Members.{size_number, params_in, manual_of, design_root, document_of}
use Rattle.oo7_schema.specs.Walk.{assemblies_under}
use Rattle.oo7_schema.specs.Texts.{repeated, manual_line, document_line, chunk_count, chunk_objects, HasText}
use Rattle.oo7_schema.specs.Draws.{begun, drawn}
use Rattle.oo7_schema.specs.Composites.{composite_bounds, composite_object, document_object, part_object, connection_objects, chunk_names, composite_objects, objects_in, part_names}
use Rattle.oo7_schema.specs.Changes.{most_composites, most_atomics}
use Rattle.oo7_schema.specs.Sized.{assembly_count, assembly_bounds, assembly_names, manual_names, names_of_composite, build_bounds, composite_draws, composites_made, assemblies_made, entered, in_order, tree_made, module_made, manual_made, objects_made, object_named, design}
use Rattle.oo7_schema.specs.Designs.{IsModule, IsManual, IsAssembly, IsComposite, IsList, IsFlatDesign, composites, documents, atomics}
use Rattle.oo7_schema.specs.DesignLaws.{BuiltIsDesign}
use Rattle.oo7_schema.proofs.Zips.{zip_drop}
use Rattle.oo7_schema.proofs.Counting.{repeated_length}
use Rattle.oo7_schema.proofs.Deciding.{of_test, is_of, once_by}
use Rattle.oo7_schema.proofs.Holding.{zip_halves, counted_among, among_counted, map_as_flat}
use Rattle.oo7_schema.proofs.KeptObjects.{all_among}
use Rattle.oo7_schema.proofs.Swapping.{all_join}
use Rattle.oo7_schema.proofs.Setting.{HeadSays, head_says}
use Rattle.oo7_schema.proofs.Pieces.{all_first, all_second, all_made, all_flat_made, Ahead, blocks_ahead, not_counted, times_take, times_drop}
use Rattle.oo7_schema.proofs.Drawing.{AreBelow, drawn_below, all_repeated, some_bounds, AreDrawn, are_drawn}
use Rattle.oo7_schema.proofs.Chunking.{manual_bytes, text_bytes, HaveText, has_text}
use Rattle.oo7_schema.proofs.Making.{Placed, IsSound, IsMade, is_made}
use Rattle.oo7_schema.proofs.Naming.{named, parts_named, names_are, chunks_named}
use Rattle.oo7_schema.proofs.Linking.{NilOr, all_from}
use Rattle.oo7_schema.proofs.Insertions.{sizes_are_sound}
use Rattle.oo7_schema.proofs.Ranges.{range_join, before_range, range_once, ranges_join, fewer_times}
use Rattle.oo7_schema.proofs.Flattening.{map_flat, flat_each, flat_below, all_below, flat_singles, times_one, named_off, named_at}
use Rattle.oo7_schema.proofs.InOrder.{ordered, Keyed, in_order_objects, in_order_holds, entered_flat, entry_objects, its_entry, its_title, its_parts, parts_keyed, id_says, date_says, number_says, title_says}
use Rattle.oo7_schema.proofs.Assembling.{assembly_made, under_made, assemblies_named, some_assemblies}

-- what a build rests on, beside the numbers that an insertion rests on
record IsBuildable (p : Params) : Type 0 where
  composites : 1 ≤ p.composites
  manual : 1 ≤ p.manual
  atomics : 1 ≤ p.composites * p.atomics
  few_atomics : p.composites * p.atomics ≤ most_atomics
  few_composites : p.composites ≤ most_composites

sizes_are_buildable : (size : Size) → IsBuildable (params_of size)
sizes_are_buildable Tiny = record { composites = omega arith; manual = omega arith; atomics = omega arith; few_atomics = omega arith; few_composites = omega arith }
sizes_are_buildable Small = record { composites = omega arith; manual = omega arith; atomics = omega arith; few_atomics = omega arith; few_composites = omega arith }
sizes_are_buildable Small6 = record { composites = omega arith; manual = omega arith; atomics = omega arith; few_atomics = omega arith; few_composites = omega arith }
sizes_are_buildable Small9 = record { composites = omega arith; manual = omega arith; atomics = omega arith; few_atomics = omega arith; few_composites = omega arith }
sizes_are_buildable Medium = record { composites = omega arith; manual = omega arith; atomics = omega arith; few_atomics = omega arith; few_composites = omega arith }

manual_long : (count : ℕ) → length (repeated manual_line count) ≡ count
manual_long count =
    let long : length (concat (replicate (count / 37 + 1) manual_line)) ≡ (count / 37 + 1) * 37 = repeated_length manual_line (count / 37 + 1) in
    length-take count (concat (replicate (count / 37 + 1) manual_line)) ∙ omega (arith, long)

first_of_range : (s n : ℕ) → 1 ≤ n → slice_index (range_with_len s n) 0 ≡ s
first_of_range s zero some = absurd (omega arith)
first_of_range s (suc n) some = refl

-- a manual, written out
record ManualSays (long first last : ℕ) : Type 0 where
  long_is : value_in (Some (record { ty = 1; fields = long ∷ first ∷ last ∷ []; tail = [] })) (Word 0) ≡ long
  first_is : value_in (Some (record { ty = 1; fields = long ∷ first ∷ last ∷ []; tail = [] })) (Reference 1) ≡ first
  last_is : value_in (Some (record { ty = 1; fields = long ∷ first ∷ last ∷ []; tail = [] })) (Reference 2) ≡ last

manual_says : (long first last : ℕ) → ManualSays long first last
unfolding is_reference
manual_says long first last = record { long_is = refl; first_is = refl; last_is = refl }

some_draws : (composites k : ℕ) → 1 ≤ composites → AllByRecursion (λ (b : ℕ). 1 ≤ b) (assembly_bounds composites k)
some_draws composites zero some = (omega arith, (some, (some, (some, tt))))
some_draws composites (suc k) some = (omega arith, all_repeated (λ (b : ℕ). 1 ≤ b) (assembly_bounds composites k) 3 (some_draws composites k some))

module _ (number seed : ℕ) (low : number < 5) where
  abbrev pub p : Params
  p = params_of (size_at number)

  abbrev pub nums : List ℕ
  nums = drawn (build_bounds p) (begun seed 7)

  abbrev pub os : List (ℕ × Record)
  os = objects_made number p nums

  abbrev pub look : Look
  look = object_named os

  abbrev pub g : Flat
  g = design number seed

  -- the objects of composite part k, counted from 0, and all of them
  abbrev pub made_part : ℕ → List (ℕ × Record)
  made_part k = composite_objects p (k + 1) (names_of_composite p k) (composite_draws p nums k)

  abbrev pub all_made_parts : List (ℕ × Record)
  all_made_parts = composites_made p nums

  abbrev pub front : List (ℕ × Record)
  front =
      (1, tree_made 6 0 all_made_parts) ∷ (2, tree_made 6 2 all_made_parts) ∷ (3, tree_made 5 0 all_made_parts) ∷ (4, tree_made 4 0 all_made_parts)
      ∷ (5, module_made number p) ∷ (6, manual_made p) ∷ assemblies_made p nums

  abbrev pub text : List (ℕ × Record)
  text = chunk_objects (manual_names p) (repeated manual_line p.manual)

  sound : IsSound p
  sound = sizes_are_sound (size_at number)

  buildable : IsBuildable p
  buildable = sizes_are_buildable (size_at number)

  names_long : (k : ℕ) → length (names_of_composite p k) ≡ objects_in p
  names_long k = length-range_with_len (7 + assembly_count (p.levels - 1) + chunk_count p.manual + k * objects_in p) (objects_in p)

  -- the names, in order
  part_named : (k : ℕ) → named (made_part k) ≡ names_of_composite p k
  part_named k = names_are p (k + 1) (names_of_composite p k) (composite_draws p nums k) (names_long k)

  all_parts_named : named all_made_parts ≡ flat_map (names_of_composite p) (range_with_len 0 p.composites)
  all_parts_named = map_flat (λ (o : ℕ × Record). o.0) made_part (range_with_len 0 p.composites) ∙ flat_each (λ (k : ℕ). named (made_part k)) (names_of_composite p) part_named (range_with_len 0 p.composites)

  assemblies_are_named : named (assemblies_made p nums) ≡ assembly_names p
  assemblies_are_named =
      let long : length (assembly_names p) ≡ assembly_count (p.levels - 1) = length-range_with_len 7 (assembly_count (p.levels - 1)) in
      assemblies_named (map (λ (k : ℕ). slice_index (names_of_composite p k) 0) (range_with_len 0 p.composites)) (p.levels - 1) 1 (assembly_names p) (composite_draws p nums p.composites) (omega (arith, long))
      ∙ ap (λ (n : ℕ). take n (assembly_names p)) (sym long) ∙ take-length (assembly_names p)

  manual_count : length (manual_names p) ≡ chunk_count p.manual
  manual_count = length-range_with_len (7 + assembly_count (p.levels - 1)) (chunk_count p.manual)

  text_named : named text ≡ manual_names p
  text_named = chunks_named (manual_names p) (repeated manual_line p.manual) (manual_count ∙ ap chunk_count (sym (manual_long p.manual)))

  pub all_named : named os ≡ range_with_len 1 (6 + assembly_count (p.levels - 1) + chunk_count p.manual + p.composites * objects_in p)
  all_named =
      map-append (λ (o : ℕ × Record). o.0) (front ++ text) all_made_parts
      ∙ ap (λ (ns : List ℕ). ns ++ named all_made_parts) (map-append (λ (o : ℕ × Record). o.0) front text)
      ∙ (λ i. ((1 ∷ 2 ∷ 3 ∷ 4 ∷ 5 ∷ 6 ∷ assemblies_are_named i) ++ text_named i)
      ++ (all_parts_named ∙ ranges_join (7 + assembly_count (p.levels - 1) + chunk_count p.manual) (objects_in p) p.composites) i)
      ∙ ap (λ (ns : List ℕ). (ns ++ manual_names p) ++ range_with_len (7 + assembly_count (p.levels - 1) + chunk_count p.manual) (p.composites * objects_in p)) (ap (range_with_len 1) six)
      ∙ ap (λ (ns : List ℕ). ns ++ range_with_len (7 + assembly_count (p.levels - 1) + chunk_count p.manual) (p.composites * objects_in p))
      (ap (λ (n : ℕ). range_with_len 1 (6 + assembly_count (p.levels - 1)) ++ range_with_len n (chunk_count p.manual)) seven ∙ sym (range_join 1 (6 + assembly_count (p.levels - 1)) (chunk_count p.manual)))
      ∙ ap (λ (n : ℕ). range_with_len 1 (6 + assembly_count (p.levels - 1) + chunk_count p.manual) ++ range_with_len n (p.composites * objects_in p)) seven_more
      ∙ sym (range_join 1 (6 + assembly_count (p.levels - 1) + chunk_count p.manual) (p.composites * objects_in p))
    where
      six : suc (suc (suc (suc (suc (suc (assembly_count (p.levels - 1))))))) ≡ 6 + assembly_count (p.levels - 1)
      six = omega arith

      seven : 7 + assembly_count (p.levels - 1) ≡ 1 + (6 + assembly_count (p.levels - 1))
      seven = omega arith

      seven_more : 7 + assembly_count (p.levels - 1) + chunk_count p.manual ≡ 1 + (6 + assembly_count (p.levels - 1) + chunk_count p.manual)
      seven_more = omega arith

  once_all : Once (named os)
  once_all = subst Once (sym all_named) (range_once 1 (6 + assembly_count (p.levels - 1) + chunk_count p.manual + p.composites * objects_in p))

  pub placed : AllByRecursion (Placed look) os
  placed = named_at os once_all

  placed_front : AllByRecursion (Placed look) front
  placed_front = all_first (Placed look) front text (all_first (Placed look) (front ++ text) all_made_parts placed)

  placed_text : AllByRecursion (Placed look) text
  placed_text = all_second (Placed look) front text (all_first (Placed look) (front ++ text) all_made_parts placed)

  placed_part : (k : ℕ) → k < p.composites → AllByRecursion (Placed look) (made_part k)
  placed_part k few = all_flat_made (Placed look) made_part p.composites (all_second (Placed look) (front ++ text) all_made_parts placed) k few

  placed_head : (k : ℕ) → k < p.composites → AllByRecursion (Placed look) (composite_object p (k + 1) (names_of_composite p k) (composite_draws p nums k)
      ∷ document_object p (k + 1) (names_of_composite p k) ∷ map (part_object p (k + 1) (names_of_composite p k) (composite_draws p nums k)) (range_with_len 0 p.atomics))
  placed_head k few =
      all_first (Placed look) (composite_object p (k + 1) (names_of_composite p k) (composite_draws p nums k) ∷ document_object p (k + 1) (names_of_composite p k) ∷ map (part_object p (k + 1) (names_of_composite p k) (composite_draws p nums k)) (range_with_len 0 p.atomics))
      (flat_map (connection_objects p (names_of_composite p k) (composite_draws p nums k)) (range_with_len 0 p.atomics))
      (all_first (Placed look) ((composite_object p (k + 1) (names_of_composite p k) (composite_draws p nums k) ∷ document_object p (k + 1) (names_of_composite p k) ∷ map (part_object p (k + 1) (names_of_composite p k) (composite_draws p nums k)) (range_with_len 0 p.atomics))
      ++ flat_map (connection_objects p (names_of_composite p k) (composite_draws p nums k)) (range_with_len 0 p.atomics))
      (chunk_objects (chunk_names p (names_of_composite p k)) (repeated (document_line (k + 1)) p.document)) (placed_part k few))

  -- each composite part is one
  numbers_below : AreBelow nums (build_bounds p)
  numbers_below =
      drawn_below (build_bounds p) (begun seed 7)
      (all_join (λ (b : ℕ). 1 ≤ b) (concat (replicate p.composites (composite_bounds p))) (assembly_bounds p.composites (p.levels - 1))
      (all_repeated (λ (b : ℕ). 1 ≤ b) (composite_bounds p) p.composites (some_bounds p sound.atomics)) (some_draws p.composites (p.levels - 1) buildable.composites))

  part_drawn : (k : ℕ) → k < p.composites → AreDrawn p (composite_draws p nums k)
  part_drawn k few =
      let ahead : Ahead (composite_bounds p) (drop (k * length (composite_bounds p)) (build_bounds p)) = blocks_ahead (composite_bounds p) (assembly_bounds p.composites (p.levels - 1)) p.composites k few in
      are_drawn p (composite_draws p nums k) ahead.rest
      (subst (λ (bs : List ℕ). AreBelow (composite_draws p nums k) bs) ahead.is (zip_drop (λ (n b : ℕ). n < b) (k * length (composite_bounds p)) nums (build_bounds p) numbers_below))

  part_is_made : (k : ℕ) → k < p.composites → IsMade look p (names_of_composite p k)
  part_is_made k few =
      is_made look p (k + 1) (names_of_composite p k) (composite_draws p nums k) sound (names_long k)
      (range_once (7 + assembly_count (p.levels - 1) + chunk_count p.manual + k * objects_in p) (objects_in p)) (part_drawn k few) (placed_part k few)

  -- the composite parts, the documents and the atomic parts, in the order in which they were made
  abbrev pub made_composites : List ℕ
  made_composites = flat_map (λ (k : ℕ). slice_index (names_of_composite p k) 0 ∷ []) (range_with_len 0 p.composites)

  abbrev pub made_documents : List ℕ
  made_documents = flat_map (λ (k : ℕ). slice_index (names_of_composite p k) 1 ∷ []) (range_with_len 0 p.composites)

  abbrev pub made_atomics : List ℕ
  made_atomics = flat_map (λ (k : ℕ). part_names p (names_of_composite p k)) (range_with_len 0 p.composites)

  entered_objects : (class f : ℕ) (have : ℕ → List ℕ) → ((k : ℕ) → objects (entered class f (made_part k)) ≡ have k) → objects (entered class f all_made_parts) ≡ flat_map have (range_with_len 0 p.composites)
  entered_objects class f have each =
      ap objects (entered_flat class f made_part (range_with_len 0 p.composites))
      ∙ map_flat (λ (e : Entry). e.1) (λ (k : ℕ). entered class f (made_part k)) (range_with_len 0 p.composites)
      ∙ flat_each (λ (k : ℕ). objects (entered class f (made_part k))) have each (range_with_len 0 p.composites)

  composites_entered : objects (entered 4 0 all_made_parts) ≡ made_composites
  composites_entered = entered_objects 4 0 (λ (k : ℕ). slice_index (names_of_composite p k) 0 ∷ []) (λ k. ap objects (its_entry p (k + 1) (names_of_composite p k) (composite_draws p nums k)))

  documents_entered : objects (entered 5 0 all_made_parts) ≡ made_documents
  documents_entered = entered_objects 5 0 (λ (k : ℕ). slice_index (names_of_composite p k) 1 ∷ []) (λ k. ap objects (its_title p (k + 1) (names_of_composite p k) (composite_draws p nums k)))

  atomics_entered : (f : ℕ) → objects (entered 6 f all_made_parts) ≡ made_atomics
  atomics_entered f =
      entered_objects 6 f (λ (k : ℕ). part_names p (names_of_composite p k))
      (λ k. ap objects (its_parts p (k + 1) (names_of_composite p k) (composite_draws p nums k) f)
      ∙ entry_objects f (map (part_object p (k + 1) (names_of_composite p k) (composite_draws p nums k)) (range_with_len 0 p.atomics))
      ∙ parts_named p (k + 1) (names_of_composite p k) (composite_draws p nums k) (names_long k))

  -- the trees
  first_index : index g 1 ≡ in_order (entered 6 0 all_made_parts)
  first_index = ap entries_in placed_front.0 ∙ zip_halves (in_order (entered 6 0 all_made_parts))

  second_index : index g 2 ≡ in_order (entered 6 2 all_made_parts)
  second_index = ap entries_in placed_front.1.0 ∙ zip_halves (in_order (entered 6 2 all_made_parts))

  third_index : index g 3 ≡ in_order (entered 5 0 all_made_parts)
  third_index = ap entries_in placed_front.1.1.0 ∙ zip_halves (in_order (entered 5 0 all_made_parts))

  fourth_index : index g 4 ≡ in_order (entered 4 0 all_made_parts)
  fourth_index = ap entries_in placed_front.1.1.1.0 ∙ zip_halves (in_order (entered 4 0 all_made_parts))

  own_counted : (own : ℕ → List ℕ) (n : ℕ) → times n (flat_map own (composites g)) ≡ times n (flat_map own made_composites)
  own_counted own n =
      ap (λ (es : List Entry). times n (flat_map own (objects es))) fourth_index ∙ ordered own (entered 4 0 all_made_parts) [] n
      ∙ (let same : times n (flat_map own (objects (entered 4 0 all_made_parts))) ≡ times n (flat_map own made_composites) = ap (λ (ns : List ℕ). times n (flat_map own ns)) composites_entered in omega (arith, same))

  composites_counted : (n : ℕ) → times n (composites g) ≡ times n made_composites
  composites_counted n = ap (λ (es : List Entry). times n (objects es)) fourth_index ∙ in_order_objects (entered 4 0 all_made_parts) n ∙ ap (times n) composites_entered

  documents_counted : (n : ℕ) → times n (documents g) ≡ times n made_documents
  documents_counted n =
      ap (times n) (map_as_flat (document_of look) (composites g)) ∙ own_counted (λ (c : ℕ). document_of look c ∷ []) n
      ∙ ap (times n) (flat_singles (λ (c : ℕ). document_of look c ∷ []) (λ (k : ℕ). slice_index (names_of_composite p k) 0) (range_with_len 0 p.composites)
      ∙ flat_below (λ (k : ℕ). document_of look (slice_index (names_of_composite p k) 0) ∷ []) (λ (k : ℕ). slice_index (names_of_composite p k) 1 ∷ []) p.composites
      (λ k few. ap (λ (d : ℕ). d ∷ []) (part_is_made k few).document))

  atomics_counted : (n : ℕ) → times n (atomics g) ≡ times n made_atomics
  atomics_counted n =
      own_counted (items look) n
      ∙ ap (times n) (flat_singles (items look) (λ (k : ℕ). slice_index (names_of_composite p k) 0) (range_with_len 0 p.composites)
      ∙ flat_below (λ (k : ℕ). items look (slice_index (names_of_composite p k) 0)) (λ (k : ℕ). part_names p (names_of_composite p k)) p.composites (λ k few. (part_is_made k few).parts))

  -- none is there twice
  once_part : (have : ℕ → List ℕ) → ((n k : ℕ) → times n (have k) ≤ times n (names_of_composite p k)) → Once (flat_map have (range_with_len 0 p.composites))
  once_part have fewer n =
      let most : times n (range_with_len (7 + assembly_count (p.levels - 1) + chunk_count p.manual) (p.composites * objects_in p)) ≤ 1 =
      range_once (7 + assembly_count (p.levels - 1) + chunk_count p.manual) (p.composites * objects_in p) n in
      let whole : times n (flat_map (names_of_composite p) (range_with_len 0 p.composites)) ≡ times n (range_with_len (7 + assembly_count (p.levels - 1) + chunk_count p.manual) (p.composites * objects_in p)) =
      ap (times n) (ranges_join (7 + assembly_count (p.levels - 1) + chunk_count p.manual) (objects_in p) p.composites) in
      omega (arith, most, whole, fewer_times have (names_of_composite p) n (fewer n) (range_with_len 0 p.composites))

  same_once : (ns ms : List ℕ) → ((n : ℕ) → times n ns ≡ times n ms) → Once ms → Once ns
  same_once ns ms same once n = let most = once n in omega (arith, most, same n)

  -- the keys of the entries
  entered_keyed : (class f : ℕ) → ((k : ℕ) → k < p.composites → AllByRecursion (Keyed look f) (entered class f (made_part k))) → AllByRecursion (Keyed look f) (entered class f all_made_parts)
  entered_keyed class f each =
      subst (λ (es : List Entry). AllByRecursion (Keyed look f) es) (sym (entered_flat class f made_part (range_with_len 0 p.composites)))
      (all_below (Keyed look f) (λ (k : ℕ). entered class f (made_part k)) p.composites each)

  parts_hold : (f slot : ℕ) → index g slot ≡ in_order (entered 6 f all_made_parts)
      → ((k a : ℕ) → value_in (Some (part_object p (k + 1) (names_of_composite p k) (composite_draws p nums k) a).1) (Word f) ≡ slice_index (part_object p (k + 1) (names_of_composite p k) (composite_draws p nums k) a).1.fields f)
      → Holds (λ (n : ℕ). word look n f) (atomics g) (index g slot)
  parts_hold f slot is says =
      subst (λ (es : List Entry). Holds (λ (n : ℕ). word look n f) (atomics g) es) (sym is)
      (in_order_holds look f (atomics g) (entered 6 f all_made_parts)
      (entered_keyed 6 f (λ k few. parts_keyed p (k + 1) (names_of_composite p k) (composite_draws p nums k) look f (says k) (placed_head k few).1.1))
      (λ n. ap (times n) (atomics_entered f) ∙ sym (atomics_counted n)))

  titles : Holds (λ (n : ℕ). word look n 0) (documents g) (index g 3)
  titles =
      subst (λ (es : List Entry). Holds (λ (n : ℕ). word look n 0) (documents g) es) (sym third_index)
      (in_order_holds look 0 (documents g) (entered 5 0 all_made_parts)
      (entered_keyed 5 0 (λ k few. subst (λ (es : List Entry). AllByRecursion (Keyed look 0) es) (sym (its_title p (k + 1) (names_of_composite p k) (composite_draws p nums k)))
      (sym (ap (λ (o : Option Record). value_in o (Word 0)) (placed_head k few).1.0 ∙ title_says p (k + 1) (names_of_composite p k) (composite_draws p nums k)), tt)))
      (λ n. ap (times n) documents_entered ∙ sym (documents_counted n)))

  numbers : Holds (λ (n : ℕ). word look n 0) (composites g) (index g 4)
  numbers =
      subst (λ (es : List Entry). Holds (λ (n : ℕ). word look n 0) (composites g) es) (sym fourth_index)
      (in_order_holds look 0 (composites g) (entered 4 0 all_made_parts)
      (entered_keyed 4 0 (λ k few. subst (λ (es : List Entry). AllByRecursion (Keyed look 0) es) (sym (its_entry p (k + 1) (names_of_composite p k) (composite_draws p nums k)))
      (sym (ap (λ (o : Option Record). value_in o (Word 0)) (placed_head k few).0 ∙ number_says p (k + 1) (names_of_composite p k) (composite_draws p nums k)), tt)))
      (λ n. ap (times n) composites_entered ∙ sym (composites_counted n)))

  -- the module
  says : HeadSays 1 number (p.composites * p.atomics) p.composites (assembly_count (p.levels - 1)) 6 7
  says = head_says 1 number (p.composites * p.atomics) p.composites (assembly_count (p.levels - 1)) 6 7

  module_here : look 5 ≡ Some (module_made number p)
  module_here = placed_front.1.1.1.1.0

  size_is : size_number g ≡ number
  size_is = ap (λ (o : Option Record). value_in o (Word 1)) module_here ∙ says.size_is

  params_are : params_in g ≡ p
  params_are = ap (λ (n : ℕ). params_of (size_at n)) size_is

  root_is : design_root g ≡ slice_index (assembly_names p) 0
  root_is =
      ap (λ (o : Option Record). value_in o (Reference 6)) module_here ∙ says.root_is
      ∙ sym (first_of_range 7 (assembly_count (p.levels - 1)) (some_assemblies (p.levels - 1)))

  manual_is_sixth : manual_of g ≡ 6
  manual_is_sixth = ap (λ (o : Option Record). value_in o (Reference 5)) module_here ∙ says.manual_is

  built_head : IsModule g
  built_head = record {
    is = is_of look 0 5 (ap (of_test 0) module_here);
    size = subst (λ (n : ℕ). n < 5) (sym size_is) low;
    some_atomic = subst (λ (n : ℕ). 1 ≤ n) (sym atomic_is) buildable.atomics;
    few_atomic = subst (λ (n : ℕ). n ≤ most_atomics) (sym atomic_is) buildable.few_atomics;
    some_composite = subst (λ (n : ℕ). 1 ≤ n) (sym composite_is) buildable.composites;
    few_composite = subst (λ (n : ℕ). n ≤ most_composites) (sym composite_is) buildable.few_composites;
  }
    where
      atomic_is : word look 5 2 ≡ p.composites * p.atomics
      atomic_is = ap (λ (o : Option Record). value_in o (Word 2)) module_here ∙ says.atomic_is

      composite_is : word look 5 3 ≡ p.composites
      composite_is = ap (λ (o : Option Record). value_in o (Word 3)) module_here ∙ says.composite_is

  -- the manual
  manual_text : HasText look p.manual (slice_index (manual_names p) 0) (slice_index (manual_names p) (chunk_count p.manual - 1))
  manual_text =
      subst (λ (n : ℕ). HasText look p.manual (slice_index (manual_names p) 0) (slice_index (manual_names p) (n - 1))) manual_count
      (subst (λ (n : ℕ). HasText look n (slice_index (manual_names p) 0) (get_or (manual_names p) (length (manual_names p) - 1) 0)) (manual_long p.manual)
      (has_text look (manual_names p) (repeated manual_line p.manual) (text_bytes manual_line p.manual manual_bytes) (omega (arith, manual_count, buildable.manual)) text_count pieces))
    where
      text_count : chunk_count (length (repeated manual_line p.manual)) ≡ length (manual_names p)
      text_count = ap chunk_count (manual_long p.manual) ∙ sym manual_count

      pieces : HaveText look (manual_names p) (repeated manual_line p.manual)
      pieces i few =
          all_made (Placed look) (λ (i : ℕ). (slice_index (manual_names p) i, record { ty = 8; fields = slice_index (manual_names p) (i + 1) ∷ []; tail = take 3072 (drop (3072 * i) (repeated manual_line p.manual)) }))
          (chunk_count (length (repeated manual_line p.manual))) placed_text i (omega (arith, text_count, few))

  built_manual : IsManual look 6
  built_manual =
      let says : ManualSays p.manual (slice_index (manual_names p) 0) (slice_index (manual_names p) (chunk_count p.manual - 1)) = manual_says p.manual (slice_index (manual_names p) 0) (slice_index (manual_names p) (chunk_count p.manual - 1)) in
      let here : look 6 ≡ Some (manual_made p) = placed_front.1.1.1.1.1.0 in
      record {
        is = is_of look 1 6 (ap (of_test 1) here);
        text = subst (λ (o : Option Record). HasText look (value_in o (Word 0)) (value_in o (Reference 1)) (value_in o (Reference 2))) (sym here)
            (subst (λ (n : ℕ). HasText look n (value_in (Some (manual_made p)) (Reference 1)) (value_in (Some (manual_made p)) (Reference 2))) (sym says.long_is)
            (subst (λ (n : ℕ). HasText look p.manual n (value_in (Some (manual_made p)) (Reference 2))) (sym says.first_is)
            (subst (λ (n : ℕ). HasText look p.manual (slice_index (manual_names p) 0) n) (sym says.last_is) manual_text)));
      }

  -- the assemblies
  used_inside : (n : ℕ) → NilOr (map (λ (k : ℕ). slice_index (names_of_composite p k) 0) (range_with_len 0 p.composites)) n → NilOr (composites g) n
  used_inside n (inl nil) = inl nil
  used_inside n (inr among) =
      let there : is_among made_composites n ≡ true = ap (λ (ns : List ℕ). is_among ns n) (sym (map_as_flat (λ (k : ℕ). slice_index (names_of_composite p k) 0) (range_with_len 0 p.composites))) ∙ among in
      inr (counted_among n (composites g) (omega (arith, composites_counted n, among_counted n made_composites there)))

  placed_assemblies : AllByRecursion (Placed look) (assemblies_made p nums)
  placed_assemblies = placed_front.1.1.1.1.1.1

  built_assemblies : IsAssembly look (composites g) (p.levels - 1) (slice_index (assembly_names p) 0)
  built_assemblies =
      assembly_made look (map (λ (k : ℕ). slice_index (names_of_composite p k) 0) (range_with_len 0 p.composites)) (composites g) used_inside (p.levels - 1) 1 (assembly_names p) (composite_draws p nums p.composites)
      placed_assemblies

  built_tree : Once (assemblies_under look (p.levels - 1) (slice_index (assembly_names p) 0))
  built_tree =
      subst Once
      (sym (under_made look (map (λ (k : ℕ). slice_index (names_of_composite p k) 0) (range_with_len 0 p.composites)) (p.levels - 1) 1 (assembly_names p) (composite_draws p nums p.composites) placed_assemblies ∙ assemblies_are_named))
      (range_once 7 (assembly_count (p.levels - 1)))

  built_parts : AllByRecursion (IsComposite look p.atomics) (composites g)
  built_parts =
      all_from (IsComposite look p.atomics) (composites g)
      (λ n among. all_among (IsComposite look p.atomics) made_composites n
      (all_below (IsComposite look p.atomics) (λ (k : ℕ). slice_index (names_of_composite p k) 0 ∷ []) p.composites (λ k few. ((part_is_made k few).is, tt)))
      (counted_among n made_composites (omega (arith, composites_counted n, among_counted n (composites g) among))))

  pub built : IsFlatDesign g
  built = record {
    nil = named_off os 0 (not_counted 0 (named os) (ap (times 0) all_named ∙ before_range 1 (6 + assembly_count (p.levels - 1) + chunk_count p.manual + p.composites * objects_in p) 0 (omega arith)));
    slots = refl;
    apart = once_by (1 ∷ 2 ∷ 3 ∷ 4 ∷ []) refl;
    lists = (
      list_at 1 (in_order (entered 6 0 all_made_parts)) placed_front.0,
      (
        list_at 2 (in_order (entered 6 2 all_made_parts)) placed_front.1.0,
        (list_at 3 (in_order (entered 5 0 all_made_parts)) placed_front.1.1.0, (list_at 4 (in_order (entered 4 0 all_made_parts)) placed_front.1.1.1.0, tt)),
      ),
    );
    head = built_head;
    manual = subst (λ (n : ℕ). IsManual look n) (sym manual_is_sixth) built_manual;
    assemblies = subst (λ (q : Params). IsAssembly look (composites g) (q.levels - 1) (design_root g)) (sym params_are)
        (subst (λ (n : ℕ). IsAssembly look (composites g) (p.levels - 1) n) (sym root_is) built_assemblies);
    tree = subst (λ (q : Params). Once (assemblies_under look (q.levels - 1) (design_root g))) (sym params_are)
        (subst (λ (n : ℕ). Once (assemblies_under look (p.levels - 1) n)) (sym root_is) built_tree);
    parts = subst (λ (q : Params). AllByRecursion (IsComposite look q.atomics) (composites g)) (sym params_are) built_parts;
    once_composites = same_once (composites g) made_composites composites_counted (once_part (λ (k : ℕ). slice_index (names_of_composite p k) 0 ∷ []) (λ n k. times_one n (names_of_composite p k) 0 (omega (arith, names_long k))));
    once_documents = same_once (documents g) made_documents documents_counted (once_part (λ (k : ℕ). slice_index (names_of_composite p k) 1 ∷ []) (λ n k. times_one n (names_of_composite p k) 1 (omega (arith, names_long k))));
    once_atomics = same_once (atomics g) made_atomics atomics_counted
        (once_part (λ (k : ℕ). part_names p (names_of_composite p k)) (λ n k. omega (arith, times_take n p.atomics (drop 2 (names_of_composite p k)), times_drop n 2 (names_of_composite p k))));
    by_id = parts_hold 0 1 first_index (λ k. id_says p (k + 1) (names_of_composite p k) (composite_draws p nums k));
    by_date = parts_hold 2 2 second_index (λ k. date_says p (k + 1) (names_of_composite p k) (composite_draws p nums k));
    by_title = titles;
    by_composite = numbers;
  }
    where
      list_at : (t : ℕ) (es : List Entry) → look t ≡ Some (list_record es) → IsList look t
      list_at t es is = is ∙ ap (λ (ds : List Entry). Some (list_record ds)) (sym (ap entries_in is ∙ zip_halves es))

pub built_is_design : BuiltIsDesign
built_is_design = λ number seed low. built number seed low
