-- A deletion leaves a design.
use Rattle.std.proofs.Common.{◌≡◌, ◌%◌, ◌<◌, ◌≤◌, ℕ, zero, suc, List, [], ◌∷◌, ◌++◌, length, Bool, true, false, cond, Option, Some, is_some, ◌⊎◌, inl, inr, refl, sym, arith, ap, subst, ◌∙◌, map, get_or}
use Rattle.std.specs.Prelude.{◌==◌, ◌&&◌, flat_map, fold, slice_index}
use Rattle.std.specs.List.{AllByRecursion}
use Rattle.pm3_types.specs.declared.places.Place.TheVariants.{Word, Reference}
use Rattle.pm3_types.specs.Record.{Record}
use Rattle.pm3_types.specs.Numbering.{is_among, names_of}
use Rattle.rand_pcg.specs.Pcg.{pcg32}
use Rattle.oo7_schema.specs.Lookup.{Look, listed_schema, value_in, word, items}
use Rattle.oo7_schema.specs.Entries.{Entry, objects, without_entry, has_entry, entries_in, list_record, times, Once, Holds}
use Rattle.oo7_schema.specs.Nodes.{IsOf}
use Rattle.oo7_schema.specs.Flat.{Flat, index, with_look, with_index, tree_slots}
use Rattle.oo7_schema.specs.Members.{module_of, params_in, design_root, document_of, build_date}
use Rattle.oo7_schema.specs.Walk.{bases, depth_of}
use Rattle.oo7_schema.specs.Draws.{begun, below}
use Rattle.oo7_schema.specs.Changes.{Course, without_object, without_part, unlinked, without_composite, deleted, deletions, delete, most_atomics, most_composites}
use Rattle.oo7_schema.specs.DesignLaws.{DeletesLeaveDesigns}
use Rattle.oo7_schema.specs.Designs.{IsModule, IsBase, IsAtomic, IsComposite, IsList, IsFlatDesign, composites, documents, atomics}
use Rattle.oo7_schema.proofs.Testing.{itself, apart_numbers, or_first, or_second}
use Rattle.oo7_schema.proofs.Holding.{all_less, in_front, counted_among, still_among, has_by, holds_again, holds_alike, holds_less, holds_without, taken_out, all_without, map_as_flat, self_as_flat, once_less, zip_halves}
use Rattle.oo7_schema.proofs.KeptObjects.{all_among, staying}
use Rattle.oo7_schema.proofs.StaysDesign.{roots_are, lists_of}
use Rattle.oo7_schema.proofs.Swapping.{bases_are}
use Rattle.oo7_schema.proofs.Relisting.{slots, at_slots, slotted, Relisted, relisted_begin, relist, entered, part_entered, relisted_step, relisted_enter, relisted_parts, listed_index, first_list, second_list, third_list, fourth_list, on_trees, one_class, off_trees, nil_off_trees}
use Rattle.oo7_schema.proofs.Rebasing.{But, Uses, uses_of, base_of, all_unlinked, all_unlinked_off}
use Rattle.oo7_schema.proofs.Closing.{Links}
use Rattle.oo7_schema.proofs.Linking.{NilOr, all_from, names_all, names_of_base, entries_linked, links_again}
use Rattle.oo7_schema.proofs.Remaking.{Remade, Furnished, remade_design, composites_stay, documents_stay, atomics_stay, composite_word, document_word, atomic_word}

-- a design without a composite part in its trees, and then also without it in its base assemblies
abbrev unlisted : Entry → Flat → Flat
unlisted e g =
    let less = without_object 3 0 (fold without_part g (items g.look e.1)) (document_of g.look e.1) in
    with_index less 4 (without_entry e.0 e.1 (index less 4))

abbrev unnamed : Entry → Flat → Look
unnamed e g = fold (unlinked e.1) (unlisted e g).look (bases g)

-- the composite parts that are left
abbrev left : Entry → Flat → List ℕ
left e g = objects (without_entry e.0 e.1 (index g 4))

-- the lists once its atomic parts have gone, and once its document has
abbrev without_parts : Entry → Flat → ℕ → List Entry
without_parts e g = fold (part_entered without_entry g.look) (index g) (items g.look e.1)

abbrev without_document : Entry → Flat → ℕ → List Entry
without_document e g = entered without_entry g.look 3 0 (without_parts e g) (document_of g.look e.1)

module _ (g : Flat) (e : Entry) (design : IsFlatDesign g) (has : has_entry e.0 e.1 (index g 4) ≡ true) where
  composites_counted : (n : ℕ) → times n (composites g) ≡ times n (e.1 ∷ left e g)
  composites_counted n =
      ap (λ (ns : List ℕ). times n ns) (self_as_flat (composites g)) ∙ taken_out (λ (c : ℕ). c ∷ []) e.0 e.1 (index g 4) has n
      ∙ ap (λ (ns : List ℕ). times n (e.1 ∷ ns)) (sym (self_as_flat (left e g)))

  documents_counted : (n : ℕ) → times n (documents g) ≡ times n (document_of g.look e.1 ∷ map (document_of g.look) (left e g))
  documents_counted n =
      ap (λ (ns : List ℕ). times n ns) (map_as_flat (document_of g.look) (composites g)) ∙ taken_out (λ (c : ℕ). document_of g.look c ∷ []) e.0 e.1 (index g 4) has n
      ∙ ap (λ (ns : List ℕ). times n (document_of g.look e.1 ∷ ns)) (sym (map_as_flat (document_of g.look) (left e g)))

  atomics_counted : (n : ℕ) → times n (atomics g) ≡ times n (items g.look e.1 ++ flat_map (items g.look) (left e g))
  atomics_counted n = taken_out (items g.look) e.0 e.1 (index g 4) has n

  whole : IsComposite g.look (params_in g).atomics e.1
  whole =
      all_among (IsComposite g.look (params_in g).atomics) (composites g) e.1 design.parts
      (counted_among e.1 (composites g) (omega (arith, composites_counted e.1, in_front e.1 e.1 (left e g) refl)))

  others : AllByRecursion (IsComposite g.look (params_in g).atomics) (left e g)
  others = all_without (IsComposite g.look (params_in g).atomics) e.0 e.1 (index g 4) design.parts

  parts_off : (ps : List ℕ) → AllByRecursion (IsAtomic g.look e.1) ps → AllByRecursion (λ (p : ℕ). is_among (tree_slots g.roots) p ≡ false) ps
  parts_off [] all = tt
  parts_off (p ∷ ps) all = (off_trees g design 6 p all.0.is refl, parts_off ps all.1)

  less_document : Relisted g (without_object 3 0 (fold without_part g (items g.look e.1)) (document_of g.look e.1)) (without_document e g)
  less_document =
      relisted_enter g (slotted g design) without_entry (fold without_part g (items g.look e.1)) (without_parts e g) 3 0 (document_of g.look e.1) refl
      (off_trees g design 5 (document_of g.look e.1) whole.document.is refl)
      (relisted_parts g (slotted g design) without_entry (items g.look e.1) g (index g) (parts_off (items g.look e.1) whole.parts) (relisted_begin g (lists_of g design)))

  fourth_same : index (without_object 3 0 (fold without_part g (items g.look e.1)) (document_of g.look e.1)) 4 ≡ index g 4
  fourth_same =
      listed_index g (slotted g design) (without_object 3 0 (fold without_part g (items g.look e.1)) (document_of g.look e.1)) (without_document e g) 4 refl less_document
      ∙ fourth_list without_entry g.look (items g.look e.1) (index g)

  less : Relisted g (unlisted e g) (relist (without_document e g) 4 (without_entry e.0 e.1 (index g 4)))
  less =
      subst (λ (es : List Entry). Relisted g (unlisted e g) (relist (without_document e g) 4 (without_entry e.0 e.1 es))) fourth_same
      (relisted_step g (slotted g design) (without_object 3 0 (fold without_part g (items g.look e.1)) (document_of g.look e.1)) (without_document e g) 4
      (without_entry e.0 e.1 (index (without_object 3 0 (fold without_part g (items g.look e.1)) (document_of g.look e.1)) 4)) refl less_document)

  all_bases : AllByRecursion (IsBase g.look (composites g)) (bases g)
  all_bases = bases_are g.look (composites g) (depth_of g) (design_root g) design.assemblies

  -- what is no base assembly
  off_bases : (n : ℕ) → (IsOf g.look 3 n → ⊥) → is_among (bases g) n ≡ false
  off_bases n other = by_test (is_among (bases g) n) refl
    where
      by_test : (b : Bool) → is_among (bases g) n ≡ b → is_among (bases g) n ≡ false
      by_test true among = absurd (other (all_among (IsBase g.look (composites g)) (bases g) n all_bases among).is)
      by_test false among = among

  kept : (n : ℕ) → (IsOf g.look 3 n → ⊥) → is_among (tree_slots g.roots) n ≡ false → unnamed e g n ≡ g.look n
  kept n other off = all_unlinked_off e.1 (bases g) (unlisted e g).look n (off_bases n other) ∙ less.off n off

  of_kept : (k n : ℕ) → IsOf g.look k n → (k == 3) ≡ false → (k == 12) ≡ false → unnamed e g n ≡ g.look n
  of_kept k n of other off = kept n (λ base. apart_numbers k 3 other (one_class g.look k 3 n of base)) (off_trees g design k n of off)

  same : (k n : ℕ) → IsOf g.look k n → is_among (6 ∷ staying) k ≡ true → unnamed e g n ≡ g.look n
  same k n of among =
      of_kept k n of (all_among (λ (j : ℕ). (j == 3) ≡ false) (6 ∷ staying) k (refl, (refl, (refl, (refl, (refl, (refl, (refl, tt))))))) among)
      (all_among (λ (j : ℕ). (j == 12) ≡ false) (6 ∷ staying) k (refl, (refl, (refl, (refl, (refl, (refl, (refl, tt))))))) among)

  -- the trees hold the lists
  tree_is : (slot : ℕ) → is_among slots slot ≡ true
      → unnamed e g (slice_index g.roots slot) ≡ Some (list_record (relist (without_document e g) 4 (without_entry e.0 e.1 (index g 4)) slot))
  tree_is slot is =
      all_unlinked_off e.1 (bases g) (unlisted e g).look (slice_index g.roots slot) (off_bases (slice_index g.roots slot) no_base) ∙ less.at slot is
    where
      no_base : IsOf g.look 3 (slice_index g.roots slot) → ⊥
      no_base base =
          let off : is_among (tree_slots g.roots) (slice_index g.roots slot) ≡ false = off_trees g design 3 (slice_index g.roots slot) base refl in
          let among : is_among (tree_slots g.roots) (slice_index g.roots slot) ≡ true = (slotted g design).among slot is in
          cc (off, among)

  index_is : (slot : ℕ) → is_among slots slot ≡ true → index (with_look g (unnamed e g)) slot ≡ relist (without_document e g) 4 (without_entry e.0 e.1 (index g 4)) slot
  index_is slot is = ap entries_in (tree_is slot is) ∙ zip_halves (relist (without_document e g) 4 (without_entry e.0 e.1 (index g 4)) slot)

  lists : AllByRecursion (IsList (unnamed e g)) (tree_slots g.roots)
  lists =
      on_trees (IsList (unnamed e g)) g.roots (roots_are g.roots design.slots)
      (λ slot is. tree_is slot is ∙ ap (λ (es : List Entry). Some (list_record es)) (sym (index_is slot is)))

  head_same : unnamed e g (module_of g) ≡ g.look (module_of g)
  head_same = of_kept 0 (module_of g) design.head.is refl refl

  head : IsModule (with_look g (unnamed e g))
  head = record {
    is = record { object = design.head.is.object; is = head_same ∙ design.head.is.is; of = design.head.is.of; fits = design.head.is.fits };
    size = subst (λ (o : Option Record). value_in o (Word 1) < 5) (sym head_same) design.head.size;
    some_atomic = subst (λ (o : Option Record). 1 ≤ value_in o (Word 2)) (sym head_same) design.head.some_atomic;
    few_atomic = subst (λ (o : Option Record). value_in o (Word 2) ≤ most_atomics) (sym head_same) design.head.few_atomic;
    some_composite = subst (λ (o : Option Record). 1 ≤ value_in o (Word 3)) (sym head_same) design.head.some_composite;
    few_composite = subst (λ (o : Option Record). value_in o (Word 3) ≤ most_composites) (sym head_same) design.head.few_composite;
  }

  composites_left : composites (with_look g (unnamed e g)) ≡ left e g
  composites_left = ap objects (index_is 4 refl)

  documents_left : documents (with_look g (unnamed e g)) ≡ map (document_of g.look) (left e g)
  documents_left =
      ap (λ (cs : List ℕ). map (document_of (unnamed e g)) cs) composites_left ∙ documents_stay g.look (unnamed e g) same (params_in g).atomics (left e g) others

  atomics_left : atomics (with_look g (unnamed e g)) ≡ flat_map (items g.look) (left e g)
  atomics_left =
      ap (λ (cs : List ℕ). flat_map (items (unnamed e g)) cs) composites_left ∙ atomics_stay g.look (unnamed e g) same (params_in g).atomics (left e g) others

  not_nil : 0 ≡ e.1 → ⊥
  not_nil nil = let there : g.look 0 ≡ Some whole.is.object = ap g.look nil ∙ whole.is.is in cc (there, design.nil)

  bases_left : (b : ℕ) → is_among (bases g) b ≡ true → IsBase g.look (composites g) b → IsBase (unnamed e g) (composites (with_look g (unnamed e g))) b
  bases_left b among base =
      subst (λ (cs : List ℕ). IsBase (unnamed e g) cs b) (sym composites_left)
      (base_of (But (λ (c : ℕ). (c ≡ 0) ⊎ (is_among (composites g) c ≡ true)) e.1) (unnamed e g) (left e g) b named
      (all_unlinked (λ (c : ℕ). (c ≡ 0) ⊎ (is_among (composites g) c ≡ true)) e.1 (inl refl) not_nil (bases g) (unlisted e g).look b among
      (subst (λ (o : Option Record). Uses (λ (c : ℕ). (c ≡ 0) ⊎ (is_among (composites g) c ≡ true)) o) (sym (less.off b (off_trees g design 3 b base.is refl))) (uses_of g.look (composites g) b base))))
    where
      named_by : (c : ℕ) → (c ≡ 0) ⊎ (is_among (composites g) c ≡ true) → (c ≡ e.1 → ⊥) → (c ≡ 0) ⊎ (is_among (left e g) c ≡ true)
      named_by c (inl nil) other = inl nil
      named_by c (inr there) other = inr (still_among e.1 c (composites g) (left e g) composites_counted other there)

      named : (c : ℕ) → But (λ (c : ℕ). (c ≡ 0) ⊎ (is_among (composites g) c ≡ true)) e.1 c → (c ≡ 0) ⊎ (is_among (left e g) c ≡ true)
      named c both = named_by c both.0 both.1

  remade : Remade g (unnamed e g)
  remade = record {
    nil = kept 0 (λ base. cc (design.nil, base.is)) (nil_off_trees g design 0 design.nil) ∙ design.nil;
    same = same;
    head = head;
    size = ap (λ (o : Option Record). value_in o (Word 1)) head_same;
    manual = ap (λ (o : Option Record). value_in o (Reference 5)) head_same;
    root = ap (λ (o : Option Record). value_in o (Reference 6)) head_same;
    lists = lists;
    bases = bases_left;
  }

  -- the lists hold what is left, by the words that the objects had
  ids : Holds (λ (n : ℕ). word g.look n 0) (flat_map (items g.look) (left e g)) (index (with_look g (unnamed e g)) 1)
  ids =
      subst (λ (es : List Entry). Holds (λ (n : ℕ). word g.look n 0) (flat_map (items g.look) (left e g)) es)
      (sym (index_is 1 refl ∙ first_list without_entry g.look (items g.look e.1) (index g)))
      (holds_less (λ (n : ℕ). word g.look n 0) (items g.look e.1) (flat_map (items g.look) (left e g)) (index g 1)
      (holds_alike (λ (n : ℕ). word g.look n 0) (atomics g) (items g.look e.1 ++ flat_map (items g.look) (left e g)) (index g 1) atomics_counted design.by_id))

  dates : Holds (build_date g.look) (flat_map (items g.look) (left e g)) (index (with_look g (unnamed e g)) 2)
  dates =
      subst (λ (es : List Entry). Holds (build_date g.look) (flat_map (items g.look) (left e g)) es)
      (sym (index_is 2 refl ∙ second_list without_entry g.look (items g.look e.1) (index g)))
      (holds_less (build_date g.look) (items g.look e.1) (flat_map (items g.look) (left e g)) (index g 2)
      (holds_alike (build_date g.look) (atomics g) (items g.look e.1 ++ flat_map (items g.look) (left e g)) (index g 2) atomics_counted design.by_date))

  titles : Holds (λ (n : ℕ). word g.look n 0) (map (document_of g.look) (left e g)) (index (with_look g (unnamed e g)) 3)
  titles =
      let all : Holds (λ (n : ℕ). word g.look n 0) (document_of g.look e.1 ∷ map (document_of g.look) (left e g)) (index g 3) =
      holds_alike (λ (n : ℕ). word g.look n 0) (documents g) (document_of g.look e.1 ∷ map (document_of g.look) (left e g)) (index g 3) documents_counted design.by_title in
      let there : has_entry (word g.look (document_of g.look e.1) 0) (document_of g.look e.1) (index g 3) ≡ true =
      has_by (λ (n : ℕ). word g.look n 0) (document_of g.look e.1) (index g 3) all.keys
      (omega (arith, all.same (document_of g.look e.1), in_front (document_of g.look e.1) (document_of g.look e.1) (map (document_of g.look) (left e g)) refl)) in
      subst (λ (es : List Entry). Holds (λ (n : ℕ). word g.look n 0) (map (document_of g.look) (left e g)) es)
      (sym (index_is 3 refl ∙ ap (without_entry (word g.look (document_of g.look e.1) 0) (document_of g.look e.1)) (third_list without_entry g.look (items g.look e.1) (index g))))
      (holds_without (λ (n : ℕ). word g.look n 0) (word g.look (document_of g.look e.1) 0) (document_of g.look e.1) (map (document_of g.look) (left e g)) (index g 3) there all)

  numbers : Holds (λ (n : ℕ). word g.look n 0) (left e g) (index (with_look g (unnamed e g)) 4)
  numbers =
      subst (λ (es : List Entry). Holds (λ (n : ℕ). word g.look n 0) (left e g) es) (sym (index_is 4 refl))
      (holds_without (λ (n : ℕ). word g.look n 0) e.0 e.1 (left e g) (index g 4) has
      (holds_alike (λ (n : ℕ). word g.look n 0) (composites g) (e.1 ∷ left e g) (index g 4) composites_counted design.by_composite))

  furnished : Furnished g (unnamed e g)
  furnished = record {
    parts = subst (λ (cs : List ℕ). AllByRecursion (IsComposite (unnamed e g) (params_in g).atomics) cs) (sym composites_left)
        (composites_stay g.look (unnamed e g) same (params_in g).atomics (left e g) others);
    once_composites = subst Once (sym composites_left) (once_less (e.1 ∷ []) (left e g) (composites g) composites_counted design.once_composites);
    once_documents = subst Once (sym documents_left)
        (once_less (document_of g.look e.1 ∷ []) (map (document_of g.look) (left e g)) (documents g) documents_counted design.once_documents);
    once_atomics = subst Once (sym atomics_left) (once_less (items g.look e.1) (flat_map (items g.look) (left e g)) (atomics g) atomics_counted design.once_atomics);
    by_id = subst (λ (ns : List ℕ). Holds (λ (n : ℕ). word (unnamed e g) n 0) ns (index (with_look g (unnamed e g)) 1)) (sym atomics_left)
        (holds_again (λ (n : ℕ). word g.look n 0) (λ (n : ℕ). word (unnamed e g) n 0) (flat_map (items g.look) (left e g)) (index (with_look g (unnamed e g)) 1)
        (atomic_word g.look (unnamed e g) same (params_in g).atomics 0 (left e g) others) ids);
    by_date = subst (λ (ns : List ℕ). Holds (build_date (unnamed e g)) ns (index (with_look g (unnamed e g)) 2)) (sym atomics_left)
        (holds_again (build_date g.look) (build_date (unnamed e g)) (flat_map (items g.look) (left e g)) (index (with_look g (unnamed e g)) 2)
        (atomic_word g.look (unnamed e g) same (params_in g).atomics 2 (left e g) others) dates);
    by_title = subst (λ (ns : List ℕ). Holds (λ (n : ℕ). word (unnamed e g) n 0) ns (index (with_look g (unnamed e g)) 3)) (sym documents_left)
        (holds_again (λ (n : ℕ). word g.look n 0) (λ (n : ℕ). word (unnamed e g) n 0) (map (document_of g.look) (left e g)) (index (with_look g (unnamed e g)) 3)
        (document_word g.look (unnamed e g) same (params_in g).atomics (left e g) others) titles);
    by_composite = subst (λ (ns : List ℕ). Holds (λ (n : ℕ). word (unnamed e g) n 0) ns (index (with_look g (unnamed e g)) 4)) (sym composites_left)
        (holds_again (λ (n : ℕ). word g.look n 0) (λ (n : ℕ). word (unnamed e g) n 0) (left e g) (index (with_look g (unnamed e g)) 4)
        (composite_word g.look (unnamed e g) same (params_in g).atomics (left e g) others) numbers);
  }

  deletion_stays : IsFlatDesign (without_composite e g)
  deletion_stays =
      subst (λ (rs : List ℕ). IsFlatDesign (record { look = unnamed e g; roots = rs })) (sym less.roots) (remade_design g (unnamed e g) design remade furnished)

  -- a deletion leads nowhere else
  module _ (list : List ℕ) (links : Links list g) where
    entries_left : (slot : ℕ) → is_among slots slot ≡ true → AllByRecursion (NilOr list) (objects (index (with_look g (unnamed e g)) slot))
    entries_left = at_slots (λ (slot : ℕ). AllByRecursion (NilOr list) (objects (index (with_look g (unnamed e g)) slot)))
        (subst (λ (es : List Entry). AllByRecursion (NilOr list) (objects es)) (sym (index_is 1 refl ∙ first_list without_entry g.look (items g.look e.1) (index g)))
        (all_less (NilOr list) (λ (p : ℕ). word g.look p 0) (items g.look e.1) (index g 1) (entries_linked list g design links 1 refl)))
        (subst (λ (es : List Entry). AllByRecursion (NilOr list) (objects es)) (sym (index_is 2 refl ∙ second_list without_entry g.look (items g.look e.1) (index g)))
        (all_less (NilOr list) (λ (p : ℕ). word g.look p 2) (items g.look e.1) (index g 2) (entries_linked list g design links 2 refl)))
        (subst (λ (es : List Entry). AllByRecursion (NilOr list) (objects es))
        (sym (index_is 3 refl ∙ ap (without_entry (word g.look (document_of g.look e.1) 0) (document_of g.look e.1)) (third_list without_entry g.look (items g.look e.1) (index g))))
        (all_without (NilOr list) (word g.look (document_of g.look e.1) 0) (document_of g.look e.1) (index g 3) (entries_linked list g design links 3 refl)))
        (subst (λ (es : List Entry). AllByRecursion (NilOr list) (objects es)) (sym (index_is 4 refl))
        (all_without (NilOr list) e.0 e.1 (index g 4) (entries_linked list g design links 4 refl)))

    -- what a base assembly names is nil or was named before
    base_names : (b : ℕ) → is_among list b ≡ true → is_among (bases g) b ≡ true → Uses (But (NilOr list) e.1) (unnamed e g b)
    base_names b linked among =
        all_unlinked (NilOr list) e.1 (inl refl) not_nil (bases g) (unlisted e g).look b among
        (subst (λ (o : Option Record). Uses (NilOr list) o) (sym (less.off b (off_trees g design 3 b (base_at b among).is refl))) old)
      where
        base_at : (n : ℕ) → is_among (bases g) n ≡ true → IsBase g.look (composites g) n
        base_at n there = all_among (IsBase g.look (composites g)) (bases g) n all_bases there

        old : Uses (NilOr list) (g.look b)
        old =
            let uses : Uses (λ (c : ℕ). (c ≡ 0) ⊎ (is_among (composites g) c ≡ true)) (g.look b) = uses_of g.look (composites g) b (base_at b among) in
            let names : AllByRecursion (NilOr list) (uses.one ∷ uses.two ∷ uses.three ∷ []) =
            all_from (NilOr list) (uses.one ∷ uses.two ∷ uses.three ∷ [])
            (λ n in_base. links.refers b n linked
            (ap (λ (o : Option Record). is_among (names_of listed_schema o) n) uses.is ∙ ap (λ (ns : List ℕ). is_among ns n) (names_of_base uses.id uses.date uses.one uses.two uses.three) ∙ in_base)) in
            record { id = uses.id; date = uses.date; one = uses.one; two = uses.two; three = uses.three; is = uses.is; first = names.0; second = names.1.0; third = names.1.1.0 }

    off_all : (n : ℕ) → is_among (tree_slots g.roots) n ≡ false → is_among (bases g) n ≡ false → unnamed e g n ≡ g.look n
    off_all n off no_base = all_unlinked_off e.1 (bases g) (unlisted e g).look n no_base ∙ less.off n off

    still_here : (n : ℕ) → is_among list n ≡ true → is_some (unnamed e g n) ≡ true
    still_here n linked = by_test (is_among (tree_slots g.roots) n) refl (is_among (bases g) n) refl
      where
        by_test : (b : Bool) → is_among (tree_slots g.roots) n ≡ b → (c : Bool) → is_among (bases g) n ≡ c → is_some (unnamed e g n) ≡ true
        by_test true tree c base =
            all_among (λ (t : ℕ). is_some (unnamed e g t) ≡ true) (tree_slots g.roots) n
            (on_trees (λ (t : ℕ). is_some (unnamed e g t) ≡ true) g.roots (roots_are g.roots design.slots) (λ slot is. ap (λ (o : Option Record). is_some o) (tree_is slot is))) tree
        by_test false off true base = ap (λ (o : Option Record). is_some o) (base_names n linked base).is
        by_test false off false base = ap (λ (o : Option Record). is_some o) (off_all n off base) ∙ links.there n linked

    others_lead : (m n : ℕ) → is_among (tree_slots g.roots) m ≡ false → is_among list m ≡ true → is_among (names_of listed_schema (unnamed e g m)) n ≡ true → NilOr list n
    others_lead m n off linked among = by_test (is_among (bases g) m) refl
      where
        by_test : (c : Bool) → is_among (bases g) m ≡ c → NilOr list n
        by_test true base =
            let uses : Uses (But (NilOr list) e.1) (unnamed e g m) = base_names m linked base in
            names_all (NilOr list) (unnamed e g m) (uses.one ∷ uses.two ∷ uses.three ∷ [])
            (ap (names_of listed_schema) uses.is ∙ names_of_base uses.id uses.date uses.one uses.two uses.three) (uses.first.0, (uses.second.0, (uses.third.0, tt))) n among
        by_test false base = links.refers m n linked (ap (λ (o : Option Record). is_among (names_of listed_schema o) n) (sym (off_all m off base)) ∙ among)

    pub deletion_links : Links list (without_composite e g)
    deletion_links =
        subst (λ (rs : List ℕ). Links list (record { look = unnamed e g; roots = rs })) (sym less.roots)
        (links_again list list g (with_look g (unnamed e g)) (remade_design g (unnamed e g) design remade furnished) links refl (λ n linked. linked) still_here entries_left others_lead)

-- the entry at a place of a list is in it
at_place : (es : List Entry) (k : ℕ) → k < length es → has_entry (get_or es k (0, 0)).0 (get_or es k (0, 0)).1 es ≡ true
at_place [] k low = absurd (omega arith)
at_place (e ∷ es) zero low = or_first (e.0 == e.0 && e.1 == e.1) (has_entry e.0 e.1 es) (λ i. itself e.0 i && itself e.1 i)
at_place (e ∷ es) (suc k) low =
    or_second (e.0 == (get_or es k (0, 0)).0 && e.1 == (get_or es k (0, 0)).1) (has_entry (get_or es k (0, 0)).0 (get_or es k (0, 0)).1 es) (at_place es k (omega arith))

some_entry : (n : ℕ) → (n == 0) ≡ false → (k : ℕ) → k % n < n
some_entry n some k = let not_zero = apart_numbers n 0 some in grind arith

-- the entry that is drawn
abbrev drawn_entry : Course → Entry
drawn_entry s = get_or (index s.design 4) (below (length (index s.design 4)) s.draws).0 (0, 0)

-- a design that leads to the names of a list alone
pub record Linked (list : List ℕ) (g : Flat) : Type 0 where
  pub design : IsFlatDesign g
  pub links : Links list g

deletions_linked : (list : List ℕ) (tries : ℕ) (s : Course) → Linked list s.design → Linked list (deletions tries s).design
deletions_linked list zero s linked = linked
deletions_linked list (suc tries) s linked = by_test (length (index s.design 4) == 0) refl (deletions_linked list tries (deleted s))
  where
    by_test : (b : Bool) → (length (index s.design 4) == 0) ≡ b → (Linked list (deleted s).design → Linked list (deletions tries (deleted s)).design)
        → Linked list (cond b s (deletions tries (deleted s))).design
    by_test true none later = linked
    by_test false some later =
        let has : has_entry (drawn_entry s).0 (drawn_entry s).1 (index s.design 4) ≡ true =
        at_place (index s.design 4) (below (length (index s.design 4)) s.draws).0 (some_entry (length (index s.design 4)) some (pcg32 s.draws).0) in
        later (record {
          design = deletion_stays s.design (drawn_entry s) linked.design has;
          links = deletion_links s.design (drawn_entry s) linked.design has list linked.links;
        })

pub deletes_linked : (list : List ℕ) (g : Flat) (choice : ℕ) → Linked list g → Linked list (delete g choice).design
deletes_linked list g choice linked = deletions_linked list 5 (record { design = g; draws = begun choice 7; parts = 0 }) linked

deletions_stay : (tries : ℕ) (s : Course) → IsFlatDesign s.design → IsFlatDesign (deletions tries s).design
deletions_stay zero s design = design
deletions_stay (suc tries) s design = by_test (length (index s.design 4) == 0) refl (deletions_stay tries (deleted s))
  where
    by_test : (b : Bool) → (length (index s.design 4) == 0) ≡ b → (IsFlatDesign (deleted s).design → IsFlatDesign (deletions tries (deleted s)).design)
        → IsFlatDesign (cond b s (deletions tries (deleted s))).design
    by_test true none later = design
    by_test false some later =
        later (deletion_stays s.design (get_or (index s.design 4) (below (length (index s.design 4)) s.draws).0 (0, 0)) design
        (at_place (index s.design 4) (below (length (index s.design 4)) s.draws).0 (some_entry (length (index s.design 4)) some (pcg32 s.draws).0)))

pub deletes_leave_designs : DeletesLeaveDesigns
deletes_leave_designs = λ g choice design. deletions_stay 5 (record { design = g; draws = begun choice 7; parts = 0 }) design
