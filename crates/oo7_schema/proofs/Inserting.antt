-- An insertion leaves a design.
use Rattle.std.proofs.Common.{◌≡◌, ◌+◌, ◌-◌, ◌*◌, ◌<◌, ◌≤◌, ℕ, List, [], ◌∷◌, ◌++◌, length, Bool, true, false, Option, None, Some, is_some, ◌⊎◌, inl, inr, refl, sym, arith, ap, subst, ◌∙◌, map, drop, get_or, leb}
use Rattle.std.specs.Prelude.{◌==◌, flat_map, fold, slice_index}
use Rattle.std.specs.List.{AllByRecursion}
use Rattle.std.proofs.lemmas.List.Folds.{list_any-append}
use Rattle.pm3_types.specs.declared.places.Place.TheVariants.{Word, Reference}
use Rattle.pm3_types.specs.Record.{Record}
use Rattle.pm3_types.specs.Numbering.{is_among, names_of}
use Rattle.oo7_schema.specs.declared.sizes.Params.{Params}
use Rattle.oo7_schema.specs.Sizes.{params_of, size_at}
use Rattle.oo7_schema.specs.Lookup.{Look, listed_schema, value_in, set_in, set, word, items}
use Rattle.oo7_schema.specs.Entries.{Entry, objects, with_entry, entries_in, list_record, times, Once, Holds}
use Rattle.oo7_schema.specs.Nodes.{IsOf}
use Rattle.oo7_schema.specs.Flat.{Flat, index, with_look, tree_slots}
use Rattle.oo7_schema.specs.Members.{module_of, size_number, params_in, design_root, document_of}
use Rattle.oo7_schema.specs.Walk.{bases_under, bases, depth_of}
use Rattle.oo7_schema.specs.Composites.{composite_objects, objects_in, part_names}
use Rattle.oo7_schema.specs.Changes.{put_all, with_object, with_part, with_composite, has_room, used, counted, most_atomics, most_composites}
use Rattle.oo7_schema.specs.Designs.{IsModule, IsBase, IsComposite, IsList, IsFlatDesign, composites, documents, atomics}
use Rattle.oo7_schema.proofs.Testing.{itself, same_number, apart_numbers, test_false, at_most, and_first, and_second, or_cases, or_first, or_second}
use Rattle.oo7_schema.proofs.Holding.{all_more, in_front, counted_among, among_counted, holds_again, holds_alike, holds_with, holds_more, put_in, all_with, map_as_flat, self_as_flat, zip_halves, joined_once, still_there, one_of}
use Rattle.oo7_schema.proofs.KeptObjects.{joined_first, joined_second, all_among, staying, bases_kept}
use Rattle.oo7_schema.proofs.StaysDesign.{roots_are}
use Rattle.oo7_schema.proofs.Swapping.{bases_are}
use Rattle.oo7_schema.proofs.Relisting.{slots, at_slots, Slotted, slotted, Relisted, relisted_begin, entered, part_entered, relisted_enter, relisted_parts, first_list, second_list, third_list, fourth_list, on_trees, one_class, off_trees, nil_off_trees}
use Rattle.oo7_schema.proofs.Rebasing.{Uses, uses_of, uses_wider, base_of}
use Rattle.oo7_schema.proofs.Setting.{set_off, set_here, head, HeadAt, head_at, head_set, HeadSays, head_says, Or, uses_set}
use Rattle.oo7_schema.proofs.Remaking.{Remade, Furnished, remade_design, stay, part_stays, composites_stay, documents_stay, atomics_stay, composite_word, document_word, atomic_word, composites_of, documents_of, atomics_of}
use Rattle.oo7_schema.proofs.Deciding.{of_test, is_of}
use Rattle.oo7_schema.proofs.Pieces.{among_get, times_take, times_drop}
use Rattle.oo7_schema.proofs.Drawing.{AreDrawn}
use Rattle.oo7_schema.proofs.Making.{Placed, IsSound, IsMade, is_made}
use Rattle.oo7_schema.proofs.Naming.{named, names_are, put_all_off, put_all_at, placed_again}
use Rattle.oo7_schema.proofs.Closing.{Links}
use Rattle.oo7_schema.proofs.Linking.{NilOr, all_from, names_all, names_of_base, names_of_head, entries_linked, links_again}
use Rattle.oo7_schema.proofs.MadeNames.{at_place, wider, made_refers, placed_refers, placed_there}

-- the objects of a design and those of a composite part under these names
abbrev made : Flat → Params → ℕ → List ℕ → List ℕ → Flat
made g p k names nums = with_look g (put_all g.look (composite_objects p k names nums))

-- the lists with its parts, its document and itself
abbrev with_parts : Flat → Params → ℕ → List ℕ → List ℕ → ℕ → List Entry
with_parts g p k names nums = fold (part_entered with_entry (made g p k names nums).look) (index (made g p k names nums)) (part_names p names)

abbrev with_document : Flat → Params → ℕ → List ℕ → List ℕ → ℕ → List Entry
with_document g p k names nums = entered with_entry (made g p k names nums).look 3 0 (with_parts g p k names nums) (get_or names 1 0)

abbrev with_all : Flat → Params → ℕ → List ℕ → List ℕ → ℕ → List Entry
with_all g p k names nums = entered with_entry (made g p k names nums).look 4 0 (with_document g p k names nums) (get_or names 0 0)

-- the objects once a base assembly names a composite part, and the module counts it
abbrev placed_in : Flat → ℕ → ℕ → ℕ → ℕ → ℕ → Look
placed_in h b place c greatest k = set (set (set h.look b (Reference (2 + place)) c) (module_of h) (Word 2) greatest) (module_of h) (Word 3) k

-- what an insertion rests on
pub record Insertion (g : Flat) (p : Params) (k place : ℕ) (names nums : List ℕ) : Type 0 where
  pub design : IsFlatDesign g
  pub params : params_in g ≡ p
  pub sound : IsSound p
  pub count : length names ≡ objects_in p
  pub once : Once names
  pub new : (n : ℕ) → is_among names n ≡ true → (n ≡ 0 → ⊥) × (g.look n ≡ None)
  pub drawn : AreDrawn p nums
  pub room : has_room p k ≡ true
  pub some : 1 ≤ k
  pub low : place < 3

module _ (g : Flat) (p : Params) (k i place : ℕ) (names nums : List ℕ) (insertion : Insertion g p k place names nums) where
  abbrev v : Look
  v = g.look

  abbrev v1 : Look
  v1 = (made g p k names nums).look

  abbrev h : Flat
  h = with_composite p k names nums g

  abbrev b : ℕ
  b = get_or (bases h) i 0

  abbrev c : ℕ
  c = get_or names 0 0

  abbrev d : ℕ
  d = get_or names 1 0

  abbrev w : Look
  w = placed_in h b place c (k * p.atomics) k

  design : IsFlatDesign g
  design = insertion.design

  object_names : named (composite_objects p k names nums) ≡ names
  object_names = names_are p k names nums insertion.count

  -- what is there has no new name
  not_new : (n : ℕ) (r : Record) → v n ≡ Some r → is_among names n ≡ false
  not_new n r is = by_test (is_among names n) refl
    where
      by_test : (t : Bool) → is_among names n ≡ t → is_among names n ≡ false
      by_test true among = let none : v n ≡ None = (insertion.new n among).1 in cc (none, is)
      by_test false among = among

  off_names : (n : ℕ) → is_among names n ≡ false → v1 n ≡ v n
  off_names n off = put_all_off (composite_objects p k names nums) v n (ap (λ (ns : List ℕ). is_among ns n) object_names ∙ off)

  nil_not_new : is_among names 0 ≡ false
  nil_not_new = by_test (is_among names 0) refl
    where
      by_test : (t : Bool) → is_among names 0 ≡ t → is_among names 0 ≡ false
      by_test true among = absurd ((insertion.new 0 among).0 refl)
      by_test false among = among

  there : (j n : ℕ) → IsOf v j n → v1 n ≡ v n
  there j n of = off_names n (not_new n of.object of.is)

  there_kept : (j n : ℕ) → IsOf v j n → is_among (6 ∷ staying) j ≡ true → v1 n ≡ v n
  there_kept j n of among = there j n of

  objects_here : AllByRecursion (Placed v1) (composite_objects p k names nums)
  objects_here = put_all_at (composite_objects p k names nums) v (subst Once (sym object_names) insertion.once)

  -- the trees
  slots_apart : Slotted (made g p k names nums)
  slots_apart = record { among = (slotted g design).among; apart = (slotted g design).apart }

  tree_there : (slot : ℕ) → is_among slots slot ≡ true → v1 (slice_index g.roots slot) ≡ v (slice_index g.roots slot)
  tree_there slot is =
      let list : IsList v (slice_index g.roots slot) = all_among (IsList v) (tree_slots g.roots) (slice_index g.roots slot) design.lists ((slotted g design).among slot is) in
      off_names (slice_index g.roots slot) (not_new (slice_index g.roots slot) (list_record (index g slot)) list)

  list_there : (slot : ℕ) → is_among slots slot ≡ true → IsList v1 (slice_index g.roots slot)
  list_there slot is =
      tree_there slot is ∙ all_among (IsList v) (tree_slots g.roots) (slice_index g.roots slot) design.lists ((slotted g design).among slot is)
      ∙ ap (λ (o : Option Record). Some (list_record (entries_in o))) (sym (tree_there slot is))

  index_there : (slot : ℕ) → is_among slots slot ≡ true → index (made g p k names nums) slot ≡ index g slot
  index_there slot is = ap entries_in (tree_there slot is)

  new_off : (n : ℕ) → is_among names n ≡ true → is_among (tree_slots g.roots) n ≡ false
  new_off n among = nil_off_trees g design n (insertion.new n among).1

  part_new : (q : ℕ) → is_among (part_names p names) q ≡ true → is_among names q ≡ true
  part_new q among = counted_among q names (omega (arith, among_counted q (part_names p names) among, times_take q p.atomics (drop 2 names), times_drop q 2 names))

  parts_off : (qs : List ℕ) → ((q : ℕ) → is_among qs q ≡ true → is_among names q ≡ true) → AllByRecursion (λ (q : ℕ). is_among (tree_slots g.roots) q ≡ false) qs
  parts_off [] inside = tt
  parts_off (q ∷ qs) inside =
      (new_off q (inside q (or_first (q == q) (is_among qs q) (itself q))), parts_off qs (λ r among. inside r (or_second (r == q) (is_among qs r) among)))

  some_names : 2 ≤ length names
  some_names = omega (arith, insertion.count)

  c_new : is_among names c ≡ true
  c_new = among_get names 0 (omega (arith, some_names))

  d_new : is_among names d ≡ true
  d_new = among_get names 1 (omega (arith, some_names))

  listed : Relisted (made g p k names nums) h (with_all g p k names nums)
  listed =
      relisted_enter (made g p k names nums) slots_apart with_entry (with_object 3 0 (fold with_part (made g p k names nums) (part_names p names)) d) (with_document g p k names nums) 4 0 c refl (new_off c c_new)
      (relisted_enter (made g p k names nums) slots_apart with_entry (fold with_part (made g p k names nums) (part_names p names)) (with_parts g p k names nums) 3 0 d refl (new_off d d_new)
      (relisted_parts (made g p k names nums) slots_apart with_entry (part_names p names) (made g p k names nums) (index (made g p k names nums)) (parts_off (part_names p names) part_new)
      (relisted_begin (made g p k names nums) (list_there 1 refl, (list_there 2 refl, (list_there 3 refl, (list_there 4 refl, tt)))))))

  -- the base assembly and the module that change
  h_there : (j n : ℕ) → IsOf v j n → (j == 12) ≡ false → h.look n ≡ v n
  h_there j n of other = listed.off n (off_trees g design j n of other) ∙ there j n of

  h_kept : (j n : ℕ) → IsOf v j n → is_among (6 ∷ staying) j ≡ true → h.look n ≡ v n
  h_kept j n of among = h_there j n of (all_among (λ (j : ℕ). (j == 12) ≡ false) (6 ∷ staying) j (refl, (refl, (refl, (refl, (refl, (refl, (refl, tt))))))) among)

  module_is : module_of h ≡ module_of g
  module_is = ap (λ (rs : List ℕ). slice_index rs 0) listed.roots

  h_head : h.look (module_of h) ≡ v (module_of g)
  h_head = ap h.look module_is ∙ h_there 0 (module_of g) design.head.is refl

  bases_are_same : bases h ≡ bases g
  bases_are_same =
      ap (λ (o : Option Record). bases_under h.look ((params_of (size_at (value_in o (Word 1)))).levels - 1) (value_in o (Reference 6))) h_head
      ∙ bases_kept v h.look (stay v h.look h_kept) (part_stays v h.look h_kept) (composites g) (depth_of g) (design_root g) design.assemblies

  all_bases : AllByRecursion (IsBase v (composites g)) (bases g)
  all_bases = bases_are v (composites g) (depth_of g) (design_root g) design.assemblies

  -- the base assembly is one of the design, or nil
  b_cases : NilOr (bases g) b
  b_cases = subst (λ (bs : List ℕ). NilOr (bases g) (get_or bs i 0)) (sym bases_are_same) (at_place (bases g) i)

  base_at : (n : ℕ) → is_among (bases g) n ≡ true → IsOf v 3 n
  base_at n among = (all_among (IsBase v (composites g)) (bases g) n all_bases among).is

  -- what is no base assembly, and what has no name but is not nil, is not the one that changes
  not_base : (n : ℕ) → (IsOf v 3 n → ⊥) → (n ≡ 0 → ⊥) → n ≡ b → ⊥
  not_base n other some same = by_cases b_cases
    where
      by_cases : NilOr (bases g) b → ⊥
      by_cases (inr among) = other (subst (λ (m : ℕ). IsOf v 3 m) (sym same) (base_at b among))
      by_cases (inl nil) = some (same ∙ nil)

  not_module : (n : ℕ) → (IsOf v 0 n → ⊥) → n ≡ module_of h → ⊥
  not_module n other same = other (subst (λ (m : ℕ). IsOf v 0 m) (sym (same ∙ module_is)) design.head.is)

  not_nil : (j n : ℕ) → IsOf v j n → n ≡ 0 → ⊥
  not_nil j n of nil = let none : v n ≡ None = ap v nil ∙ design.nil in let some : v n ≡ Some of.object = of.is in cc (none, some)

  w_off : (n : ℕ) → (n ≡ b → ⊥) → (n ≡ module_of h → ⊥) → w n ≡ h.look n
  w_off n base head =
      set_off (set (set h.look b (Reference (2 + place)) c) (module_of h) (Word 2) (k * p.atomics)) (module_of h) (Word 3) k n (test_false n (module_of h) head)
      ∙ set_off (set h.look b (Reference (2 + place)) c) (module_of h) (Word 2) (k * p.atomics) n (test_false n (module_of h) head)
      ∙ set_off h.look b (Reference (2 + place)) c n (test_false n b base)

  w_of : (j n : ℕ) → IsOf v j n → (j == 0) ≡ false → (j == 3) ≡ false → (j == 12) ≡ false → w n ≡ v n
  w_of j n of head base tree =
      w_off n (not_base n (λ three. apart_numbers j 3 base (one_class v j 3 n of three)) (not_nil j n of)) (not_module n (λ zeroth. apart_numbers j 0 head (one_class v j 0 n of zeroth)))
      ∙ h_there j n of tree

  same : (j n : ℕ) → IsOf v j n → is_among (6 ∷ staying) j ≡ true → w n ≡ v n
  same j n of among =
      w_of j n of (all_among (λ (j : ℕ). (j == 0) ≡ false) (6 ∷ staying) j (refl, (refl, (refl, (refl, (refl, (refl, (refl, tt))))))) among)
      (all_among (λ (j : ℕ). (j == 3) ≡ false) (6 ∷ staying) j (refl, (refl, (refl, (refl, (refl, (refl, (refl, tt))))))) among)
      (all_among (λ (j : ℕ). (j == 12) ≡ false) (6 ∷ staying) j (refl, (refl, (refl, (refl, (refl, (refl, (refl, tt))))))) among)

  -- what has no object but is not nil
  w_none : (n : ℕ) → (n ≡ 0 → ⊥) → v n ≡ None → w n ≡ v1 n
  w_none n some none =
      w_off n (not_base n (λ of. absent 3 of) some) (not_module n (λ of. absent 0 of)) ∙ listed.off n (nil_off_trees g design n none)
    where
      absent : (j : ℕ) → IsOf v j n → ⊥
      absent j of = let is : v n ≡ Some of.object = of.is in cc (none, is)

  w_new : (n : ℕ) → is_among names n ≡ true → w n ≡ v1 n
  w_new n among = w_none n (insertion.new n among).0 (insertion.new n among).1

  -- names that are new still are, but for those that were drawn
  pub still_new : (n : ℕ) → (n ≡ 0 → ⊥) → v n ≡ None → is_among names n ≡ false → w n ≡ None
  still_new n some none off = w_none n some none ∙ off_names n off ∙ none

  b_not_module : b ≡ module_of h → ⊥
  b_not_module same = by_cases b_cases
    where
      by_cases : NilOr (bases g) b → ⊥
      by_cases (inr among) = let both : 3 ≡ 0 = one_class v 3 0 b (base_at b among) (subst (λ (m : ℕ). IsOf v 0 m) (sym (same ∙ module_is)) design.head.is) in absurd (omega (arith, both))
      by_cases (inl nil) = not_nil 0 (module_of g) design.head.is (sym (same ∙ module_is) ∙ nil)

  w_base : w b ≡ set_in (Reference (2 + place)) c (h.look b)
  w_base =
      set_off (set (set h.look b (Reference (2 + place)) c) (module_of h) (Word 2) (k * p.atomics)) (module_of h) (Word 3) k b (test_false b (module_of h) b_not_module)
      ∙ set_off (set h.look b (Reference (2 + place)) c) (module_of h) (Word 2) (k * p.atomics) b (test_false b (module_of h) b_not_module) ∙ set_here h.look b (Reference (2 + place)) c

  w_module : w (module_of h) ≡ set_in (Word 3) k (set_in (Word 2) (k * p.atomics) (h.look (module_of h)))
  w_module =
      set_here (set (set h.look b (Reference (2 + place)) c) (module_of h) (Word 2) (k * p.atomics)) (module_of h) (Word 3) k
      ∙ ap (set_in (Word 3) k) (set_here (set h.look b (Reference (2 + place)) c) (module_of h) (Word 2) (k * p.atomics)
      ∙ ap (set_in (Word 2) (k * p.atomics)) (set_off h.look b (Reference (2 + place)) c (module_of h) (test_false (module_of h) b (λ equal. b_not_module (sym equal)))))

  nil_stays : w 0 ≡ None
  nil_stays = by_test (0 == b) refl
    where
      off_module : 0 ≡ module_of h → ⊥
      off_module same = not_nil 0 (module_of g) design.head.is (sym (same ∙ module_is))

      h_nil : h.look 0 ≡ None
      h_nil = listed.off 0 (nil_off_trees g design 0 design.nil) ∙ off_names 0 nil_not_new ∙ design.nil

      by_test : (t : Bool) → (0 == b) ≡ t → w 0 ≡ None
      by_test true is =
          let here : 0 ≡ b = same_number 0 b is in
          ap w here ∙ w_base ∙ ap (λ (m : ℕ). set_in (Reference (2 + place)) c (h.look m)) (sym here) ∙ ap (set_in (Reference (2 + place)) c) h_nil
      by_test false is = w_off 0 (apart_numbers 0 b is) off_module ∙ h_nil

  -- the module
  old_head : HeadAt (v (module_of g))
  old_head = head_at v (module_of g) design.head.is

  old_says : HeadSays old_head.id old_head.size old_head.atomic old_head.composite old_head.assemblies old_head.manual old_head.root
  old_says = head_says old_head.id old_head.size old_head.atomic old_head.composite old_head.assemblies old_head.manual old_head.root

  new_says : HeadSays old_head.id old_head.size (k * p.atomics) k old_head.assemblies old_head.manual old_head.root
  new_says = head_says old_head.id old_head.size (k * p.atomics) k old_head.assemblies old_head.manual old_head.root

  head_is : w (module_of g) ≡ Some (head old_head.id old_head.size (k * p.atomics) k old_head.assemblies old_head.manual old_head.root)
  head_is =
      ap w (sym module_is) ∙ w_module ∙ ap (λ (o : Option Record). set_in (Word 3) k (set_in (Word 2) (k * p.atomics) o)) (h_head ∙ old_head.is)
      ∙ head_set old_head.id old_head.size old_head.atomic old_head.composite old_head.assemblies old_head.manual old_head.root (k * p.atomics) k

  size_same : size_number (with_look g w) ≡ size_number g
  size_same = ap (λ (o : Option Record). value_in o (Word 1)) head_is ∙ new_says.size_is ∙ sym (ap (λ (o : Option Record). value_in o (Word 1)) old_head.is ∙ old_says.size_is)

  new_head : IsModule (with_look g w)
  new_head = record {
    is = is_of w 0 (module_of g) (ap (of_test 0) head_is);
    size = subst (λ (n : ℕ). n < 5) (sym size_same) design.head.size;
    some_atomic = subst (λ (n : ℕ). 1 ≤ n) (sym atomic_is) (one_at_least k p.atomics insertion.some insertion.sound.atomics);
    few_atomic = subst (λ (n : ℕ). n ≤ most_atomics) (sym atomic_is) (at_most (k * p.atomics) most_atomics (and_second (leb k most_composites) (leb (k * p.atomics) most_atomics) insertion.room));
    some_composite = subst (λ (n : ℕ). 1 ≤ n) (sym composite_is) insertion.some;
    few_composite = subst (λ (n : ℕ). n ≤ most_composites) (sym composite_is) (at_most k most_composites (and_first (leb k most_composites) (leb (k * p.atomics) most_atomics) insertion.room));
  }
    where
      atomic_is : word w (module_of g) 2 ≡ k * p.atomics
      atomic_is = ap (λ (o : Option Record). value_in o (Word 2)) head_is ∙ new_says.atomic_is

      composite_is : word w (module_of g) 3 ≡ k
      composite_is = ap (λ (o : Option Record). value_in o (Word 3)) head_is ∙ new_says.composite_is

      one_at_least : (m n : ℕ) → 1 ≤ m → 1 ≤ n → 1 ≤ m * n
      one_at_least m n first second = grind arith

  -- the lists
  tree_is : (slot : ℕ) → is_among slots slot ≡ true → w (slice_index g.roots slot) ≡ Some (list_record (with_all g p k names nums slot))
  tree_is slot is =
      w_off (slice_index g.roots slot) (not_base (slice_index g.roots slot) (λ of. other 3 of refl) not_zero) (not_module (slice_index g.roots slot) (λ of. other 0 of refl)) ∙ listed.at slot is
    where
      other : (j : ℕ) → IsOf v j (slice_index g.roots slot) → (j == 12) ≡ false → ⊥
      other j of apart =
          let off : is_among (tree_slots g.roots) (slice_index g.roots slot) ≡ false = off_trees g design j (slice_index g.roots slot) of apart in
          let among : is_among (tree_slots g.roots) (slice_index g.roots slot) ≡ true = (slotted g design).among slot is in
          cc (off, among)

      not_zero : slice_index g.roots slot ≡ 0 → ⊥
      not_zero nil =
          let off : is_among (tree_slots g.roots) (slice_index g.roots slot) ≡ false = nil_off_trees g design (slice_index g.roots slot) (ap v nil ∙ design.nil) in
          let among : is_among (tree_slots g.roots) (slice_index g.roots slot) ≡ true = (slotted g design).among slot is in
          cc (off, among)

  index_is : (slot : ℕ) → is_among slots slot ≡ true → index (with_look g w) slot ≡ with_all g p k names nums slot
  index_is slot is = ap entries_in (tree_is slot is) ∙ zip_halves (with_all g p k names nums slot)

  lists : AllByRecursion (IsList w) (tree_slots g.roots)
  lists =
      on_trees (IsList w) g.roots (roots_are g.roots design.slots)
      (λ slot is. tree_is slot is ∙ ap (λ (es : List Entry). Some (list_record es)) (sym (index_is slot is)))

  -- the new composite part, beside the others
  new_part : IsMade w p names
  new_part =
      is_made w p k names nums insertion.sound insertion.count insertion.once insertion.drawn
      (placed_again v1 w (composite_objects p k names nums) (λ n among. w_new n (sym (ap (λ (ns : List ℕ). is_among ns n) object_names) ∙ among)) objects_here)

  old_parts : AllByRecursion (IsComposite v p.atomics) (composites g)
  old_parts = subst (λ (q : Params). AllByRecursion (IsComposite v q.atomics) (composites g)) insertion.params design.parts

  fourth_is : with_all g p k names nums 4 ≡ with_entry (word v1 c 0) c (index g 4)
  fourth_is = ap (with_entry (word v1 c 0) c) (fourth_list with_entry v1 (part_names p names) (index (made g p k names nums)) ∙ index_there 4 refl)

  composites_are : composites (with_look g w) ≡ objects (with_entry (word v1 c 0) c (index g 4))
  composites_are = ap objects (index_is 4 refl ∙ fourth_is)

  composites_counted : (n : ℕ) → times n (composites (with_look g w)) ≡ times n (c ∷ composites g)
  composites_counted n =
      ap (times n) (composites_are ∙ self_as_flat (objects (with_entry (word v1 c 0) c (index g 4)))) ∙ put_in (λ (m : ℕ). m ∷ []) (word v1 c 0) c (index g 4) n
      ∙ ap (λ (ns : List ℕ). times n (c ∷ ns)) (sym (self_as_flat (composites g)))

  documents_counted : (n : ℕ) → times n (documents (with_look g w)) ≡ times n (d ∷ documents g)
  documents_counted n =
      ap (λ (cs : List ℕ). times n (map (document_of w) cs)) composites_are ∙ ap (times n) (map_as_flat (document_of w) (objects (with_entry (word v1 c 0) c (index g 4))))
      ∙ put_in (λ (m : ℕ). document_of w m ∷ []) (word v1 c 0) c (index g 4) n
      ∙ ap (λ (ns : List ℕ). times n (document_of w c ∷ ns)) (sym (map_as_flat (document_of w) (composites g)))
      ∙ (λ j. times n (new_part.document j ∷ documents_stay v w same p.atomics (composites g) old_parts j))

  atomics_counted : (n : ℕ) → times n (atomics (with_look g w)) ≡ times n (part_names p names ++ atomics g)
  atomics_counted n =
      ap (λ (cs : List ℕ). times n (flat_map (items w) cs)) composites_are ∙ put_in (items w) (word v1 c 0) c (index g 4) n
      ∙ (λ j. times n (new_part.parts j ++ atomics_stay v w same p.atomics (composites g) old_parts j))

  -- the base assemblies
  bases_right : (n : ℕ) → is_among (bases g) n ≡ true → IsBase v (composites g) n → IsBase w (composites (with_look g w)) n
  bases_right n among base =
      base_of (Or (λ (m : ℕ). (m ≡ 0) ⊎ (is_among (composites g) m ≡ true)) c) w (composites (with_look g w)) n names_right (by_test (n == b) refl)
    where
      here : h.look n ≡ v n
      here = h_there 3 n base.is refl

      old_uses : Uses (λ (m : ℕ). (m ≡ 0) ⊎ (is_among (composites g) m ≡ true)) (h.look n)
      old_uses = subst (λ (o : Option Record). Uses (λ (m : ℕ). (m ≡ 0) ⊎ (is_among (composites g) m ≡ true)) o) (sym here) (uses_of v (composites g) n base)

      by_test : (t : Bool) → (n == b) ≡ t → Uses (Or (λ (m : ℕ). (m ≡ 0) ⊎ (is_among (composites g) m ≡ true)) c) (w n)
      by_test true is =
          let equal : n ≡ b = same_number n b is in
          subst (λ (o : Option Record). Uses (Or (λ (m : ℕ). (m ≡ 0) ⊎ (is_among (composites g) m ≡ true)) c) o)
          (sym (ap w equal ∙ w_base ∙ ap (λ (m : ℕ). set_in (Reference (2 + place)) c (h.look m)) (sym equal)))
          (uses_set (λ (m : ℕ). (m ≡ 0) ⊎ (is_among (composites g) m ≡ true)) c place (h.look n) insertion.low old_uses)
      by_test false is =
          let zeroth : IsOf v 0 n → ⊥ = λ of. apart_numbers 3 0 refl (one_class v 3 0 n base.is of) in
          subst (λ (o : Option Record). Uses (Or (λ (m : ℕ). (m ≡ 0) ⊎ (is_among (composites g) m ≡ true)) c) o) (sym (w_off n (apart_numbers n b is) (not_module n zeroth)))
          (uses_wider (λ (m : ℕ). (m ≡ 0) ⊎ (is_among (composites g) m ≡ true)) (Or (λ (m : ℕ). (m ≡ 0) ⊎ (is_among (composites g) m ≡ true)) c) (h.look n) (λ m is. inl is) old_uses)

      names_right : (m : ℕ) → Or (λ (m : ℕ). (m ≡ 0) ⊎ (is_among (composites g) m ≡ true)) c m → (m ≡ 0) ⊎ (is_among (composites (with_look g w)) m ≡ true)
      names_right m (inl (inl nil)) = inl nil
      names_right m (inl (inr old)) = inr (still_there c m (composites (with_look g w)) (composites g) composites_counted old)
      names_right m (inr new) =
          inr (counted_among m (composites (with_look g w)) (omega (arith, composites_counted m, in_front m c (composites g) (sym new))))

  remade : Remade g w
  remade = record {
    nil = nil_stays;
    same = same;
    head = new_head;
    size = size_same;
    manual = ap (λ (o : Option Record). value_in o (Reference 5)) head_is ∙ new_says.manual_is ∙ sym (ap (λ (o : Option Record). value_in o (Reference 5)) old_head.is ∙ old_says.manual_is);
    root = ap (λ (o : Option Record). value_in o (Reference 6)) head_is ∙ new_says.root_is ∙ sym (ap (λ (o : Option Record). value_in o (Reference 6)) old_head.is ∙ old_says.root_is);
    lists = lists;
    bases = bases_right;
  }

  -- words of new objects and of old ones are those that the lists go by
  part_word : (f n : ℕ) → is_among (part_names p names ++ atomics g) n ≡ true → word w n f ≡ word v1 n f
  part_word f n among = by_cases (or_cases (is_among (part_names p names) n) (is_among (atomics g) n) (sym (list_any-append (λ (m : ℕ). n == m) (part_names p names) (atomics g)) ∙ among))
    where
      by_cases : (is_among (part_names p names) n ≡ true) ⊎ (is_among (atomics g) n ≡ true) → word w n f ≡ word v1 n f
      by_cases (inl new) = ap (λ (o : Option Record). value_in o (Word f)) (w_new n (part_new n new))
      by_cases (inr old) = atomic_word v w same p.atomics f (composites g) old_parts n old ∙ sym (atomic_word v v1 there_kept p.atomics f (composites g) old_parts n old)

  word_with : (m : ℕ) (ns : List ℕ) → is_among names m ≡ true → ((n : ℕ) → is_among ns n ≡ true → word w n 0 ≡ word v1 n 0) → (n : ℕ) → is_among (m ∷ ns) n ≡ true → word w n 0 ≡ word v1 n 0
  word_with m ns new old n among = elim (or_cases (n == m) (is_among ns n) among) [
    | inl here ↦ ap (λ (o : Option Record). value_in o (Word 0)) (w_new n (ap (is_among names) (same_number n m here) ∙ new))
    | inr before ↦ old n before
  ]

  document_name : (n : ℕ) → is_among (d ∷ documents g) n ≡ true → word w n 0 ≡ word v1 n 0
  document_name = word_with d (documents g) d_new
      (λ n old. document_word v w same p.atomics (composites g) old_parts n old ∙ sym (document_word v v1 there_kept p.atomics (composites g) old_parts n old))

  composite_name : (n : ℕ) → is_among (c ∷ composites g) n ≡ true → word w n 0 ≡ word v1 n 0
  composite_name = word_with c (composites g) c_new
      (λ n old. composite_word v w same p.atomics (composites g) old_parts n old ∙ sym (composite_word v v1 there_kept p.atomics (composites g) old_parts n old))

  -- a list that held the old atomic parts holds the new ones too
  parts_held : (f slot : ℕ) → is_among slots slot ≡ true
      → with_all g p k names nums slot ≡ fold (λ (es : List Entry) (q : ℕ). with_entry (word v1 q f) q es) (index (made g p k names nums) slot) (part_names p names)
      → Holds (λ (n : ℕ). word v n f) (atomics g) (index g slot) → Holds (λ (n : ℕ). word w n f) (atomics (with_look g w)) (index (with_look g w) slot)
  parts_held f slot is list old =
      subst (λ (es : List Entry). Holds (λ (n : ℕ). word w n f) (atomics (with_look g w)) es) (sym (index_is slot is ∙ list))
      (holds_alike (λ (n : ℕ). word w n f) (part_names p names ++ atomics g) (atomics (with_look g w))
      (fold (λ (es : List Entry) (q : ℕ). with_entry (word v1 q f) q es) (index (made g p k names nums) slot) (part_names p names)) (λ n. sym (atomics_counted n))
      (holds_again (λ (n : ℕ). word v1 n f) (λ (n : ℕ). word w n f) (part_names p names ++ atomics g)
      (fold (λ (es : List Entry) (q : ℕ). with_entry (word v1 q f) q es) (index (made g p k names nums) slot) (part_names p names)) (part_word f)
      (holds_more (λ (n : ℕ). word v1 n f) (part_names p names) (atomics g) (index (made g p k names nums) slot)
      (subst (λ (es : List Entry). Holds (λ (n : ℕ). word v1 n f) (atomics g) es) (sym (index_there slot is))
      (holds_again (λ (n : ℕ). word v n f) (λ (n : ℕ). word v1 n f) (atomics g) (index g slot) (atomic_word v v1 there_kept p.atomics f (composites g) old_parts) old)))))

  titles : Holds (λ (n : ℕ). word w n 0) (documents (with_look g w)) (index (with_look g w) 3)
  titles =
      subst (λ (es : List Entry). Holds (λ (n : ℕ). word w n 0) (documents (with_look g w)) es)
      (sym (index_is 3 refl ∙ ap (with_entry (word v1 d 0) d) (third_list with_entry v1 (part_names p names) (index (made g p k names nums)) ∙ index_there 3 refl)))
      (holds_alike (λ (n : ℕ). word w n 0) (d ∷ documents g) (documents (with_look g w)) (with_entry (word v1 d 0) d (index g 3)) (λ n. sym (documents_counted n))
      (holds_again (λ (n : ℕ). word v1 n 0) (λ (n : ℕ). word w n 0) (d ∷ documents g) (with_entry (word v1 d 0) d (index g 3)) document_name
      (holds_with (λ (n : ℕ). word v1 n 0) d (documents g) (index g 3)
      (holds_again (λ (n : ℕ). word v n 0) (λ (n : ℕ). word v1 n 0) (documents g) (index g 3) (document_word v v1 there_kept p.atomics (composites g) old_parts) design.by_title))))

  numbers : Holds (λ (n : ℕ). word w n 0) (composites (with_look g w)) (index (with_look g w) 4)
  numbers =
      subst (λ (es : List Entry). Holds (λ (n : ℕ). word w n 0) (composites (with_look g w)) es) (sym (index_is 4 refl ∙ fourth_is))
      (holds_alike (λ (n : ℕ). word w n 0) (c ∷ composites g) (composites (with_look g w)) (with_entry (word v1 c 0) c (index g 4)) (λ n. sym (composites_counted n))
      (holds_again (λ (n : ℕ). word v1 n 0) (λ (n : ℕ). word w n 0) (c ∷ composites g) (with_entry (word v1 c 0) c (index g 4)) composite_name
      (holds_with (λ (n : ℕ). word v1 n 0) c (composites g) (index g 4)
      (holds_again (λ (n : ℕ). word v n 0) (λ (n : ℕ). word v1 n 0) (composites g) (index g 4) (composite_word v v1 there_kept p.atomics (composites g) old_parts) design.by_composite))))

  -- new names are none of the old ones
  old_not_new : (j : ℕ) (ns : List ℕ) → AllByRecursion (IsOf v j) ns → (n : ℕ) → is_among ns n ≡ true → is_among names n ≡ true → ⊥
  old_not_new j ns all n old new =
      let of : IsOf v j n = all_among (IsOf v j) ns n all old in
      let off : is_among names n ≡ false = not_new n of.object of.is in
      cc (off, new)

  part_once : Once (part_names p names)
  part_once n = let most = insertion.once n in omega (arith, most, times_take n p.atomics (drop 2 names), times_drop n 2 names)

  furnished : Furnished g w
  furnished = record {
    parts = subst (λ (q : Params). AllByRecursion (IsComposite w q.atomics) (composites (with_look g w))) (sym insertion.params)
        (subst (λ (cs : List ℕ). AllByRecursion (IsComposite w p.atomics) cs) (sym composites_are)
        (all_with (IsComposite w p.atomics) (word v1 c 0) c (index g 4) new_part.is (composites_stay v w same p.atomics (composites g) old_parts)));
    once_composites = joined_once (c ∷ []) (composites g) (composites (with_look g w)) composites_counted (one_of c) design.once_composites
        (λ n old new. old_not_new 4 (composites g) (composites_of v p.atomics (composites g) old_parts) n old (ap (is_among names) (only n c new) ∙ c_new));
    once_documents = joined_once (d ∷ []) (documents g) (documents (with_look g w)) documents_counted (one_of d) design.once_documents
        (λ n old new. old_not_new 5 (documents g) (documents_of v p.atomics (composites g) old_parts) n old (ap (is_among names) (only n d new) ∙ d_new));
    once_atomics = joined_once (part_names p names) (atomics g) (atomics (with_look g w)) atomics_counted part_once design.once_atomics
        (λ n old new. old_not_new 6 (atomics g) (atomics_of v p.atomics (composites g) old_parts) n old (part_new n new));
    by_id = parts_held 0 1 refl (first_list with_entry v1 (part_names p names) (index (made g p k names nums))) design.by_id;
    by_date = parts_held 2 2 refl (second_list with_entry v1 (part_names p names) (index (made g p k names nums))) design.by_date;
    by_title = titles;
    by_composite = numbers;
  }
    where
      only : (n m : ℕ) → is_among (m ∷ []) n ≡ true → n ≡ m
      only n m is = elim (or_cases (n == m) false is) [ inl here ↦ same_number n m here | inr never ↦ cc ]

  -- an insertion leads to the new names, and else nowhere else
  module _ (list : List ℕ) (links : Links list g) where
    old_linked : (n : ℕ) → NilOr list n → NilOr (list ++ names) n
    old_linked = wider list (list ++ names) (λ n linked. joined_first list names n linked)

    new_linked : (n : ℕ) → is_among names n ≡ true → NilOr (list ++ names) n
    new_linked n among = inr (joined_second list names n among)

    entries_before : (slot : ℕ) → is_among slots slot ≡ true → AllByRecursion (NilOr (list ++ names)) (objects (index g slot))
    entries_before slot is = all_from (NilOr (list ++ names)) (objects (index g slot)) (λ n among. old_linked n (all_among (NilOr list) (objects (index g slot)) n (entries_linked list g design links slot is) among))

    parts_linked : AllByRecursion (NilOr (list ++ names)) (part_names p names)
    parts_linked = all_from (NilOr (list ++ names)) (part_names p names) (λ n among. new_linked n (part_new n among))

    entries_linked_by : (f slot : ℕ) → is_among slots slot ≡ true
        → with_all g p k names nums slot ≡ fold (λ (es : List Entry) (q : ℕ). with_entry (word v1 q f) q es) (index (made g p k names nums) slot) (part_names p names)
        → AllByRecursion (NilOr (list ++ names)) (objects (index (with_look g w) slot))
    entries_linked_by f slot is list_is =
        subst (λ (es : List Entry). AllByRecursion (NilOr (list ++ names)) (objects es)) (sym (index_is slot is ∙ list_is))
        (all_more (NilOr (list ++ names)) (λ (n : ℕ). word v1 n f) (part_names p names) (index (made g p k names nums) slot) parts_linked
        (subst (λ (es : List Entry). AllByRecursion (NilOr (list ++ names)) (objects es)) (sym (index_there slot is)) (entries_before slot is)))

    entries_after : (slot : ℕ) → is_among slots slot ≡ true → AllByRecursion (NilOr (list ++ names)) (objects (index (with_look g w) slot))
    entries_after = at_slots (λ (slot : ℕ). AllByRecursion (NilOr (list ++ names)) (objects (index (with_look g w) slot)))
        (entries_linked_by 0 1 refl (first_list with_entry v1 (part_names p names) (index (made g p k names nums))))
        (entries_linked_by 2 2 refl (second_list with_entry v1 (part_names p names) (index (made g p k names nums))))
        (subst (λ (es : List Entry). AllByRecursion (NilOr (list ++ names)) (objects es))
        (sym (index_is 3 refl ∙ ap (with_entry (word v1 d 0) d) (third_list with_entry v1 (part_names p names) (index (made g p k names nums)) ∙ index_there 3 refl)))
        (all_with (NilOr (list ++ names)) (word v1 d 0) d (index g 3) (new_linked d d_new) (entries_before 3 refl)))
        (subst (λ (es : List Entry). AllByRecursion (NilOr (list ++ names)) (objects es)) (sym (index_is 4 refl ∙ fourth_is))
        (all_with (NilOr (list ++ names)) (word v1 c 0) c (index g 4) (new_linked c c_new) (entries_before 4 refl)))

    -- an old object that is no tree: the base assembly that changes, the module, or one that stays
    data Fate (m : ℕ) : Type 0 where
      changed : Uses (Or (NilOr list) c) (w m) → Fate m
      counting : w m ≡ Some (head old_head.id old_head.size (k * p.atomics) k old_head.assemblies old_head.manual old_head.root) → m ≡ module_of g → Fate m
      staying_so : w m ≡ v m → Fate m

    some_there : (n : ℕ) → is_among list n ≡ true → v n ≡ None → ⊥
    some_there n linked none = let there : is_some (v n) ≡ true = links.there n linked in cc (there, ap (λ (o : Option Record). is_some o) none)

    fate : (m : ℕ) → is_among (tree_slots g.roots) m ≡ false → is_among list m ≡ true → Fate m
    fate m off linked = by_test (m == b) refl (m == module_of h) refl
      where
        here : h.look m ≡ v m
        here = listed.off m off ∙ by_object (v m) refl
          where
            by_object : (o : Option Record) → v m ≡ o → v1 m ≡ v m
            by_object None is = absurd (some_there m linked is)
            by_object (Some r) is = off_names m (not_new m r is)

        changed_base : m ≡ b → NilOr (bases g) b → Fate m
        changed_base same (inl zeroth) = absurd (some_there m linked (ap v (same ∙ zeroth) ∙ design.nil))
        changed_base same (inr among) =
            let base : IsBase v (composites g) m = subst (λ (n : ℕ). IsBase v (composites g) n) (sym same) (all_among (IsBase v (composites g)) (bases g) b all_bases among) in
            let uses : Uses (λ (n : ℕ). (n ≡ 0) ⊎ (is_among (composites g) n ≡ true)) (v m) = uses_of v (composites g) m base in
            let names_before : AllByRecursion (NilOr list) (uses.one ∷ uses.two ∷ uses.three ∷ []) =
            all_from (NilOr list) (uses.one ∷ uses.two ∷ uses.three ∷ [])
            (λ n in_base. links.refers m n linked
            (ap (λ (o : Option Record). is_among (names_of listed_schema o) n) uses.is ∙ ap (λ (ns : List ℕ). is_among ns n) (names_of_base uses.id uses.date uses.one uses.two uses.three) ∙ in_base)) in
            changed (subst (λ (o : Option Record). Uses (Or (NilOr list) c) o) (sym (ap w same ∙ w_base ∙ ap (λ (n : ℕ). set_in (Reference (2 + place)) c (h.look n)) (sym same) ∙ ap (set_in (Reference (2 + place)) c) here))
            (uses_set (NilOr list) c place (v m) insertion.low (record { id = uses.id; date = uses.date; one = uses.one; two = uses.two; three = uses.three; is = uses.is; first = names_before.0; second = names_before.1.0; third = names_before.1.1.0 })))

        by_test : (s : Bool) → (m == b) ≡ s → (t : Bool) → (m == module_of h) ≡ t → Fate m
        by_test true is t same = changed_base (same_number m b is) b_cases
        by_test false is true same = let equal : m ≡ module_of g = same_number m (module_of h) same ∙ module_is in counting (ap w equal ∙ head_is) equal
        by_test false is false same = staying_so (w_off m (apart_numbers m b is) (apart_numbers m (module_of h) same) ∙ here)

    there_after : (n : ℕ) → is_among (list ++ names) n ≡ true → is_some (w n) ≡ true
    there_after n among = by_cases (or_cases (is_among list n) (is_among names n) (sym (list_any-append (λ (m : ℕ). n == m) list names) ∙ among))
      where
        by_fate : is_among list n ≡ true → Fate n → is_some (w n) ≡ true
        by_fate linked (changed uses) = ap (λ (o : Option Record). is_some o) uses.is
        by_fate linked (counting is same) = ap (λ (o : Option Record). is_some o) is
        by_fate linked (staying_so is) = ap (λ (o : Option Record). is_some o) is ∙ links.there n linked

        by_test : is_among list n ≡ true → (t : Bool) → is_among (tree_slots g.roots) n ≡ t → is_some (w n) ≡ true
        by_test linked true tree =
            all_among (λ (t : ℕ). is_some (w t) ≡ true) (tree_slots g.roots) n
            (on_trees (λ (t : ℕ). is_some (w t) ≡ true) g.roots (roots_are g.roots design.slots) (λ slot is. ap (λ (o : Option Record). is_some o) (tree_is slot is))) tree
        by_test linked false off = by_fate linked (fate n off linked)

        by_cases : (is_among list n ≡ true) ⊎ (is_among names n ≡ true) → is_some (w n) ≡ true
        by_cases (inl linked) = by_test linked (is_among (tree_slots g.roots) n) refl
        by_cases (inr new) = ap (λ (o : Option Record). is_some o) (w_new n new) ∙ placed_there v1 (composite_objects p k names nums) objects_here n (ap (λ (ns : List ℕ). is_among ns n) object_names ∙ new)

    others_lead : (m n : ℕ) → is_among (tree_slots g.roots) m ≡ false → is_among (list ++ names) m ≡ true → is_among (names_of listed_schema (w m)) n ≡ true → NilOr (list ++ names) n
    others_lead m n off among leads = by_cases (or_cases (is_among list m) (is_among names m) (sym (list_any-append (λ (j : ℕ). m == j) list names) ∙ among))
      where
        either : (j : ℕ) → Or (NilOr list) c j → NilOr (list ++ names) j
        either j (inl old) = old_linked j old
        either j (inr new) = new_linked j (ap (is_among names) new ∙ c_new)

        by_fate : is_among list m ≡ true → Fate m → NilOr (list ++ names) n
        by_fate linked (changed uses) =
            names_all (NilOr (list ++ names)) (w m) (uses.one ∷ uses.two ∷ uses.three ∷ []) (ap (names_of listed_schema) uses.is ∙ names_of_base uses.id uses.date uses.one uses.two uses.three)
            (either uses.one uses.first, (either uses.two uses.second, (either uses.three uses.third, tt))) n leads
        by_fate linked (counting is same) =
            let before : names_of listed_schema (v m) ≡ names_of listed_schema (w m) =
            ap (λ (j : ℕ). names_of listed_schema (v j)) same ∙ ap (names_of listed_schema) old_head.is
            ∙ names_of_head old_head.id old_head.size old_head.atomic old_head.composite old_head.assemblies old_head.manual old_head.root
            ∙ sym (ap (names_of listed_schema) is ∙ names_of_head old_head.id old_head.size (k * p.atomics) k old_head.assemblies old_head.manual old_head.root) in
            old_linked n (links.refers m n linked (ap (λ (ns : List ℕ). is_among ns n) before ∙ leads))
        by_fate linked (staying_so is) = old_linked n (links.refers m n linked (ap (λ (o : Option Record). is_among (names_of listed_schema o) n) (sym is) ∙ leads))

        by_cases : (is_among list m ≡ true) ⊎ (is_among names m ≡ true) → NilOr (list ++ names) n
        by_cases (inl linked) = by_fate linked (fate m off linked)
        by_cases (inr new) =
            wider names (list ++ names) (λ j new. joined_second list names j new) n
            (placed_refers names v1 (composite_objects p k names nums) objects_here (made_refers p k names nums) m n (ap (λ (ns : List ℕ). is_among ns m) object_names ∙ new)
            (ap (λ (o : Option Record). is_among (names_of listed_schema o) n) (sym (w_new m new)) ∙ leads))

    pub insertion_links : Links (list ++ names) (counted p k (used i place c h))
    insertion_links =
        subst (λ (rs : List ℕ). Links (list ++ names) (record { look = w; roots = rs })) (sym listed.roots)
        (links_again list (list ++ names) g (with_look g w) (remade_design g w design remade furnished) links refl (λ n linked. joined_first list names n linked) there_after entries_after others_lead)

  -- the design with the composite part
  pub insertion_stays : IsFlatDesign (counted p k (used i place c h))
  insertion_stays = subst (λ (rs : List ℕ). IsFlatDesign (record { look = w; roots = rs })) (sym listed.roots) (remade_design g w design remade furnished)

  pub params_stay : params_in (counted p k (used i place c h)) ≡ p
  params_stay =
      ap (λ (rs : List ℕ). params_in (record { look = w; roots = rs })) listed.roots ∙ ap (λ (n : ℕ). params_of (size_at n)) size_same ∙ insertion.params
