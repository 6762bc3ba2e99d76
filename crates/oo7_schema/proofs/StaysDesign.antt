-- A design in which words of atomic parts were changed, each within its bounds, and the list by date with them, is a design.
use Rattle.std.proofs.Common.{◌≡◌, ◌-◌, ◌<◌, ◌≤◌, ℕ, List, [], ◌∷◌, ◌++◌, length, true, Option, None, Some, inl, inr, refl, sym, arith, ap, subst, ◌∙◌, map, drop, replicate}
use Rattle.std.specs.Prelude.{◌==◌, flat_map, slice_index, unwrap_or}
use Rattle.std.specs.List.{AllByRecursion}
use Rattle.std.proofs.lemmas.List.Folds.{list_any-append}
use Rattle.pm3_types.specs.declared.places.Place.TheVariants.{Word, Reference}
use Rattle.pm3_types.specs.Record.{Record}
use Rattle.pm3_types.specs.Numbering.{is_among}
use Rattle.oo7_schema.specs.declared.sizes.Params.{Params}
use Rattle.oo7_schema.specs.Sizes.{params_of, size_at}
use Rattle.oo7_schema.specs.Lookup.{Look, class_in, class_of, value_in, word, items}
use Rattle.oo7_schema.specs.Entries.{objects, list_record, entries_in, entries_at, times, Once, Holds}
use Rattle.oo7_schema.specs.Flat.{Flat, index, with_look, tree_slots}
use Rattle.oo7_schema.specs.Members.{module_of, params_in, manual_of, design_root, document_of, build_date}
use Rattle.oo7_schema.specs.Walk.{assemblies_under, depth_of}
use Rattle.oo7_schema.specs.Changes.{most_composites, most_atomics}
use Rattle.oo7_schema.specs.Nearness.{Near, Bounded, NearDesignsStay}
use Rattle.oo7_schema.specs.Designs.{IsModule, IsManual, IsAssembly, IsAtomic, IsComposite, IsList, IsFlatDesign, composites, documents, atomics}
use Rattle.oo7_schema.proofs.NearDesign.{same_at, of_same, manual_near, assembly_near, assemblies_same, composite_items, composite_near, atomic_id}
use Rattle.oo7_schema.proofs.Testing.{same_number, or_cases}
use Rattle.oo7_schema.proofs.Holding.{in_front, no_less, holds_again}

-- the tree in the middle is none of the others
other_trees : (a b c d : ℕ) → Once (a ∷ b ∷ c ∷ d ∷ []) → (a ≡ b → ⊥) × ((c ≡ b → ⊥) × (d ≡ b → ⊥))
other_trees a b c d once =
    let most : times b (a ∷ b ∷ c ∷ d ∷ []) ≤ 1 = once b in (
      λ same. absurd (omega (arith, most, in_front b a (b ∷ c ∷ d ∷ []) same, in_front b b (c ∷ d ∷ []) refl)),
      (
        λ same. absurd (omega (arith, most, no_less b a (b ∷ c ∷ d ∷ []), in_front b b (c ∷ d ∷ []) refl, in_front b c (d ∷ []) same)),
        λ same. absurd (omega (arith, most, no_less b a (b ∷ c ∷ d ∷ []), in_front b b (c ∷ d ∷ []) refl, no_less b c (d ∷ []), in_front b d [] same)),
      ),
    )

-- five roots, and nothing behind them
pub record Roots (roots : List ℕ) : Type 0 where
  pub head : ℕ
  pub first : ℕ
  pub second : ℕ
  pub third : ℕ
  pub fourth : ℕ
  pub are : roots ≡ head ∷ first ∷ second ∷ third ∷ fourth ∷ replicate 11 0

no_roots : (xs : List ℕ) → length xs ≡ 0 → xs ≡ replicate 11 0 → ⊥
no_roots xs none same = let long : length xs ≡ 11 = ap (λ (l : List ℕ). length l) same in absurd (omega (arith, none, long))

-- a class is one, and nothing has none
one_class : (o : Option ℕ) → o ≡ Some 12 → o ≡ Some 6 → ⊥
one_class o list part =
    let twelve : unwrap_or o 0 ≡ 12 = ap (λ (c : Option ℕ). unwrap_or c 0) list in
    let six : unwrap_or o 0 ≡ 6 = ap (λ (c : Option ℕ). unwrap_or c 0) part in
    absurd (omega (arith, twelve, six))

some_class : (o : Option ℕ) → o ≡ None → o ≡ Some 6 → ⊥
some_class o none part = cc

pub roots_are : (roots : List ℕ) → drop 5 roots ≡ replicate 11 0 → Roots roots
roots_are [] slots = absurd (no_roots [] refl slots)
roots_are (a ∷ []) slots = absurd (no_roots [] refl slots)
roots_are (a ∷ b ∷ []) slots = absurd (no_roots [] refl slots)
roots_are (a ∷ b ∷ c ∷ []) slots = absurd (no_roots [] refl slots)
roots_are (a ∷ b ∷ c ∷ d ∷ []) slots = absurd (no_roots [] refl slots)
roots_are (a ∷ b ∷ c ∷ d ∷ e ∷ rest) slots = record { head = a; first = b; second = c; third = d; fourth = e; are = λ i. a ∷ b ∷ c ∷ d ∷ e ∷ slots i }

-- the composite part to which an atomic part belongs
pub record Owned (look : Look) (n : ℕ) : Type 0 where
  pub owner : ℕ
  pub is : IsAtomic look owner n

pub among_atomics : (look : Look) (parts : ℕ) (cs : List ℕ) (n : ℕ) → AllByRecursion (IsComposite look parts) cs → is_among (flat_map (items look) cs) n ≡ true → Owned look n
among_atomics look parts [] n all is = cc
among_atomics look parts (c ∷ cs) n all is =
    elim (or_cases (is_among (items look c) n) (is_among (flat_map (items look) cs) n) (sym (list_any-append (λ (m : ℕ). n == m) (items look c) (flat_map (items look) cs)) ∙ is)) [
      | inl here ↦ record { owner = c; is = every (IsAtomic look c) (items look c) all.0.parts here }
      | inr later ↦ among_atomics look parts cs n all.1 later
    ]
  where
    every : (P : ℕ → Type 0) (xs : List ℕ) → AllByRecursion P xs → is_among xs n ≡ true → P n
    every P [] each among = cc
    every P (x ∷ xs) each among = elim (or_cases (n == x) (is_among xs n) among) [
      | inl here ↦ subst P (sym (same_number n x here)) each.0
      | inr later ↦ every P xs each.1 later
    ]

pub lists_of : (g : Flat) → IsFlatDesign g → AllByRecursion (IsList g.look) (slice_index g.roots 1 ∷ slice_index g.roots 2 ∷ slice_index g.roots 3 ∷ slice_index g.roots 4 ∷ [])
lists_of g design =
    let roots : Roots g.roots = roots_are g.roots design.slots in
    subst (λ (rs : List ℕ). AllByRecursion (IsList g.look) (slice_index rs 1 ∷ slice_index rs 2 ∷ slice_index rs 3 ∷ slice_index rs 4 ∷ [])) (sym roots.are)
    (subst (λ (rs : List ℕ). AllByRecursion (IsList g.look) (tree_slots rs)) roots.are design.lists)

-- the tree by date of a design is a list
pub date_list : (g : Flat) → IsFlatDesign g → IsList g.look (slice_index g.roots 2)
date_list g design = (lists_of g design).1.0

module _ (g : Flat) (w : Look) (design : IsFlatDesign g) (near : Near (slice_index g.roots 2) g.look w)
    (listed : IsList w (slice_index g.roots 2)) (dates : Holds (build_date w) (atomics g) (entries_at w (slice_index g.roots 2)))
    (bounds : (c p : ℕ) → IsAtomic g.look c p → Bounded w p) where
  roots : Roots g.roots
  roots = roots_are g.roots design.slots

  pub lists : AllByRecursion (IsList g.look) (slice_index g.roots 1 ∷ slice_index g.roots 2 ∷ slice_index g.roots 3 ∷ slice_index g.roots 4 ∷ [])
  lists =
      subst (λ (rs : List ℕ). AllByRecursion (IsList g.look) (slice_index rs 1 ∷ slice_index rs 2 ∷ slice_index rs 3 ∷ slice_index rs 4 ∷ [])) (sym roots.are)
      (subst (λ (rs : List ℕ). AllByRecursion (IsList g.look) (tree_slots rs)) roots.are design.lists)

  apart : Once (slice_index g.roots 1 ∷ slice_index g.roots 2 ∷ slice_index g.roots 3 ∷ slice_index g.roots 4 ∷ [])
  apart =
      subst (λ (rs : List ℕ). Once (slice_index rs 1 ∷ slice_index rs 2 ∷ slice_index rs 3 ∷ slice_index rs 4 ∷ [])) (sym roots.are)
      (subst (λ (rs : List ℕ). Once (tree_slots rs)) roots.are design.apart)

  others : (slice_index g.roots 1 ≡ slice_index g.roots 2 → ⊥) × ((slice_index g.roots 3 ≡ slice_index g.roots 2 → ⊥) × (slice_index g.roots 4 ≡ slice_index g.roots 2 → ⊥))
  others = other_trees (slice_index g.roots 1) (slice_index g.roots 2) (slice_index g.roots 3) (slice_index g.roots 4) apart

  tree_same : (t : ℕ) → (t ≡ slice_index g.roots 2 → ⊥) → IsList g.look t → w t ≡ g.look t
  tree_same t other list = near.same t other (λ six. one_class (class_of g.look t) (ap class_in list) six)

  first_same : w (slice_index g.roots 1) ≡ g.look (slice_index g.roots 1)
  first_same = tree_same (slice_index g.roots 1) others.0 lists.0

  third_same : w (slice_index g.roots 3) ≡ g.look (slice_index g.roots 3)
  third_same = tree_same (slice_index g.roots 3) others.1.0 lists.1.1.0

  fourth_same : w (slice_index g.roots 4) ≡ g.look (slice_index g.roots 4)
  fourth_same = tree_same (slice_index g.roots 4) others.1.1 lists.1.1.1.0

  list_near : (t : ℕ) → w t ≡ g.look t → IsList g.look t → IsList w t
  list_near t same list = same ∙ list ∙ ap (λ (o : Option Record). Some (list_record (entries_in o))) (sym same)

  lists_near : AllByRecursion (IsList w) (tree_slots g.roots)
  lists_near =
      subst (λ (rs : List ℕ). AllByRecursion (IsList w) (tree_slots rs)) (sym roots.are)
      (subst (λ (rs : List ℕ). AllByRecursion (IsList w) (slice_index rs 1 ∷ slice_index rs 2 ∷ slice_index rs 3 ∷ slice_index rs 4 ∷ [])) roots.are (
        list_near (slice_index g.roots 1) first_same lists.0,
        (
          listed,
          (
            list_near (slice_index g.roots 3) third_same lists.1.1.0,
            (list_near (slice_index g.roots 4) fourth_same lists.1.1.1.0, tt),
          ),
        ),
      ))

  composites_same : composites (with_look g w) ≡ composites g
  composites_same = ap (λ (o : Option Record). objects (entries_in o)) fourth_same

  head_same : w (module_of g) ≡ g.look (module_of g)
  head_same = same_at (slice_index g.roots 2) g.look w near (entries_at g.look (slice_index g.roots 2)) lists.1.0 0 (module_of g) design.head.is refl refl

  params_same : params_in (with_look g w) ≡ params_in g
  params_same = ap (λ (o : Option Record). params_of (size_at (value_in o (Word 1)))) head_same

  documents_of : (cs : List ℕ) → AllByRecursion (IsComposite g.look (params_in g).atomics) cs → map (document_of w) cs ≡ map (document_of g.look) cs
  documents_of [] all = refl
  documents_of (c ∷ cs) all =
      λ i. value_in (same_at (slice_index g.roots 2) g.look w near (entries_at g.look (slice_index g.roots 2)) lists.1.0 4 c all.0.is refl refl i) (Reference 2) ∷ documents_of cs all.1 i

  atomics_of : (cs : List ℕ) → AllByRecursion (IsComposite g.look (params_in g).atomics) cs → flat_map (items w) cs ≡ flat_map (items g.look) cs
  atomics_of [] all = refl
  atomics_of (c ∷ cs) all =
      λ i. composite_items (slice_index g.roots 2) g.look w near (entries_at g.look (slice_index g.roots 2)) lists.1.0 (params_in g).atomics c all.0 i ++ atomics_of cs all.1 i

  documents_same : documents (with_look g w) ≡ documents g
  documents_same = ap (λ (cs : List ℕ). map (document_of w) cs) composites_same ∙ documents_of (composites g) design.parts

  pub atomics_same : atomics (with_look g w) ≡ atomics g
  atomics_same = ap (λ (cs : List ℕ). flat_map (items w) cs) composites_same ∙ atomics_of (composites g) design.parts

  composites_near : (cs : List ℕ) → AllByRecursion (IsComposite g.look (params_in g).atomics) cs → AllByRecursion (IsComposite w (params_in g).atomics) cs
  composites_near [] all = tt
  composites_near (c ∷ cs) all =
      (composite_near (slice_index g.roots 2) g.look w near (entries_at g.look (slice_index g.roots 2)) lists.1.0 (params_in g).atomics c (bounds c) all.0, composites_near cs all.1)

  composite_word : (cs : List ℕ) → AllByRecursion (IsComposite g.look (params_in g).atomics) cs → (n : ℕ) → is_among cs n ≡ true → word w n 0 ≡ word g.look n 0
  composite_word [] all n is = cc
  composite_word (c ∷ cs) all n is = elim (or_cases (n == c) (is_among cs n) is) [
    | inl here ↦
        let same : n ≡ c = same_number n c here in
        let at : word w c 0 ≡ word g.look c 0 = ap (λ (o : Option Record). value_in o (Word 0)) (same_at (slice_index g.roots 2) g.look w near (entries_at g.look (slice_index g.roots 2)) lists.1.0 4 c all.0.is refl refl) in
        subst (λ (m : ℕ). word w m 0 ≡ word g.look m 0) (sym same) at
    | inr later ↦ composite_word cs all.1 n later
  ]

  document_word : (cs : List ℕ) → AllByRecursion (IsComposite g.look (params_in g).atomics) cs → (n : ℕ) → is_among (map (document_of g.look) cs) n ≡ true → word w n 0 ≡ word g.look n 0
  document_word [] all n is = cc
  document_word (c ∷ cs) all n is = elim (or_cases (n == document_of g.look c) (is_among (map (document_of g.look) cs) n) is) [
    | inl here ↦
        let same : n ≡ document_of g.look c = same_number n (document_of g.look c) here in
        let at : word w (document_of g.look c) 0 ≡ word g.look (document_of g.look c) 0 =
        ap (λ (o : Option Record). value_in o (Word 0)) (same_at (slice_index g.roots 2) g.look w near (entries_at g.look (slice_index g.roots 2)) lists.1.0 5 (document_of g.look c) all.0.document.is refl refl) in
        subst (λ (m : ℕ). word w m 0 ≡ word g.look m 0) (sym same) at
    | inr later ↦ document_word cs all.1 n later
  ]

  atomic_word : (n : ℕ) → is_among (atomics g) n ≡ true → word w n 0 ≡ word g.look n 0
  atomic_word n is =
      let owned : Owned g.look n = among_atomics g.look (params_in g).atomics (composites g) n design.parts is in
      atomic_id (slice_index g.roots 2) g.look w near (entries_at g.look (slice_index g.roots 2)) lists.1.0 owned.owner n owned.is

  module_near : IsModule (with_look g w)
  module_near = record {
    is = of_same (slice_index g.roots 2) g.look w near (entries_at g.look (slice_index g.roots 2)) lists.1.0 0 (module_of g) design.head.is refl refl;
    size = subst (λ (o : Option Record). value_in o (Word 1) < 5) (sym head_same) design.head.size;
    some_atomic = subst (λ (o : Option Record). 1 ≤ value_in o (Word 2)) (sym head_same) design.head.some_atomic;
    few_atomic = subst (λ (o : Option Record). value_in o (Word 2) ≤ most_atomics) (sym head_same) design.head.few_atomic;
    some_composite = subst (λ (o : Option Record). 1 ≤ value_in o (Word 3)) (sym head_same) design.head.some_composite;
    few_composite = subst (λ (o : Option Record). value_in o (Word 3) ≤ most_composites) (sym head_same) design.head.few_composite;
  }

  nil_apart : 0 ≡ slice_index g.roots 2 → ⊥
  nil_apart same =
      let there : g.look 0 ≡ Some (list_record (entries_at g.look (slice_index g.roots 2))) = ap g.look same ∙ lists.1.0 in
      cc (design.nil, there)

  pub stays : IsFlatDesign (with_look g w)
  stays = record {
    nil = near.same 0 nil_apart (λ six. some_class (class_of g.look 0) (ap class_in design.nil) six) ∙ design.nil;
    slots = design.slots;
    apart = design.apart;
    lists = lists_near;
    head = module_near;
    manual = subst (λ (o : Option Record). IsManual w (value_in o (Reference 5))) (sym head_same)
        (manual_near (slice_index g.roots 2) g.look w near (entries_at g.look (slice_index g.roots 2)) lists.1.0 (manual_of g) design.manual);
    assemblies = subst (λ (cs : List ℕ). IsAssembly w cs (depth_of (with_look g w)) (design_root (with_look g w))) (sym composites_same)
        (subst (λ (o : Option Record). IsAssembly w (composites g) ((params_of (size_at (value_in o (Word 1)))).levels - 1) (value_in o (Reference 6))) (sym head_same)
        (assembly_near (slice_index g.roots 2) g.look w near (entries_at g.look (slice_index g.roots 2)) lists.1.0 (composites g) (depth_of g) (design_root g) design.assemblies));
    tree = subst (λ (o : Option Record). Once (assemblies_under w ((params_of (size_at (value_in o (Word 1)))).levels - 1) (value_in o (Reference 6)))) (sym head_same)
        (subst Once (sym (assemblies_same (slice_index g.roots 2) g.look w near (entries_at g.look (slice_index g.roots 2)) lists.1.0 (composites g) (depth_of g) (design_root g) design.assemblies)) design.tree);
    parts = subst (λ (p : Params). AllByRecursion (IsComposite w p.atomics) (composites (with_look g w))) (sym params_same)
        (subst (λ (cs : List ℕ). AllByRecursion (IsComposite w (params_in g).atomics) cs) (sym composites_same) (composites_near (composites g) design.parts));
    once_composites = subst Once (sym composites_same) design.once_composites;
    once_documents = subst Once (sym documents_same) design.once_documents;
    once_atomics = subst Once (sym atomics_same) design.once_atomics;
    by_id = subst (λ (ns : List ℕ). Holds (λ (n : ℕ). word w n 0) ns (index (with_look g w) 1)) (sym atomics_same)
        (subst (λ (o : Option Record). Holds (λ (n : ℕ). word w n 0) (atomics g) (entries_in o)) (sym first_same)
        (holds_again (λ (n : ℕ). word g.look n 0) (λ (n : ℕ). word w n 0) (atomics g) (index g 1) atomic_word design.by_id));
    by_date = subst (λ (ns : List ℕ). Holds (build_date w) ns (index (with_look g w) 2)) (sym atomics_same) dates;
    by_title = subst (λ (ns : List ℕ). Holds (λ (n : ℕ). word w n 0) ns (index (with_look g w) 3)) (sym documents_same)
        (subst (λ (o : Option Record). Holds (λ (n : ℕ). word w n 0) (documents g) (entries_in o)) (sym third_same)
        (holds_again (λ (n : ℕ). word g.look n 0) (λ (n : ℕ). word w n 0) (documents g) (index g 3) (document_word (composites g) design.parts) design.by_title));
    by_composite = subst (λ (ns : List ℕ). Holds (λ (n : ℕ). word w n 0) ns (index (with_look g w) 4)) (sym composites_same)
        (subst (λ (o : Option Record). Holds (λ (n : ℕ). word w n 0) (composites g) (entries_in o)) (sym fourth_same)
        (holds_again (λ (n : ℕ). word g.look n 0) (λ (n : ℕ). word w n 0) (composites g) (index g 4) (composite_word (composites g) design.parts) design.by_composite));
  }

pub near_designs_stay : NearDesignsStay
near_designs_stay = λ g w design near listed dates bounds. stays g w design near listed dates bounds
