-- Each design is closed: its roots reach its own objects, and these lead to each other alone.
use Rattle.std.proofs.Common.{◌≡◌, ◌≤◌, ℕ, zero, suc, List, [], ◌∷◌, ◌++◌, length, Bool, true, false, cond, Option, None, Some, is_some, ◌⊎◌, inl, inr, refl, sym, arith, ap, subst, ◌∙◌, replicate}
use Rattle.std.specs.Prelude.{◌==◌, flat_map, slice_index}
use Rattle.std.specs.List.{AllByRecursion, list_any}
use Rattle.std.specs.FinMap.{get, len, keys, entries, contains_key-keys, len-entries}
use Rattle.std.specs.Ordering.{nat_cmp, eq_by_cmp}
use Rattle.std.specs.Cmp.{unsigned_ties}
use Rattle.std.proofs.lemmas.List.{length-map}
use Rattle.std.proofs.lemmas.List.Folds.{list_any-append}
use Rattle.pm3_types.specs.Record.{Record}
use Rattle.pm3_types.specs.Graph.{Part}
use Rattle.pm3_types.specs.Numbering.{is_among, names_of}
use Rattle.oo7_schema.specs.Lookup.{Look, listed_schema, word, reference, items}
use Rattle.oo7_schema.specs.Entries.{objects, list_record}
use Rattle.oo7_schema.specs.Nodes.{IsOf, tree_entries}
use Rattle.oo7_schema.specs.Flat.{Flat, listed, unless_node, index, tree_slots, roots_of, flat_part}
use Rattle.oo7_schema.specs.Members.{module_of, params_in, manual_of, places, document_of}
use Rattle.oo7_schema.specs.Walk.{depth_of}
use Rattle.oo7_schema.specs.Texts.{AreChunks, HasText}
use Rattle.oo7_schema.specs.Alike.{IsClosed}
use Rattle.oo7_schema.specs.Designs.{IsAssembly, IsConnection, IsAtomic, IsDocument, IsComposite, IsList, IsFlatDesign, IsDesign, composites, documents, atomics}
use Rattle.oo7_schema.specs.DesignLaws.{DesignsAreClosed, ReadingsAreWhole}
use Rattle.oo7_schema.proofs.Testing.{itself, same_number, or_cases, or_first, or_second}
use Rattle.oo7_schema.proofs.Holding.{counted_among, among_counted, map_as_flat}
use Rattle.oo7_schema.proofs.KeptObjects.{all_among, joined_second}
use Rattle.oo7_schema.proofs.StaysDesign.{Roots, roots_are}
use Rattle.oo7_schema.proofs.Relisting.{slots, slotted, at_slots, on_trees}
use Rattle.oo7_schema.proofs.Closing.{Leads, closed_in}
use Rattle.oo7_schema.proofs.Linking.{all_from, names_all, names_of_list}
use Rattle.oo7_schema.proofs.Referring.{module_names, manual_names, complex_names, base_names, composite_names, document_names, atomic_names, connection_names, chunk_names}

-- what an object is in a design
data Role (g : Flat) (n : ℕ) : Type 0 where
  head : n ≡ module_of g → Role g n
  tree : is_among (tree_slots g.roots) n ≡ true → Role g n
  manual : n ≡ manual_of g → Role g n
  chunk : (cs : List ℕ) → AreChunks g.look n (n ∷ cs) → Role g n
  assembly : (k : ℕ) → IsAssembly g.look (composites g) k n → Role g n
  composite : is_among (composites g) n ≡ true → Role g n
  document : (c : ℕ) → is_among (composites g) c ≡ true → n ≡ document_of g.look c → Role g n
  part : (c : ℕ) → is_among (composites g) c ≡ true → is_among (items g.look c) n ≡ true → Role g n
  connection : (c p : ℕ) → is_among (composites g) c ≡ true → is_among (items g.look c) p ≡ true → is_among (items g.look p) n ≡ true → Role g n

-- which of several gave a name
record Gave (own : ℕ → List ℕ) (cs : List ℕ) (n : ℕ) : Type 0 where
  which : ℕ
  one : is_among cs which ≡ true
  has : is_among (own which) n ≡ true

gave : (own : ℕ → List ℕ) (cs : List ℕ) (n : ℕ) → is_among (flat_map own cs) n ≡ true → Gave own cs n
gave own [] n among = cc
gave own (c ∷ cs) n among = elim (or_cases (is_among (own c) n) (is_among (flat_map own cs) n) (sym (list_any-append (λ (m : ℕ). n == m) (own c) (flat_map own cs)) ∙ among)) [
  | inl here ↦ record { which = c; one = or_first (c == c) (is_among cs c) (itself c); has = here }
  | inr later ↦
      let rest : Gave own cs n = gave own cs n later in
      record { which = rest.which; one = or_second (rest.which == c) (is_among cs rest.which) rest.one; has = rest.has }
]

all_map_of : (P Q : ℕ → Type 0) → ((n : ℕ) → P n → Q n) → (ns : List ℕ) → AllByRecursion P ns → AllByRecursion Q ns
all_map_of P Q wider [] all = tt
all_map_of P Q wider (n ∷ ns) all = (wider n all.0, all_map_of P Q wider ns all.1)

module _ (g : Flat) (design : IsFlatDesign g) where
  abbrev Has : ℕ → Type 0
  Has n = (n ≡ 0) ⊎ Role g n

  composite_at : (c : ℕ) → is_among (composites g) c ≡ true → IsComposite g.look (params_in g).atomics c
  composite_at c among = all_among (IsComposite g.look (params_in g).atomics) (composites g) c design.parts among

  part_at : (c n : ℕ) → is_among (composites g) c ≡ true → is_among (items g.look c) n ≡ true → IsAtomic g.look c n
  part_at c n one among = all_among (IsAtomic g.look c) (items g.look c) n (composite_at c one).parts among

  connection_at : (c p n : ℕ) → is_among (composites g) c ≡ true → is_among (items g.look c) p ≡ true → is_among (items g.look p) n ≡ true → IsConnection g.look (items g.look c) n
  connection_at c p n one two among = all_among (IsConnection g.look (items g.look c)) (items g.look p) n (part_at c p one two).connections among

  -- a chain begins with nil or with a chunk, and all of it are chunks
  begins : (cs : List ℕ) (n : ℕ) → AreChunks g.look n cs → Has n
  begins [] n are = inl are
  begins (c ∷ cs) n are = inr (subst (Role g) (sym are.0) (chunk cs (refl, are.1, are.2)))

  all_chunks : (cs : List ℕ) (n : ℕ) → AreChunks g.look n cs → AllByRecursion (Role g) cs
  all_chunks [] n are = tt
  all_chunks (c ∷ cs) n are = (chunk cs (refl, are.1, are.2), all_chunks cs (reference g.look c 0) are.2)

  ends : (count first last : ℕ) → HasText g.look count first last → Role g last
  ends count first last text =
      all_among (Role g) (text.before ++ last ∷ []) last (all_chunks (text.before ++ last ∷ []) first text.are) (joined_second text.before (last ∷ []) last (or_first (last == last) false (itself last)))

  -- what each object leads to
  module_leads : AllByRecursion Has (manual_of g ∷ reference g.look (module_of g) 6 ∷ [])
  module_leads = (inr (manual refl), (inr (assembly (depth_of g) design.assemblies), tt))

  assembly_leads : (k n : ℕ) → IsAssembly g.look (composites g) k n → AllByRecursion Has (places g.look n)
  assembly_leads zero n is = all_map_of (λ (c : ℕ). (c ≡ 0) ⊎ (is_among (composites g) c ≡ true)) Has used (places g.look n) is.uses
    where
      used : (c : ℕ) → (c ≡ 0) ⊎ (is_among (composites g) c ≡ true) → Has c
      used c (inl nil) = inl nil
      used c (inr among) = inr (composite among)
  assembly_leads (suc k) n is = all_map_of (IsAssembly g.look (composites g) k) Has (λ c below. inr (assembly k below)) (places g.look n) is.1

  entries_lead : (slot : ℕ) → is_among slots slot ≡ true → AllByRecursion Has (objects (index g slot))
  entries_lead = at_slots (λ (slot : ℕ). AllByRecursion Has (objects (index g slot)))
      (all_from Has (objects (index g 1)) (λ n among. a_part n (counted_among n (atomics g) (omega (arith, design.by_id.same n, among_counted n (objects (index g 1)) among)))))
      (all_from Has (objects (index g 2)) (λ n among. a_part n (counted_among n (atomics g) (omega (arith, design.by_date.same n, among_counted n (objects (index g 2)) among)))))
      (all_from Has (objects (index g 3)) (λ n among. a_document n (counted_among n (documents g) (omega (arith, design.by_title.same n, among_counted n (objects (index g 3)) among)))))
      (all_from Has (objects (index g 4)) (λ n among. inr (composite among)))
    where
      a_part : (n : ℕ) → is_among (atomics g) n ≡ true → Has n
      a_part n among = let from : Gave (items g.look) (composites g) n = gave (items g.look) (composites g) n among in inr (part from.which from.one from.has)

      a_document : (n : ℕ) → is_among (documents g) n ≡ true → Has n
      a_document n among =
          let from : Gave (λ (c : ℕ). document_of g.look c ∷ []) (composites g) n =
          gave (λ (c : ℕ). document_of g.look c ∷ []) (composites g) n (ap (λ (ns : List ℕ). is_among ns n) (sym (map_as_flat (document_of g.look) (composites g))) ∙ among) in
          inr (document from.which from.one (only n (document_of g.look from.which) from.has))
        where
          only : (n m : ℕ) → is_among (m ∷ []) n ≡ true → n ≡ m
          only n m is = elim (or_cases (n == m) false is) [ inl here ↦ same_number n m here | inr never ↦ cc ]

  list_at : (slot : ℕ) → is_among slots slot ≡ true → IsList g.look (slice_index g.roots slot)
  list_at slot is = all_among (IsList g.look) (tree_slots g.roots) (slice_index g.roots slot) design.lists ((slotted g design).among slot is)

  tree_leads : (t : ℕ) → is_among (tree_slots g.roots) t ≡ true → (n : ℕ) → is_among (names_of listed_schema (g.look t)) n ≡ true → Has n
  tree_leads t among =
      all_among (λ (t : ℕ). (n : ℕ) → is_among (names_of listed_schema (g.look t)) n ≡ true → Has n) (tree_slots g.roots) t
      (on_trees (λ (t : ℕ). (n : ℕ) → is_among (names_of listed_schema (g.look t)) n ≡ true → Has n) g.roots (roots_are g.roots design.slots)
      (λ slot is. names_all Has (g.look (slice_index g.roots slot)) (objects (index g slot)) (ap (names_of listed_schema) (list_at slot is) ∙ names_of_list (index g slot)) (entries_lead slot is))) among

  its_document : (c : ℕ) → is_among (composites g) c ≡ true → (n : ℕ) → n ≡ document_of g.look c → IsDocument g.look c n
  its_document c one n same = subst (λ (d : ℕ). IsDocument g.look c d) (sym same) (composite_at c one).document

  leads : (n : ℕ) → Role g n → (m : ℕ) → is_among (names_of listed_schema (g.look n)) m ≡ true → Has m
  leads n (head same) =
      subst (λ (k : ℕ). (m : ℕ) → is_among (names_of listed_schema (g.look k)) m ≡ true → Has m) (sym same)
      (names_all Has (g.look (module_of g)) (manual_of g ∷ reference g.look (module_of g) 6 ∷ []) (module_names g.look (module_of g) design.head.is) module_leads)
  leads n (tree among) = tree_leads n among
  leads n (manual same) =
      subst (λ (k : ℕ). (m : ℕ) → is_among (names_of listed_schema (g.look k)) m ≡ true → Has m) (sym same)
      (names_all Has (g.look (manual_of g)) (reference g.look (manual_of g) 1 ∷ reference g.look (manual_of g) 2 ∷ []) (manual_names g.look (manual_of g) design.manual.is) (
        begins (design.manual.text.before ++ reference g.look (manual_of g) 2 ∷ []) (reference g.look (manual_of g) 1) design.manual.text.are,
        (inr (ends (word g.look (manual_of g) 0) (reference g.look (manual_of g) 1) (reference g.look (manual_of g) 2) design.manual.text), tt),
      ))
  leads n (chunk cs are) =
      names_all Has (g.look n) (reference g.look n 0 ∷ []) (chunk_names g.look n are.1.is) (begins cs (reference g.look n 0) are.2, tt)
  leads n (assembly zero is) = names_all Has (g.look n) (places g.look n) (base_names g.look n is.is) (assembly_leads zero n is)
  leads n (assembly (suc k) is) = names_all Has (g.look n) (places g.look n) (complex_names g.look n is.0) (assembly_leads (suc k) n is)
  leads n (composite among) =
      names_all Has (g.look n) (document_of g.look n ∷ reference g.look n 3 ∷ items g.look n) (composite_names g.look n (composite_at n among).is) (
        inr (document n among refl),
        (inr (part n among (composite_at n among).root), all_from Has (items g.look n) (λ m has. inr (part n among has))),
      )
  leads n (document c one same) =
      let is : IsDocument g.look c n = its_document c one n same in
      names_all Has (g.look n) (reference g.look n 2 ∷ reference g.look n 3 ∷ []) (document_names g.look n is.is) (
        inr (composite (ap (is_among (composites g)) is.part ∙ one)),
        (begins (is.text.before ++ is.last ∷ []) (reference g.look n 3) is.text.are, tt),
      )
  leads n (part c one has) =
      names_all Has (g.look n) (reference g.look n 5 ∷ items g.look n) (atomic_names g.look n (part_at c n one has).is) (
        inr (composite (ap (is_among (composites g)) (part_at c n one has).part ∙ one)),
        all_from Has (items g.look n) (λ m among. inr (connection c n one has among)),
      )
  leads n (connection c p one two has) =
      names_all Has (g.look n) (reference g.look n 2 ∷ reference g.look n 3 ∷ []) (connection_names g.look n (connection_at c p n one two has).is)
      (inr (part c one (connection_at c p n one two has).from), (inr (part c one (connection_at c p n one two has).to), tt))

  of_some : (class n : ℕ) → IsOf g.look class n → is_some (g.look n) ≡ true
  of_some class n of = ap (λ (o : Option Record). is_some o) of.is

  there : (n : ℕ) → Role g n → is_some (g.look n) ≡ true
  there n (head same) = ap (λ (k : ℕ). is_some (g.look k)) same ∙ of_some 0 (module_of g) design.head.is
  there n (tree among) = ap (λ (o : Option Record). is_some o) (all_among (IsList g.look) (tree_slots g.roots) n design.lists among)
  there n (manual same) = ap (λ (k : ℕ). is_some (g.look k)) same ∙ of_some 1 (manual_of g) design.manual.is
  there n (chunk cs are) = of_some 8 n are.1.is
  there n (assembly zero is) = of_some 3 n is.is
  there n (assembly (suc k) is) = of_some 2 n is.0
  there n (composite among) = of_some 4 n (composite_at n among).is
  there n (document c one same) = of_some 5 n (its_document c one n same).is
  there n (part c one has) = of_some 6 n (part_at c n one has).is
  there n (connection c p one two has) = of_some 7 n (connection_at c p n one two has).is

  rooted : (n : ℕ) → is_among g.roots n ≡ true → Has n
  rooted n among = all_among Has g.roots n all_roots among
    where
      roots : Roots g.roots
      roots = roots_are g.roots design.slots

      at : (slot : ℕ) → is_among slots slot ≡ true → Has (slice_index g.roots slot)
      at slot is = inr (tree ((slotted g design).among slot is))

      zeros : (count : ℕ) → AllByRecursion Has (replicate count 0)
      zeros zero = tt
      zeros (suc count) = (inl refl, zeros count)

      all_roots : AllByRecursion Has g.roots
      all_roots =
          subst (AllByRecursion Has) (sym roots.are)
          (subst (λ (rs : List ℕ). AllByRecursion Has (slice_index rs 0 ∷ slice_index rs 1 ∷ slice_index rs 2 ∷ slice_index rs 3 ∷ slice_index rs 4 ∷ replicate 11 0)) roots.are
          (inr (head refl), (at 1 refl, (at 2 refl, (at 3 refl, (at 4 refl, zeros 11))))))

  design_leads : Leads (Role g) g
  design_leads = record { there = there; roots = rooted; refers = λ m n role among. leads m role n among }

  pub closed : (all : List ℕ) (count : ℕ) → ((n : ℕ) → is_some (g.look n) ≡ true → is_among all n ≡ true) → length all ≤ count → IsClosed g count
  closed all count has enough = closed_in (Role g) g design.nil design_leads all (λ n role. has n (there n role)) count enough

pub designs_are_closed : DesignsAreClosed
designs_are_closed = λ g all count design has enough. closed g design all count has enough

-- what is there of a graph with lists is there of the graph
there_before : (look : Look) (roots : List ℕ) → ((t : ℕ) → is_among (tree_slots roots) t ≡ true → is_some (look t) ≡ true) → (n : ℕ) → is_some (listed look roots n) ≡ true → is_some (look n) ≡ true
there_before look roots trees n = by_test (is_among (tree_slots roots) n) refl
  where
    plain : (o : Option Record) → is_some (unless_node o) ≡ true → is_some o ≡ true
    plain None some = cc
    plain (Some r) some = refl

    by_test : (b : Bool) → is_among (tree_slots roots) n ≡ b → is_some (listed look roots n) ≡ true → is_some (look n) ≡ true
    by_test true among some = trees n among
    by_test false among some =
        plain (look n) (ap (λ (b : Bool). is_some (cond b (Some (list_record (tree_entries look n))) (unless_node (look n)))) (sym among) ∙ some)

in_keys : (g : Part) (n : ℕ) → is_some (get g.records n) ≡ true → is_among (keys g.records) n ≡ true
in_keys g n there =
    let tests : list_any (λ (k : ℕ). n == k) (keys g.records) ≡ list_any (eq_by_cmp nat_cmp n) (keys g.records) = λ i. list_any (λ (k : ℕ). unsigned_ties n k i) (keys g.records) in
    tests ∙ sym (contains_key-keys g.records n) ∙ there

pub readings_are_whole : ReadingsAreWhole
readings_are_whole = λ g design.
    let roots : Roots (roots_of g) = roots_are (roots_of g) design.design.slots in
    closed (flat_part g) design.design (keys g.records) (len g.records)
    (λ n some. in_keys g n (there_before (get g.records) (roots_of g)
    (λ t among. all_among (λ (k : ℕ). is_some (get g.records k) ≡ true) (tree_slots (roots_of g)) t
    (on_trees (λ (k : ℕ). is_some (get g.records k) ≡ true) (roots_of g) roots (λ slot is. trees_there g design slot is)) among) n some))
    (omega (arith, length-map (entries g.records) (λ (e : ℕ × Record). e.0), len-entries g.records))
  where
    trees_there : (g : Part) → IsDesign g → (slot : ℕ) → is_among slots slot ≡ true → is_some (get g.records (slice_index (roots_of g) slot)) ≡ true
    trees_there g design = at_slots (λ (slot : ℕ). is_some (get g.records (slice_index (roots_of g) slot)) ≡ true)
        (ap (λ (o : Option Record). is_some o) (design.trees 1 (omega arith) (omega arith)).is.is) (ap (λ (o : Option Record). is_some o) (design.trees 2 (omega arith) (omega arith)).is.is)
        (ap (λ (o : Option Record). is_some o) (design.trees 3 (omega arith) (omega arith)).is.is) (ap (λ (o : Option Record). is_some o) (design.trees 4 (omega arith) (omega arith)).is.is)
