-- A design of which all stays but the module's words, the parts of base assemblies and the trees is a design where these are right.
use Rattle.std.proofs.Common.{◌≡◌, ◌-◌, ◌^◌, ◌<◌, ◌≤◌, ℕ, List, [], ◌∷◌, true, Option, None, refl, sym, ap, subst, ◌∙◌, map}
use Rattle.std.specs.Prelude.{◌==◌, flat_map}
use Rattle.std.specs.List.{AllByRecursion}
use Rattle.pm3_types.specs.declared.places.Place.TheVariants.{Word}
use Rattle.pm3_types.specs.Record.{Record}
use Rattle.pm3_types.specs.Numbering.{is_among}
use Rattle.oo7_schema.specs.declared.sizes.Params.{Params}
use Rattle.oo7_schema.specs.Sizes.{params_of, size_at}
use Rattle.oo7_schema.specs.Lookup.{Look, value_in, word, items}
use Rattle.oo7_schema.specs.Entries.{Holds, Once}
use Rattle.oo7_schema.specs.Nodes.{IsOf}
use Rattle.oo7_schema.specs.Flat.{Flat, index, with_look, tree_slots}
use Rattle.oo7_schema.specs.Members.{size_number, params_in, manual_of, design_root, document_of, build_date}
use Rattle.oo7_schema.specs.Walk.{assemblies_under, bases, depth_of}
use Rattle.oo7_schema.specs.Nearness.{NearAtomic, Bounded}
use Rattle.oo7_schema.specs.Designs.{IsModule, IsManual, IsBase, IsAssembly, IsAtomic, IsComposite, IsList, IsFlatDesign, composites, documents, atomics}
use Rattle.oo7_schema.proofs.Testing.{or_second}
use Rattle.oo7_schema.proofs.KeptObjects.{all_among, staying, manual_kept, assembly_kept, assemblies_kept, composite_kept, documents_kept, atomics_kept}
use Rattle.oo7_schema.proofs.StaysDesign.{among_atomics}
use Rattle.oo7_schema.proofs.Swapping.{all_flat, all_map}

-- what insertions and deletions leave as it was
pub record Remade (g : Flat) (w : Look) : Type 0 where
  pub nil : w 0 ≡ None
  pub same : (c n : ℕ) → IsOf g.look c n → is_among (6 ∷ staying) c ≡ true → w n ≡ g.look n
  pub head : IsModule (with_look g w)
  pub size : size_number (with_look g w) ≡ size_number g
  pub manual : manual_of (with_look g w) ≡ manual_of g
  pub root : design_root (with_look g w) ≡ design_root g
  pub lists : AllByRecursion (IsList w) (tree_slots g.roots)
  pub bases : (b : ℕ) → is_among (bases g) b ≡ true → IsBase g.look (composites g) b → IsBase w (composites (with_look g w)) b

-- and the parts that there then are
pub record Furnished (g : Flat) (w : Look) : Type 0 where
  pub parts : AllByRecursion (IsComposite w (params_in g).atomics) (composites (with_look g w))
  pub once_composites : Once (composites (with_look g w))
  pub once_documents : Once (documents (with_look g w))
  pub once_atomics : Once (atomics (with_look g w))
  pub by_id : Holds (λ (n : ℕ). word w n 0) (atomics (with_look g w)) (index (with_look g w) 1)
  pub by_date : Holds (build_date w) (atomics (with_look g w)) (index (with_look g w) 2)
  pub by_title : Holds (λ (n : ℕ). word w n 0) (documents (with_look g w)) (index (with_look g w) 3)
  pub by_composite : Holds (λ (n : ℕ). word w n 0) (composites (with_look g w)) (index (with_look g w) 4)

-- the classes of composite parts, of their documents and of their atomic parts
pub composites_of : (look : Look) (atomics : ℕ) (cs : List ℕ) → AllByRecursion (IsComposite look atomics) cs → AllByRecursion (IsOf look 4) cs
composites_of look atomics [] all = tt
composites_of look atomics (c ∷ cs) all = (all.0.is, composites_of look atomics cs all.1)

pub documents_of : (look : Look) (atomics : ℕ) (cs : List ℕ) → AllByRecursion (IsComposite look atomics) cs → AllByRecursion (IsOf look 5) (map (document_of look) cs)
documents_of look atomics cs all = all_map (IsComposite look atomics) (IsOf look 5) (document_of look) (λ c composite. composite.document.is) cs all

pub atomics_of : (look : Look) (atomics : ℕ) (cs : List ℕ) → AllByRecursion (IsComposite look atomics) cs → AllByRecursion (IsOf look 6) (flat_map (items look) cs)
atomics_of look atomics cs all =
    all_flat (IsComposite look atomics) (IsOf look 6) (items look) (λ c composite. classes c (items look c) composite.parts) cs all
  where
    classes : (c : ℕ) (ps : List ℕ) → AllByRecursion (IsAtomic look c) ps → AllByRecursion (IsOf look 6) ps
    classes c [] each = tt
    classes c (p ∷ ps) each = (each.0.is, classes c ps each.1)

-- objects that stay, atomic parts among them, keep all that is told of them
module _ (v w : Look) (same : (c n : ℕ) → IsOf v c n → is_among (6 ∷ staying) c ≡ true → w n ≡ v n) where
  pub stay : (c n : ℕ) → IsOf v c n → is_among staying c ≡ true → w n ≡ v n
  stay c n of among = same c n of (or_second (c == 6) (is_among staying c) among)

  pub part_stays : (n : ℕ) → IsOf v 6 n → NearAtomic (v n) (w n)
  part_stays n of = record { old = of.object; new = of.object; was = of.is; is = same 6 n of refl ∙ of.is; class = refl; long = refl; id = refl; part = refl; tail = refl }

  part_same : (c n : ℕ) → IsAtomic v c n → w n ≡ v n
  part_same c n atomic = same 6 n atomic.is refl

  bounds_stay : (c n : ℕ) → IsAtomic v c n → Bounded w n
  bounds_stay c n atomic = record {
    dated = subst (λ (o : Option Record). 1 ≤ value_in o (Word 2)) (sym (part_same c n atomic)) atomic.dated;
    early = subst (λ (o : Option Record). value_in o (Word 2) ≤ 2 ^ 64 - 2) (sym (part_same c n atomic)) atomic.early;
    x = subst (λ (o : Option Record). value_in o (Word 3) < 100000) (sym (part_same c n atomic)) atomic.x;
    y = subst (λ (o : Option Record). value_in o (Word 4) < 100000) (sym (part_same c n atomic)) atomic.y;
  }

  pub composite_stays : (atomics n : ℕ) → IsComposite v atomics n → IsComposite w atomics n
  composite_stays atomics n composite = composite_kept v w stay part_stays atomics n (bounds_stay n) composite

  pub composites_stay : (atomics : ℕ) (cs : List ℕ) → AllByRecursion (IsComposite v atomics) cs → AllByRecursion (IsComposite w atomics) cs
  composites_stay atomics [] all = tt
  composites_stay atomics (c ∷ cs) all = (composite_stays atomics c all.0, composites_stay atomics cs all.1)

  pub documents_stay : (atomics : ℕ) (cs : List ℕ) → AllByRecursion (IsComposite v atomics) cs → map (document_of w) cs ≡ map (document_of v) cs
  documents_stay = documents_kept v w stay part_stays

  pub atomics_stay : (atomics : ℕ) (cs : List ℕ) → AllByRecursion (IsComposite v atomics) cs → flat_map (items w) cs ≡ flat_map (items v) cs
  atomics_stay = atomics_kept v w stay part_stays

  -- the words under which a composite part, its document and its atomic parts stand in the trees
  pub composite_word : (atomics : ℕ) (cs : List ℕ) → AllByRecursion (IsComposite v atomics) cs → (n : ℕ) → is_among cs n ≡ true → word w n 0 ≡ word v n 0
  composite_word atomics cs all n is = ap (λ (o : Option Record). value_in o (Word 0)) (same 4 n (all_among (IsComposite v atomics) cs n all is).is refl)

  pub document_word : (atomics : ℕ) (cs : List ℕ) → AllByRecursion (IsComposite v atomics) cs → (n : ℕ) → is_among (map (document_of v) cs) n ≡ true → word w n 0 ≡ word v n 0
  document_word atomics cs all n is =
      ap (λ (o : Option Record). value_in o (Word 0)) (same 5 n (all_among (IsOf v 5) (map (document_of v) cs) n (documents_of v atomics cs all) is) refl)

  pub atomic_word : (atomics f : ℕ) (cs : List ℕ) → AllByRecursion (IsComposite v atomics) cs → (n : ℕ) → is_among (flat_map (items v) cs) n ≡ true → word w n f ≡ word v n f
  atomic_word atomics f cs all n is = ap (λ (o : Option Record). value_in o (Word f)) (same 6 n (among_atomics v atomics cs n all is).is.is refl)

module _ (g : Flat) (w : Look) (design : IsFlatDesign g) (remade : Remade g w) (furnished : Furnished g w) where
  params_same : params_in (with_look g w) ≡ params_in g
  params_same = ap (λ (number : ℕ). params_of (size_at number)) remade.size

  pub remade_design : IsFlatDesign (with_look g w)
  remade_design = record {
    nil = remade.nil;
    slots = design.slots;
    apart = design.apart;
    lists = remade.lists;
    head = remade.head;
    manual = subst (λ (n : ℕ). IsManual w n) (sym remade.manual) (manual_kept g.look w (stay g.look w remade.same) (part_stays g.look w remade.same) (manual_of g) design.manual);
    assemblies = subst (λ (p : Params). IsAssembly w (composites (with_look g w)) (p.levels - 1) (design_root (with_look g w))) (sym params_same)
        (subst (λ (n : ℕ). IsAssembly w (composites (with_look g w)) (depth_of g) n) (sym remade.root)
        (assembly_kept g.look w (stay g.look w remade.same) (part_stays g.look w remade.same) (composites g) (composites (with_look g w)) (depth_of g) (design_root g) remade.bases design.assemblies));
    tree = subst (λ (p : Params). Once (assemblies_under w (p.levels - 1) (design_root (with_look g w)))) (sym params_same)
        (subst (λ (n : ℕ). Once (assemblies_under w (depth_of g) n)) (sym remade.root)
        (subst Once (sym (assemblies_kept g.look w (stay g.look w remade.same) (part_stays g.look w remade.same) (composites g) (depth_of g) (design_root g) design.assemblies)) design.tree));
    parts = subst (λ (p : Params). AllByRecursion (IsComposite w p.atomics) (composites (with_look g w))) (sym params_same) furnished.parts;
    once_composites = furnished.once_composites;
    once_documents = furnished.once_documents;
    once_atomics = furnished.once_atomics;
    by_id = furnished.by_id;
    by_date = furnished.by_date;
    by_title = furnished.by_title;
    by_composite = furnished.by_composite;
  }
