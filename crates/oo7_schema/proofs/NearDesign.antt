-- A graph in which dates, x and y of atomic parts alone were changed is a design still.
use Rattle.std.proofs.Common.{◌≡◌, ℕ, List, true, false, Option, Some, ◌⊎◌, refl, sym, ap, subst, ◌∙◌}
use Rattle.std.specs.Prelude.{◌==◌}
use Rattle.std.specs.List.{AllByRecursion}
use Rattle.pm3_types.specs.Record.{Record}
use Rattle.pm3_types.specs.Numbering.{is_among}
use Rattle.oo7_schema.specs.Lookup.{Look, class_in, class_of, word, items}
use Rattle.oo7_schema.specs.Entries.{Entry, list_record}
use Rattle.oo7_schema.specs.Nodes.{IsOf}
use Rattle.oo7_schema.specs.Walk.{assemblies_under, parts_of}
use Rattle.oo7_schema.specs.Nearness.{NearAtomic, Near, Bounded, NearDesignsKeep}
use Rattle.oo7_schema.specs.Designs.{IsManual, IsBase, IsAssembly, IsAtomic, IsComposite}
use Rattle.oo7_schema.proofs.KeptObjects.{all_among, class_is, places_in, staying, manual_kept, assembly_kept, assemblies_kept, items_kept, composite_kept, visit_kept, id_kept}
use Rattle.oo7_schema.proofs.Testing.{apart_numbers}

module _ (t : ℕ) (v w : Look) (near : Near t v w) (es : List Entry) (tree : v t ≡ Some (list_record es)) where
  off : (c n : ℕ) → IsOf v c n → (c == 12) ≡ false → n ≡ t → ⊥
  off c n of apart same =
      let here : class_of v n ≡ Some 12 = ap (class_of v) same ∙ ap class_in tree in
      let both : Some c ≡ Some 12 = sym (class_is v c n of) ∙ here in
      let twelve : c ≡ 12 = cc in
      apart_numbers c 12 apart twelve

  pub same_at : (c n : ℕ) → IsOf v c n → (c == 12) ≡ false → (c == 6) ≡ false → w n ≡ v n
  same_at c n of apart other = near.same n (off c n of apart) (λ six. not_six six)
    where
      not_six : class_of v n ≡ Some 6 → ⊥
      not_six six =
          let both : Some c ≡ Some 6 = sym (class_is v c n of) ∙ six in
          let same : c ≡ 6 = cc in
          apart_numbers c 6 other same

  pub of_same : (c n : ℕ) → IsOf v c n → (c == 12) ≡ false → (c == 6) ≡ false → IsOf w c n
  of_same c n of apart other = record { object = of.object; is = same_at c n of apart other ∙ of.is; of = of.of; fits = of.fits }

  part_at : (n : ℕ) → IsOf v 6 n → NearAtomic (v n) (w n)
  part_at n of = near.atomic n (off 6 n of refl) (class_is v 6 n of)

  kept : (c n : ℕ) → IsOf v c n → is_among staying c ≡ true → w n ≡ v n
  kept c n of among =
      same_at c n of (all_among (λ (k : ℕ). (k == 12) ≡ false) staying c (refl, (refl, (refl, (refl, (refl, (refl, tt)))))) among)
      (all_among (λ (k : ℕ). (k == 6) ≡ false) staying c (refl, (refl, (refl, (refl, (refl, (refl, tt)))))) among)

  base_near : (parts : List ℕ) (n : ℕ) → IsBase v parts n → IsBase w parts n
  base_near parts n base = record {
    is = of_same 3 n base.is refl refl;
    uses = subst (λ (o : Option Record). AllByRecursion (λ (c : ℕ). (c ≡ 0) ⊎ (is_among parts c ≡ true)) (places_in o)) (sym (same_at 3 n base.is refl refl)) base.uses;
  }

  pub manual_near : (n : ℕ) → IsManual v n → IsManual w n
  manual_near = manual_kept v w kept part_at

  pub assembly_near : (parts : List ℕ) (k n : ℕ) → IsAssembly v parts k n → IsAssembly w parts k n
  assembly_near parts k n is = assembly_kept v w kept part_at parts parts k n (λ b among base. base_near parts b base) is

  pub assemblies_same : (parts : List ℕ) (k n : ℕ) → IsAssembly v parts k n → assemblies_under w k n ≡ assemblies_under v k n
  assemblies_same = assemblies_kept v w kept part_at

  pub composite_items : (atomics n : ℕ) → IsComposite v atomics n → items w n ≡ items v n
  composite_items = items_kept v w kept part_at

  pub composite_near : (atomics n : ℕ) → ((p : ℕ) → IsAtomic v n p → Bounded w p) → IsComposite v atomics n → IsComposite w atomics n
  composite_near = composite_kept v w kept part_at

  pub visit_same : (atomics n : ℕ) → IsComposite v atomics n → parts_of w atomics n ≡ parts_of v atomics n
  visit_same = visit_kept v w kept part_at

  pub atomic_id : (c n : ℕ) → IsAtomic v c n → word w n 0 ≡ word v n 0
  atomic_id = id_kept v w kept part_at

pub near_designs_keep : NearDesignsKeep
near_designs_keep = λ t v w es near tree. record {
  manual = λ n is. manual_near t v w near es tree n is;
  assembly = λ parts k n is. assembly_near t v w near es tree parts k n is;
  assemblies = λ parts k n is. assemblies_same t v w near es tree parts k n is;
  composite = λ atomics n bounds is. composite_near t v w near es tree atomics n bounds is;
  visit = λ atomics n is. visit_same t v w near es tree atomics n is;
}
