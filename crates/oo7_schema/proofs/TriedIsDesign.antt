-- The small design that is written out is a design: no two of the definition's clauses exclude each other.
use Rattle.std.proofs.Common.{◌≡◌, ◌+◌, ◌≤◌, ℕ, zero, suc, [], ◌∷◌, refl, arith, get_or, lit<, lit≤, cond}
use Rattle.std.specs.Prelude.{◌==◌}
use Rattle.pm3_types.specs.Fields.{is_reference}
use Rattle.oo7_schema.specs.Schema.{schema}
use Rattle.oo7_schema.specs.Lookup.{word}
use Rattle.oo7_schema.specs.Entries.{Holds}
use Rattle.oo7_schema.specs.Nodes.{IsIndex}
use Rattle.oo7_schema.specs.Flat.{index}
use Rattle.oo7_schema.specs.Texts.{IsChunk}
use Rattle.oo7_schema.specs.Sized.{object_named}
use Rattle.oo7_schema.specs.Designs.{IsModule, IsManual, IsDocument, IsFlatDesign, IsDesignIn, composites, atomics}
use Rattle.oo7_schema.specs.TriedDesign.{tried_objects, tried_roots, tried_design}
use Rattle.oo7_schema.proofs.Deciding.{is_of, all_fit, once_by, rising_by}
use Rattle.oo7_schema.proofs.DecidingParts.{assembly_by, composite_by, low_index}

chunk_3 : IsChunk tried_design.look 3
unfolding is_reference
chunk_3 = record { is = is_of tried_design.look 8 3 refl; some = lit≤ tt; most = lit≤ tt }

chunk_55 : IsChunk tried_design.look 55
unfolding is_reference
chunk_55 = record { is = is_of tried_design.look 8 55 refl; some = lit≤ tt; most = lit≤ tt }

chunk_56 : IsChunk tried_design.look 56
unfolding is_reference
chunk_56 = record { is = is_of tried_design.look 8 56 refl; some = lit≤ tt; most = lit≤ tt }

tried_module : IsModule tried_design
unfolding is_reference
tried_module = record {
  is = is_of tried_design.look 0 1 refl;
  size = lit< tt;
  some_atomic = lit≤ tt;
  few_atomic = lit≤ tt;
  some_composite = lit≤ tt;
  few_composite = lit≤ tt;
}

tried_manual : IsManual tried_design.look 2
unfolding is_reference
tried_manual = record { is = is_of tried_design.look 1 2 refl; text = record { before = []; are = (refl, chunk_3, refl); counted = refl } }

document_53 : IsDocument tried_design.look 51 53
unfolding is_reference
document_53 = record { is = is_of tried_design.look 5 53 refl; part = refl; last = 55; text = record { before = []; are = (refl, chunk_55, refl); counted = refl } }

document_54 : IsDocument tried_design.look 52 54
unfolding is_reference
document_54 = record { is = is_of tried_design.look 5 54 refl; part = refl; last = 56; text = record { before = []; are = (refl, chunk_56, refl); counted = refl } }

by_id : Holds (λ (n : ℕ). word tried_design.look n 0) (atomics tried_design) (index tried_design 1)
unfolding is_reference
by_id = record { same = λ n. refl; keys = (refl, (refl, (refl, (refl, (refl, (refl, (refl, (refl, tt)))))))); rising = rising_by (index tried_design 1) refl }

-- the list by date has the parts of the list by id in another order
turned_about : (a b c d e f g h : ℕ) → 0 + e + g + d + h + a + b + f + c ≡ 0 + a + b + c + d + e + f + g + h
turned_about a b c d e f g h = omega arith

by_date : Holds (λ (n : ℕ). word tried_design.look n 2) (atomics tried_design) (index tried_design 2)
unfolding is_reference
by_date = record {
  same = λ n. turned_about (cond (61 == n) 1 0) (cond (62 == n) 1 0) (cond (63 == n) 1 0) (cond (64 == n) 1 0) (cond (71 == n) 1 0) (cond (72 == n) 1 0) (cond (73 == n) 1 0) (cond (74 == n) 1 0);
  keys = (refl, (refl, (refl, (refl, (refl, (refl, (refl, (refl, tt))))))));
  rising = rising_by (index tried_design 2) refl;
}

tried_flat : IsFlatDesign tried_design
unfolding is_reference
tried_flat = record {
  nil = refl;
  slots = refl;
  apart = once_by (11 ∷ 12 ∷ 13 ∷ 14 ∷ []) refl;
  lists = (refl, (refl, (refl, (refl, tt))));
  head = tried_module;
  manual = tried_manual;
  assemblies = assembly_by tried_design.look (composites tried_design) 2 31 refl;
  tree = once_by (31 ∷ 32 ∷ 33 ∷ 34 ∷ 35 ∷ 36 ∷ 37 ∷ 38 ∷ 39 ∷ 40 ∷ 41 ∷ 42 ∷ 43 ∷ []) refl;
  parts = (composite_by tried_design.look 4 51 document_53 refl, (composite_by tried_design.look 4 52 document_54 refl, tt));
  once_composites = once_by (51 ∷ 52 ∷ []) refl;
  once_documents = once_by (53 ∷ 54 ∷ []) refl;
  once_atomics = once_by (61 ∷ 62 ∷ 63 ∷ 64 ∷ 71 ∷ 72 ∷ 73 ∷ 74 ∷ []) refl;
  by_id = by_id;
  by_date = by_date;
  by_title = record { same = λ n. refl; keys = (refl, (refl, tt)); rising = rising_by (index tried_design 3) refl };
  by_composite = record { same = λ n. refl; keys = (refl, (refl, tt)); rising = rising_by (index tried_design 4) refl };
}

tried_index : (slot : ℕ) → 1 ≤ slot → slot ≤ 4 → IsIndex (object_named tried_objects) (get_or tried_roots slot 0) (index tried_design slot)
unfolding is_reference
tried_index zero from to = absurd (omega arith)
tried_index (suc zero) from to = low_index (object_named tried_objects) 11 (index tried_design 1) refl refl (rising_by (index tried_design 1) refl)
tried_index (suc (suc zero)) from to = low_index (object_named tried_objects) 12 (index tried_design 2) refl refl (rising_by (index tried_design 2) refl)
tried_index (suc (suc (suc zero))) from to = low_index (object_named tried_objects) 13 (index tried_design 3) refl refl (rising_by (index tried_design 3) refl)
tried_index (suc (suc (suc (suc zero)))) from to = low_index (object_named tried_objects) 14 (index tried_design 4) refl refl (rising_by (index tried_design 4) refl)
tried_index (suc (suc (suc (suc (suc k))))) from to = absurd (omega arith)

pub tried_is_a_design : IsDesignIn (object_named tried_objects) tried_roots
unfolding is_reference
tried_is_a_design = record {
  fits = all_fit schema tried_objects refl;
  design = tried_flat;
  trees = tried_index;
  apart = once_by (21 ∷ 22 ∷ 23 ∷ 24 ∷ []) refl;
}
