-- The words to which a raw record refers.
use Rattle.std.proofs.Common.{◌≡◌, ◌<◌, ◌≤◌, ◌+◌, ◌-◌, ℕ, zero, suc, Bool, true, false, cond, List, [], ◌∷◌, map, Option, Some, None, refl, subst, arith, inl, inr}
use Rattle.std.specs.Prelude.{slice_index}
use Rattle.std.specs.List.{range_with_len}
use Rattle.pm3_types.specs.declared.type_map.Tail.{Tail}
use Rattle.pm3_types.specs.declared.type_map.Tail.TheVariants.{Empty, Refs, Bytes}
use Rattle.pm3_types.specs.Fields.{Fields, has_refs, is_reference}
use Rattle.pm3_types.specs.Layout.{Sheet, tail_in}
use Rattle.pm3_types.specs.Numbering.{names_in, names_in_by, names_in_fields}
use Rattle.pm3_types.specs.PageForm.{IsReferenceIn, IsTailReference, map_at, tail_at}
use Rattle.oo7_dump.specs.Raw.{raw_by, raw_fields, raw_items, raw_record}
use Rattle.oo7_dump.proofs.Renaming.{Each, each_append}

module _ (P : ℕ → Type 0) where
  each_cond : (b : Bool) (v : ℕ) (rest : List ℕ) → (b ≡ true → P v) → Each P rest → Each P (cond b (v ∷ rest) rest)
  each_cond true v rest here all = (here refl, all)
  each_cond false v rest here all = all

  each_field : (m : Fields) (g : ℕ → ℕ) (k i : ℕ) → ((f : ℕ) → i ≤ f → f < i + k → is_reference m f ≡ true → P (g f)) → Each P (names_in_fields m i (map g (range_with_len i k)))
  each_field m g zero i holds = tt
  each_field m g (suc k) i holds =
      each_cond (is_reference m i) (g i) (names_in_fields m (i + 1) (map g (range_with_len (i + 1) k))) (λ is. holds i (omega arith) (omega arith) is)
      (each_field m g k (i + 1) (λ f low high is. holds f (omega arith) (omega arith) is))

  pub each_of : (g : ℕ → ℕ) (k i : ℕ) → ((j : ℕ) → i ≤ j → j < i + k → P (g j)) → Each P (map g (range_with_len i k))
  each_of g zero i holds = tt
  each_of g (suc k) i holds = (holds i (omega arith) (omega arith), each_of g k (i + 1) (λ j low high. holds j (omega arith) (omega arith)))

  each_item : (tail : Tail) (words : List ℕ) (at len : ℕ) → ((j : ℕ) → IsTailReference tail len j → P (slice_index words (at + j))) → Each P (cond (has_refs tail) (raw_items tail words at len) [])
  each_item Empty words at len holds = tt
  each_item Refs words at len holds = each_of (λ k. slice_index words (at + k)) len 0 (λ j low high. holds j (omega arith))
  each_item Bytes words at len holds = tt

  each_name : (o : Option Fields) (words : List ℕ) (at head : ℕ) → ((k : ℕ) → IsReferenceIn o (tail_in head) k → P (slice_index words (at + 2 + k))) → Each P (names_in_by o (raw_by o words at head))
  each_name None words at head holds = tt
  each_name (Some m) words at head holds =
      each_append P (names_in_fields m 0 (raw_fields (Some m) words at)) (cond (has_refs m.tail) (raw_items m.tail words (at + 2 + m.count) (tail_in head)) [])
      (each_field m (λ f. slice_index words (at + 2 + f)) m.count 0 (λ f low high is. holds f (inl (omega arith, is))))
      (each_item m.tail words (at + 2 + m.count) (tail_in head) (λ j item. behind j item))
    where
      behind : (j : ℕ) → IsTailReference m.tail (tail_in head) j → P (slice_index words (at + 2 + m.count + j))
      behind j item =
          let back : j ≡ m.count + j - m.count = omega arith in
          let there : at + 2 + (m.count + j) ≡ at + 2 + m.count + j = omega arith in
          subst (λ (n : ℕ). P (slice_index words n)) there
          (holds (m.count + j) (inr (omega arith, subst (λ (n : ℕ). IsTailReference m.tail (tail_in head) n) back item)))

  -- what holds of each word in a reference place of an object holds of each name of its raw record
  pub each_reference : (catalog : List Fields) (sheet : Sheet) (at : ℕ) → ((k : ℕ) → IsReferenceIn (map_at catalog sheet at) (tail_at sheet at) k → P (slice_index sheet.words (at + 2 + k)))
      → Each P (names_in catalog (raw_record catalog sheet.words at))
  each_reference catalog sheet at holds = each_name (map_at catalog sheet at) sheet.words at (slice_index sheet.words at) holds
