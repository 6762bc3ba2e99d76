-- The objects of a composite part lead to each other alone.
use Rattle.std.proofs.Common.{◌≡◌, ◌+◌, ◌*◌, ◌%◌, ℕ, zero, suc, List, [], ◌∷◌, ◌++◌, length, true, cond, Option, Some, is_some, inl, inr, refl, sym, arith, ap, ◌∙◌, map, take, drop}
use Rattle.std.specs.Prelude.{◌==◌, flat_map, slice_index}
use Rattle.std.specs.List.{AllByRecursion, range_with_len}
use Rattle.pm3_types.specs.Fields.{is_reference}
use Rattle.pm3_types.specs.Record.{Record}
use Rattle.pm3_types.specs.Numbering.{is_among, names_of}
use Rattle.oo7_schema.specs.declared.sizes.Params.{Params}
use Rattle.oo7_schema.specs.Lookup.{Look, listed_schema}
use Rattle.oo7_schema.specs.Texts.{repeated, document_line, chunk_count, chunk_objects}
use Rattle.oo7_schema.specs.Composites.{composite_object, document_object, part_object, connection_record, connection_by, connection_objects, composite_objects, part_names, connection_names, chunk_names, part_draws, connection_draws, part_id}
use Rattle.oo7_schema.proofs.Testing.{itself, same_number, or_cases, or_first, or_second}
use Rattle.oo7_schema.proofs.Holding.{counted_among, among_counted}
use Rattle.oo7_schema.proofs.Pieces.{all_together, all_makes, all_flat_makes, times_take, times_drop}
use Rattle.oo7_schema.proofs.Making.{Placed}
use Rattle.oo7_schema.proofs.Naming.{named}
use Rattle.oo7_schema.proofs.Linking.{NilOr, all_from, names_all, names_of_part}

-- an object leads to these names alone
abbrev pub Refers : List ℕ → ℕ × Record → Type 0
Refers names o = (n : ℕ) → is_among (names_of listed_schema (Some o.1)) n ≡ true → NilOr names n

names_of_composite : (id date document root : ℕ) (parts : List ℕ) → names_of listed_schema (Some (record { ty = 4; fields = id ∷ date ∷ document ∷ root ∷ []; tail = parts })) ≡ document ∷ root ∷ parts
unfolding is_reference
names_of_composite id date document root parts = refl

names_of_document : (id long part first : ℕ) → names_of listed_schema (Some (record { ty = 5; fields = id ∷ long ∷ part ∷ first ∷ []; tail = [] })) ≡ part ∷ first ∷ []
unfolding is_reference
names_of_document id long part first = refl

names_of_connection : (kind long from to : ℕ) → names_of listed_schema (Some (connection_record kind long from to)) ≡ from ∷ to ∷ []
unfolding is_reference
names_of_connection kind long from to = refl

pub names_of_chunk : (next : ℕ) (text : List ℕ) → names_of listed_schema (Some (record { ty = 8; fields = next ∷ []; tail = text })) ≡ next ∷ []
unfolding is_reference
names_of_chunk next text = refl

-- a place of a list has one of its names, or none
pub at_place : (xs : List ℕ) (k : ℕ) → NilOr xs (slice_index xs k)
at_place [] k = inl refl
at_place (x ∷ xs) zero = inr (or_first (x == x) (is_among xs x) (itself x))
at_place (x ∷ xs) (suc k) = later (at_place xs k)
  where
    later : NilOr xs (slice_index xs k) → NilOr (x ∷ xs) (slice_index xs k)
    later (inl nil) = inl nil
    later (inr among) = inr (or_second (slice_index xs k == x) (is_among xs (slice_index xs k)) among)

pub wider : (xs ys : List ℕ) → ((n : ℕ) → is_among xs n ≡ true → is_among ys n ≡ true) → (n : ℕ) → NilOr xs n → NilOr ys n
wider xs ys inside n (inl nil) = inl nil
wider xs ys inside n (inr among) = inr (inside n among)

-- a piece of a list has names of the list
piece_among : (a b : ℕ) (xs : List ℕ) (n : ℕ) → is_among (take a (drop b xs)) n ≡ true → is_among xs n ≡ true
piece_among a b xs n among = counted_among n xs (omega (arith, among_counted n (take a (drop b xs)) among, times_take n a (drop b xs), times_drop n b xs))

module _ (p : Params) (k : ℕ) (names nums : List ℕ) where
  at_part : (a : ℕ) → NilOr names (slice_index (part_names p names) a)
  at_part a = wider (part_names p names) names (piece_among p.atomics 2 names) (slice_index (part_names p names) a) (at_place (part_names p names) a)

  at_chunk : (i : ℕ) → NilOr names (slice_index (chunk_names p names) i)
  at_chunk i =
      wider (chunk_names p names) names (piece_among (chunk_count p.document) (2 + p.atomics + p.atomics * p.connections) names) (slice_index (chunk_names p names) i) (at_place (chunk_names p names) i)

  composite_refers : Refers names (composite_object p k names nums)
  composite_refers =
      names_all (NilOr names) (Some (composite_object p k names nums).1) (slice_index names 1 ∷ slice_index names 2 ∷ part_names p names)
      (names_of_composite k (cond (slice_index nums 0 == 0) (2000 + slice_index nums 1) (slice_index nums 1)) (slice_index names 1) (slice_index names 2) (part_names p names))
      (at_place names 1, (at_place names 2, all_from (NilOr names) (part_names p names) (λ n among. inr (piece_among p.atomics 2 names n among))))

  document_refers : Refers names (document_object p k names)
  document_refers =
      names_all (NilOr names) (Some (document_object p k names).1) (slice_index names 0 ∷ slice_index (chunk_names p names) 0 ∷ [])
      (names_of_document k p.document (slice_index names 0) (slice_index (chunk_names p names) 0)) (at_place names 0, (at_chunk 0, tt))

  part_refers : (a : ℕ) → Refers names (part_object p k names nums a)
  part_refers a =
      names_all (NilOr names) (Some (part_object p k names nums a).1) (slice_index names 0 ∷ connection_names p names a)
      (names_of_part (part_id p k a) (slice_index (part_draws nums a) 0) (1000 + slice_index (part_draws nums a) 1) (slice_index (part_draws nums a) 2) (slice_index (part_draws nums a) 3) (slice_index names 0) (connection_names p names a))
      (at_place names 0, all_from (NilOr names) (connection_names p names a) (λ n among. inr (piece_among p.connections (2 + p.atomics + a * p.connections) names n among)))

  connection_refers : (a m : ℕ) → Refers names (slice_index (connection_names p names a) m, connection_by (part_names p names) p.atomics a m (connection_draws p nums a m))
  connection_refers a zero =
      names_all (NilOr names) (Some (connection_by (part_names p names) p.atomics a 0 (connection_draws p nums a 0))) (slice_index (part_names p names) a ∷ slice_index (part_names p names) ((a + 1) % p.atomics) ∷ [])
      (names_of_connection (slice_index (connection_draws p nums a 0) 0) (slice_index (connection_draws p nums a 0) 1) (slice_index (part_names p names) a) (slice_index (part_names p names) ((a + 1) % p.atomics)))
      (at_part a, (at_part ((a + 1) % p.atomics), tt))
  connection_refers a (suc m) =
      names_all (NilOr names) (Some (connection_by (part_names p names) p.atomics a (suc m) (connection_draws p nums a (suc m))))
      (slice_index (part_names p names) a ∷ slice_index (part_names p names) (slice_index (connection_draws p nums a (suc m)) 0) ∷ [])
      (names_of_connection (slice_index (connection_draws p nums a (suc m)) 1) (slice_index (connection_draws p nums a (suc m)) 2) (slice_index (part_names p names) a)
      (slice_index (part_names p names) (slice_index (connection_draws p nums a (suc m)) 0)))
      (at_part a, (at_part (slice_index (connection_draws p nums a (suc m)) 0), tt))

  chunk_refers : (text : List ℕ) (i : ℕ) → Refers names (slice_index (chunk_names p names) i, record { ty = 8; fields = slice_index (chunk_names p names) (i + 1) ∷ []; tail = take 3072 (drop (3072 * i) text) })
  chunk_refers text i =
      names_all (NilOr names) (Some (record { ty = 8; fields = slice_index (chunk_names p names) (i + 1) ∷ []; tail = take 3072 (drop (3072 * i) text) })) (slice_index (chunk_names p names) (i + 1) ∷ [])
      (names_of_chunk (slice_index (chunk_names p names) (i + 1)) (take 3072 (drop (3072 * i) text))) (at_chunk (i + 1), tt)

  pub made_refers : AllByRecursion (Refers names) (composite_objects p k names nums)
  made_refers =
      all_together (Refers names) ((composite_object p k names nums ∷ document_object p k names ∷ map (part_object p k names nums) (range_with_len 0 p.atomics)) ++ flat_map (connection_objects p names nums) (range_with_len 0 p.atomics))
      (chunk_objects (chunk_names p names) (repeated (document_line k) p.document))
      (all_together (Refers names) (composite_object p k names nums ∷ document_object p k names ∷ map (part_object p k names nums) (range_with_len 0 p.atomics)) (flat_map (connection_objects p names nums) (range_with_len 0 p.atomics))
      (composite_refers, (document_refers, all_makes (Refers names) (part_object p k names nums) part_refers 0 p.atomics))
      (all_flat_makes (Refers names) (connection_objects p names nums)
      (λ a. all_makes (Refers names) (λ (m : ℕ). (slice_index (connection_names p names a) m, connection_by (part_names p names) p.atomics a m (connection_draws p nums a m))) (connection_refers a) 0 p.connections)
      0 p.atomics))
      (all_makes (Refers names)
      (λ (i : ℕ). (slice_index (chunk_names p names) i, record { ty = 8; fields = slice_index (chunk_names p names) (i + 1) ∷ []; tail = take 3072 (drop (3072 * i) (repeated (document_line k) p.document)) }))
      (chunk_refers (repeated (document_line k) p.document)) 0 (chunk_count (length (repeated (document_line k) p.document))))

-- what stands under these objects' names leads to where they do, and is there
pub placed_refers : (names : List ℕ) (look : Look) (os : List (ℕ × Record)) → AllByRecursion (Placed look) os → AllByRecursion (Refers names) os
    → (m n : ℕ) → is_among (named os) m ≡ true → is_among (names_of listed_schema (look m)) n ≡ true → NilOr names n
placed_refers names look [] placed refers m n there among = cc
placed_refers names look (o ∷ os) placed refers m n there among = elim (or_cases (m == o.0) (is_among (named os) m) there) [
  | inl here ↦ refers.0 n (ap (λ (q : Option Record). is_among (names_of listed_schema q) n) (sym (ap look (same_number m o.0 here) ∙ placed.0)) ∙ among)
  | inr later ↦ placed_refers names look os placed.1 refers.1 m n later among
]

pub placed_there : (look : Look) (os : List (ℕ × Record)) → AllByRecursion (Placed look) os → (m : ℕ) → is_among (named os) m ≡ true → is_some (look m) ≡ true
placed_there look [] placed m there = cc
placed_there look (o ∷ os) placed m there = elim (or_cases (m == o.0) (is_among (named os) m) there) [
  | inl here ↦ ap (λ (q : Option Record). is_some q) (ap look (same_number m o.0 here) ∙ placed.0)
  | inr later ↦ placed_there look os placed.1 m later
]
