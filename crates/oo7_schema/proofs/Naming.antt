-- The names of a composite part's objects are those that it was made under, and each object stands under its own.
use Rattle.std.proofs.Common.{◌≡◌, ◌+◌, ◌*◌, ◌<◌, ◌≤◌, ℕ, zero, suc, List, [], ◌∷◌, ◌++◌, length, Bool, true, false, cond, Some, refl, sym, arith, ap, ◌∙◌, map, take, drop, get_or, length-drop, drop-drop}
use Rattle.std.specs.Prelude.{◌==◌, flat_map, slice_index}
use Rattle.std.specs.List.{AllByRecursion, range_with_len}
use Rattle.std.proofs.Math.Nat.{suc-mul, zero-mul}
use Rattle.std.proofs.Math.Seq.{take-add, take-length}
use Rattle.std.proofs.lemmas.List.{map-append}
use Rattle.pm3_types.specs.Record.{Record}
use Rattle.pm3_types.specs.Numbering.{is_among}
use Rattle.oo7_schema.specs.declared.sizes.Params.{Params}
use Rattle.oo7_schema.specs.Lookup.{Look, put}
use Rattle.oo7_schema.specs.Entries.{Once}
use Rattle.oo7_schema.specs.Texts.{repeated, document_line, chunk_count, chunk_objects}
use Rattle.oo7_schema.specs.Composites.{composite_object, document_object, part_object, connection_by, connection_objects, composite_objects, objects_in, part_names, connection_names, chunk_names, connection_draws}
use Rattle.oo7_schema.specs.Changes.{put_all}
use Rattle.oo7_schema.proofs.Testing.{itself, or_first, or_second, first_fails, second_fails}
use Rattle.oo7_schema.proofs.Counting.{documents_are_long}
use Rattle.oo7_schema.proofs.Pieces.{once_head, once_tail}
use Rattle.oo7_schema.proofs.Making.{Placed, parts_long, connections_long, chunks_long}

-- the names of objects
abbrev pub named : List (ℕ × Record) → List ℕ
named os = map (λ (o : ℕ × Record). o.0) os

-- objects that are made by places have the names of these places
pub named_places : (make : ℕ → ℕ × Record) (s n : ℕ) (xs : List ℕ) → length xs ≡ n → ((i : ℕ) → i < length xs → (make (s + i)).0 ≡ get_or xs i 0)
    → named (map make (range_with_len s n)) ≡ xs
named_places make s zero [] long each = refl
named_places make s zero (x ∷ xs) long each = absurd (omega arith)
named_places make s (suc n) [] long each = absurd (omega arith)
named_places make s (suc n) (x ∷ xs) long each =
    let at : s ≡ s + 0 = omega arith in
    let first : (make s).0 ≡ x = ap (λ (k : ℕ). (make k).0) at ∙ each 0 (omega arith) in
    let rest : named (map make (range_with_len (s + 1) n)) ≡ xs = named_places make (s + 1) n xs (omega arith) later in
    λ i. first i ∷ rest i
  where
    later : (i : ℕ) → i < length xs → (make (s + 1 + i)).0 ≡ get_or xs i 0
    later i low = let at : s + 1 + i ≡ s + suc i = omega arith in ap (λ (k : ℕ). (make k).0) at ∙ each (suc i) (omega arith)

pub named_made : (make : ℕ → ℕ × Record) (n : ℕ) (xs : List ℕ) → length xs ≡ n → ((i : ℕ) → i < length xs → (make i).0 ≡ get_or xs i 0) → named (map make (range_with_len 0 n)) ≡ xs
named_made make n xs long each =
    named_places make 0 n xs long (λ i low. let at : 0 + i ≡ i = omega arith in ap (λ (k : ℕ). (make k).0) at ∙ each i low)

-- pieces of one length, one after another, are one piece
pub named_pieces : (make : ℕ → List (ℕ × Record)) (each : ℕ) (xs : List ℕ) (s n : ℕ) → ((i : ℕ) → i < n → named (make (s + i)) ≡ take each (drop ((s + i) * each) xs))
    → named (flat_map make (range_with_len s n)) ≡ take (n * each) (drop (s * each) xs)
named_pieces make each xs s zero pieces = ap (λ (k : ℕ). take k (drop (s * each) xs)) (sym (zero-mul each))
named_pieces make each xs s (suc n) pieces =
    let at : s ≡ s + 0 = omega arith in
    let first : named (make s) ≡ take each (drop (s * each) xs) = ap (λ (k : ℕ). named (make k)) at ∙ pieces 0 (omega arith) ∙ ap (λ (k : ℕ). take each (drop (k * each) xs)) (sym at) in
    let rest : named (flat_map make (range_with_len (s + 1) n)) ≡ take (n * each) (drop ((s + 1) * each) xs) = named_pieces make each xs (s + 1) n later in
    let behind : (s + 1) * each ≡ s * each + each = (let next : s + 1 ≡ suc s = omega arith in ap (λ (k : ℕ). k * each) next ∙ omega (arith, suc-mul s each)) in
    let whole : each + n * each ≡ suc n * each = omega (arith, suc-mul n each) in
    map-append (λ (o : ℕ × Record). o.0) (make s) (flat_map make (range_with_len (s + 1) n))
    ∙ (λ i. first i ++ rest i)
    ∙ ap (λ (k : ℕ). take each (drop (s * each) xs) ++ take (n * each) (drop k xs)) behind
    ∙ ap (λ (ys : List ℕ). take each (drop (s * each) xs) ++ take (n * each) ys) (sym (drop-drop each (s * each) xs))
    ∙ sym (take-add each (n * each) (drop (s * each) xs)) ∙ ap (λ (k : ℕ). take k (drop (s * each) xs)) whole
  where
    later : (i : ℕ) → i < n → named (make (s + 1 + i)) ≡ take each (drop ((s + 1 + i) * each) xs)
    later i low =
        let at : s + 1 + i ≡ s + suc i = omega arith in
        ap (λ (k : ℕ). named (make k)) at ∙ pieces (suc i) (omega arith) ∙ ap (λ (k : ℕ). take each (drop (k * each) xs)) (sym at)

two_first : (xs : List ℕ) → 2 ≤ length xs → slice_index xs 0 ∷ slice_index xs 1 ∷ drop 2 xs ≡ xs
two_first [] long = absurd (omega arith)
two_first (x ∷ []) long = absurd (omega arith)
two_first (x ∷ y ∷ xs) long = refl

pub chunks_named : (cs text : List ℕ) → length cs ≡ chunk_count (length text) → named (chunk_objects cs text) ≡ cs
chunks_named cs text long =
    named_made (λ (i : ℕ). (slice_index cs i, record { ty = 8; fields = slice_index cs (i + 1) ∷ []; tail = take 3072 (drop (3072 * i) text) })) (chunk_count (length text)) cs long (λ i low. refl)

module _ (p : Params) (k : ℕ) (names nums : List ℕ) (count : length names ≡ objects_in p) where
  pub parts_named : named (map (part_object p k names nums) (range_with_len 0 p.atomics)) ≡ part_names p names
  parts_named = named_made (part_object p k names nums) p.atomics (part_names p names) (parts_long p names count) (λ i low. refl)

  connections_named : named (flat_map (connection_objects p names nums) (range_with_len 0 p.atomics)) ≡ take (p.atomics * p.connections) (drop p.atomics (drop 2 names))
  connections_named =
      named_pieces (connection_objects p names nums) p.connections (drop p.atomics (drop 2 names)) 0 p.atomics each
      ∙ ap (λ (n : ℕ). take (p.atomics * p.connections) (drop n (drop p.atomics (drop 2 names)))) (zero-mul p.connections)
    where
      piece : (a : ℕ) → connection_names p names a ≡ take p.connections (drop (a * p.connections) (drop p.atomics (drop 2 names)))
      piece a =
          ap (take p.connections) (sym (drop-drop (a * p.connections) (2 + p.atomics) names))
          ∙ ap (λ (ns : List ℕ). take p.connections (drop (a * p.connections) ns)) (sym (drop-drop p.atomics 2 names))

      at : (a : ℕ) → a < p.atomics → named (connection_objects p names nums a) ≡ connection_names p names a
      at a low =
          named_made (λ (m : ℕ). (slice_index (connection_names p names a) m, connection_by (part_names p names) p.atomics a m (connection_draws p nums a m))) p.connections (connection_names p names a)
          (connections_long p names count a low) (λ i few. refl)

      each : (i : ℕ) → i < p.atomics → named (connection_objects p names nums (0 + i)) ≡ take p.connections (drop ((0 + i) * p.connections) (drop p.atomics (drop 2 names)))
      each i low =
          let same : 0 + i ≡ i = omega arith in
          ap (λ (n : ℕ). named (connection_objects p names nums n)) same ∙ at i low ∙ piece i ∙ ap (λ (n : ℕ). take p.connections (drop (n * p.connections) (drop p.atomics (drop 2 names)))) (sym same)

  text_named : named (chunk_objects (chunk_names p names) (repeated (document_line k) p.document)) ≡ take (chunk_count p.document) (drop (p.atomics + p.atomics * p.connections) (drop 2 names))
  text_named =
      chunks_named (chunk_names p names) (repeated (document_line k) p.document) (chunks_long p names count ∙ ap chunk_count (sym (documents_are_long k p.document)))
      ∙ ap (take (chunk_count p.document)) (place ∙ sym (drop-drop (p.atomics + p.atomics * p.connections) 2 names))
    where
      place : drop (2 + p.atomics + p.atomics * p.connections) names ≡ drop (2 + (p.atomics + p.atomics * p.connections)) names
      place = let same : 2 + p.atomics + p.atomics * p.connections ≡ 2 + (p.atomics + p.atomics * p.connections) = omega arith in ap (λ (n : ℕ). drop n names) same

  pub names_are : named (composite_objects p k names nums) ≡ names
  names_are =
      let rest : length (drop 2 names) ≡ p.atomics + p.atomics * p.connections + chunk_count p.document = omega (arith, length-drop 2 names, count) in
      map-append (λ (o : ℕ × Record). o.0)
      ((composite_object p k names nums ∷ document_object p k names ∷ map (part_object p k names nums) (range_with_len 0 p.atomics)) ++ flat_map (connection_objects p names nums) (range_with_len 0 p.atomics))
      (chunk_objects (chunk_names p names) (repeated (document_line k) p.document))
      ∙ ap (λ (ns : List ℕ). ns ++ named (chunk_objects (chunk_names p names) (repeated (document_line k) p.document)))
      (map-append (λ (o : ℕ × Record). o.0) (composite_object p k names nums ∷ document_object p k names ∷ map (part_object p k names nums) (range_with_len 0 p.atomics)) (flat_map (connection_objects p names nums) (range_with_len 0 p.atomics)))
      ∙ (λ i. slice_index names 0 ∷ slice_index names 1 ∷ ((parts_named i ++ connections_named i) ++ text_named i))
      ∙ ap (λ (ns : List ℕ). slice_index names 0 ∷ slice_index names 1 ∷ (ns ++ take (chunk_count p.document) (drop (p.atomics + p.atomics * p.connections) (drop 2 names))))
      (sym (take-add p.atomics (p.atomics * p.connections) (drop 2 names)))
      ∙ ap (λ (ns : List ℕ). slice_index names 0 ∷ slice_index names 1 ∷ ns) (sym (take-add (p.atomics + p.atomics * p.connections) (chunk_count p.document) (drop 2 names)))
      ∙ ap (λ (n : ℕ). slice_index names 0 ∷ slice_index names 1 ∷ take n (drop 2 names)) (sym rest)
      ∙ ap (λ (ns : List ℕ). slice_index names 0 ∷ slice_index names 1 ∷ ns) (take-length (drop 2 names))
      ∙ two_first names (omega (arith, count))

-- objects that are put under names of their own stand there, and all else is as it was
pub put_all_off : (os : List (ℕ × Record)) (look : Look) (n : ℕ) → is_among (named os) n ≡ false → put_all look os n ≡ look n
put_all_off [] look n off = refl
put_all_off (o ∷ os) look n off =
    put_all_off os (put look o.0 o.1) n (second_fails (n == o.0) (is_among (named os) n) off)
    ∙ ap (λ (b : Bool). cond b (Some o.1) (look n)) (first_fails (n == o.0) (is_among (named os) n) off)

pub put_all_at : (os : List (ℕ × Record)) (look : Look) → Once (named os) → AllByRecursion (Placed (put_all look os)) os
put_all_at [] look once = tt
put_all_at (o ∷ os) look once = (
  put_all_off os (put look o.0 o.1) o.0 (once_head o.0 (named os) once) ∙ ap (λ (b : Bool). cond b (Some o.1) (look o.0)) (itself o.0),
  put_all_at os (put look o.0 o.1) (once_tail o.0 (named os) once),
)

-- objects stand where what is under their names is as it was
pub placed_again : (v w : Look) (os : List (ℕ × Record)) → ((n : ℕ) → is_among (named os) n ≡ true → w n ≡ v n) → AllByRecursion (Placed v) os → AllByRecursion (Placed w) os
placed_again v w [] same all = tt
placed_again v w (o ∷ os) same all = (
  same o.0 (or_first (o.0 == o.0) (is_among (named os) o.0) (itself o.0)) ∙ all.0,
  placed_again v w os (λ n among. same n (or_second (n == o.0) (is_among (named os) n) among)) all.1,
)
