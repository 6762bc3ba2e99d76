-- A composite part as it is made is one.
use Rattle.std.proofs.Common.{◌≡◌, ◌+◌, ◌-◌, ◌*◌, ◌%◌, ◌^◌, ◌<◌, ◌≤◌, ℕ, zero, suc, List, [], ◌∷◌, ◌++◌, length, true, cond, Option, Some, refl, sym, arith, ap, subst, ◌∙◌, map, take, drop, get_or, length-take-le, length-drop, get_or-take, get_or-drop}
use Rattle.std.specs.Prelude.{◌==◌, flat_map, slice_index}
use Rattle.std.specs.List.{AllByRecursion, range_with_len}
use Rattle.std.proofs.Math.Nat.{suc-mul, mul-le-mul_right}
use Rattle.pm3_types.specs.declared.places.Place.TheVariants.{Word, Reference}
use Rattle.pm3_types.specs.Fields.{Fields, is_reference, has_refs}
use Rattle.pm3_types.specs.Record.{Record}
use Rattle.pm3_types.specs.Numbering.{is_among}
use Rattle.oo7_schema.specs.declared.sizes.Params.{Params}
use Rattle.oo7_schema.specs.Lookup.{Look, value_in, tail_in, reference, items}
use Rattle.oo7_schema.specs.Entries.{Once}
use Rattle.oo7_schema.specs.Members.{document_of, root_part, neighbours}
use Rattle.oo7_schema.specs.Walk.{parts_of, met_under}
use Rattle.oo7_schema.specs.Texts.{repeated, document_line, chunk_count, chunk_objects, HasText}
use Rattle.oo7_schema.specs.Composites.{composite_object, document_object, part_object, connection_record, connection_by, connection_objects, composite_objects, objects_in, part_names, connection_names, chunk_names, part_draws, connection_draws, part_id}
use Rattle.oo7_schema.specs.Designs.{IsConnection, IsAtomic, IsDocument, IsComposite}
use Rattle.oo7_schema.proofs.Deciding.{of_test, is_of}
use Rattle.oo7_schema.proofs.Counting.{documents_are_long}
use Rattle.oo7_schema.proofs.Swapping.{part, date_of_part, x_of_part, y_of_part}
use Rattle.oo7_schema.proofs.Pieces.{all_first, all_second, all_made, all_flat_made, all_places, among_get, times_take, times_drop}
use Rattle.oo7_schema.proofs.Drawing.{AreDrawn}
use Rattle.oo7_schema.proofs.Chunking.{document_bytes, text_bytes, HaveText, has_text}
use Rattle.oo7_schema.proofs.Circling.{Leads, circle_met}

-- an object stands under its name
abbrev pub Placed : Look → ℕ × Record → Type 0
Placed look o = look o.0 ≡ Some o.1

-- numbers that a size has
pub record IsSound (p : Params) : Type 0 where
  pub atomics : 1 ≤ p.atomics
  pub connections : 1 ≤ p.connections
  pub document : 1 ≤ p.document

whole_of_part : (id kind date x y whole : ℕ) (tail : List ℕ) → value_in (Some (part id kind date x y whole tail)) (Reference 5) ≡ whole
unfolding is_reference
whole_of_part id kind date x y whole tail = refl

from_of : (kind long from to : ℕ) → value_in (Some (connection_record kind long from to)) (Reference 2) ≡ from
unfolding is_reference
from_of kind long from to = refl

to_of : (kind long from to : ℕ) → value_in (Some (connection_record kind long from to)) (Reference 3) ≡ to
unfolding is_reference
to_of kind long from to = refl

-- a composite part and a document, written out
abbrev composite : ℕ → ℕ → ℕ → ℕ → List ℕ → Record
composite id date document root parts = record { ty = 4; fields = id ∷ date ∷ document ∷ root ∷ []; tail = parts }

abbrev document : ℕ → ℕ → ℕ → ℕ → Record
document id long part first = record { ty = 5; fields = id ∷ long ∷ part ∷ first ∷ []; tail = [] }

document_in : (id date doc root : ℕ) (parts : List ℕ) → value_in (Some (composite id date doc root parts)) (Reference 2) ≡ doc
unfolding is_reference
document_in id date doc root parts = refl

root_in : (id date doc root : ℕ) (parts : List ℕ) → value_in (Some (composite id date doc root parts)) (Reference 3) ≡ root
unfolding is_reference
root_in id date doc root parts = refl

long_in : (id long part first : ℕ) → value_in (Some (document id long part first)) (Word 1) ≡ long
unfolding is_reference
long_in id long part first = refl

part_in : (id long part first : ℕ) → value_in (Some (document id long part first)) (Reference 2) ≡ part
unfolding is_reference
part_in id long part first = refl

first_in : (id long part first : ℕ) → value_in (Some (document id long part first)) (Reference 3) ≡ first
unfolding is_reference
first_in id long part first = refl

rest_below : (k n : ℕ) → 1 ≤ n → k % n < n
rest_below k n some = grind arith

room_for : (a n c : ℕ) → a < n → a * c + c ≤ n * c
room_for a n c low = let more : suc a * c ≤ n * c = mul-le-mul_right c low in omega (arith, more, suc-mul a c)

-- how many names there are of each kind
module _ (p : Params) (names : List ℕ) (count : length names ≡ objects_in p) where
  pub parts_long : length (part_names p names) ≡ p.atomics
  parts_long = length-take-le p.atomics (drop 2 names) (omega (arith, length-drop 2 names, count))

  pub connections_long : (a : ℕ) → a < p.atomics → length (connection_names p names a) ≡ p.connections
  connections_long a low =
      let room : a * p.connections + p.connections ≤ p.atomics * p.connections = room_for a p.atomics p.connections low in
      length-take-le p.connections (drop (2 + p.atomics + a * p.connections) names) (omega (arith, length-drop (2 + p.atomics + a * p.connections) names, count, room))

  pub chunks_long : length (chunk_names p names) ≡ chunk_count p.document
  chunks_long =
      length-take-le (chunk_count p.document) (drop (2 + p.atomics + p.atomics * p.connections) names)
      (omega (arith, length-drop (2 + p.atomics + p.atomics * p.connections) names, count))

-- what a made composite part has
pub record IsMade (look : Look) (p : Params) (names : List ℕ) : Type 0 where
  pub is : IsComposite look p.atomics (slice_index names 0)
  pub parts : items look (slice_index names 0) ≡ part_names p names
  pub document : document_of look (slice_index names 0) ≡ slice_index names 1

module _ (w : Look) (p : Params) (k : ℕ) (names nums : List ℕ) (sound : IsSound p) (count : length names ≡ objects_in p) (once : Once names) (drawn : AreDrawn p nums)
    (placed : AllByRecursion (Placed w) (composite_objects p k names nums)) where
  before_chunks : AllByRecursion (Placed w) ((composite_object p k names nums ∷ document_object p k names ∷ map (part_object p k names nums) (range_with_len 0 p.atomics)) ++ flat_map (connection_objects p names nums) (range_with_len 0 p.atomics))
  before_chunks =
      all_first (Placed w) ((composite_object p k names nums ∷ document_object p k names ∷ map (part_object p k names nums) (range_with_len 0 p.atomics)) ++ flat_map (connection_objects p names nums) (range_with_len 0 p.atomics))
      (chunk_objects (chunk_names p names) (repeated (document_line k) p.document)) placed

  before_connections : AllByRecursion (Placed w) (composite_object p k names nums ∷ document_object p k names ∷ map (part_object p k names nums) (range_with_len 0 p.atomics))
  before_connections =
      all_first (Placed w) (composite_object p k names nums ∷ document_object p k names ∷ map (part_object p k names nums) (range_with_len 0 p.atomics))
      (flat_map (connection_objects p names nums) (range_with_len 0 p.atomics)) before_chunks

  part_here : (a : ℕ) → a < p.atomics → Placed w (part_object p k names nums a)
  part_here a low = all_made (Placed w) (part_object p k names nums) p.atomics before_connections.1.1 a low

  connection_here : (a m : ℕ) → a < p.atomics → m < p.connections
      → w (slice_index (connection_names p names a) m) ≡ Some (connection_by (part_names p names) p.atomics a m (connection_draws p nums a m))
  connection_here a m low few =
      all_made (Placed w) (λ (m : ℕ). (slice_index (connection_names p names a) m, connection_by (part_names p names) p.atomics a m (connection_draws p nums a m))) p.connections
      (all_flat_made (Placed w) (connection_objects p names nums) p.atomics
      (all_second (Placed w) (composite_object p k names nums ∷ document_object p k names ∷ map (part_object p k names nums) (range_with_len 0 p.atomics))
      (flat_map (connection_objects p names nums) (range_with_len 0 p.atomics)) before_chunks) a low) m few

  text_long : chunk_count (length (repeated (document_line k) p.document)) ≡ length (chunk_names p names)
  text_long = ap chunk_count (documents_are_long k p.document) ∙ sym (chunks_long p names count)

  chunks_here : HaveText w (chunk_names p names) (repeated (document_line k) p.document)
  chunks_here i low =
      all_made (Placed w) (λ (i : ℕ). (slice_index (chunk_names p names) i, record { ty = 8; fields = slice_index (chunk_names p names) (i + 1) ∷ []; tail = take 3072 (drop (3072 * i) (repeated (document_line k) p.document)) }))
      (chunk_count (length (repeated (document_line k) p.document)))
      (all_second (Placed w) ((composite_object p k names nums ∷ document_object p k names ∷ map (part_object p k names nums) (range_with_len 0 p.atomics)) ++ flat_map (connection_objects p names nums) (range_with_len 0 p.atomics))
      (chunk_objects (chunk_names p names) (repeated (document_line k) p.document)) placed) i (omega (arith, text_long, low))

  part_among : (a : ℕ) → a < p.atomics → is_among (part_names p names) (slice_index (part_names p names) a) ≡ true
  part_among a low = among_get (part_names p names) a (omega (arith, low, parts_long p names count))

  -- a connection of part a
  from_part : (a m : ℕ) → a < p.atomics → m < p.connections → reference w (slice_index (connection_names p names a) m) 2 ≡ slice_index (part_names p names) a
  from_part a zero low few =
      ap (λ (o : Option Record). value_in o (Reference 2)) (connection_here a 0 low few)
      ∙ from_of (slice_index (connection_draws p nums a 0) 0) (slice_index (connection_draws p nums a 0) 1) (slice_index (part_names p names) a) (slice_index (part_names p names) ((a + 1) % p.atomics))
  from_part a (suc m) low few =
      ap (λ (o : Option Record). value_in o (Reference 2)) (connection_here a (suc m) low few)
      ∙ from_of (slice_index (connection_draws p nums a (suc m)) 1) (slice_index (connection_draws p nums a (suc m)) 2) (slice_index (part_names p names) a)
      (slice_index (part_names p names) (slice_index (connection_draws p nums a (suc m)) 0))

  to_next : (a : ℕ) → a < p.atomics → reference w (slice_index (connection_names p names a) 0) 3 ≡ slice_index (part_names p names) ((a + 1) % p.atomics)
  to_next a low =
      ap (λ (o : Option Record). value_in o (Reference 3)) (connection_here a 0 low sound.connections)
      ∙ to_of (slice_index (connection_draws p nums a 0) 0) (slice_index (connection_draws p nums a 0) 1) (slice_index (part_names p names) a) (slice_index (part_names p names) ((a + 1) % p.atomics))

  to_part : (a m : ℕ) → a < p.atomics → m < p.connections → is_among (part_names p names) (reference w (slice_index (connection_names p names a) m) 3) ≡ true
  to_part a zero low few =
      subst (λ (n : ℕ). is_among (part_names p names) n ≡ true) (sym (to_next a low)) (part_among ((a + 1) % p.atomics) (rest_below (a + 1) p.atomics sound.atomics))
  to_part a (suc m) low few =
      subst (λ (n : ℕ). is_among (part_names p names) n ≡ true)
      (sym (ap (λ (o : Option Record). value_in o (Reference 3)) (connection_here a (suc m) low few)
      ∙ to_of (slice_index (connection_draws p nums a (suc m)) 1) (slice_index (connection_draws p nums a (suc m)) 2) (slice_index (part_names p names) a)
      (slice_index (part_names p names) (slice_index (connection_draws p nums a (suc m)) 0))))
      (part_among (slice_index (connection_draws p nums a (suc m)) 0) (drawn.target a m low few))

  connection_class : (a m : ℕ) → a < p.atomics → m < p.connections → of_test 7 (w (slice_index (connection_names p names a) m)) ≡ true
  connection_class a zero low few = ap (of_test 7) (connection_here a 0 low few)
  connection_class a (suc m) low few = ap (of_test 7) (connection_here a (suc m) low few)

  connection_is : (a m : ℕ) → a < p.atomics → m < p.connections → IsConnection w (part_names p names) (slice_index (connection_names p names a) m)
  connection_is a m low few = record {
    is = is_of w 7 (slice_index (connection_names p names a) m) (connection_class a m low few);
    from = ap (is_among (part_names p names)) (from_part a m low few) ∙ part_among a low;
    to = to_part a m low few;
  }

  -- part a
  part_items : (a : ℕ) → a < p.atomics → items w (slice_index (part_names p names) a) ≡ connection_names p names a
  part_items a low = ap (λ (o : Option Record). tail_in (λ (m : Fields). has_refs m.tail) o) (part_here a low)

  part_is : (c : ℕ) → items w c ≡ part_names p names → slice_index names 0 ≡ c → (a : ℕ) → a < p.atomics → IsAtomic w c (slice_index (part_names p names) a)
  part_is c whole same a low =
      let id : ℕ = part_id p k a in
      let kind : ℕ = slice_index (part_draws nums a) 0 in
      let date : ℕ = 1000 + slice_index (part_draws nums a) 1 in
      let x : ℕ = slice_index (part_draws nums a) 2 in
      let y : ℕ = slice_index (part_draws nums a) 3 in
      let tail : List ℕ = connection_names p names a in
      let dated : value_in (w (slice_index (part_names p names) a)) (Word 2) ≡ date =
      ap (λ (o : Option Record). value_in o (Word 2)) (part_here a low) ∙ date_of_part id kind date x y (slice_index names 0) tail in
      record {
        is = is_of w 6 (slice_index (part_names p names) a) (ap (of_test 6) (part_here a low));
        part = ap (λ (o : Option Record). value_in o (Reference 5)) (part_here a low) ∙ whole_of_part id kind date x y (slice_index names 0) tail ∙ same;
        dated = subst (λ (n : ℕ). 1 ≤ n) (sym dated) (omega arith);
        early = subst (λ (n : ℕ). n ≤ 2 ^ 64 - 2) (sym dated) (omega (arith, drawn.date a low));
        x = subst (λ (n : ℕ). n < 100000) (sym (ap (λ (o : Option Record). value_in o (Word 3)) (part_here a low) ∙ x_of_part id kind date x y (slice_index names 0) tail)) (drawn.x a low);
        y = subst (λ (n : ℕ). n < 100000) (sym (ap (λ (o : Option Record). value_in o (Word 4)) (part_here a low) ∙ y_of_part id kind date x y (slice_index names 0) tail)) (drawn.y a low);
        connections = subst (λ (ps : List ℕ). AllByRecursion (IsConnection w ps) (items w (slice_index (part_names p names) a))) (sym whole)
            (subst (λ (ns : List ℕ). AllByRecursion (IsConnection w (part_names p names)) ns) (sym (part_items a low))
            (all_places (IsConnection w (part_names p names)) (connection_names p names a) (λ m few. connection_is a m low (omega (arith, few, connections_long p names count a low)))));
      }

  -- where part a leads
  leads : (a : ℕ) → a < length (part_names p names) → Leads (neighbours w) (part_names p names) a
  leads a low = leads_by (connection_names p names a) refl
    where
      inside : a < p.atomics
      inside = omega (arith, low, parts_long p names count)

      leads_by : (cs : List ℕ) → connection_names p names a ≡ cs → Leads (neighbours w) (part_names p names) a
      leads_by [] is =
          let none : length (connection_names p names a) ≡ 0 = ap (λ (ns : List ℕ). length ns) is in
          absurd (omega (arith, none, connections_long p names count a inside, sound.connections))
      leads_by (c ∷ cs) is =
          let first : reference w c 3 ≡ slice_index (part_names p names) ((a + 1) % length (part_names p names)) =
          ap (λ (ns : List ℕ). reference w (slice_index ns 0) 3) (sym is) ∙ to_next a inside ∙ ap (λ (n : ℕ). slice_index (part_names p names) ((a + 1) % n)) (sym (parts_long p names count)) in
          record {
            others = map (λ (q : ℕ). reference w q 3) cs;
            is = ap (map (λ (q : ℕ). reference w q 3)) (part_items a inside ∙ is) ∙ (λ i. first i ∷ map (λ (q : ℕ). reference w q 3) cs);
          }

  once_parts : Once (part_names p names)
  once_parts n = let most = once n in omega (arith, most, times_take n p.atomics (drop 2 names), times_drop n 2 names)

  composite_here : w (slice_index names 0) ≡ Some (composite k (cond (slice_index nums 0 == 0) (2000 + slice_index nums 1) (slice_index nums 1)) (slice_index names 1) (slice_index names 2) (part_names p names))
  composite_here = before_connections.0

  document_here : w (slice_index names 1) ≡ Some (document k p.document (slice_index names 0) (slice_index (chunk_names p names) 0))
  document_here = before_connections.1.0

  whole : items w (slice_index names 0) ≡ part_names p names
  whole = ap (λ (o : Option Record). tail_in (λ (m : Fields). has_refs m.tail) o) composite_here

  document_is : document_of w (slice_index names 0) ≡ slice_index names 1
  document_is =
      ap (λ (o : Option Record). value_in o (Reference 2)) composite_here
      ∙ document_in k (cond (slice_index nums 0 == 0) (2000 + slice_index nums 1) (slice_index nums 1)) (slice_index names 1) (slice_index names 2) (part_names p names)

  root_is : root_part w (slice_index names 0) ≡ slice_index (part_names p names) 0
  root_is =
      ap (λ (o : Option Record). value_in o (Reference 3)) composite_here
      ∙ root_in k (cond (slice_index nums 0 == 0) (2000 + slice_index nums 1) (slice_index nums 1)) (slice_index names 1) (slice_index names 2) (part_names p names)
      ∙ sym (get_or-take p.atomics (drop 2 names) 0 0 sound.atomics ∙ get_or-drop 2 names 0 0)

  text_is : HasText w p.document (slice_index (chunk_names p names) 0) (get_or (chunk_names p names) (length (chunk_names p names) - 1) 0)
  text_is =
      subst (λ (n : ℕ). HasText w n (slice_index (chunk_names p names) 0) (get_or (chunk_names p names) (length (chunk_names p names) - 1) 0)) (documents_are_long k p.document)
      (has_text w (chunk_names p names) (repeated (document_line k) p.document) (text_bytes (document_line k) p.document (document_bytes k))
      (omega (arith, chunks_long p names count, sound.document)) text_long chunks_here)

  its_document : IsDocument w (slice_index names 0) (slice_index names 1)
  its_document = record {
    is = is_of w 5 (slice_index names 1) (ap (of_test 5) document_here);
    part = ap (λ (o : Option Record). value_in o (Reference 2)) document_here ∙ part_in k p.document (slice_index names 0) (slice_index (chunk_names p names) 0);
    last = get_or (chunk_names p names) (length (chunk_names p names) - 1) 0;
    text = subst (λ (n : ℕ). HasText w n (reference w (slice_index names 1) 3) (get_or (chunk_names p names) (length (chunk_names p names) - 1) 0))
        (sym (ap (λ (o : Option Record). value_in o (Word 1)) document_here ∙ long_in k p.document (slice_index names 0) (slice_index (chunk_names p names) 0)))
        (subst (λ (n : ℕ). HasText w p.document n (get_or (chunk_names p names) (length (chunk_names p names) - 1) 0))
        (sym (ap (λ (o : Option Record). value_in o (Reference 3)) document_here ∙ first_in k p.document (slice_index names 0) (slice_index (chunk_names p names) 0))) text_is);
  }

  all_met : AllByRecursion (λ (q : ℕ). is_among (parts_of w p.atomics (slice_index names 0)) q ≡ true) (part_names p names)
  all_met =
      all_places (λ (q : ℕ). is_among (parts_of w p.atomics (slice_index names 0)) q ≡ true) (part_names p names)
      (λ i low. ap (λ (n : ℕ). is_among (met_under (neighbours w) p.atomics [] n) (get_or (part_names p names) i 0)) root_is
      ∙ circle_met (neighbours w) (part_names p names) once_parts leads (get_or (part_names p names) i 0) (among_get (part_names p names) i low) p.atomics sound.atomics (parts_long p names count))

  pub is_made : IsMade w p names
  is_made = record {
    is = record {
      is = is_of w 4 (slice_index names 0) (ap (of_test 4) composite_here);
      document = subst (λ (n : ℕ). IsDocument w (slice_index names 0) n) (sym document_is) its_document;
      count = ap (λ (ns : List ℕ). length ns) whole ∙ parts_long p names count;
      parts = subst (λ (ns : List ℕ). AllByRecursion (IsAtomic w (slice_index names 0)) ns) (sym whole)
          (all_places (IsAtomic w (slice_index names 0)) (part_names p names) (λ a low. part_is (slice_index names 0) whole refl a (omega (arith, low, parts_long p names count))));
      root = (λ i. is_among (whole i) (root_is i)) ∙ part_among 0 sound.atomics;
      reached = subst (λ (ns : List ℕ). AllByRecursion (λ (q : ℕ). is_among (parts_of w p.atomics (slice_index names 0)) q ≡ true) ns) (sym whole) all_met;
    };
    parts = whole;
    document = document_is;
  }
