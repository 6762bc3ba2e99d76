-- The entries of a build's trees: which objects they have, under which keys, in order.
use Rattle.std.proofs.Common.{◌≡◌, ◌+◌, ℕ, zero, suc, List, [], ◌∷◌, ◌++◌, Bool, true, false, cond, Option, Some, refl, sym, arith, ap, subst, ◌∙◌, map}
use Rattle.std.specs.Prelude.{◌==◌, flat_map, fold, slice_index}
use Rattle.std.specs.List.{AllByRecursion, range_with_len}
use Rattle.std.proofs.lemmas.List.{append-nil}
use Rattle.pm3_types.specs.declared.places.Place.TheVariants.{Word}
use Rattle.pm3_types.specs.Fields.{is_reference}
use Rattle.pm3_types.specs.Record.{Record}
use Rattle.oo7_schema.specs.declared.sizes.Params.{Params}
use Rattle.oo7_schema.specs.Lookup.{Look, value_in, word}
use Rattle.oo7_schema.specs.Entries.{Entry, objects, with_entry, times, AreRising, Holds}
use Rattle.oo7_schema.specs.Texts.{repeated, document_line, chunk_objects}
use Rattle.oo7_schema.specs.Composites.{composite_object, document_object, part_object, connection_by, connection_objects, composite_objects, part_names, connection_names, chunk_names, connection_draws}
use Rattle.oo7_schema.specs.Sized.{entered, in_order}
use Rattle.oo7_schema.proofs.Coming.{entries_come}
use Rattle.oo7_schema.proofs.Holding.{times_join, put_in, keys_with, self_as_flat}
use Rattle.oo7_schema.proofs.Pieces.{all_makes, all_flat_makes}
use Rattle.oo7_schema.proofs.Making.{Placed}
use Rattle.oo7_schema.proofs.Naming.{named}

-- entries put in order have the objects that they had
pub ordered : (own : ℕ → List ℕ) (es sorted : List Entry) (n : ℕ)
    → times n (flat_map own (objects (fold (λ (ds : List Entry) (e : Entry). with_entry e.0 e.1 ds) sorted es))) ≡ times n (flat_map own (objects es)) + times n (flat_map own (objects sorted))
ordered own [] sorted n = omega arith
ordered own (e ∷ es) sorted n =
    omega (
      arith,
      ordered own es (with_entry e.0 e.1 sorted) n,
      put_in own e.0 e.1 sorted n,
      times_join n (own e.1) (flat_map own (objects sorted)),
      times_join n (own e.1) (flat_map own (objects es)),
    )

-- an entry stands under its object's word
abbrev pub Keyed : Look → ℕ → Entry → Type 0
Keyed look f e = e.0 ≡ word look e.1 f

keys_ordered : (look : Look) (f : ℕ) (es sorted : List Entry) → AllByRecursion (Keyed look f) es → AllByRecursion (Keyed look f) sorted
    → AllByRecursion (Keyed look f) (fold (λ (ds : List Entry) (e : Entry). with_entry e.0 e.1 ds) sorted es)
keys_ordered look f [] sorted keys before = before
keys_ordered look f (e ∷ es) sorted keys before = keys_ordered look f es (with_entry e.0 e.1 sorted) keys.1 (keys_with (λ (n : ℕ). word look n f) e.0 e.1 sorted keys.0 before)

rising_ordered : (es sorted : List Entry) → AreRising sorted → AreRising (fold (λ (ds : List Entry) (e : Entry). with_entry e.0 e.1 ds) sorted es)
rising_ordered [] sorted before = before
rising_ordered (e ∷ es) sorted before = rising_ordered es (with_entry e.0 e.1 sorted) ((entries_come e.0 e.1 sorted).rising before)

pub in_order_objects : (es : List Entry) (n : ℕ) → times n (objects (in_order es)) ≡ times n (objects es)
in_order_objects es n =
    ap (times n) (self_as_flat (objects (in_order es))) ∙ ordered (λ (m : ℕ). m ∷ []) es [] n
    ∙ (let same : times n (flat_map (λ (m : ℕ). m ∷ []) (objects es)) ≡ times n (objects es) = ap (times n) (sym (self_as_flat (objects es))) in omega (arith, same))

pub in_order_holds : (look : Look) (f : ℕ) (ns : List ℕ) (es : List Entry) → AllByRecursion (Keyed look f) es → ((n : ℕ) → times n (objects es) ≡ times n ns)
    → Holds (λ (n : ℕ). word look n f) ns (in_order es)
in_order_holds look f ns es keys same = record {
  same = λ n. in_order_objects es n ∙ same n;
  keys = keys_ordered look f es [] keys tt;
  rising = rising_ordered es [] tt;
}

-- of joined lists, and of objects that are all of a class, or none
pub entered_join : (class f : ℕ) (os qs : List (ℕ × Record)) → entered class f (os ++ qs) ≡ entered class f os ++ entered class f qs
entered_join class f [] qs = refl
entered_join class f (o ∷ os) qs = by_test (o.1.ty == class) (entered_join class f os qs)
  where
    by_test : (b : Bool) → entered class f (os ++ qs) ≡ entered class f os ++ entered class f qs
        → cond b ((slice_index o.1.fields f, o.0) ∷ entered class f (os ++ qs)) (entered class f (os ++ qs)) ≡ cond b ((slice_index o.1.fields f, o.0) ∷ entered class f os) (entered class f os) ++ entered class f qs
    by_test true rest = ap (λ (es : List Entry). (slice_index o.1.fields f, o.0) ∷ es) rest
    by_test false rest = rest

pub entered_flat : (class f : ℕ) (make : ℕ → List (ℕ × Record)) (ks : List ℕ) → entered class f (flat_map make ks) ≡ flat_map (λ (k : ℕ). entered class f (make k)) ks
entered_flat class f make [] = refl
entered_flat class f make (k ∷ ks) = entered_join class f (make k) (flat_map make ks) ∙ ap (λ (es : List Entry). entered class f (make k) ++ es) (entered_flat class f make ks)

pub entry_of : ℕ → ℕ × Record → Entry
entry_of f o = (slice_index o.1.fields f, o.0)

entered_all : (class f : ℕ) (os : List (ℕ × Record)) → AllByRecursion (λ (o : ℕ × Record). (o.1.ty == class) ≡ true) os → entered class f os ≡ map (entry_of f) os
unfolding entry_of
entered_all class f [] all = refl
entered_all class f (o ∷ os) all =
    ap (λ (b : Bool). cond b ((slice_index o.1.fields f, o.0) ∷ entered class f os) (entered class f os)) all.0 ∙ ap (λ (es : List Entry). (slice_index o.1.fields f, o.0) ∷ es) (entered_all class f os all.1)

entered_none : (class f : ℕ) (os : List (ℕ × Record)) → AllByRecursion (λ (o : ℕ × Record). (o.1.ty == class) ≡ false) os → entered class f os ≡ []
entered_none class f [] all = refl
entered_none class f (o ∷ os) all = ap (λ (b : Bool). cond b ((slice_index o.1.fields f, o.0) ∷ entered class f os) (entered class f os)) all.0 ∙ entered_none class f os all.1

pub entry_objects : (f : ℕ) (os : List (ℕ × Record)) → objects (map (entry_of f) os) ≡ named os
unfolding entry_of
entry_objects f [] = refl
entry_objects f (o ∷ os) = λ i. o.0 ∷ entry_objects f os i

-- the entries of a composite part's objects
module _ (p : Params) (k : ℕ) (names nums : List ℕ) where
  -- connections and chunks have no entry
  connections_apart : (class : ℕ) → (7 == class) ≡ false → AllByRecursion (λ (o : ℕ × Record). (o.1.ty == class) ≡ false) (flat_map (connection_objects p names nums) (range_with_len 0 p.atomics))
  connections_apart class other =
      all_flat_makes (λ (o : ℕ × Record). (o.1.ty == class) ≡ false) (connection_objects p names nums)
      (λ a. all_makes (λ (o : ℕ × Record). (o.1.ty == class) ≡ false) (λ (m : ℕ). (slice_index (connection_names p names a) m, connection_by (part_names p names) p.atomics a m (connection_draws p nums a m))) (each a) 0 p.connections)
      0 p.atomics
    where
      each : (a m : ℕ) → ((connection_by (part_names p names) p.atomics a m (connection_draws p nums a m)).ty == class) ≡ false
      each a zero = other
      each a (suc m) = other

  chunks_apart : (class : ℕ) → (8 == class) ≡ false → (text : List ℕ) → AllByRecursion (λ (o : ℕ × Record). (o.1.ty == class) ≡ false) (chunk_objects (chunk_names p names) text)
  chunks_apart class other text = all_makes (λ (o : ℕ × Record). (o.1.ty == class) ≡ false) _ (λ i. other) 0 _

  entered_front : (class f : ℕ) → (7 == class) ≡ false → (8 == class) ≡ false
      → entered class f (composite_objects p k names nums) ≡ entered class f (composite_object p k names nums ∷ document_object p k names ∷ map (part_object p k names nums) (range_with_len 0 p.atomics))
  entered_front class f other another =
      entered_join class f ((composite_object p k names nums ∷ document_object p k names ∷ map (part_object p k names nums) (range_with_len 0 p.atomics)) ++ flat_map (connection_objects p names nums) (range_with_len 0 p.atomics))
      (chunk_objects (chunk_names p names) (repeated (document_line k) p.document))
      ∙ (λ i. entered_join class f (composite_object p k names nums ∷ document_object p k names ∷ map (part_object p k names nums) (range_with_len 0 p.atomics)) (flat_map (connection_objects p names nums) (range_with_len 0 p.atomics)) i
      ++ entered_none class f (chunk_objects (chunk_names p names) (repeated (document_line k) p.document)) (chunks_apart class another (repeated (document_line k) p.document)) i)
      ∙ append-nil (entered class f (composite_object p k names nums ∷ document_object p k names ∷ map (part_object p k names nums) (range_with_len 0 p.atomics)) ++ entered class f (flat_map (connection_objects p names nums) (range_with_len 0 p.atomics)))
      ∙ ap (λ (es : List Entry). entered class f (composite_object p k names nums ∷ document_object p k names ∷ map (part_object p k names nums) (range_with_len 0 p.atomics)) ++ es)
      (entered_none class f (flat_map (connection_objects p names nums) (range_with_len 0 p.atomics)) (connections_apart class other))
      ∙ append-nil (entered class f (composite_object p k names nums ∷ document_object p k names ∷ map (part_object p k names nums) (range_with_len 0 p.atomics)))

  no_parts : (class f : ℕ) → (6 == class) ≡ false → entered class f (map (part_object p k names nums) (range_with_len 0 p.atomics)) ≡ []
  no_parts class f other =
      entered_none class f (map (part_object p k names nums) (range_with_len 0 p.atomics)) (all_makes (λ (o : ℕ × Record). (o.1.ty == class) ≡ false) (part_object p k names nums) (λ i. other) 0 p.atomics)

  pub its_entry : entered 4 0 (composite_objects p k names nums) ≡ (k, slice_index names 0) ∷ []
  its_entry = entered_front 4 0 refl refl ∙ ap (λ (es : List Entry). (k, slice_index names 0) ∷ es) (no_parts 4 0 refl)

  pub its_title : entered 5 0 (composite_objects p k names nums) ≡ (k, slice_index names 1) ∷ []
  its_title = entered_front 5 0 refl refl ∙ ap (λ (es : List Entry). (k, slice_index names 1) ∷ es) (no_parts 5 0 refl)

  pub its_parts : (f : ℕ) → entered 6 f (composite_objects p k names nums) ≡ map (entry_of f) (map (part_object p k names nums) (range_with_len 0 p.atomics))
  its_parts f =
      entered_front 6 f refl refl
      ∙ entered_all 6 f (map (part_object p k names nums) (range_with_len 0 p.atomics)) (all_makes (λ (o : ℕ × Record). (o.1.ty == 6) ≡ true) (part_object p k names nums) (λ i. refl) 0 p.atomics)

  -- and the words under which they stand
  keys_from : (look : Look) (f : ℕ) (os : List (ℕ × Record)) → AllByRecursion (λ (o : ℕ × Record). slice_index o.1.fields f ≡ word look o.0 f) os → AllByRecursion (Keyed look f) (map (entry_of f) os)
  unfolding entry_of
  keys_from look f [] all = tt
  keys_from look f (o ∷ os) all = (all.0, keys_from look f os all.1)

  pub parts_keyed : (look : Look) (f : ℕ) → ((a : ℕ) → value_in (Some (part_object p k names nums a).1) (Word f) ≡ slice_index (part_object p k names nums a).1.fields f)
      → AllByRecursion (Placed look) (map (part_object p k names nums) (range_with_len 0 p.atomics)) → AllByRecursion (Keyed look f) (entered 6 f (composite_objects p k names nums))
  parts_keyed look f says placed =
      subst (λ (es : List Entry). AllByRecursion (Keyed look f) es) (sym (its_parts f))
      (keys_from look f (map (part_object p k names nums) (range_with_len 0 p.atomics)) (all_words 0 p.atomics placed))
    where
      all_words : (s n : ℕ) → AllByRecursion (Placed look) (map (part_object p k names nums) (range_with_len s n))
          → AllByRecursion (λ (o : ℕ × Record). slice_index o.1.fields f ≡ word look o.0 f) (map (part_object p k names nums) (range_with_len s n))
      all_words s zero all = tt
      all_words s (suc n) all = (sym (ap (λ (o : Option Record). value_in o (Word f)) all.0 ∙ says s), all_words (s + 1) n all.1)

  pub id_says : (a : ℕ) → value_in (Some (part_object p k names nums a).1) (Word 0) ≡ slice_index (part_object p k names nums a).1.fields 0
  unfolding is_reference
  id_says a = refl

  pub date_says : (a : ℕ) → value_in (Some (part_object p k names nums a).1) (Word 2) ≡ slice_index (part_object p k names nums a).1.fields 2
  unfolding is_reference
  date_says a = refl

  pub number_says : value_in (Some (composite_object p k names nums).1) (Word 0) ≡ k
  unfolding is_reference
  number_says = refl

  pub title_says : value_in (Some (document_object p k names).1) (Word 0) ≡ k
  unfolding is_reference
  title_says = refl
