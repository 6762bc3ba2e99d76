-- The references of an object, place by place.
use Rattle.std.proofs.Common.{◌≡◌, ◌<◌, ◌≤◌, ◌+◌, ◌-◌, ◌++◌, ◌||◌, ℕ, zero, suc, Bool, true, false, cond, eqb, List, [], ◌∷◌, map, Option, Some, refl, sym, ap, subst, ◌∙◌, arith, inl, inr, append_assoc}
use Rattle.std.specs.Prelude.{slice_get, slice_index}
use Rattle.std.specs.FinMap.{get}
use Rattle.std.specs.List.{range_with_len}
use Rattle.std.proofs.lemmas.Bool.{cases_lt, cond-true, cond-false, eq-eqb, le-ltb, lt-ltb}
use Rattle.std.proofs.lemmas.List.{append-nil}
use Rattle.std.proofs.lemmas.List.Folds.{list_any-append}
use Rattle.pm3_core.specs.declared.naming.TheConstants.{BASE}
use Rattle.pm3_disk.specs.declared.outside.Reader.{Ghosts}
use Rattle.pm3_types.specs.declared.type_map.Tail.{Tail}
use Rattle.pm3_types.specs.declared.type_map.Tail.TheVariants.{Empty, Refs, Bytes}
use Rattle.pm3_types.specs.Fields.{Fields, has_refs, is_reference}
use Rattle.pm3_types.specs.Layout.{PageImage, begins_at, is_start, page_in, size_by, tail_in, tail_words, type_in, word_in}
use Rattle.pm3_types.specs.Numbering.{is_among, meet, names_in_by, names_in_fields, names_of}
use Rattle.pm3_types.specs.PageForm.{HasObjects, IsReferenceIn, IsSound, IsTailReference, is_memory_reference}
use Rattle.pm3_types.specs.Record.{Record}
use Rattle.pm3_types.proofs.FormedObjects.{objects_of, start_of, whole_start}
use Rattle.pm3_page.specs.PageMap.{Images}
use Rattle.oo7_dump.specs.Held.{IsHeld}
use Rattle.oo7_dump.specs.Loads.{Loads}
use Rattle.oo7_dump.specs.Places.{HasPlaces, is_place, place_word, places_of, references_in, word_on}
use Rattle.oo7_dump.specs.Raw.{raw_by, raw_items}
use Rattle.oo7_dump.specs.declared.faults.DumpFault.{DumpFault}
use Rattle.oo7_dump.proofs.Listed.{choice_first}
use Rattle.oo7_dump.proofs.MeetingOne.{meet_both, raw_there}

or_true : (b : Bool) → b || true ≡ true
or_true true = refl
or_true false = refl

among_front : (xs ys : List ℕ) (n : ℕ) → is_among xs n ≡ true → is_among (xs ++ ys) n ≡ true
among_front xs ys n is = list_any-append (λ m. eqb n m) xs ys ∙ ap (λ (b : Bool). b || is_among ys n) is

among_last : (xs : List ℕ) (n : ℕ) → is_among (xs ++ n ∷ []) n ≡ true
among_last xs n =
    list_any-append (λ m. eqb n m) xs (n ∷ []) ∙ ap (λ (b : Bool). is_among xs n || (b || false)) (eq-eqb n n refl) ∙ or_true (is_among xs n)

module _ (m : Fields) (g : ℕ → ℕ) where
  -- the reference of a place is among those of more places
  pub place_among : (places place : ℕ) → place < places → is_place m place ≡ true → is_among (references_in m g places) (g place) ≡ true
  place_among zero place below is = absurd (omega arith)
  place_among (suc n) place below is = elim (cases_lt place n) [
    | inl before ↦ among_front (references_in m g n) _ (g place) (place_among n place before is)
    | inr last ↦
        let same : n ≡ place = omega arith in
        subst (λ (k : ℕ). is_among (references_in m g k ++ cond (is_place m k) (g k ∷ []) []) (g place) ≡ true) (sym same)
        (ap (λ (b : Bool). is_among (references_in m g place ++ cond b (g place ∷ []) []) (g place)) is ∙ among_last (references_in m g place) (g place))
  ]

  one_more : (place : ℕ) → references_in m g (place + 1) ≡ references_in m g place ++ cond (is_place m place) (g place ∷ []) []
  one_more place = let next : place + 1 ≡ suc place = omega arith in ap (references_in m g) next

  -- one more place
  pub meets_place : (A : ℕ → Option Record) (met before now : List ℕ) (place w : ℕ) → w ≡ g place → before ≡ meet A met (references_in m g place)
      → now ≡ meet A before (cond (is_place m place) (w ∷ []) []) → now ≡ meet A met (references_in m g (place + 1))
  meets_place A met before now place w same so_far is =
      is ∙ ap (λ (n : ℕ). meet A before (cond (is_place m place) (n ∷ []) [])) same
      ∙ ap (λ (l : List ℕ). meet A l (cond (is_place m place) (g place ∷ []) [])) so_far
      ∙ sym (meet_both A met (references_in m g place) (cond (is_place m place) (g place ∷ []) []))
      ∙ ap (meet A met) (sym (one_more place))

  field_more : (i : ℕ) → i < m.count → references_in m g (i + 1) ≡ references_in m g i ++ cond (is_reference m i) (g i ∷ []) []
  field_more i within =
      one_more i ∙ ap (λ (b : Bool). references_in m g i ++ cond b (g i ∷ []) []) (cond-true _ (is_reference m i) true (lt-ltb i m.count within))

  -- the references of the first places, and then those of the fields that are left
  fields_behind : (k i : ℕ) → i + k ≤ m.count → references_in m g i ++ names_in_fields m i (map g (range_with_len i k)) ≡ references_in m g (i + k)
  fields_behind zero i within =
      let none : i ≡ i + 0 = omega arith in
      append-nil (references_in m g i) ∙ ap (references_in m g) none
  fields_behind (suc k) i within =
      let sum : i + 1 + k ≡ i + suc k = omega arith in
      sym (choice_first (is_reference m i) (g i) (references_in m g i) (names_in_fields m (i + 1) (map g (range_with_len (i + 1) k))) (references_in m g (i + 1)) (field_more i (omega arith)))
      ∙ fields_behind k (i + 1) (omega arith) ∙ ap (references_in m g) sum

  item_more : (j x : ℕ) → x ≡ g (m.count + j) → references_in m g (m.count + j) ++ x ∷ [] ≡ references_in m g (m.count + (j + 1))
  item_more j x is =
      let past : m.count ≤ m.count + j = omega arith in
      let next : m.count + j + 1 ≡ m.count + (j + 1) = omega arith in
      ap (λ (n : ℕ). references_in m g (m.count + j) ++ n ∷ []) is
      ∙ sym (ap (λ (b : Bool). references_in m g (m.count + j) ++ cond b (g (m.count + j) ∷ []) []) (cond-false _ (is_reference m (m.count + j)) true (le-ltb (m.count + j) m.count past)))
      ∙ sym (one_more (m.count + j)) ∙ ap (references_in m g) next

  -- those of all fields and of the first places behind them, and then those of the tail that are left
  tail_behind : (h : ℕ → ℕ) → ((j : ℕ) → h j ≡ g (m.count + j)) → (n j : ℕ) → references_in m g (m.count + j) ++ map h (range_with_len j n) ≡ references_in m g (m.count + (j + n))
  tail_behind h same zero j =
      let none : m.count + j ≡ m.count + (j + 0) = omega arith in
      append-nil (references_in m g (m.count + j)) ∙ ap (references_in m g) none
  tail_behind h same (suc n) j =
      let sum : m.count + (j + 1 + n) ≡ m.count + (j + suc n) = omega arith in
      sym (append_assoc (references_in m g (m.count + j)) (h j ∷ []) (map h (range_with_len (j + 1) n)))
      ∙ ap (λ (l : List ℕ). l ++ map h (range_with_len (j + 1) n)) (item_more j (h j) (same j))
      ∙ tail_behind h same n (j + 1) ∙ ap (references_in m g) sum

  all_fields : names_in_fields m 0 (map g (range_with_len 0 m.count)) ≡ references_in m g m.count
  all_fields = let sum : 0 + m.count ≡ m.count = omega arith in fields_behind m.count 0 (omega arith) ∙ ap (references_in m g) sum

module _ (m : Fields) (words : List ℕ) (at : ℕ) where
  behind : (t : Tail) (len : ℕ) → references_in m (λ k. slice_index words (at + 2 + k)) m.count ++ cond (has_refs t) (raw_items t words (at + 2 + m.count) len) []
      ≡ references_in m (λ k. slice_index words (at + 2 + k)) (m.count + cond (has_refs t) len 0)
  behind Empty len =
      let none : m.count ≡ m.count + 0 = omega arith in
      append-nil _ ∙ ap (references_in m (λ k. slice_index words (at + 2 + k))) none
  behind Refs len =
      let none : m.count ≡ m.count + 0 = omega arith in
      let sum : m.count + (0 + len) ≡ m.count + len = omega arith in
      ap (λ (n : ℕ). references_in m (λ k. slice_index words (at + 2 + k)) n ++ raw_items Refs words (at + 2 + m.count) len) none
      ∙ tail_behind m (λ k. slice_index words (at + 2 + k)) (λ k. slice_index words (at + 2 + m.count + k))
      (λ j. let there : at + 2 + m.count + j ≡ at + 2 + (m.count + j) = omega arith in ap (slice_index words) there) len 0
      ∙ ap (references_in m (λ k. slice_index words (at + 2 + k))) sum
  behind Bytes len =
      let none : m.count ≡ m.count + 0 = omega arith in
      append-nil _ ∙ ap (references_in m (λ k. slice_index words (at + 2 + k))) none

  names_placed : (head : ℕ) → names_in_by (Some m) (raw_by (Some m) words at head) ≡ references_in m (λ k. slice_index words (at + 2 + k)) (places_of m (tail_in head))
  names_placed head =
      ap (λ (l : List ℕ). l ++ cond (has_refs m.tail) (raw_items m.tail words (at + 2 + m.count) (tail_in head)) []) (all_fields m (λ k. slice_index words (at + 2 + k)))
      ∙ behind m.tail (tail_in head)

-- a place that has a reference is one of those whose form is known
place_refers : (m : Fields) (t : Tail) (len place : ℕ) → m.tail ≡ t → place < m.count + cond (has_refs t) len 0 → is_place m place ≡ true → IsReferenceIn (Some m) len place
place_refers m t len place tail below is = elim (cases_lt place m.count) [
  | inl field ↦ inl (field, sym (cond-true _ (is_reference m place) true (lt-ltb place m.count field)) ∙ is)
  | inr past ↦ inr (past, subst (λ (x : Tail). IsTailReference x len (place - m.count)) (sym tail) (item t below past))
]
  where
    item : (t : Tail) → place < m.count + cond (has_refs t) len 0 → m.count ≤ place → IsTailReference t len (place - m.count)
    item Empty below past = absurd (omega arith)
    item Refs below past = omega arith
    item Bytes below past = absurd (omega arith)

few_places : (t : Tail) (len : ℕ) → cond (has_refs t) len 0 ≤ tail_words t len
few_places Empty len = omega arith
few_places Refs len = omega arith
few_places Bytes len = omega arith

-- the places of an object on an image that is held
pub places_held : (catalog : List Fields) (pages : ℕ) (images : Images) (image : PageImage) (at : ℕ) (m : Fields) → get images (page_in BASE at) ≡ Some image
    → begins_at BASE image at ≡ true → IsSound catalog BASE pages image → slice_get catalog (type_in (slice_index image.sheet.words (word_in BASE at))) ≡ Some m
    → HasPlaces catalog pages images at m (places_of m (tail_in (slice_index image.sheet.words (word_in BASE at))))
places_held catalog pages images image at m on begins sound of = record {
  names = λ all among.
      ap (names_of catalog) (raw_there catalog pages images all image at among on begins sound)
      ∙ named (slice_get catalog (type_in head)) of
      ∙ ap (λ (o : Option PageImage). references_in m (λ k. word_on o (word_in BASE at + 2 + k)) (places_of m (tail_in head))) (sym on);
  within = (let few = few_places m.tail (tail_in head) in omega (arith, few, fits));
  refer = λ place below is.
      ap (λ (o : Option PageImage). is_memory_reference BASE pages (word_on o (word_in BASE at + 2 + place))) on
      ∙ objects.references (word_in BASE at) place start (subst (λ (o : Option Fields). IsReferenceIn o (tail_in head) place) (sym of) (place_refers m m.tail (tail_in head) place refl below is));
}
  where
    head : ℕ
    head = slice_index image.sheet.words (word_in BASE at)

    start : is_start image.sheet (word_in BASE at) ≡ true
    start = start_of BASE image at begins

    objects : HasObjects catalog (is_memory_reference BASE pages) image.page image.sheet
    objects = (objects_of catalog (is_memory_reference BASE pages) image.page image.sheet (word_in BASE at) sound start).1

    fits : word_in BASE at + size_by (Some m) (tail_in head) ≤ 512
    fits = subst (λ (o : Option Fields). word_in BASE at + size_by o (tail_in head) ≤ 512) of
        (whole_start catalog (is_memory_reference BASE pages) image.page image.sheet (word_in BASE at) sound start).within

    named : (o : Option Fields) → o ≡ Some m → names_in_by o (raw_by o image.sheet.words (word_in BASE at) head)
        ≡ references_in m (λ k. slice_index image.sheet.words (word_in BASE at + 2 + k)) (places_of m (tail_in head))
    named o is = subst (λ (o : Option Fields). names_in_by o (raw_by o image.sheet.words (word_in BASE at) head)
        ≡ references_in m (λ k. slice_index image.sheet.words (word_in BASE at + 2 + k)) (places_of m (tail_in head))) (sym is) (names_placed m image.sheet.words (word_in BASE at) head)

-- the words of an object stay while pages are loaded
pub same_word : {R : Type 0} (g : Ghosts R) (catalog : List Fields) (pages : ℕ) (old new : R) (held now : Images) (fault : Option DumpFault) (at place : ℕ)
    → Loads g catalog pages old new held now fault → IsHeld held at → place_word now at place ≡ place_word held at place
same_word g catalog pages old new held now fault at place loads is =
    ap (λ (o : Option PageImage). word_on o (word_in BASE at + 2 + place)) (loads.kept (page_in BASE at) is.image is.on)
    ∙ sym (ap (λ (o : Option PageImage). word_on o (word_in BASE at + 2 + place)) is.on)
