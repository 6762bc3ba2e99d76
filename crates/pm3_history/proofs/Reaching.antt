-- What is reached at an address is reached by name, and the other way round.
use Rattle.std.proofs.Common.{◌≡◌, ◌<◌, ◌≤◌, ◌+◌, ◌-◌, ◌∙◌, ◌&&◌, inl, inr, ℕ, true, List, get_or, length, nat_lt, Option, Some, None, IsSome, is_some, unwrap_or, refl, sym, ap, subst, arith}
use Rattle.std.specs.Prelude.{◌==◌, slice_get, slice_index, Contains}
use Rattle.std.specs.FinMap.{get}
use Rattle.std.proofs.lemmas.Bool.{cases_eq, cond-true, cond-false, ne_eqb, and_from}
use Rattle.std.proofs.lemmas.Bool.Decides.{nat_tests}
use Rattle.pm3_types.specs.Fields.{Fields, is_reference, has_refs}
use Rattle.pm3_types.specs.declared.type_map.Tail.{Tail}
use Rattle.pm3_types.specs.declared.type_map.Tail.TheVariants.{Empty, Refs, Bytes}
use Rattle.pm3_types.specs.declared.places.Place.{Place}
use Rattle.pm3_types.specs.declared.places.Place.TheVariants.{Reference, TailRef}
use Rattle.pm3_types.specs.Graph.{Part}
use Rattle.pm3_types.specs.Layout.{Sheet, type_in, tail_in, page_in, word_in}
use Rattle.pm3_types.specs.Objects.{is_object_at, RefersTo, RootIs, IsReachedAt}
use Rattle.pm3_types.specs.Objects as at
use Rattle.pm3_types.specs.PageForm.{IsReferenceIn, IsTailReference, map_at, tail_at}
use Rattle.pm3_types.specs.Places.{Refers, is_place_by, is_for_names, value_at}
use Rattle.pm3_types.specs.Reached.{Reached, root, next}
use Rattle.pm3_types.specs.Record.{Record}
use Rattle.pm3_types.specs.Shown.{Book, Images, IsKnown, FitsImages, name_by, list_of, field_of, tail_of, record_by, record_at, roots_in, shown}
use Rattle.pm3_types.proofs.Books.{shown_from}
use Rattle.pm3_types.proofs.PassCarried.{object_on}
use Rattle.pm3_history.proofs.Laying.{some_of, one_value}
use Rattle.pm3_history.proofs.Chronicles.{object_on_page}
use Rattle.pm3_history.proofs.Referring.{refers_word, type_is, list_of-item, list_of-length}
use Rattle.pm3_history.proofs.Replacing.{object_shown}

of_less : (m n : ℕ) → m < n → nat_lt m n ≡ true
of_less m n is = grind (arith, nat_tests)

-- a place for names of a record with this map, in which the name stands
NamePlace : Option Fields → Record → ℕ → Type 0
NamePlace o r n = (place : Place) × (is_place_by o r place ≡ true) × (is_for_names place ≡ true) × (value_at r place ≡ n)

module _ (book : Book) (words : List ℕ) (at_ head : ℕ) where
  tail_place : (tail : Tail) (from len k : ℕ) → IsTailReference tail len k
      → ((has_refs tail && nat_lt k (length (tail_of book tail words from len))) ≡ true)
      × (get_or (tail_of book tail words from len) k 0 ≡ name_by book (slice_index words (from + k)))
  tail_place Empty from len k is = absurd is
  tail_place Bytes from len k is = absurd is
  tail_place Refs from len k is =
      let f : ℕ → ℕ = λ j. name_by book (slice_index words (from + j)) in
      (of_less k (length (list_of len f)) (omega (arith, is, list_of-length f len)), list_of-item f len k 0 is)

  moved : (count k : ℕ) → count ≤ k → at_ + 2 + count + (k - count) ≡ at_ + 2 + k
  moved count k low = omega arith

  place_of : (o : Option Fields) (k : ℕ) → IsReferenceIn o (tail_in head) k
      → NamePlace o (record_by book o words at_ head) (name_by book (slice_index words (at_ + 2 + k)))
  unfolding NamePlace
  place_of None k is = absurd is
  place_of (Some fields) k (inl field) =
      let values : ℕ → ℕ = field_of book fields words at_ in
      let word : ℕ = slice_index words (at_ + 2 + k) in (
        Reference k,
        and_from (nat_lt k (length (list_of fields.count values))) (is_reference fields k)
            (of_less k (length (list_of fields.count values)) (omega (arith, field.0, list_of-length values fields.count))) field.1,
        refl,
        list_of-item values fields.count k 0 field.0 ∙ cond-true (is_reference fields k) (name_by book word) word field.1,
      )
  place_of (Some fields) k (inr item) =
      let found = tail_place fields.tail (at_ + 2 + fields.count) (tail_in head) (k - fields.count) item.1 in
      (TailRef (k - fields.count), found.0, refl, found.1 ∙ ap (λ (i : ℕ). name_by book (slice_index words i)) (moved fields.count k item.0))

-- an object's record refers to the name of each word in a reference place
pub word_refers : (catalog : List Fields) (book : Book) (words : List ℕ) (at_ k : ℕ)
    → IsReferenceIn (slice_get catalog (type_in (slice_index words at_))) (tail_in (slice_index words at_)) k
    → Refers catalog (record_at book catalog words at_) (name_by book (slice_index words (at_ + 2 + k)))
unfolding NamePlace
word_refers catalog book words at_ k is =
    let head : ℕ = slice_index words at_ in
    let o : Option Fields = slice_get catalog (type_in head) in
    let r : Record = record_by book o words at_ head in
    let found = place_of book words at_ head o k is in
    record {
      place = found.0;
      there = ap (λ (ty : ℕ). is_place_by (slice_get catalog ty) r found.0) (type_is book words head at_ o) ∙ found.1;
      for_names = found.2;
      value = found.3;
    }

module _ (catalog : List Fields) (base : ℕ) (book : Book) (images : Images) (fits : FitsImages catalog base book images)
    (placed : (a n : ℕ) → get book a ≡ Some n → is_some (get images (page_in base a)) ≡ true)
    (above : (q : ℕ) → is_some (get images q) ≡ true → 2 ≤ q) (rooted : is_some (get images 2) ≡ true) where
  abbrev part : Part
  part = shown catalog base book images

  object_there : (a n : ℕ) → get book a ≡ Some n → (sheet : Sheet) × (get images (page_in base a) ≡ Some sheet)
      × (get part.records n ≡ Some (record_at book catalog sheet.words (word_in base a)))
  object_there a n has = object_shown catalog base book images a n fits (placed a n has) has

  -- an object of the book begins where the book has it
  begins : (a n : ℕ) → get book a ≡ Some n → is_object_at base images a ≡ true
  begins a n has =
      let on = some_of (get images (page_in base a)) (placed a n has) in
      let place = fits.objects a n on.0 has on.1 in object_on base images a on.0 on.1 place.0 place.1

  -- no object of the book is at the address 0
  nowhere : (n : ℕ) → get book 0 ≡ Some n → ⊥
  unfolding page_in
  nowhere n has = (let low = above (page_in base 0) (placed 0 n has) in absurd (omega (arith, low)))

  named : (w n : ℕ) → get book w ≡ Some n → name_by book w ≡ n
  named w n has = elim (cases_eq w 0) [
    | inl e ↦ absurd (nowhere n (ap (get book) (sym e) ∙ has))
    | inr more ↦ cond-false (w == 0) 0 (unwrap_or (get book w) 0) (ne_eqb w 0 more) ∙ ap (λ (o : Option ℕ). unwrap_or o 0) has
  ]

  -- a known word with a name that is there has that name in the book
  of_name : (w n : ℕ) → IsKnown book w → name_by book w ≡ n → IsSome (get part.records n) → get book w ≡ Some n
  of_name w n (inl e) is there =
      let zero_is : 0 ≡ n = sym (ap (name_by book) e) ∙ is in
      let x = some_of (get part.records n) there in
      let from = shown_from catalog base book images n x.0 x.1 in
      absurd (fits.named from.0 n from.1 (sym zero_is))
  of_name w n (inr is) named_ there =
      let has = some_of (get book w) is in has.1 ∙ ap Some (sym (named w has.0 has.1) ∙ named_)

  at_nothing : is_object_at base images 0 ≡ true → ⊥
  unfolding page_in
  at_nothing is = (let low = above (page_in base 0) (object_on_page base images 0 is) in absurd (omega (arith, low)))

  -- an object at a known word is one of the book
  known_object : (w : ℕ) → IsKnown book w → is_object_at base images w ≡ true → (n : ℕ) × (get book w ≡ Some n)
  known_object w (inr is) object = some_of (get book w) is
  known_object w (inl e) object = absurd (at_nothing (subst (λ (v : ℕ). is_object_at base images v ≡ true) e object))

  roots_are : (sheet : Sheet) → get images 2 ≡ Some sheet → part.roots ≡ Some (list_of 16 (λ slot. name_by book (slice_index sheet.words (2 + slot))))
  roots_are sheet on = ap (roots_in catalog base book images) on

  pub root_reached : (slot n : ℕ) (sheet : Sheet) → slot < 16 → get images 2 ≡ Some sheet → get book (slice_index sheet.words (2 + slot)) ≡ Some n → Reached catalog part n
  root_reached slot n sheet low on has =
      let f : ℕ → ℕ = λ s. name_by book (slice_index sheet.words (2 + s)) in
      let item : get_or (list_of 16 f) slot n ≡ n = list_of-item f 16 slot n low ∙ named (slice_index sheet.words (2 + slot)) n has in
      root (list_of 16 f) n (roots_are sheet on) (slot, omega (arith, low, list_of-length f 16), item)
      (ap is_some (object_there (slice_index sheet.words (2 + slot)) n has).2)

  pub next_reached : (a m k n : ℕ) (sheet : Sheet) → get book a ≡ Some m → Reached catalog part m → get images (page_in base a) ≡ Some sheet
      → IsReferenceIn (map_at catalog sheet (word_in base a)) (tail_at sheet (word_in base a)) k
      → get book (slice_index sheet.words (word_in base a + 2 + k)) ≡ Some n → Reached catalog part n
  next_reached a m k n sheet has up on reference is =
      let w : ℕ = slice_index sheet.words (word_in base a + 2 + k) in
      let object = object_there a m has in
      let same : object.0 ≡ sheet = one_value (get images (page_in base a)) object.0 sheet object.1 on in
      let r : Record = record_at book catalog sheet.words (word_in base a) in
      let is_record : get part.records m ≡ Some r = object.2 ∙ ap (λ (s : Sheet). Some (record_at book catalog s.words (word_in base a))) same in
      let refers : Refers catalog r n = subst (λ (x : ℕ). Refers catalog r x) (named w n is) (word_refers catalog book sheet.words (word_in base a) k reference) in
      next m n r up is_record refers (ap is_some (object_there w n is).2)

  -- an object that is reached at its address is one of the book, and is reached by its name
  pub address_reached : (a : ℕ) → IsReachedAt catalog base images a → (n : ℕ) × (get book a ≡ Some n) × Reached catalog part n
  address_reached a (at.root _ from object) =
      let known : IsKnown book a = subst (λ (w : ℕ). IsKnown book w) from.is (fits.roots from.slot from.sheet from.low from.on) in
      let has = known_object a known object in
      (has.0, has.1, root_reached from.slot has.0 from.sheet from.low from.on (ap (get book) from.is ∙ has.1))
  address_reached b (at.next a _ before refers object) =
      let up = address_reached a before in
      let known : IsKnown book b = subst (λ (w : ℕ). IsKnown book w) refers.is (fits.references a up.0 refers.place refers.sheet up.1 refers.on refers.reference) in
      let has = known_object b known object in
      (has.0, has.1, next_reached a up.0 refers.place has.0 refers.sheet up.1 up.2 refers.on refers.reference (ap (get book) refers.is ∙ has.1))

  root_at : (names : List ℕ) (n : ℕ) → part.roots ≡ Some names → Contains names n → IsSome (get part.records n) → (a : ℕ) × (get book a ≡ Some n) × IsReachedAt catalog base images a
  root_at names n is among there =
      let on = some_of (get images 2) rooted in
      let f : ℕ → ℕ = λ s. name_by book (slice_index on.0.words (2 + s)) in
      let same : names ≡ list_of 16 f = one_value part.roots names (list_of 16 f) is (roots_are on.0 on.1) in
      let found : Contains (list_of 16 f) n = subst (λ (ns : List ℕ). Contains ns n) same among in
      let low : found.0 < 16 = omega (arith, found.1, list_of-length f 16) in
      let w : ℕ = slice_index on.0.words (2 + found.0) in
      let has : get book w ≡ Some n = of_name w n (fits.roots found.0 on.0 low on.1) (sym (list_of-item f 16 found.0 n low) ∙ found.2) there in
      (w, has, at.root w (record { sheet = on.0; slot = found.0; on = on.1; low = low; is = refl }) (begins w n has))

  next_at : (m n : ℕ) (r : Record) → (a : ℕ) × (get book a ≡ Some m) × IsReachedAt catalog base images a → get part.records m ≡ Some r → Refers catalog r n
      → IsSome (get part.records n) → (a : ℕ) × (get book a ≡ Some n) × IsReachedAt catalog base images a
  next_at m n r up is refers there =
      let a : ℕ = up.0 in
      let object = object_there a m up.1 in
      let same : r ≡ record_at book catalog object.0.words (word_in base a) =
      one_value (get part.records m) r (record_at book catalog object.0.words (word_in base a)) is object.2 in
      let word = refers_word catalog book object.0.words (word_in base a) n (subst (λ (y : Record). Refers catalog y n) same refers) in
      let w : ℕ = slice_index object.0.words (word_in base a + 2 + word.0) in
      let has : get book w ≡ Some n = of_name w n (fits.references a m word.0 object.0 up.1 object.1 word.1) word.2 there in (
        w,
        has,
        at.next a w up.2 (record { sheet = object.0; place = word.0; on = object.1; reference = word.1; is = refl }) (begins w n has),
      )

  -- what is reached by its name is an object of the book that is reached at its address
  pub name_reached : (n : ℕ) → Reached catalog part n → (a : ℕ) × (get book a ≡ Some n) × IsReachedAt catalog base images a
  name_reached n (root names _ is among there) = root_at names n is among there
  name_reached n (next m _ r up is refers there) = next_at m n r (name_reached m up) is refers there
