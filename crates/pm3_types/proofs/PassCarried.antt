-- What images show under the new book once objects have new addresses.
use Rattle.std.proofs.Common.{◌≡◌, ◌≢◌, ◌<◌, ◌+◌, ◌∙◌, inl, inr, ℕ, true, List, get_or, Option, Some, None, is_some, unwrap_or, slice_get, refl, sym, ap, subst, arith}
use Rattle.std.specs.FinMap.{get}
use Rattle.std.proofs.lemmas.Bool.{cases_Bool, cases_eq, cond-true, cond-false, and_parts, and_from, false≢true, ne_eqb}
use Rattle.pm3_types.specs.Fields.{Fields}
use Rattle.pm3_types.specs.Record.{Record}
use Rattle.pm3_types.specs.Layout.{Sheet, type_in, tail_in, page_in, word_in, is_address, is_unmoved}
use Rattle.pm3_types.specs.Objects.{is_object_at, is_unmoved_on}
use Rattle.pm3_types.specs.PageForm.{IsReferenceIn, map_at, tail_at}
use Rattle.pm3_types.specs.PassShown.{IsBookAfter, IsCopy, AreCarried, AreAddresses, IsClosed}
use Rattle.pm3_types.specs.Shown.{Book, Images, IsOneToOne, IsKnown, FitsImages, name_by, record_by, record_at, object_in, object_at, roots_in, shown_records, shown}
use Rattle.pm3_types.proofs.Books.{shown_at, shown_from}
use Rattle.pm3_types.proofs.PassRecords.{record_same}
use Rattle.pm3_types.proofs.Writes.{alike}

some_of : {A : Type 0} (o : Option A) → is_some o ≡ true → (x : A) × (o ≡ Some x)
some_of None is = absurd (false≢true is)
some_of (Some x) is = (x, refl)

pub same_some : {A : Type 0} (x y : A) → Some x ≡ Some y → x ≡ y
same_some x y e = cc

pub none_some : {A : Type 0} (x : A) (P : Type 0) → ◌≡◌ {A = Option A} None (Some x) → P
none_some x P e = cc

-- an object of a page that is there
pub object_on : (base : ℕ) (images : Images) (a : ℕ) (sheet : Sheet) → get images (page_in base a) ≡ Some sheet → is_address base a ≡ true → is_unmoved sheet (word_in base a) ≡ true
    → is_object_at base images a ≡ true
object_on base images a sheet on is unmoved =
    and_from (is_address base a) (is_unmoved_on (get images (page_in base a)) (word_in base a)) is
    (ap (λ (o : Option Sheet). is_unmoved_on o (word_in base a)) on ∙ unmoved)

-- there is none on a page that is not
pub no_object : (base : ℕ) (images : Images) (a : ℕ) → get images (page_in base a) ≡ None → is_object_at base images a ≢ true
no_object base images a none is =
    false≢true (sym (ap (λ (o : Option Sheet). is_unmoved_on o (word_in base a)) none) ∙ (and_parts (is_address base a) (is_unmoved_on (get images (page_in base a)) (word_in base a)) is).1)

module _ (catalog : List Fields) (base : ℕ) (to : ℕ → ℕ) (IsLost : ℕ → Type 0) (old now : Images) (book new : Book)
    (addresses : AreAddresses base to old) (carried : AreCarried catalog base to IsLost old now) (closed : IsClosed catalog base IsLost old)
    (after : IsBookAfter to IsLost book new) (fits : FitsImages catalog base book old)
    (apart : (a n : ℕ) → get book a ≡ Some n → get old (page_in base a) ≡ None → get now (page_in base a) ≡ None) where
  name_of_zero : (any : Book) (w : ℕ) → w ≡ 0 → name_by any w ≡ 0
  name_of_zero any w e = ap (name_by any) e

  name_of_some : (any : Book) (w n : ℕ) → w ≢ 0 → get any w ≡ Some n → name_by any w ≡ n
  name_of_some any w n more has = cond-false _ _ _ (ne_eqb w 0 more) ∙ ap (λ (o : Option ℕ). unwrap_or o 0) has

  -- a known word stands for the same name
  name_after : (w : ℕ) → IsKnown book w → (IsLost w → ⊥) → name_by new (to w) ≡ name_by book w
  name_after w known there = elim (cases_eq w 0) [
    | inl e ↦ name_of_zero new (to w) (ap to e ∙ addresses.zero) ∙ sym (name_of_zero book w e)
    | inr more ↦ by more known
  ]
    where
      by : w ≢ 0 → IsKnown book w → name_by new (to w) ≡ name_by book w
      by more (inl e) = absurd (more e)
      by more (inr is) = (let has = some_of (get book w) is in
          name_of_some new (to w) has.0 (addresses.nonzero w more) (after.has w has.0 has.1 there) ∙ sym (name_of_some book w has.0 more has.1))

  known_after : (w : ℕ) → IsKnown book w → (IsLost w → ⊥) → IsKnown new (to w)
  known_after w (inl e) there = inl (ap to e ∙ addresses.zero)
  known_after w (inr is) there = (let has = some_of (get book w) is in inr (ap is_some (after.has w has.0 has.1 there)))

  lost_not : (a n k : ℕ) (sheet : Sheet) → get book a ≡ Some n → (IsLost a → ⊥) → get old (page_in base a) ≡ Some sheet
      → IsReferenceIn (map_at catalog sheet (word_in base a)) (tail_at sheet (word_in base a)) k → IsLost (get_or sheet.words (word_in base a + 2 + k) 0) → ⊥
  lost_not a n k sheet has there on is =
      let place = fits.objects a n sheet has on in
      closed.objects a (get_or sheet.words (word_in base a + 2 + k) 0) (object_on base old a sheet on place.0 place.1) there
      (record { sheet = sheet; place = k; on = on; reference = is; is = refl })

  -- the record of a copy
  copy_same : (a n : ℕ) (sheet copy : Sheet) (t : ℕ) → get book a ≡ Some n → (IsLost a → ⊥) → get old (page_in base a) ≡ Some sheet
      → IsCopy catalog to sheet (word_in base a) copy t → record_at new catalog copy.words t ≡ record_at book catalog sheet.words (word_in base a)
  copy_same a n sheet copy t has there on is =
      ap (λ (head : ℕ). record_by new (slice_get catalog (type_in head)) copy.words t head) is.head
      ∙ record_same book new sheet.words copy.words (slice_get catalog (type_in (get_or sheet.words (word_in base a) 0))) (word_in base a) t (get_or sheet.words (word_in base a) 0)
      (λ k reference. ap (name_by new) (is.references k reference) ∙ name_after (get_or sheet.words (word_in base a + 2 + k) 0) (fits.references a n k sheet has on reference) (lost_not a n k sheet has there on reference))
      is.others

  shown_in : (any : Book) (images : Images) (a : ℕ) (o : Option Sheet) → is_address base a ≡ true → get images (page_in base a) ≡ o
      → object_at any catalog base images a ≡ object_in any catalog o (word_in base a)
  shown_in any images a o is on = cond-true (is_address base a) _ None is ∙ ap (λ (s : Option Sheet). object_in any catalog s (word_in base a)) on

  nothing_in : (any : Book) (images : Images) (a : ℕ) → get images (page_in base a) ≡ None → object_at any catalog base images a ≡ None
  nothing_in any images a none = elim (cases_Bool (is_address base a)) [
    | inl is ↦ shown_in any images a None is none
    | inr other ↦ cond-false (is_address base a) _ None other
  ]

  is_shown : (any : Book) (sheet : Sheet) (s : ℕ) → is_unmoved sheet s ≡ true → object_in any catalog (Some sheet) s ≡ Some (record_at any catalog sheet.words s)
  is_shown any sheet s is = cond-true (is_unmoved sheet s) _ None is

  -- the object at a new address is the one that was at the old
  pub object_after : (a n : ℕ) → get book a ≡ Some n → (IsLost a → ⊥) → object_at new catalog base now (to a) ≡ object_at book catalog base old a
  object_after a n has there = by (get old (page_in base a)) refl
    where
      by : (o : Option Sheet) → get old (page_in base a) ≡ o → object_at new catalog base now (to a) ≡ object_at book catalog base old a
      by None none =
          let same : to a ≡ a = addresses.others a (no_object base old a none) in
          nothing_in new now (to a) (ap (λ (b : ℕ). get now (page_in base b)) same ∙ apart a n has none) ∙ sym (nothing_in book old a none)
      by (Some sheet) on =
          let place = fits.objects a n sheet has on in
          let put = carried.objects a sheet (object_on base old a sheet on place.0 place.1) there on in
          shown_in new now (to a) (Some put.1.0) put.0 put.1.1 ∙ is_shown new put.1.0 (word_in base (to a)) put.1.2.object
          ∙ ap Some (copy_same a n sheet put.1.0 (word_in base (to a)) has there on put.1.2)
          ∙ sym (shown_in book old a (Some sheet) place.0 on ∙ is_shown book sheet (word_in base a) place.1)

  one_after : IsOneToOne new
  one_after b c n first second =
      let x = after.only b n first in let y = after.only c n second in
      sym x.1 ∙ ap to (fits.one x.0 y.0 n x.2 y.2) ∙ y.1

  -- an address of the new book on a page that is there comes from one on a page that was there
  page_before : (b n : ℕ) (copy : Sheet) → get new b ≡ Some n → get now (page_in base b) ≡ Some copy
      → (a : ℕ) × (sheet : Sheet) × (to a ≡ b) × (get book a ≡ Some n) × (IsLost a → ⊥) × (get old (page_in base a) ≡ Some sheet)
      × (is_address base b ≡ true) × (IsCopy catalog to sheet (word_in base a) copy (word_in base b))
  page_before b n copy has on = by (get old (page_in base from.0)) refl
    where
      from : (a : ℕ) × (to a ≡ b) × (get book a ≡ Some n) × (IsLost a → ⊥)
      from = after.only b n has

      by : (o : Option Sheet) → get old (page_in base from.0) ≡ o
          → (a : ℕ) × (sheet : Sheet) × (to a ≡ b) × (get book a ≡ Some n) × (IsLost a → ⊥) × (get old (page_in base a) ≡ Some sheet)
          × (is_address base b ≡ true) × (IsCopy catalog to sheet (word_in base a) copy (word_in base b))
      by None none =
          let same : from.0 ≡ b = sym (addresses.others from.0 (no_object base old from.0 none)) ∙ from.1 in
          none_some copy _ (sym (apart from.0 n from.2 none) ∙ ap (λ (c : ℕ). get now (page_in base c)) same ∙ on)
      by (Some sheet) there =
          let place = fits.objects from.0 n sheet from.2 there in
          let put = carried.objects from.0 sheet (object_on base old from.0 sheet there place.0 place.1) from.3 there in
          let same : put.1.0 ≡ copy = same_some put.1.0 copy (sym put.1.1 ∙ ap (λ (c : ℕ). get now (page_in base c)) from.1 ∙ on) in
          let IsSo : Sheet → ℕ → Type 0 = λ x c. IsCopy catalog to sheet (word_in base from.0) x (word_in base c) in (
            from.0,
            sheet,
            from.1,
            from.2,
            from.3,
            there,
            sym (ap (is_address base) from.1) ∙ put.0,
            subst (IsSo copy) from.1 (let Q : Sheet → Type 0 = λ x. IsSo x (to from.0) in subst Q same put.1.2),
          )

  map_same : (sheet copy : Sheet) (s t k : ℕ) → IsCopy catalog to sheet s copy t → IsReferenceIn (map_at catalog copy t) (tail_at copy t) k → IsReferenceIn (map_at catalog sheet s) (tail_at sheet s) k
  map_same sheet copy s t k is reference =
      let P : ℕ → Type 0 = λ head. IsReferenceIn (slice_get catalog (type_in head)) (tail_in head) k in subst P is.head reference

  -- the new book fits the images afterwards
  pub fits_after : FitsImages catalog base new now
  fits_after = record {
    one = one_after;
    named = λ b n has. (let from = after.only b n has in fits.named from.0 n from.2);
    objects = λ b n copy has on.
        let from = page_before b n copy has on in
        let place = fits.objects from.0 n from.1 from.3 from.5 in
        (from.6, from.7.object, from.7.name ∙ place.2);
    references = λ b n k copy has on reference.
        let from = page_before b n copy has on in
        let was = map_same from.1 copy (word_in base from.0) (word_in base b) k from.7 reference in
        let P : ℕ → Type 0 = λ w. IsKnown new w in
        subst P (sym (from.7.references k was))
        (known_after (get_or from.1.words (word_in base from.0 + 2 + k) 0) (fits.references from.0 n k from.1 from.3 from.5 was) (lost_not from.0 n k from.1 from.3 from.4 from.5 was));
    roots = λ slot copy low on. roots_known slot copy low on (get old 2) refl;
  }
    where
      roots_known : (slot : ℕ) (copy : Sheet) → slot < 16 → get now 2 ≡ Some copy → (o : Option Sheet) → get old 2 ≡ o → IsKnown new (get_or copy.words (2 + slot) 0)
      roots_known slot copy low on None none = none_some copy _ (sym (carried.no_roots none) ∙ on)
      roots_known slot copy low on (Some sheet) was =
          let put = carried.roots sheet was in
          let same : put.0 ≡ copy = same_some put.0 copy (sym put.1 ∙ on) in
          let is : get_or copy.words (2 + slot) 0 ≡ to (get_or sheet.words (2 + slot) 0) =
          sym (ap (λ (s : Sheet). get_or s.words (2 + slot) 0) same) ∙ put.2 slot low in
          let P : ℕ → Type 0 = λ w. IsKnown new w in
          subst P (sym is) (known_after (get_or sheet.words (2 + slot) 0) (fits.roots slot sheet low was)
          (closed.roots (get_or sheet.words (2 + slot) 0) (record { sheet = sheet; slot = slot; on = was; low = low; is = refl })))

  -- what is not lost is shown as it was
  pub shown_after : (a n : ℕ) → get book a ≡ Some n → (IsLost a → ⊥) → get (shown_records catalog base new now) n ≡ get (shown_records catalog base book old) n
  shown_after a n has there =
      shown_at catalog base new now (to a) n one_after (after.has a n has there) ∙ object_after a n has there ∙ sym (shown_at catalog base book old a n fits.one has)

  -- what is lost is not shown
  pub lost_after : (a n : ℕ) → get book a ≡ Some n → IsLost a → get (shown_records catalog base new now) n ≡ None
  lost_after a n has lost = by (get (shown_records catalog base new now) n) refl
    where
      by : (o : Option Record) → get (shown_records catalog base new now) n ≡ o → get (shown_records catalog base new now) n ≡ None
      by None none = none
      by (Some r) is =
          let seen = shown_from catalog base new now n r is in
          let from = after.only seen.0 n seen.1 in
          absurd (from.3 (subst IsLost (fits.one a from.0 n has from.2) lost))

  -- nothing is shown that was not shown before
  pub only_after : (n : ℕ) (r : Record) → get (shown_records catalog base new now) n ≡ Some r → get (shown_records catalog base book old) n ≡ Some r
  only_after n r is =
      let seen = shown_from catalog base new now n r is in
      let from = after.only seen.0 n seen.1 in
      sym (shown_after from.0 n from.2 from.3) ∙ is

  -- the roots stand for the same names
  pub roots_after : (shown catalog base new now).roots ≡ (shown catalog base book old).roots
  roots_after = by (get old 2) refl
    where
      by : (o : Option Sheet) → get old 2 ≡ o → roots_in catalog base new now (get now 2) ≡ roots_in catalog base book old (get old 2)
      by None none = ap (roots_in catalog base new now) (carried.no_roots none) ∙ sym (ap (roots_in catalog base book old) none)
      by (Some sheet) on =
          let put = carried.roots sheet on in
          ap (roots_in catalog base new now) put.1
          ∙ ap Some (alike _ _ 16 0 (λ slot from until. ap (name_by new) (put.2 slot (omega arith))
          ∙ name_after (get_or sheet.words (2 + slot) 0) (fits.roots slot sheet (omega arith) on)
          (closed.roots (get_or sheet.words (2 + slot) 0) (record { sheet = sheet; slot = slot; on = on; low = omega arith; is = refl }))))
          ∙ sym (ap (roots_in catalog base book old) on)
