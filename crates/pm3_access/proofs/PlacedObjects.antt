-- What images show where a new object was placed on one of them.
use Rattle.std.proofs.Common.{◌≡◌, ◌≢◌, ◌⊎◌, ◌<◌, ◌≤◌, ◌+◌, ◌*◌, ◌/◌, ◌%◌, ◌^◌, ◌&&◌, ◌∷◌, ◌∙◌, inl, inr, ℕ, zero, suc, Bool, true, false, cond, not, List, map, replicate, get_or, Option, Some, None, refl, sym, ap, subst, arith}
use Rattle.std.proofs.lemmas.Bool.{cases_eq, cases_Bool, and_parts, cond-true, cond-false}
use Rattle.std.proofs.Math.Nat.{zero-div}
use Rattle.std.specs.Prelude.{slice_get, slice_index}
use Rattle.std.specs.List.{range_with_len}
use Rattle.std.specs.Cmp.{nat_cmp_total}
use Rattle.std.specs.FinMap.{get, insert, same_map, nat_cmp-IsAntisymmetric}
use mathlib.Core.Bool.{true≢false}
use Rattle.pm3_types.specs.Fields.{Fields, is_reference}
use Rattle.pm3_types.specs.declared.type_map.Tail as tails
use Rattle.pm3_types.specs.declared.type_map.Tail.TheVariants.{Empty, Refs, Bytes}
use Rattle.pm3_types.specs.Record.{Record, blank}
use Rattle.pm3_types.specs.Layout.{Sheet, IsLaid, is_start, is_unmoved, is_forwarded, is_address, address, page_in, word_in, type_in, tail_in, tail_words, has_tail_by, size_by, size_of, end_of, head_of, placed}
use Rattle.pm3_types.specs.PageForm.{IsReferenceIn, map_at, tail_at}
use Rattle.pm3_types.specs.Shown.{Book, Images, IsKnown, IsOneToOne, FitsImages, name_by, byte_in, list_of, field_of, tail_of, record_by, object_in, object_at, roots_in, shown_records, shown}
use Rattle.pm3_types.proofs.Addressing.{page_in-address, word_in-address, is_address-address, address_of}
use Rattle.pm3_types.proofs.Books.{shown_at, shown_from}
use Rattle.pm3_types.proofs.Starts.{outside}
use Rattle.pm3_types.proofs.Placings.{others_placed}
use Rattle.pm3_graph.specs.Operation.{with_record}
use Rattle.pm3_access.proofs.Homes.{some_of}
use Rattle.pm3_access.proofs.HeldSheets.{sheet_same, sheet_other}
use Rattle.pm3_access.proofs.HeldObjects.{object_is}
use Rattle.pm3_types.proofs.FormedObjects.{reference_within}
use Rattle.pm3_access.proofs.NewObjects.{word_before, word_within, at_head, at_name, start_here, start_else, type_of_head, tail_of_head, head_unmoved}
use Rattle.pm3_access.proofs.MoreNames.{get_here, get_else, old_apart, old_named, known_kept, object_kept, roots_kept, one_more}

-- an object of this type, tail and name is new to the images and the book, and fits behind the last object of a page
pub record IsNewObject (catalog : List Fields) (base : ℕ) (book : Book) (images : Images) (p : ℕ) (sheet : Sheet) (map : Fields) (ty tail n : ℕ) : Type 0 where
  pub fits : FitsImages catalog base book images
  pub on : get images p ≡ Some sheet
  pub laid : IsLaid catalog sheet
  pub page : p < 2 ^ 32
  pub apart : p ≢ 2
  pub map_is : slice_get catalog ty ≡ Some map
  pub type_low : ty < 65536
  pub tail_low : tail < 2 ^ 32
  pub tail_is : has_tail_by map.tail ≡ false → tail ≡ 0
  pub room : end_of sheet + size_by (Some map) tail ≤ 512
  pub fresh : (b : ℕ) → get book b ≡ Some n → ⊥
  pub named : n ≢ 0

-- lists of zeros
zeros : (f : ℕ → ℕ) (n a : ℕ) → ((k : ℕ) → a ≤ k → k < a + n → f k ≡ 0) → map f (range_with_len a n) ≡ replicate n 0
zeros f zero a none = refl
zeros f (suc n) a none =
    let first : f a ≡ 0 = none a (omega arith) (omega arith) in
    let rest : map f (range_with_len (a + 1) n) ≡ replicate n 0 = zeros f n (a + 1) (λ k from until. none k (omega arith) (omega arith)) in
    λ i. first i ∷ rest i

either : (b : Bool) (x : ℕ) → cond b x x ≡ x
either true x = refl
either false x = refl

byte_zero : (j : ℕ) → byte_in 0 j ≡ 0
unfolding byte_in
byte_zero j = ap (λ (q : ℕ). q % 256) (zero-div (2 ^ (8 * j)))

tail_zero : (book : Book) (tail : tails.Tail) (words : List ℕ) (at len : ℕ) → (has_tail_by tail ≡ false → len ≡ 0) → ((j : ℕ) → j < tail_words tail len → get_or words (at + j) 0 ≡ 0)
    → tail_of book tail words at len ≡ replicate len 0
tail_zero book Empty words at len empty none = sym (ap (λ (k : ℕ). replicate k 0) (empty refl))
tail_zero book Refs words at len empty none = zeros _ len 0 (λ k from until. ap (name_by book) (none k (omega arith)))
tail_zero book Bytes words at len empty none = zeros _ len 0 (λ k from until. ap (λ (w : ℕ). byte_in w (k % 8)) (none (k / 8) (omega arith)) ∙ byte_zero (k % 8))

module _ (catalog : List Fields) (base : ℕ) (book : Book) (images : Images) (p : ℕ) (sheet : Sheet) (map : Fields) (ty tail n : ℕ) (new : IsNewObject catalog base book images p sheet map ty tail n) where
  abbrev size : ℕ
  size = size_by (Some map) tail

  abbrev end : ℕ
  end = end_of sheet

  abbrev head : ℕ
  head = head_of ty tail

  abbrev a : ℕ
  a = address base p end

  abbrev more : Book
  more = insert book a n

  abbrev now : Sheet
  now = placed p sheet size head n

  abbrev after : Images
  after = insert images p now

  two : 2 ≤ size
  two = omega arith

  low : end < 512
  low = omega (arith, two, new.room)

  page_is : page_in base a ≡ p
  page_is = page_in-address base p end low

  word_is : word_in base a ≡ end
  word_is = word_in-address base p end low

  -- the address is not in the book, since no object is there
  free : get book a ≡ None
  free = of (get book a) refl
    where
      of : (o : Option ℕ) → get book a ≡ o → get book a ≡ None
      of None is = is
      of (Some m) is =
          let there = new.fits.objects a m sheet is (ap (get images) page_is ∙ new.on) in
          let starts = (and_parts (is_start sheet (word_in base a)) (not (is_forwarded (slice_index sheet.words (word_in base a)))) there.1).0 in
          absurd (true≢false (sym starts ∙ ap (is_start sheet) word_is ∙ outside catalog sheet new.laid end (inr (omega arith))))

  sized : size_of catalog head ≡ size
  sized = ap (λ (t : ℕ). size_by (slice_get catalog t) (tail_in head)) (type_of_head ty tail new.type_low)
      ∙ ap (λ (t : ℕ). size_by (slice_get catalog ty) t) (tail_of_head ty tail new.type_low new.tail_low) ∙ ap (λ (o : Option Fields). size_by o tail) new.map_is

  zero_word : (k : ℕ) → 2 + k < size → get_or now.words (end + 2 + k) 0 ≡ 0
  zero_word k within = word_within catalog p sheet size head n new.laid two new.room (end + 2 + k) (omega arith) (omega arith)

  record_zero : record_by more (Some map) now.words end head ≡ blank map ty tail
  record_zero =
      let fields : list_of map.count (field_of more map now.words end) ≡ replicate map.count 0 =
      zeros (field_of more map now.words end) map.count 0 (λ f from until. ap (λ (w : ℕ). cond (is_reference map f) (name_by more w) w) (zero_word f (omega arith)) ∙ either (is_reference map f) 0) in
      let items : tail_of more map.tail now.words (end + 2 + map.count) (tail_in head) ≡ replicate tail 0 =
      ap (tail_of more map.tail now.words (end + 2 + map.count)) (tail_of_head ty tail new.type_low new.tail_low)
      ∙ tail_zero more map.tail now.words (end + 2 + map.count) tail new.tail_is item in
      λ i. record { ty = type_of_head ty tail new.type_low i; fields = fields i; tail = items i }
    where
      item : (j : ℕ) → j < tail_words map.tail tail → get_or now.words (end + 2 + map.count + j) 0 ≡ 0
      item j within = (let place : end + 2 + map.count + j ≡ end + 2 + (map.count + j) = omega arith in ap (λ (i : ℕ). get_or now.words i 0) place ∙ zero_word (map.count + j) (omega arith))

  head_is : slice_index now.words end ≡ head
  head_is = at_head catalog p sheet size head n new.laid two new.room

  map_now : map_at catalog now end ≡ Some map
  map_now = ap (λ (h : ℕ). slice_get catalog (type_in h)) head_is ∙ ap (slice_get catalog) (type_of_head ty tail new.type_low) ∙ new.map_is

  starts_now : is_start now end ≡ true
  starts_now = start_here catalog p sheet size head n new.laid two new.room

  unmoved_now : is_forwarded (slice_index now.words end) ≡ false
  unmoved_now = ap is_forwarded head_is ∙ head_unmoved ty tail new.type_low new.tail_low

  -- the new object shows a record of zeros
  new_at : object_at more catalog base after a ≡ Some (blank map ty tail)
  new_at =
      cond-true (is_address base a) (object_in more catalog (get after (page_in base a)) (word_in base a)) None (is_address-address base p end)
      ∙ ap (λ (s : Option Sheet). object_in more catalog s (word_in base a)) (sheet_same images p (page_in base a) now page_is)
      ∙ ap (object_in more catalog (Some now)) word_is
      ∙ object_is catalog more map now end starts_now unmoved_now map_now
      ∙ ap (λ (h : ℕ). Some (record_by more (Some map) now.words end h)) head_is ∙ ap Some record_zero

  -- another object of the book lies at another word
  elsewhere : (b m : ℕ) → get book b ≡ Some m → is_address base b ≡ true → page_in base b ≡ p → word_in base b ≢ end
  elsewhere b m named is e at =
      old_apart book a n free b m named (sym (address_of base b is) ∙ ap (λ (q : ℕ). address base q (word_in base b)) e ∙ ap (address base p) at)

  -- and is shown as it was
  old_at : (b m : ℕ) → get book b ≡ Some m → object_at more catalog base after b ≡ object_at book catalog base images b
  old_at b m named = elim (cases_Bool (is_address base b)) [
    | inl is ↦ cond-true (is_address base b) (object_in more catalog (get after (page_in base b)) (word_in base b)) None is ∙ same is
        ∙ sym (cond-true (is_address base b) (object_in more catalog (get images (page_in base b)) (word_in base b)) None is) ∙ object_kept book a n free catalog base images new.fits b m named
    | inr none ↦ cond-false (is_address base b) (object_in more catalog (get after (page_in base b)) (word_in base b)) None none
        ∙ sym (cond-false (is_address base b) (object_in book catalog (get images (page_in base b)) (word_in base b)) None none)
  ]
    where
      same : is_address base b ≡ true → object_in more catalog (get after (page_in base b)) (word_in base b) ≡ object_in more catalog (get images (page_in base b)) (word_in base b)
      same is = elim (cases_eq (page_in base b) p) [
        | inl e ↦ ap (λ (s : Option Sheet). object_in more catalog s (word_in base b)) (sheet_same images p (page_in base b) now e)
            ∙ others_placed catalog p sheet size head n new.laid new.page two new.room sized more (word_in base b) (elsewhere b m named is e)
            ∙ sym (ap (λ (s : Option Sheet). object_in more catalog s (word_in base b)) (ap (get images) e ∙ new.on))
        | inr ne ↦ ap (λ (s : Option Sheet). object_in more catalog s (word_in base b)) (sheet_other images p (page_in base b) now ne)
      ]

  one : IsOneToOne more
  one = one_more book a n free new.fresh new.fits.one

  -- the records are those that were shown, and one of zeros
  records_more : shown_records catalog base more after ≡ insert (shown_records catalog base book images) n (blank map ty tail)
  records_more = same_map nat_cmp_total nat_cmp-IsAntisymmetric _ _ (λ q. elim (cases_eq q n) [
    | inl e ↦ ap (get (shown_records catalog base more after)) e ∙ shown_at catalog base more after a n one (get_here book a a n refl) ∙ new_at
        ∙ sym (get_here (shown_records catalog base book images) n q (blank map ty tail) e)
    | inr ne ↦ other q ne (get (shown_records catalog base more after) q) (get (shown_records catalog base book images) q) refl refl
        ∙ sym (get_else (shown_records catalog base book images) n q (blank map ty tail) ne)
  ])
    where
      before : (q : ℕ) (r : Record) → q ≢ n → get (shown_records catalog base more after) q ≡ Some r → get (shown_records catalog base book images) q ≡ Some r
      before q r ne is =
          let from = shown_from catalog base more after q r is in
          let apart : from.0 ≢ a = λ e. ne (some_of q n (sym from.1 ∙ get_here book a from.0 n e)) in
          let named = sym (get_else book a from.0 n apart) ∙ from.1 in
          shown_at catalog base book images from.0 q new.fits.one named ∙ sym (old_at from.0 q named) ∙ from.2

      behind : (q : ℕ) (r : Record) → get (shown_records catalog base book images) q ≡ Some r → get (shown_records catalog base more after) q ≡ Some r
      behind q r is =
          let from = shown_from catalog base book images q r is in
          shown_at catalog base more after from.0 q one (old_named book a n free from.0 q from.1) ∙ old_at from.0 q from.1 ∙ from.2

      other : (q : ℕ) → q ≢ n → (o u : Option Record) → get (shown_records catalog base more after) q ≡ o → get (shown_records catalog base book images) q ≡ u
          → get (shown_records catalog base more after) q ≡ get (shown_records catalog base book images) q
      other q ne (Some r) u is was = is ∙ sym (before q r ne is)
      other q ne None (Some r) is was = behind q r was ∙ sym was
      other q ne None None is was = is ∙ sym was

  -- so the part has one record more
  pub shown_more : shown catalog base (insert book (address base p (end_of sheet)) n) (insert images p (placed p sheet (size_by (Some map) tail) (head_of ty tail) n))
      ≡ with_record (shown catalog base book images) n (blank map ty tail)
  shown_more =
      let records = records_more in
      let roots : roots_in catalog base more after (get after 2) ≡ roots_in catalog base book images (get images 2) =
      ap (roots_in catalog base more after) (sheet_other images p 2 now (λ e. new.apart (sym e))) ∙ roots_kept book a n free catalog base images after new.fits (get images 2) refl in
      λ i. record { records = records i; roots = roots i }

  -- the address was in no entry of the book
  pub not_in_book : get book (address base p (end_of sheet)) ≡ None
  not_in_book = free

  -- the name is not shown before
  pub not_shown : get (shown_records catalog base book images) n ≡ None
  not_shown = of (get (shown_records catalog base book images) n) refl
    where
      of : (o : Option Record) → get (shown_records catalog base book images) n ≡ o → get (shown_records catalog base book images) n ≡ None
      of None is = is
      of (Some r) is = (let from = shown_from catalog base book images n r is in absurd (new.fresh from.0 from.1))

  -- the larger book fits the images with the object
  old_start : (b m : ℕ) → get book b ≡ Some m → page_in base b ≡ p → is_start sheet (word_in base b) ≡ true
  old_start b m named e =
      (and_parts (is_start sheet (word_in base b)) (not (is_forwarded (slice_index sheet.words (word_in base b)))) (new.fits.objects b m sheet named (ap (get images) e ∙ new.on)).1).0

  head_kept : (t : ℕ) → is_start sheet t ≡ true → slice_index now.words t ≡ slice_index sheet.words t
  head_kept t is = (let whole = new.laid.whole t is in word_before catalog p sheet size head n new.laid two new.room t (omega (arith, whole.0)) (omega (arith, whole.1, whole.2)))

  abbrev IsAt : ℕ → ℕ → Sheet → Type 0
  IsAt b m s = (is_address base b ≡ true) × (is_unmoved s (word_in base b) ≡ true) × (slice_index s.words (word_in base b + 1) ≡ m)

  abbrev RefersKnown : ℕ → ℕ → Sheet → Type 0
  RefersKnown t k s = IsReferenceIn (map_at catalog s t) (tail_at s t) k → IsKnown more (slice_index s.words (t + 2 + k))

  here_at : IsAt a n now
  here_at = (
    is_address-address base p end,
    ap (is_unmoved now) word_is ∙ ap (λ (b : Bool). b && not (is_forwarded (slice_index now.words end))) starts_now ∙ ap not unmoved_now,
    ap (λ (t : ℕ). slice_index now.words (t + 1)) word_is ∙ at_name catalog p sheet size head n new.laid two new.room,
  )

  there_at : (b m : ℕ) → get book b ≡ Some m → page_in base b ≡ p → IsAt b m now
  there_at b m named e =
      let old = new.fits.objects b m sheet named (ap (get images) e ∙ new.on) in
      let starts = old_start b m named e in
      let whole = new.laid.whole (word_in base b) starts in (
        old.0,
        ap (λ (s : Bool). s && not (is_forwarded (slice_index now.words (word_in base b)))) (start_else catalog p sheet size head n new.laid two new.room (word_in base b) (elsewhere b m named old.0 e))
            ∙ ap (λ (h : ℕ). is_start sheet (word_in base b) && not (is_forwarded h)) (head_kept (word_in base b) starts) ∙ old.1,
        word_before catalog p sheet size head n new.laid two new.room (word_in base b + 1) (omega arith) (omega (arith, whole.1, whole.2)) ∙ old.2,
      )

  here_known : (k : ℕ) → RefersKnown end k now
  here_known k ref =
      let at_map : IsReferenceIn (Some map) (tail_at now end) k = subst (λ (o : Option Fields). IsReferenceIn o (tail_at now end) k) map_now ref in
      let len : tail_at now end ≡ tail = ap tail_in head_is ∙ tail_of_head ty tail new.type_low new.tail_low in
      let within = reference_within (Some map) tail k (subst (λ (t : ℕ). IsReferenceIn (Some map) t k) len at_map) in
      inl (zero_word k within)

  there_known : (b m k : ℕ) → get book b ≡ Some m → page_in base b ≡ p → RefersKnown (word_in base b) k now
  there_known b m k named e ref =
      let starts = old_start b m named e in
      let whole = new.laid.whole (word_in base b) starts in
      let old = subst (λ (h : ℕ). IsReferenceIn (slice_get catalog (type_in h)) (tail_in h) k) (head_kept (word_in base b) starts) ref in
      let within = reference_within (map_at catalog sheet (word_in base b)) (tail_at sheet (word_in base b)) k old in
      let same = word_before catalog p sheet size head n new.laid two new.room (word_in base b + 2 + k) (omega arith) (omega (arith, within, whole.2)) in
      subst (IsKnown more) (sym same) (known_kept book a n free (slice_index sheet.words (word_in base b + 2 + k)) (new.fits.references b m k sheet named (ap (get images) e ∙ new.on) old))

  is_now : (b : ℕ) (s : Sheet) → page_in base b ≡ p → get after (page_in base b) ≡ Some s → now ≡ s
  is_now b s e on = some_of now s (sym (sheet_same images p (page_in base b) now e) ∙ on)

  objects_more : (b m : ℕ) (s : Sheet) → get more b ≡ Some m → get after (page_in base b) ≡ Some s → (b ≡ a) ⊎ (b ≡ a → ⊥) → (page_in base b ≡ p) ⊎ (page_in base b ≡ p → ⊥) → IsAt b m s
  objects_more b m s named on (inl same) place =
      let name : n ≡ m = some_of n m (sym (get_here book a b n same) ∙ named) in
      subst (IsAt b m) (is_now b s (ap (page_in base) same ∙ page_is) on) (subst (λ (c : ℕ). IsAt c m now) (sym same) (subst (λ (k : ℕ). IsAt a k now) name here_at))
  objects_more b m s named on (inr apart) (inl e) = subst (IsAt b m) (is_now b s e on) (there_at b m (sym (get_else book a b n apart) ∙ named) e)
  objects_more b m s named on (inr apart) (inr ne) = new.fits.objects b m s (sym (get_else book a b n apart) ∙ named) (sym (sheet_other images p (page_in base b) now ne) ∙ on)

  references_more : (b m k : ℕ) (s : Sheet) → get more b ≡ Some m → get after (page_in base b) ≡ Some s → (b ≡ a) ⊎ (b ≡ a → ⊥) → (page_in base b ≡ p) ⊎ (page_in base b ≡ p → ⊥)
      → RefersKnown (word_in base b) k s
  references_more b m k s named on (inl same) place =
      subst (RefersKnown (word_in base b) k) (is_now b s (ap (page_in base) same ∙ page_is) on)
      (subst (λ (t : ℕ). RefersKnown t k now) (sym (ap (word_in base) same ∙ word_is)) (here_known k))
  references_more b m k s named on (inr apart) (inl e) = subst (RefersKnown (word_in base b) k) (is_now b s e on) (there_known b m k (sym (get_else book a b n apart) ∙ named) e)
  references_more b m k s named on (inr apart) (inr ne) = λ ref.
      known_kept book a n free (slice_index s.words (word_in base b + 2 + k))
      (new.fits.references b m k s (sym (get_else book a b n apart) ∙ named) (sym (sheet_other images p (page_in base b) now ne) ∙ on) ref)

  pub fits_more : FitsImages catalog base (insert book (address base p (end_of sheet)) n) (insert images p (placed p sheet (size_by (Some map) tail) (head_of ty tail) n))
  fits_more = record {
    one = one;
    named = λ b m is. elim (cases_eq b a) [
      | inl same ↦ (let name : n ≡ m = some_of n m (sym (get_here book a b n same) ∙ is) in λ e. new.named (name ∙ e))
      | inr apart ↦ new.fits.named b m (sym (get_else book a b n apart) ∙ is)
    ];
    objects = λ b m s named on. objects_more b m s named on (cases_eq b a) (cases_eq (page_in base b) p);
    references = λ b m k s named on ref. references_more b m k s named on (cases_eq b a) (cases_eq (page_in base b) p) ref;
    roots = λ slot s below on. known_kept book a n free (slice_index s.words (2 + slot)) (new.fits.roots slot s below (sym (sheet_other images p 2 now (λ e. new.apart (sym e))) ∙ on));
  }
