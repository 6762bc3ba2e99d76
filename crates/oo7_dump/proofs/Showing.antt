-- What images show under a book is what stands at the addresses, renamed.
use Rattle.std.proofs.Common.{◌≡◌, ◌≢◌, ◌<◌, ◌≤◌, ◌+◌, ℕ, zero, suc, Bool, true, false, cond, List, [], ◌∷◌, length, map, Option, Some, None, is_some, unwrap_or, refl, sym, ap, subst, ◌∙◌, arith, inl, inr, eqb}
use Rattle.std.specs.Prelude.{slice_get, slice_index}
use Rattle.std.specs.FinMap.{get, len}
use Rattle.std.specs.List.{range_with_len}
use Rattle.std.specs.Option.{option_map}
use Rattle.std.proofs.lemmas.Bool.{and_parts, cond-false, false_from_ne_true, ne_eqb}
use Rattle.std.proofs.lemmas.List.{length-map}
use Rattle.pm3_types.specs.declared.type_map.Tail.{Tail}
use Rattle.pm3_types.specs.declared.type_map.Tail.TheVariants.{Empty, Refs, Bytes}
use Rattle.pm3_types.specs.Dump.{dump, text_of}
use Rattle.pm3_types.specs.Fields.{Fields, is_reference}
use Rattle.pm3_types.specs.Layout.{Sheet, is_address, is_unmoved, page_in, tail_in, type_in, word_in}
use Rattle.pm3_types.specs.Numbering.{met_from, met_names, names_in}
use Rattle.pm3_types.specs.Objects.{IsReachedAt, is_object_at, is_unmoved_on, next, root}
use Rattle.pm3_types.specs.Record.{Record}
use Rattle.pm3_types.specs.Shown.{Book, FitsImages, Images, IsKnown, name_by, object_at, object_in, record_at, record_by, roots_in, shown, shown_records, tail_of}
use Rattle.pm3_types.proofs.Addressing.{above_base}
use Rattle.pm3_types.proofs.Books.{shown_at, shown_from}
use Rattle.pm3_types.proofs.Meeting.{few_met}
use Rattle.oo7_dump.specs.Raw.{raw_at, raw_fields, raw_in, raw_items, raw_record, raw_tail, root_words}
use Rattle.oo7_dump.proofs.RawNames.{each_of, each_reference}
use Rattle.oo7_dump.proofs.Renaming.{Each, fields_by, IsRenaming, met_renamed, met_there, rename_fields, rename_items, renamed, tail_by, text_renamed}
use Rattle.oo7_dump.proofs.Rounds.{enough_alike}

pub some_of : {A : Type 0} (o : Option A) → is_some o ≡ true → (x : A) × (o ≡ Some x)
some_of None is = absurd (cc is)
some_of (Some x) is = (x, refl)

none_of : {A : Type 0} (o : Option A) → ((x : A) → o ≡ Some x → ⊥) → o ≡ None
none_of None never = refl
none_of (Some x) never = absurd (never x refl)

-- an object that begins at an address lies on a page that is there
pub on_page : (o : Option Sheet) (at : ℕ) → is_unmoved_on o at ≡ true → (sheet : Sheet) × (o ≡ Some sheet) × (is_unmoved sheet at ≡ true)
on_page None at is = absurd (cc is)
on_page (Some sheet) at is = (sheet, refl, is)

pub reached_object : (catalog : List Fields) (base : ℕ) (images : Images) (a : ℕ) → IsReachedAt catalog base images a → is_object_at base images a ≡ true
reached_object catalog base images a (root _ from object) = object
reached_object catalog base images a (next m _ before refers object) = object

cond_some : (b : Bool) (o : Option Record) (r : Record) → cond b o None ≡ Some r → o ≡ Some r
cond_some true o r is = is
cond_some false o r is = absurd (cc is)

both_none : (f : Record → Record) (b : Bool) (o p : Option Record) → o ≡ option_map f p → cond b o None ≡ option_map f (cond b p None)
both_none f true o p same = same
both_none f false o p same = refl

module _ (nm : ℕ → ℕ) where
  renames_fields : (m : Fields) (g : ℕ → ℕ) (k i : ℕ) → map (λ f. cond (is_reference m f) (nm (g f)) (g f)) (range_with_len i k) ≡ rename_fields nm m i (map g (range_with_len i k))
  renames_fields m g zero i = refl
  renames_fields m g (suc k) i = ap (λ (l : List ℕ). cond (is_reference m i) (nm (g i)) (g i) ∷ l) (renames_fields m g k (i + 1))

  maps_twice : (g : ℕ → ℕ) (k i : ℕ) → map (λ j. nm (g j)) (range_with_len i k) ≡ map nm (map g (range_with_len i k))
  maps_twice g zero i = refl
  maps_twice g (suc k) i = ap (λ (l : List ℕ). nm (g i) ∷ l) (maps_twice g k (i + 1))

module _ (book : Book) where
  renames_items : (tail : Tail) (words : List ℕ) (at n : ℕ) → tail_of book tail words at n ≡ rename_items (name_by book) tail (raw_items tail words at n)
  renames_items Empty words at n = refl
  renames_items Refs words at n = maps_twice (name_by book) (λ k. slice_index words (at + k)) n 0
  renames_items Bytes words at n = refl

  renames_record : (o : Option Fields) (words : List ℕ) (at head : ℕ)
      → record_by book o words at head ≡ record { ty = type_in head; fields = fields_by (name_by book) o (raw_fields o words at); tail = tail_by (name_by book) o (raw_tail o words at (tail_in head)) }
  renames_record None words at head = refl
  renames_record (Some m) words at head =
      let fields = renames_fields (name_by book) m (λ f. slice_index words (at + 2 + f)) m.count 0 in
      let items = renames_items m.tail words (at + 2 + m.count) (tail_in head) in
      λ i. record { ty = type_in head; fields = fields i; tail = items i }

  renames_in : (catalog : List Fields) (o : Option Sheet) (at : ℕ) → object_in book catalog o at ≡ option_map (renamed (name_by book) catalog) (raw_in catalog o at)
  renames_in catalog None at = refl
  renames_in catalog (Some sheet) at =
      both_none (renamed (name_by book) catalog) (is_unmoved sheet at) (Some (record_at book catalog sheet.words at)) (Some (raw_record catalog sheet.words at))
      (ap (λ (r : Record). Some r) (renames_record (slice_get catalog (type_in (slice_index sheet.words at))) sheet.words at (slice_index sheet.words at)))

  -- what the book shows at an address is what stands there, renamed
  renames_at : (catalog : List Fields) (base : ℕ) (images : Images) (a : ℕ) → object_at book catalog base images a ≡ option_map (renamed (name_by book) catalog) (raw_at catalog base images a)
  renames_at catalog base images a = both_none (renamed (name_by book) catalog) (is_address base a) _ _ (renames_in catalog (get images (page_in base a)) (word_in base a))

-- a raw record is that of the words of a page that is there
raw_from : (catalog : List Fields) (o : Option Sheet) (at : ℕ) (r : Record) → raw_in catalog o at ≡ Some r → (sheet : Sheet) × (o ≡ Some sheet) × (r ≡ raw_record catalog sheet.words at)
raw_from catalog None at r is = absurd (cc is)
raw_from catalog (Some sheet) at r is = (sheet, refl, (let whole = cond_some (is_unmoved sheet at) (Some (raw_record catalog sheet.words at)) r is in cc))

module _ (catalog : List Fields) (base : ℕ) (book : Book) (images : Images) (positive : 0 < base) (fits : FitsImages catalog base book images)
    (only : (a n : ℕ) → get book a ≡ Some n → IsReachedAt catalog base images a) where
  no_address : is_address base 0 ≡ false
  no_address = false_from_ne_true (is_address base 0) (λ is. let low = above_base base 0 is in omega arith)

  raw_nil : raw_at catalog base images 0 ≡ None
  raw_nil = cond-false (is_address base 0) _ _ no_address

  -- what the book has is the address of an object
  pub has_object : (a n : ℕ) → get book a ≡ Some n → (is_address base a ≡ true) × (is_unmoved_on (get images (page_in base a)) (word_in base a) ≡ true)
  has_object a n has = and_parts (is_address base a) (is_unmoved_on (get images (page_in base a)) (word_in base a)) (reached_object catalog base images a (only a n has))

  named_by : (a n : ℕ) → get book a ≡ Some n → name_by book a ≡ n
  named_by a n has =
      let above = above_base base a (has_object a n has).0 in
      let apart : a ≢ 0 = λ e. omega arith in
      cond-false (eqb a 0) 0 (unwrap_or (get book a) 0) (ne_eqb a 0 apart) ∙ ap (λ (o : Option ℕ). unwrap_or o 0) has

  no_nil : get (shown_records catalog base book images) 0 ≡ None
  no_nil = none_of (get (shown_records catalog base book images) 0) (λ r is. let from = shown_from catalog base book images 0 r is in fits.named from.0 0 from.1 refl)

  agrees : (a : ℕ) → IsKnown book a → get (shown_records catalog base book images) (name_by book a) ≡ option_map (renamed (name_by book) catalog) (raw_at catalog base images a)
  agrees a (inl nil) =
      ap (λ (n : ℕ). get (shown_records catalog base book images) (name_by book n)) nil ∙ no_nil
      ∙ sym (ap (λ (n : ℕ). option_map (renamed (name_by book) catalog) (raw_at catalog base images n)) nil ∙ ap (option_map (renamed (name_by book) catalog)) raw_nil)
  agrees a (inr there) =
      let (n, has) = some_of (get book a) there in
      ap (get (shown_records catalog base book images)) (named_by a n has) ∙ shown_at catalog base book images a n fits.one has ∙ renames_at book catalog base images a

  closed : (a : ℕ) (r : Record) → IsKnown book a → raw_at catalog base images a ≡ Some r → Each (IsKnown book) (names_in catalog r)
  closed a r (inl nil) is = absurd (cc (sym (ap (raw_at catalog base images) nil ∙ raw_nil) ∙ is))
  closed a r (inr there) is =
      let (n, has) = some_of (get book a) there in
      let from = raw_from catalog (get images (page_in base a)) (word_in base a) r (cond_some (is_address base a) _ r is) in
      subst (λ (r : Record). Each (IsKnown book) (names_in catalog r)) (sym from.2)
      (each_reference (IsKnown book) catalog from.0 (word_in base a) (λ k reference. fits.references a n k from.0 has from.1 reference))

  apart : (a b : ℕ) → IsKnown book a → IsKnown book b → is_some (raw_at catalog base images a) ≡ true → name_by book a ≡ name_by book b → a ≡ b
  apart a b (inl nil) other there same = absurd (cc (sym (ap (λ (n : ℕ). is_some (raw_at catalog base images n)) nil ∙ ap is_some raw_nil) ∙ there))
  apart a b (inr known) (inl nil) there same =
      let (n, has) = some_of (get book a) known in
      absurd (fits.named a n has (sym (named_by a n has) ∙ same ∙ ap (name_by book) nil))
  apart a b (inr known) (inr other) there same =
      let (n, has) = some_of (get book a) known in
      let (m, also) = some_of (get book b) other in
      fits.one a b n has (also ∙ ap (λ (k : ℕ). Some k) (sym (named_by b m also) ∙ sym same ∙ named_by a n has))

  pub renaming : IsRenaming catalog (raw_at catalog base images) (get (shown_records catalog base book images)) (name_by book) (IsKnown book)
  renaming = record { agrees = agrees; closed = closed; apart = apart }

  -- each address in a root slot is nil or one that the book has
  pub roots_known : (o : Option Sheet) → get images 2 ≡ o → Each (IsKnown book) (root_words o)
  roots_known None is = tt
  roots_known (Some sheet) is = each_of (IsKnown book) (λ slot. slice_index sheet.words (2 + slot)) 16 0 (λ slot low high. fits.roots slot sheet (omega arith) is)

  roots_named : (o : Option Sheet) → unwrap_or (roots_in catalog base book images o) [] ≡ map (name_by book) (root_words o)
  roots_named None = refl
  roots_named (Some sheet) = maps_twice (name_by book) (λ slot. slice_index sheet.words (2 + slot)) 16 0

  -- each address that is met is one that the book has
  pub met_known : (count : ℕ) → Each (λ a. IsKnown book a × (is_some (raw_at catalog base images a) ≡ true)) (met_from catalog (raw_at catalog base images) count (root_words (get images 2)))
  met_known count = met_there catalog (raw_at catalog base images) (get (shown_records catalog base book images)) (name_by book) (IsKnown book) renaming count (root_words (get images 2)) (roots_known (get images 2) refl)

  -- the dump of what is shown is the text by addresses
  pub dumps_shown : (count : ℕ) → length (met_from catalog (raw_at catalog base images) count (root_words (get images 2))) ≤ count
      → dump catalog (shown catalog base book images)
      ≡ text_of catalog (raw_at catalog base images) (root_words (get images 2)) (met_from catalog (raw_at catalog base images) count (root_words (get images 2)))
  unfolding dump met_names
  dumps_shown count enough =
      ap (λ (l : List ℕ). text_of catalog B l (met_from catalog B (len (shown_records catalog base book images)) l)) named
      ∙ text_renamed catalog A B (name_by book) (IsKnown book) renaming (len (shown_records catalog base book images)) roots known
      ∙ ap (text_of catalog A roots) (enough_alike catalog A roots (len (shown_records catalog base book images)) count few enough)
    where
      A : ℕ → Option Record
      A = raw_at catalog base images

      B : ℕ → Option Record
      B = get (shown_records catalog base book images)

      roots : List ℕ
      roots = root_words (get images 2)

      known : Each (IsKnown book) roots
      known = roots_known (get images 2) refl

      named : unwrap_or (roots_in catalog base book images (get images 2)) [] ≡ map (name_by book) roots
      named = roots_named (get images 2)

      few : length (met_from catalog A (len (shown_records catalog base book images)) roots) ≤ len (shown_records catalog base book images)
      few =
          let most = few_shown in
          let same = ap length (ap (λ (l : List ℕ). met_from catalog B (len (shown_records catalog base book images)) l) named ∙ met_renamed catalog A B (name_by book) (IsKnown book) renaming (len (shown_records catalog base book images)) roots known) in
          let long = length-map (met_from catalog A (len (shown_records catalog base book images)) roots) (name_by book) in
          omega (arith, most, same, long)
        where
          few_shown : length (met_from catalog B (len (shown_records catalog base book images)) (unwrap_or (roots_in catalog base book images (get images 2)) [])) ≤ len (shown_records catalog base book images)
          few_shown = few_met catalog (shown catalog base book images)
