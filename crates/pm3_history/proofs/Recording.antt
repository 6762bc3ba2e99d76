-- What the bytes of the files say once the records of a history are behind those of an opening.
use Rattle.std.proofs.Common.{◌≡◌, ◌<◌, ◌≤◌, ◌*◌, ◌==◌, ◌∙◌, ◌↔◌, ◌++◌, if◌then◌else◌, ℕ, Bool, true, false, List, [], ◌∷◌, Option, Some, None, is_some, unwrap_or, Ok, refl, sym, ap, subst, arith}
use Rattle.std.specs.Option.{option_or}
use Rattle.std.specs.FinMap.{get}
use Rattle.pm3_types.specs.Bytes.{piece}
use Rattle.pm3_types.specs.Fields.{Fields}
use Rattle.pm3_types.specs.Layout.{Sheet}
use Rattle.pm3_types.specs.Shown.{Images}
use Rattle.pm3_types.specs.PageOne.{catalog_page}
use Rattle.pm3_page.specs.PageBytes.{page_read}
use Rattle.pm3_page.specs.Scan.{Read}
use Rattle.pm3_journal.specs.Format.{PagePart, Image, JournalRecord}
use Rattle.pm3_journal.specs.Opening.{AreAt, AreImagesOf, image_in, last_image, page_bytes}
use Rattle.pm3_history.specs.Laid.{laid}
use Rattle.pm3_history.specs.Entry.{Done}
use Rattle.pm3_history.specs.Files.{IsRecordOf, AreRecordsOf}
use Rattle.pm3_history.specs.Lawful.{IsLawful, AreLawful}
use Rattle.pm3_history.specs.State.{State, step, entry_after, now}
use Rattle.pm3_history.proofs.Laying.{one_value, laid_above, laid_below, none_if, there_none}

-- What the bytes of a page file and the records say of a state, but for what is reached.
pub record AreListed (catalog : List Fields) (base count : ℕ) (st : State) (file : List ℕ) (list : List JournalRecord) : Type 0 where
  pub at : AreAt file list count st.next_name st.high_page
  pub catalog_is : page_bytes file list 1 ≡ catalog_page catalog
  pub images_are : AreImagesOf catalog base count file list st.pages
  pub recorded : (page : ℕ) → is_some (last_image page list None) ≡ true → is_some (get st.pages page) ≡ true

or_if : (b : Bool) (o was : Option (List ℕ)) (x : List ℕ) → option_or o (if b then Some x else was) ≡ option_or (option_or o (if b then Some x else None)) was
or_if true None was x = refl
or_if false None was x = refl
or_if b (Some y) was x = refl

image_or : (page : ℕ) (parts : List PagePart) (was : Option (List ℕ)) → image_in page parts was ≡ option_or (image_in page parts None) was
image_or page [] was = refl
image_or page (Image number image ∷ parts) was =
    image_or page parts (if number == page then Some image else was)
    ∙ or_if (number == page) (image_in page parts None) was image
    ∙ sym (ap (λ (o : Option (List ℕ)). option_or o was) (image_or page parts (if number == page then Some image else None)))

last_push : (page : ℕ) (list : List JournalRecord) (r : JournalRecord) (was : Option (List ℕ)) → last_image page (list ++ r ∷ []) was ≡ image_in page r.parts (last_image page list was)
last_push page [] r was = refl
last_push page (x ∷ xs) r was = last_push page xs r (image_in page x.parts was)

-- the last image of a page with one record more
last_with : (page : ℕ) (list : List JournalRecord) (r : JournalRecord) → last_image page (list ++ r ∷ []) None ≡ option_or (image_in page r.parts None) (last_image page list None)
last_with page list r = last_push page list r None ∙ image_or page r.parts (last_image page list None)

not_empty : (list : List JournalRecord) (r : JournalRecord) → list ++ r ∷ [] ≡ [] → ⊥
not_empty [] r is = cc
not_empty (x ∷ xs) r is = cc

final : JournalRecord → List JournalRecord → JournalRecord
final d [] = d
final d (x ∷ xs) = final x xs

final_push : (d : JournalRecord) (xs : List JournalRecord) (x : JournalRecord) → final d (xs ++ x ∷ []) ≡ x
unfolding final
final_push d [] x = refl
final_push d (y ∷ ys) x = final_push y ys x

pub same_last : (xs ys : List JournalRecord) (x y : JournalRecord) → xs ++ x ∷ [] ≡ ys ++ y ∷ [] → x ≡ y
same_last xs ys x y is = sym (final_push x xs x) ∙ ap (final x) is ∙ final_push x ys y

ok_same : (a b : Sheet) → ◌≡◌ {A = Read} (Ok a) (Ok b) → a ≡ b
ok_same a b is = cc

module _ (catalog : List Fields) (base count : ℕ) (st : State) (file : List ℕ) (list : List JournalRecord) (d : Done) (r : JournalRecord)
    (before : AreListed catalog base count st file list) (lawful : IsLawful catalog base count st (entry_after catalog base st d))
    (is_record : IsRecordOf catalog base count d r) where
  abbrev more : List JournalRecord
  more = list ++ r ∷ []

  abbrev pages : Images
  pages = laid st.pages d.written

  bytes_new : (q : ℕ) (bytes : List ℕ) → image_in q r.parts None ≡ Some bytes → page_bytes file more q ≡ bytes
  bytes_new q bytes is =
      ap (λ (o : Option (List ℕ)). unwrap_or o (piece (4096 * q) 4096 file)) (last_with q list r ∙ ap (λ (o : Option (List ℕ)). option_or o (last_image q list None)) is)

  bytes_old : (q : ℕ) → image_in q r.parts None ≡ None → page_bytes file more q ≡ page_bytes file list q
  bytes_old q none =
      ap (λ (o : Option (List ℕ)). unwrap_or o (piece (4096 * q) 4096 file)) (last_with q list r ∙ ap (λ (o : Option (List ℕ)). option_or o (last_image q list None)) none)

  unwritten : (q : ℕ) → image_in q r.parts None ≡ None → get d.written q ≡ None
  unwritten q none = none_if (get d.written q) (λ sheet on. there_none (image_in q r.parts None) (is_record.written q sheet on) none)

  images_of : (q : ℕ) (sheet : Sheet) (o : Option (List ℕ)) → image_in q r.parts None ≡ o
      → get pages q ≡ Some sheet ↔ ((2 ≤ q) × (q < count) × (page_read catalog base count q (page_bytes file more q) ≡ Ok sheet))
  images_of q sheet None none =
      let same : get pages q ≡ get st.pages q = laid_below st.pages d.written q (unwritten q none) in
      let bytes = bytes_old q none in
      let old = before.images_are q sheet in (
        λ is. (let x = old.0 (sym same ∙ is) in (x.0, x.1, ap (page_read catalog base count q) bytes ∙ x.2)),
        λ x. same ∙ old.1 (x.0, x.1, sym (ap (page_read catalog base count q) bytes) ∙ x.2),
      )
  images_of q sheet (Some bytes) is =
      let image = is_record.images q bytes is in
      let here : get pages q ≡ Some image.0 = laid_above st.pages d.written q image.0 image.1 in
      let read : page_read catalog base count q (page_bytes file more q) ≡ Ok image.0 = ap (page_read catalog base count q) (bytes_new q bytes is) ∙ image.2 in
      let form = lawful.writes.form q image.0 image.1 in (
        λ has. (form.0, omega (arith, form.1, lawful.writes.most), read ∙ ap Ok (one_value (get pages q) image.0 sheet here has)),
        λ x. here ∙ ap Some (ok_same image.0 sheet (sym read ∙ x.2)),
      )

  recorded : (q : ℕ) → is_some (last_image q more None) ≡ true → (o : Option (List ℕ)) → image_in q r.parts None ≡ o → is_some (get pages q) ≡ true
  recorded q is None none =
      ap is_some (laid_below st.pages d.written q (unwritten q none))
      ∙ before.recorded q (sym (ap is_some (last_with q list r ∙ ap (λ (o : Option (List ℕ)). option_or o (last_image q list None)) none)) ∙ is)
  recorded q is (Some bytes) on = (let image = is_record.images q bytes on in ap is_some (laid_above st.pages d.written q image.0 image.1))

  no_catalog : (o : Option (List ℕ)) → image_in 1 r.parts None ≡ o → page_bytes file more 1 ≡ page_bytes file list 1
  no_catalog None none = bytes_old 1 none
  no_catalog (Some bytes) is =
      let image = is_record.images 1 bytes is in
      let low = (lawful.writes.form 1 image.0 image.1).0 in absurd (omega (arith, low))

  pub listed_more : AreListed catalog base count (step base st (entry_after catalog base st d)) file more
  listed_more = record {
    at = record {
      head = λ is. absurd (not_empty list r is);
      last = λ front x is.
          let same : r ≡ x = same_last list front r x is in
          (sym (ap (λ (y : JournalRecord). y.next_name) same) ∙ is_record.next_name, sym (ap (λ (y : JournalRecord). y.high_page) same) ∙ is_record.high_page);
    };
    catalog_is = no_catalog (image_in 1 r.parts None) refl ∙ before.catalog_is;
    images_are = λ q sheet. images_of q sheet (image_in q r.parts None) refl;
    recorded = λ q is. recorded q is (image_in q r.parts None) refl;
  }

push_first : (xs ys : List JournalRecord) (x : JournalRecord) → (xs ++ x ∷ []) ++ ys ≡ xs ++ x ∷ ys
push_first [] ys x = refl
push_first (z ∷ zs) ys x = (let rest = push_first zs ys x in λ i. z ∷ rest i)

none_more : (xs : List JournalRecord) → xs ≡ xs ++ []
none_more [] = refl
none_more (x ∷ xs) = (let rest = none_more xs in λ i. x ∷ rest i)

-- the records of a lawful history are behind those before it
pub records_follow : (catalog : List Fields) (base count : ℕ) (st : State) (file : List ℕ) (list : List JournalRecord) (h : List Done) (rs : List JournalRecord)
    → AreListed catalog base count st file list → AreLawful catalog base count st h → AreRecordsOf catalog base count h rs
    → AreListed catalog base count (now catalog base st h) file (list ++ rs)
records_follow catalog base count st file list [] [] before are matching =
    subst (λ (l : List JournalRecord). AreListed catalog base count st file l) (none_more list) before
records_follow catalog base count st file list [] (r ∷ rs) before are matching = absurd matching
records_follow catalog base count st file list (d ∷ ds) [] before are matching = absurd matching
records_follow catalog base count st file list (d ∷ ds) (r ∷ rs) before are matching =
    let after : State = now catalog base (step base st (entry_after catalog base st d)) ds in
    subst (λ (l : List JournalRecord). AreListed catalog base count after file l) (push_first list rs r)
    (records_follow catalog base count (step base st (entry_after catalog base st d)) file (list ++ r ∷ []) ds rs
    (listed_more catalog base count st file list d r before are.0 matching.0) are.1 matching.1)
