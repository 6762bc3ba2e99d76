-- The store that stands after the whole history of a heap is open, as one that was recovered.
use Rattle.std.proofs.Common.{◌≡◌, ◌⊎◌, ⊎_elim, ◌+◌, ◌-◌, ◌&&◌, ◌*◌, ◌^◌, ◌<◌, ◌≤◌, ◌==◌, ◌||◌, ◌++◌, if◌then◌else◌, ℕ, Bool, true, false, List, [], ◌∷◌, Option, Some, None, Ok, is_some, unwrap_or, inl, inr, refl, sym, ap, ◌∙◌, subst, arith}
use Rattle.std.proofs.lemmas.Bool.{false≢true}
use Rattle.std.proofs.lemmas.Bool.Decides.{nat_tests}
use Rattle.std.proofs.lemmas.List.Folds.{list_any-append}
use Rattle.std.specs.FinMap.{get, contains_key, contains_key-keys, keys}
use Rattle.std.specs.List.{list_any}
use Rattle.std.specs.Option.{option_or}
use Rattle.std.specs.Ordering.{nat_cmp, eq_by_cmp}
use Rattle.pm3_core.specs.declared.naming.TheConstants.{BASE}
use Rattle.pm3_disk.specs.declared.outside.Disk.{Ghosts}
use Rattle.pm3_types.specs.Bytes.{piece}
use Rattle.pm3_types.specs.Fields.{Fields}
use Rattle.pm3_types.specs.Layout.{PageImage, Sheet}
use Rattle.pm3_types.specs.PageForm.{HasForm, IsSound, is_memory_reference}
use Rattle.pm3_types.specs.PageOne.{catalog_page}
use Rattle.pm3_page.specs.declared.marks.Marks.{Marks}
use Rattle.pm3_page.specs.FormLaws.{ReadHasForm, WritesWhatWasRead, ReadsWhatWasWritten}
use Rattle.pm3_page.specs.Head.{AreMarks, head_page}
use Rattle.pm3_page.specs.PageBytes.{file_bytes, page_read}
use Rattle.pm3_page.specs.PageMap.{Images}
use Rattle.pm3_page.specs.PageSheets.{sheet_in}
use Rattle.pm3_page.specs.Scan.{Read}
use Rattle.pm3_page.proofs.SheetsOf.{get-sheets_of}
use Rattle.pm3_access.proofs.SoundingPages.{form_for_more}
use Rattle.pm3_journal.specs.Format.{JournalRecord, PagePart, Image}
use Rattle.pm3_journal.specs.Opened.{IsHeldFrom, IsOpen}
use Rattle.pm3_journal.specs.Opening.{image_in, last_image, page_bytes}
use Rattle.pm3_journal.specs.Reading.{next_seq}
use Rattle.pm3_journal.specs.Records.{records, Whole}
use Rattle.pm3_journal.specs.Summaries.{Summary, has_page}
use Rattle.pm3_journal.proofs.Listing as listing
use Rattle.pm3_history.specs.Entry.{Done}
use Rattle.pm3_history.specs.Files.{AreRecordsOf, IsRecordOf}
use Rattle.pm3_history.specs.LastImages.{last_written}
use Rattle.pm3_history.specs.Opens.{Origin}
use Rattle.pm3_history.proofs.Laying.{some_none}
use Rattle.pm3_table.specs.declared.view.Told.{Told}
use Rattle.pm3_table.specs.Entries.{writes}
use Rattle.pm3_table.specs.Histories.{some_has}
use Rattle.pm3_txn.specs.Knowing.{is_in_use}
use Rattle.pm3_txn.specs.Values.{AreFiledRecords, IsFiledRecord, IsPageOf, IsTurnOf, TurnState, due_after, last_known, summaries_from}
use Rattle.pm3_txn.proofs.OpensAt.{whole_told}
use Rattle.pm3_txn.proofs.ReadPages.{IsBare, read_for_more}
use Rattle.pm3_txn.proofs.Seeing.{unwritten, none_written}

or_if : (b : Bool) (o was : Option (List ℕ)) (x : List ℕ) → option_or o (if b then Some x else was) ≡ option_or (option_or o (if b then Some x else None)) was
or_if true None was x = refl
or_if false None was x = refl
or_if b (Some y) was x = refl

image_or : (page : ℕ) (parts : List PagePart) (was : Option (List ℕ)) → image_in page parts was ≡ option_or (image_in page parts None) was
image_or page [] was = refl
image_or page (Image number image ∷ parts) was =
    image_or page parts (if number == page then Some image else was)
    ∙ or_if (number == page) (image_in page parts None) was image
    ∙ sym (ap (λ (o : Option (List ℕ)). option_or o was) (image_or page parts (if number == page then Some image else None)))

or_or : {A : Type 0} (a b c : Option A) → option_or a (option_or b c) ≡ option_or (option_or a b) c
or_or None b c = refl
or_or (Some x) b c = refl

last_or : (page : ℕ) (list : List JournalRecord) (was : Option (List ℕ)) → last_image page list was ≡ option_or (last_image page list None) was
last_or page [] was = refl
last_or page (r ∷ rs) was =
    last_or page rs (image_in page r.parts was)
    ∙ ap (option_or (last_image page rs None)) (image_or page r.parts was)
    ∙ or_or (last_image page rs None) (image_in page r.parts None) was
    ∙ ap (λ (o : Option (List ℕ)). option_or o was) (sym (last_or page rs (image_in page r.parts None)))

last_both : (page : ℕ) (old new : List JournalRecord) (was : Option (List ℕ)) → last_image page (old ++ new) was ≡ last_image page new (last_image page old was)
last_both page [] new was = refl
last_both page (r ∷ rs) new was = last_both page rs new (image_in page r.parts was)

ok_same : (a b : Sheet) → ◌≡◌ {A = Read} (Ok a) (Ok b) → a ≡ b
ok_same a b is = cc is

-- The last image of a page in records is that which the history wrote last, and its bytes are written of it.
module _ (catalog : List Fields) (pages : ℕ) where
  abbrev pub IsLast : ℕ → Option (List ℕ) → Option Sheet → Type 0
  IsLast page None o = o ≡ None
  IsLast page (Some bytes) o = (sheet : Sheet) × (o ≡ Some sheet) × (page_read catalog BASE pages page bytes ≡ Ok sheet)
      × (file_bytes catalog BASE (record { page = page; sheet = sheet }) ≡ bytes)

  joined : (page : ℕ) (a c : Option (List ℕ)) (b e : Option Sheet) → IsLast page a b → IsLast page c e → IsLast page (option_or a c) (option_or b e)
  joined page None c b e first second = subst (λ (o : Option Sheet). IsLast page c (option_or o e)) (sym first) second
  joined page (Some bytes) c b e first second = (first.0, ap (λ (o : Option Sheet). option_or o e) first.1, first.2, first.3)

  one : (page : ℕ) (d : Done) (r : JournalRecord) → IsRecordOf catalog BASE pages d r → IsFiledRecord catalog pages r → IsLast page (image_in page r.parts None) (get d.written page)
  one page d r is filed = of (image_in page r.parts None) refl
    where
      none : image_in page r.parts None ≡ None → (o : Option Sheet) → get d.written page ≡ o → get d.written page ≡ None
      none bare None at = at
      none bare (Some sheet) at = absurd (false≢true (sym (ap is_some bare) ∙ is.written page sheet at))

      of : (o : Option (List ℕ)) → image_in page r.parts None ≡ o → IsLast page o (get d.written page)
      of None bare = none bare (get d.written page) refl
      of (Some bytes) at =
          let x = is.images page bytes at in
          let y = filed page bytes at in
          let same : y.0 ≡ x.0 = ok_same y.0 x.0 (sym y.1 ∙ x.2) in
          (x.0, x.1, x.2, ap (λ (s : Sheet). file_bytes catalog BASE (record { page = page; sheet = s })) (sym same) ∙ y.2)

  pub last_is : (page : ℕ) (ds : List Done) (rs : List JournalRecord) → AreRecordsOf catalog BASE pages ds rs → AreFiledRecords catalog pages rs
      → IsLast page (last_image page rs None) (last_written ds page)
  last_is page [] [] are filed = refl
  last_is page [] (r ∷ rs) are filed = absurd are
  last_is page (d ∷ ds) [] are filed = absurd are
  last_is page (d ∷ ds) (r ∷ rs) are filed =
      subst (λ (o : Option (List ℕ)). IsLast page o (option_or (last_written ds page) (get d.written page))) (sym (last_or page rs (image_in page r.parts None)))
      (joined page (last_image page rs None) (image_in page r.parts None) (last_written ds page) (get d.written page) (last_is page ds rs are.1 filed.1) (one page d r are.0 filed.0))

-- the pages of the summaries of commits are those that they write
same_test : (p k : ℕ) → (k == p) ≡ eq_by_cmp nat_cmp p k
same_test p k = grind (arith, nat_tests)

any_same : (p : ℕ) (ks : List ℕ) → list_any (λ k. k == p) ks ≡ list_any (eq_by_cmp nat_cmp p) ks
any_same p [] = refl
any_same p (k ∷ ks) = λ i. same_test p k i || any_same p ks i

has_written : (due : ℕ) (ds : List Done) (page : ℕ) → has_page (summaries_from due ds) page ≡ some_has writes ds page
has_written due [] page = refl
has_written due (d ∷ ds) page = λ i. (any_same page (keys d.written) ∙ sym (contains_key-keys d.written page)) i || has_written (next_seq due) ds page i

or_parts : (a b : Bool) → (a || b) ≡ true → (a ≡ true) ⊎ (b ≡ true)
or_parts true b is = inl refl
or_parts false b is = inr is

both_empty : {A : Type 0} (a b : List A) → a ++ b ≡ [] → (a ≡ []) × (b ≡ [])
both_empty [] b is = (refl, is)
both_empty (x ∷ xs) b is = absurd (cc is)

no_commits : (due : ℕ) (ds : List Done) → summaries_from due ds ≡ [] → ds ≡ []
no_commits due [] is = refl
no_commits due (d ∷ ds) is = absurd (cc is)

due_least : (due : ℕ) (ds : List Done) → 1 ≤ due → 1 ≤ due_after due ds
due_least due [] low = low
due_least due (d ∷ ds) low = due_least (next_seq due) ds (least (due == 2 ^ 64 - 1))
  where
    least : (b : Bool) → 1 ≤ (if b then 1 else due + 1)
    least true = omega arith
    least false = omega arith

in_use_is_reference : (a b : Bool) → (a && b) ≡ true → a ≡ true
in_use_is_reference true b is = refl
in_use_is_reference false b is = is

module _ {D R : Type 0} (g : Ghosts D R) (told : Told) (lost h : List Done) (unit : ℕ) (t : TurnState D R) (is : IsTurnOf g told lost h unit t)
    (images : Images) (there : (page : ℕ) (image : PageImage) → get images page ≡ Some image → IsPageOf told h page image)
    (bare : (page : ℕ) → page < told.pages → get images page ≡ None → IsBare told h page) where
  abbrev catalog : List Fields
  catalog = told.opening.catalog

  catalog_same : t.opened.catalog ≡ catalog
  catalog_same = ap (λ (o : Origin). o.catalog) is.origin

  images_same : (page : ℕ) → get told.opening.images page ≡ sheet_in (get t.opened.images.images page)
  images_same page = ap (λ (o : Origin). get o.images page) (sym is.origin) ∙ get-sheets_of t.opened.images.images page

  pages_same : t.opened.marks.pages ≡ told.pages
  pages_same = is.page_count.1

  read_same : (page : ℕ) (bytes : List ℕ) → page_read catalog BASE told.pages page bytes ≡ page_read t.opened.catalog BASE t.opened.marks.pages page bytes
  read_same page bytes =
      ap (λ (c : List Fields). page_read c BASE told.pages page bytes) (sym catalog_same)
      ∙ ap (λ (n : ℕ). page_read t.opened.catalog BASE n page bytes) (sym pages_same)

  file_same : told.opening.file ≡ g.content t.opened.pages
  file_same = ap (λ (o : Origin). o.file) (sym is.origin)

  -- a bare page has no last image
  unknown : (page : ℕ) → IsBare told h page → last_known told.opening h page ≡ None
  unknown page b = ap (λ (o : Option Sheet). option_or o (get told.opening.images page)) (unwritten told h page b.quiet) ∙ b.unopened

  -- the last image of a page is held
  pub known_held : (page : ℕ) (sheet : Sheet) → page < told.pages → last_known told.opening h page ≡ Some sheet → get images page ≡ Some (record { page = page; sheet = sheet })
  known_held page sheet low known = of (get images page) refl
    where
      of : (o : Option PageImage) → get images page ≡ o → get images page ≡ Some (record { page = page; sheet = sheet })
      of None none = absurd (some_none (last_known told.opening h page) sheet known (unknown page (bare page low none)))
      of (Some image) on =
          let p = there page image on in
          let known_so : image.sheet ≡ sheet = p.known sheet known in
          let same : image ≡ record { page = page; sheet = sheet } = λ i. record { page = p.home i; sheet = known_so i } in
          on ∙ ap Some same

  written_known : (page : ℕ) (sheet : Sheet) → last_written h page ≡ Some sheet → last_known told.opening h page ≡ Some sheet
  written_known page sheet on = ap (λ (o : Option Sheet). option_or o (get told.opening.images page)) on

  written_has : (ds : List Done) (page : ℕ) (sheet : Sheet) → last_written ds page ≡ Some sheet → some_has writes ds page ≡ true
  written_has ds page sheet on = of (some_has writes ds page) refl
    where
      none : (xs : List Done) → some_has writes xs page ≡ false → last_written xs page ≡ None
      none [] free = refl
      none (d ∷ rest) free = both (last_written rest page) (get d.written page) (none rest (right (contains_key d.written page) (some_has writes rest page) free)) (left (get d.written page) (some_has writes rest page) free)
        where
          right : (a b : Bool) → (a || b) ≡ false → b ≡ false
          right true b e = absurd (false≢true (sym e))
          right false b e = e

          left : (o : Option Sheet) (b : Bool) → (is_some o || b) ≡ false → o ≡ None
          left None b e = refl
          left (Some x) b e = absurd (false≢true (sym e))

          both : (o p : Option Sheet) → o ≡ None → p ≡ None → option_or o p ≡ None
          both o p one other = ap (λ (x : Option Sheet). option_or x p) one ∙ other

      of : (b : Bool) → some_has writes ds page ≡ b → some_has writes ds page ≡ true
      of true e = e
      of false e = absurd (some_none (last_written ds page) sheet on (none ds e))

  opened_known : (page : ℕ) (image : PageImage) → last_written h page ≡ None → get t.opened.images.images page ≡ Some image → last_known told.opening h page ≡ Some image.sheet
  opened_known page image free on =
      ap (λ (o : Option Sheet). option_or o (get told.opening.images page)) free ∙ images_same page ∙ ap sheet_in on

  opened_low : (page : ℕ) (image : PageImage) → get t.opened.images.images page ≡ Some image → page < told.pages
  opened_low page image on = subst (λ (n : ℕ). page < n) pages_same (is.opened_well.sound page image on).2

  -- each page of the records has an image
  recorded : (page : ℕ) → 2 ≤ page → has_page t.journal.summaries page ≡ true → is_some (get images page) ≡ true
  recorded page low has = of (get images page) refl
    where
      in_first : has_page told.opening.summaries page ≡ true → (image : PageImage) × (get t.opened.images.images page ≡ Some image)
      in_first first = some_of (get t.opened.images.images page) refl
          (is.opened_well.recorded page low (ap (λ (o : Origin). has_page o.summaries page) is.origin ∙ first))
        where
          some_of : (o : Option PageImage) → get t.opened.images.images page ≡ o → is_some (get t.opened.images.images page) ≡ true → (image : PageImage) × (get t.opened.images.images page ≡ Some image)
          some_of None at some = absurd (false≢true (sym (ap is_some at) ∙ some))
          some_of (Some image) at some = (image, at)

      parts : (has_page told.opening.summaries page ≡ true) ⊎ (some_has writes h page ≡ true)
      parts = ⊎_elim (λ first. inl first) (λ more. inr (sym (has_written told.opening.due h page) ∙ more))
          (or_parts (has_page told.opening.summaries page) (has_page (summaries_from told.opening.due h) page)
          (sym (list_any-append (λ s. list_any (λ p. p == page) s.pages) told.opening.summaries (summaries_from told.opening.due h)) ∙ ap (λ (l : List Summary). has_page l page) (sym is.summaries) ∙ has))

      of : (o : Option PageImage) → get images page ≡ o → is_some (get images page) ≡ true
      of (Some image) on = ap is_some on
      of None none = absurd (⊎_elim
          (λ first. let image = in_first first in
          let b = bare page (opened_low page image.0 image.1) none in some_none (sheet_in (get t.opened.images.images page)) image.0.sheet (ap sheet_in image.1) (sym (images_same page) ∙ b.unopened))
          (λ wrote. let b = bare page (is.within page wrote).1 none in false≢true (sym (none_written told h page b.quiet) ∙ wrote))
          parts)

  -- where the journal tells its records, they are those of the opening and then those of the history
  pub record Follows (list : List JournalRecord) : Type 0 where
    pub runs : t.opened.journal.stopped ≡ None
    pub first : List ℕ
    pub first_told : g.content t.opened.journal.disk ≡ Some first
    pub old : List JournalRecord
    pub first_is : records first ≡ Whole old
    pub new : List JournalRecord
    pub are : AreRecordsOf catalog BASE told.pages h new
    pub filed : AreFiledRecords catalog told.pages new
    pub list_is : list ≡ old ++ new

  follows : t.journal.stopped ≡ None → (bytes : List ℕ) → g.content t.journal.disk ≡ Some bytes → (list : List JournalRecord) → records bytes ≡ Whole list → Follows list
  follows runs bytes now list whole = of told.opening.journal refl
    where
      of : (o : Option (List ℕ)) → told.opening.journal ≡ o → Follows list
      of None none = absurd (some_none (g.content t.journal.disk) bytes now (is.tells runs none))
      of (Some first) on =
          let was = whole_told t.opened.journal.stopped (g.content t.opened.journal.disk) first (ap (λ (o : Origin). o.journal) is.origin ∙ on) in
          let keeps = is.opened_keeps in
          let at = (keeps.rest was.0).told first was.1 in
          let first_is = listing.records_are t.opened.journal.pages keeps.list t.opened.journal.end first at.front at.ends in
          let more = is.records_are first keeps.list was.0 on first_is in
          record {
            runs = was.0;
            first = first;
            first_told = was.1;
            old = keeps.list;
            first_is = first_is;
            new = more.0;
            are = more.1;
            filed = more.3;
            list_is = listing.whole_is (sym whole ∙ (more.2 bytes now).0 runs);
          }

  module _ (list : List JournalRecord) (f : Follows list) where
    last_image_is : (page : ℕ) → last_image page list None ≡ option_or (last_image page f.new None) (last_image page f.old None)
    last_image_is page = ap (λ (l : List JournalRecord). last_image page l None) f.list_is ∙ last_both page f.old f.new None ∙ last_or page f.new (last_image page f.old None)

    new_last : (page : ℕ) → IsLast catalog told.pages page (last_image page f.new None) (last_written h page)
    new_last page = last_is catalog told.pages page h f.new f.are f.filed

    -- the last image in the records is held, as it is read and written there
    held_from : (page : ℕ) (bytes : List ℕ) → 2 ≤ page → last_image page list None ≡ Some bytes → IsHeldFrom catalog BASE told.pages page images bytes
    held_from page bytes low at = of (last_image page f.new None) (new_last page) (sym (last_image_is page) ∙ at)
      where
        of : (o : Option (List ℕ)) → IsLast catalog told.pages page o (last_written h page) → option_or o (last_image page f.old None) ≡ Some bytes → IsHeldFrom catalog BASE told.pages page images bytes
        of (Some found) last same =
            let bytes_same : found ≡ bytes = cc same in
            record {
              sheet = last.0;
              held = known_held page last.0 (is.within page (written_has h page last.0 last.1)).1 (written_known page last.0 last.1);
              read = ap (page_read catalog BASE told.pages page) (sym bytes_same) ∙ last.2;
              written = last.3 ∙ bytes_same;
            }
        of None last same =
            let old = is.opened_well.recorded_last f.runs f.first f.first_told f.old f.first_is page bytes low same in
            record {
              sheet = old.sheet;
              held = known_held page old.sheet (opened_low page _ old.held) (opened_known page _ last old.held);
              read = read_same page bytes ∙ old.read;
              written = ap (λ (c : List Fields). file_bytes c BASE (record { page = page; sheet = old.sheet })) (sym catalog_same) ∙ old.written;
            }

    -- what no record of the history has, none has at the opening
    old_none : (page : ℕ) → last_image page list None ≡ None → (last_written h page ≡ None) × (last_image page f.old None ≡ None)
    old_none page at = of (last_image page f.new None) (new_last page) (sym (last_image_is page) ∙ at)
      where
        of : (o : Option (List ℕ)) → IsLast catalog told.pages page o (last_written h page) → option_or o (last_image page f.old None) ≡ None
            → (last_written h page ≡ None) × (last_image page f.old None ≡ None)
        of None last same = (last, same)
        of (Some found) last same = absurd (some_none (Some found) found refl same)

    -- page 1 is as it was at the opening
    catalog_bytes : (bytes : List ℕ) → page_bytes bytes list 1 ≡ page_bytes bytes f.old 1
    catalog_bytes bytes =
        ap (λ (o : Option (List ℕ)). unwrap_or o (piece (4096 * 1) 4096 bytes)) (last_image_is 1 ∙ of (last_image 1 f.new None) (new_last 1))
      where
        of : (o : Option (List ℕ)) → IsLast catalog told.pages 1 o (last_written h 1) → option_or o (last_image 1 f.old None) ≡ last_image 1 f.old None
        of None last = refl
        of (Some found) last = (let low = (is.within 1 (written_has h 1 last.0 last.1)).0 in absurd (omega (arith, low)))

  module _ (up : told.frontier ≤ told.pages) (most : told.pages < 16385)
      (has_form : ReadHasForm) (same_words : WritesWhatWasRead) (same_image : ReadsWhatWasWritten) (due_low : t.journal.next < 2 ^ 64) where
    abbrev marks : Marks
    marks = record { pages = told.pages; high_page = t.high_page; next_name = t.next_name; next_seq = t.journal.next }

    told_then : (bytes : List ℕ) → g.content t.file ≡ Some bytes → g.content t.opened.pages ≡ Some bytes
    told_then bytes now = ap g.content (sym is.file_is) ∙ now

    first_due : t.opened.marks.next_seq ≡ told.opening.due
    first_due = is.opened_well.number ∙ ap (λ (o : Origin). o.due) is.origin

    bounds : AreMarks marks
    bounds =
        let b = is.bounds in let b0 = b.0 in let b1 = b.1 in let b2 = b.2 in let b3 = b.3 in
        let pages = is.opened_well.bounds.pages.0 in
        let seq = is.opened_well.bounds.next_seq.0 in
        let least = due_least told.opening.due h (omega (arith, seq, first_due)) in
        let due = is.due in
        record {
          pages = (omega (arith, pages, pages_same), omega (arith, most));
          high_page = (b2, b3);
          next_name = (b0, b1);
          next_seq = (omega (arith, least, due), due_low);
        }

    sound : (page : ℕ) (image : PageImage) → get images page ≡ Some image → (image.page ≡ page) × (2 ≤ page) × (page < told.pages) × IsSound catalog BASE told.pages image
    sound page image on =
        let p = there page image on in (
          p.home,
          p.low.0,
          p.low.1,
          subst (λ (n : ℕ). HasForm catalog (is_memory_reference BASE told.pages) n image.sheet) (sym p.home)
              (form_for_more catalog (is_in_use told h) (is_memory_reference BASE told.pages) (λ a used. in_use_is_reference (is_memory_reference BASE told.pages a) _ used) page image.sheet p.form),
        )

    head : (bytes : List ℕ) → g.content t.file ≡ Some bytes → t.journal.summaries ≡ [] → piece 0 4096 bytes ≡ head_page marks
    head bytes now none =
        let parts = both_empty told.opening.summaries (summaries_from told.opening.due h) (sym is.summaries ∙ none) in
        let quiet : h ≡ [] = no_commits told.opening.due h parts.1 in
        let due_same : t.journal.next ≡ t.opened.marks.next_seq = is.due ∙ ap (due_after told.opening.due) quiet ∙ sym first_due in
        let first_none : t.opened.journal.summaries ≡ [] = ap (λ (o : Origin). o.summaries) is.origin ∙ parts.0 in
        let m = is.none none in
        let name : t.opened.marks.next_name ≡ t.next_name = sym m.0 in
        let high : t.opened.marks.high_page ≡ t.high_page = sym m.1 in
        let due_then : t.opened.marks.next_seq ≡ t.journal.next = sym due_same in
        let same : t.opened.marks ≡ marks = λ i. record { pages = pages_same i; high_page = high i; next_name = name i; next_seq = due_then i } in
        is.opened_well.head bytes (told_then bytes now) first_none ∙ ap head_page same

    others : (bytes : List ℕ) → g.content t.file ≡ Some bytes → (list : List JournalRecord) → Follows list → (page : ℕ) (image : PageImage)
        → get images page ≡ Some image → last_image page list None ≡ None → page_read catalog BASE told.pages page (piece (4096 * page) 4096 bytes) ≡ Ok image.sheet
    others bytes now list f page image on none = of (get t.opened.images.images page) refl
      where
        free : (last_written h page ≡ None) × (last_image page f.old None ≡ None)
        free = old_none list f page none

        of : (o : Option PageImage) → get t.opened.images.images page ≡ o → page_read catalog BASE told.pages page (piece (4096 * page) 4096 bytes) ≡ Ok image.sheet
        of None bare_then =
            read_for_more has_form same_words same_image catalog told.frontier told.pages page (piece (4096 * page) 4096 bytes) image.sheet up (omega (arith, most))
            ((there page image on).loaded
            (ap (λ (o : Option Sheet). option_or o (get told.opening.images page)) free.0 ∙ images_same page ∙ ap sheet_in bare_then) bytes (file_same ∙ told_then bytes now))
        of (Some first) at =
            read_same page (piece (4096 * page) 4096 bytes)
            ∙ is.opened_well.others bytes (told_then bytes now) f.runs f.first f.first_told f.old f.first_is page first at free.1
            ∙ ap Ok (sym ((there page image on).known first.sheet (opened_known page first free.0 at)))

    pub reopened : IsOpen g BASE (g.content t.file) t.journal catalog images marks
    reopened = record {
      bounds = bounds;
      page_count = sym is.page_count.0;
      number = refl;
      last = λ front s at. is.last front s at;
      sound = sound;
      recorded = recorded;
      recorded_last = λ runs bytes now list whole page image_bytes low at. held_from list (follows runs bytes now list whole) page image_bytes low at;
      size = λ bytes now. is.opened_well.size bytes (told_then bytes now) ∙ ap (λ (n : ℕ). 4096 * n) pages_same;
      head = head;
      catalog_is = λ file_bytes now runs bytes here list whole.
          let f = follows runs bytes here list whole in
          catalog_bytes list f file_bytes ∙ is.opened_well.catalog_is file_bytes (told_then file_bytes now) f.runs f.first f.first_told f.old f.first_is ∙ ap catalog_page catalog_same;
      others = λ file_bytes now runs bytes here list whole page image on none. others file_bytes now list (follows runs bytes here list whole) page image on none;
    }
