-- The turn's value after an append.
use Rattle.std.proofs.Common.{◌≡◌, ◌≢◌, ◌⊎◌, ⊎_elim, ◌<◌, ◌≤◌, ◌+◌, ◌^◌, ◌++◌, ◌||◌, ◌∙◌, inl, inr, ℕ, true, false, List, [], ◌∷◌, map, length, Option, Some, None, Ok, is_some, refl, sym, ap, subst, arith, append_assoc}
use Rattle.std.proofs.lemmas.Bool.{false≢true}
use Rattle.std.specs.Option.{option_map}
use Rattle.std.specs.FinMap.{contains_key, get, keys}
use Rattle.pm3_core.specs.declared.naming.TheConstants.{BASE}
use Rattle.pm3_disk.specs.Content.{Steps}
use Rattle.pm3_disk.specs.Faults.{Rose}
use Rattle.pm3_disk.specs.declared.outside.Disk.{Ghosts}
use Rattle.pm3_types.specs.Fields.{Fields}
use Rattle.pm3_types.specs.Layout.{PageImage, Sheet}
use Rattle.pm3_types.specs.Shown.{Images as Sheets}
use Rattle.pm3_page.specs.PageBytes.{file_bytes, page_read}
use Rattle.pm3_page.specs.PageMap.{Images}
use Rattle.pm3_page.specs.PageSheets.{sheet_in}
use Rattle.pm3_page.proofs.SheetsOf.{get-sheets_of}
use Rattle.pm3_journal.specs.declared.entry.Entry.{Entry}
use Rattle.pm3_journal.specs.Entered.{record_of}
use Rattle.pm3_journal.specs.Format.{AreParts, IsFit, JournalRecord, PagePart, page_in}
use Rattle.pm3_journal.specs.JournalState.{grown, halted}
use Rattle.pm3_journal.specs.Journals.{failed_list}
use Rattle.pm3_journal.specs.Opening.{image_in}
use Rattle.pm3_journal.specs.Reading.{next_seq}
use Rattle.pm3_journal.specs.Records.{records, Whole}
use Rattle.pm3_journal.specs.Steps.{HasOneMore, HasMaybeOneMore}
use Rattle.pm3_journal.specs.Summaries.{Summary, part_of, summary_of}
use Rattle.pm3_history.specs.Entry.{Done}
use Rattle.pm3_history.specs.Files.{AreRecordsOf, IsRecordOf}
use Rattle.pm3_history.specs.State.{State}
use Rattle.pm3_history.proofs.Laying.{some_none}
use Rattle.pm3_table.specs.declared.view.Told.{Told}
use Rattle.pm3_table.specs.Entries.{writes}
use Rattle.pm3_table.specs.Histories.{some_has}
use Rattle.pm3_table.proofs.Has.{has_one}
use Rattle.pm3_txn.specs.Committing.{AreFiled, AreWritable, IsDoneOf, IsEntryFor, IsEntryOf, file_items}
use Rattle.pm3_txn.specs.Values.{AreFiledRecords, HasRecords, IsFiledRecord, IsTurnOf, TurnState, due_after, next_name_after, summaries_from, summary_at}
use Rattle.pm3_txn.proofs.Filed.{image_of_record, number_low, pages_same, parts_are}
use Rattle.pm3_txn.proofs.Seeing.{now_later}

summaries_more : (due : ℕ) (h : List Done) (d : Done) → summaries_from due (h ++ d ∷ []) ≡ summaries_from due h ++ summary_at (due_after due h) d ∷ []
summaries_more due [] d = refl
summaries_more due (e ∷ es) d = ap (λ (l : List Summary). summary_at due e ∷ l) (summaries_more (next_seq due) es d)

due_more : (due : ℕ) (h : List Done) (d : Done) → due_after due (h ++ d ∷ []) ≡ next_seq (due_after due h)
due_more due [] d = refl
due_more due (e ∷ es) d = due_more (next_seq due) es d

name_more : (first : ℕ) (h : List Done) (d : Done) → next_name_after first (h ++ d ∷ []) ≡ d.next_name
name_more first [] d = refl
name_more first (e ∷ es) d = name_more e.next_name es d

more_some : {A : Type 0} (a : List A) (x : A) → a ++ x ∷ [] ≡ [] → ⊥
more_some [] x is = cc is
more_some (y ∷ ys) x is = cc is

abbrev rest_of : {A : Type 0} → List A → List A
rest_of [] = []
rest_of (x ∷ xs) = xs

last_same : {A : Type 0} (a b : List A) (x y : A) → a ++ x ∷ [] ≡ b ++ y ∷ [] → x ≡ y
last_same [] [] x y is = cc is
last_same [] (c ∷ cs) x y is = absurd (more_some cs y (sym (ap rest_of is)))
last_same (c ∷ cs) [] x y is = absurd (more_some cs x (ap rest_of is))
last_same (c ∷ cs) (e ∷ es) x y is = last_same cs es x y (ap rest_of is)

records_more : (catalog : List Fields) (pages : ℕ) (ds : List Done) (rs : List JournalRecord) (d : Done) (r : JournalRecord) → AreRecordsOf catalog BASE pages ds rs
    → IsRecordOf catalog BASE pages d r → AreRecordsOf catalog BASE pages (ds ++ d ∷ []) (rs ++ r ∷ [])
records_more catalog pages [] [] d r are is = (is, tt)
records_more catalog pages [] (x ∷ xs) d r are is = absurd are
records_more catalog pages (e ∷ es) [] d r are is = absurd are
records_more catalog pages (e ∷ es) (x ∷ xs) d r are is = (are.0, records_more catalog pages es xs d r are.1 is)

filed_records_more : (catalog : List Fields) (pages : ℕ) (rs : List JournalRecord) (r : JournalRecord) → AreFiledRecords catalog pages rs → IsFiledRecord catalog pages r
    → AreFiledRecords catalog pages (rs ++ r ∷ [])
filed_records_more catalog pages [] r are is = (is, tt)
filed_records_more catalog pages (x ∷ xs) r are is = (are.0, filed_records_more catalog pages xs r are.1 is)

-- what told nothing before tells nothing
told_not : {before : Option (List ℕ)} (now : Option (List ℕ)) → before ≡ None → ((bytes : List ℕ) → now ≡ Some bytes → (was : List ℕ) × (before ≡ Some was)) → now ≡ None
told_not None none back = refl
told_not (Some bytes) none back = (let was = back bytes refl in absurd (some_none _ was.0 was.1 none))

image_for : (catalog : List Fields) (o : Option PageImage) (bytes : List ℕ) → option_map (file_bytes catalog BASE) o ≡ Some bytes
    → (image : PageImage) × (o ≡ Some image) × (file_bytes catalog BASE image ≡ bytes)
image_for catalog None bytes is = absurd (cc is)
image_for catalog (Some image) bytes is = (image, refl, cc is)

bytes_for : (catalog : List Fields) (o : Option PageImage) (sheet : Sheet) → sheet_in o ≡ Some sheet → is_some (option_map (file_bytes catalog BASE) o) ≡ true
bytes_for catalog None sheet is = absurd (cc is)
bytes_for catalog (Some image) sheet is = refl

-- an entry of a commit that made no name and moved nothing is one
pub entry_of : {D R : Type 0} (catalog : List Fields) (tag : ℕ) (t : TurnState D R) (images : Images) (e : Entry) → t.next_name ≤ 2 ^ 62 → IsEntryFor catalog tag t images e
    → IsEntryOf catalog tag t images e
entry_of catalog tag t images e low is = record {
  tag_is = is.tag_is;
  names = (let name = is.name in (omega (arith, name), omega (arith, name, low)));
  top = is.top;
  few = (let pins = is.none.0 in let moved = is.none.1 in (omega (arith, pins), omega (arith, moved)));
  pages = is.pages;
}

module _ {D R : Type 0} (g : Ghosts D R) (told : Told) (lost seen : List Done) (unit tag : ℕ) (t : TurnState D R) (is : IsTurnOf g told lost seen unit t)
    (small : told.pages < 16385) (e : Entry) (images : Images) (entry : IsEntryOf told.opening.catalog tag t images e) (d : Done) (done : IsDoneOf e images d)
    (writable : AreWritable told.opening.catalog told.pages images) (filed : AreFiled told.opening.catalog images) where
  abbrev r : JournalRecord
  r = record_of t.journal.next e

  abbrev catalog : List Fields
  catalog = told.opening.catalog

  parts_is : map part_of e.pages.items ≡ map part_of (file_items catalog images)
  parts_is = ap (map part_of) entry.pages

  -- the high page is in the store
  pub high_low : e.high_page ≤ told.pages
  high_low = of entry.top.met
    where
      of : (e.high_page ≡ t.high_page) ⊎ ((q : ℕ) × (contains_key images q ≡ true) × (e.high_page ≡ q + 1)) → e.high_page ≤ told.pages
      of (inl same) = (let low = is.bounds.3 in omega (arith, low, same))
      of (inr (q, has, at)) = inside (get images q) refl has
        where
          inside : (o : Option PageImage) → get images q ≡ o → is_some o ≡ true → e.high_page ≤ told.pages
          inside None none e' = absurd (cc e')
          inside (Some image) there e' = (let low = (writable q image there).2 in omega (arith, low, at))

  pub is_fit : t.journal.next < 2 ^ 64 → e.tag < 2 ^ 32 → IsFit t.journal.pages r
  is_fit due_low tag_low =
      let count = is.page_count.0 in let high = high_low in let least = entry.top.most in let b = is.bounds in
      let pins = entry.few.0 in let moved = entry.few.1 in let name = entry.names.0 in let names = entry.names.1 in
      let n0 = b.0 in let n2 = b.2 in let n3 = b.3 in
      record {
        page_count = omega (arith, count, small);
        seq = due_low;
        named = omega (arith, name, n0);
        names = names;
        tag = tag_low;
        number = (let long = ap length parts_is in let low = number_low catalog told.pages images writable (omega (arith, n2, n3)) in omega (arith, long, low, count));
        low = omega (arith, least, n2);
        high = omega (arith, high, count);
        pins = omega (arith, pins);
        moved = omega (arith, moved);
        parts = subst (λ (n : ℕ). AreParts n 1 r.parts) (sym count)
            (subst (λ (l : List PagePart). AreParts told.pages 1 l) (sym parts_is) (parts_are catalog told.pages images writable filed));
      }

  summary_is : summary_of r ≡ summary_at t.journal.next d
  summary_is = λ i. record {
    seq = t.journal.next;
    next_name = sym done.next_name i;
    tag = sym done.tag i;
    high_page = sym done.high_page i;
    pins = sym done.pins i;
    moved = sym done.moved i;
    pages = (ap (map page_in) parts_is ∙ pages_same catalog images ∙ ap keys (sym done.written_is)) i;
  }

  image_is : (q : ℕ) → image_in q r.parts None ≡ option_map (file_bytes catalog BASE) (get images q)
  image_is q = ap (λ (l : List PagePart). image_in q l None) parts_is ∙ image_of_record catalog images q

  record_is : IsRecordOf catalog BASE told.pages d r
  record_is = record { tag = sym done.tag; next_name = sym done.next_name; high_page = sym done.high_page; images = images_of; written = written_of }
    where
      images_of : (q : ℕ) (bytes : List ℕ) → image_in q r.parts None ≡ Some bytes → (sheet : Sheet) × (get d.written q ≡ Some sheet) × (page_read catalog BASE told.pages q bytes ≡ Ok sheet)
      images_of q bytes there =
          let from = image_for catalog (get images q) bytes (sym (image_is q) ∙ there) in
          let low = writable q from.0 from.1 in (
            from.0.sheet,
            ap (λ (m : Sheets). get m q) done.written_is ∙ get-sheets_of images q ∙ ap sheet_in from.1,
            subst (λ (n : ℕ). page_read catalog BASE told.pages n bytes ≡ Ok from.0.sheet) low.0
                (subst (λ (l : List ℕ). page_read catalog BASE told.pages from.0.page l ≡ Ok from.0.sheet) from.2 ((filed q from.0 from.1).back told.pages (omega (arith, small)) low.3)),
          )

      written_of : (q : ℕ) (sheet : Sheet) → get d.written q ≡ Some sheet → is_some (image_in q r.parts None) ≡ true
      written_of q sheet has = ap is_some (image_is q) ∙ bytes_for catalog (get images q) sheet (sym (ap (λ (m : Sheets). get m q) done.written_is ∙ get-sheets_of images q) ∙ has)

  -- what it has of each page is written of the sheet as which it reads
  record_filed : IsFiledRecord catalog told.pages r
  record_filed q bytes there =
      let from = image_for catalog (get images q) bytes (sym (image_is q) ∙ there) in
      let low = writable q from.0 from.1 in (
        from.0.sheet,
        subst (λ (n : ℕ). page_read catalog BASE told.pages n bytes ≡ Ok from.0.sheet) low.0
            (subst (λ (l : List ℕ). page_read catalog BASE told.pages from.0.page l ≡ Ok from.0.sheet) from.2 ((filed q from.0 from.1).back told.pages (omega (arith, small)) low.3)),
        ap (λ (n : ℕ). file_bytes catalog BASE (record { page = n; sheet = from.0.sheet })) (sym low.0) ∙ from.2,
      )

  -- its pages are in the store
  within_more : (q : ℕ) → some_has writes (seen ++ d ∷ []) q ≡ true → (2 ≤ q) × (q < told.pages)
  within_more q has = ⊎_elim (is.within q) (λ one. of (get images q) refl one) (has_one writes seen (d ∷ []) q has)
    where
      of : (o : Option PageImage) → get images q ≡ o → some_has writes (d ∷ []) q ≡ true → (2 ≤ q) × (q < told.pages)
      of None none one = absurd (false≢true (sym (ap (λ (o : Option Sheet). is_some o || false) (ap (λ (m : Sheets). get m q) done.written_is ∙ get-sheets_of images q ∙ ap sheet_in none)) ∙ one))
      of (Some image) on one = (let low = writable q image on in (low.1, low.2))

  -- the journal has the record
  module _ (disk : D) (whole : t.journal.stopped ≡ None) (added : Steps (HasOneMore r) (g.content t.journal.disk) (g.content disk)) (calm : g.faults disk ≡ g.faults t.journal.disk) where
    abbrev more : TurnState D R
    more = record { journal = grown r disk t.journal; next_name = e.next_name; high_page = e.high_page; file = t.file; opened = t.opened }

    summaries_now : more.journal.summaries ≡ told.opening.summaries ++ summaries_from told.opening.due (seen ++ d ∷ [])
    summaries_now =
        (λ i. is.summaries i ++ (summary_is ∙ ap (λ (n : ℕ). summary_at n d) is.due) i ∷ [])
        ∙ append_assoc told.opening.summaries (summaries_from told.opening.due seen) (summary_at (due_after told.opening.due seen) d ∷ [])
        ∙ ap (λ (l : List Summary). told.opening.summaries ++ l) (sym (summaries_more told.opening.due seen d))

    records_now : (first : List ℕ) (old : List JournalRecord) → t.opened.journal.stopped ≡ None → told.opening.journal ≡ Some first → records first ≡ Whole old
        → (new : List JournalRecord) × AreRecordsOf catalog BASE told.pages (seen ++ d ∷ []) new × HasRecords g more.journal (old ++ new) × AreFiledRecords catalog told.pages new
    records_now first old runs open_told opened =
        let before = is.records_are first old runs open_told opened in (
          before.0 ++ r ∷ [],
          records_more catalog told.pages seen before.0 d r before.1 record_is,
          (λ bytes at. both before.0 bytes (now_is before.0 before.2 bytes at)),
          filed_records_more catalog told.pages before.0 r before.3 record_filed,
        )
      where
        now_is : (new : List JournalRecord) → HasRecords g t.journal (old ++ new) → (bytes : List ℕ) → g.content disk ≡ Some bytes → records bytes ≡ Whole (old ++ (new ++ r ∷ []))
        now_is new has bytes at =
            let was = added.back bytes at in
            was.2.list (old ++ new) ((has was.0 was.1).0 whole) ∙ ap Whole (append_assoc old new (r ∷ []))

        both : (new : List JournalRecord) (bytes : List ℕ) → records bytes ≡ Whole (old ++ (new ++ r ∷ []))
            → (t.journal.stopped ≡ None → records bytes ≡ Whole (old ++ (new ++ r ∷ [])))
            × ((records bytes ≡ Whole (old ++ (new ++ r ∷ []))) ⊎ (records bytes ≡ Whole ((old ++ (new ++ r ∷ [])) ++ failed_list t.journal.failed)))
        both new bytes one = ((λ _. one), inl one)

    pub turn_grown : IsTurnOf g told lost (seen ++ d ∷ []) unit more
    turn_grown = record {
      unit = is.unit;
      origin = is.origin;
      file_is = is.file_is;
      opened_well = is.opened_well;
      opened_keeps = is.opened_keeps;
      page_count = is.page_count;
      summaries = summaries_now;
      due = ap next_seq is.due ∙ sym (due_more told.opening.due seen d);
      bounds = (let b = is.bounds in let name = entry.names.0 in let least = entry.top.most in let high = high_low in let n0 = b.0 in let n2 = b.2 in
          (omega (arith, name, n0), entry.names.1, omega (arith, least, n2), high));
      last = λ front s at. (let same = last_same t.journal.summaries front (summary_of r) s at in (ap (λ (x : Summary). x.next_name) same, ap (λ (x : Summary). x.high_page) same));
      marks = λ st opens. (
        sym done.next_name ∙ sym (ap (λ (x : State). x.next_name) (now_later told seen (d ∷ []) st)),
        sym done.high_page ∙ sym (ap (λ (x : State). x.high_page) (now_later told seen (d ∷ []) st)),
      );
      name_is = sym done.next_name ∙ sym (name_more told.next_name seen d);
      none = λ none. absurd (more_some t.journal.summaries (summary_of r) none);
      records_are = records_now;
      tells = λ _ none. told_not (g.content disk) (is.tells whole none) (λ bytes at. (let was = added.back bytes at in (was.0, was.1)));
      within = within_more;
      later = (let low = is.later in omega (arith, low, calm));
      stopped_at = λ n at. absurd (cc (sym whole ∙ at));
      halted = is.halted;
      whole = is.whole;
      failed = is.failed;
    }

  -- no commit failed before, where the journal is not stopped
  pub none_lost : t.journal.stopped ≡ None → lost ≡ []
  none_lost whole = of lost refl
    where
      some : (x : Done) (xs : List Done) → lost ≡ x ∷ xs → lost ≢ []
      some x xs at none = cc (sym at ∙ none)

      of : (l : List Done) → lost ≡ l → lost ≡ []
      of [] at = at
      of (x ∷ xs) at = absurd (is.halted (some x xs at) whole)

  -- the append failed
  module _ (disk : D) (whole : t.journal.stopped ≡ None) (added : Steps (HasMaybeOneMore r) (g.content t.journal.disk) (g.content disk)) (rose : Rose (g.faults t.journal.disk) (g.faults disk))
      (up : g.faults t.journal.disk ≤ g.faults disk) where
    abbrev torn : TurnState D R
    torn = record t { journal = halted r disk t.journal }

    records_then : (first : List ℕ) (old : List JournalRecord) → t.opened.journal.stopped ≡ None → told.opening.journal ≡ Some first → records first ≡ Whole old
        → (new : List JournalRecord) × AreRecordsOf catalog BASE told.pages seen new × HasRecords g torn.journal (old ++ new) × AreFiledRecords catalog told.pages new
    records_then first old runs open_told opened =
        let before = is.records_are first old runs open_told opened in
        (before.0, before.1, (λ bytes at. (λ none. absurd (cc none), now_is before.0 before.2 bytes at)), before.3)
      where
        now_is : (new : List JournalRecord) → HasRecords g t.journal (old ++ new) → (bytes : List ℕ) → g.content disk ≡ Some bytes
            → (records bytes ≡ Whole (old ++ new)) ⊎ (records bytes ≡ Whole ((old ++ new) ++ r ∷ []))
        now_is new has bytes at = (let was = added.back bytes at in was.2.list (old ++ new) ((has was.0 was.1).0 whole))

    pub turn_halted : IsTurnOf g told (lost ++ d ∷ []) seen unit torn
    turn_halted = record {
      unit = is.unit;
      origin = is.origin;
      file_is = is.file_is;
      opened_well = is.opened_well;
      opened_keeps = is.opened_keeps;
      page_count = is.page_count;
      summaries = is.summaries;
      due = is.due;
      bounds = is.bounds;
      last = is.last;
      marks = is.marks;
      name_is = is.name_is;
      none = is.none;
      records_are = records_then;
      tells = λ none. absurd (cc none);
      within = is.within;
      later = (let low = is.later in omega (arith, low, up));
      stopped_at = λ n at. inr ((let low = is.later in omega (arith, low, rose)), cc at);
      halted = λ some none. cc none;
      whole = λ none. absurd (more_some lost d none);
      failed = λ x at. (
        (λ none. cc none),
        (r, refl, subst (λ (y : Done). AreRecordsOf catalog BASE told.pages (y ∷ []) (r ∷ [])) (last_same lost [] d x at) (record_is, tt)),
      );
    }
