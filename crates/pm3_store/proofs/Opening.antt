-- A store is open once its journal is recovered and its page file is read.
use Rattle.std.proofs.Common.{◌≡◌, ◌⊎◌, ⊎_elim, inl, inr, ◌+◌, ◌*◌, ◌<◌, ◌≤◌, ℕ, true, List, [], ◌∷◌, ◌++◌, length, map, take, slice_index_or, Option, Some, None, is_some, unwrap_or, refl, sym, ◌∙◌, ap, subst, arith}
use Rattle.std.specs.FinMap.{get}
use Rattle.std.specs.Option.{option_or}
use Rattle.std.proofs.lemmas.Bool.{cases_lt}
use Rattle.pm3_core.specs.declared.naming.TheConstants.{BASE}
use Rattle.pm3_disk.specs.Content.{IfTold}
use Rattle.pm3_disk.specs.Devices.{HasFailed, HasNotFailed}
use Rattle.pm3_disk.specs.declared.outside.Disk.{Ghosts}
use Rattle.pm3_types.specs.Fields.{Fields}
use Rattle.pm3_types.specs.PageOne.{catalog_page}
use Rattle.pm3_page.specs.Head.{AreMarks, head_page}
use Rattle.pm3_page.specs.PageBytes.{page_read}
use Rattle.pm3_page.specs.PageMap.{Images}
use Rattle.pm3_page.specs.declared.marks.Marks.{Marks}
use Rattle.pm3_pagefile.specs.PageBytes as paged
use Rattle.pm3_journal.specs.FileHead.{page_count_of}
use Rattle.pm3_journal.specs.Format.{JournalRecord}
use Rattle.pm3_journal.specs.Honesty as honesty
use Rattle.pm3_journal.specs.JournalState.{JournalState}
use Rattle.pm3_journal.specs.Offsets.{has_offset}
use Rattle.pm3_journal.specs.Opened.{IsHeldFrom, IsOpen}
use Rattle.pm3_journal.specs.Opening.{last_image}
use Rattle.pm3_journal.specs.Pages.{image_of, page_at}
use Rattle.pm3_journal.specs.Records.{records, Damaged, Whole}
use Rattle.pm3_journal.specs.Summaries.{Summary, has_page, summary_of}
use Rattle.pm3_journal.specs.declared.faults.RecoverFault.{RecoverFault}
use Rattle.pm3_journal.specs.declared.faults.RecoverFault.TheVariants as faults
use Rattle.pm3_journal.proofs.Listing.{whole_is}
use Rattle.pm3_journal.proofs.Rising.{image_found}
use Rattle.pm3_store.specs.Damage.{catalog_departure, head_departure_below, ImageDeparts, IsCauseIn, IsFirstDamaged, IsPageCause, length_departure, page_file_departure, PageFileDeparts}
use Rattle.pm3_store.specs.Recovering.{ArePictures, bytes_at, cause_of, IsCauseOf, IsFirstBad, IsRecovered}
use Rattle.pm3_store.specs.declared.causes.OpenCause.{OpenCause}
use Rattle.pm3_store.specs.declared.causes.OpenCause.TheVariants.{JournalFault, JournalDamaged, PageFault, PageDamaged, Memory}
use Rattle.pm3_store.proofs.Carrying.{not_some}
use Rattle.pm3_store.proofs.Pictures.{image_index, index_image}
use Rattle.pm3_store.proofs.Recording.{with_journal}
use Rattle.pm3_store.proofs.Within.{page_within}

there : {A : Type 0} (o : Option A) → is_some o ≡ true → (x : A) × (o ≡ Some x)
there None is = absurd (cc is)
there (Some x) is = (x, refl)

module _ {D R : Type 0} (g : Ghosts D R) (j : JournalState D) (recovered : IsRecovered g j) where
  pages_has : (i : ℕ) → i < length j.images → has_page j.summaries (page_at j.images i) ≡ true
  pages_has i low = sym (recovered.held (page_at j.images i)) ∙ index_image j.images i low

  pages_within : (i : ℕ) → i < length j.images → (2 ≤ page_at j.images i) × (page_at j.images i < j.pages)
  pages_within i low = recovered.within (page_at j.images i) (pages_has i low)

  pages_placed : (i : ℕ) → i < length j.images → has_offset (slice_index_or j.offsets (page_at j.images i) None) ≡ true
  pages_placed i low = recovered.placed (page_at j.images i) ∙ pages_has i low

  pub within_now : (now : JournalState D) (n : ℕ) → now ≡ record j { next = n } → (i : ℕ) → i < length now.images → (2 ≤ page_at now.images i) × (page_at now.images i < now.pages)
  within_now now n same = subst (λ (k : JournalState D). (i : ℕ) → i < length k.images → (2 ≤ page_at k.images i) × (page_at k.images i < k.pages)) (sym same) pages_within

  pub placed_now : (now : JournalState D) (n : ℕ) → now ≡ record j { next = n } → (i : ℕ) → i < length now.images → has_offset (slice_index_or now.offsets (page_at now.images i) None) ≡ true
  placed_now now n same = subst (λ (k : JournalState D). (i : ℕ) → i < length k.images → has_offset (slice_index_or k.offsets (page_at k.images i) None) ≡ true) (sym same) pages_placed

  module _ (content : Option (List ℕ)) (catalog : List Fields) (images : Images) (marks : Marks) (n : ℕ)
      (pictures : ArePictures catalog BASE j.pages j.images (length j.images) images) (bounds : AreMarks marks) (count : marks.pages ≡ j.pages) (number : marks.next_seq ≡ n)
      (last : (front : List Summary) (s : Summary) → j.summaries ≡ front ++ s ∷ [] → (marks.next_name ≡ s.next_name) × (marks.high_page ≡ s.high_page))
      (size : IfTold content (λ bytes. length bytes ≡ 4096 * j.pages)) (head : IfTold content (λ bytes. j.summaries ≡ [] → paged.page_at 0 bytes ≡ head_page marks))
      (types : IfTold content (λ bytes. paged.page_at 1 bytes ≡ catalog_page catalog)) where
    own : ArePictures catalog BASE marks.pages j.images (length j.images) images
    own = subst (λ (p : ℕ). ArePictures catalog BASE p j.images (length j.images) images) (sym count) pictures

    list_is : (told : List ℕ) (is : g.content j.disk ≡ Some told) (list : List JournalRecord) → records told ≡ Whole list → (recovered.told told is).0 ≡ list
    list_is told is list whole = whole_is (sym (recovered.told told is).1.list_is ∙ whole)

    image_is : (told : List ℕ) (is : g.content j.disk ≡ Some told) (list : List JournalRecord) → records told ≡ Whole list → (page : ℕ) → image_of page j.images ≡ last_image page list None
    image_is told is list whole page = (recovered.told told is).1.images page ∙ ap (λ (l : List JournalRecord). last_image page l None) (list_is told is list whole)

    held_from : (page : ℕ) (bytes : List ℕ) → image_of page j.images ≡ Some bytes → IsHeldFrom catalog BASE marks.pages page images bytes
    held_from page bytes is =
        let at = image_index page j.images bytes is in
        subst (λ (p : ℕ). IsHeldFrom catalog BASE marks.pages p images bytes) at.2
        (subst (λ (b : List ℕ). IsHeldFrom catalog BASE marks.pages (page_at j.images at.0) images b) at.3 (own.each at.0 at.1))

    held_image : (page : ℕ) → has_page j.summaries page ≡ true → is_some (get images page) ≡ true
    held_image page has =
        let image = there (image_of page j.images) (recovered.held page ∙ has) in
        ap is_some (held_from page image.0 image.1).held

    pub opened : IsOpen g BASE content (record j { next = n; images = [] }) catalog images marks
    opened = record {
      bounds = bounds;
      page_count = count;
      number = number;
      last = last;
      sound = λ page image is.
          let from = own.only page image is in
          let within = pages_within from.0 from.1 in
          (from.3, omega (arith, within.0, from.2), omega (arith, within.1, from.2, count), from.4);
      recorded = λ page low has. held_image page has;
      recorded_last = λ idle told is list whole page bytes low last_is. held_from page bytes (image_is told is list whole page ∙ last_is);
      size = λ bytes told. size bytes told ∙ ap (λ (p : ℕ). 4096 * p) (sym count);
      head = head;
      catalog_is = λ bytes told idle journal is list whole. ap (λ (o : Option (List ℕ)). unwrap_or o (paged.page_at 1 bytes)) (no_one journal list whole) ∙ types bytes told;
      others = λ bytes told idle journal is list whole page image held none.
          let from = own.only page image held in
          let has = index_image j.images from.0 from.1 in
          let no_image : image_of page j.images ≡ None = image_is journal is list whole page ∙ none in
          absurd (cc (sym (ap (λ (p : ℕ). is_some (image_of p j.images)) from.2 ∙ ap is_some no_image) ∙ has));
    }
      where
        no_one : (journal : List ℕ) (list : List JournalRecord) → records journal ≡ Whole list → last_image 1 list None ≡ None
        no_one journal list whole = not_some (last_image 1 list None) (λ is.
            let within = page_within journal list 1 whole is in
            let low = within.0 in
            omega (arith, low))

  pub opened_now : (content now_content : Option (List ℕ)) (now : JournalState D) (catalog : List Fields) (images : Images) (marks : Marks) (n : ℕ) → now_content ≡ content → now ≡ record j { next = n; images = [] }
      → IsOpen g BASE content (record j { next = n; images = [] }) catalog images marks → IsOpen g BASE now_content now catalog images marks
  opened_now content now_content now catalog images marks n same_content same store =
      subst (λ (c : Option (List ℕ)). IsOpen g BASE c now catalog images marks) (sym same_content) (with_journal g BASE content now _ catalog images marks same store)

below_same : {A B : Type 0} (f : A → B) (pages : ℕ) (list : List A) (file : List ℕ) → head_departure_below pages (map f list) file ≡ head_departure_below pages list file
below_same f pages [] file = refl
below_same f pages (r ∷ rs) file = refl

-- the three pieces of what departs in a page file, one after the other
pub record AreDepartures (file journal : List ℕ) (pages : ℕ) (summaries : List Summary) : Type 0 where
  pub list : List JournalRecord
  pub list_is : records journal ≡ Whole list
  pub shown : summaries ≡ map summary_of list
  pub count : page_count_of (take 32 journal) ≡ pages

module _ (file journal : List ℕ) (pages : ℕ) (summaries : List Summary) (are : AreDepartures file journal pages summaries) where
  whole_departure : page_file_departure (page_count_of (take 32 journal)) are.list file ≡ option_or (length_departure pages file) (option_or (head_departure_below pages summaries file) (catalog_departure file))
  whole_departure =
      ap (λ (p : ℕ). page_file_departure p are.list file) are.count
      ∙ ap (λ (h : Option ℕ). option_or (length_departure pages file) (option_or h (catalog_departure file)))
      (sym (ap (λ (s : List Summary). head_departure_below pages s file) are.shown ∙ below_same summary_of pages are.list file))

  or_first : (a b : Option ℕ) (at : ℕ) → a ≡ Some at → option_or a b ≡ Some at
  or_first None b at is = absurd (cc is)
  or_first (Some x) b at is = is

  or_second : (a b : Option ℕ) → a ≡ None → option_or a b ≡ b
  or_second None b is = refl
  or_second (Some x) b is = absurd (cc is)

  pub length_departs : (at : ℕ) → length_departure pages file ≡ Some at → PageFileDeparts file journal (Some at)
  length_departs at is = (are.list, are.list_is, whole_departure ∙ or_first _ _ at is)

  pub head_departs : length_departure pages file ≡ None → (at : ℕ) → head_departure_below pages summaries file ≡ Some at → PageFileDeparts file journal (Some at)
  head_departs long at is = (are.list, are.list_is, whole_departure ∙ or_second _ _ long ∙ or_first _ _ at is)

  pub catalog_departs : length_departure pages file ≡ None → head_departure_below pages summaries file ≡ None → (at : ℕ) → catalog_departure file ≡ Some at → PageFileDeparts file journal (Some at)
  catalog_departs long head at is = (are.list, are.list_is, whole_departure ∙ or_second _ _ long ∙ or_second _ _ head ∙ is)

  pub nothing_departs : length_departure pages file ≡ None → head_departure_below pages summaries file ≡ None → catalog_departure file ≡ None → PageFileDeparts file journal None
  nothing_departs long head types = (are.list, are.list_is, whole_departure ∙ or_second _ _ long ∙ or_second _ _ head ∙ types)

pub page_cause : (file journal : List ℕ) (departure : Option ℕ) (cause : OpenCause) → ((at : ℕ) → departure ≡ Some at → PageFileDeparts file journal (Some at))
    → IsPageCause departure cause → IsCauseIn BASE file journal cause
page_cause file journal departure JournalFault departs is = absurd is
page_cause file journal departure (JournalDamaged offset) departs is = absurd is
page_cause file journal departure PageFault departs is = tt
page_cause file journal departure (PageDamaged offset) departs is = departs offset is
page_cause file journal departure Memory departs is = tt

-- the departures of a journal that was recovered
pub departures : {D R : Type 0} (g : Ghosts D R) (j : JournalState D) → IsRecovered g j → (file journal : List ℕ) → g.content j.disk ≡ Some journal → AreDepartures file journal j.pages j.summaries
departures g j recovered file journal told =
    let has = recovered.told journal told in
    record { list = has.0; list_is = has.1.list_is; shown = has.1.shown; count = has.1.page_count }

-- an image that departs is damage of the journal
pub image_cause : {D R : Type 0} (g : Ghosts D R) (j : JournalState D) → IsRecovered g j → (file journal : List ℕ) → g.content j.disk ≡ Some journal
    → PageFileDeparts file journal None → (catalog : List Fields) → paged.page_at 1 file ≡ catalog_page catalog
    → (pages : ℕ) (items : List (ℕ × List ℕ)) (offsets : List (Option ℕ)) → pages ≡ j.pages → items ≡ j.images → offsets ≡ j.offsets
    → (cause : OpenCause) → (cause ≡ Memory) ⊎ IsFirstBad catalog BASE pages items offsets cause → IsCauseIn BASE file journal cause
image_cause g j recovered file journal told sound catalog types pages items offsets same_pages same_items same_offsets cause either =
    ⊎_elim
    (λ (is : cause ≡ Memory). subst (IsCauseIn BASE file journal) (sym is) tt)
    (λ (bad : IsFirstBad catalog BASE pages items offsets cause). subst (IsCauseIn BASE file journal) (sym bad.is) (inr (departs bad)))
    either
  where
    list : List JournalRecord
    list = (recovered.told journal told).0

    departs : (bad : IsFirstBad catalog BASE pages items offsets cause) → ImageDeparts BASE file journal (bad.place + 8 * bad.word)
    departs bad =
        let has = (recovered.told journal told).1 in
        let count : page_count_of (take 32 journal) ≡ pages = has.page_count ∙ sym same_pages in
        record {
          list = (recovered.told journal told).0;
          catalog = catalog;
          records_are = has.list_is;
          sound = subst (λ (l : List JournalRecord). page_file_departure (page_count_of (take 32 journal)) l file ≡ None) (whole_is (sym sound.1 ∙ has.list_is)) sound.2;
          catalog_is = types;
          first = subst (λ (p : ℕ). IsFirstDamaged catalog BASE p (recovered.told journal told).0 (bad.place + 8 * bad.word)) (sym count) (first bad);
        }
      where
        last_is : (page : ℕ) → image_of page items ≡ last_image page (recovered.told journal told).0 None
        last_is page = ap (λ (l : List (ℕ × List ℕ)). image_of page l) same_items ∙ (recovered.told journal told).1.images page

        first : (bad : IsFirstBad catalog BASE pages items offsets cause) → IsFirstDamaged catalog BASE pages (recovered.told journal told).0 (bad.place + 8 * bad.word)
        first bad = record {
          page = page_at items bad.index;
          bytes = bytes_at items bad.index;
          word = bad.word;
          place = bad.place;
          last = sym (last_is (page_at items bad.index)) ∙ image_found (page_at items bad.index) bad.index items bad.rising bad.low refl;
          at = sym ((recovered.told journal told).1.offsets (page_at items bad.index)) ∙ ap (λ (l : List (Option ℕ)). slice_index_or l (page_at items bad.index) None) (sym same_offsets) ∙ bad.at;
          read = bad.read;
          is = refl;
          earlier = λ q bytes before is.
              let at = image_index q items bytes (last_is q ∙ is) in
              let sheet = bad.earlier at.0 (before_index bad at.0 at.1 (omega (arith, at.2, before))) in
              (sheet.0, ap (page_read catalog BASE pages q) (sym at.3) ∙ ap (λ (p : ℕ). page_read catalog BASE pages p (bytes_at items at.0)) (sym at.2) ∙ sheet.1);
        }
          where
            before_index : (bad : IsFirstBad catalog BASE pages items offsets cause) (i : ℕ) → i < length items → page_at items i < page_at items bad.index → i < bad.index
            before_index bad i low less = ⊎_elim (λ (is : i < bad.index). is) (λ (not_less : bad.index ≤ i). absurd (never not_less)) (cases_lt i bad.index)
              where
                never : bad.index ≤ i → ⊥
                never le = ⊎_elim
                    (λ (above : bad.index < i). (let rise = bad.rising bad.index i above low in omega (arith, rise, less)))
                    (λ (not_above : i ≤ bad.index). (let same : bad.index ≡ i = omega (arith, le, not_above) in
                    let pages_same : page_at items bad.index ≡ page_at items i = ap (page_at items) same in
                    omega (arith, pages_same, less)))
                    (cases_lt bad.index i)

pub recovered_cause : (base : ℕ) (file journal : List ℕ) (fault : RecoverFault) → ((offset : ℕ) → fault ≡ faults.Damaged offset → records journal ≡ Damaged offset)
    → IsCauseIn base file journal (cause_of fault)
recovered_cause base file journal faults.JournalFault damaged = tt
recovered_cause base file journal (faults.Damaged offset) damaged = inl (damaged offset refl)
recovered_cause base file journal faults.Memory damaged = tt

module _ {D R : Type 0} (g : Ghosts D R) (pages pages_now journal journal_now : D) where
  pub recover_fault : (fault : RecoverFault) → HasNotFailed g pages pages_now → honesty.IsCauseOf g journal journal_now fault → IsCauseOf g pages pages_now journal journal_now (cause_of fault)
  recover_fault faults.JournalFault calm is = (calm, is)
  recover_fault (faults.Damaged offset) calm is = (calm, is)
  recover_fault faults.Memory calm is = (calm, is)

  pub read_fault : (cause : OpenCause) → (cause ≡ JournalFault → ⊥) → HasNotFailed g journal journal_now → (cause ≡ PageFault → HasFailed g pages pages_now) → ((cause ≡ PageFault → ⊥) → HasNotFailed g pages pages_now)
      → IsCauseOf g pages pages_now journal journal_now cause
  read_fault JournalFault other calm failed fine = absurd (other refl)
  read_fault (JournalDamaged offset) other calm failed fine = (fine (λ e. absurd (cc e)), calm)
  read_fault PageFault other calm failed fine = (failed refl, calm)
  read_fault (PageDamaged offset) other calm failed fine = (fine (λ e. absurd (cc e)), calm)
  read_fault Memory other calm failed fine = (fine (λ e. absurd (cc e)), calm)

-- a journal whose number is set, and then its images are taken
pub without_images : {D : Type 0} (now mid j : JournalState D) (n : ℕ) → now ≡ record mid { images = [] } → mid ≡ record j { next = n } → now ≡ record j { next = n; images = [] }
without_images {D} now mid j n taken set = taken ∙ ap (λ (k : JournalState D). record k { images = [] }) set
