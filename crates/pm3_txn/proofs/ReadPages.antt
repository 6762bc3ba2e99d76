-- An image that was read from the page file is its page's value.
use Rattle.std.proofs.Common.{◌≡◌, ◌⊎◌, ◌<◌, ◌≤◌, ◌*◌, ◌/◌, ◌&&◌, ◌||◌, ◌==◌, ◌∙◌, inl, inr, ℕ, zero, suc, Bool, true, false, cond, nat_lt, List, length, drop, take, Option, Some, None, is_some, unwrap_or, Result, Ok, Err, IfOk, refl, sym, ap, subst, arith}
use Rattle.std.proofs.lemmas.Bool.{false≢true}
use Rattle.std.proofs.lemmas.Bool.Decides.{nat_tests}
use Rattle.std.specs.Option.{option_or}
use Rattle.std.specs.FinMap.{get}
use Rattle.pm3_core.specs.declared.naming.TheConstants.{BASE}
use Rattle.pm3_disk.specs.Content.{IfTold}
use Rattle.pm3_disk.specs.declared.outside.Disk.{Ghosts}
use Rattle.pm3_types.specs.Bytes.{piece}
use Rattle.pm3_types.specs.Fields.{Fields}
use Rattle.pm3_types.specs.Layout.{Sheet, PageImage, page_in}
use Rattle.pm3_types.specs.PageForm.{HasForm, IsSound, is_memory_reference}
use Rattle.pm3_page.specs.FormLaws.{ReadHasForm, WritesWhatWasRead, ReadsWhatWasWritten}
use Rattle.pm3_page.specs.PageBytes.{page_read, words_in}
use Rattle.pm3_page.specs.References.{from_file}
use Rattle.pm3_page.specs.Scan.{pass}
use Rattle.pm3_types.specs.PageOne.{padded}
use Rattle.pm3_pagefile.specs.Loading.{IsLoaded, read_of, part_word}
use Rattle.pm3_pagefile.specs.PageBytes.{page_at}
use Rattle.pm3_pagefile.specs.declared.faults.LoadFault.{LoadFault}
use Rattle.pm3_access.proofs.SoundingPages.{reference_for_more, form_for_more}
use Rattle.pm3_journal.specs.FileHead.{page_count_of}
use Rattle.pm3_journal.specs.Opening.{last_image, page_bytes}
use Rattle.pm3_history.specs.Entry.{Done}
use Rattle.pm3_history.specs.Opens.{Opens}
use Rattle.pm3_history.specs.State.{State, now}
use Rattle.pm3_history.proofs.Laying.{some_none, none_of}
use Rattle.pm3_history.proofs.Lasting.{last_is_written}
use Rattle.pm3_table.specs.declared.view.Told.{Told}
use Rattle.pm3_table.specs.Entries.{writes}
use Rattle.pm3_table.specs.Histories.{some_has}
use Rattle.pm3_table.specs.Telling.{Good, NoneNames}
use Rattle.pm3_txn.specs.declared.values.Value.{Value}
use Rattle.pm3_txn.specs.Knowing.{is_in_use}
use Rattle.pm3_txn.specs.Loads.{IsPersistent}
use Rattle.pm3_txn.specs.Slots.{stands_for}
use Rattle.pm3_txn.specs.Values.{IsPageOf, last_known}
use Rattle.pm3_txn.proofs.Seeing.{unwritten, none_written}

-- what a page without a value is
pub record IsBare (told : Told) (seen : List Done) (page : ℕ) : Type 0 where
  pub quiet : NoneNames told seen page
  pub unopened : get told.opening.images page ≡ None

pub bare_of : {D R : Type 0} (g : Ghosts D R) (told : Told) (lost seen : List Done) (page : ℕ) (slot : Option (Value D R))
    → Good (stands_for g) told lost seen page slot → slot ≡ None → IsBare told seen page
bare_of g told lost seen page None good none = record { quiet = good.1; unopened = good.2 }
bare_of g told lost seen page (Some x) good none = absurd (some_none (Some x) x refl none)

-- it lies below the frontier
pub bare_low : (told : Told) (seen : List Done) (page : ℕ) → IsPersistent told seen page → IsBare told seen page → (2 ≤ page) × (page < told.frontier)
bare_low told seen page persistent bare = (persistent.low.0, of persistent.used)
  where
    of : (page < told.frontier) ⊎ (some_has writes seen page ≡ true) → page < told.frontier
    of (inl low) = low
    of (inr has) = absurd (false≢true (sym (none_written told seen page bare.quiet) ∙ has))

words-length : (n : ℕ) (bytes : List ℕ) → length (words_in n bytes) ≡ n
unfolding words_in
words-length zero bytes = refl
words-length (suc n) bytes = ap suc (words-length n (drop 8 bytes))

whole_read : (catalog : List Fields) (pages page : ℕ) (bytes : List ℕ) (sheet : Sheet) → read_of catalog BASE pages page bytes ≡ Ok sheet → page_read catalog BASE pages page bytes ≡ Ok sheet
whole_read catalog pages page bytes sheet is = of (nat_lt (length bytes) 4096) is
  where
    of : (b : Bool) → cond b (Err (part_word (page_read catalog BASE pages page (padded 4096 bytes)) (length bytes / 8))) (page_read catalog BASE pages page bytes) ≡ Ok sheet
        → page_read catalog BASE pages page bytes ≡ Ok sheet
    of true e = absurd (cc e)
    of false e = e

-- what reads in a store of fewer pages reads the same in one of more
pub read_for_more : ReadHasForm → WritesWhatWasRead → ReadsWhatWasWritten → (catalog : List Fields) (few more page : ℕ) (bytes : List ℕ) (sheet : Sheet) → few ≤ more → more ≤ 16384
    → page_read catalog BASE few page bytes ≡ Ok sheet → page_read catalog BASE more page bytes ≡ Ok sheet
read_for_more has_form same_words same_image catalog few more page bytes sheet up most is =
    let words : List ℕ = words_in 512 bytes in
    let whole : length words ≡ 512 = words-length 512 bytes in
    let sound = (has_form catalog BASE few page words sheet whole is).1 in
    let wide : IsSound catalog BASE more (record { page = page; sheet = sheet }) =
    form_for_more catalog (is_memory_reference BASE few) (is_memory_reference BASE more) (λ a. reference_for_more BASE few more a up) page sheet sound in
    subst (λ (w : List ℕ). pass catalog (from_file BASE more) page w ≡ Ok sheet) (same_words catalog BASE few page words sheet (omega (arith, up, most)) whole is)
    (same_image catalog BASE more (record { page = page; sheet = sheet }) most wide)

below_frontier : (frontier a : ℕ) → is_memory_reference BASE frontier a ≡ true → ((a == 0) || nat_lt (page_in BASE a) frontier) ≡ true
unfolding is_memory_reference
below_frontier frontier a e = grind (arith, nat_tests, e)

-- a reference below the frontier may be one in a page's value
use_below : (told : Told) (seen : List Done) (a : ℕ) → told.frontier ≤ told.pages → is_memory_reference BASE told.frontier a ≡ true → is_in_use told seen a ≡ true
use_below told seen a up is = of (is_memory_reference BASE told.pages a) (a == 0) (nat_lt (page_in BASE a) told.frontier) (some_has writes seen (page_in BASE a))
    (reference_for_more BASE told.frontier told.pages a up is) (below_frontier told.frontier a is)
  where
    of : (x nil low written : Bool) → x ≡ true → (nil || low) ≡ true → (x && (nil || (low || written))) ≡ true
    of true true low written p q = refl
    of true false true written p q = refl
    of true false false written p q = absurd (cc q)
    of false nil low written p q = absurd (cc p)

module _ (told : Told) (seen : List Done) (page : ℕ) (persistent : IsPersistent told seen page) (bare : IsBare told seen page)
    (up : told.frontier ≤ told.pages) (most : told.pages < 16385) (has_form : ReadHasForm) (same_words : WritesWhatWasRead) (same_image : ReadsWhatWasWritten)
    (image : PageImage) (own : image.page ≡ page) (sound : IsSound told.opening.catalog BASE told.frontier image)
    (read : IfTold told.opening.file (λ bytes. read_of told.opening.catalog BASE told.frontier page (page_at page bytes) ≡ Ok image.sheet)) where
  unknown : last_known told.opening seen page ≡ None
  unknown = ap (λ (o : Option Sheet). option_or o (get told.opening.images page)) (unwritten told seen page bare.quiet) ∙ bare.unopened

  last : (st : State) → Opens BASE told.pages told.opening st → get (now told.opening.catalog BASE st seen).pages page ≡ Some image.sheet
  last st opens =
      last_is_written told.opening.catalog BASE st seen page
      ∙ ap (λ (o : Option Sheet). option_or o (get st.pages page)) (unwritten told seen page bare.quiet)
      ∙ ap (λ (s : State). get s.pages page) opens.state
      ∙ (opens.opens.images_are page image.sheet).1 (persistent.low.0, subst (λ (n : ℕ). page < n) (sym opens.count) persistent.low.1, reads)
    where
      in_file : last_image page opens.opens.list None ≡ None
      in_file = none_of (last_image page opens.opens.list None) (of (is_some (last_image page opens.opens.list None)) refl)
        where
          of : (b : Bool) → is_some (last_image page opens.opens.list None) ≡ b → is_some (last_image page opens.opens.list None) ≡ false
          of true is = absurd (false≢true (sym (ap is_some bare.unopened) ∙ opens.recorded page persistent.low.0 is))
          of false is = is

      wide : page_read told.opening.catalog BASE told.pages page (page_at page opens.page_file) ≡ Ok image.sheet
      wide = read_for_more has_form same_words same_image told.opening.catalog told.frontier told.pages page (page_at page opens.page_file) image.sheet up (omega (arith, most))
          (whole_read told.opening.catalog told.frontier page (page_at page opens.page_file) image.sheet (read opens.page_file opens.file_told))

      bytes_are : page_bytes opens.page_file opens.opens.list page ≡ page_at page opens.page_file
      bytes_are = ap (λ (o : Option (List ℕ)). unwrap_or o (piece (4096 * page) 4096 opens.page_file)) in_file

      reads : page_read opens.opens.catalog BASE (page_count_of (take 32 opens.journal_file)) page (page_bytes opens.page_file opens.opens.list page) ≡ Ok image.sheet
      reads =
          ap (λ (c : List Fields). page_read c BASE (page_count_of (take 32 opens.journal_file)) page (page_bytes opens.page_file opens.opens.list page)) opens.catalog_is
          ∙ ap (λ (n : ℕ). page_read told.opening.catalog BASE n page (page_bytes opens.page_file opens.opens.list page)) opens.count
          ∙ ap (page_read told.opening.catalog BASE told.pages page) bytes_are ∙ wide

  pub page_of_read : IsPageOf told seen page image
  page_of_read = record {
    low = persistent.low;
    home = own;
    form = subst (λ (n : ℕ). HasForm told.opening.catalog (is_in_use told seen) n image.sheet) own
        (form_for_more told.opening.catalog (is_memory_reference BASE told.frontier) (is_in_use told seen) (λ a. use_below told seen a up) image.page image.sheet sound);
    known = λ sheet is. absurd (some_none (last_known told.opening seen page) sheet is unknown);
    loaded = λ _ bytes told_it. whole_read told.opening.catalog told.frontier page (page_at page bytes) image.sheet (read bytes told_it);
    last = last;
  }

-- so it is for what a load answered
pub loaded_page : (told : Told) (seen : List Done) (page : ℕ) → IsPersistent told seen page → IsBare told seen page → told.frontier ≤ told.pages → told.pages < 16385
    → ReadHasForm → WritesWhatWasRead → ReadsWhatWasWritten → (result : Result PageImage LoadFault)
    → IfOk result (λ image. image.page ≡ page) → IfOk result (λ image. IsSound told.opening.catalog BASE told.frontier image)
    → IfTold told.opening.file (λ bytes. IsLoaded page (read_of told.opening.catalog BASE told.frontier page (page_at page bytes)) result)
    → IfOk result (λ image. IsPageOf told seen page image)
loaded_page told seen page persistent bare up most has_form same_words same_image (Ok image) own sound read =
    page_of_read told seen page persistent bare up most has_form same_words same_image image own sound (λ bytes told_it. (read bytes told_it).1)
loaded_page told seen page persistent bare up most has_form same_words same_image (Err fault) own sound read = tt
