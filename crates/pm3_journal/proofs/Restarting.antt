-- What a journal keeps from the moment on at which it was read.
use Rattle.std.proofs.Common.{◌≡◌, inl, ℕ, Bool, true, false, List, [], ◌∷◌, ◌++◌, map, take, Option, Some, None, refl, sym, ◌∙◌, ap, subst, arith}
use Rattle.std.proofs.lemmas.List.{append-nil}
use Rattle.pm3_disk.specs.Content.{IfTold}
use Rattle.pm3_disk.specs.Devices.{IsSynced}
use Rattle.pm3_disk.specs.declared.outside.Disk.{Ghosts}
use Rattle.pm3_journal.specs.FileHead.{page_count_of}
use Rattle.pm3_journal.specs.Findings.{HasList}
use Rattle.pm3_journal.specs.Format.{Image, JournalRecord, page_in}
use Rattle.pm3_journal.specs.Gates.{IsGate}
use Rattle.pm3_journal.specs.JournalState.{JournalState}
use Rattle.pm3_journal.specs.Journals.{IsJournal, Keeps, failed_list}
use Rattle.pm3_journal.specs.Offsets.{images_at}
use Rattle.pm3_journal.specs.Opening.{last_image}
use Rattle.pm3_journal.specs.Pages.{image_of}
use Rattle.pm3_journal.specs.Reading.{State, at_start, Ends, record_at}
use Rattle.pm3_journal.specs.RecordFront.{is_due}
use Rattle.pm3_journal.specs.Records.{records, Whole, after}
use Rattle.pm3_journal.specs.Steps.{HasFirstOf}
use Rattle.pm3_journal.specs.Summaries.{Summary, summary_of}
use Rattle.pm3_journal.proofs.Continuing.{all_of}
use Rattle.pm3_journal.proofs.Imaging.{images_last}
use Rattle.pm3_journal.proofs.Listing.{records_are}

-- where nothing is told, some records have these summaries
some_record : Summary → JournalRecord
some_record h = record { seq = h.seq; next_name = h.next_name; tag = h.tag; high_page = h.high_page; pins = h.pins; moved = h.moved; parts = map (λ page. Image page []) h.pages }

same_pages : (pages : List ℕ) → pages ≡ map page_in (map (λ page. Image page []) pages)
same_pages [] = refl
same_pages (page ∷ pages) = ap (λ (l : List ℕ). page ∷ l) (same_pages pages)

same_summary : (h : Summary) → h ≡ summary_of (some_record h)
unfolding some_record
same_summary h = λ i. record { seq = h.seq; next_name = h.next_name; tag = h.tag; high_page = h.high_page; pins = h.pins; moved = h.moved; pages = same_pages h.pages i }

same_summaries : (hs : List Summary) → hs ≡ map summary_of (map some_record hs)
same_summaries [] = refl
same_summaries (h ∷ hs) = ap (λ (l : List Summary). h ∷ l) (same_summaries hs) ∙ ap (λ (x : Summary). x ∷ map summary_of (map some_record hs)) (same_summary h)

module _ {D R : Type 0} (g : Ghosts D R) (j : JournalState D) (due : Option ℕ) (here : j.since ≡ g.moment j.disk) (is_next : is_due due j.next ≡ true) (idle : j.stopped ≡ None) (sound : j.is_torn ≡ false) (unfailed : j.failed ≡ None)
    (has : IfTold (g.content j.disk) (HasList j.pages j.end due j.summaries j.offsets))
    (ends : IfTold (g.content j.disk) (λ bytes. record_at (record { pages = j.pages; due = due }) j.end bytes ≡ Ends))
    (gate : IfTold (g.content j.disk) (IsGate j.is_closed j.end)) (settled : IsSynced g j.disk) where
  untold : g.content j.disk ≡ None → Keeps g j
  untold none = record {
    list = map some_record j.summaries;
    shown = same_summaries j.summaries;
    kept = λ bytes told. absurd (cc (told, none));
    present = λ bytes told. absurd (cc (told, none));
    untorn = λ is. sound;
    none_failed = λ is. unfailed;
    rest = λ is. record { settled = settled; told = λ bytes told. absurd (cc (told, none)) };
  }

  told_it : (old : List ℕ) → g.content j.disk ≡ Some old → Keeps g j
  told_it old told_old = record {
    list = list;
    shown = found.shown;
    kept = λ bytes told. record {
      each = λ t c from to left.
          let moment : t ≡ g.moment j.disk = omega (arith, from, to, here) in
          let same = same_bytes c (subst (λ (m : ℕ). g.may_leave j.disk m c) moment left) in
          subst (HasFirstOf j.pages (list ++ failed_list j.failed)) same all_there;
    };
    present = λ bytes told c left.
        let same = same_bytes c left in
        record { page_count = ap (λ (b : List ℕ). page_count_of (take 32 b)) (sym same) ∙ found.front.page_count; whole = λ is. inl (ap records (sym same) ∙ list_here); torn = λ is. absurd (cc (is, sound)) };
    untorn = λ is. sound;
    none_failed = λ is. unfailed;
    rest = λ is. record { settled = settled; told = λ bytes told. subst (IsJournal j.pages j.end j.next j.is_closed list) (same_told bytes told) journal_here };
  }
    where
      found : HasList j.pages j.end due j.summaries j.offsets old
      found = has old told_old

      list : List JournalRecord
      list = found.list

      state : (record { pages = j.pages; due = due }) ≡ after (at_start j.pages) list
      state = sym found.state

      end_there : record_at (after (at_start j.pages) list) j.end old ≡ Ends
      end_there = subst (λ (s : State). record_at s j.end old ≡ Ends) state (ends old told_old)

      list_here : records old ≡ Whole list
      list_here = records_are j.pages list j.end old found.front end_there

      same_told : (bytes : List ℕ) → g.content j.disk ≡ Some bytes → old ≡ bytes
      same_told bytes told = cc (told, told_old)

      same_bytes : (c : List ℕ) → g.may_leave j.disk (g.moment j.disk) c → old ≡ c
      same_bytes c left = same_told c (settled.only c left)

      nothing_more : list ≡ list ++ failed_list j.failed
      nothing_more = sym (append-nil list) ∙ ap (λ (o : Option JournalRecord). list ++ failed_list o) (sym unfailed)

      all_there : HasFirstOf j.pages (list ++ failed_list j.failed) old
      all_there = all_of j.pages (list ++ failed_list j.failed) old found.front.page_count (list_here ∙ ap Whole nothing_more)

      journal_here : IsJournal j.pages j.end j.next j.is_closed list old
      journal_here = record { front = found.front; ends = end_there; gate = gate old told_old; due = ap (λ (s : State). is_due s.due j.next) (sym state) ∙ is_next }

  -- what a journal that was read keeps
  pub keeps_found : Keeps g j
  keeps_found = elim (g.content j.disk) as (λ (o : Option (List ℕ)). g.content j.disk ≡ o → Keeps g j) [ None ↦ untold | Some old ↦ told_it old ] refl

module _ (pages end : ℕ) (due : Option ℕ) (summaries : List Summary) (offsets : List (Option ℕ)) (bytes : List ℕ) (has : HasList pages end due summaries offsets bytes) (ends : record_at (record { pages = pages; due = due }) end bytes ≡ Ends) where
  ends_there : record_at (after (at_start pages) has.list) end bytes ≡ Ends
  ends_there = subst (λ (s : State). record_at s end bytes ≡ Ends) (sym has.state) ends

  -- the records that were read are those of the journal
  pub list_is : records bytes ≡ Whole has.list
  list_is = records_are pages has.list end bytes has.front ends_there

  pub journal_found : (next : ℕ) (is_closed : Bool) → is_due due next ≡ true → IsGate is_closed end bytes → IsJournal pages end next is_closed has.list bytes
  journal_found next is_closed is_next gate = record { front = has.front; ends = ends_there; gate = gate; due = ap (λ (s : State). is_due s.due next) has.state ∙ is_next }

  -- the images at the offsets are the last ones in the records
  pub last_found : (images : List (ℕ × List ℕ)) → images ≡ images_at 0 offsets bytes → (page : ℕ) → image_of page images ≡ last_image page has.list None
  last_found images are page = ap (image_of page) are ∙ images_last pages end has.list offsets bytes has.front has.offsets_are page
