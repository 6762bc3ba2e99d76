-- The state that a store opens to has its marks, and only names below the next one.
use Rattle.std.proofs.Common.{◌≡◌, ◌<◌, ℕ, List, [], ◌∷◌, ◌++◌, map, Option, Some, None, refl, sym, ap, ◌∙◌, subst}
use Rattle.std.proofs.lemmas.List.{map-append}
use Rattle.std.specs.FinMap.{get}
use Rattle.pm3_core.specs.declared.naming.TheConstants.{BASE}
use Rattle.pm3_disk.specs.declared.outside.Disk.{Ghosts}
use Rattle.pm3_types.specs.Layout.{page_in}
use Rattle.pm3_types.specs.Record.{Record}
use Rattle.pm3_types.specs.Shown.{shown_records}
use Rattle.pm3_types.proofs.Books.{shown_from}
use Rattle.pm3_pagefile.proofs.OneHead.{one_head}
use Rattle.pm3_page.specs.declared.marks.Marks.{Marks}
use Rattle.pm3_journal.specs.Format.{JournalRecord}
use Rattle.pm3_journal.specs.Journals.{Keeps}
use Rattle.pm3_journal.specs.Opened.{IsOpenStore}
use Rattle.pm3_journal.specs.Summaries.{summary_of}
use Rattle.pm3_journal.specs.declared.opened.Opened.{Opened}
use Rattle.pm3_journal.proofs.Listing.{records_are, whole_is}
use Rattle.pm3_history.specs.Opens.{Opens}
use Rattle.pm3_history.specs.State.{State}
use Rattle.pm3_txn.specs.Values.{origin_of, where_whole}

pub whole_told : (stopped : Option ℕ) (told : Option (List ℕ)) (bytes : List ℕ) → where_whole stopped told ≡ Some bytes → (stopped ≡ None) × (told ≡ Some bytes)
whole_told None told bytes is = (refl, is)
whole_told (Some n) told bytes is = absurd (cc is)

-- the last of a list
last_of : (r : JournalRecord) (rs : List JournalRecord) → (front : List JournalRecord) × (last : JournalRecord) × ((r ∷ rs) ≡ front ++ last ∷ [])
last_of r [] = ([], r, refl)
last_of r (s ∷ ss) = let o = last_of s ss in (r ∷ o.0, o.1, ap (λ (l : List JournalRecord). r ∷ l) o.2)

module _ {D R : Type 0} (g : Ghosts D R) (s : Opened D R) (open_is : IsOpenStore g s) (keeps : Keeps g s.journal) (st : State) (opens : Opens BASE s.marks.pages (origin_of g s) st) where
  list_is : opens.opens.list ≡ keeps.list
  list_is =
      let told = whole_told s.journal.stopped (g.content s.journal.disk) opens.journal_file opens.journal_told in
      let at = (keeps.rest told.0).told opens.journal_file told.1 in
      whole_is (sym opens.opens.records_are ∙ records_are s.journal.pages keeps.list s.journal.end opens.journal_file at.front at.ends)

  marks_by : (list : List JournalRecord) → keeps.list ≡ list → (opens.opens.next_name ≡ s.marks.next_name) × (opens.opens.high_page ≡ s.marks.high_page)
  marks_by [] none =
      let empty : s.journal.summaries ≡ [] = keeps.shown ∙ ap (map summary_of) none in
      let head = opens.opens.at.head (list_is ∙ none) in
      let marks : Marks = head.0 in
      let same : marks ≡ s.marks = one_head marks s.marks head.1 open_is.bounds (sym head.2 ∙ open_is.head opens.page_file opens.file_told empty) in
      (sym head.4 ∙ ap (λ (m : Marks). m.next_name) same, sym head.5 ∙ ap (λ (m : Marks). m.high_page) same)
  marks_by (r ∷ rs) some =
      let o = last_of r rs in
      let here : keeps.list ≡ o.0 ++ o.1 ∷ [] = some ∙ o.2 in
      let summaries : s.journal.summaries ≡ map summary_of o.0 ++ summary_of o.1 ∷ [] = keeps.shown ∙ ap (map summary_of) here ∙ map-append summary_of o.0 (o.1 ∷ []) in
      let read = opens.opens.at.last o.0 o.1 (list_is ∙ here) in
      let noted = open_is.last (map summary_of o.0) (summary_of o.1) summaries in
      (sym read.0 ∙ sym noted.0, sym read.1 ∙ sym noted.1)

  pub marks_now : (s.marks.next_name ≡ st.next_name) × (s.marks.high_page ≡ st.high_page)
  marks_now =
      let by = marks_by keeps.list refl in
      (sym by.0 ∙ ap (λ (x : State). x.next_name) (sym opens.state), sym by.1 ∙ ap (λ (x : State). x.high_page) (sym opens.state))

  pub names_below : (n : ℕ) (r : Record) → get st.graph.records n ≡ Some r → n < s.marks.next_name
  names_below n r has =
      let o = opens.opens in
      let there : get (shown_records o.catalog BASE o.book o.images) n ≡ Some r = ap (λ (x : State). get x.graph.records n) (sym opens.state) ∙ has in
      let from = shown_from o.catalog BASE o.book o.images n r there in
      subst (λ (top : ℕ). n < top) (marks_by keeps.list refl).0 (o.reached.names from.0 n from.1)

  -- and its objects lie below the high page
  pub pages_below : (a n : ℕ) → get st.book a ≡ Some n → page_in BASE a < s.marks.high_page
  pages_below a n has =
      let o = opens.opens in
      let there : get o.book a ≡ Some n = ap (λ (x : State). get x.book a) (sym opens.state) ∙ has in
      subst (λ (top : ℕ). page_in BASE a < top) (marks_by keeps.list refl).1 (o.reached.pages a n there)
