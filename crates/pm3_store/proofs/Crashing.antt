-- What a crash leaves of the two files while a checkpoint is made.
use Rattle.std.proofs.Common.{◌≡◌, ◌<◌, ℕ, List, length, Some, None}
use Rattle.pm3_core.specs.declared.naming.TheConstants.{BASE}
use Rattle.pm3_disk.specs.Content.{IfTold, TornWrite}
use Rattle.pm3_disk.specs.Devices.{IsSynced, Leaves, LeavesOnly, Takes}
use Rattle.pm3_disk.specs.Moments.{After}
use Rattle.pm3_disk.specs.declared.outside.Disk.{Ghosts}
use Rattle.pm3_disk.proofs.Passing.{at_last, no_call, weaker}
use Rattle.pm3_types.specs.Fields.{Fields}
use Rattle.pm3_types.specs.Graph.{Part}
use Rattle.pm3_page.specs.PageMap.{Images}
use Rattle.pm3_page.specs.declared.marks.Marks.{Marks}
use Rattle.pm3_pagefile.specs.PageBytes.{ChangesOnly, IsReplaced}
use Rattle.pm3_journal.specs.Journals.{Keeps}
use Rattle.pm3_journal.specs.JournalState.{JournalState}
use Rattle.pm3_journal.specs.Opened.{IsOpen}
use Rattle.pm3_journal.specs.Opening.{OpenTo}
use Rattle.pm3_journal.specs.Steps.{HasAllOrNone}
use Rattle.pm3_store.specs.Parting.{recorded_given}
use Rattle.pm3_store.specs.Standing.{EachOpens}
use Rattle.pm3_store.proofs.Carrying.{torn_opens, written_opens}
use Rattle.pm3_store.proofs.Recording.{told_list, some_list, are_last, are_left}

module _ {D R : Type 0} (g : Ghosts D R) where
  -- what a disk may leave now
  abbrev pub LeftBy : D → List ℕ → Type 0
  LeftBy disk = g.may_leave disk (g.moment disk)

  -- the clauses on both files, one call after the other, say that what is left at the end opens to the graph
  pub both_exits : (graph : Part) (pages pages_now journal journal_now : D) → EachOpens BASE (LeftBy pages) (LeftBy journal) graph
      → LeavesOnly g pages pages_now (λ left. (c : List ℕ) → LeftBy journal c → OpenTo BASE left c graph)
      → LeavesOnly g journal journal_now (λ left. (c : List ℕ) → LeftBy pages_now c → OpenTo BASE c left graph)
      → EachOpens BASE (LeftBy pages_now) (LeftBy journal_now) graph
  both_exits graph pages pages_now journal journal_now stands in_pages in_journal file bytes from left =
      at_last {P = λ c. (f : List ℕ) → LeftBy pages_now f → OpenTo BASE f c graph} in_journal
      (λ c was f is. at_last {P = λ l. (d : List ℕ) → LeftBy journal d → OpenTo BASE l d graph} in_pages (λ l was_file d was_journal. stands l d was_file was_journal) f is c was) bytes left file from

  -- no call was made on the journal
  pub no_journal_call : (journal : D) (graph : Part) (pages_now : D) → LeavesOnly g journal journal (λ left. (c : List ℕ) → LeftBy pages_now c → OpenTo BASE c left graph)
  no_journal_call journal graph pages_now = no_call (λ left. (c : List ℕ) → LeftBy pages_now c → OpenTo BASE c left graph)

  module _ (file : D) (j : JournalState D) (catalog : List Fields) (images : Images) (marks : Marks)
      (store : IsOpen g BASE (g.content file) j catalog images marks) (keeps : Keeps g j) (idle : j.stopped ≡ None) (some : 0 < length j.summaries)
      (graph : Part) (stands : EachOpens BASE (LeftBy file) (LeftBy j.disk) graph) where
    told_journal : (c : List ℕ) → LeftBy j.disk c → g.content j.disk ≡ Some c
    told_journal c left = (keeps.rest idle).settled.only c left

    -- while the page file is written
    pub pages_kept : (now : D) → Leaves g file now (ChangesOnly (recorded_given j.summaries marks catalog BASE images))
        → LeavesOnly g file now (λ left. (c : List ℕ) → LeftBy j.disk c → OpenTo BASE left c graph)
    pages_kept now leaves = weaker (λ left. (c : List ℕ) → LeftBy j.disk c → OpenTo BASE left c graph) leaves (λ left (earlier, was, changes) c from.
        let told = told_journal c from in
        torn_opens BASE earlier left c graph keeps.list marks (recorded_given j.summaries marks catalog BASE images) (stands earlier c was from)
        (told_list g BASE (g.content file) j catalog images marks store keeps idle some c told) (some_list g BASE (g.content file) j catalog images marks store keeps idle some)
        (are_last g BASE (g.content file) j catalog images marks store keeps idle some c told) changes)

    -- while the first gate is closed
    journal_kept : (now : D) → ((bytes : List ℕ) → g.content file ≡ Some bytes → LeftBy file bytes)
        → IsSynced g now → Takes g file now (IsReplaced (recorded_given j.summaries marks catalog BASE images))
        → (left : List ℕ) → After (LeftBy j.disk) HasAllOrNone left → (c : List ℕ) → LeftBy now c → OpenTo BASE c left graph
    journal_kept now leaves_file synced takes left (earlier, was, step) c from =
        let now_told = synced.only c from in
        let before = takes.back c now_told in
        let told_earlier = told_journal earlier was in
        let list_is = told_list g BASE (g.content file) j catalog images marks store keeps idle some earlier told_earlier in
        written_opens BASE before.0 c earlier left graph keeps.list marks (recorded_given j.summaries marks catalog BASE images)
        (stands before.0 earlier (leaves_file before.0 before.1) was) list_is (some_list g BASE (g.content file) j catalog images marks store keeps idle some)
        (are_last g BASE (g.content file) j catalog images marks store keeps idle some earlier told_earlier)
        (are_left g BASE (g.content file) j catalog images marks store keeps idle some earlier told_earlier) before.2 step.page_count (step.list keeps.list list_is)

    pub gate_kept : (now disk : D) → ((bytes : List ℕ) → g.content file ≡ Some bytes → LeftBy file bytes)
        → IsSynced g now → Takes g file now (IsReplaced (recorded_given j.summaries marks catalog BASE images))
        → LeavesOnly g j.disk disk (λ left. IfTold (g.content j.disk) (λ _. After (LeftBy j.disk) HasAllOrNone left))
        → Leaves g j.disk disk (TornWrite 32 1)
        → LeavesOnly g j.disk disk (λ left. (c : List ℕ) → LeftBy now c → OpenTo BASE c left graph)
    gate_kept now disk leaves_file synced takes crash write = record {
      later = crash.later;
      stays = crash.stays;
      no_other = crash.no_other;
      since = λ t left lt le is.
          let torn = write.since t left lt le is in
          journal_kept now leaves_file synced takes left (crash.since t left lt le is torn.0 (told_journal torn.0 torn.1));
    }
