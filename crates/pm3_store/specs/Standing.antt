-- What a crash leaves of an open store opens to a graph.
use Rattle.std.specs.Prelude.{◌≡◌, ℕ, List, Some}
use Rattle.pm3_core.specs.declared.naming.TheConstants.{BASE}
use Rattle.pm3_disk.specs.Devices.{LeavesOnly, OnlyReads}
use Rattle.pm3_disk.specs.declared.outside.Disk.{Ghosts}
use Rattle.pm3_types.specs.Graph.{Part}
use Rattle.pm3_journal.specs.Opening.{OpenTo}
use Rattle.pm3_journal.specs.declared.opened.Opened.{Opened}
use Rattle.pm3_store.specs.Creation.{Files, files}

-- each of these page files with each of these journals opens to the graph
abbrev pub EachOpens : ℕ → (List ℕ → Type 0) → (List ℕ → Type 0) → Part → Type 0
EachOpens base files journals graph = (file journal : List ℕ) → files file → journals journal → OpenTo base file journal graph

-- the two files of an open store
abbrev pub files_of : {D R : Type 0} → Opened D R → Files D
files_of s = files s.pages s.journal.disk

module _ {D R : Type 0} (g : Ghosts D R) where
  -- the bytes that the two files tell open to the graph
  pub record AreOpenTo (s : Files D) (graph : Part) : Type 0 where
    pub file : List ℕ
    pub journal : List ℕ
    pub file_told : g.content s.pages ≡ Some file
    pub journal_told : g.content s.journal ≡ Some journal
    pub opens : OpenTo BASE file journal graph

  -- both files have only been read
  abbrev pub AreRead : Files D → Files D → Type 0
  AreRead old new = OnlyReads g old.pages new.pages × OnlyReads g old.journal new.journal

  -- whatever a crash now leaves of the two files opens to the graph
  abbrev pub Stands : Files D → Part → Type 0
  Stands s graph = EachOpens BASE (g.may_leave s.pages (g.moment s.pages)) (g.may_leave s.journal (g.moment s.journal)) graph

  -- what a crash since may leave of the page file opens to the graph, with what one before could leave of the journal
  abbrev pub PagesStand : Files D → Files D → Part → Type 0
  PagesStand old new graph = LeavesOnly g old.pages new.pages (λ left. (journal : List ℕ)
      → g.may_leave old.journal (g.moment old.journal) journal → OpenTo BASE left journal graph)

  -- what a crash since may leave of the journal opens to the graph, with what one now may leave of the page file
  abbrev pub JournalStands : Files D → Files D → Part → Type 0
  JournalStands old new graph = LeavesOnly g old.journal new.journal (λ left. (file : List ℕ)
      → g.may_leave new.pages (g.moment new.pages) file → OpenTo BASE file left graph)
