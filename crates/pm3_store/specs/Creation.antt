-- What the making of a store leaves of its two files.
use Rattle.std.specs.Prelude.{◌≡◌, ◌⊎◌, ℕ, ◌<◌, ◌≤◌, List, length, Result, Ok, Err, ⊤}
use Rattle.pm3_disk.specs.Content.{IfTold}
use Rattle.pm3_disk.specs.Devices.{HasFailed, HasNotFailed, Holds, IsKept, IsSynced, WasEmpty}
use Rattle.pm3_disk.specs.declared.outside.Disk.{Ghosts}
use Rattle.pm3_types.specs.Fields.{Fields}
use Rattle.pm3_journal.specs.FileHead.{empty_journal}
use Rattle.pm3_pagefile.specs.EmptyFile.{page_file}
use Rattle.pm3_store.specs.declared.creation.CreateFault.{CreateFault}
use Rattle.pm3_store.specs.declared.creation.CreateFault.TheVariants.{Exists, PageFault, JournalFault}

-- the two files of a store
pub record Files (D : Type 0) : Type 0 where
  pub pages : D
  pub journal : D

-- such files, of a page file and a journal
abbrev pub files : {D : Type 0} → D → D → Files D
files pages journal = record { pages = pages; journal = journal }

module _ {D R : Type 0} (g : Ghosts D R) where
  -- they hold a store of so many pages, and no object
  abbrev pub AreCreated : ℕ → List Fields → Files D → Files D → Type 0
  AreCreated count catalog old new = Holds g (page_file count catalog) old.pages new.pages × Holds g (empty_journal count) old.journal new.journal

  -- Neither file has counted a fault.
  abbrev pub NoneHasFailed : Files D → Files D → Type 0
  NoneHasFailed old new = HasNotFailed g old.pages new.pages × HasNotFailed g old.journal new.journal

  -- A page file whose length couldn't be read is left as it was, and so is the journal. One that failed later was empty,
  -- and the journal had been made by then.
  abbrev pub PagesHaveFailed : ℕ → Files D → Files D → Type 0
  PagesHaveFailed count old new =
      HasFailed g old.pages new.pages × HasNotFailed g old.journal new.journal
      × ((IsKept g old.pages new.pages × (new.journal ≡ old.journal)) ⊎ (WasEmpty g old.pages × Holds g (empty_journal count) old.journal new.journal))

  -- The journal failed: the page file was empty, and is still.
  abbrev pub JournalHasFailed : Files D → Files D → Type 0
  JournalHasFailed old new = WasEmpty g old.pages × HasFailed g old.journal new.journal × HasNotFailed g old.pages new.pages × IsKept g old.pages new.pages

  -- The page file has bytes: it is left as it was, and no call is made on the journal.
  abbrev pub HasStore : (ℕ → Type 0) → Files D → Files D → Type 0
  HasStore P old new =
      IfTold (g.content old.pages) (λ bytes. P (length bytes)) × IsKept g old.pages new.pages × HasNotFailed g old.pages new.pages × (new.journal ≡ old.journal)

  -- The making looks at the length, then makes the journal, then the page file: each fault leaves what comes after it.
  abbrev pub CreationEnds : ℕ → List Fields → Files D → Files D → Result ⊤ CreateFault → Type 0
  CreationEnds count catalog old new (Ok _) = WasEmpty g old.pages × AreCreated count catalog old new × NoneHasFailed old new
  CreationEnds count catalog old new (Err (Exists len)) = (0 < len) × HasStore (λ length. length ≡ len) old new
  CreationEnds count catalog old new (Err PageFault) = PagesHaveFailed count old new
  CreationEnds count catalog old new (Err JournalFault) = JournalHasFailed old new

  -- neither file's count of faults has fallen
  pub record AreOnward (old new : Files D) : Type 0 where
    pub pages : g.faults old.pages ≤ g.faults new.pages
    pub journal : g.faults old.journal ≤ g.faults new.journal

  -- a crash leaves both as they read
  pub record AreSynced (s : Files D) : Type 0 where
    pub pages : IsSynced g s.pages
    pub journal : IsSynced g s.journal
