-- Why a store is refused, or a command on it.
use Rattle.std.specs.Prelude.{◌≡◌, ◌≢◌, ◌⊎◌, ℕ, ◌+◌, ◌<◌, List, length, slice_index}
use Rattle.pm3_core.specs.declared.naming.TheConstants.{BASE}
use Rattle.pm3_disk.specs.Content.{IfTold}
use Rattle.pm3_disk.specs.Devices.{HasFailed, HasNotFailed}
use Rattle.pm3_disk.specs.declared.outside.Disk.{Ghosts}
use Rattle.pm3_types.specs.PageOne.{catalog_page}
use Rattle.pm3_pagefile.specs.PageBytes.{page_at}
use Rattle.oo7_schema.specs.Schema.{schema}
use Rattle.pm3_store.specs.Creation.{Files, NoneHasFailed}
use Rattle.pm3_store.specs.Damage.{IsCauseIn}
use Rattle.pm3_store.specs.Standing.{AreRead}
use Rattle.pm3_store.specs.declared.causes.OpenCause.{OpenCause}
use Rattle.pm3_store.specs.declared.causes.OpenCause.TheVariants as causes
use Rattle.oo7.specs.declared.refusal.Refusal.{Refusal}
use Rattle.oo7.specs.declared.refusal.Refusal.TheVariants.{Usage, PageFault, JournalFault, PageDamaged, JournalDamaged, Memory, Exists, Later}

-- the refusal of a store that doesn't open
abbrev pub refusal_by : OpenCause → Refusal
refusal_by causes.JournalFault = JournalFault
refusal_by (causes.JournalDamaged offset) = JournalDamaged offset
refusal_by causes.PageFault = PageFault
refusal_by (causes.PageDamaged offset) = PageDamaged offset
refusal_by causes.Memory = Memory

-- the first place in which two lists differ
pub record IsFirstDifference (xs ys : List ℕ) (at : ℕ) : Type 0 where
  pub low : at < length xs
  pub differs : slice_index xs at ≢ slice_index ys at
  pub earlier : (i : ℕ) → i < at → slice_index xs i ≡ slice_index ys i

-- the types of page 1 aren't those of the program, from this byte of the page file on
abbrev pub HasOtherTypes : List ℕ → ℕ → Type 0
HasOtherTypes file offset = (at : ℕ) × (offset ≡ 4096 + at) × IsFirstDifference (page_at 1 file) (catalog_page schema) at

module _ {D R : Type 0} (g : Ghosts D R) where
  -- the bytes of both files stand for no store of this program
  abbrev pub IsDamagedBy : Files D → Files D → (List ℕ → List ℕ → Type 0) → Type 0
  IsDamagedBy old new damage = AreRead g old new × NoneHasFailed g old new
      × IfTold (g.content old.pages) (λ file. IfTold (g.content old.journal) (λ journal. damage file journal))

  -- why a store isn't opened, or a command on it isn't done
  abbrev pub IsRefused : Files D → Files D → Refusal → Type 0
  IsRefused old new PageFault = HasFailed g old.pages new.pages × HasNotFailed g old.journal new.journal
  IsRefused old new JournalFault = HasNotFailed g old.pages new.pages × HasFailed g old.journal new.journal
  IsRefused old new (PageDamaged offset) = IsDamagedBy old new (λ file journal. IsCauseIn BASE file journal (causes.PageDamaged offset) ⊎ HasOtherTypes file offset)
  IsRefused old new (JournalDamaged offset) = IsDamagedBy old new (λ file journal. IsCauseIn BASE file journal (causes.JournalDamaged offset))
  IsRefused old new Memory = AreRead g old new × NoneHasFailed g old new
  IsRefused old new Usage = ⊥
  IsRefused old new Exists = ⊥
  IsRefused old new Later = ⊥
