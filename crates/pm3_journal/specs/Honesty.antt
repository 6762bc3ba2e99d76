-- A recovery answers that its device failed exactly where it failed.
use Rattle.std.specs.Prelude.{Result, MatchResult}
use Rattle.pm3_disk.specs.Devices.{HasFailed, HasNotFailed}
use Rattle.pm3_disk.specs.declared.outside.Disk.{Ghosts}
use Rattle.pm3_journal.specs.declared.faults.RecoverFault.{RecoverFault}
use Rattle.pm3_journal.specs.declared.faults.RecoverFault.TheVariants.{JournalFault, Damaged, Memory}

module _ {D R : Type 0} (g : Ghosts D R) (old new : D) where
  -- a fault of the device was counted where that is what is told, and else none
  abbrev pub IsCauseOf : RecoverFault → Type 0
  IsCauseOf JournalFault = HasFailed g old new
  IsCauseOf (Damaged offset) = HasNotFailed g old new
  IsCauseOf Memory = HasNotFailed g old new

  -- where all went well, none was counted either
  abbrev pub IsHonestReading : {T : Type 0} → Result T RecoverFault → Type 0
  IsHonestReading result = MatchResult result (λ _. HasNotFailed g old new) IsCauseOf
