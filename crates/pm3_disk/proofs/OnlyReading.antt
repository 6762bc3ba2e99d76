-- Calls that only read, one after another.
use Rattle.std.proofs.Common.{◌≡◌, ◌∙◌, List, ℕ, Some, refl, sym, ap, arith}
use Rattle.pm3_disk.specs.Content.{Unchanged}
use Rattle.pm3_disk.specs.Devices.{IsSynced, OnlyReads}
use Rattle.pm3_disk.specs.Moments.{After}
use Rattle.pm3_disk.specs.declared.outside.Disk.{Ghosts}
use Rattle.pm3_disk.proofs.Passing.{no_call, weaker, then_look, at_last}

module _ {D R : Type 0} {g : Ghosts D R} where
  -- no call was made
  pub no_read : (a : D) → OnlyReads g a a
  no_read a = record { same = refl; crash = no_call (After (g.may_leave a (g.moment a)) Unchanged); later = omega arith }

  -- one more
  pub reads_on : {a b c : D} → OnlyReads g a b → OnlyReads g b c → OnlyReads g a c
  reads_on {a} {b} {c} first second = record {
    same = second.same ∙ first.same;
    crash = then_look first.crash (λ left is. (left, is, refl)) second.crash;
    later = omega (arith, first.later, second.later);
  }

  -- what was synced is so still
  pub still_synced : {a b : D} → OnlyReads g a b → IsSynced g a → IsSynced g b
  still_synced {a} {b} reads synced = record { only = λ left is. reads.same ∙ at_last (weaker (λ c. g.content a ≡ Some c) reads.crash still) synced.only left is }
    where
      still : (c : List ℕ) → After (g.may_leave a (g.moment a)) Unchanged c → g.content a ≡ Some c
      still c (earlier, from, same) = synced.only earlier from ∙ ap Some (sym same)
