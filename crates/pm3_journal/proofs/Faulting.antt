-- Faults that are handed on.
use Rattle.std.proofs.Common.{◌≡◌, ℕ, Err}
use Rattle.std.specs.Prelude.{IsErrOf}
use Rattle.pm3_journal.specs.declared.faults.RecoverFault.{RecoverFault}
use Rattle.pm3_journal.specs.declared.faults.RecoverFault.TheVariants.{Damaged}

pub err_is : {T : Type 0} {a b : RecoverFault} → IsErrOf {T = T} (Err a) b → a ≡ b
err_is same = cc same

pub damaged_same : {T : Type 0} (x y : ℕ) → IsErrOf {T = T} (Err (Damaged x)) (Damaged y) → x ≡ y
damaged_same x y same = cc same
