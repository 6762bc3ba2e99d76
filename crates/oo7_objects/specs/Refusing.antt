-- Why a call may be refused, whatever the graph is.
use Rattle.pm3_core.specs.declared.naming.TheConstants.{BASE}
use Rattle.pm3_history.specs.Opens.{Opens}
use Rattle.pm3_history.specs.State.{State}
use Rattle.pm3_txn.specs.declared.faults.AccessFault.{AccessFault}
use Rattle.pm3_txn.specs.declared.faults.AccessFault.TheVariants.{NotAReference, Nil, Busy, PageFault, Damaged, NoSuchField, NoSuchTail, Full, Memory}
use Rattle.pm3_txn.specs.States.{TxnState, told_in}

-- another holds a unit, the page file failed or is damaged, a limit was reached, or there was no memory; never that the caller asked
-- for what isn't there
abbrev pub IsOfRun : AccessFault → Type 0
IsOfRun (NotAReference index) = ⊥
IsOfRun (Nil index) = ⊥
IsOfRun (Busy unit word) = Unit {0}
IsOfRun PageFault = Unit {0}
IsOfRun (Damaged page word) = Unit {0}
IsOfRun (NoSuchField ty field) = ⊥
IsOfRun (NoSuchTail ty at) = ⊥
IsOfRun (Full what limit) = Unit {0}
IsOfRun Memory = Unit {0}

-- why a call was refused, where the files open to anything
abbrev pub IsRefusal : {R : Type 0} → TxnState R → AccessFault → Type 0
IsRefusal t fault = (st : State) → Opens BASE (told_in t).pages (told_in t).opening st → IsOfRun fault
