-- Why a call of the index was refused.
use Rattle.std.specs.Prelude.{ℕ}
use Rattle.pm3_types.specs.Graph.{Part}
use Rattle.pm3_history.specs.State.{State}
use Rattle.pm3_txn.specs.States.{TxnState}
use Rattle.oo7_objects.specs.Refusing.{IsRefusal}
use Rattle.oo7_objects.specs.Wholes.{Knows, name_on}
use Rattle.oo7_index.specs.declared.faults.JobFault.{JobFault}
use Rattle.oo7_index.specs.declared.faults.JobFault.TheVariants.{Access, NotADesign}

-- an access was refused as a run may be, or the object that lies at the page and the word departs
abbrev pub IsJobFault : {R : Type 0} → TxnState R → TxnState R → (State → Part → ℕ → Type 0) → JobFault → Type 0
IsJobFault old new departs (Access fault) = IsRefusal old fault
IsJobFault old new departs (NotADesign page word) = Knows new (λ st w. departs st w (name_on new st page word))
