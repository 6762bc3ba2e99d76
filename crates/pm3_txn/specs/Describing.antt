-- What a transaction is told of an object besides the values at its places.
use Rattle.std.specs.Prelude.{ℕ, ◌≡◌, Option, Some}
use Rattle.pm3_core.specs.declared.naming.TheConstants.{BASE}
use Rattle.pm3_access.specs.Holding.{Holding}
use Rattle.pm3_history.specs.Opens.{Opens}
use Rattle.pm3_history.specs.State.{State}
use Rattle.pm3_table.specs.declared.view.Told.{Told}
use Rattle.pm3_table.specs.declared.view.View.{View}
use Rattle.pm3_txn.specs.Owners.{name_here}
use Rattle.pm3_txn.specs.Refusals.{HasObject}
use Rattle.pm3_txn.specs.States.{TxnState}

-- the object to which place i of the row leads, whose page is held, has x as its type, its name or the length of its tail
pub record IsDescribed {R : Type 0} (old new : TxnState R) (i : ℕ) (of : Holding → ℕ → Option ℕ) (x : ℕ) : Type 0 where
  pub address : ℕ
  pub object : HasObject old new i address
  pub is : of new.held address ≡ Some x

-- whatever the files opened to, it is the name of the object at the address in the graph
abbrev pub IsNameHere : Told → View → Holding → ℕ → ℕ → Type 0
IsNameHere told v h a n = (st : State) → Opens BASE told.pages told.opening st → name_here told v h st a ≡ n
