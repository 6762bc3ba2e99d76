-- What clauses see of mutators and transactions.
use Rattle.std.specs.Prelude.{ℕ, Bool, List}
use Rattle.atomic_table.specs.Seated.{TableId}
use Rattle.pm3_access.specs.Holding.{Holding}
use Rattle.pm3_table.specs.declared.view.Told.{Told}
use Rattle.pm3_table.specs.declared.view.View.{View}

-- A mutator: which table it belongs to and its view, the number of its space, its reader, for each place of its row whether
-- it is tagged as a reference, and whether it was written since the transaction began; and one above the greatest name that the
-- transaction drew, or 0 where it drew none.
pub record MutatorState (R : Type 0) : Type 0 where
  pub pass : TableId × View
  pub space : ℕ
  pub reader : R
  pub refs : List Bool
  pub wrote : List Bool
  pub next_name : ℕ

-- a transaction: its heap, its mutator, what it holds, and its tag
pub record TxnState (R : Type 0) : Type 0 where
  pub heap : TableId × Told
  pub mutator : MutatorState R
  pub held : Holding
  pub tag : ℕ

abbrev pub told_in : {R : Type 0} → TxnState R → Told
told_in t = t.heap.1

abbrev pub view_in : {R : Type 0} → TxnState R → View
view_in t = t.mutator.pass.1
