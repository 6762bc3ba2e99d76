-- Units that a mutator gave back.
use Rattle.std.proofs.Common.{◌≡◌, ◌∙◌, ℕ, List, sym, ap}
use Rattle.pm3_table.specs.declared.view.Hold.{Hold}
use Rattle.pm3_table.specs.Ops.{gave}
use Rattle.pm3_txn.specs.Aborting.{HasOnlyGiven}
use Rattle.pm3_txn.specs.States.{MutatorState}
use Rattle.pm3_txn.specs.Takes.{with_view}

-- one unit that was given back is a giving of units
pub gave_only : {R : Type 0} (m n : MutatorState R) (u : ℕ) → n ≡ with_view m (gave m.pass.1 u) → HasOnlyGiven m n
gave_only m n u is = is ∙ ap (λ (hs : List Hold). with_view m (record m.pass.1 { holds = hs })) (sym (ap (λ (x : MutatorState _). x.pass.1.holds) is))
