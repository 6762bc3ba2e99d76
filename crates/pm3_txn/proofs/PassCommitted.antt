-- The commit of a pass.
use Rattle.std.proofs.Common.{◌≡◌, ◌∙◌, ℕ, List, [], ◌∷◌, Option, sym, ap, subst, refl}
use Rattle.std.specs.FinMap as map
use Rattle.atomic_table.specs.Seated.{TableId}
use Rattle.pm3_core.specs.declared.naming.TheConstants.{BASE}
use Rattle.pm3_types.specs.PassMoves.{Move}
use Rattle.pm3_copy.specs.Spreading.{before_of}
use Rattle.pm3_access.specs.Parting.{joined}
use Rattle.pm3_history.specs.Entry.{Done}
use Rattle.pm3_table.specs.declared.view.Told.{Told}
use Rattle.pm3_table.specs.declared.view.View.{View}
use Rattle.pm3_table.specs.Telling.{MayJoin}
use Rattle.pm3_txn.specs.CarriedPass.{Carried, parts_of, pass_by}
use Rattle.pm3_txn.specs.PassCommits.{PassesFollow, done_with}
use Rattle.pm3_txn.specs.PassEnding.{HasCarried, IsPassCommit}
use Rattle.pm3_txn.specs.PassSteps.{set_aside}
use Rattle.pm3_txn.specs.States.{MutatorState}
use Rattle.pm3_txn.proofs.PassCarried.{done, pass}
use Rattle.pm3_txn.proofs.PassJoins.{may_fail}
use Rattle.pm3_txn.proofs.SameMoves.{same_moves}

-- the commit of a pass has the moves of that pass
module _ {R : Type 0} (content : R → Option (List ℕ)) (heap : TableId × Told) (m : MutatorState R) (c : Carried) (d : Done) (is : IsPassCommit content heap m c d) where
  abbrev has : HasCarried content heap m c
  has = is.has

  abbrev aside : View
  aside = (set_aside heap.1 m has.ready.log).pass.1

  pub commit_same : d ≡ done_with is.marks (joined (parts_of c)) (pass heap.1 aside m.space m.next_name m.pass.1.log c has.carried)
  commit_same = is.is ∙ ap (λ (l : List Move). done_with is.marks (joined (parts_of c)) (pass_by m.space m.next_name m.pass.1.names c l))
      (same_moves heap.1.opening.catalog BASE (before_of c.volatile.images c.written.images c.pins) (map.keys c.fresh) is.moves (done heap.1 aside m.space m.next_name m.pass.1.log c has.carried).moves
      is.moves_are (done heap.1 aside m.space m.next_name m.pass.1.log c has.carried).are)

  -- and may be kept as one that failed
  pub commit_may_fail : PassesFollow → m.pass.1.lost ≡ [] → MayJoin heap.1 m.pass.1 [] (d ∷ [])
  commit_may_fail follow none = subst (λ (e : Done). MayJoin heap.1 m.pass.1 [] (e ∷ [])) (sym commit_same)
      (may_fail follow heap.1 aside m.space m.next_name m.pass.1.log c has.carried is.marks is.marks_are.low is.marks_are.rise is.marks_are.high is.marks_are.most m.pass.1 refl none is.marks_are.mine)
