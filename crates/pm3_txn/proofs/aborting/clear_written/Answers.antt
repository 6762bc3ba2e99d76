use Rattle.std.proofs.Common.{◌≡◌, ◌+◌, ◌∙◌, ℕ, Bool, true, false, List, length, slice_index_or, sym, ap, subst, arith}
use Rattle.pm3_table.specs.declared.view.View.{View}
use Rattle.pm3_txn.specs.Aborting.{HasCleared}
use Rattle.pm3_txn.specs.States.{MutatorState}
use Rattle.pm3_txn.specs.Underway.{IsMutatorOf}
use Rattle.pm3_txn.proofs.Cleared.{cleared_all, cleared_belongs, cleared_more, cleared_still, still_written, written_below}
use Rattle.pm3_txn.proofs.aborting.clear_written.Goals as goal
use Rattle.pm3_txn.proofs.aborting.clear_written.Goals.{then-has_written, else-has_written}

pub loop-j-preserved : goal.loop-j-preserved
loop-j-preserved g c = (let inv = c.loop-j.invariant in
    let first = c.args.mutator.now in
    let mid = c.loop-j.mutator in
    let j : ℕ = c.loop-j.j in
    let below = c.loop-j-test.true in
    elim c.if-has_written.branch [
      | then-has_written w ↦ (let put = w.clear_word.ensures.put in
          let is : slice_index_or mid.wrote j false ≡ true = sym c.has_written.ensures ∙ w.if-has_written.true in
          record {
            cleared = subst (λ (m : MutatorState _). HasCleared first m (written_below first.wrote (j + 1))) (sym w.mutator-is)
                (cleared_more first mid w.clear_word.new.self j (let long : length mid.refs ≡ 512 = inv.kept.tags.0 in omega (arith, long, below)) (sym (inv.wrote j) ∙ is) inv.cleared put w.clear_word.ensures.calm);
            wrote = λ q. ap (λ (m : MutatorState _). slice_index_or m.wrote q false) w.mutator-is ∙ ap (λ (l : List Bool). slice_index_or l q false) put.wrote
                ∙ still_written first.wrote mid.wrote j (let long : length mid.wrote ≡ 512 = inv.kept.tags.1 in omega (arith, long, below)) is inv.wrote q;
            held = ap (λ (m : MutatorState _). m.pass.1.holds) w.mutator-is ∙ ap (λ (v : View). v.holds) put.view.1 ∙ inv.held;
            kept = subst (IsMutatorOf g.D.Reader.Reader.content c.args.heap.now) (sym w.mutator-is) w.clear_word.ensures.kept;
          })
      | else-has_written w ↦ (let is : slice_index_or mid.wrote j false ≡ false = sym c.has_written.ensures ∙ w.if-has_written.false in
          record {
            cleared = subst (λ (m : MutatorState _). HasCleared first m (written_below first.wrote (j + 1))) (sym w.mutator-is)
                (cleared_still first mid j (sym (inv.wrote j) ∙ is) inv.cleared);
            wrote = λ q. ap (λ (m : MutatorState _). slice_index_or m.wrote q false) w.mutator-is ∙ inv.wrote q;
            held = ap (λ (m : MutatorState _). m.pass.1.holds) w.mutator-is ∙ inv.held;
            kept = subst (IsMutatorOf g.D.Reader.Reader.content c.args.heap.now) (sym w.mutator-is) inv.kept;
          })
    ])

pub returns-clause-kept : goal.returns-clause-kept
returns-clause-kept g c =
    let above = c.loop-j-test.false in
    let most = c.loop-j.auto.j-end in
    cleared_belongs g.D.Reader.Reader.content c.args.heap.now c.args.mutator.now c.loop-j.mutator c.requires.known
    (cleared_all c.args.mutator.now c.loop-j.mutator c.loop-j.j (let long = c.requires.of.tags.1 in omega (arith, long, above, most)) c.loop-j.invariant.cleared) c.loop-j.invariant.kept
