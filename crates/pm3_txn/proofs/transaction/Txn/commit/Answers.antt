use Rattle.std.proofs.Common.{◌∙◌, sym}
use Rattle.pm3_table.specs.Words.{turn_unit}
use Rattle.pm3_txn.proofs.CommitSteps.{bare_space, busy_underway, committed, err_map, fault_is, ok_map, over_heap, over_space, some_space, space_committed, space_fault}
use Rattle.pm3_txn.proofs.TurnTaken.{free_before, has_passing, has_turn, turn_free, turn_value}
use Rattle.pm3_txn.proofs.transaction.Txn.commit.Goals as goal

pub take_turn-requires-clause-of : goal.take_turn-requires-clause-of
take_turn-requires-clause-of g c = c.self.invariant.mutator

pub take_turn-requires-clause-free : goal.take_turn-requires-clause-free
take_turn-requires-clause-free g c = turn_free c.self.inside.heap.now.1 c.self.inside.mutator.pass.1 c.self.inside.mutator.space c.self.inside.held c.self.invariant.holding

pub invariant_of-result : goal.invariant_of-result
invariant_of-result g c = busy_underway g.D.Reader.Reader.content c.self.inside.heap.now c.self.inside.mutator c.take_turn.new.self c.self.inside.held c.self.inside.tag
    (turn_unit c.self.inside.heap.now.1.pages) c.in-Err.busy.word c.self.invariant c.in-Err.ensures.busy.2 c.take_turn.ensures.kept

pub commit_space-requires-clause-ready : goal.commit_space-requires-clause-ready
commit_space-requires-clause-ready g c = has_passing g.D.Disk g.D.Reader.Reader.content c.self.inside.heap.now c.self.inside.mutator c.take_turn.new.self c.self.inside.held c.self.inside.tag c.in-Ok.turn c.self.invariant c.page_count.ensures.below c.in-Ok.ensures.taken
    (sym c.has_space.ensures ∙ c.if-has_space.true) c.take_turn.ensures.kept

pub commit_space-requires-clause-value : goal.commit_space-requires-clause-value
commit_space-requires-clause-value g c = turn_value g.D.Disk c.self.inside.heap.now.1 c.self.inside.mutator c.take_turn.new.self c.in-Ok.turn
    (free_before g.D.Disk g.D.Reader.Reader.content c.self.inside.heap.now c.self.inside.mutator c.take_turn.new.self c.self.inside.held c.self.inside.tag c.in-Ok.turn c.self.invariant c.page_count.ensures.below c.in-Ok.ensures.taken) c.in-Ok.ensures.taken

pub commit_with-requires : goal.commit_with-requires
commit_with-requires g c = record {
  ready = has_turn g.D.Disk g.D.Reader.Reader.content c.self.inside.heap.now c.self.inside.mutator c.take_turn.new.self c.self.inside.held c.self.inside.tag c.in-Ok.turn c.self.invariant c.page_count.ensures.below c.in-Ok.ensures.taken
      (bare_space c.self.inside.held.space (sym c.has_space.ensures ∙ c.if-has_space.false));
}

pub returns-then-has_space-clause-committed : goal.returns-then-has_space-clause-committed
returns-then-has_space-clause-committed g c =
    let some = some_space c.self.inside.held.space (sym c.has_space.ensures ∙ c.if-has_space.true) in
    rw (← c.self.view_is) (ok_map _ _ c.commit_space.result c.commit_space.ensures.committed
    (λ done is. space_committed g.D.Disk g.D.Reader.Reader.content c.self.inside.heap.now c.self.inside.mutator c.take_turn.new.self c.self.inside.held c.self.inside.tag c.in-Ok.turn c.self.invariant c.page_count.ensures.below c.in-Ok.ensures.taken
    some.0 some.1 done.0 done.1 is))

pub returns-then-has_space-clause-fault : goal.returns-then-has_space-clause-fault
returns-then-has_space-clause-fault g c =
    let some = some_space c.self.inside.held.space (sym c.has_space.ensures ∙ c.if-has_space.true) in
    rw (← c.self.view_is) (err_map _ _ c.commit_space.result c.commit_space.ensures.fault
    (λ fault is. space_fault g.D.Disk g.D.Reader.Reader.content c.self.inside.heap.now c.self.inside.mutator c.take_turn.new.self c.self.inside.held c.self.inside.tag c.in-Ok.turn c.self.invariant c.page_count.ensures.below c.in-Ok.ensures.taken
    some.0 some.1 fault is))

pub returns-then-has_space-clause-heap : goal.returns-then-has_space-clause-heap
returns-then-has_space-clause-heap g c = rw (← c.self.view_is) (err_map _ _ c.commit_space.result c.commit_space.ensures.fault
    (λ fault is. over_space g.D.Reader.Reader.content c.self.inside.heap.now c.self.inside.held c.self.inside.tag c.in-Ok.turn c.take_turn.new.self fault is))

pub returns-else-has_space-clause-committed : goal.returns-else-has_space-clause-committed
returns-else-has_space-clause-committed g c = rw (← c.self.view_is) (ok_map _ _ c.commit_with.result c.commit_with.ensures.recorded
    (λ done is. committed g.D.Disk g.D.Reader.Reader.content c.self.inside.heap.now c.self.inside.mutator c.take_turn.new.self c.self.inside.held c.self.inside.tag c.in-Ok.turn c.self.invariant c.page_count.ensures.below c.in-Ok.ensures.taken
    (bare_space c.self.inside.held.space (sym c.has_space.ensures ∙ c.if-has_space.false)) done.0 done.1 is))

pub returns-else-has_space-clause-fault : goal.returns-else-has_space-clause-fault
returns-else-has_space-clause-fault g c = rw (← c.self.view_is) (err_map _ _ c.commit_with.result c.commit_with.ensures.fault
    (λ fault is. fault_is g.D.Disk g.D.Reader.Reader.content c.self.inside.heap.now c.self.inside.mutator c.take_turn.new.self c.self.inside.held c.self.inside.tag c.in-Ok.turn c.self.invariant c.page_count.ensures.below c.in-Ok.ensures.taken
    (bare_space c.self.inside.held.space (sym c.has_space.ensures ∙ c.if-has_space.false)) fault is))

pub returns-else-has_space-clause-heap : goal.returns-else-has_space-clause-heap
returns-else-has_space-clause-heap g c = rw (← c.self.view_is) (err_map _ _ c.commit_with.result c.commit_with.ensures.fault
    (λ fault is. over_heap g.D.Reader.Reader.content c.self.inside.heap.now c.self.inside.held c.self.inside.tag c.in-Ok.turn c.take_turn.new.self fault is))
