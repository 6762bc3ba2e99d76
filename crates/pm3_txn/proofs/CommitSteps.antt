-- A commit, from before the turn was taken.
use Rattle.std.proofs.Common.{◌≡◌, ◌≤◌, ◌++◌, ◌∙◌, ℕ, max, Bool, true, false, List, [], ◌∷◌, Option, Some, None, is_some, Result, Ok, Err, IfOk, IfErr, slice_index_or, refl, sym, ap, subst, arith}
use Rattle.std.proofs.lemmas.Bool.{false≢true}
use Rattle.std.specs.Option.{option_map}
use Rattle.std.specs.FinMap.{contains_key}
use Rattle.atomic_table.specs.Seated.{TableId}
use Rattle.pm3_core.specs.declared.naming.TheConstants.{BASE}
use Rattle.pm3_core.specs.Naming.{Names}
use Rattle.pm3_disk.specs.declared.outside.Disk.{Ghosts}
use Rattle.pm3_access.specs.Acts.{space_left}
use Rattle.pm3_access.specs.Holding.{HeldSpaceState, Holding, by_space, with_free}
use Rattle.pm3_graph.specs.Operation.{IsRun}
use Rattle.pm3_journal.specs.declared.entry.Receipt.{Receipt}
use Rattle.pm3_history.specs.Entry.{Done}
use Rattle.pm3_history.specs.Named.{book_of}
use Rattle.pm3_history.specs.Opens.{Opens}
use Rattle.pm3_history.specs.State.{State, now}
use Rattle.pm3_table.specs.declared.view.Told.{Told}
use Rattle.pm3_table.specs.declared.view.View.{View}
use Rattle.pm3_table.specs.Deeds.{stands_of, word_of}
use Rattle.pm3_table.specs.Holds.{holds_of}
use Rattle.pm3_table.specs.Ops.{gave, refused}
use Rattle.pm3_table.specs.Words.{turn_unit}
use Rattle.pm3_txn.specs.declared.commit_fault.CommitEnd.{CommitEnd}
use Rattle.pm3_txn.specs.declared.commit_fault.CommitEnd.TheVariants as end
use Rattle.pm3_txn.specs.declared.commit_fault.CommitFault.{CommitFault}
use Rattle.pm3_txn.specs.declared.commit_fault.CommitFault.TheVariants.{Refused, Ended}
use Rattle.pm3_txn.specs.declared.commit_fault.CommitRefusal.{CommitRefusal}
use Rattle.pm3_txn.specs.declared.commit_fault.CommitRefusal.TheVariants.{Busy, Full, Memory, Later}
use Rattle.pm3_txn.specs.declared.values.Turn.{Turn as Turns}
use Rattle.pm3_txn.specs.declared.values.Value.TheVariants.{Turn}
use Rattle.pm3_txn.specs.Aborting.{HasCleared}
use Rattle.pm3_txn.specs.Commits.{HasCommitted, HasEnded, HasKept, HasMarksAfter, IsAsBefore, IsCommitBy, IsCommitEnd, IsCommitFault, IsCommitRefusal, IsHeldStill, IsOverHeap, IsWrittenBy, name_with}
use Rattle.pm3_txn.specs.CommitParts.{HasMoreFree, HasOnlyPassed, HasOnlySeen, IsPassOver}
use Rattle.pm3_txn.specs.Committing.{HasFailed, HasGivenTurn, HasRecorded, HasTurn, IsCommitFor, IsEndOf, IsFaultOf}
use Rattle.pm3_txn.specs.Frontiers.{IsTop}
use Rattle.pm3_txn.specs.Owners.{AdvancesOn}
use Rattle.pm3_txn.specs.PassEnding.{HasFailedPass}
use Rattle.pm3_txn.specs.PassSteps.{IsPassRefusal}
use Rattle.pm3_txn.specs.Slots.{turn_state}
use Rattle.pm3_txn.specs.SpaceCommits.{HasCommittedSpace, HasGoneOn, HasTurnValue, IsAppendEnd, IsSpaceCommit, IsSpaceFault}
use Rattle.pm3_txn.specs.States.{MutatorState, TxnState, view_in}
use Rattle.pm3_txn.specs.Takes.{HasTaken, with_view}
use Rattle.pm3_txn.specs.Heaps.{IsBelow}
use Rattle.pm3_txn.specs.Knowing.{state_seen}
use Rattle.pm3_txn.specs.Touching.{nothing_more}
use Rattle.pm3_txn.specs.Underway.{IsMutatorOf, IsUnderway}
use Rattle.pm3_txn.specs.Values.{WasStopped, due_after, moves_of, next_name_after, pins_of}
use Rattle.pm3_txn.proofs.Advancing.{moment, advances_both, goes_still}
use Rattle.pm3_txn.proofs.Growing.{free_found, free_starts}
use Rattle.pm3_txn.proofs.Keeping.{keeps_books}
use Rattle.pm3_txn.proofs.Seeing.{settled_now}
use Rattle.pm3_txn.proofs.Touched.{away_underway}
use Rattle.pm3_txn.proofs.WorksBegin.{works_alone}
use Rattle.pm3_txn.proofs.Touched.{no_more}
use Rattle.pm3_txn.proofs.TurnTaken.{back_holds, free_before, has_turn, turn_goes, turn_later, turn_seen, turn_value}
use Rattle.pm3_txn.proofs.WorksDraw.{works_free}

pub only_seen_both : {R : Type 0} (a b c : MutatorState R) → HasOnlySeen a b → HasOnlySeen b c → HasOnlySeen a c
only_seen_both a b c first second = second ∙ ap (λ (x : MutatorState _). with_view x (record x.pass.1 {
  holds = c.pass.1.holds;
  spans = c.pass.1.spans;
  seen = c.pass.1.seen;
  faults = c.pass.1.faults;
  lost = c.pass.1.lost;
  names = c.pass.1.names;
  mine = c.pass.1.mine;
  failed = c.pass.1.failed;
})) first

-- what a mutator has seen with the turn, and then its pass made of it
passed_after : {R : Type 0} (a b c : MutatorState R) → HasOnlySeen a b → HasOnlyPassed b c → HasOnlyPassed a c
passed_after {R} a b c first second = record {
  rest = second.rest ∙ ap (λ (x : MutatorState R). with_view x (record x.pass.1 {
    log = c.pass.1.log;
    holds = c.pass.1.holds;
    spans = c.pass.1.spans;
    steady = c.pass.1.steady;
    pages = c.pass.1.pages;
    drawing = c.pass.1.drawing;
    filled = c.pass.1.filled;
    drew_pages = c.pass.1.drew_pages;
    seen = c.pass.1.seen;
    faults = c.pass.1.faults;
    lost = c.pass.1.lost;
    names = c.pass.1.names;
    mine = c.pass.1.mine;
    failed = c.pass.1.failed;
  })) first;
  words = λ q. second.words q ∙ ap (λ (x : MutatorState R). word_of x.pass.1.log q) first;
  stands = λ q. second.stands q ∙ ap (λ (x : MutatorState R). stands_of x.pass.1.log q) first;
}

-- with more free pages all that was done and is known stays so
goes_free : (told : Told) (v : View) (h g : Holding) → HasMoreFree h g → AdvancesOn told v h v g nothing_more
goes_free told v h g more = subst (λ (k : Holding). AdvancesOn told v h v k nothing_more) (sym more.rest) (record {
  works = λ st opens done works. works_free told.opening.catalog told.pages (state_seen told v st) h done (λ t. more.free) (λ t. more.room) works;
  keeps = (keeps_books told v h freed (λ a own. free_starts (λ t. more.free) (λ t. more.room) h a ∙ own) (λ st opens. same_books h.space) (free_found (λ t. more.free) (λ t. more.room) h)).objects;
})
  where
    freed : Holding
    freed = by_space (λ t. with_free t more.free more.room) h

    same_books : (o : Option HeldSpaceState) → book_of BASE (space_left (option_map (λ t. with_free t more.free more.room) o)) ≡ book_of BASE (space_left o)
    same_books None = refl
    same_books (Some s) = refl

module _ {D R : Type 0} (g : Ghosts D R) (content : R → Option (List ℕ)) (heap : TableId × Told) (m n : MutatorState R) (h : Holding) (tag : ℕ) (turn : Turns D R)
    (was : IsUnderway content (moment heap tag m h)) (below : IsBelow heap.1) (has : HasTaken g heap.1 m n (turn_unit heap.1.pages) (Some (Turn turn))) where
  abbrev told : Told
  told = heap.1

  abbrev at_first : TxnState R
  at_first = record { heap = heap; mutator = m; held = h; tag = tag }

  abbrev between : List Done
  between = has.taken.between

  free : holds_of m.pass.1.holds (turn_unit told.pages) ≡ false
  free = free_before g content heap m n h tag turn was below has

  value : HasTurnValue g told n.pass.1 (turn_state turn)
  value = turn_value g told m n turn free has

  seen_is : n.pass.1.seen ≡ m.pass.1.seen ++ between
  seen_is = turn_seen g told m n turn free has

  later : m.pass.1.faults ≤ n.pass.1.faults
  later = turn_later g told m n turn free has

  goes : AdvancesOn told m.pass.1 h n.pass.1 h nothing_more
  goes = turn_goes g content heap m n h tag turn was below has

  same_holds : (u : ℕ) → holds_of (gave n.pass.1 (turn_unit told.pages)).holds u ≡ holds_of m.pass.1.holds u
  same_holds = back_holds g told m n turn free has

  only_seen : HasOnlySeen m n
  only_seen = subst (λ (x : MutatorState R). HasOnlySeen m x) (sym (has.rest ∙ ap (with_view m) has.taken.view)) refl

  mine_is : n.pass.1.mine ≡ m.pass.1.mine
  mine_is = ap (λ (v : View). v.mine) has.taken.view

  failed_is : n.pass.1.failed ≡ m.pass.1.failed
  failed_is = ap (λ (v : View). v.failed) has.taken.view

  row_is : n.pass.1.row ≡ m.pass.1.row
  row_is = ap (λ (v : View). v.row) has.taken.view

  filled_is : n.pass.1.filled ≡ m.pass.1.filled
  filled_is = ap (λ (v : View). v.filled) has.taken.view

  due_is : turn.journal.next ≡ due_after told.opening.due (m.pass.1.seen ++ between)
  due_is = value.good.due ∙ ap (due_after told.opening.due) seen_is

  top_after : (d : Done) → IsTop (λ p. contains_key d.written p ≡ true) turn.high_page d.high_page → (st : State) → Opens BASE told.pages told.opening st
      → IsTop (λ p. contains_key d.written p ≡ true) (now told.opening.catalog BASE st n.pass.1.seen).high_page d.high_page
  top_after d top st opens = subst (λ (k : ℕ). IsTop (λ p. contains_key d.written p ≡ true) k d.high_page) (value.good.marks st opens).1 top

  -- of a transaction without its space
  module _ (alone : h.space ≡ None) where
    turned : HasTurn g content heap n (turn_state turn) h
    turned = has_turn g content heap m n h tag turn was below has alone

    commit_by : (d : Done) → IsCommitFor h tag n.pass.1.row (turn_state turn) d → IsCommitBy at_first d
    commit_by d is = record {
      tag = is.marks.0;
      mutator = is.marks.1 ∙ row_is;
      found = is.found;
      left = is.left;
      written = subst (λ (o : Option HeldSpaceState). IsWrittenBy at_first o d) (sym alone) (is.pass, is.written);
    }

    marks_after : (d : Done) → IsCommitFor h tag n.pass.1.row (turn_state turn) d → HasMarksAfter at_first (m.pass.1.seen ++ between) d
    marks_after d is = subst (λ (l : List Done). HasMarksAfter at_first l d) seen_is (record {
      name = is.marks.2 ∙ value.good.name_is ∙ sym (ap (λ (o : Option HeldSpaceState). name_with o (next_name_after told.next_name n.pass.1.seen) m.next_name) alone);
      page = top_after d is.top;
    })

    kept : (x : MutatorState R) → HasOnlySeen m x → HasKept h.space m x
    kept x = subst (λ (o : Option HeldSpaceState). HasKept o m x) (sym alone)

    pub committed : (new : MutatorState R) (receipt : Receipt) → HasRecorded told h tag (turn_state turn) n new receipt → HasCommitted at_first new receipt
    committed new receipt is = record {
      between = between;
      commit = is.commit;
      by = commit_by is.commit is.is;
      marks = marks_after is.commit is.is;
      seen = is.given.seen ∙ ap (λ (l : List Done). l ++ is.commit ∷ []) seen_is;
      mine = is.given.mine ∙ ap (λ (l : List Done). l ++ is.commit ∷ []) mine_is;
      failed = is.given.failed_are ∙ sym (no_more n.pass.1.failed) ∙ failed_is;
      receipt_is = is.receipt_is ∙ (λ i. record { seq = due_is i; pinned = pins_of (sym is.is.pass i); moved = moves_of (sym is.is.pass i) });
      run = λ st opens ops runs.
          subst (λ (l : List Done). IsRun told.opening.catalog ops (now told.opening.catalog BASE st l).graph (now told.opening.catalog BASE st new.pass.1.seen).graph) seen_is
          (is.run st opens ops (works_alone told.opening.catalog told.pages (state_seen told n.pass.1 st) h ops (settled_now told n.pass.1.seen st turned.belongs.mutator.lawful opens) alone
          (goes.works st opens ops runs)));
      heard = (let first = later in let second = is.heard in omega (arith, first, second));
      rest = kept new (only_seen_both m n new only_seen is.given.rest);
    }

    -- no memory
    as_before : (new : MutatorState R) → HasGivenTurn n new [] [] new.pass.1.faults
        → ((u : ℕ) → holds_of new.pass.1.holds u ≡ holds_of (gave n.pass.1 (turn_unit told.pages)).holds u)
        → IsAsBefore at_first (record at_first { mutator = new })
    as_before new given holds = record {
      rest = refl;
      held = subst (λ (o : Option HeldSpaceState). IsHeldStill o h h) (sym alone) refl;
      seen = kept new (only_seen_both m n new only_seen given.rest);
      holds = λ u. holds u ∙ same_holds u;
      own = (given.mine ∙ sym (no_more n.pass.1.mine) ∙ mine_is, given.failed_are ∙ sym (no_more n.pass.1.failed) ∙ failed_is);
      goes_on = advances_both at_first (moment heap tag n h) (record at_first { mutator = new }) nothing_more nothing_more refl goes
          (goes_still told n.pass.1 new.pass.1 h (given.seen ∙ sym (no_more n.pass.1.seen)));
    }

    ended : (new : MutatorState R) (failed : List Done) → HasFailed n new failed → HasEnded at_first new
    ended new failed is = record {
      between = between;
      last = is.last;
      more = is.given.seen ∙ sym (no_more n.pass.1.seen) ∙ seen_is;
      seen = kept is.last (only_seen_both m n is.last only_seen is.given.rest);
      mine = is.given.mine ∙ sym (no_more n.pass.1.mine) ∙ mine_is;
      heard = (let first = later in let second = is.heard in let same = is.given.heard in omega (arith, first, second, same));
      cleared = subst (λ (f : ℕ → Bool). HasCleared is.last new f) (λ i q. slice_index_or (has.rest i).wrote q false) is.cleared;
    }

    end_is : (new : MutatorState R) (cause : CommitEnd) → IsEndOf told h tag (turn_state turn) n new cause → IsCommitEnd at_first new cause
    unfolding ended
    end_is new end.JournalFault (d, is, failed, rose) = (
      ended new (d ∷ []) failed,
      d,
      commit_by d is,
      subst (λ (l : List Done). HasMarksAfter at_first l d) (sym (failed.given.seen ∙ sym (no_more n.pass.1.seen) ∙ seen_is)) (marks_after d is),
      failed.given.failed_are ∙ ap (λ (l : List Done). l ++ d ∷ []) failed_is,
      (let first = later in omega (arith, first, rose)),
    )
    end_is new (end.Full what limit) (failed, is, at) = (ended new [] failed, failed.given.failed_are ∙ sym (no_more n.pass.1.failed) ∙ failed_is, is, at)
    end_is new (end.Stopped seq) (failed, stopped) = (
      ended new [] failed,
      failed.given.failed_are ∙ sym (no_more n.pass.1.failed) ∙ failed_is,
      subst (λ (due : ℕ). WasStopped told seq due new.pass.1.faults)
          (value.good.due ∙ ap (due_after told.opening.due) (sym (failed.given.seen ∙ sym (no_more n.pass.1.seen)))) stopped,
    )

    pub fault_is : (fault : CommitFault D R) → IsFaultOf content heap h tag (turn_state turn) n fault → IsCommitFault content at_first fault
    fault_is (Refused cause txn) (memory, same, given, heard, holds) =
        subst (λ (c : CommitRefusal). IsCommitRefusal at_first txn c) (sym memory)
        (subst (λ (t : TxnState R). IsAsBefore at_first t × ((view_in t).filled ≡ m.pass.1.filled)) (sym same)
        (as_before txn.mutator given holds, ap (λ (x : MutatorState R). x.pass.1.filled) given.rest ∙ filled_is))
    fault_is (Ended cause mutator) (is, bare, belongs_then) = (end_is mutator cause is, bare, belongs_then)

  -- and of one with it
  module _ (s : HeldSpaceState) (spaced : h.space ≡ Some s) where
    space_by : (d : Done) → IsSpaceCommit h tag (turn_state turn) n d → IsCommitBy at_first d
    space_by d is = record {
      tag = is.marks.0;
      mutator = is.marks.1 ∙ row_is;
      found = is.found;
      left = is.left;
      written = subst (λ (o : Option HeldSpaceState). IsWrittenBy at_first o d) (sym spaced)
          (is.pass.0, is.pass.1, subst (λ (k : ℕ). IsPassOver h k is.pass.0) (ap (λ (x : MutatorState R). x.space) has.rest) is.pass.2);
    }

    space_marks : (d : Done) → IsSpaceCommit h tag (turn_state turn) n d → HasMarksAfter at_first (m.pass.1.seen ++ between) d
    space_marks d is = subst (λ (l : List Done). HasMarksAfter at_first l d) seen_is (record {
      name = is.marks.2 ∙ (λ i. max (value.good.name_is i) ((has.rest i).next_name)) ∙ sym (ap (λ (o : Option HeldSpaceState). name_with o (next_name_after told.next_name n.pass.1.seen) m.next_name) spaced);
      page = top_after d is.top;
    })

    passed : (x : MutatorState R) → HasOnlyPassed n x → HasKept h.space m x
    passed x is = subst (λ (o : Option HeldSpaceState). HasKept o m x) (sym spaced) (passed_after m n x only_seen is)

    pub space_committed : (new : MutatorState R) (receipt : Receipt) → HasCommittedSpace told h tag (turn_state turn) n new receipt → HasCommitted at_first new receipt
    space_committed new receipt is = record {
      between = between;
      commit = is.commit;
      by = space_by is.commit is.is;
      marks = space_marks is.commit is.is;
      seen = is.appended.given.seen ∙ ap (λ (l : List Done). l ++ is.commit ∷ []) seen_is;
      mine = is.appended.given.mine ∙ ap (λ (l : List Done). l ++ is.commit ∷ []) mine_is;
      failed = is.appended.given.failed_are ∙ sym (no_more n.pass.1.failed) ∙ failed_is;
      receipt_is = is.appended.receipt_is ∙ (λ i. record { seq = due_is i; pinned = pins_of is.commit.pass; moved = moves_of is.commit.pass });
      run = λ st opens ops runs.
          subst (λ (l : List Done). IsRun told.opening.catalog ops (now told.opening.catalog BASE st l).graph (now told.opening.catalog BASE st new.pass.1.seen).graph) seen_is
          (is.run st opens ops (goes.works st opens ops runs));
      heard = (let first = later in let second = is.appended.heard in omega (arith, first, second));
      rest = passed new is.appended.given.rest;
    }

    gone : (t : TxnState R) → HasGoneOn heap h tag n t → IsAsBefore at_first t
    gone t is = subst (λ (x : TxnState R). IsAsBefore at_first x) (sym is.rest) (record {
      rest = refl;
      held = subst (λ (o : Option HeldSpaceState). IsHeldStill o h t.held) (sym spaced) is.held;
      seen = passed t.mutator is.given.rest;
      holds = λ u. is.holds u ∙ same_holds u;
      own = (is.given.mine ∙ sym (no_more n.pass.1.mine) ∙ mine_is, is.given.failed_are ∙ sym (no_more n.pass.1.failed) ∙ failed_is);
      goes_on = advances_both at_first (moment heap tag n h) (record at_first { mutator = t.mutator; held = t.held }) nothing_more nothing_more refl goes
          (advances_both (moment heap tag n h) (moment heap tag n t.held) (record at_first { mutator = t.mutator; held = t.held }) nothing_more nothing_more refl (goes_free told n.pass.1 h t.held is.held)
          (goes_still told n.pass.1 t.mutator.pass.1 t.held (is.given.seen ∙ sym (no_more n.pass.1.seen))));
    })

    there : is_some h.space ≡ true
    there = ap is_some spaced

    refusal : (t : TxnState R) (cause : CommitRefusal) → HasGoneOn heap h tag n t → IsPassRefusal told n t.mutator (contains_key (space_left h.space)) cause → IsCommitRefusal at_first t cause
    refusal t (Busy unit word) is why = absurd why
    refusal t (Full what limit) is why = (there, gone t is, why.0, why.1, why.2 ∙ ap (λ (l : List ℕ). 0 ∷ l) filled_is)
    refusal t Memory is why = (gone t is, why ∙ filled_is)
    refusal t Later is why = (
      there,
      gone t is,
      why.0 ∙ filled_is,
      (
        why.1.0,
        why.1.1,
        ap (λ (x : MutatorState R). slice_index_or x.refs why.1.0 false) (sym has.rest) ∙ why.1.2,
        why.1.3,
        subst (λ (w : ℕ). Names told.pages w why.1.1) (ap (λ (v : View). word_of v.log why.1.0) has.taken.view) why.1.4,
      ),
    )

    space_ended : (new : MutatorState R) (failed : List Done) → HasFailedPass n new failed → HasEnded at_first new
    space_ended new failed is = record {
      between = between;
      last = is.last;
      more = is.given.seen ∙ sym (no_more n.pass.1.seen) ∙ seen_is;
      seen = passed is.last is.given.rest;
      mine = is.given.mine ∙ sym (no_more n.pass.1.mine) ∙ mine_is;
      heard = (let first = later in let second = is.heard in let same = is.given.heard in omega (arith, first, second, same));
      cleared = subst (λ (f : ℕ → Bool). HasCleared is.last new f) (λ i q. slice_index_or (has.rest i).wrote q false) is.cleared;
    }

    space_end : (new : MutatorState R) (d : Done) (cause : CommitEnd) → IsSpaceCommit h tag (turn_state turn) n d → IsAppendEnd told (turn_state turn) n new d cause → IsCommitEnd at_first new cause
    unfolding space_ended
    space_end new d end.JournalFault is (failed, rose) = (
      space_ended new (d ∷ []) failed,
      d,
      space_by d is,
      subst (λ (l : List Done). HasMarksAfter at_first l d) (sym (failed.given.seen ∙ sym (no_more n.pass.1.seen) ∙ seen_is)) (space_marks d is),
      failed.given.failed_are ∙ ap (λ (l : List Done). l ++ d ∷ []) failed_is,
      (let first = later in omega (arith, first, rose)),
    )
    space_end new d (end.Full what limit) is (failed, full, at) = (space_ended new [] failed, failed.given.failed_are ∙ sym (no_more n.pass.1.failed) ∙ failed_is, full, at)
    space_end new d (end.Stopped seq) is (failed, stopped) = (
      space_ended new [] failed,
      failed.given.failed_are ∙ sym (no_more n.pass.1.failed) ∙ failed_is,
      subst (λ (due : ℕ). WasStopped told seq due new.pass.1.faults)
          (value.good.due ∙ ap (due_after told.opening.due) (sym (failed.given.seen ∙ sym (no_more n.pass.1.seen)))) stopped,
    )

    pub space_fault : (fault : CommitFault D R) → IsSpaceFault content heap h tag (turn_state turn) n fault → IsCommitFault content at_first fault
    space_fault (Refused cause txn) (on, why) = refusal txn cause on why
    space_fault (Ended cause mutator) (over, bare, belongs_then) = (space_end mutator over.0 cause over.1 over.2, bare, belongs_then)

pub over_space : {D R : Type 0} (content : R → Option (List ℕ)) (heap : TableId × Told) (h : Holding) (tag : ℕ) (turn : Turns D R) (n : MutatorState R) (fault : CommitFault D R)
    → IsSpaceFault content heap h tag (turn_state turn) n fault → IsOverHeap heap fault
over_space content heap h tag turn n (Refused cause txn) (on, why) = ap (λ (t : TxnState _). t.heap) on.rest
over_space content heap h tag turn n (Ended cause mutator) is = tt

pub over_heap : {D R : Type 0} (content : R → Option (List ℕ)) (heap : TableId × Told) (h : Holding) (tag : ℕ) (turn : Turns D R) (n : MutatorState R) (fault : CommitFault D R)
    → IsFaultOf content heap h tag (turn_state turn) n fault → IsOverHeap heap fault
over_heap content heap h tag turn n (Refused cause txn) (memory, same, given, heard, holds) = ap (λ (t : TxnState _). t.heap) same
over_heap content heap h tag turn n (Ended cause mutator) is = tt

-- the turn's word showed another holder
pub busy_underway : {R : Type 0} (content : R → Option (List ℕ)) (heap : TableId × Told) (m n : MutatorState R) (h : Holding) (tag unit word : ℕ) → IsUnderway content (moment heap tag m h)
    → n ≡ with_view m (refused m.pass.1 unit word) → IsMutatorOf content heap n → IsUnderway content (moment heap tag n h)
busy_underway content heap m n h tag unit word was is kept = away_underway content heap m n h tag unit word is was kept

-- one is held
pub some_space : (o : Option HeldSpaceState) → is_some o ≡ true → (s : HeldSpaceState) × (o ≡ Some s)
some_space None is = absurd (false≢true is)
some_space (Some s) is = (s, refl)

-- none is held
pub bare_space : (o : Option HeldSpaceState) → is_some o ≡ false → o ≡ None
bare_space None is = refl
bare_space (Some s) is = absurd (false≢true (sym is))

pub ok_map : {T E : Type 0} (P Q : T → Type 0) (r : Result T E) → IfOk r P → ((x : T) → P x → Q x) → IfOk r Q
ok_map P Q (Ok x) is step = step x is
ok_map P Q (Err e) is step = is

pub err_map : {T E : Type 0} (P Q : E → Type 0) (r : Result T E) → IfErr r P → ((e : E) → P e → Q e) → IfErr r Q
err_map P Q (Ok x) is step = is
err_map P Q (Err e) is step = step e is
