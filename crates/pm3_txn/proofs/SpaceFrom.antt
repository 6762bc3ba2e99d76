-- The commit of a transaction that holds its space, from before its pass was prepared.
use Rattle.std.proofs.Common.{◌≡◌, ◌++◌, ◌∙◌, ℕ, max, Bool, false, true, List, [], ◌∷◌, Option, slice_index_or, sym, ap, subst, arith}
use Rattle.atomic_table.specs.Seated.{TableId}
use Rattle.pm3_core.specs.declared.naming.TheConstants.{BASE}
use Rattle.pm3_disk.specs.Faults.{Rose}
use Rattle.std.specs.FinMap.{contains_key}
use Rattle.pm3_graph.specs.Operation.{IsRun}
use Rattle.pm3_access.specs.Holding.{Holding}
use Rattle.pm3_history.specs.Entry.{Done}
use Rattle.pm3_history.specs.State.{now}
use Rattle.pm3_journal.specs.declared.entry.Receipt.{Receipt}
use Rattle.pm3_table.specs.declared.view.Told.{Told}
use Rattle.pm3_txn.specs.declared.commit_fault.CommitEnd.{CommitEnd}
use Rattle.pm3_txn.specs.declared.commit_fault.CommitEnd.TheVariants as end
use Rattle.pm3_txn.specs.declared.commit_fault.CommitFault.{CommitFault}
use Rattle.pm3_txn.specs.declared.commit_fault.CommitFault.TheVariants.{Refused, Ended}
use Rattle.pm3_txn.specs.declared.values.Turn.{Turn as Turns}
use Rattle.pm3_txn.specs.Aborting.{HasCleared}
use Rattle.pm3_txn.specs.CommitParts.{HasMoreFree, HasOnlyPassed, IsPassOver}
use Rattle.pm3_txn.specs.Committing.{HasMadeRoom}
use Rattle.pm3_txn.specs.Frontiers.{IsTop}
use Rattle.pm3_txn.specs.Knowing.{state_seen}
use Rattle.pm3_txn.specs.PassEnding.{HasFailedPass, HasGivenPass}
use Rattle.pm3_txn.specs.PassSteps.{HasKeptRow}
use Rattle.pm3_txn.specs.Slots.{turn_state}
use Rattle.pm3_txn.specs.SpaceCommits.{HasCommittedSpace, IsAppendEnd, IsSpaceCommit, IsSpaceEnd, IsSpaceFault}
use Rattle.pm3_txn.specs.States.{MutatorState}
use Rattle.pm3_txn.specs.Takes.{with_view}
use Rattle.pm3_txn.specs.Values.{WasStopped, moves_of, pins_of}
use Rattle.pm3_txn.specs.Works.{Works}
use Rattle.pm3_txn.proofs.SpaceCommitted.{same_commit, same_works}

-- a pass behind steps that kept the row
pub passed_kept : {R : Type 0} (a b c : MutatorState R) → HasKeptRow a b → HasOnlyPassed b c → HasOnlyPassed a c
passed_kept {R} a b c first second = record {
  rest = second.rest ∙ ap (λ (x : MutatorState R). with_view x (record x.pass.1 {
    log = c.pass.1.log;
    holds = c.pass.1.holds;
    spans = c.pass.1.spans;
    steady = c.pass.1.steady;
    pages = c.pass.1.pages;
    drawing = c.pass.1.drawing;
    filled = c.pass.1.filled;
    drew_pages = c.pass.1.drew_pages;
    seen = c.pass.1.seen;
    faults = c.pass.1.faults;
    lost = c.pass.1.lost;
    names = c.pass.1.names;
    mine = c.pass.1.mine;
    failed = c.pass.1.failed;
  })) first.rest;
  words = λ q. second.words q ∙ first.words q;
  stands = λ q. second.stands q ∙ first.stands q;
}

module _ {D R : Type 0} (told : Told) (tag : ℕ) (old mid : MutatorState R) (kept : HasKeptRow old mid) (turn made : Turns D R) (room : HasMadeRoom turn made) where
  seen_is : mid.pass.1.seen ≡ old.pass.1.seen
  seen_is = ap (λ (x : MutatorState R). x.pass.1.seen) kept.rest

  faults_are : mid.pass.1.faults ≡ old.pass.1.faults
  faults_are = ap (λ (x : MutatorState R). x.pass.1.faults) kept.rest

  next_is : made.journal.next ≡ turn.journal.next
  next_is = ap (λ (t : Turns D R). t.journal.next) room

  given_from : (new : MutatorState R) (more failed : List Done) (faults : ℕ) → HasGivenPass mid new more failed faults → HasGivenPass old new more failed faults
  given_from new more failed faults is = record {
    rest = passed_kept old mid new kept is.rest;
    seen = is.seen ∙ ap (λ (l : List Done). l ++ more) seen_is;
    mine = is.mine ∙ ap (λ (x : MutatorState R). x.pass.1.mine ++ more) kept.rest;
    failed_are = is.failed_are ∙ ap (λ (x : MutatorState R). x.pass.1.failed ++ failed) kept.rest;
    heard = is.heard;
  }

  commit_from : (h : Holding) (d : Done) → IsSpaceCommit h tag (turn_state made) mid d → IsSpaceCommit h tag (turn_state turn) old d
  commit_from h d is = record {
    marks = (
      is.marks.0,
      is.marks.1 ∙ ap (λ (x : MutatorState R). x.pass.1.row) kept.rest,
      is.marks.2 ∙ (λ i. max (room i).next_name (kept.rest i).next_name),
    );
    top = subst (λ (k : ℕ). IsTop (λ p. contains_key d.written p ≡ true) k d.high_page) (ap (λ (t : Turns D R). t.high_page) room) is.top;
    found = is.found;
    left = is.left;
    pass = (is.pass.0, is.pass.1, subst (λ (k : ℕ). IsPassOver h k is.pass.0) (ap (λ (x : MutatorState R). x.space) kept.rest) is.pass.2);
  }

  -- with as much more that is free, it is a commit of what was held before
  pub committed_from : (h g : Holding) (new : MutatorState R) (receipt : Receipt) → HasMoreFree h g → HasCommittedSpace told g tag (turn_state made) mid new receipt → HasCommittedSpace told h tag (turn_state turn) old new receipt
  committed_from h g new receipt more is = record {
    commit = is.commit;
    is = commit_from h is.commit (same_commit h g more tag (turn_state made) mid is.commit is.is);
    appended = record {
      given = given_from new (is.commit ∷ []) [] new.pass.1.faults is.appended.given;
      heard = (let up = is.appended.heard in let same = faults_are in omega (arith, up, same));
      receipt_is = is.appended.receipt_is ∙ (λ i. record { seq = next_is i; pinned = pins_of is.commit.pass; moved = moves_of is.commit.pass });
    };
    run = λ st opens ops works.
        subst (λ (l : List Done). IsRun told.opening.catalog ops (now told.opening.catalog BASE st l).graph (now told.opening.catalog BASE st new.pass.1.seen).graph) seen_is
        (is.run st opens ops (subst (λ (l : List Done). Works told.opening.catalog told.pages (now told.opening.catalog BASE st l) g ops) (sym seen_is)
        (same_works h g more told.opening.catalog told.pages (state_seen told old.pass.1 st) ops works)));
  }

  failed_from : (new : MutatorState R) (failed : List Done) → HasFailedPass mid new failed → HasFailedPass old new failed
  failed_from new failed is = record {
    last = is.last;
    given = given_from is.last [] failed new.pass.1.faults is.given;
    heard = (let up = is.heard in let same = faults_are in omega (arith, up, same));
    cleared = subst (λ (f : ℕ → Bool). HasCleared is.last new f) (λ i q. slice_index_or (kept.rest i).wrote q false) is.cleared;
  }

  end_from : (new : MutatorState R) (d : Done) (cause : CommitEnd) → IsAppendEnd told (turn_state made) mid new d cause → IsAppendEnd told (turn_state turn) old new d cause
  end_from new d end.JournalFault (failed, rose) = (failed_from new (d ∷ []) failed, subst (λ (k : ℕ). Rose k new.pass.1.faults) faults_are rose)
  end_from new d (end.Full what limit) (failed, full, at) = (failed_from new [] failed, full, at)
  end_from new d (end.Stopped seq) (failed, stopped) = (failed_from new [] failed, subst (λ (k : ℕ). WasStopped told seq k new.pass.1.faults) next_is stopped)

pub ended_from : {D R : Type 0} (content : R → Option (List ℕ)) (heap : TableId × Told) (h g : Holding) (tag : ℕ) (old mid : MutatorState R) (kept : HasKeptRow old mid) (turn made : Turns D R) (room : HasMadeRoom turn made) (fault : CommitFault D R)
    → HasMoreFree h g → IsSpaceEnd content heap g tag (turn_state made) mid fault → IsSpaceFault content heap h tag (turn_state turn) old fault
ended_from content heap h g tag old mid kept turn made room (Refused cause txn) more is = absurd is
ended_from content heap h g tag old mid kept turn made room (Ended cause mutator) more ((d, is, over), bare, belongs) = (
  (d, commit_from heap.1 tag old mid kept turn made room h d (same_commit h g more tag (turn_state made) mid d is), end_from heap.1 tag old mid kept turn made room mutator d cause over),
  bare,
  belongs,
)
