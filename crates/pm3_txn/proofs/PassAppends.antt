-- The entry of a pass is appended, or refused.
use Rattle.std.proofs.Common.{◌≡◌, ◌≢◌, ◌↔◌, ◌⊎◌, ◌<◌, ◌≤◌, ◌^◌, ◌++◌, ◌∙◌, inl, inr, ℕ, List, [], ◌∷◌, Option, Some, None, Result, Err, refl, sym, ap, subst, arith}
use Rattle.atomic_table.specs.Seated.{TableId}
use Rattle.pm3_disk.specs.Content.{Steps}
use Rattle.pm3_disk.specs.Faults.{Rose}
use Rattle.pm3_disk.specs.declared.outside.Disk.{Ghosts}
use Rattle.pm3_access.specs.declared.parted.Parted.{Parted}
use Rattle.pm3_journal.specs.declared.entry.Entry.{Entry}
use Rattle.pm3_journal.specs.declared.entry.Receipt.{Receipt}
use Rattle.pm3_journal.specs.declared.faults.AppendFault.{AppendFault}
use Rattle.pm3_journal.specs.declared.faults.AppendFault.TheVariants.{Stopped, Full, JournalFault}
use Rattle.pm3_journal.specs.Entered.{record_of}
use Rattle.pm3_journal.specs.Format.{IsFit, JournalRecord}
use Rattle.pm3_journal.specs.JournalState.{JournalState, grown, halted}
use Rattle.pm3_journal.specs.Steps.{HasOneMore, HasMaybeOneMore}
use Rattle.pm3_history.specs.Entry.{Done}
use Rattle.pm3_table.specs.declared.view.Told.{Told}
use Rattle.pm3_table.specs.declared.view.View.{View}
use Rattle.pm3_table.specs.Telling.{Lawful}
use Rattle.pm3_table.specs.Words.{turn_unit}
use Rattle.pm3_txn.specs.declared.values.Turn.{Turn as Turns}
use Rattle.pm3_txn.specs.CarriedPass.{Carried}
use Rattle.pm3_txn.specs.Committing.{MayGive, end_of, failed_by}
use Rattle.pm3_txn.specs.PassCommits.{PassesFollow}
use Rattle.pm3_txn.specs.PassEnding.{HasFailedPass, HasGivenPass, IsPassCommit}
use Rattle.pm3_txn.specs.Slots.{turn_state}
use Rattle.pm3_txn.specs.SpaceCommits.{HasAppended, HasTurnValue, IsAppendEnd, MayAppend}
use Rattle.pm3_txn.specs.States.{MutatorState}
use Rattle.pm3_txn.specs.Values.{IsTurnOf, TurnState, WasStopped}
use Rattle.pm3_txn.proofs.CommitWith.{not_stopped}
use Rattle.pm3_txn.proofs.PassCommitted.{commit_may_fail}
use Rattle.pm3_txn.proofs.Touched.{no_more}
use Rattle.pm3_txn.proofs.TurnValues.{is_fit, none_lost, turn_grown, turn_halted}

-- the turn may be given back as it was taken
pub may_give_none : {D R : Type 0} (g : Ghosts D R) (told : Told) (v : View) (turn : TurnState D R) → HasTurnValue g told v turn → Lawful told v.seen → MayGive g told v turn [] []
may_give_none g told v turn value lawful = record {
  good = subst (λ (l : List Done). IsTurnOf g told l (v.seen ++ []) (turn_unit told.pages) turn) (no_more v.lost)
      (subst (λ (l : List Done). IsTurnOf g told v.lost l (turn_unit told.pages) turn) (no_more v.seen) value.good);
  heard = (let same = value.heard in omega (arith, same));
  may = record {
    lawful = subst (Lawful told) (no_more v.seen) lawful;
    lawful_lost = subst (λ (l : List Done). Lawful told (l ++ (v.lost ++ []))) (no_more v.seen) (subst (λ (l : List Done). Lawful told (v.seen ++ l)) (no_more v.lost) value.lawful_lost);
    single = (inr refl, inr refl);
    own = tt;
    held = λ u none. refl;
    drawn = λ n is. cc is;
    used = λ p is. cc is;
    cleared = λ p is. cc is;
    kept = λ j p is. cc is;
    read = tt;
  };
}

module _ {D R : Type 0} (g : Ghosts D R) (content : R → Option (List ℕ)) (heap : TableId × Told) (small : heap.1.pages < 16385) (m : MutatorState R) (turn : Turns D R) (e : Entry) (p : Parted) (d : Done)
    (value : HasTurnValue g heap.1 m.pass.1 (turn_state turn)) (may : MayAppend heap.1 m.next_name e.tag (turn_state turn) p e d) where
  abbrev told : Told
  told = heap.1

  abbrev v : View
  v = m.pass.1

  abbrev r : JournalRecord
  r = record_of turn.journal.next e

  pub fit : turn.journal.next < 2 ^ 64 → IsFit turn.journal.pages r
  fit due_low = is_fit g told v.lost v.seen (turn_unit told.pages) e.tag (turn_state turn) value.good small e p.written.images may.entry d may.done may.writes may.filed due_low may.tag_low

  -- no commit failed before, where the journal isn't stopped
  pub lost_is : turn.journal.stopped ≡ None → v.lost ≡ []
  lost_is = none_lost g told v.lost v.seen (turn_unit told.pages) e.tag (turn_state turn) value.good small e p.written.images may.entry d may.done may.writes may.filed

  -- the journal has it
  module _ (journal : JournalState D) (whole : turn.journal.stopped ≡ None) (grows : journal ≡ grown r journal.disk turn.journal) (added : Steps (HasOneMore r) (g.content turn.journal.disk) (g.content journal.disk))
      (calm : g.faults journal.disk ≡ g.faults turn.journal.disk) where
    pub grown_good : IsTurnOf g told v.lost (v.seen ++ d ∷ []) (turn_unit told.pages) (record { journal = journal; next_name = e.next_name; high_page = e.high_page; file = turn.file; opened = turn.opened.value })
    grown_good = subst (λ (j : JournalState D). IsTurnOf g told v.lost (v.seen ++ d ∷ []) (turn_unit told.pages) (record { journal = j; next_name = e.next_name; high_page = e.high_page; file = turn.file; opened = turn.opened.value })) (sym grows)
        (turn_grown g told v.lost v.seen (turn_unit told.pages) e.tag (turn_state turn) value.good small e p.written.images may.entry d may.done may.writes may.filed journal.disk whole added calm)

    pub grown_heard : v.faults ≤ g.faults journal.disk
    grown_heard = (let first = value.heard in omega (arith, first, calm))

    pub appended : (new : MutatorState R) (receipt : Receipt) → HasGivenPass m new (d ∷ []) [] (g.faults journal.disk)
        → receipt ≡ record { seq = turn.journal.next; pinned = e.pins; moved = e.moved } → HasAppended (turn_state turn) m new d receipt
    appended new receipt given receipt_is = record {
      given = subst (λ (k : ℕ). HasGivenPass m new (d ∷ []) [] k) (sym given.heard) given;
      heard = (let first = grown_heard in let second = given.heard in omega (arith, first, second));
      receipt_is = receipt_is ∙ (λ i. record { seq = turn.journal.next; pinned = sym may.done.pins i; moved = sym may.done.moved i });
    }

  -- or the append was refused
  module _ (follow : PassesFollow) (c : Carried) (commit : IsPassCommit content heap m c d) (journal : JournalState D) (result : Result Receipt AppendFault)
      (stopped : (seq : ℕ) → (result ≡ Err (Stopped seq)) ↔ (turn.journal.stopped ≡ Some seq))
      (halts : result ≡ Err JournalFault → journal ≡ halted r journal.disk turn.journal)
      (part : result ≡ Err JournalFault → Steps (HasMaybeOneMore r) (g.content turn.journal.disk) (g.content journal.disk))
      (rose : result ≡ Err JournalFault → Rose (g.faults turn.journal.disk) (g.faults journal.disk)) (up : g.faults turn.journal.disk ≤ g.faults journal.disk) where
    same_journal : (fault : AppendFault) → result ≡ Err fault → (result ≡ Err JournalFault) ⊎ (journal ≡ turn.journal) → fault ≢ JournalFault → journal ≡ turn.journal
    same_journal fault at (inl failed) differs = absurd (differs (cc (sym at ∙ failed)))
    same_journal fault at (inr same) differs = same

    after_same : journal ≡ turn.journal → MayGive g told v (record { journal = journal; next_name = turn.next_name; high_page = turn.high_page; file = turn.file; opened = turn.opened.value }) [] []
    after_same same = subst (λ (j : JournalState D). MayGive g told v (record { journal = j; next_name = turn.next_name; high_page = turn.high_page; file = turn.file; opened = turn.opened.value }) [] []) (sym same)
        (may_give_none g told v (turn_state turn) value commit.has.ready.underway.mutator.lawful)

    pub fails : (fault : AppendFault) → result ≡ Err fault → (result ≡ Err JournalFault) ⊎ (journal ≡ turn.journal)
        → MayGive g told v (record { journal = journal; next_name = turn.next_name; high_page = turn.high_page; file = turn.file; opened = turn.opened.value }) [] (failed_by fault d)
    fails (Stopped seq) at refused = after_same (same_journal (Stopped seq) at refused (λ e. cc e))
    fails (Full limit) at refused = after_same (same_journal (Full limit) at refused (λ e. cc e))
    fails JournalFault at refused =
        let whole : turn.journal.stopped ≡ None = not_stopped result turn.journal.stopped stopped (λ seq is. cc (sym at ∙ is)) in
        record {
          good = subst (λ (l : List Done). IsTurnOf g told (v.lost ++ d ∷ []) l (turn_unit told.pages) (record { journal = journal; next_name = turn.next_name; high_page = turn.high_page; file = turn.file; opened = turn.opened.value })) (no_more v.seen)
              (subst (λ (j : JournalState D). IsTurnOf g told (v.lost ++ d ∷ []) v.seen (turn_unit told.pages) (record { journal = j; next_name = turn.next_name; high_page = turn.high_page; file = turn.file; opened = turn.opened.value })) (sym (halts at))
              (turn_halted g told v.lost v.seen (turn_unit told.pages) e.tag (turn_state turn) value.good small e p.written.images may.entry d may.done may.writes may.filed journal.disk whole (part at) (rose at) up));
          heard = (let first = value.heard in omega (arith, first, up));
          may = commit_may_fail content heap m c d commit follow (lost_is whole);
        }

    pub end_is : (fault : AppendFault) → result ≡ Err fault → (result ≡ Err JournalFault) ⊎ (journal ≡ turn.journal) → ((limit : ℕ) → result ≡ Err (Full limit) → limit ≡ 2 ^ 30)
        → (new : MutatorState R) → HasFailedPass m new (failed_by fault d) → new.pass.1.faults ≡ g.faults journal.disk → IsAppendEnd told (turn_state turn) m new d (end_of fault)
    end_is (Stopped seq) at refused full new failed counted = (
      failed,
      subst (λ (k : ℕ). WasStopped told seq turn.journal.next k) (ap (λ (j : JournalState D). g.faults j.disk) (sym (same_journal (Stopped seq) at refused (λ e. cc e))) ∙ sym counted)
          (value.good.stopped_at seq ((stopped seq).0 at)),
    )
    end_is (Full limit) at refused full new failed counted = (failed, refl, full limit at)
    end_is JournalFault at refused full new failed counted = (failed, (let first = value.heard in let risen = rose at in omega (arith, first, risen, counted)))
