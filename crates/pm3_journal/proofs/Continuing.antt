-- What a journal keeps goes on over an append.
use Rattle.std.proofs.Common.{◌≡◌, ◌⊎◌, ⊎_elim, inl, ◌+◌, ◌≤◌, ℕ, Bool, true, false, List, [], ◌∷◌, ◌++◌, length, take, Option, Some, None, option_map, sym, ◌∙◌, ap, subst, arith, length-append}
use Rattle.std.proofs.lemmas.List.{append-nil, map_push, take-append-le, take_all}
use Rattle.pm3_disk.specs.Content.{IfTold, Steps}
use Rattle.pm3_disk.specs.Devices.{IsSynced, LeavesFromTold, Takes}
use Rattle.pm3_disk.specs.Moments.{HoldsSince}
use Rattle.pm3_disk.specs.declared.outside.Disk.{Ghosts}
use Rattle.pm3_disk.proofs.Leaving.{takes_by}
use Rattle.pm3_disk.proofs.Passing.{at_last, holds_on, weaker}
use Rattle.pm3_journal.specs.FileHead.{page_count_of}
use Rattle.pm3_journal.specs.Format.{JournalRecord, body, closed_gate, record_size, IsFit}
use Rattle.pm3_journal.specs.Gates.{IsClosed, AppendLeaves, entered}
use Rattle.pm3_journal.specs.JournalState.{JournalState, grown, halted}
use Rattle.pm3_journal.specs.Journals.{IsJournal, IsPresent, Keeps, HasSpace, failed_list}
use Rattle.pm3_journal.specs.Reading.{next_seq}
use Rattle.pm3_journal.specs.Records.{records, Whole}
use Rattle.pm3_journal.specs.Steps.{HasFirstOf, HasMaybeOneMore, HasOneMore}
use Rattle.pm3_journal.specs.Summaries.{Summary, summary_of}
use Rattle.pm3_journal.proofs.Appending.{old_list, count_stays, append_before, append_leaves, new_list, new_journal}
use Rattle.pm3_journal.proofs.Listing.{whole_is}

pub first_wider : (pages : ℕ) (list more : List JournalRecord) (c : List ℕ) → HasFirstOf pages list c → HasFirstOf pages (list ++ more) c
first_wider pages list more c first = record {
  page_count = first.page_count;
  number = first.number;
  few = omega (arith, first.few, length-append list more);
  list = first.list ∙ ap Whole (sym (take-append-le first.number list more first.few));
}

pub all_of : (pages : ℕ) (list : List JournalRecord) (c : List ℕ) → page_count_of (take 32 c) ≡ pages → records c ≡ Whole list → HasFirstOf pages list c
all_of pages list c count is =
    let le : length list ≤ length list = omega arith in
    record { page_count = count; number = length list; few = le; list = is ∙ ap Whole (sym (take_all (length list) list le)) }

not_both : (b : Bool) → b ≡ false → b ≡ true → ⊥
not_both true is flag = absurd (cc is)
not_both false is flag = absurd (cc flag)

-- a step in both directions, where it has another name
pub steps_wider : (step whole : List ℕ → List ℕ → Type 0) (old new : Option (List ℕ)) → Steps step old new
    → ((before now : List ℕ) → old ≡ Some before → step before now → whole before now) → Steps whole old new
steps_wider step whole old new steps has = record {
  onward = λ before told. let now = steps.onward before told in (now.0, now.1, has before now.0 told now.2);
  back = λ now told. let before = steps.back now told in (before.0, before.1, has before.0 now before.1 before.2);
}

pub space_stays : (room : Option ℕ) (bytes more numbers summaries slots : ℕ) → bytes ≤ more → HasSpace room bytes numbers summaries slots → HasSpace room more numbers summaries slots
space_stays None bytes more numbers summaries slots le space = tt
space_stays (Some most) bytes more numbers summaries slots le space = (omega (arith, space.0), space.1, space.2, space.3)

module _ {D R : Type 0} (g : Ghosts D R) (j : JournalState D) (keeps : Keeps g j) (idle : j.stopped ≡ None) where
  pub settled_now : IsSynced g j.disk
  settled_now = (keeps.rest idle).settled

  pub end_within : IfTold (g.content j.disk) (λ old. j.end ≤ length old)
  end_within old told = ((keeps.rest idle).told old told).front.within

  pub closed_there : j.is_closed ≡ true → IfTold (g.content j.disk) (IsClosed j.end)
  closed_there flag old told = ((keeps.rest idle).told old told).gate.closed flag

  at_rest : (old : List ℕ) → g.content j.disk ≡ Some old → IsJournal j.pages j.end j.next j.is_closed keeps.list old
  at_rest old told = (keeps.rest idle).told old told

  module _ (r : JournalRecord) (fit : IsFit j.pages r) (seq_is : r.seq ≡ j.next) (bytes : List ℕ) (bytes_are : bytes ≡ body r ++ closed_gate) where
    leaves_one : (old c : List ℕ) → g.content j.disk ≡ Some old → AppendLeaves j.end j.is_closed bytes old c → (records c ≡ Whole keeps.list) ⊎ (records c ≡ Whole (keeps.list ++ r ∷ []))
    leaves_one old c told leaves =
        append_leaves j.pages j.end j.next j.is_closed keeps.list old (at_rest old told) r fit seq_is c (subst (λ (b : List ℕ). AppendLeaves j.end j.is_closed b old c) bytes_are leaves)

    count_left : (old c : List ℕ) → g.content j.disk ≡ Some old → AppendLeaves j.end j.is_closed bytes old c → page_count_of (take 32 c) ≡ j.pages
    count_left old c told leaves = count_stays j.pages j.end j.next j.is_closed keeps.list old (at_rest old told) c (append_before j.end j.is_closed bytes old c leaves)

    same_list : (old : List ℕ) → g.content j.disk ≡ Some old → (rs : List JournalRecord) → records old ≡ Whole rs → keeps.list ≡ rs
    same_list old told rs is = whole_is (sym (old_list j.pages j.end j.next j.is_closed keeps.list old (at_rest old told)) ∙ is)

    maybe_one : (old c : List ℕ) → g.content j.disk ≡ Some old → AppendLeaves j.end j.is_closed bytes old c → HasMaybeOneMore r old c
    maybe_one old c told leaves = record {
      page_count = count_left old c told leaves ∙ sym (at_rest old told).front.page_count;
      list = λ rs is. subst (λ (l : List JournalRecord). (records c ≡ Whole l) ⊎ (records c ≡ Whole (l ++ r ∷ []))) (same_list old told rs is) (leaves_one old c told leaves);
    }

    -- what a crash leaves, and what is there after a fault
    pub maybe_more : (disk : D) → LeavesFromTold g j.disk disk (AppendLeaves j.end j.is_closed bytes) → LeavesFromTold g j.disk disk (HasMaybeOneMore r)
    maybe_more disk leaves = weaker (λ (c : List ℕ). IfTold (g.content j.disk) (λ old. HasMaybeOneMore r old c)) leaves (λ c is old told. maybe_one old c told (is old told))

    pub maybe_taken : (disk : D) → Takes g j.disk disk (AppendLeaves j.end j.is_closed bytes) → Takes g j.disk disk (HasMaybeOneMore r)
    maybe_taken disk took = steps_wider (AppendLeaves j.end j.is_closed bytes) (HasMaybeOneMore r) (g.content j.disk) (g.content disk) took maybe_one

    appended_there : (old new : List ℕ) → new ≡ entered j.end bytes old → new ≡ entered j.end (body r ++ closed_gate) old
    appended_there old new is = is ∙ ap (λ (b : List ℕ). entered j.end b old) bytes_are

    with_one : (old new : List ℕ) → g.content j.disk ≡ Some old → new ≡ entered j.end bytes old → HasOneMore r old new
    with_one old new told is =
        let there = new_journal j.pages j.end j.next j.is_closed keeps.list old (at_rest old told) r fit seq_is new (appended_there old new is) in
        record {
          page_count = there.front.page_count ∙ sym (at_rest old told).front.page_count;
          list = λ rs listed. subst (λ (l : List JournalRecord). records new ≡ Whole (l ++ r ∷ [])) (same_list old told rs listed)
              (new_list j.pages j.end j.next j.is_closed keeps.list old (at_rest old told) r fit seq_is new (appended_there old new is));
        }

    pub one_more : (disk : D) → g.content disk ≡ option_map (entered j.end bytes) (g.content j.disk) → Takes g j.disk disk (HasOneMore r)
    one_more disk written =
        steps_wider (λ (old new : List ℕ). new ≡ entered j.end bytes old) (HasOneMore r) (g.content j.disk) (g.content disk) (takes_by g {a = j.disk} {b = disk} (entered j.end bytes) written) with_one

    goes_on : (disk : D) → LeavesFromTold g j.disk disk (AppendLeaves j.end j.is_closed bytes) → (old : List ℕ) → g.content j.disk ≡ Some old
        → HoldsSince j.since (g.moment disk) (g.may_leave disk) (HasFirstOf j.pages (keeps.list ++ r ∷ []))
    goes_on disk leaves old told = holds_on wider leaves (λ c is. ⊎_elim (none c (is old told)) (one c (is old told)) (leaves_one old c told (is old told)))
      where
        nothing_more : keeps.list ++ failed_list j.failed ≡ keeps.list
        nothing_more = ap (λ (o : Option JournalRecord). keeps.list ++ failed_list o) (keeps.none_failed idle) ∙ append-nil keeps.list

        wider : HoldsSince j.since (g.moment j.disk) (g.may_leave j.disk) (HasFirstOf j.pages (keeps.list ++ r ∷ []))
        wider = record { each = λ t c from to left. first_wider j.pages keeps.list (r ∷ []) c (subst (λ (l : List JournalRecord). HasFirstOf j.pages l c) nothing_more ((keeps.kept old told).each t c from to left)) }

        none : (c : List ℕ) → AppendLeaves j.end j.is_closed bytes old c → records c ≡ Whole keeps.list → HasFirstOf j.pages (keeps.list ++ r ∷ []) c
        none c is listed = first_wider j.pages keeps.list (r ∷ []) c (all_of j.pages keeps.list c (count_left old c told is) listed)

        one : (c : List ℕ) → AppendLeaves j.end j.is_closed bytes old c → records c ≡ Whole (keeps.list ++ r ∷ []) → HasFirstOf j.pages (keeps.list ++ r ∷ []) c
        one c is listed = all_of j.pages (keeps.list ++ r ∷ []) c (count_left old c told is) listed

    -- before the append and at each moment of it
    present_one : (old : List ℕ) → g.content j.disk ≡ Some old → (c : List ℕ) → IfTold (g.content j.disk) (λ before. AppendLeaves j.end j.is_closed bytes before c) → IsPresent j.pages j.is_torn keeps.list (r ∷ []) c
    present_one old told c leaves = record {
      page_count = count_left old c told (leaves old told);
      whole = λ flag. leaves_one old c told (leaves old told);
      torn = λ flag. absurd (not_both j.is_torn (keeps.untorn idle) flag);
    }

    present_before : (c : List ℕ) → g.may_leave j.disk (g.moment j.disk) c → IsPresent j.pages j.is_torn keeps.list (r ∷ []) c
    present_before c left =
        let journal = at_rest c (settled_now.only c left) in
        record { page_count = journal.front.page_count; whole = λ flag. inl (old_list j.pages j.end j.next j.is_closed keeps.list c journal); torn = λ flag. absurd (not_both j.is_torn (keeps.untorn idle) flag) }

    keeps_halted : (disk : D) → LeavesFromTold g j.disk disk (AppendLeaves j.end j.is_closed bytes) → Takes g j.disk disk (AppendLeaves j.end j.is_closed bytes) → Keeps g (halted r disk j)
    keeps_halted disk leaves took = record {
      list = keeps.list;
      shown = keeps.shown;
      kept = λ new told. let old = took.back new told in goes_on disk leaves old.0 old.1;
      present = λ new told.
          let old = took.back new told in
          at_last (weaker (IsPresent j.pages j.is_torn keeps.list (r ∷ [])) leaves (present_one old.0 old.1)) present_before;
      untorn = λ is. absurd (cc is);
      none_failed = λ is. absurd (cc is);
      rest = λ is. absurd (cc is);
    }

    pub keeps_failed : {failing : JournalRecord} (disk : D) → LeavesFromTold g j.disk disk (AppendLeaves j.end j.is_closed bytes) → Takes g j.disk disk (AppendLeaves j.end j.is_closed bytes) → r ≡ failing → Keeps g (halted failing disk j)
    keeps_failed disk leaves took is = subst (λ (failing : JournalRecord). Keeps g (halted failing disk j)) is (keeps_halted disk leaves took)

    keeps_more : (disk : D) → LeavesFromTold g j.disk disk (AppendLeaves j.end j.is_closed bytes) → g.content disk ≡ option_map (entered j.end bytes) (g.content j.disk) → IsSynced g disk → Keeps g (grown r disk j)
    keeps_more disk leaves written settled = record {
      list = keeps.list ++ r ∷ [];
      shown = ap (λ (l : List Summary). l ++ summary_of r ∷ []) keeps.shown ∙ sym (map_push summary_of keeps.list r);
      kept = λ new told.
          let old = source new told in
          subst (λ (l : List JournalRecord). HoldsSince j.since (g.moment disk) (g.may_leave disk) (HasFirstOf j.pages l)) nothing_more (goes_on disk leaves old.0 old.1);
      present = λ new told c left.
          let old = source c (settled.only c left) in
          let journal = journal_there old.0 c old.1 old.2 in
          record {
            page_count = journal.front.page_count;
            whole = λ flag. inl (new_list j.pages j.end j.next j.is_closed keeps.list old.0 (at_rest old.0 old.1) r fit seq_is c (appended_there old.0 c old.2));
            torn = λ flag. absurd (not_both j.is_torn (keeps.untorn idle) flag);
          };
      untorn = keeps.untorn;
      none_failed = keeps.none_failed;
      rest = λ is. record { settled = settled; told = λ new told. let old = source new told in journal_there old.0 new old.1 old.2 };
    }
      where
        source : (new : List ℕ) → g.content disk ≡ Some new → (old : List ℕ) × (g.content j.disk ≡ Some old) × (new ≡ entered j.end bytes old)
        source new told = (takes_by g {a = j.disk} {b = disk} (entered j.end bytes) written).back new told

        journal_there : (old new : List ℕ) → g.content j.disk ≡ Some old → new ≡ entered j.end bytes old → IsJournal j.pages (j.end + record_size r) (next_seq j.next) true (keeps.list ++ r ∷ []) new
        journal_there old new told is = new_journal j.pages j.end j.next j.is_closed keeps.list old (at_rest old told) r fit seq_is new (appended_there old new is)

        nothing_more : keeps.list ++ r ∷ [] ≡ (keeps.list ++ r ∷ []) ++ failed_list j.failed
        nothing_more = sym (append-nil (keeps.list ++ r ∷ [])) ∙ ap (λ (o : Option JournalRecord). (keeps.list ++ r ∷ []) ++ failed_list o) (sym (keeps.none_failed idle))

    pub keeps_grown : {summaries : List Summary} {end next : ℕ} (disk : D) → LeavesFromTold g j.disk disk (AppendLeaves j.end j.is_closed bytes) → g.content disk ≡ option_map (entered j.end bytes) (g.content j.disk) → IsSynced g disk
        → j.summaries ++ summary_of r ∷ [] ≡ summaries → j.end + record_size r ≡ end → next_seq j.next ≡ next → Keeps g (record (grown r disk j) { summaries = summaries; end = end; next = next })
    keeps_grown disk leaves written settled summaries_are end_is next_is =
        subst (Keeps g) (λ i. record (grown r disk j) { summaries = summaries_are i; end = end_is i; next = next_is i }) (keeps_more disk leaves written settled)
