-- What the bytes of a journal say while its first gate is closed, and then.
use Rattle.std.proofs.Common.{◌≡◌, ◌≢◌, ◌⊎◌, ⊎_elim, inl, inr, ◌+◌, ◌-◌, ◌<◌, ◌≤◌, ℕ, suc, Bool, true, false, List, [], ◌∷◌, ◌++◌, length, take, drop, get_or, Option, Some, None, option_map, refl, sym, ◌∙◌, ap, subst, arith, append_assoc, length-append, length-take, length-drop}
use Rattle.std.specs.Int.{w32, w64, from_le_bytes}
use Rattle.std.specs.Option.{option_or}
use Rattle.std.proofs.lemmas.Bool.{cases_eq}
use Rattle.std.proofs.lemmas.List.{drop_more, take_at, drop_at, take-append-drop, get_or_past, get_or-drop, length-take-le, length-map}
use Rattle.pm3_disk.specs.Content.{IfTold, overwrite, TornWrite}
use Rattle.pm3_disk.specs.Devices.{IsSynced, Leaves, LeavesOnly, Takes}
use Rattle.pm3_disk.specs.Moments.{After}
use Rattle.pm3_disk.specs.declared.outside.Disk.{Ghosts}
use Rattle.pm3_disk.proofs.Leaving.{takes_by}
use Rattle.pm3_disk.proofs.Passing.{at_last, holds_on, weaker}
use Rattle.pm3_types.specs.Bytes.{Number, Zeros}
use Rattle.pm3_journal.specs.FileHead.{head_departure, kind, page_count_of}
use Rattle.pm3_journal.specs.Format.{JournalRecord}
use Rattle.pm3_journal.specs.Gates.{IsClosed}
use Rattle.pm3_journal.specs.JournalState.{JournalState, emptied, torn}
use Rattle.pm3_journal.specs.Journals.{IsJournal, with_first_open, IsPresent, Keeps, HasSpace, failed_list}
use Rattle.pm3_journal.specs.Reading.{at_start}
use Rattle.pm3_journal.specs.RecordFront.{is_due}
use Rattle.pm3_journal.specs.Records.{Listed, Whole, with_head, records, after, HasFront}
use Rattle.pm3_journal.specs.Steps.{HasAllOrNone, HasFirstOf, HasNone}
use Rattle.pm3_journal.specs.Summaries.{Summary, summary_of}
use Rattle.pm3_journal.proofs.Appending.{same_around}
use Rattle.pm3_journal.proofs.Continuing.{first_wider, all_of, steps_wider}
use Rattle.pm3_journal.proofs.Departing.{fields_fine, zeros_within}
use Rattle.pm3_journal.proofs.Listing.{records_are, whole_is}
use Rattle.pm3_journal.proofs.Pieces.{closed_ends}

no_damage : (d : Option ℕ) (list : Listed) (rs : List JournalRecord) → with_head d list ≡ Whole rs → d ≡ None
no_damage None list rs is = refl
no_damage (Some field) list rs is = absurd (cc is)

-- where records are read, the head is whole
pub whole_head : (c : List ℕ) (rs : List JournalRecord) → records c ≡ Whole rs → head_departure (take 32 c) ≡ None
unfolding records
whole_head c rs is = no_damage (head_departure (take 32 c)) _ rs is

pub long_head : (c : List ℕ) → head_departure (take 32 c) ≡ None → 32 ≤ length c
unfolding head_departure
long_head c fine =
    let one = fields_fine (Number 0 w64 (from_le_bytes w64 kind) (from_le_bytes w64 kind)) (Number 8 w32 1 1 ∷ Number 12 w32 16 16384 ∷ Zeros 16 16 ∷ []) (take 32 c) fine in
    let two = fields_fine (Number 8 w32 1 1) (Number 12 w32 16 16384 ∷ Zeros 16 16 ∷ []) (take 32 c) one.1 in
    let three = fields_fine (Number 12 w32 16 16384) (Zeros 16 16 ∷ []) (take 32 c) two.1 in
    let four = fields_fine (Zeros 16 16) [] (take 32 c) three.1 in
    let long : 16 + 16 ≤ length (take 32 c) = zeros_within 16 16 (take 32 c) four.0 in
    omega (arith, long, length-take 32 c)

-- no record stands behind a first gate that isn't open
pub none_there : (c : List ℕ) → head_departure (take 32 c) ≡ None → get_or c 32 0 ≢ 1 → records c ≡ Whole []
none_there c fine closed =
    let front : HasFront (page_count_of (take 32 c)) [] 32 c = record { head = fine; page_count = refl; stand = refl; within = long_head c fine } in
    records_are (page_count_of (take 32 c)) [] 32 c front (closed_ends (at_start (page_count_of (take 32 c))) 32 c closed)

gate_open : (c : List ℕ) (rs : List JournalRecord) → records c ≡ Whole rs → 0 < length rs → get_or c 32 0 ≡ 1
gate_open c rs is some = ⊎_elim (λ is_open. is_open) (λ closed. absurd (none closed)) (cases_eq (get_or c 32 0) 1)
  where
    none : get_or c 32 0 ≢ 1 → ⊥
    none closed =
        let empty : rs ≡ [] = whole_is (sym is ∙ none_there c (whole_head c rs is) closed) in
        omega (arith, some, ap length empty)

past_gate : (c : List ℕ) → get_or c 32 0 ≡ 1 → 32 < length c
past_gate c is_open = ⊎_elim (λ (le : length c ≤ 32). absurd (short le)) (λ lt. lt) (search (arith))
  where
    short : length c ≤ 32 → ⊥
    short le = omega (arith, is_open, get_or_past c 32 0 le)

front_32 : (c : List ℕ) → 32 ≤ length c → (x : ℕ) → take 32 (overwrite 32 (x ∷ []) c) ≡ take 32 c
front_32 c within x = ap (take 32) (append_assoc (take 32 c) (x ∷ []) (drop 33 c)) ∙ take_at (take 32 c) _ 32 (length-take-le 32 c within)

behind_32 : (c : List ℕ) → 32 ≤ length c → (x : ℕ) → drop 32 (overwrite 32 (x ∷ []) c) ≡ x ∷ drop 33 c
behind_32 c within x = ap (drop 32) (append_assoc (take 32 c) (x ∷ []) (drop 33 c)) ∙ drop_at (take 32 c) _ 32 (length-take-le 32 c within)

opened_is : (c : List ℕ) → get_or c 32 0 ≡ 1 → with_first_open c ≡ c
opened_is c is_open =
    append_assoc (take 32 c) (1 ∷ []) (drop 33 c)
    ∙ ap (λ (x : ℕ). take 32 c ++ (x ∷ drop 33 c)) (sym is_open)
    ∙ ap (λ (l : List ℕ). take 32 c ++ l) (sym (drop_more c 32 0 (past_gate c is_open)))
    ∙ take-append-drop 32 c

-- a torn write over the first gate leaves all else
opened_same : (o c : List ℕ) → TornWrite 32 1 o c → with_first_open c ≡ with_first_open o
opened_same o c torn = ap (λ (l : List ℕ). l ++ (1 ∷ []) ++ drop 33 c) torn.before ∙ ap (λ (l : List ℕ). take 32 o ++ (1 ∷ []) ++ l) torn.behind

first_of_opened : (pages : ℕ) (rs : List JournalRecord) (c : List ℕ) → 32 < length c → HasFirstOf pages rs (with_first_open c) → HasFirstOf pages rs c
first_of_opened pages rs c within first = ⊎_elim is_open closed (cases_eq (get_or c 32 0) 1)
  where
    is_open : get_or c 32 0 ≡ 1 → HasFirstOf pages rs c
    is_open is = subst (HasFirstOf pages rs) (opened_is c is) first

    same : take 32 (with_first_open c) ≡ take 32 c
    same = front_32 c (omega (arith, within)) 1

    closed : get_or c 32 0 ≢ 1 → HasFirstOf pages rs c
    closed isnt =
        let fine : head_departure (take 32 c) ≡ None = ap head_departure (sym same) ∙ whole_head (with_first_open c) _ first.list in
        let le : 0 ≤ length rs = omega arith in
        record { page_count = ap page_count_of (sym same) ∙ first.page_count; number = 0; few = le; list = none_there c fine isnt }

module _ (pages : ℕ) (is_torn : Bool) (list failed : List JournalRecord) (some : 0 < length list) where
  -- with the first gate open it has some first ones of the records
  pub present_opened : (o : List ℕ) → IsPresent pages is_torn list failed o → (32 < length o) × HasFirstOf pages (list ++ failed) (with_first_open o)
  present_opened o present = elim is_torn as (λ (b : Bool). is_torn ≡ b → (32 < length o) × HasFirstOf pages (list ++ failed) (with_first_open o)) [ true ↦ present.torn | false ↦ (λ is. ⊎_elim alone with_failed (present.whole is)) ] refl
    where
      there : (rs : List JournalRecord) → records o ≡ Whole rs → 0 < length rs → HasFirstOf pages (list ++ failed) o → (32 < length o) × HasFirstOf pages (list ++ failed) (with_first_open o)
      there rs is more first = let is_open = gate_open o rs is more in (past_gate o is_open, subst (HasFirstOf pages (list ++ failed)) (sym (opened_is o is_open)) first)

      alone : records o ≡ Whole list → (32 < length o) × HasFirstOf pages (list ++ failed) (with_first_open o)
      alone is = there list is some (first_wider pages list failed o (all_of pages list o present.page_count is))

      with_failed : records o ≡ Whole (list ++ failed) → (32 < length o) × HasFirstOf pages (list ++ failed) (with_first_open o)
      with_failed is = there (list ++ failed) is (omega (arith, some, length-append list failed)) (all_of pages (list ++ failed) o present.page_count is)

  pub present_torn : (o : List ℕ) → IsPresent pages is_torn list failed o → IsPresent pages true list failed o
  present_torn o present = record { page_count = present.page_count; whole = λ flag. absurd (cc flag); torn = λ flag. present_opened o present }

  -- a crash while the first gate is closed
  pub closing_present : (o c : List ℕ) → IsPresent pages is_torn list failed o → TornWrite 32 1 o c → IsPresent pages true list failed c
  closing_present o c present torn =
      let before = present_opened o present in
      record {
        page_count = ap page_count_of torn.before ∙ present.page_count;
        whole = λ flag. absurd (cc flag);
        torn = λ flag. (omega (arith, before.0, torn.no_shorter), subst (HasFirstOf pages (list ++ failed)) (sym (opened_same o c torn)) before.1);
      }

  pub closing_first : (c : List ℕ) → IsPresent pages true list failed c → HasFirstOf pages (list ++ failed) c
  closing_first c present = let torn = present.torn refl in first_of_opened pages (list ++ failed) c torn.0 torn.1

  -- all of the records or none, where no closing failed before
  pub all_or_none : (o c : List ℕ) → is_torn ≡ false → IsPresent pages is_torn list failed o → TornWrite 32 1 o c → HasAllOrNone o c
  all_or_none o c sound present torn = record {
    page_count = ap page_count_of torn.before;
    list = λ rs is. ⊎_elim (is_open rs is) (closed rs is) (cases_eq (get_or c 32 0) 1);
  }
    where
      filled : (rs : List JournalRecord) → records o ≡ Whole rs → 0 < length rs
      filled rs is = ⊎_elim (λ (alone : records o ≡ Whole list). omega (arith, some, ap length (whole_is (sym is ∙ alone))))
          (λ (more : records o ≡ Whole (list ++ failed)). omega (arith, some, ap length (whole_is (sym is ∙ more)), length-append list failed)) (present.whole sound)

      was_open : (rs : List JournalRecord) → records o ≡ Whole rs → get_or o 32 0 ≡ 1
      was_open rs is = gate_open o rs is (filled rs is)

      is_open : (rs : List JournalRecord) → records o ≡ Whole rs → get_or c 32 0 ≡ 1 → (records c ≡ Whole rs) ⊎ (records c ≡ Whole [])
      is_open rs is now = inl (ap records (same_around 32 c o torn.before (past_gate c now) (past_gate o (was_open rs is)) (now ∙ sym (was_open rs is)) torn.behind) ∙ is)

      closed : (rs : List JournalRecord) → records o ≡ Whole rs → get_or c 32 0 ≢ 1 → (records c ≡ Whole rs) ⊎ (records c ≡ Whole [])
      closed rs is isnt = inr (none_there c (ap head_departure torn.before ∙ whole_head o rs is) isnt)

  -- the bytes with the first gate closed
  pub emptied_is : (o : List ℕ) (next : ℕ) → IsPresent pages is_torn list failed o → IsJournal pages 32 next true [] (overwrite 32 (0 ∷ []) o)
  emptied_is o next present =
      let before = present_opened o present in
      let c = overwrite 32 (0 ∷ []) o in
      let within : 32 ≤ length o = omega (arith, before.0) in
      let front : take 32 (overwrite 32 (0 ∷ []) o) ≡ take 32 o = front_32 o within 0 in
      let behind : drop 32 (overwrite 32 (0 ∷ []) o) ≡ 0 ∷ drop 33 o = behind_32 o within 0 in
      let long : length (overwrite 32 (0 ∷ []) o) - 32 ≡ suc (length (drop 33 o)) = sym (length-drop 32 (overwrite 32 (0 ∷ []) o)) ∙ ap length behind in
      let gate : get_or (overwrite 32 (0 ∷ []) o) 32 0 ≡ 0 = sym (get_or-drop 32 (overwrite 32 (0 ∷ []) o) 0 0) ∙ ap (λ (l : List ℕ). get_or l 0 0) behind in
      let shut : IsClosed 32 (overwrite 32 (0 ∷ []) o) = record { within = omega (arith, long); closed = λ is. omega (arith, gate, is) } in
      let fine : head_departure (take 32 o) ≡ None = ap head_departure (sym (front_32 o within 1)) ∙ whole_head (with_first_open o) _ before.1.list in
      record {
        front = record { head = ap head_departure front ∙ fine; page_count = ap page_count_of front ∙ present.page_count; stand = refl; within = omega (arith, long) };
        ends = closed_ends (at_start pages) 32 (overwrite 32 (0 ∷ []) o) shut.closed;
        gate = record { closed = λ is. shut; unclosed = λ is. absurd (cc is) };
        due = refl;
      }

option_map_back : {A : Type 0} {B : Type 0} (f : A → B) (o : Option A) (b : B) → option_map f o ≡ Some b → (a : A) × (o ≡ Some a) × (f a ≡ b)
option_map_back f None b is = absurd (cc is)
option_map_back f (Some a) b is = (a, refl, cc is)

no_items : {A : Type 0} (l : List A) → length l ≡ 0 → l ≡ []
no_items [] len = refl
no_items (x ∷ l) len = absurd (omega (arith, len))

pub stays_stopped : (stopped : Option ℕ) (next : ℕ) → option_or stopped (Some next) ≡ None → ⊥
stays_stopped None next is = absurd (cc is)
stays_stopped (Some seq) next is = absurd (cc is)

pub space_cleared : (room : Option ℕ) (bytes numbers before slots more : ℕ) (summaries : List Summary) → summaries ≡ [] → more ≡ slots → HasSpace room bytes numbers before slots → HasSpace room bytes numbers (length summaries) more
space_cleared None bytes numbers before slots more summaries none same space = tt
space_cleared (Some most) bytes numbers before slots more summaries none same space = (space.0, space.1, omega (arith, ap length none, same, space.2), omega (arith, ap length none))

-- the first gate is closed
module _ {D R : Type 0} (g : Ghosts D R) (j : JournalState D) (keeps : Keeps g j) (some : 0 < length j.summaries) where
  some_there : 0 < length keeps.list
  some_there = omega (arith, some, ap length keeps.shown, length-map keeps.list summary_of)

  -- a crash may leave the disk as it reads
  module _ (here : (bytes : List ℕ) → g.content j.disk ≡ Some bytes → g.may_leave j.disk (g.moment j.disk) bytes) where
    present_now : (old : List ℕ) → g.content j.disk ≡ Some old → IsPresent j.pages j.is_torn keeps.list (failed_list j.failed) old
    present_now old told = keeps.present old told old (here old told)

    pub gate_there : IfTold (g.content j.disk) (λ old. 32 ≤ length old)
    gate_there old told =
        let before = present_opened j.pages j.is_torn keeps.list (failed_list j.failed) some_there old (present_now old told) in
        omega (arith, before.0)

    pub part_left : (disk : D) → j.is_torn ≡ false → Takes g j.disk disk (TornWrite 32 1) → Takes g j.disk disk HasAllOrNone
    part_left disk sound took = steps_wider (TornWrite 32 1) HasAllOrNone (g.content j.disk) (g.content disk) took
        (λ old new told torn. all_or_none j.pages j.is_torn keeps.list (failed_list j.failed) some_there old new sound (present_now old told) torn)

    module _ (disk : D) (written : g.content disk ≡ option_map (overwrite 32 (0 ∷ [])) (g.content j.disk)) where
      empty_by : (old new : List ℕ) → g.content j.disk ≡ Some old → new ≡ overwrite 32 (0 ∷ []) old → IsJournal j.pages 32 j.next true [] new
      empty_by old new told is = subst (IsJournal j.pages 32 j.next true []) (sym is) (emptied_is j.pages j.is_torn keeps.list (failed_list j.failed) some_there old j.next (present_now old told))

      empty_there : (new : List ℕ) → g.content disk ≡ Some new → IsJournal j.pages 32 j.next true [] new
      empty_there new told =
          let (old, is, made) = option_map_back (overwrite 32 (0 ∷ [])) (g.content j.disk) new (sym written ∙ told) in
          empty_by old new is (sym made)

      none_in : (new : List ℕ) → IsJournal j.pages 32 j.next true [] new → records new ≡ Whole []
      none_in new journal = records_are j.pages [] 32 new journal.front journal.ends

      pub none_left : Takes g j.disk disk HasNone
      none_left = steps_wider (λ (old new : List ℕ). new ≡ overwrite 32 (0 ∷ []) old) HasNone (g.content j.disk) (g.content disk) (takes_by g {a = j.disk} {b = disk} (overwrite 32 (0 ∷ [])) written)
          (λ old new told is.
          let journal = empty_by old new told is in
          record { page_count = journal.front.page_count ∙ sym (present_now old told).page_count; list = none_in new journal })

      keeps_none : IsSynced g disk → Keeps g (emptied (g.moment disk) disk j)
      keeps_none settled = record {
        list = [];
        shown = refl;
        kept = λ new told. record {
          each = λ t c from to left.
              let moment : t ≡ g.moment disk = omega (arith, from, to) in
              let is = settled.only c (subst (λ (m : ℕ). g.may_leave disk m c) moment left) in
              let le : 0 ≤ 0 = omega arith in
              let journal = empty_there c is in
              record { page_count = journal.front.page_count; number = 0; few = le; list = none_in c journal };
        };
        present = λ new told c left.
            let journal = empty_there c (settled.only c left) in
            record { page_count = journal.front.page_count; whole = λ flag. inl (none_in c journal); torn = λ flag. absurd (cc flag) };
        untorn = λ is. refl;
        none_failed = λ is. refl;
        rest = λ is. record { settled = settled; told = empty_there };
      }

      pub keeps_emptied : {since : ℕ} {summaries : List Summary} → IsSynced g disk → since ≡ g.moment disk → summaries ≡ [] → Keeps g (record (emptied since disk j) { summaries = summaries })
      keeps_emptied {since} {summaries} settled here_since no_summaries =
          subst (Keeps g) (λ i. record (emptied (sym here_since i) disk j) { summaries = sym no_summaries i }) (keeps_none settled)

  module _ (disk : D) (leaves : Leaves g j.disk disk (TornWrite 32 1)) where
    after_closing : (old : List ℕ) → g.content j.disk ≡ Some old → (c : List ℕ) → After (g.may_leave j.disk (g.moment j.disk)) (TornWrite 32 1) c → IsPresent j.pages true keeps.list (failed_list j.failed) c
    after_closing old told c (o, left, torn_by) = closing_present j.pages j.is_torn keeps.list (failed_list j.failed) some_there o c (keeps.present old told o left) torn_by

    pub keeps_torn : {stopped : Option ℕ} → (stopped ≡ None → ⊥) → Takes g j.disk disk (TornWrite 32 1) → Keeps g (record (torn disk j) { stopped = stopped })
    keeps_torn {stopped} stops took = record {
      list = keeps.list;
      shown = keeps.shown;
      kept = λ new told.
          let old = took.back new told in
          holds_on (keeps.kept old.0 old.1) leaves (λ c left. closing_first j.pages true keeps.list (failed_list j.failed) some_there c (after_closing old.0 old.1 c left));
      present = λ new told.
          let old = took.back new told in
          at_last (weaker (IsPresent j.pages true keeps.list (failed_list j.failed)) leaves (after_closing old.0 old.1)) (λ o left. present_torn j.pages j.is_torn keeps.list (failed_list j.failed) some_there o (keeps.present old.0 old.1 o left));
      untorn = λ is. absurd (stops is);
      none_failed = λ is. absurd (stops is);
      rest = λ is. absurd (stops is);
    }

    pub all_or_none_left : j.is_torn ≡ false → LeavesOnly g j.disk disk (λ c. IfTold (g.content j.disk) (λ _. After (g.may_leave j.disk (g.moment j.disk)) HasAllOrNone c))
    all_or_none_left sound = weaker (λ (c : List ℕ). IfTold (g.content j.disk) (λ _. After (g.may_leave j.disk (g.moment j.disk)) HasAllOrNone c)) leaves (λ c left old told.
        let (o, was, torn_by) = left in
        (o, was, all_or_none j.pages j.is_torn keeps.list (failed_list j.failed) some_there o c sound (keeps.present old told o was) torn_by))

-- the state of an emptied journal, by its parts
pub emptied_by : {D R : Type 0} {g : Ghosts D R} {j : JournalState D} {now since : ℕ} {summaries : List Summary} (disk : D) → Keeps g j → summaries ≡ [] → since ≡ now → record (emptied since disk j) { summaries = summaries } ≡ emptied now disk j
emptied_by {D} {R} {g} {j} disk keeps none here = λ i. record (emptied (here i) disk j) { summaries = none i }

-- without records any number may be due
pub keeps_numbered : {D R : Type 0} (g : Ghosts D R) (j : JournalState D) (seq : ℕ) → j.summaries ≡ [] → Keeps g j → Keeps g (record j { next = seq })
keeps_numbered g j seq none keeps = record {
  list = keeps.list;
  shown = keeps.shown;
  kept = keeps.kept;
  present = keeps.present;
  untorn = keeps.untorn;
  none_failed = keeps.none_failed;
  rest = λ is. record {
    settled = (keeps.rest is).settled;
    told = λ old told.
        let journal = (keeps.rest is).told old told in
        record { front = journal.front; ends = journal.ends; gate = journal.gate; due = ap (λ (l : List JournalRecord). is_due (after (at_start j.pages) l).due seq) empty };
  };
}
  where
    empty : keeps.list ≡ []
    empty = no_items keeps.list (sym (length-map keeps.list summary_of) ∙ ap length (sym keeps.shown) ∙ ap length none)
