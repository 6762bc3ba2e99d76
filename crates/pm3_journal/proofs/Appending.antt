-- What the bytes of a journal say while a record is appended, and then.
use Rattle.std.proofs.Common.{◌≡◌, ◌⊎◌, ⊎_elim, inl, inr, ◌+◌, ◌-◌, ◌<◌, ◌≤◌, ℕ, Bool, true, false, List, [], ◌∷◌, ◌++◌, length, take, drop, get_or, Option, refl, sym, ◌∙◌, ap, subst, arith, append_assoc, length-drop, length-take}
use Rattle.std.proofs.lemmas.Bool.{cases_eq, eq-eqb}
use Rattle.std.proofs.lemmas.List.{drop_more, drop-drop, take_at, drop_at, take-append-drop, take-take, get_or-take, get_or-drop, length-take-le}
use Rattle.pm3_journal.specs.Format.{JournalRecord, body, closed_gate, record_size, IsFit}
use Rattle.pm3_journal.specs.Gates.{IsClosed, Closes, IsStaged, entered, EntryLeaves, ClosingLeaves, AppendLeaves}
use Rattle.pm3_journal.specs.FileHead.{page_count_of}
use Rattle.pm3_journal.specs.Journals.{IsJournal}
use Rattle.pm3_journal.specs.Reading.{State, at_start, next as behind, next_seq, Found, record_at}
use Rattle.pm3_journal.specs.RecordFront.{is_due}
use Rattle.pm3_journal.specs.Records.{records, Whole, after, HasFront}
use Rattle.pm3_journal.proofs.Behind.{read_back, length_body}
use Rattle.pm3_journal.proofs.Listing.{stand_length, records_are, front_same, front_push, pages_after, after_push}
use Rattle.pm3_journal.proofs.Locality.{found_within}
use Rattle.pm3_journal.proofs.Pieces.{closed_ends, short_ends}

-- two lists with the same first ones, the same one behind them, and the same rest
pub same_around : (at : ℕ) (c old : List ℕ) → take at c ≡ take at old → at < length c → at < length old → get_or c at 0 ≡ get_or old at 0 → drop (at + 1) c ≡ drop (at + 1) old → c ≡ old
same_around at c old before within within_old here behind =
    let c_is : take at c ++ (get_or c at 0 ∷ drop (at + 1) c) ≡ c = ap (λ (l : List ℕ). take at c ++ l) (sym (drop_more c at 0 within)) ∙ take-append-drop at c in
    let old_is : take at old ++ (get_or old at 0 ∷ drop (at + 1) old) ≡ old = ap (λ (l : List ℕ). take at old ++ l) (sym (drop_more old at 0 within_old)) ∙ take-append-drop at old in
    sym c_is ∙ ap (λ (l : List ℕ). l ++ (get_or c at 0 ∷ drop (at + 1) c)) before ∙ ap (λ (x : ℕ). take at old ++ (x ∷ drop (at + 1) c)) here ∙ ap (λ (l : List ℕ). take at old ++ (get_or old at 0 ∷ l)) behind ∙ old_is

-- with the same first ones and the gate, a closed gate is closed
gate_same : (at : ℕ) (c mid : List ℕ) → take (at + 1) c ≡ take (at + 1) mid → IsClosed at mid → IsClosed at c
gate_same at c mid same gate =
    let long : length (take (at + 1) c) ≡ at + 1 = ap length same ∙ length-take-le (at + 1) mid (omega (arith, gate.within)) in
    let here : get_or c at 0 ≡ get_or mid at 0 = sym (get_or-take (at + 1) c at 0 (omega arith)) ∙ ap (λ (l : List ℕ). get_or l at 0) same ∙ get_or-take (at + 1) mid at 0 (omega arith) in
    record { within = omega (arith, long, length-take (at + 1) c); closed = λ is. gate.closed (sym here ∙ is) }

take_less : (at : ℕ) (c mid : List ℕ) → take (at + 1) c ≡ take (at + 1) mid → take at c ≡ take at mid
take_less at c mid same = sym (take-take at (at + 1) c (omega arith)) ∙ ap (take at) same ∙ take-take at (at + 1) mid (omega arith)

-- all before the gate stands
pub append_before : (end : ℕ) (is_closed : Bool) (bytes old c : List ℕ) → AppendLeaves end is_closed bytes old c → take end c ≡ take end old
append_before end is_closed bytes old c leaves = ⊎_elim (λ closing. closing.torn.before) entering leaves
  where
    entering : (mid : List ℕ) × Closes end old mid × EntryLeaves end bytes mid c → take end c ≡ take end old
    entering (mid, closes, entry) = ⊎_elim (λ same. take_less end c mid same ∙ closes.before) (λ staged. staged.before ∙ closes.before) entry

module _ (pages end next : ℕ) (is_closed : Bool) (list : List JournalRecord) (old : List ℕ) (journal : IsJournal pages end next is_closed list old) where
  pub old_list : records old ≡ Whole list
  old_list = records_are pages list end old journal.front journal.ends

  -- with a closed gate behind it the list is as it was
  pub with_closed : (c : List ℕ) → take end c ≡ take end old → IsClosed end c → records c ≡ Whole list
  with_closed c same gate =
      let within : end ≤ length c = omega (arith, gate.within) in
      records_are pages list end c (front_same pages list end c old same within journal.front) (closed_ends (after (at_start pages) list) end c gate.closed)

  with_short : (c : List ℕ) → take end c ≡ take end old → end ≤ length c → length c ≤ end + 1 → records c ≡ Whole list
  with_short c same within short =
      records_are pages list end c (front_same pages list end c old same within journal.front) (short_ends (after (at_start pages) list) end c (omega arith))

  -- the page count stands in the first bytes
  pub count_stays : (c : List ℕ) → take end c ≡ take end old → page_count_of (take 32 c) ≡ pages
  count_stays c same =
      let long : 32 ≤ end = omega (arith, stand_length (at_start pages) 32 old list end journal.front.stand) in
      let head : take 32 c ≡ take 32 old = sym (take-take 32 end c long) ∙ ap (take 32) same ∙ take-take 32 end old long in
      ap page_count_of head ∙ journal.front.page_count

  pub closing_leaves : (c : List ℕ) → ClosingLeaves end is_closed old c → records c ≡ Whole list
  closing_leaves c leaves = elim is_closed as (λ (b : Bool). is_closed ≡ b → records c ≡ Whole list) [ true ↦ known | false ↦ unknown ] refl
    where
      known : is_closed ≡ true → records c ≡ Whole list
      known is = ap records (leaves.same is) ∙ old_list

      within : end ≤ length c
      within = omega (arith, journal.front.within, leaves.torn.no_shorter)

      missing : length old ≡ end → records c ≡ Whole list
      missing is = with_short c leaves.torn.before within (omega (arith, leaves.torn.no_longer, is))

      was_open : get_or old end 0 ≡ 1 → records c ≡ Whole list
      was_open is = ⊎_elim there past (cases_eq (length old) end)
        where
          past : (length old ≡ end → ⊥) → records c ≡ Whole list
          past longer = ⊎_elim stays closes (cases_eq (get_or c end 0) 1)
            where
              there_old : end < length old
              there_old = omega (arith, journal.front.within, longer)

              there_now : end < length c
              there_now = omega (arith, there_old, leaves.torn.no_shorter)

              stays : get_or c end 0 ≡ 1 → records c ≡ Whole list
              stays here = ap records (same_around end c old leaves.torn.before there_now there_old (here ∙ sym is) leaves.torn.behind) ∙ old_list

              closes : (get_or c end 0 ≡ 1 → ⊥) → records c ≡ Whole list
              closes no_longer_open = with_closed c leaves.torn.before record { within = there_now; closed = no_longer_open }

          there : length old ≡ end → records c ≡ Whole list
          there = missing

      unknown : is_closed ≡ false → records c ≡ Whole list
      unknown is = ⊎_elim missing was_open (journal.gate.unclosed is)

  module _ (r : JournalRecord) (fit : IsFit pages r) (seq_is : r.seq ≡ next) where
    state_fit : IsFit (after (at_start pages) list).pages r
    state_fit = subst (λ (p : ℕ). IsFit p r) (sym (pages_after (at_start pages) list)) fit

    state_due : is_due (after (at_start pages) list).due r.seq ≡ true
    state_due = ap (is_due (after (at_start pages) list).due) seq_is ∙ journal.due

    pub found : (c rest : List ℕ) → drop end c ≡ 1 ∷ (body r ++ (closed_gate ++ rest)) → record_at (after (at_start pages) list) end c ≡ Found r
    found c rest is = read_back (after (at_start pages) list) end c (closed_gate ++ rest) r state_fit state_due is

    pub front_there : (c rest : List ℕ) → take end c ≡ take end old → drop end c ≡ 1 ∷ (body r ++ (closed_gate ++ rest)) → HasFront pages (list ++ r ∷ []) (end + record_size r) c
    front_there c rest same is =
        let fits : end + record_size r ≤ length c = found_within (after (at_start pages) list) end c r (found c rest is) in
        front_push pages c list end r (front_same pages list end c old same (omega (arith, fits)) journal.front) (found c rest is) fits

    pub gate_there : (c rest : List ℕ) → drop end c ≡ 1 ∷ (body r ++ (closed_gate ++ rest)) → IsClosed (end + record_size r) c
    gate_there c rest is =
        let size : length (1 ∷ body r) ≡ record_size r = omega (arith, length_body pages r fit) in
        let behind_it : drop (end + record_size r) c ≡ closed_gate ++ rest = sym (drop-drop (record_size r) end c) ∙ ap (drop (record_size r)) is ∙ drop_at (1 ∷ body r) (closed_gate ++ rest) (record_size r) size in
        let long : length c - (end + record_size r) ≡ 8 + length rest = sym (length-drop (end + record_size r) c) ∙ ap length behind_it ∙ omega arith in
        let place : end + record_size r + 0 ≡ end + record_size r = omega arith in
        let gate : get_or c (end + record_size r) 0 ≡ 0 = ap (λ (n : ℕ). get_or c n 0) (sym place) ∙ sym (get_or-drop (end + record_size r) c 0 0) ∙ ap (λ (l : List ℕ). get_or l 0 0) behind_it in
        record { within = omega (arith, long); closed = λ one. omega (arith, gate, one) }

    pub with_more : (c rest : List ℕ) → take end c ≡ take end old → drop end c ≡ 1 ∷ (body r ++ (closed_gate ++ rest)) → records c ≡ Whole (list ++ r ∷ [])
    with_more c rest same is =
        records_are pages (list ++ r ∷ []) (end + record_size r) c (front_there c rest same is) (closed_ends (after (at_start pages) (list ++ r ∷ [])) (end + record_size r) c (gate_there c rest is).closed)

    staged_leaves : (mid c : List ℕ) → Closes end old mid → IsStaged end (body r ++ closed_gate) mid c → (records c ≡ Whole list) ⊎ (records c ≡ Whole (list ++ r ∷ []))
    staged_leaves mid c closes staged = ⊎_elim opened shut (cases_eq (get_or c end 0) 1)
      where
        same : take end c ≡ take end old
        same = staged.before ∙ closes.before

        opened : get_or c end 0 ≡ 1 → (records c ≡ Whole list) ⊎ (records c ≡ Whole (list ++ r ∷ []))
        opened here = inr (with_more c _ same (drop_more c end 0 staged.within ∙ ap (λ (x : ℕ). x ∷ drop (end + 1) c) here ∙ ap (λ (l : List ℕ). 1 ∷ l) (staged.behind ∙ append_assoc (body r) closed_gate _)))

        shut : (get_or c end 0 ≡ 1 → ⊥) → (records c ≡ Whole list) ⊎ (records c ≡ Whole (list ++ r ∷ []))
        shut closed = inl (with_closed c same record { within = staged.within; closed = closed })

    pub append_leaves : (c : List ℕ) → AppendLeaves end is_closed (body r ++ closed_gate) old c → (records c ≡ Whole list) ⊎ (records c ≡ Whole (list ++ r ∷ []))
    append_leaves c leaves = ⊎_elim (λ closing. inl (closing_leaves c closing)) entering leaves
      where
        entering : (mid : List ℕ) × Closes end old mid × EntryLeaves end (body r ++ closed_gate) mid c → (records c ≡ Whole list) ⊎ (records c ≡ Whole (list ++ r ∷ []))
        entering (mid, closes, entry) = ⊎_elim (λ same. inl (with_closed c (take_less end c mid same ∙ closes.before) (gate_same end c mid same closes.gate))) (staged_leaves mid c closes) entry

    pub appended : (new : List ℕ) → new ≡ entered end (body r ++ closed_gate) old → (rest : List ℕ) × (take end new ≡ take end old) × (drop end new ≡ 1 ∷ (body r ++ (closed_gate ++ rest)))
    appended new is =
        let front : length (take end old) ≡ end = length-take-le end old journal.front.within in
        let rest = drop (end + length (1 ∷ (body r ++ closed_gate))) old in
        let split : new ≡ take end old ++ ((1 ∷ (body r ++ closed_gate)) ++ rest) = is ∙ append_assoc (take end old) (1 ∷ (body r ++ closed_gate)) rest in
        let first : take end new ≡ take end old = ap (take end) split ∙ take_at (take end old) _ end front in
        let second : drop end new ≡ 1 ∷ (body r ++ (closed_gate ++ rest)) = ap (drop end) split ∙ drop_at (take end old) _ end front ∙ ap (λ (l : List ℕ). 1 ∷ l) (append_assoc (body r) closed_gate rest) in
        (rest, first, second)

    pub new_list : (new : List ℕ) → new ≡ entered end (body r ++ closed_gate) old → records new ≡ Whole (list ++ r ∷ [])
    new_list new is = let there = appended new is in with_more new there.0 there.1 there.2

    pub new_journal : (new : List ℕ) → new ≡ entered end (body r ++ closed_gate) old → IsJournal pages (end + record_size r) (next_seq next) true (list ++ r ∷ []) new
    new_journal new is =
        let there = appended new is in
        let gate = gate_there new there.0 there.2 in
        let due_is : (after (at_start pages) (list ++ r ∷ [])).due ≡ (behind (after (at_start pages) list) r).due = ap (λ (s : State). s.due) (after_push (at_start pages) list r) in
        record {
          front = front_there new there.0 there.1 there.2;
          ends = closed_ends (after (at_start pages) (list ++ r ∷ [])) (end + record_size r) new gate.closed;
          gate = record { closed = λ flag. gate; unclosed = λ flag. absurd (cc flag) };
          due = ap (λ (d : Option ℕ). is_due d (next_seq next)) due_is ∙ eq-eqb (next_seq r.seq) (next_seq next) (ap next_seq seq_is);
        }
