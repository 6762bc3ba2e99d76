-- A transaction that has the turn commits: what each of its steps asks and leaves.
use Rattle.std.proofs.Common.{◌≡◌, ◌≢◌, ◌⊎◌, ◌↔◌, ◌<◌, ◌≤◌, ◌+◌, ◌^◌, ◌==◌, ◌||◌, ◌++◌, ◌∙◌, inl, inr, ℕ, Bool, true, false, List, [], ◌∷◌, Option, Some, None, Result, Err, is_some, refl, sym, ap, subst, arith}
use Rattle.std.specs.FinMap.{contains_key, get, get-empty}
use Rattle.std.specs.Option.{option_or}
use Rattle.std.specs.Ordering.{nat_cmp}
use Rattle.atomic_table.specs.Seated.{TableId}
use Rattle.pm3_core.specs.declared.naming.TheConstants.{BASE}
use Rattle.pm3_disk.specs.Content.{Steps}
use Rattle.pm3_disk.specs.Faults.{Rose}
use Rattle.pm3_disk.specs.declared.outside.Disk.{Ghosts}
use Rattle.pm3_types.specs.Fields.{Fields}
use Rattle.pm3_types.specs.Layout.{PageImage, Sheet}
use Rattle.pm3_graph.specs.Frame.{FrameOfRuns}
use Rattle.pm3_graph.specs.Operation.{IsRun}
use Rattle.pm3_page.specs.PageSheets.{sheet_in}
use Rattle.pm3_page.proofs.SheetsOf.{get-sheets_of}
use Rattle.pm3_access.specs.declared.parted.Parted.{Parted}
use Rattle.pm3_access.specs.Acts.{left_images, found_images, space_found}
use Rattle.pm3_access.specs.Holding.{Holding, HeldSpaceState, space_now}
use Rattle.pm3_access.specs.Parting.{CanRejoin, joined}
use Rattle.pm3_access.specs.Parts.{AreWritten, AreUnwritten}
use Rattle.pm3_access.proofs.HeldSheets.{get-left_images, get-found_images}
use Rattle.pm3_journal.specs.declared.entry.Entry.{Entry}
use Rattle.pm3_journal.specs.declared.entry.Receipt.{Receipt}
use Rattle.pm3_journal.specs.declared.faults.AppendFault.{AppendFault}
use Rattle.pm3_journal.specs.declared.faults.AppendFault.TheVariants.{Stopped, Full, JournalFault}
use Rattle.pm3_journal.specs.Entered.{record_of}
use Rattle.pm3_journal.specs.Format.{IsFit, JournalRecord}
use Rattle.pm3_journal.specs.JournalState.{JournalState, grown, halted}
use Rattle.pm3_journal.specs.Steps.{HasOneMore, HasMaybeOneMore}
use Rattle.pm3_history.specs.Entry.{Done}
use Rattle.pm3_history.specs.State.{now}
use Rattle.pm3_table.specs.declared.view.Told.{Told}
use Rattle.pm3_table.specs.declared.view.View.{View}
use Rattle.pm3_table.specs.Entries.{makes}
use Rattle.pm3_table.specs.Histories.{some_has}
use Rattle.pm3_table.specs.Holds.{holds_of, is_in}
use Rattle.pm3_table.specs.Names.{spare}
use Rattle.pm3_table.specs.Ops.{gave, turned}
use Rattle.pm3_table.specs.Words.{turn_unit}
use Rattle.pm3_txn.specs.declared.values.Turn.{Turn as Turns}
use Rattle.pm3_txn.specs.Committing.{AreFiled, AreWritable, HasFailed, HasGivenTurn, HasMadeRoom, HasRecorded, HasTurn, IsCommitFor, IsDoneOf, IsEndOf, IsEntryFor, IsEntryOf, IsParted, MayGive, done_by, end_of, failed_by}
use Rattle.pm3_txn.specs.DrawnLaws.{IsAlike}
use Rattle.pm3_txn.specs.Owners.{IsHolding}
use Rattle.pm3_txn.specs.Runs.{RunsAfter}
use Rattle.pm3_txn.specs.Slots.{turn_state}
use Rattle.pm3_txn.specs.States.{MutatorState}
use Rattle.pm3_txn.specs.Takes.{with_view}
use Rattle.pm3_txn.specs.Underway.{Belongs, IsUnder, IsUnderway}
use Rattle.pm3_txn.specs.Values.{IsTurnOf, WasStopped}
use Rattle.pm3_txn.proofs.CommitLaws.{may_fail, may_record, runs_whole, writable, writable_wide}
use Rattle.pm3_txn.proofs.NamesBelow.{names_none}
use Rattle.pm3_txn.proofs.OwnerDraws.{holdings_draw}
use Rattle.pm3_txn.proofs.Touched.{no_more}
use Rattle.pm3_txn.proofs.TurnTaken.{given_turn, has_room, may_keep}
use Rattle.pm3_txn.proofs.TurnValues.{entry_of, high_low, is_fit, none_lost, turn_grown, turn_halted}

pub sheet_of : (o : Option PageImage) (sheet : Sheet) → sheet_in o ≡ Some sheet → (image : PageImage) × (o ≡ Some image) × (image.sheet ≡ sheet)
sheet_of None sheet is = absurd (cc is)
sheet_of (Some image) sheet is = (image, refl, cc is)

pub same_image : (a b : PageImage) → a.page ≡ b.page → a.sheet ≡ b.sheet → a ≡ b
same_image a b page sheet = λ i. record { page = page i; sheet = sheet i }

-- where no commit came no name was used
pub still_spare : (n : ℕ) (xs : List ℕ) → is_in n xs ≡ true → is_in n (spare (some_has makes []) xs) ≡ true
still_spare n [] is = is
still_spare n (x ∷ xs) is = of (x == n) (still_spare n xs) is
  where
    of : (b : Bool) → (is_in n xs ≡ true → is_in n (spare (some_has makes []) xs) ≡ true) → (b || is_in n xs) ≡ true → (b || is_in n (spare (some_has makes []) xs)) ≡ true
    of true rest h = refl
    of false rest h = rest h

-- an append that was not refused for it was on a journal that isn't stopped
pub not_stopped : (result : Result Receipt AppendFault) (stopped : Option ℕ) → ((seq : ℕ) → (result ≡ Err (Stopped seq)) ↔ (stopped ≡ Some seq))
    → ((seq : ℕ) → result ≢ Err (Stopped seq)) → stopped ≡ None
not_stopped result None is other = refl
not_stopped result (Some n) is other = absurd (other n ((is n).1 refl))

module _ {D R : Type 0} (g : Ghosts D R) (content : R → Option (List ℕ)) (heap : TableId × Told) (m : MutatorState R) (turn : Turns D R) (h : Holding) (tag : ℕ) (p : Parted)
    (ready : HasTurn g content heap m (turn_state turn) h) (small : (heap.1.pages < 16385) × (3 ≤ heap.1.frontier)) (joined_is : joined p ≡ h) (rejoin : CanRejoin p)
    (written : AreWritten h.pages p.written.images) (others : AreUnwritten h.pages p.rest.pages.images) where
  abbrev told : Told
  told = heap.1

  abbrev v : View
  v = m.pass.1

  abbrev catalog : List Fields
  catalog = heap.1.opening.catalog

  pub parted : IsParted p
  parted = record {
    rejoin = rejoin;
    written = subst (λ (x : Holding). AreWritten x.pages p.written.images) (sym joined_is) written;
    others = subst (λ (x : Holding). AreUnwritten x.pages p.rest.pages.images) (sym joined_is) others;
  }

  here : HasTurn g content heap m (turn_state turn) (joined p)
  here = subst (HasTurn g content heap m (turn_state turn)) (sym joined_is) ready

  pub under : IsUnder told (gave v (turn_unit told.pages)) (joined p)
  under = here.under

  pub sound : (other : List Fields) → catalog ≡ other → AreWritable other 16384 p.written.images
  sound other same = subst (λ (c : List Fields). AreWritable c 16384 p.written.images) same (writable_wide g content heap m (turn_state turn) tag (record {
    tag = tag;
    next_name = 0;
    high_page = 0;
    pins = 0;
    moved = 0;
    pages = record { items = []; room = 0 };
  }) p here parted small)

  -- there was no memory
  module _ (made : Turns D R) (room : HasMadeRoom turn made) where
    has : HasTurn g content heap m (turn_state made) (joined p)
    has = subst (λ (t : Turns D R). HasTurn g content heap m (turn_state t) (joined p)) (sym room) (has_room g content heap m (turn_state turn) made.journal.room (joined p) here)

    pub keeps : MayGive g told v (turn_state made) [] []
    keeps = may_keep g content heap m (turn_state made) (joined p) has

    module _ (n : MutatorState R) (given : n ≡ with_view m (turned (turn_unit told.pages) v [] [] (g.faults made.journal.disk))) (kept : Belongs content heap n) where
      alike : IsAlike (gave v (turn_unit told.pages)) n.pass.1
      alike = record {
        seen = ap (λ (x : MutatorState R). x.pass.1.seen) given ∙ sym (no_more v.seen);
        holds = ap (λ (x : MutatorState R). x.pass.1.holds) given;
        steady = ap (λ (x : MutatorState R). x.pass.1.steady) given;
        names = λ k is. ap (λ (x : MutatorState R). is_in k x.pass.1.names) given ∙ still_spare k v.names is;
      }

      pub kept_underway : IsUnderway content (record { heap = heap; mutator = n; held = joined p; tag = tag })
      kept_underway = record {
        mutator = kept.mutator;
        known = λ q tagged. inl (kept.known q tagged);
        holding = subst (λ (k : ℕ). IsHolding told n.pass.1 k (joined p)) (sym (ap (λ (x : MutatorState R). x.space) given))
            (holdings_draw told (gave v (turn_unit told.pages)) n.pass.1 m.space (joined p) alike (ap (λ (x : MutatorState R). x.pass.1.spans) given) here.holding).1;
        named = names_none n.next_name (joined p) under.alone;
      }

      counted : n.pass.1.faults ≡ g.faults made.journal.disk
      counted = ap (λ (x : MutatorState R). x.pass.1.faults) given

      pub kept_given : HasGivenTurn m n [] [] n.pass.1.faults
      kept_given = subst (λ (k : ℕ). HasGivenTurn m n [] [] k) (sym counted) (given_turn m n (turn_unit told.pages) [] [] (g.faults made.journal.disk) given)

      pub kept_heard : v.faults ≤ n.pass.1.faults
      kept_heard = (let first = has.heard in let second = counted in omega (arith, first, second))

      pub kept_holds : (u : ℕ) → holds_of n.pass.1.holds u ≡ holds_of (gave v (turn_unit told.pages)).holds u
      kept_holds u = ap (λ (x : MutatorState R). holds_of x.pass.1.holds u) given

    -- the entry was made
    module _ (other : List Fields) (same : catalog ≡ other) (e : Entry) (is : IsEntryFor other tag (turn_state turn) p.written.images e) (filed_other : AreFiled other p.written.images) where
      entry : IsEntryFor catalog tag (turn_state made) p.written.images e
      entry = subst (λ (t : Turns D R). IsEntryFor catalog tag (turn_state t) p.written.images e) (sym room)
          (of (subst (λ (c : List Fields). IsEntryFor c tag (turn_state turn) p.written.images e) (sym same) is))
        where
          of : IsEntryFor catalog tag (turn_state turn) p.written.images e
              → IsEntryFor catalog tag (turn_state (record turn { journal = record turn.journal { room = made.journal.room } })) p.written.images e
          of x = record { tag_is = x.tag_is; name = x.name; top = x.top; none = x.none; pages = x.pages }

      filed : AreFiled catalog p.written.images
      filed = subst (λ (c : List Fields). AreFiled c p.written.images) (sym same) filed_other

      abbrev d : Done
      d = done_by v.row e p

      general : IsEntryOf catalog tag (turn_state made) p.written.images e
      general = entry_of catalog tag (turn_state made) p.written.images e has.good.bounds.1 entry

      done : IsDoneOf e p.written.images d
      done = record { tag = refl; next_name = refl; high_page = refl; written_is = refl; pins = sym entry.none.0; moved = sym entry.none.1 }

      abbrev r : JournalRecord
      r = record_of made.journal.next e

      writes : AreWritable catalog told.pages p.written.images
      writes = writable g content heap m (turn_state made) tag e p has parted small

      high : e.high_page ≤ told.pages
      high = high_low g told v.lost v.seen (turn_unit told.pages) tag (turn_state made) has.good small.0 e p.written.images general d done writes filed

      pub fit : made.journal.next < 2 ^ 64 → tag < 2 ^ 32 → IsFit made.journal.pages r
      fit due_low tag_low = is_fit g told v.lost v.seen (turn_unit told.pages) tag (turn_state made) has.good small.0 e p.written.images general d done writes filed due_low (let t = entry.tag_is in omega (arith, t, tag_low))

      -- it is a commit of what is held
      held_as : (q : ℕ) (image : PageImage) → get h.pages.left q ≡ Some image → image.page ≡ q
      held_as q image is = subst (λ (x : Holding). (image : PageImage) → get x.pages.left q ≡ Some image → image.page ≡ q) joined_is (λ image is. under.places.home q image (ap (λ (o : Option PageImage). option_or o (space_now (joined p).space q)) is)) image is

      found_as : (q : ℕ) (image : PageImage) → get h.pages.found q ≡ Some image → image.page ≡ q
      found_as q image is = subst (λ (x : Holding). (image : PageImage) → get x.pages.found q ≡ Some image → image.page ≡ q) joined_is (λ image is. (under.found q image is).home) image is

      alone : h.space ≡ None
      alone = subst (λ (x : Holding). x.space ≡ None) joined_is under.alone

      left_is : (q : ℕ) → get (left_images h) q ≡ sheet_in (get h.pages.left q)
      left_is q = get-left_images h q ∙ ap sheet_in (ap (λ (s : Option HeldSpaceState). option_or (get h.pages.left q) (space_now s q)) alone ∙ or_none (get h.pages.left q))
        where
          or_none : (o : Option PageImage) → option_or o None ≡ o
          or_none None = refl
          or_none (Some x) = refl

      found_is : (q : ℕ) → get (found_images h) q ≡ sheet_in (get h.pages.found q)
      found_is q = get-found_images h q ∙ ap (λ (s : Option HeldSpaceState). option_or (sheet_in (get h.pages.found q)) (get (space_found s) q)) alone
          ∙ ap (option_or (sheet_in (get h.pages.found q))) (get-empty nat_cmp q) ∙ or_none (sheet_in (get h.pages.found q))
        where
          or_none : (o : Option Sheet) → option_or o None ≡ o
          or_none None = refl
          or_none (Some x) = refl

      written_is : (q : ℕ) (sheet : Sheet) → (get d.written q ≡ Some sheet) ↔ ((get (left_images h) q ≡ Some sheet) × (get (found_images h) q ≢ Some sheet))
      written_is q sheet = (there, back)
        where
          there : get d.written q ≡ Some sheet → (get (left_images h) q ≡ Some sheet) × (get (found_images h) q ≢ Some sheet)
          there is =
              let from = sheet_of (get p.written.images q) sheet (sym (get-sheets_of p.written.images q) ∙ is) in
              let at = (written q from.0).0 from.1 in (
                left_is q ∙ ap sheet_in at.0 ∙ ap Some from.2,
                λ same. (let was = sheet_of (get h.pages.found q) sheet (sym (found_is q) ∙ same) in
                    at.1 (was.1 ∙ ap Some (same_image was.0 from.0 (found_as q was.0 was.1 ∙ sym (held_as q from.0 at.0)) (was.2 ∙ sym from.2)))),
              )

          back : (get (left_images h) q ≡ Some sheet) × (get (found_images h) q ≢ Some sheet) → get d.written q ≡ Some sheet
          back both =
              let from = sheet_of (get h.pages.left q) sheet (sym (left_is q) ∙ both.0) in
              get-sheets_of p.written.images q
              ∙ ap sheet_in ((written q from.0).1 (from.1, λ same. both.1 (found_is q ∙ ap sheet_in same ∙ ap Some from.2))) ∙ ap Some from.2

      has_key : (q : ℕ) → contains_key d.written q ≡ contains_key p.written.images q
      has_key q = ap is_some (get-sheets_of p.written.images q) ∙ of (get p.written.images q)
        where
          of : (o : Option PageImage) → is_some (sheet_in o) ≡ is_some o
          of None = refl
          of (Some x) = refl

      pub commit_for : IsCommitFor h tag v.row (turn_state turn) d
      commit_for = record {
        marks = (is.tag_is, refl, is.name);
        top = record {
          most = is.top.most;
          above = λ q key. is.top.above q (sym (has_key q) ∙ key);
          met = met is.top.met;
        };
        found = ap found_images joined_is;
        left = ap left_images joined_is;
        written = written_is;
        pass = refl;
      }
        where
          met : (e.high_page ≡ turn.high_page) ⊎ ((q : ℕ) × (contains_key p.written.images q ≡ true) × (e.high_page ≡ q + 1))
              → (e.high_page ≡ turn.high_page) ⊎ ((q : ℕ) × (contains_key d.written q ≡ true) × (e.high_page ≡ q + 1))
          met (inl same) = inl same
          met (inr (q, key, at)) = inr (q, has_key q ∙ key, at)

      -- the journal has it
      module _ (frame : FrameOfRuns) (journal : JournalState D) (whole : made.journal.stopped ≡ None) where
        lost_is : v.lost ≡ []
        lost_is = none_lost g told v.lost v.seen (turn_unit told.pages) tag (turn_state made) has.good small.0 e p.written.images general d done writes filed whole

        module _ (grows : journal ≡ grown r journal.disk made.journal) (added : Steps (HasOneMore r) (g.content made.journal.disk) (g.content journal.disk))
            (calm : g.faults journal.disk ≡ g.faults made.journal.disk) where
          pub records : MayGive g told v (record { journal = journal; next_name = e.next_name; high_page = e.high_page; file = made.file; opened = made.opened.value }) (d ∷ []) []
          records = record {
            good = subst (λ (l : List Done). IsTurnOf g told l (v.seen ++ d ∷ []) (turn_unit told.pages) (record { journal = journal; next_name = e.next_name; high_page = e.high_page; file = made.file; opened = made.opened.value })) (no_more v.lost)
                (subst (λ (j : JournalState D). IsTurnOf g told v.lost (v.seen ++ d ∷ []) (turn_unit told.pages) (record { journal = j; next_name = e.next_name; high_page = e.high_page; file = made.file; opened = made.opened.value })) (sym grows)
                (turn_grown g told v.lost v.seen (turn_unit told.pages) tag (turn_state made) has.good small.0 e p.written.images general d done writes filed journal.disk whole added calm));
            heard = (let first = has.heard in omega (arith, first, calm));
            may = may_record g content heap m (turn_state made) tag e p has parted small entry high frame lost_is;
          }

          pub recorded : (new : MutatorState R) (receipt : Receipt) → HasGivenTurn m new (d ∷ []) [] (g.faults journal.disk)
              → receipt ≡ record { seq = made.journal.next; pinned = e.pins; moved = e.moved } → HasRecorded told h tag (turn_state turn) m new receipt
          recorded new receipt given receipt_is = record {
            commit = d;
            is = commit_for;
            given = subst (λ (k : ℕ). HasGivenTurn m new (d ∷ []) [] k) (sym given.heard) given;
            heard = (let first = has.heard in let second = given.heard in omega (arith, first, second, calm));
            receipt_is = receipt_is ∙ (λ i. record { seq = (room i).journal.next; pinned = is.none.0 i; moved = is.none.1 i });
            run = λ st opens ops runs.
                subst (λ (l : List Done). IsRun catalog ops (now catalog BASE st v.seen).graph (now catalog BASE st l).graph) (sym given.seen)
                (runs_whole g content heap m (turn_state made) tag e p has parted small entry high frame st opens ops (subst (λ (x : Holding). RunsAfter told v x st ops) (sym joined_is) runs));
          }

      -- or the append was refused
      module _ (frame : FrameOfRuns) (journal : JournalState D) (result : Result Receipt AppendFault)
          (stopped : (seq : ℕ) → (result ≡ Err (Stopped seq)) ↔ (made.journal.stopped ≡ Some seq))
          (halts : result ≡ Err JournalFault → journal ≡ halted r journal.disk made.journal)
          (part : result ≡ Err JournalFault → Steps (HasMaybeOneMore r) (g.content made.journal.disk) (g.content journal.disk))
          (rose : result ≡ Err JournalFault → Rose (g.faults made.journal.disk) (g.faults journal.disk)) (up : g.faults made.journal.disk ≤ g.faults journal.disk) where
        same_journal : (fault : AppendFault) → result ≡ Err fault → (result ≡ Err JournalFault) ⊎ (journal ≡ made.journal) → fault ≢ JournalFault → journal ≡ made.journal
        same_journal fault at (inl failed) differs = absurd (differs (cc (sym at ∙ failed)))
        same_journal fault at (inr same) differs = same

        after_same : journal ≡ made.journal → MayGive g told v (record { journal = journal; next_name = made.next_name; high_page = made.high_page; file = made.file; opened = made.opened.value }) [] []
        after_same same_j = subst (λ (j : JournalState D). MayGive g told v (record { journal = j; next_name = made.next_name; high_page = made.high_page; file = made.file; opened = made.opened.value }) [] []) (sym same_j) keeps

        pub fails : (fault : AppendFault) → result ≡ Err fault → (result ≡ Err JournalFault) ⊎ (journal ≡ made.journal)
            → MayGive g told v (record { journal = journal; next_name = made.next_name; high_page = made.high_page; file = made.file; opened = made.opened.value }) [] (failed_by fault d)
        fails (Stopped seq) at refused = after_same (same_journal (Stopped seq) at refused (λ e. cc e))
        fails (Full limit) at refused = after_same (same_journal (Full limit) at refused (λ e. cc e))
        fails JournalFault at refused =
            let whole : made.journal.stopped ≡ None = not_stopped result made.journal.stopped stopped (λ seq is. none_same seq is) in
            record {
              good = subst (λ (l : List Done). IsTurnOf g told (v.lost ++ d ∷ []) l (turn_unit told.pages) (record { journal = journal; next_name = made.next_name; high_page = made.high_page; file = made.file; opened = made.opened.value })) (no_more v.seen)
                  (subst (λ (j : JournalState D). IsTurnOf g told (v.lost ++ d ∷ []) v.seen (turn_unit told.pages) (record { journal = j; next_name = made.next_name; high_page = made.high_page; file = made.file; opened = made.opened.value })) (sym (halts at))
                  (turn_halted g told v.lost v.seen (turn_unit told.pages) tag (turn_state made) has.good small.0 e p.written.images general d done writes filed journal.disk whole (part at) (rose at) up));
              heard = (let first = has.heard in omega (arith, first, up));
              may = may_fail g content heap m (turn_state made) tag e p has parted small entry high frame (lost_is frame journal whole);
            }
          where
            none_same : (seq : ℕ) → result ≡ Err (Stopped seq) → ⊥
            none_same seq e = cc (sym at ∙ e)

        pub end_is : (fault : AppendFault) → result ≡ Err fault → (result ≡ Err JournalFault) ⊎ (journal ≡ made.journal) → ((limit : ℕ) → result ≡ Err (Full limit) → limit ≡ 2 ^ 30)
            → (new : MutatorState R) → HasFailed m new (failed_by fault d) → new.pass.1.faults ≡ g.faults journal.disk → IsEndOf told h tag (turn_state turn) m new (end_of fault)
        end_is (Stopped seq) at refused full new failed counted = (
          failed,
          subst (λ (k : ℕ). WasStopped told seq turn.journal.next k) (ap (λ (j : JournalState D). g.faults j.disk) (sym (same_journal (Stopped seq) at refused (λ e. cc e))) ∙ sym counted)
              (subst (λ (t : Turns D R). WasStopped told seq t.journal.next (g.faults made.journal.disk)) room (has.good.stopped_at seq ((stopped seq).0 at))),
        )
        end_is (Full limit) at refused full new failed counted = (failed, refl, full limit at)
        end_is JournalFault at refused full new failed counted =
            (d, commit_for, failed, (let first = has.heard in let risen = rose at in omega (arith, first, risen, counted)))
