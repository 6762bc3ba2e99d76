-- The commit of a transaction that holds its space, from the turn on.
use Rattle.std.proofs.Common.{◌≡◌, ◌≢◌, ◌⊎◌, ◌+◌, ◌++◌, ◌∙◌, inl, inr, ℕ, true, List, [], ◌∷◌, Option, Some, None, is_some, refl, sym, ap, subst, arith}
use Rattle.std.proofs.lemmas.Bool.{false≢true}
use Rattle.std.specs.Option.{option_map, option_or}
use Rattle.std.specs.FinMap.{contains_key, get}
use Rattle.std.specs.FinSet as set
use Rattle.atomic_table.specs.Seated.{TableId}
use Rattle.pm3_core.specs.declared.naming.TheConstants.{BASE}
use Rattle.pm3_disk.specs.declared.outside.Disk.{Ghosts}
use Rattle.pm3_types.specs.Fields.{Fields}
use Rattle.pm3_types.specs.Layout.{PageImage, Sheet}
use Rattle.pm3_graph.specs.declared.operations.Op.{Op}
use Rattle.pm3_graph.specs.Frame.{FrameOfRuns}
use Rattle.pm3_graph.specs.Operation.{IsRun}
use Rattle.pm3_page.specs.PageMap.{Images, PageMap}
use Rattle.pm3_page.specs.PageSheets.{sheet_in, sheets_of}
use Rattle.pm3_page.proofs.SheetsOf.{get-sheets_of}
use Rattle.pm3_access.specs.declared.parted.Parted.{Parted}
use Rattle.pm3_access.specs.Acts.{found_images, left_images, space_left}
use Rattle.pm3_access.specs.Holding.{HeldImages, HeldSpaceState, Holding, space_now as space_at, with_free}
use Rattle.pm3_access.specs.Parting.{CanRejoin, joined}
use Rattle.pm3_access.specs.Parts.{AreUnwritten, AreWritten, SpaceRest, both, with_images}
use Rattle.pm3_history.specs.Entry.{Done}
use Rattle.pm3_history.specs.Opens.{Opens}
use Rattle.pm3_history.specs.State.{State, now}
use Rattle.pm3_history.proofs.Chronicles.{openings_are_chronicled}
use Rattle.pm3_history.proofs.Committing.{commits_run}
use Rattle.pm3_history.proofs.Laying.{one_value}
use Rattle.pm3_journal.specs.declared.entry.Entry.{Entry}
use Rattle.pm3_journal.specs.declared.entry.Receipt.{Receipt}
use Rattle.pm3_table.specs.declared.view.Told.{Told}
use Rattle.pm3_table.specs.declared.view.View.{View}
use Rattle.pm3_table.specs.Deeds.{stands_of, word_of}
use Rattle.pm3_table.specs.Holds.{holds_of}
use Rattle.pm3_table.specs.Ops.{gave, turned}
use Rattle.pm3_table.specs.Telling.{Lawful}
use Rattle.pm3_table.specs.Words.{turn_unit}
use Rattle.pm3_txn.specs.declared.commit_fault.CommitFault.{CommitFault}
use Rattle.pm3_txn.specs.declared.commit_fault.CommitFault.TheVariants.{Refused, Ended}
use Rattle.pm3_txn.specs.declared.commit_fault.CommitRefusal.{CommitRefusal}
use Rattle.pm3_txn.specs.declared.commit_fault.CommitRefusal.TheVariants.{Busy, Full, Memory, Later}
use Rattle.pm3_txn.specs.declared.prepared.Prepared.{Prepared}
use Rattle.pm3_txn.specs.declared.values.Turn.{Turn as Turns}
use Rattle.pm3_txn.specs.CarriedPass.{Carried, parts_of, pass_by}
use Rattle.pm3_txn.specs.CommitParts.{HasMoreFree, HasOnlyPassed, IsPassOver}
use Rattle.pm3_txn.specs.Committing.{HasMadeRoom, IsParted, MayGive}
use Rattle.pm3_txn.specs.DrawnLaws.{IsAlike}
use Rattle.pm3_txn.specs.Knowing.{state_seen}
use Rattle.pm3_txn.specs.PassCommits.{PassesFollow, done_with, pass_of}
use Rattle.pm3_txn.specs.PassEnding.{IsPassCommit}
use Rattle.pm3_txn.specs.PassSteps.{HasMoreRoom, IsPassing, IsPassRefusal, IsSameButFree, IsUnprepared, set_aside}
use Rattle.pm3_txn.specs.Slots.{turn_state}
use Rattle.pm3_txn.specs.SpaceCommits.{HasAppended, HasCommittedSpace, HasGoneOn, HasTurnValue, IsAppendFault, IsSpaceCommit, IsSpaceEnd, MayAppend, carried_of, commit_of, moves_planned, rest_in}
use Rattle.pm3_txn.specs.States.{MutatorState}
use Rattle.pm3_txn.specs.Takes.{with_view}
use Rattle.pm3_txn.specs.Underway.{IsUnderway}
use Rattle.pm3_txn.specs.Values.{IsTurnOf, TurnState}
use Rattle.pm3_txn.specs.Works.{Works}
use Rattle.pm3_txn.proofs.CommitWith.{same_image, sheet_of, still_spare}
use Rattle.pm3_txn.proofs.Keeping.{keeps_same, row_kept}
use Rattle.pm3_txn.proofs.OwnerDraws.{holdings_draw}
use Rattle.pm3_txn.proofs.PassAppends.{may_give_none}
use Rattle.pm3_txn.proofs.PassCommitted.{commit_same}
use Rattle.pm3_txn.proofs.PassCarried.{has_sheet, pass, passed}
use Rattle.pm3_txn.proofs.PassDraws.{some_rest}
use Rattle.pm3_txn.proofs.PassPlanned.{parts_back}
use Rattle.pm3_txn.proofs.Seeing.{settled_now}
use Rattle.pm3_txn.proofs.Touched.{no_more}
use Rattle.pm3_txn.proofs.TurnTaken.{room_turn}
use Rattle.pm3_txn.proofs.WorksDraw.{works_free}

-- parts with more room are parts of what is held with more free pages
module _ (a b : Parted) (more : HasMoreRoom a b) where
  joined_now : joined b ≡ record { pages = (joined a).pages; space = option_map (with_images a.volatile.images) b.rest.space }
  joined_now = λ i. record {
    pages = record { left = both (more.pages i).images (more.written i); found = more.found i };
    space = option_map (with_images (more.volatile i)) b.rest.space;
  }

  space_now : (o n : Option SpaceRest) → IsSameButFree o n
      → option_map (with_images a.volatile.images) n ≡ option_map (λ s. with_free s (rest_in n).free (rest_in n).room) (option_map (with_images a.volatile.images) o)
  space_now None None is = refl
  space_now None (Some t) is = absurd is
  space_now (Some s) None is = absurd is
  space_now (Some s) (Some t) is = ap (λ (u : SpaceRest). Some (with_images a.volatile.images u)) is.0

  pub more_free : HasMoreFree (joined a) (joined b)
  more_free = record {
    free = (rest_in b.rest.space).free;
    room = (rest_in b.rest.space).room;
    rest = joined_now ∙ (λ i. record { pages = (joined a).pages; space = space_now a.rest.space b.rest.space more.space i });
    more = λ s on. of a.rest.space b.rest.space more.space s on;
  }
    where
      of : (o n : Option SpaceRest) → IsSameButFree o n → (s : HeldSpaceState) → option_map (with_images a.volatile.images) o ≡ Some s
          → (p : ℕ) → set.contains s.free p ≡ true → set.contains (rest_in n).free p ≡ true
      of None n is s on p free = absurd (cc on)
      of (Some x) None is s on p free = absurd is
      of (Some x) (Some t) is s on p free = is.1 p (ap (λ (u : HeldSpaceState). set.contains u.free p) (one_value (Some (with_images a.volatile.images x)) (with_images a.volatile.images x) s refl on) ∙ free)

-- the images are as they were
module _ (h g : Holding) (is : HasMoreFree h g) where
  same_pages : g.pages ≡ h.pages
  same_pages = ap (λ (k : Holding). k.pages) is.rest

  pub same_left : space_left g.space ≡ space_left h.space
  same_left = ap (λ (k : Holding). space_left k.space) is.rest ∙ of h.space
    where
      of : (o : Option HeldSpaceState) → space_left (option_map (λ s. with_free s is.free is.room) o) ≡ space_left o
      of None = refl
      of (Some s) = refl

  pub same_commit : {D R : Type 0} (tag : ℕ) (turn : TurnState D R) (m : MutatorState R) (d : Done) → IsSpaceCommit g tag turn m d → IsSpaceCommit h tag turn m d
  same_commit tag turn m d commit = record {
    marks = commit.marks;
    top = commit.top;
    found = commit.found ∙ ap found_images is.rest ∙ found_of h.space;
    left = commit.left ∙ ap left_images is.rest ∙ left_of h.space;
    pass = (
      commit.pass.0,
      commit.pass.1,
      record {
        space = commit.pass.2.space;
        before = commit.pass.2.before ∙ same_left;
        changed = λ page sheet. (
          λ on. (let was = (commit.pass.2.changed page sheet).0 on in
              (ap (λ k. get (sheets_of k.left) page) (sym same_pages) ∙ was.0, λ same. was.1 (ap (λ k. get (sheets_of k.found) page) same_pages ∙ same))),
          λ both_are. (commit.pass.2.changed page sheet).1 (ap (λ k. get (sheets_of k.left) page) same_pages ∙ both_are.0, λ same. both_are.1 (ap (λ k. get (sheets_of k.found) page) (sym same_pages) ∙ same)),
        );
      },
    );
  }
    where
      found_of : (o : Option HeldSpaceState) → found_images (record { pages = h.pages; space = option_map (λ s. with_free s is.free is.room) o }) ≡ found_images (record { pages = h.pages; space = o })
      found_of None = refl
      found_of (Some s) = refl

      left_of : (o : Option HeldSpaceState) → left_images (record { pages = h.pages; space = option_map (λ s. with_free s is.free is.room) o }) ≡ left_images (record { pages = h.pages; space = o })
      left_of None = refl
      left_of (Some s) = refl

  -- and so is what the transaction has done
  pub same_works : (catalog : List Fields) (pages : ℕ) (st : State) (ops : List (Op × ℕ)) → Works catalog pages st h ops → Works catalog pages st g ops
  same_works catalog pages st ops works = subst (λ (k : Holding). Works catalog pages st k ops) (sym is.rest) (works_free catalog pages st h ops (λ t. is.free) (λ t. is.room) works)

-- the operations of the commit of a pass lead from the graph before it to the one after it
module _ (follow : PassesFollow) (frame : FrameOfRuns) {R : Type 0} (content : R → Option (List ℕ)) (heap : TableId × Told) (m : MutatorState R) (c : Carried) (d : Done) (is : IsPassCommit content heap m c d) where
  abbrev alone : View
  alone = (set_aside heap.1 m is.has.ready.log).pass.1

  pub commit_runs : (st : State) → Opens BASE heap.1.pages heap.1.opening st → (ops : List (Op × ℕ)) → Works heap.1.opening.catalog heap.1.pages (state_seen heap.1 m.pass.1 st) (joined (parts_of c)) ops
      → IsRun heap.1.opening.catalog ops (now heap.1.opening.catalog BASE st m.pass.1.seen).graph (now heap.1.opening.catalog BASE st (m.pass.1.seen ++ d ∷ [])).graph
  unfolding Rattle.pm3_history.specs.Opens.LawfulFrom
  commit_runs st opens ops works = subst (λ (e : Done). IsRun heap.1.opening.catalog ops (now heap.1.opening.catalog BASE st m.pass.1.seen).graph (now heap.1.opening.catalog BASE st (m.pass.1.seen ++ e ∷ [])).graph)
      (sym (commit_same content heap m c d is))
      (commits_run frame heap.1.opening.catalog BASE heap.1.pages st m.pass.1.seen (done_with is.marks (joined (parts_of c)) (pass heap.1 alone m.space m.next_name m.pass.1.log c is.has.carried)) ops
      (openings_are_chronicled BASE heap.1.pages heap.1.opening st opens) (is.has.carried.lawful st opens)
      (follow heap.1.opening.catalog heap.1.pages (state_seen heap.1 alone st) (joined (parts_of c)) ops is.marks (pass heap.1 alone m.space m.next_name m.pass.1.log c is.has.carried)
      (settled_now heap.1 alone.seen st is.has.carried.lawful opens) works
      (passed heap.1 alone m.space m.next_name m.pass.1.log c is.has.carried is.marks is.marks_are.low st opens (is.marks_are.rise st opens) is.marks_are.high is.marks_are.most)).0)

-- the commit is one of what was held
module _ {D R : Type 0} (content : R → Option (List ℕ)) (heap : TableId × Told) (m : MutatorState R) (p : Parted) (x : Prepared) (ready : IsPassing content heap m (joined p)) (parted : IsParted p)
    (left : Parted) (e : Entry) (tag : ℕ) (turn : TurnState D R) (may : MayAppend heap.1 m.next_name tag turn left e (commit_of heap.1 m p x left e)) where
  abbrev d : Done
  d = commit_of heap.1 m p x left e

  parts_same : parts_of (carried_of p x m.pass.1.log left) ≡ p
  parts_same = parts_back p x m.pass.1.log left (some_rest p.volatile.images p.rest.space ready.space)

  held_home : (q : ℕ) (image : PageImage) → get (joined p).pages.left q ≡ Some image → image.page ≡ q
  held_home q image is = ready.underway.holding.places.home q image (ap (λ (o : Option PageImage). option_or o (space_at (joined p).space q)) is)

  found_home : (q : ℕ) (image : PageImage) → get (joined p).pages.found q ≡ Some image → image.page ≡ q
  found_home q image is = (ready.underway.holding.found q image is).home

  pub commit_over : IsPassOver (joined p) m.space (pass_of (joined p) (pass_by m.space m.next_name m.pass.1.names (carried_of p x m.pass.1.log left) (moves_planned heap.1.opening.catalog p x)))
  commit_over = record { space = refl; before = refl; changed = λ page sheet. (there page sheet, back page sheet) }
    where
      there : (q : ℕ) (sheet : Sheet) → get (sheets_of p.written.images) q ≡ Some sheet → (get (sheets_of (joined p).pages.left) q ≡ Some sheet) × (get (sheets_of (joined p).pages.found) q ≢ Some sheet)
      there q sheet is =
          let from = sheet_of (get p.written.images q) sheet (sym (get-sheets_of p.written.images q) ∙ is) in
          let at = (parted.written q from.0).0 from.1 in (
            get-sheets_of (joined p).pages.left q ∙ ap sheet_in at.0 ∙ ap Some from.2,
            λ same. (let was = sheet_of (get (joined p).pages.found q) sheet (sym (get-sheets_of (joined p).pages.found q) ∙ same) in
                at.1 (was.1 ∙ ap Some (same_image was.0 from.0 (found_home q was.0 was.1 ∙ sym (held_home q from.0 at.0)) (was.2 ∙ sym from.2)))),
          )

      back : (q : ℕ) (sheet : Sheet) → (get (sheets_of (joined p).pages.left) q ≡ Some sheet) × (get (sheets_of (joined p).pages.found) q ≢ Some sheet) → get (sheets_of p.written.images) q ≡ Some sheet
      back q sheet both_are =
          let from = sheet_of (get (joined p).pages.left q) sheet (sym (get-sheets_of (joined p).pages.left q) ∙ both_are.0) in
          get-sheets_of p.written.images q
          ∙ ap sheet_in ((parted.written q from.0).1 (from.1, λ same. both_are.1 (get-sheets_of (joined p).pages.found q ∙ ap sheet_in same ∙ ap Some from.2))) ∙ ap Some from.2

  pub space_commit : IsSpaceCommit (joined p) tag turn m d
  space_commit = record {
    marks = (may.entry.tag_is, refl, may.name);
    top = record {
      most = may.entry.top.most;
      above = λ q key. may.entry.top.above q (sym (has_sheet left.written.images q) ∙ key);
      met = met may.entry.top.met;
    };
    found = ap (λ (q : Parted). found_images (joined q)) parts_same;
    left = ap (λ (q : Parted). left_images (joined q)) parts_same;
    pass = (
      pass_of (joined p) (pass_by m.space m.next_name m.pass.1.names (carried_of p x m.pass.1.log left) (moves_planned heap.1.opening.catalog p x)),
      ap (λ (q : Parted). Some (pass_of (joined q) (pass_by m.space m.next_name m.pass.1.names (carried_of p x m.pass.1.log left) (moves_planned heap.1.opening.catalog p x)))) parts_same,
      commit_over,
    );
  }
    where
      met : (e.high_page ≡ turn.high_page) ⊎ ((q : ℕ) × (contains_key left.written.images q ≡ true) × (e.high_page ≡ q + 1))
          → (e.high_page ≡ turn.high_page) ⊎ ((q : ℕ) × (contains_key (sheets_of left.written.images) q ≡ true) × (e.high_page ≡ q + 1))
      met (inl same) = inl same
      met (inr (q, key, at)) = inr (q, has_sheet left.written.images q ∙ key, at)

  -- and once it has joined the history it is committed
  pub committed : FrameOfRuns → PassesFollow → IsPassCommit content heap m (carried_of p x m.pass.1.log left) d → (new : MutatorState R) (receipt : Receipt) → HasAppended turn m new d receipt
      → HasCommittedSpace heap.1 (joined p) tag turn m new receipt
  committed frame follow is new receipt appended = record {
    commit = d;
    is = space_commit;
    appended = appended;
    run = λ st opens ops works.
        subst (λ (l : List Done). IsRun heap.1.opening.catalog ops (now heap.1.opening.catalog BASE st m.pass.1.seen).graph (now heap.1.opening.catalog BASE st l).graph) (sym appended.given.seen)
        (commit_runs follow frame content heap m (carried_of p x m.pass.1.log left) d is st opens ops
        (subst (λ (q : Parted). Works heap.1.opening.catalog heap.1.pages (state_seen heap.1 m.pass.1 st) (joined q) ops) (sym parts_same) works));
  }

-- the room of the journal is nothing to the value of the turn
pub value_room : {D R : Type 0} (g : Ghosts D R) (content : R → Option (List ℕ)) (heap : TableId × Told) (v w : View) (turn made : Turns D R) → HasMadeRoom turn made → w.seen ≡ v.seen → w.lost ≡ v.lost → w.faults ≡ v.faults
    → HasTurnValue g heap.1 v (turn_state turn) → HasTurnValue g heap.1 w (turn_state made)
value_room {D} {R} g content heap v w turn made room seen lost faults value = subst (λ (t : Turns D R). HasTurnValue g heap.1 w (turn_state t)) (sym room) (record {
  good = subst (λ (l : List Done). IsTurnOf g heap.1 l w.seen (turn_unit heap.1.pages) then) (sym lost)
      (subst (λ (l : List Done). IsTurnOf g heap.1 v.lost l (turn_unit heap.1.pages) then) (sym seen) (room_turn g content heap (turn_unit heap.1.pages) v.lost v.seen (turn_state turn) made.journal.room value.good));
  heard = faults ∙ value.heard;
  lawful_lost = subst (λ (l : List Done). Lawful heap.1 (w.seen ++ l)) (sym lost) (subst (λ (l : List Done). Lawful heap.1 (l ++ v.lost)) (sym seen) value.lawful_lost);
})
  where
    then : TurnState D R
    then = turn_state (record turn { journal = record turn.journal { room = made.journal.room } })

-- the refusal of a pass
module _ {D R : Type 0} (g : Ghosts D R) (content : R → Option (List ℕ)) (heap : TableId × Told) (m n : MutatorState R) (p q : Parted) (cause : CommitRefusal) (turn made : Turns D R)
    (value : HasTurnValue g heap.1 m.pass.1 (turn_state turn)) (room : HasMadeRoom turn made) (is : IsUnprepared content heap m n p q cause) where
  abbrev told : Told
  told = heap.1

  kept_seen : n.pass.1.seen ≡ m.pass.1.seen
  kept_seen = ap (λ (x : MutatorState R). x.pass.1.seen) is.kept.rest

  kept_faults : n.pass.1.faults ≡ m.pass.1.faults
  kept_faults = ap (λ (x : MutatorState R). x.pass.1.faults) is.kept.rest

  pub may_give_back : MayGive g told n.pass.1 (turn_state made) [] []
  may_give_back = may_give_none g told n.pass.1 (turn_state made)
      (value_room g content heap m.pass.1 n.pass.1 turn made room kept_seen (ap (λ (x : MutatorState R). x.pass.1.lost) is.kept.rest) kept_faults value)
      is.ready.underway.mutator.lawful

  module _ (last : MutatorState R) (given : last ≡ with_view n (turned (turn_unit told.pages) n.pass.1 [] [] (g.faults made.journal.disk))) (tag : ℕ) where
    back : View
    back = turned (turn_unit told.pages) n.pass.1 [] [] (g.faults made.journal.disk)

    aside : View
    aside = (set_aside told n is.ready.log).pass.1

    alike : IsAlike aside back
    unfolding aside back
    alike = record { seen = sym (no_more n.pass.1.seen); holds = refl; steady = refl; names = λ k there. still_spare k n.pass.1.names there }

    -- the transaction goes on
    pub gone_underway : IsUnderway content (record { heap = heap; mutator = last; held = joined q; tag = tag })
    unfolding aside back
    gone_underway = subst (λ (x : MutatorState R). IsUnderway content (record { heap = heap; mutator = x; held = joined q; tag = tag })) (sym given) (record {
      mutator = record {
        of = was.mutator.of;
        unmarked = is.bare;
        lawful = subst (Lawful told) (no_more n.pass.1.seen) was.mutator.lawful;
        reads = was.mutator.reads;
        tags = was.mutator.tags;
        space = was.mutator.space;
      };
      known = row_kept told aside back (joined q) (joined q) (keeps_same told aside back (joined q) alike.seen) n.refs n.wrote (λ k. sym (is.ready.words k)) was.known;
      holding = (holdings_draw told aside back n.space (joined q) alike refl was.holding).1;
      named = was.named;
    })
      where
        was : IsUnderway content (record { heap = heap; mutator = set_aside told n is.ready.log; held = joined q; tag = 0 })
        was = is.ready.underway

    -- the mutator once its row was kept
    abbrev kept_row : MutatorState R
    kept_row = with_view m (record m.pass.1 {
      log = n.pass.1.log;
      spans = n.pass.1.spans;
      pages = n.pass.1.pages;
      drawing = n.pass.1.drawing;
      filled = n.pass.1.filled;
      drew_pages = n.pass.1.drew_pages;
    })

    as_kept : last ≡ with_view kept_row (turned (turn_unit told.pages) kept_row.pass.1 [] [] (g.faults made.journal.disk))
    as_kept = given ∙ ap (λ (x : MutatorState R). with_view x (turned (turn_unit told.pages) x.pass.1 [] [] (g.faults made.journal.disk))) is.kept.rest

    row_is : HasOnlyPassed m last
    row_is = record {
      rest = as_kept ∙ ap (λ (x : MutatorState R). with_view m (record m.pass.1 {
        log = x.pass.1.log;
        holds = x.pass.1.holds;
        spans = x.pass.1.spans;
        steady = x.pass.1.steady;
        pages = x.pass.1.pages;
        drawing = x.pass.1.drawing;
        filled = x.pass.1.filled;
        drew_pages = x.pass.1.drew_pages;
        seen = x.pass.1.seen;
        faults = x.pass.1.faults;
        lost = x.pass.1.lost;
        names = x.pass.1.names;
        mine = x.pass.1.mine;
        failed = x.pass.1.failed;
      })) (sym as_kept);
      words = λ k. ap (λ (x : MutatorState R). word_of x.pass.1.log k) given ∙ is.kept.words k;
      stands = λ k. ap (λ (x : MutatorState R). stands_of x.pass.1.log k) given ∙ is.kept.stands k;
    }

    counted : last.pass.1.faults ≡ g.faults made.journal.disk
    counted = ap (λ (x : MutatorState R). x.pass.1.faults) given

    pub gone_on : HasGoneOn heap (joined p) tag m (record { heap = heap; mutator = last; held = joined q; tag = tag })
    gone_on = record {
      rest = refl;
      given = record {
        rest = row_is;
        seen = ap (λ (x : MutatorState R). x.pass.1.seen) given ∙ ap (λ (l : List Done). l ++ []) kept_seen;
        mine = ap (λ (x : MutatorState R). x.pass.1.mine) given ∙ ap (λ (x : MutatorState R). x.pass.1.mine ++ []) is.kept.rest;
        failed_are = ap (λ (x : MutatorState R). x.pass.1.failed) given ∙ ap (λ (x : MutatorState R). x.pass.1.failed ++ []) is.kept.rest;
        heard = refl;
      };
      heard = (let first = value.heard in let disk : g.faults made.journal.disk ≡ g.faults turn.journal.disk = ap (λ (t : Turns D R). g.faults t.journal.disk) room in let last_heard = counted in omega (arith, first, disk, last_heard));
      holds = λ u. ap (λ (x : MutatorState R). holds_of x.pass.1.holds u) given ∙ ap (λ (x : MutatorState R). holds_of (gave x.pass.1 (turn_unit told.pages)).holds u) is.kept.rest;
      held = more_free p q is.parts;
    }

    pub refusal_is : IsPassRefusal told m last (contains_key (space_left (joined p).space)) cause
    refusal_is = of cause is.why
      where
        filled_is : last.pass.1.filled ≡ n.pass.1.filled
        filled_is = ap (λ (x : MutatorState R). x.pass.1.filled) given

        there : (k : ℕ) → contains_key p.volatile.images k ≡ true → contains_key (space_left (joined p).space) k ≡ true
        there k on = by p.rest.space q.rest.space is.parts.space (some_rest q.volatile.images q.rest.space is.ready.space)
          where
            by : (o t : Option SpaceRest) → IsSameButFree o t → is_some t ≡ true → contains_key (space_left (option_map (with_images p.volatile.images) o)) k ≡ true
            by None None same none = absurd (false≢true none)
            by None (Some t) same none = absurd same
            by (Some s) t same some = has_sheet p.volatile.images k ∙ on

        of : (cause : CommitRefusal) → IsPassRefusal told m n (contains_key p.volatile.images) cause → IsPassRefusal told m last (contains_key (space_left (joined p).space)) cause
        of (Busy unit word) why = absurd why
        of (Full what limit) why = (why.0, why.1, filled_is ∙ why.2)
        of Memory why = filled_is ∙ why
        of Later why = (filled_is ∙ why.0, (why.1.0, why.1.1, why.1.2, there why.1.1 why.1.3, why.1.4))

-- the end of one whose append was refused
pub ended_space : {D R : Type 0} (content : R → Option (List ℕ)) (heap : TableId × Told) (h : Holding) (tag : ℕ) (turn : TurnState D R) (m : MutatorState R) (d : Done) (fault : CommitFault D R)
    → IsSpaceCommit h tag turn m d → IsAppendFault content heap turn m d fault → IsSpaceEnd content heap h tag turn m fault
ended_space content heap h tag turn m d (Refused cause txn) is fault = fault
ended_space content heap h tag turn m d (Ended cause mutator) is (over, bare, belongs) = ((d, is, over), bare, belongs)

-- what holds of parts and of what was prepared holds of their equals
pub along : (P : Parted → Prepared → Type 0) (p q : Parted) (x y : Prepared) → (q ≡ p) × (y ≡ x) → P p x → P q y
along P p q x y same is = subst (λ (a : Parted). P a y) (sym same.0) (subst (P p) (sym same.1) is)

pub along_back : (P : Parted → Prepared → Type 0) (p q : Parted) (x y : Prepared) → (q ≡ p) × (y ≡ x) → P q y → P p x
along_back P p q x y same is = subst (P p) same.1 (subst (λ (a : Parted). P a y) same.0 is)

-- the parts of a holding, as it is parted
pub parted_by : (h : Holding) (p : Parted) → joined p ≡ h → CanRejoin p → AreWritten h.pages p.written.images → AreUnwritten h.pages p.rest.pages.images → IsParted p
parted_by h p same rejoin written others = record {
  rejoin = rejoin;
  written = subst (λ (x : Holding). AreWritten x.pages p.written.images) (sym same) written;
  others = subst (λ (x : Holding). AreUnwritten x.pages p.rest.pages.images) (sym same) others;
}

-- parts with more room are those of a holding still
pub more_parted : (a b : Parted) → HasMoreRoom a b → IsParted a → IsParted b
more_parted a b more is = record {
  rejoin = more.rejoin is.rejoin;
  written = subst (λ (w : Images). AreWritten (joined b).pages w) (sym more.written) (subst (λ (x : HeldImages). AreWritten x a.written.images) (sym pages) is.written);
  others = subst (λ (w : PageMap). AreUnwritten (joined b).pages w.images) (sym more.pages) (subst (λ (x : HeldImages). AreUnwritten x a.rest.pages.images) (sym pages) is.others);
}
  where
    pages : (joined b).pages ≡ (joined a).pages
    pages = λ i. record { left = both (more.pages i).images (more.written i); found = more.found i }
