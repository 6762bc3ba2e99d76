-- The commit of what a transaction holds may join the history.
use Rattle.std.proofs.Common.{◌≡◌, ◌≢◌, ◌⊎◌, ◌<◌, ◌≤◌, ◌==◌, ◌||◌, ◌++◌, ◌∙◌, inl, inr, ℕ, Bool, true, false, nat_lt, List, [], ◌∷◌, Option, Some, None, is_some, refl, sym, ap, subst, arith}
use Rattle.std.proofs.lemmas.Bool.{cases_eq, false≢true, ne_eqb}
use Rattle.std.proofs.lemmas.Bool.Decides.{nat_tests}
use Rattle.std.specs.Option.{option_or}
use Rattle.std.specs.FinMap as images
use Rattle.std.specs.FinMap.{contains_key, get}
use Rattle.atomic_table.specs.Seated.{TableId}
use Rattle.pm3_core.specs.declared.naming.TheConstants.{BASE}
use Rattle.pm3_core.specs.Naming as core
use Rattle.pm3_disk.specs.declared.outside.Disk.{Ghosts}
use Rattle.pm3_types.specs.Layout.{PageImage}
use Rattle.pm3_types.specs.PageForm.{IsSound, is_memory_reference}
use Rattle.pm3_graph.specs.declared.operations.Op.{Op}
use Rattle.pm3_graph.specs.Frame.{FrameOfRuns}
use Rattle.pm3_graph.specs.Operation.{IsRun}
use Rattle.pm3_page.specs.PageSheets.{sheet_in, sheets_of}
use Rattle.pm3_page.proofs.SheetsOf.{get-sheets_of}
use Rattle.pm3_access.specs.declared.parted.Parted.{Parted}
use Rattle.pm3_access.specs.Holding.{Holding, image_in, space_now}
use Rattle.pm3_access.specs.Parting.{joined}
use Rattle.pm3_access.proofs.Moved.{get_both}
use Rattle.pm3_access.proofs.SoundingPages.{form_for_more, image_for_more}
use Rattle.pm3_journal.specs.declared.entry.Entry.{Entry}
use Rattle.pm3_history.specs.Entry.{Done}
use Rattle.pm3_history.specs.Lawful.{IsLawful}
use Rattle.pm3_history.specs.Opens.{Opens, LawfulFrom}
use Rattle.pm3_history.specs.State.{State, entry_after, now}
use Rattle.pm3_history.proofs.Histories.{lawful_join}
use Rattle.pm3_table.specs.declared.view.Told.{Told}
use Rattle.pm3_table.specs.declared.view.View.{View}
use Rattle.pm3_table.specs.Entries.{images_refer, writes}
use Rattle.pm3_table.specs.Histories.{some_has}
use Rattle.pm3_table.specs.Holds.{holds_of, is_in}
use Rattle.pm3_table.specs.Ops.{gave}
use Rattle.pm3_table.specs.Telling.{Lawful, MayJoin, is_steady, knows_used, names, names_page}
use Rattle.pm3_table.specs.Words.{turn_unit}
use Rattle.pm3_table.proofs.Known.{used_steady}
use Rattle.pm3_table.proofs.Put.{put_else}
use Rattle.pm3_txn.specs.Committing.{AreWritable, HasTurn, IsEntryFor, IsParted, done_by}
use Rattle.pm3_txn.specs.Knowing.{is_in_use}
use Rattle.pm3_txn.specs.Runs.{RunsAfter}
use Rattle.pm3_txn.specs.States.{MutatorState}
use Rattle.pm3_txn.specs.TransactionLaws.{HasMarks, IsPlainlyDone}
use Rattle.pm3_txn.specs.Underway.{IsUnder}
use Rattle.pm3_txn.specs.Values.{TurnState}
use Rattle.pm3_txn.proofs.Entering.{transactions_commit}
use Rattle.pm3_txn.proofs.Referred.{refers_used, word_page}
use Rattle.pm3_txn.proofs.Seeing.{now_later, page_use, settled_now, use_form}
use Rattle.pm3_txn.proofs.Touched.{no_more}

or_false : (a b : Bool) → a ≡ false → b ≡ false → (a || b) ≡ false
or_false a b one two = ap (λ (x : Bool). x || b) one ∙ two

or_left : (a b : Bool) → a ≡ true → (a || b) ≡ true
or_left a b is = ap (λ (x : Bool). x || b) is

steady_or : (low kept written : Bool) → (low ≡ true) ⊎ (written ≡ true) → (low || (kept || written)) ≡ true
steady_or true kept written is = refl
steady_or false true written is = refl
steady_or false false written (inl low) = absurd (false≢true low)
steady_or false false written (inr is) = is

-- a persistent page is known to be one
pub persistent_steady : (told : Told) (v : View) (p : ℕ) → (p < told.frontier) ⊎ (some_has writes v.seen p ≡ true) → is_steady told v p ≡ true
persistent_steady told v p (inl low) = steady_or (nat_lt p told.frontier) (is_in p v.steady) (some_has writes v.seen p) (inl (grind (arith, nat_tests, low)))
persistent_steady told v p (inr has) = steady_or (nat_lt p told.frontier) (is_in p v.steady) (some_has writes v.seen p) (inr has)

module _ {D R : Type 0} (g : Ghosts D R) (content : R → Option (List ℕ)) (heap : TableId × Told) (m : MutatorState R) (turn : TurnState D R) (tag : ℕ) (e : Entry) (p : Parted)
    (has : HasTurn g content heap m turn (joined p)) (parted : IsParted p) (small : (heap.1.pages < 16385) × (3 ≤ heap.1.frontier)) where
  abbrev h : Holding
  h = joined p

  abbrev told : Told
  told = heap.1

  abbrev v : View
  v = m.pass.1

  abbrev under : IsUnder heap.1 (gave m.pass.1 (turn_unit heap.1.pages)) (joined p)
  under = has.under

  abbrev d : Done
  d = done_by m.pass.1.row e p

  alone_in : (q : ℕ) (image : PageImage) → images.get h.pages.left q ≡ Some image → image_in h q ≡ Some image
  alone_in q image is = ap (λ (o : Option PageImage). option_or o (space_now h.space q)) is

  -- what was written is held, and has its form
  pub writable : AreWritable told.opening.catalog told.pages p.written.images
  writable q image is =
      let left = ((parted.written q image).0 is).0 in
      let there = alone_in q image left in
      let home = under.places.home q image there in
      let low = (under.persistent q (ap is_some there)).low in
      (home, low.0, low.1, sound_at q image there)
    where
      sound_at : (q : ℕ) (image : PageImage) → image_in h q ≡ Some image → IsSound told.opening.catalog BASE told.pages image
      sound_at q image there = form_for_more told.opening.catalog (is_in_use told v.seen) (is_memory_reference BASE told.pages) (use_form told v.seen) image.page image.sheet (under.form q image there)

  pub writable_wide : AreWritable told.opening.catalog 16384 p.written.images
  writable_wide q image is =
      let w = writable q image is in
      (w.0, w.1, (let low = w.2 in let few = small.0 in omega (arith, low, few)), image_for_more told.opening.catalog BASE told.pages 16384 image (let few = small.0 in omega (arith, few)) w.3)

  -- the entry is a commit of what is held
  others : (q : ℕ) (image : PageImage) → images.get h.pages.left q ≡ Some image → (images.get h.pages.found q ≡ Some image) ⊎ (images.get p.written.images q ≡ Some image)
  others q image is = of (images.get p.written.images q) refl
    where
      both_is : option_or (images.get p.written.images q) (images.get p.rest.pages.images q) ≡ Some image
      both_is = sym (get_both p.rest.pages.images p.written.images q) ∙ is

      of : (o : Option PageImage) → images.get p.written.images q ≡ o → (images.get h.pages.found q ≡ Some image) ⊎ (images.get p.written.images q ≡ Some image)
      of None none = inl ((parted.others q image).0 (sym (ap (λ (o : Option PageImage). option_or o (images.get p.rest.pages.images q)) none) ∙ both_is)).1
      of (Some x) there = inr (there ∙ sym (ap (λ (o : Option PageImage). option_or o (images.get p.rest.pages.images q)) there) ∙ both_is)

  plainly : IsPlainlyDone h p.written.images d
  plainly = record {
    changed = λ q image is. ((parted.written q image).0 is).0;
    others = others;
    found = refl;
    left = refl;
    written_is = refl;
    pass = refl;
  }

  module _ (entry : IsEntryFor told.opening.catalog tag turn p.written.images e) (high : e.high_page ≤ told.pages) where
    marks : (st : State) → Opens BASE told.pages told.opening st → HasMarks told.pages (now told.opening.catalog BASE st v.seen) d
    marks st opens =
        let at = has.good.marks st opens in let name = entry.name in let least = entry.top.most in let low = has.good.bounds.2 in
        let n = at.0 in let q = at.1 in record {
          names_rise = omega (arith, name, n);
          pages_rise = omega (arith, least, q);
          most = high;
          least = omega (arith, least, low);
        }

    both : FrameOfRuns → (st : State) (opens : Opens BASE told.pages told.opening st) (done : List (Op × ℕ)) → RunsAfter told v h st done
        → IsLawful told.opening.catalog BASE told.pages (now told.opening.catalog BASE st v.seen) (entry_after told.opening.catalog BASE (now told.opening.catalog BASE st v.seen) d)
        × IsRun told.opening.catalog done (now told.opening.catalog BASE st v.seen).graph (now told.opening.catalog BASE (now told.opening.catalog BASE st v.seen) (d ∷ [])).graph
    both frame st opens done runs =
        let at = has.good.marks st opens in let top = has.good.bounds.3 in let q = at.1 in
        transactions_commit frame told.opening.catalog told.pages (now told.opening.catalog BASE st v.seen) h p.written.images done d (settled_now told v.seen st has.belongs.mutator.lawful opens)
        (omega (arith, q, top)) runs plainly (marks st opens)

    -- so the history stays lawful with it
    pub lawful_more : FrameOfRuns → Lawful told (v.seen ++ d ∷ [])
    unfolding LawfulFrom
    lawful_more frame st opens =
        let was = under.runs st opens in
        lawful_join told.opening.catalog BASE told.pages st v.seen (d ∷ []) (has.belongs.mutator.lawful st opens, ((both frame st opens was.0 was.1).0, tt))

    -- and the operations lead from the graph before it to the graph after it
    pub runs_whole : FrameOfRuns → (st : State) → Opens BASE told.pages told.opening st → (done : List (Op × ℕ)) → RunsAfter told v h st done
        → IsRun told.opening.catalog done (now told.opening.catalog BASE st v.seen).graph (now told.opening.catalog BASE st (v.seen ++ d ∷ [])).graph
    runs_whole frame st opens done runs =
        subst (λ (s : State). IsRun told.opening.catalog done (now told.opening.catalog BASE st v.seen).graph s.graph) (sym (now_later told v.seen (d ∷ []) st)) (both frame st opens done runs).1

    -- no unit that is not held is named
    unnamed : (u : ℕ) → holds_of v.holds u ≡ false → some_has (names told) (d ∷ []) u ≡ false
    unnamed u none =
        or_false (names told d u) false
        (or_false (u == turn_unit told.pages) (contains_key d.written u || false) not_turn
        (or_false (contains_key d.written u) false (not_written (images.get p.written.images u) refl) refl)) refl
      where
        other : u ≢ turn_unit told.pages
        other e' = false≢true (sym none ∙ ap (holds_of v.holds) e' ∙ has.holds)

        not_turn : (u == turn_unit told.pages) ≡ false
        not_turn = ne_eqb u (turn_unit told.pages) other

        not_written : (o : Option PageImage) → images.get p.written.images u ≡ o → contains_key d.written u ≡ false
        not_written None is = ap is_some (get-sheets_of p.written.images u ∙ ap sheet_in is)
        not_written (Some image) is =
            let there = alone_in u image ((parted.written u image).0 is).0 in
            absurd (false≢true (sym none ∙ sym (put_else (holds_of v.holds) (turn_unit told.pages) false u other) ∙ (under.units u (ap is_some there)).0))

    -- each page that it names is in use
    used : (q : ℕ) → some_has (names_page told) (d ∷ []) q ≡ true → knows_used told v q ≡ true
    used q is = used_steady told v q (persistent_steady told v q (page_used q (first_of is)))
      where
        first_of : (((images_refer told.opening.catalog d.written q || false) || false) ≡ true) → images_refer told.opening.catalog d.written q ≡ true
        first_of e' = of (images_refer told.opening.catalog d.written q) e'
          where
            of : (b : Bool) → ((b || false) || false) ≡ true → b ≡ true
            of true x = refl
            of false x = x

        page_used : (q : ℕ) → images_refer told.opening.catalog (sheets_of p.written.images) q ≡ true → (q < told.frontier) ⊎ (some_has writes v.seen q ≡ true)
        page_used = refers_used told.opening.catalog told.pages (is_in_use told v.seen) p.written.images (λ n. (n < told.frontier) ⊎ (some_has writes v.seen n ≡ true)) small.0
            (λ x image there. (let w = writable x image there in (w.0, w.2, under.form x image (alone_in x image ((parted.written x image).0 there).0))))
            writable
            (λ x image there. (under.persistent x (ap is_some (alone_in x image ((parted.written x image).0 there).0))).used)
            (λ word passes. in_use word passes)
          where
            in_use : (word : ℕ) → is_in_use told v.seen word ≡ true → (core.page_in word < told.frontier) ⊎ (some_has writes v.seen (core.page_in word) ≡ true)
            in_use word passes = elim (cases_eq word 0) [
              | inl nil ↦ inl (let none : core.page_in word ≡ 0 = ap core.page_in nil in let least = small.1 in omega (arith, none, least))
              | inr other ↦ subst (λ (n : ℕ). (n < told.frontier) ⊎ (some_has writes v.seen n ≡ true)) (sym (word_page word)) (page_use told v.seen word other passes)
            ]

    -- it may join, where none failed
    pub may_record : FrameOfRuns → v.lost ≡ [] → MayJoin told v (d ∷ []) []
    may_record frame none = record {
      lawful = lawful_more frame;
      lawful_lost = subst (λ (l : List Done). Lawful told ((v.seen ++ d ∷ []) ++ l)) (sym (ap (λ (l : List Done). l ++ []) none))
          (subst (Lawful told) (no_more (v.seen ++ d ∷ [])) (lawful_more frame));
      single = (inl none, inr refl);
      own = (refl, tt);
      held = unnamed;
      drawn = λ n is. absurd (false≢true is);
      used = used;
      cleared = λ q is. absurd (false≢true is);
      kept = λ j q is. absurd (false≢true is);
      read = (tt, tt);
    }

    -- or be kept as failed
    pub may_fail : FrameOfRuns → v.lost ≡ [] → MayJoin told v [] (d ∷ [])
    may_fail frame none = record {
      lawful = subst (Lawful told) (no_more v.seen) has.belongs.mutator.lawful;
      lawful_lost = subst (λ (l : List Done). Lawful told (l ++ (v.lost ++ d ∷ []))) (no_more v.seen)
          (subst (λ (l : List Done). Lawful told (v.seen ++ l)) (sym (ap (λ (l : List Done). l ++ d ∷ []) none)) (lawful_more frame));
      single = (inl none, inl none);
      own = (refl, tt);
      held = λ u free. refl;
      drawn = λ n is. absurd (false≢true is);
      used = λ q is. absurd (false≢true is);
      cleared = λ q is. absurd (false≢true is);
      kept = λ j q is. absurd (false≢true is);
      read = tt;
    }
