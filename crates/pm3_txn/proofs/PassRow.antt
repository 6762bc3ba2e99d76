-- What the row of a mutator refers to after the commit of its pass.
use Rattle.std.proofs.Common.{◌≡◌, ◌<◌, ◌≤◌, ◌||◌, ◌&&◌, ◌++◌, ◌∙◌, ◌⊎◌, inl, inr, ℕ, Bool, true, false, List, [], ◌∷◌, Option, Some, None, is_some, refl, sym, ap, arith}
use Rattle.std.proofs.lemmas.Bool.{and_parts, cond-false}
use Rattle.std.specs.FinMap as map_of
use Rattle.std.specs.FinMap.{get, contains_key}
use Rattle.std.specs.FinSet as set
use Rattle.pm3_core.specs.declared.naming.TheConstants.{BASE}
use Rattle.pm3_core.specs.Naming as core
use Rattle.pm3_core.specs.Naming.{Names}
use Rattle.pm3_types.specs.Layout.{PageImage, page_in}
use Rattle.pm3_types.specs.PageForm.{is_memory_reference}
use Rattle.pm3_types.specs.PassMoves.{moved_by}
use Rattle.pm3_types.specs.PassSets.{IsDead}
use Rattle.pm3_types.specs.Shown.{Images as Sheets}
use Rattle.pm3_graph.specs.declared.operations.Op.{Op}
use Rattle.pm3_page.specs.PageSheets.{sheets_of}
use Rattle.pm3_copy.specs.PassLaws.{OthersAreQuiet, PinnedIsQuiet}
use Rattle.pm3_access.specs.Holding.{Holding}
use Rattle.pm3_access.specs.Parting.{joined}
use Rattle.pm3_history.specs.Entry.{Done}
use Rattle.pm3_history.specs.Laid.{without}
use Rattle.pm3_history.specs.Named.{book_of}
use Rattle.pm3_history.specs.Opens.{Opens}
use Rattle.pm3_history.specs.Persistent.{persistent_book}
use Rattle.pm3_history.specs.State.{State, now, owned_by}
use Rattle.pm3_history.proofs.Laying.{laid_below, none_if, off_keeps, some_none, some_of, there_none, without_cases}
use Rattle.pm3_history.proofs.OwnedBy.{get-owned_by}
use Rattle.pm3_table.specs.declared.view.Deed.{Deed}
use Rattle.pm3_table.specs.declared.view.Told.{Told}
use Rattle.pm3_table.specs.declared.view.View.{View}
use Rattle.pm3_table.specs.Telling.{Lawful}
use Rattle.pm3_txn.specs.CarriedPass.{Carried, IsCarriedBy, parts_of}
use Rattle.pm3_txn.specs.Knowing.{KnowsWord, is_in_use, state_seen}
use Rattle.pm3_txn.specs.Owners.{KnowsHere, KnowsPlace}
use Rattle.pm3_txn.specs.PassCommits.{HasPassed, Marks, before_pass, done_with}
use Rattle.pm3_txn.specs.TransactionLaws.{IsSettled}
use Rattle.pm3_txn.specs.Works.{Works, is_own_start, left_book}
use Rattle.pm3_txn.proofs.Keeping.{off_known}
use Rattle.pm3_txn.proofs.OwnBooks.{with_cases}
use Rattle.pm3_txn.proofs.PassAfter.{own_after}
use Rattle.pm3_txn.proofs.PassCarried.{has_sheet, own_low, pass, passed}
use Rattle.pm3_txn.proofs.PassGiven.{on_written}
use Rattle.pm3_txn.proofs.Referred.{word_page}
use Rattle.pm3_txn.proofs.Seeing.{now_later, settled_now, use_form, word_later}

either : (a b : Bool) → (a || b) ≡ true → (a ≡ true) ⊎ (b ≡ true)
either true b is = inl refl
either false b is = inr is

fails : (b : Bool) → (b ≡ true → ⊥) → b ≡ false
fails true never = absurd (never refl)
fails false never = refl

-- an address names its page
names_by : (pages word page : ℕ) → core.page_in word ≡ page → 3 ≤ page → page < pages → Names pages word page
names_by pages word page at least low = (low, omega (arith, at, least), omega (arith, at, least))

module _ (others : OthersAreQuiet) (quiet : PinnedIsQuiet) (told : Told) (v : View) (number next : ℕ) (log : List Deed) (c : Carried) (has : IsCarriedBy told v number next log c)
    (marks : Marks) (low : next ≤ marks.next_name) (rise : (st : State) → Opens BASE told.pages told.opening st → ((state_seen told v st).next_name ≤ marks.next_name) × ((state_seen told v st).high_page ≤ marks.high_page))
    (high : (q : ℕ) → contains_key c.written_now q ≡ true → q < marks.high_page) (most : marks.high_page ≤ told.pages) where
  abbrev h : Holding
  h = joined (parts_of c)

  abbrev d : Done
  d = done_with marks h (pass told v number next log c has)

  abbrev space : Sheets
  space = sheets_of c.volatile.images

  -- an object of a pinned page that turned persistent is a persistent one then, under its name
  own_object : (st : State) → Opens BASE told.pages told.opening st → (a n : ℕ) → set.contains c.pins (page_in BASE a) ≡ true → contains_key c.written_now (page_in BASE a) ≡ true
      → get (book_of BASE space) a ≡ Some n → get (persistent_book BASE (now told.opening.catalog BASE st (v.seen ++ d ∷ []))) a ≡ Some n
  own_object st opens a n pinned turned mine =
      ap (λ (s : State). get (persistent_book BASE s) a) (now_later told v.seen (d ∷ []) st)
      ∙ off_keeps BASE after.book after.owner a unowned
      ∙ ap (get after.book) (sym stays.0)
      ∙ own_after others told.opening.catalog told.pages then settled h works.0 works.1 marks (pass told v number next log c has) passes a n mine stays.1
    where
      then : State
      then = state_seen told v st

      after : State
      after = now told.opening.catalog BASE (state_seen told v st) (d ∷ [])

      settled : IsSettled told.opening.catalog then
      settled = settled_now told v.seen st has.lawful opens

      works : (ops : List (Op × ℕ)) × Works told.opening.catalog told.pages then h ops
      works = has.holding.works st opens

      passes : HasPassed told.opening.catalog told.pages then h marks (pass told v number next log c has)
      passes = passed told v number next log c has marks low st opens (rise st opens) high most

      -- it stays where it is
      stays : (moved_by passes.carried.moves a ≡ a) × (IsDead told.opening.catalog BASE (before_pass h (pass told v number next log c has)) a → ⊥)
      stays = quiet told.opening.catalog BASE (before_pass h (pass told v number next log c has)) (map_of.keys c.fresh) passes.carried.moves passes.carried.are (page_in BASE a) pinned a refl

      off : contains_key (sheets_of c.space_now) (page_in BASE a) ≡ false
      off = fails (contains_key (sheets_of c.space_now) (page_in BASE a)) (λ on. there_none (get c.written_now (page_in BASE a)) turned (has.apart (page_in BASE a) (sym (has_sheet c.space_now (page_in BASE a)) ∙ on)))

      there : is_some (get space (page_in BASE a)) ≡ true
      there = has_sheet c.volatile.images (page_in BASE a) ∙ ((has.scanned.pinned (page_in BASE a)).0 pinned).0

      -- on a page that no space has
      unowned : get after.owner (page_in BASE a) ≡ None
      unowned = laid_below (without then.owner space) (owned_by number (sheets_of c.space_now)) (page_in BASE a)
          (get-owned_by number (sheets_of c.space_now) (page_in BASE a) ∙ cond-false (contains_key (sheets_of c.space_now) (page_in BASE a)) (Some number) None off)
          ∙ none_if (get (without then.owner space) (page_in BASE a)) (λ x on. there_none (get space (page_in BASE a)) there (without_cases then.owner space (page_in BASE a) x on).0)

  -- a word of the row that was known is known then, where each page of the space that such a word names was pinned and turned persistent
  module _ (w : View) (seen : w.seen ≡ v.seen ++ d ∷ []) (lawful : Lawful told w.seen) where
    pub known_row : (wrote : Bool) (a : ℕ) → KnowsPlace told v h wrote a
        → ((page : ℕ) → contains_key c.volatile.images page ≡ true → Names told.pages a page → (set.contains c.pins page ≡ true) × (contains_key c.written_now page ≡ true)) → KnowsWord told w a
    known_row wrote a (inl word) turns = word_later told v w (d ∷ []) a seen lawful word
    known_row wrote a (inr own) turns = of (get c.volatile.images (page_in BASE a)) refl
      where
        here : KnowsHere told v h a
        here = own.1

        form : is_memory_reference BASE told.pages a ≡ true
        form = by (either (is_in_use told v.seen a) (is_memory_reference BASE told.pages a && is_own_start h a) here.usable)
          where
            by : (is_in_use told v.seen a ≡ true) ⊎ ((is_memory_reference BASE told.pages a && is_own_start h a) ≡ true) → is_memory_reference BASE told.pages a ≡ true
            by (inl used) = use_form told v.seen a used
            by (inr mine) = (and_parts (is_memory_reference BASE told.pages a) (is_own_start h a) mine).0

        named : contains_key c.volatile.images (page_in BASE a) ≡ true → Names told.pages a (page_in BASE a)
        named on = (let at = own_low told v number next log c has (page_in BASE a) (ap (λ (b : Bool). b || set.contains c.space.free (page_in BASE a)) on) in names_by told.pages a (page_in BASE a) (word_page a) at.0 at.1)

        of : (o : Option PageImage) → get c.volatile.images (page_in BASE a) ≡ o → KnowsWord told w a
        of None off = word_later told v w (d ∷ []) a seen lawful (inr (off_known told v h a off here))
        of (Some image) on = inr (record {
          usable = ap (λ (l : List Done). is_in_use told l a) seen ∙ on_written others told v number next log c has marks a form (has_sheet c.written_now (page_in BASE a) ∙ turned.1);
          object = λ st opens. ap (λ (l : List Done). is_some (get (persistent_book BASE (now told.opening.catalog BASE st l)) a)) seen
              ∙ (let n = some_of (get (left_book (state_seen told v st) h) a) (here.object st opens) in ap is_some (own_object st opens a n.0 turned.0 turned.1 (mine st opens n.0 (with_cases (state_seen told v st) space a n.0 n.1))));
        })
          where
            turned : (set.contains c.pins (page_in BASE a) ≡ true) × (contains_key c.written_now (page_in BASE a) ≡ true)
            turned = turns (page_in BASE a) (ap is_some on) (named (ap is_some on))

            mine : (st : State) → Opens BASE told.pages told.opening st → (n : ℕ)
                → (get (book_of BASE space) a ≡ Some n) ⊎ ((get (book_of BASE space) a ≡ None) × (get (persistent_book BASE (state_seen told v st)) a ≡ Some n)) → get (book_of BASE space) a ≡ Some n
            mine st opens n (inl is) = is
            mine st opens n (inr old) = absurd (some_none (get c.volatile.images (page_in BASE a)) image on ((has.holding.works st opens).1.apart a n old.1))
