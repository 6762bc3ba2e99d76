-- A pass whose append was refused: its marks are taken off, the turn goes back, and all is as it was found.
use Rattle.std.proofs.Common.{◌≡◌, ◌≤◌, ◌<◌, ◌||◌, ◌&&◌, ◌∙◌, ℕ, Bool, true, false, not, List, [], Option, Some, None, length, slice_index_or, refl, sym, ap, subst, arith}
use Rattle.std.proofs.lemmas.Bool.{and_parts, false≢true}
use Rattle.std.specs.FinMap.{contains_key}
use Rattle.std.specs.FinSet as set
use Rattle.std.specs.FinSet.{contains-empty}
use Rattle.std.specs.Ordering.{nat_cmp}
use Rattle.atomic_table.specs.Seated.{TableId}
use Rattle.pm3_page.specs.PageMap.{Images}
use Rattle.pm3_access.specs.declared.parted.Parted.{Parted}
use Rattle.pm3_access.specs.FreeList.{Numbers}
use Rattle.pm3_access.specs.Holding.{Holding, IsUndone, SpaceState}
use Rattle.pm3_access.specs.Parting.{joined}
use Rattle.pm3_access.specs.Parts.{RestState, SpaceRest, with_images}
use Rattle.pm3_history.specs.Entry.{Done}
use Rattle.pm3_table.specs.declared.view.Deed.{Deed}
use Rattle.pm3_table.specs.declared.view.Told.{Told}
use Rattle.pm3_table.specs.declared.view.View.{View}
use Rattle.pm3_table.specs.Deeds.{marks_of, stands_of, word_of}
use Rattle.pm3_table.specs.Holds.{holds_of, is_in}
use Rattle.pm3_table.specs.Ops.{turned}
use Rattle.pm3_table.specs.Telling.{HasInSpace, Lawful}
use Rattle.pm3_table.specs.Words.{space_unit, turn_unit}
use Rattle.pm3_txn.specs.Aborting.{AreAll, AreOwed, HasCleared, IsSpaceOwed, RemembersUnwritten, was_written}
use Rattle.pm3_txn.specs.CarriedPass.{Carried, parts_of}
use Rattle.pm3_txn.specs.CommitParts.{HasOnlyPassed}
use Rattle.pm3_txn.specs.DrawnLaws.{IsAlike}
use Rattle.pm3_txn.specs.Knowing.{KnowsWord}
use Rattle.pm3_txn.specs.Owners.{IsHolding}
use Rattle.pm3_txn.specs.PassEnding.{HasCarried, HasFailedPass, HasGivenPass, HasLeft}
use Rattle.pm3_txn.specs.PassEnds.{is_other}
use Rattle.pm3_txn.specs.PassSteps.{set_aside}
use Rattle.pm3_txn.specs.Pinning.{HasOnlyLogged}
use Rattle.pm3_txn.specs.States.{MutatorState}
use Rattle.pm3_txn.specs.Takes.{with_view}
use Rattle.pm3_txn.specs.Underway.{IsMutatorOf}
use Rattle.pm3_txn.proofs.CommitWith.{still_spare}
use Rattle.pm3_txn.proofs.PassDraws.{still_held}
use Rattle.pm3_txn.proofs.Cleared.{found_all, found_owed, space_owed, unwritten_known}
use Rattle.pm3_txn.proofs.OwnerDraws.{holdings_draw}
use Rattle.pm3_txn.proofs.PassCarried.{own_low, spans}
use Rattle.pm3_txn.proofs.Recalling.{same_word}
use Rattle.pm3_txn.proofs.Touched.{no_more}

or_first : (a b : Bool) → a ≡ true → (a || b) ≡ true
or_first a b is = ap (λ (x : Bool). x || b) is

-- a page of a set is one but for those of an empty one
none_other : (pages but : Numbers) (q : ℕ) → but ≡ set.empty → is_other pages but q ≡ set.contains pages q
none_other pages but q none = ap (λ (b : Numbers). set.contains pages q && not (set.contains b q)) none
    ∙ ap (λ (b : Bool). set.contains pages q && not b) (contains-empty nat_cmp q) ∙ same (set.contains pages q)
  where
    same : (b : Bool) → (b && true) ≡ b
    same true = refl
    same false = refl

-- the marks of those that are free, and then those of the pinned ones, are all
both_off : (b p : Bool) → (p ≡ true → b ≡ true) → ((b && not (b && not p)) && not p) ≡ false
both_off true true has = refl
both_off true false has = refl
both_off false p has = refl

-- a space undone reads nothing of its images as they are now
undone_so : (a b : Images) (s : SpaceRest) (o : Option SpaceState) → IsUndone (Some (with_images a s)) o → IsUndone (Some (with_images b s)) o
undone_so a b s None is = is
undone_so a b s (Some t) is = is

module _ {R : Type 0} (content : R → Option (List ℕ)) (heap : TableId × Told) (m : MutatorState R) (c : Carried) (parted : Parted) (pins promoted freed : Numbers)
    (has : HasCarried content heap m c) (left : HasLeft c parted pins promoted freed) where
  abbrev told : Told
  told = heap.1

  abbrev aside : MutatorState R
  aside = set_aside told m has.ready.log

  abbrev h : Holding
  h = joined (parts_of c)

  of_heap : m.pass.0 ≡ heap.0
  of_heap = has.ready.underway.mutator.of

  -- the pages of the space are its own, and marked
  own_page : (q : ℕ) → contains_key c.volatile.images q ≡ true → (q < told.pages) × HasInSpace told m.pass.1 m.space q
  own_page q there =
      let on = or_first (contains_key c.volatile.images q) (set.contains c.space.free q) there in (
        (own_low told aside.pass.1 m.space m.next_name m.pass.1.log c has.carried q on).1,
        (
          has.ready.underway.mutator.space,
          still_held m.pass.1 (turn_unit told.pages) (space_unit told.pages m.space) (ap (λ (n : ℕ). holds_of aside.pass.1.holds (space_unit told.pages n)) (sym has.carried.holding.space.0) ∙ has.carried.holding.space.1.unit),
          spans told aside.pass.1 m.space m.next_name m.pass.1.log c has.carried q ∙ on,
        ),
      )

  marked : (q : ℕ) → marks_of m.pass.1.log q ≡ contains_key c.volatile.images q
  marked q = has.carried.scanned.marks q

  freed_there : (q : ℕ) → set.contains freed q ≡ true → (contains_key c.volatile.images q ≡ true) × (not (set.contains c.pins q) ≡ true)
  freed_there q is = and_parts (contains_key c.volatile.images q) (not (set.contains c.pins q)) (sym (left.freed_are q) ∙ is)

  pinned_there : (q : ℕ) → set.contains c.pins q ≡ true → contains_key c.volatile.images q ≡ true
  pinned_there q is = ((has.carried.scanned.pinned q).0 is).0

  in_pins : (q : ℕ) → set.contains pins q ≡ set.contains c.pins q
  in_pins q = ap (λ (s : Numbers). set.contains s q) left.pins_are

  module _ (none : Numbers) (empty : none ≡ set.empty) where
    pub freed_own : (q : ℕ) → is_other freed none q ≡ true → (q < told.pages) × HasInSpace told m.pass.1 m.space q
    freed_own q is = own_page q (freed_there q (sym (none_other freed none q empty) ∙ is)).0

    pub freed_marked : (q : ℕ) → is_other freed none q ≡ true → marks_of m.pass.1.log q ≡ true
    freed_marked q is = marked q ∙ (freed_there q (sym (none_other freed none q empty) ∙ is)).0

    -- once the marks of the freed pages are off
    module _ (mid : MutatorState R) (only : HasOnlyLogged m mid) (marks : (q : ℕ) → marks_of mid.pass.1.log q ≡ (marks_of m.pass.1.log q && not (is_other freed none q))) where
      marks_then : (q : ℕ) → marks_of mid.pass.1.log q ≡ (contains_key c.volatile.images q && not (contains_key c.volatile.images q && not (set.contains c.pins q)))
      marks_then q = marks q ∙ ap (λ (b : Bool). b && not (is_other freed none q)) (marked q)
          ∙ ap (λ (b : Bool). contains_key c.volatile.images q && not b) (none_other freed none q empty ∙ left.freed_are q)

      pinned_of : (q : ℕ) → is_other pins none q ≡ true → set.contains c.pins q ≡ true
      pinned_of q is = sym (in_pins q) ∙ sym (none_other pins none q empty) ∙ is

      pub pins_own : (q : ℕ) → is_other pins none q ≡ true → (q < told.pages) × HasInSpace told mid.pass.1 mid.space q
      pins_own q is = subst (λ (x : MutatorState R). (q < told.pages) × HasInSpace told x.pass.1 x.space q) (sym only.rest) (own_page q (pinned_there q (pinned_of q is)))

      pub pins_marked : (q : ℕ) → is_other pins none q ≡ true → marks_of mid.pass.1.log q ≡ true
      pins_marked q is = marks_then q ∙ on (contains_key c.volatile.images q) (set.contains c.pins q) (pinned_there q (pinned_of q is)) (pinned_of q is)
        where
          on : (b p : Bool) → b ≡ true → p ≡ true → (b && not (b && not p)) ≡ true
          on true true there pinned = refl
          on true false there pinned = absurd (false≢true pinned)
          on false p there pinned = absurd (false≢true there)

      -- and those of the pinned ones
      module _ (k : MutatorState R) (only_too : HasOnlyLogged mid k) (marks_too : (q : ℕ) → marks_of k.pass.1.log q ≡ (marks_of mid.pass.1.log q && not (is_other pins none q))) where
        bare : (q : ℕ) → marks_of k.pass.1.log q ≡ false
        bare q = marks_too q ∙ ap (λ (b : Bool). b && not (is_other pins none q)) (marks_then q)
            ∙ ap (λ (b : Bool). (contains_key c.volatile.images q && not (contains_key c.volatile.images q && not (set.contains c.pins q))) && not b) (none_other pins none q empty ∙ in_pins q)
            ∙ both_off (contains_key c.volatile.images q) (set.contains c.pins q) (pinned_there q)

        logged : HasOnlyLogged m k
        logged = record {
          rest = only_too.rest ∙ ap (λ (x : MutatorState R). with_view x (record x.pass.1 { log = k.pass.1.log })) only.rest;
          words = λ q. only_too.words q ∙ only.words q;
          stands = λ q. only_too.stands q ∙ only.stands q;
        }

        -- Nothing is marked, and nothing else but the log is another. Then the turn went back.
        module _ (n : MutatorState R) (failed : List Done) (faults : ℕ) (given : n ≡ with_view k (turned (turn_unit told.pages) k.pass.1 [] failed faults)) where
          abbrev then : View
          then = turned (turn_unit told.pages) (record m.pass.1 { log = k.pass.1.log }) [] failed faults

          gone : n ≡ with_view m then
          gone = given ∙ ap (λ (x : MutatorState R). with_view x (turned (turn_unit told.pages) x.pass.1 [] failed faults)) logged.rest

          seen : n.pass.1.seen ≡ m.pass.1.seen
          seen = ap (λ (x : MutatorState R). x.pass.1.seen) gone ∙ sym (no_more m.pass.1.seen)

          log_is : n.pass.1.log ≡ k.pass.1.log
          log_is = ap (λ (x : MutatorState R). x.pass.1.log) gone

          words : (q : ℕ) → word_of n.pass.1.log q ≡ word_of m.pass.1.log q
          words q = ap (λ (l : List Deed). word_of l q) log_is ∙ logged.words q

          stands : (q : ℕ) → stands_of n.pass.1.log q ≡ stands_of m.pass.1.log q
          stands q = ap (λ (l : List Deed). stands_of l q) log_is ∙ logged.stands q

          pub mutator : IsMutatorOf content heap n
          mutator = record {
            of = ap (λ (x : MutatorState R). x.pass.0) gone ∙ of_heap;
            unmarked = λ p. ap (λ (l : List Deed). marks_of l p) log_is ∙ bare p;
            lawful = subst (Lawful told) (sym seen) has.ready.underway.mutator.lawful;
            reads = ap (λ (x : MutatorState R). content x.reader) gone ∙ has.ready.underway.mutator.reads;
            tags = subst (λ (x : MutatorState R). (length x.refs ≡ 512) × (length x.wrote ≡ 512)) (sym gone) has.ready.underway.mutator.tags;
            space = subst (λ (x : MutatorState R). x.space < 32) (sym gone) has.ready.underway.mutator.space;
          }

          pub known : RemembersUnwritten told n
          known q tagged none =
              let was : KnowsWord told aside.pass.1 (word_of has.ready.log q) = unwritten_known content (record { heap = heap; mutator = aside; held = h; tag = 0 }) has.ready.underway q
              (sym (ap (λ (x : MutatorState R). slice_index_or x.refs q false) gone) ∙ tagged)
              (sym (ap (λ (x : MutatorState R). was_written x q) gone) ∙ none) in
              subst (KnowsWord told n.pass.1) (has.ready.words q ∙ sym (words q)) (same_word told aside.pass.1 n.pass.1 (word_of has.ready.log q) seen was)

          alike : IsAlike aside.pass.1 n.pass.1
          alike = record {
            seen = seen;
            holds = ap (λ (x : MutatorState R). x.pass.1.holds) gone;
            steady = ap (λ (x : MutatorState R). x.pass.1.steady) gone;
            names = λ j is. ap (λ (x : MutatorState R). is_in j x.pass.1.names) gone ∙ still_spare j m.pass.1.names is;
          }

          holding : IsHolding told n.pass.1 n.space h
          holding = subst (λ (j : ℕ). IsHolding told n.pass.1 j h) (sym (ap (λ (x : MutatorState R). x.space) gone))
              (holdings_draw told aside.pass.1 n.pass.1 m.space h alike (ap (λ (x : MutatorState R). x.pass.1.spans) gone) has.carried.holding).1

          -- what the parts are undone to is owed, and is all that is held
          module _ (images : Images) (space : Option SpaceState) (are : images ≡ parted.rest.found) (undone : IsUndone (joined parted).space space) where
            found_are : images ≡ h.pages.found
            found_are = are ∙ ap (λ (r : RestState). r.found) left.rest

            undone_here : IsUndone h.space space
            undone_here = undone_so parted.volatile.images c.volatile.images c.space space
                (subst (λ (r : RestState). IsUndone (joined (record parted { rest = r })).space space) left.rest undone)

            pub pages_owed : AreOwed told n.pass.1 images
            pages_owed = subst (AreOwed told n.pass.1) (sym found_are) (found_owed told n.pass.1 n.space h holding)

            pub one_space : IsSpaceOwed told n.pass.1 n.space space
            one_space = space_owed told n.pass.1 n.space h space holding undone_here

            pub nothing_else : AreAll told n.pass.1 n.space images space
            nothing_else = subst (λ (i : Images). AreAll told n.pass.1 n.space i space) (sym found_are) (found_all told n.pass.1 n.space h space holding undone_here)

          -- then all is cleared
          module _ (r : MutatorState R) (cleared : HasCleared n r (was_written n)) where
            counted : r.pass.1.faults ≡ faults
            counted = ap (λ (v : View). v.faults) cleared.view.1 ∙ ap (λ (x : MutatorState R). x.pass.1.faults) gone

            only_passed : HasOnlyPassed m n
            only_passed = record {
              rest = subst (λ (x : MutatorState R). x ≡ with_view m (record m.pass.1 {
                log = x.pass.1.log;
                holds = x.pass.1.holds;
                spans = x.pass.1.spans;
                steady = x.pass.1.steady;
                pages = x.pass.1.pages;
                drawing = x.pass.1.drawing;
                filled = x.pass.1.filled;
                drew_pages = x.pass.1.drew_pages;
                seen = x.pass.1.seen;
                faults = x.pass.1.faults;
                lost = x.pass.1.lost;
                names = x.pass.1.names;
                mine = x.pass.1.mine;
                failed = x.pass.1.failed;
              })) (sym gone) refl;
              words = words;
              stands = stands;
            }

            given_pass : HasGivenPass m n [] failed faults
            given_pass = record {
              rest = only_passed;
              seen = ap (λ (x : MutatorState R). x.pass.1.seen) gone;
              mine = ap (λ (x : MutatorState R). x.pass.1.mine) gone;
              failed_are = ap (λ (x : MutatorState R). x.pass.1.failed) gone;
              heard = ap (λ (x : MutatorState R). x.pass.1.faults) gone;
            }

            pub has_failed_pass : m.pass.1.faults ≤ faults → HasFailedPass m r failed
            has_failed_pass rise = record {
              last = n;
              given = subst (λ (j : ℕ). HasGivenPass m n [] failed j) (sym counted) given_pass;
              heard = omega (arith, rise, counted);
              cleared = subst (λ (f : ℕ → Bool). HasCleared n r f) (λ i q. was_written (gone i) q) cleared;
            }
