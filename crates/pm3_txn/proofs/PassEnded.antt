-- How the commit of a pass ends for its mutator.
use Rattle.std.proofs.Common.{◌≡◌, ◌<◌, ◌≤◌, ◌||◌, ◌&&◌, ◌++◌, ◌∙◌, ◌⊎◌, inl, inr, ℕ, Bool, true, false, not, List, [], ◌∷◌, Option, None, Some, is_some, slice_index_or, refl, sym, ap, subst, arith}
use Rattle.std.proofs.lemmas.Bool.{and_from, and_parts, cases_eq, false_from_ne_true, false≢true}
use Rattle.std.specs.FinMap.{contains_key, get}
use Rattle.std.specs.FinSet as set
use Rattle.atomic_table.specs.Seated.{TableId}
use Rattle.pm3_core.specs.Naming.{Names}
use Rattle.pm3_disk.specs.declared.outside.Disk.{Ghosts}
use Rattle.pm3_page.specs.PageMap.{Images}
use Rattle.pm3_copy.specs.PassLaws.{OthersAreQuiet, PinnedIsQuiet}
use Rattle.pm3_access.specs.declared.parted.Parted.{Parted}
use Rattle.pm3_access.specs.FreeList.{Numbers}
use Rattle.pm3_access.specs.Holding.{Holding}
use Rattle.pm3_access.specs.Parting.{joined}
use Rattle.pm3_access.specs.Parts.{RestState}
use Rattle.pm3_history.specs.Entry.{Done}
use Rattle.pm3_history.proofs.Laying.{there_none}
use Rattle.pm3_table.specs.declared.view.Hold.{Hold}
use Rattle.pm3_table.specs.declared.view.Hold.TheVariants.{Gave}
use Rattle.pm3_table.specs.declared.view.Told.{Told}
use Rattle.pm3_table.specs.declared.view.View.{View}
use Rattle.pm3_table.specs.Deeds.{marks_of, stands_of, word_of}
use Rattle.pm3_table.specs.Holds.{holds_of, spans_of}
use Rattle.pm3_table.specs.Ops.{turned}
use Rattle.pm3_table.specs.Telling.{HasInSpace, Lawful, MayJoin}
use Rattle.pm3_table.specs.Words.{space_unit, turn_unit}
use Rattle.pm3_table.proofs.Put.{put_at, put_else}
use Rattle.pm3_txn.specs.CarriedPass.{Carried, HasPromoted, IsCarriedBy, is_promoted_in, parts_of}
use Rattle.pm3_txn.specs.Committing.{MayGive}
use Rattle.pm3_txn.specs.Knowing.{KnowsWord}
use Rattle.pm3_txn.specs.Owners.{KnowsPlace}
use Rattle.pm3_txn.specs.PassCommits.{PassesFollow}
use Rattle.pm3_txn.specs.PassEnding.{HasCarried, HasEndedPass, HasLeft, IsPassCommit}
use Rattle.pm3_txn.specs.PassEnds.{HasSettled, is_other, is_promoted}
use Rattle.pm3_txn.specs.PassSteps.{set_aside}
use Rattle.pm3_txn.specs.Pinning.{HasOnlyLogged}
use Rattle.pm3_txn.specs.States.{MutatorState}
use Rattle.pm3_txn.specs.Takes.{with_view}
use Rattle.pm3_txn.specs.Underway.{Belongs}
use Rattle.pm3_txn.specs.Values.{IsTurnOf, TurnState}
use Rattle.pm3_txn.proofs.PassCarried.{own_low, own_of, spans, written_from, written_pinned}
use Rattle.pm3_txn.proofs.PassDraws.{still_held}
use Rattle.pm3_txn.proofs.PassJoins.{lawful_seen, may_record}
use Rattle.pm3_txn.proofs.PassPlans.{alone_none}
use Rattle.pm3_txn.proofs.PassRow.{known_row}
use Rattle.pm3_txn.proofs.PassSettled.{has_promoted}
use Rattle.pm3_txn.proofs.Promoting.{settled_as}
use Rattle.pm3_txn.proofs.PassCommitted.{commit_same}
use Rattle.pm3_txn.proofs.Touched.{no_more}

or_first : (a b : Bool) → a ≡ true → (a || b) ≡ true
or_first a b is = ap (λ (x : Bool). x || b) is

or_second : (a b : Bool) → b ≡ true → (a || b) ≡ true
or_second true b is = refl
or_second false b is = is

not_on : (b : Bool) → not b ≡ true → b ≡ false
not_on true is = absurd (false≢true is)
not_on false is = refl

-- where a test and the denial of another fail, the first fails or the second passes
but_for : (a b : Bool) → (a && not b) ≡ false → a ≡ true → b ≡ true
but_for true true none is = refl
but_for true false none is = absurd (false≢true (sym none))
but_for false b none is = absurd (false≢true is)

and_off : (a b : Bool) → b ≡ false → (a && b) ≡ false
and_off true b is = is
and_off false b is = refl

bare : {A : Type 0} (o : Option A) → is_some o ≡ false → o ≡ None
bare None is = refl
bare (Some x) is = absurd (false≢true (sym is))

module _ {R : Type 0} (content : R → Option (List ℕ)) (heap : TableId × Told) (m : MutatorState R) (c : Carried) (has : HasCarried content heap m c) where
  abbrev told : Told
  told = heap.1

  abbrev h : Holding
  h = joined (parts_of c)

  -- the view without the turn and the marks
  abbrev v : View
  v = (set_aside told m has.ready.log).pass.1

  abbrev by : IsCarriedBy told v m.space m.next_name m.pass.1.log c
  by = has.carried

  pub of_table : m.pass.0 ≡ heap.0
  of_table = has.ready.underway.mutator.of

  low_space : m.space < 32
  low_space = (let low = by.holding.space.1.low in let same = by.holding.space.0 in omega (arith, low, same))

  held_space : holds_of m.pass.1.holds (space_unit told.pages m.space) ≡ true
  held_space = still_held m.pass.1 (turn_unit told.pages) (space_unit told.pages m.space)
      (subst (λ (n : ℕ). holds_of v.holds (space_unit told.pages n) ≡ true) by.holding.space.0 by.holding.space.1.unit)

  -- a page of the space, as the view says
  own_span : (q : ℕ) → (contains_key c.volatile.images q || set.contains c.space.free q) ≡ true → spans_of m.pass.1.spans (space_unit told.pages m.space) q ≡ true
  own_span q own = spans told v m.space m.next_name m.pass.1.log c by q ∙ own

  own_below : (q : ℕ) → (contains_key c.volatile.images q || set.contains c.space.free q) ≡ true → q < told.pages
  own_below q own = (own_low told v m.space m.next_name m.pass.1.log c by q own).1

  -- a promoted page was one of the space
  promoted_own : (q : ℕ) → is_promoted_in c q ≡ true → (contains_key c.volatile.images q || set.contains c.space.free q) ≡ true
  promoted_own q is = of (written_from told v m.space m.next_name m.pass.1.log c by q parts.0)
    where
      parts : (contains_key c.written_now q ≡ true) × (not (contains_key c.found q) ≡ true)
      parts = and_parts (contains_key c.written_now q) (not (contains_key c.found q)) is

      of : (contains_key c.written.images q ≡ true) ⊎ ((set.contains c.pins q ≡ true) ⊎ (set.contains c.space.free q ≡ true)) → (contains_key c.volatile.images q || set.contains c.space.free q) ≡ true
      of (inl changed) = absurd (there_none (get c.written.images q) changed (by.parted.rejoin.found q (bare (get c.found q) (not_on (contains_key c.found q) parts.1))))
      of (inr own) = own_of told v m.space m.next_name m.pass.1.log c by q own

  pub promoted_below : (q : ℕ) → is_promoted_in c q ≡ true → q < told.pages
  promoted_below q is = own_below q (promoted_own q is)

  pub promoted_in_space : (q : ℕ) → is_promoted_in c q ≡ true → (q < told.pages) × HasInSpace told m.pass.1 m.space q
  promoted_in_space q is = (promoted_below q is, (low_space, held_space, own_span q (promoted_own q is)))

  -- a page that was marked and isn't promoted isn't written
  marked_promoted : (q : ℕ) → contains_key c.volatile.images q ≡ true → contains_key c.written_now q ≡ true → is_promoted_in c q ≡ true
  marked_promoted q there on = and_from (contains_key c.written_now q) (not (contains_key c.found q)) on
      (ap not (false_from_ne_true (contains_key c.found q) (λ found. there_none (get h.pages.left q) (sym (by.holding.kept q) ∙ found)
      (alone_none told v m.space (parts_of c) by.holding by.parted by.small refl q there))))

  unpromoted : (q : ℕ) → (contains_key c.written_now q ≡ true → ⊥) → is_promoted_in c q ≡ false
  unpromoted q never = false_from_ne_true (is_promoted_in c q) (λ is. never (and_parts (contains_key c.written_now q) (not (contains_key c.found q)) is).0)

  module _ (p : Parted) (pins promoted freed : Numbers) (left : HasLeft c p pins promoted freed) where
    pub promoted_is : (q : ℕ) → is_promoted p q ≡ is_promoted_in c q
    promoted_is q = ap (λ (images : Images). contains_key images q && not (contains_key p.rest.found q)) left.written
        ∙ ap (λ (r : RestState). contains_key c.written_now q && not (contains_key r.found q)) left.rest

    -- a page that was promoted is in the space
    pub may_promote : (q : ℕ) → is_promoted p q ≡ true → (q < told.pages) × HasInSpace told m.pass.1 m.space q
    may_promote q is = promoted_in_space q (sym (promoted_is q) ∙ is)

    -- a page that was given up was marked, and isn't pinned
    freed_marked : (q : ℕ) → set.contains freed q ≡ true → (contains_key c.volatile.images q ≡ true) × (is_promoted_in c q ≡ false)
    freed_marked q is =
        let parts = and_parts (contains_key c.volatile.images q) (not (set.contains c.pins q)) (sym (left.freed_are q) ∙ is) in
        (parts.0, unpromoted q (λ on. false≢true (sym (not_on (set.contains c.pins q) parts.1) ∙ written_pinned told v m.space m.next_name m.pass.1.log c by q parts.0 on)))

    -- a pinned page that didn't turn was marked, and isn't given up
    pinned_marked : (q : ℕ) → is_other pins promoted q ≡ true → (contains_key c.volatile.images q ≡ true) × (is_promoted_in c q ≡ false) × (set.contains freed q ≡ false)
    pinned_marked q is = (
      there,
      unpromoted q (λ on. false≢true (sym (not_on (set.contains promoted q) parts.1) ∙ left.promoted_are q ∙ and_from (set.contains c.pins q) (contains_key c.written_now q) pinned on)),
      left.freed_are q ∙ and_off (contains_key c.volatile.images q) (not (set.contains c.pins q)) (ap not pinned),
    )
      where
        parts : (set.contains pins q ≡ true) × (not (set.contains promoted q) ≡ true)
        parts = and_parts (set.contains pins q) (not (set.contains promoted q)) is

        pinned : set.contains c.pins q ≡ true
        pinned = sym (ap (λ (s : Numbers). set.contains s q) left.pins_are) ∙ parts.0

        there : contains_key c.volatile.images q ≡ true
        there = ((by.scanned.pinned q).0 pinned).0

    -- once the promoted pages are settled
    module _ (n : MutatorState R) (settled : HasSettled told.pages m n (is_promoted p)) where
      settled_in : HasSettled told.pages m n (is_promoted_in c)
      settled_in = settled_as told.pages m n (is_promoted p) (is_promoted_in c) (λ q. sym (promoted_is q)) settled

      promoting : HasPromoted told v m.pass.1.log (is_promoted_in c) n.pass.1
      promoting = has_promoted told m n has.ready.log (is_promoted_in c) has.ready.turn settled_in

      pub of_settled : n.pass.0 ≡ heap.0
      of_settled = ap (λ (x : MutatorState R). x.pass.0) settled.rest ∙ of_table

      pub turn_held : holds_of n.pass.1.holds (turn_unit told.pages) ≡ true
      turn_held = promoting.turn

      settled_space : n.space ≡ m.space
      settled_space = ap (λ (x : MutatorState R). x.space) settled.rest

      -- a marked page that was not promoted is in the space still, and marked
      space_held : holds_of (Gave (turn_unit told.pages) ∷ n.pass.1.holds) (space_unit told.pages m.space) ≡ true
      space_held = put_else (holds_of n.pass.1.holds) (turn_unit told.pages) false (space_unit told.pages m.space) (λ e. (let low = low_space in omega (arith, e, low)))
          ∙ settled_in.holds (space_unit told.pages m.space) ∙ or_second (is_promoted_in c (space_unit told.pages m.space)) (holds_of m.pass.1.holds (space_unit told.pages m.space)) held_space

      still_spans : (q : ℕ) → contains_key c.volatile.images q ≡ true → is_promoted_in c q ≡ false → spans_of n.pass.1.spans (space_unit told.pages m.space) q ≡ true
      still_spans q there off = settled_in.spans (space_unit told.pages m.space) q
          ∙ and_from (not (is_promoted_in c q)) (spans_of m.pass.1.spans (space_unit told.pages m.space) q) (ap not off) (own_span q (or_first (contains_key c.volatile.images q) (set.contains c.space.free q) there))

      still_marks : (q : ℕ) → marks_of n.pass.1.log q ≡ (not (is_promoted_in c q) && contains_key c.volatile.images q)
      still_marks q = settled_in.marks q ∙ ap (λ (b : Bool). not (is_promoted_in c q) && b) (by.scanned.marks q)

      -- then the turn was given back, and some marks were taken off
      module _ (d : Done) (faults : ℕ) (given : MutatorState R) (gives : given ≡ with_view n (turned (turn_unit told.pages) n.pass.1 (d ∷ []) [] faults))
          (none : Numbers) (empty : (q : ℕ) → set.contains none q ≡ false) where
        pub of_given : given.pass.0 ≡ heap.0
        of_given = ap (λ (x : MutatorState R). x.pass.0) gives ∙ of_settled

        given_in : (q : ℕ) → contains_key c.volatile.images q ≡ true → is_promoted_in c q ≡ false → (q < told.pages) × HasInSpace told given.pass.1 given.space q
        given_in q there off = (
          own_below q (or_first (contains_key c.volatile.images q) (set.contains c.space.free q) there),
          subst (λ (x : MutatorState R). HasInSpace told x.pass.1 x.space q) (sym gives)
              (subst (λ (j : ℕ). HasInSpace told (turned (turn_unit told.pages) n.pass.1 (d ∷ []) [] faults) j q) (sym settled_space) (low_space, space_held, still_spans q there off)),
        )

        given_marks : (q : ℕ) → marks_of given.pass.1.log q ≡ (not (is_promoted_in c q) && contains_key c.volatile.images q)
        given_marks q = ap (λ (x : MutatorState R). marks_of x.pass.1.log q) gives ∙ still_marks q

        freed_other : (q : ℕ) → is_other freed none q ≡ true → set.contains freed q ≡ true
        freed_other q is = (and_parts (set.contains freed q) (not (set.contains none q)) is).0

        -- of the pages that were given up
        pub freed_in_space : (q : ℕ) → is_other freed none q ≡ true → (q < told.pages) × HasInSpace told given.pass.1 given.space q
        freed_in_space q is = (let at = freed_marked q (freed_other q is) in given_in q at.0 at.1)

        pub freed_bare : (q : ℕ) → is_other freed none q ≡ true → marks_of given.pass.1.log q ≡ true
        freed_bare q is = (let at = freed_marked q (freed_other q is) in given_marks q ∙ and_from (not (is_promoted_in c q)) (contains_key c.volatile.images q) (ap not at.1) at.0)

        module _ (one : MutatorState R) (only : HasOnlyLogged given one) (marks : (q : ℕ) → marks_of one.pass.1.log q ≡ (marks_of given.pass.1.log q && not (is_other freed none q))) where
          pub of_first : one.pass.0 ≡ heap.0
          of_first = ap (λ (x : MutatorState R). x.pass.0) only.rest ∙ of_given

          -- and of the pinned ones that didn't turn
          pub pinned_in_space : (q : ℕ) → is_other pins promoted q ≡ true → (q < told.pages) × HasInSpace told one.pass.1 one.space q
          pinned_in_space q is =
              let at = pinned_marked q is in let was = given_in q at.0 at.1 in
              (was.0, subst (λ (x : MutatorState R). HasInSpace told x.pass.1 x.space q) (sym only.rest) was.1)

          pub pinned_bare : (q : ℕ) → is_other pins promoted q ≡ true → marks_of one.pass.1.log q ≡ true
          pinned_bare q is =
              let at = pinned_marked q is in
              marks q ∙ and_from (marks_of given.pass.1.log q) (not (is_other freed none q))
              (given_marks q ∙ and_from (not (is_promoted_in c q)) (contains_key c.volatile.images q) (ap not at.1) at.0)
              (ap (λ (b : Bool). not (b && not (set.contains none q))) at.2)

          module _ (last : MutatorState R) (only_last : HasOnlyLogged one last) (marks_last : (q : ℕ) → marks_of last.pass.1.log q ≡ (marks_of one.pass.1.log q && not (is_other pins promoted q))) where
            -- so no mark is left
            no_marks : (q : ℕ) → marks_of last.pass.1.log q ≡ false
            no_marks q = false_from_ne_true (marks_of last.pass.1.log q) (λ is.
                let second = and_parts (marks_of one.pass.1.log q) (not (is_other pins promoted q)) (sym (marks_last q) ∙ is) in
                let first = and_parts (marks_of given.pass.1.log q) (not (is_other freed none q)) (sym (marks q) ∙ second.0) in
                let was = and_parts (not (is_promoted_in c q)) (contains_key c.volatile.images q) (sym (given_marks q) ∙ first.0) in
                let stays : set.contains freed q ≡ false = false_from_ne_true (set.contains freed q) (λ up. false≢true (sym (not_on (is_other freed none q) first.1)
                ∙ and_from (set.contains freed q) (not (set.contains none q)) up (ap not (empty q)))) in
                let pinned : set.contains c.pins q ≡ true = but_for (contains_key c.volatile.images q) (set.contains c.pins q) (sym (left.freed_are q) ∙ stays) was.1 in
                let turned_ : set.contains promoted q ≡ true = but_for (set.contains pins q) (set.contains promoted q) (not_on (is_other pins promoted q) second.1)
                (ap (λ (s : Numbers). set.contains s q) left.pins_are ∙ pinned) in
                let on : contains_key c.written_now q ≡ true = (and_parts (set.contains c.pins q) (contains_key c.written_now q) (sym (left.promoted_are q) ∙ turned_)).1 in
                false≢true (sym (not_on (is_promoted_in c q) was.0) ∙ marked_promoted q was.1 on))

            -- what it is then
            settled_view : View
            settled_view = record (turned (turn_unit told.pages) m.pass.1 (d ∷ []) [] faults) {
              log = last.pass.1.log;
              holds = Gave (turn_unit told.pages) ∷ n.pass.1.holds;
              spans = n.pass.1.spans;
              steady = n.pass.1.steady;
              pages = n.pass.1.pages;
            }

            last_is : last ≡ with_view m settled_view
            unfolding settled_view
            last_is = only_last.rest
                ∙ ap (λ (x : MutatorState R). with_view x (record x.pass.1 { log = last.pass.1.log })) only.rest
                ∙ ap (λ (x : MutatorState R). with_view x (record x.pass.1 { log = last.pass.1.log })) gives
                ∙ ap (λ (x : MutatorState R). with_view x (record (turned (turn_unit told.pages) x.pass.1 (d ∷ []) [] faults) { log = last.pass.1.log })) settled.rest

            holds_are : last.pass.1.holds ≡ Gave (turn_unit told.pages) ∷ n.pass.1.holds
            unfolding settled_view
            holds_are = ap (λ (x : MutatorState R). x.pass.1.holds) last_is

            words_are : (q : ℕ) → word_of last.pass.1.log q ≡ word_of m.pass.1.log q
            words_are q = only_last.words q ∙ only.words q ∙ ap (λ (x : MutatorState R). word_of x.pass.1.log q) gives ∙ settled.words q

            pub ended : HasEndedPass told m last (is_promoted p) d faults
            unfolding settled_view
            ended = record {
              rest = last_is ∙ (λ i. with_view m (record (turned (turn_unit told.pages) m.pass.1 (d ∷ []) [] faults) {
                log = last.pass.1.log;
                holds = sym holds_are i;
                spans = sym (ap (λ (x : MutatorState R). x.pass.1.spans) last_is) i;
                steady = sym (ap (λ (x : MutatorState R). x.pass.1.steady) last_is) i;
                pages = sym (ap (λ (x : MutatorState R). x.pass.1.pages) last_is) i;
              }));
              words = words_are;
              stands = λ q. only_last.stands q ∙ only.stands q ∙ ap (λ (x : MutatorState R). stands_of x.pass.1.log q) gives ∙ settled.stands q;
              holds = λ u. ap (λ (hs : List Hold). holds_of hs u) holds_are ∙ held u;
              spans = λ u q. ap (λ (x : MutatorState R). spans_of x.pass.1.spans u q) last_is ∙ settled.spans u q;
              bare = no_marks;
            }
              where
                off_turn : is_promoted p (turn_unit told.pages) ≡ false
                off_turn = false_from_ne_true (is_promoted p (turn_unit told.pages)) (λ is. (let low = (may_promote (turn_unit told.pages) is).0 in omega (arith, low)))

                held : (u : ℕ) → holds_of (Gave (turn_unit told.pages) ∷ n.pass.1.holds) u ≡ (is_promoted p u || holds_of (Gave (turn_unit told.pages) ∷ m.pass.1.holds) u)
                held u = elim (cases_eq u (turn_unit told.pages)) [
                  | inl e ↦ put_at (holds_of n.pass.1.holds) (turn_unit told.pages) false u e
                      ∙ sym (ap (λ (b : Bool). is_promoted p u || b) (put_at (holds_of m.pass.1.holds) (turn_unit told.pages) false u e) ∙ ap (λ (b : Bool). b || false) (ap (is_promoted p) e ∙ off_turn))
                  | inr ne ↦ put_else (holds_of n.pass.1.holds) (turn_unit told.pages) false u ne ∙ settled.holds u
                      ∙ sym (ap (λ (b : Bool). is_promoted p u || b) (put_else (holds_of m.pass.1.holds) (turn_unit told.pages) false u ne))
                ]

            -- it belongs to its heap, where the commit made the history a lawful one and the row is known
            pub goes_on : Lawful told (m.pass.1.seen ++ d ∷ []) → ((w : View) → w.seen ≡ m.pass.1.seen ++ d ∷ [] → (wrote : Bool) (a : ℕ) → KnowsPlace told v h wrote a
                → ((page : ℕ) → contains_key c.volatile.images page ≡ true → Names told.pages a page → (set.contains c.pins page ≡ true) × (contains_key c.written_now page ≡ true)) → KnowsWord told w a) → Belongs content heap last
            unfolding settled_view
            goes_on lawful knows = subst (λ (x : MutatorState R). Belongs content heap x) (sym last_is) (record {
              mutator = record {
                of = of_table;
                unmarked = no_marks;
                lawful = lawful;
                reads = has.ready.underway.mutator.reads;
                tags = has.ready.underway.mutator.tags;
                space = has.ready.underway.mutator.space;
              };
              known = λ q tagged. subst (λ (a : ℕ). KnowsWord told settled_view a) (sym (words_are q))
                  (knows settled_view refl (slice_index_or m.wrote q false) (word_of m.pass.1.log q)
                  (subst (λ (a : ℕ). KnowsPlace told v h (slice_index_or m.wrote q false) a) (has.ready.words q) (has.ready.underway.known q tagged)) (λ page there named. has.turned_row q page tagged there named));
            })

-- with its commit
module _ {D R : Type 0} (g : Ghosts D R) (content : R → Option (List ℕ)) (heap : TableId × Told) (m : MutatorState R) (c : Carried) (d : Done) (commit : IsPassCommit content heap m c d)
    (follow : PassesFollow) (others : OthersAreQuiet) where
  -- so the history stays lawful
  pub still_lawful : Lawful heap.1 (m.pass.1.seen ++ d ∷ [])
  still_lawful = subst (λ (x : Done). Lawful heap.1 (m.pass.1.seen ++ x ∷ [])) (sym (commit_same content heap m c d commit))
      (lawful_seen follow heap.1 (set_aside heap.1 m commit.has.ready.log).pass.1 m.space m.next_name m.pass.1.log c commit.has.carried commit.marks commit.marks_are.low commit.marks_are.rise commit.marks_are.high commit.marks_are.most)

  module _ (p : Parted) (pins promoted freed : Numbers) (left : HasLeft c p pins promoted freed) (n : MutatorState R) (settled : HasSettled heap.1.pages m n (is_promoted p)) where
    -- and the turn may be given back with it
    pub may_give : 3 ≤ heap.1.frontier → (turn : TurnState D R) → IsTurnOf g heap.1 m.pass.1.lost (m.pass.1.seen ++ d ∷ []) (turn_unit heap.1.pages) turn
        → (m.pass.1.faults ≤ g.faults turn.journal.disk) × (m.pass.1.lost ≡ []) → MayGive g heap.1 n.pass.1 turn (d ∷ []) []
    may_give frontier turn good heard = record {
      good = subst (λ (l : List Done). IsTurnOf g heap.1 l (n.pass.1.seen ++ d ∷ []) (turn_unit heap.1.pages) turn) (sym lost ∙ no_more n.pass.1.lost)
          (subst (λ (l : List Done). IsTurnOf g heap.1 m.pass.1.lost (l ++ d ∷ []) (turn_unit heap.1.pages) turn) (sym seen) good);
      heard = (let same : n.pass.1.faults ≡ m.pass.1.faults = ap (λ (x : MutatorState R). x.pass.1.faults) settled.rest in let rises = heard.0 in omega (arith, same, rises));
      may = subst (λ (x : Done). MayJoin heap.1 n.pass.1 (x ∷ []) []) (sym (commit_same content heap m c d commit))
          (may_record follow others heap.1 (set_aside heap.1 m commit.has.ready.log).pass.1 m.space m.next_name m.pass.1.log c commit.has.carried frontier n.pass.1
          (promoting content heap m c commit.has p pins promoted freed left n settled) commit.marks commit.marks_are.low (commit.marks_are.mine ∙ sym row)
          commit.marks_are.rise commit.marks_are.high commit.marks_are.most (lost ∙ heard.1));
    }
      where
        lost : n.pass.1.lost ≡ m.pass.1.lost
        lost = ap (λ (x : MutatorState R). x.pass.1.lost) settled.rest

        seen : n.pass.1.seen ≡ m.pass.1.seen
        seen = ap (λ (x : MutatorState R). x.pass.1.seen) settled.rest

        row : n.pass.1.row ≡ m.pass.1.row
        row = ap (λ (x : MutatorState R). x.pass.1.row) settled.rest

  -- each place of the row that is tagged as a reference holds one then
  pub row_known : PinnedIsQuiet → (w : View) → w.seen ≡ m.pass.1.seen ++ d ∷ [] → (wrote : Bool) (a : ℕ) → KnowsPlace heap.1 (set_aside heap.1 m commit.has.ready.log).pass.1 (joined (parts_of c)) wrote a
      → ((page : ℕ) → contains_key c.volatile.images page ≡ true → Names heap.1.pages a page → (set.contains c.pins page ≡ true) × (contains_key c.written_now page ≡ true)) → KnowsWord heap.1 w a
  row_known quiet w seen wrote a known turns =
      known_row others quiet heap.1 (set_aside heap.1 m commit.has.ready.log).pass.1 m.space m.next_name m.pass.1.log c commit.has.carried commit.marks commit.marks_are.low commit.marks_are.rise commit.marks_are.high commit.marks_are.most
      w (seen ∙ ap (λ (x : Done). m.pass.1.seen ++ x ∷ []) (commit_same content heap m c d commit)) (subst (λ (l : List Done). Lawful heap.1 l) (sym seen) still_lawful) wrote a known turns
