-- What a transaction held is owed once its pass has ended, and it is all that is held.
use Rattle.std.proofs.Common.{◌≡◌, ◌∙◌, ◌⊎◌, ◌||◌, ◌&&◌, ◌++◌, inl, inr, ℕ, Bool, true, false, not, List, [], ◌∷◌, Option, Some, None, is_some, refl, sym, ap, subst}
use Rattle.std.proofs.lemmas.Bool.{and_from, and_parts}
use Rattle.std.specs.Option.{option_or}
use Rattle.std.specs.FinMap.{get, contains_key}
use Rattle.std.specs.FinSet as set
use Rattle.atomic_table.specs.Seated.{TableId}
use Rattle.pm3_types.specs.Layout.{PageImage}
use Rattle.pm3_page.specs.PageMap.{Images, IsAtHome}
use Rattle.pm3_copy.specs.PassLaws.{OthersAreQuiet}
use Rattle.pm3_access.specs.declared.parted.Parted.{Parted}
use Rattle.pm3_access.specs.FreeList.{Numbers}
use Rattle.pm3_access.specs.Holding.{Holding, SpaceState}
use Rattle.pm3_access.specs.Parting.{joined}
use Rattle.pm3_access.specs.Parts.{IsFinished, RestState}
use Rattle.pm3_access.proofs.Moved.{get_both}
use Rattle.pm3_history.specs.Entry.{Done}
use Rattle.pm3_history.proofs.Laying.{none_if, some_none, there_none}
use Rattle.pm3_table.specs.declared.view.Deed.{Deed}
use Rattle.pm3_table.specs.declared.view.Hold.{Hold}
use Rattle.pm3_table.specs.declared.view.Span.{Span}
use Rattle.pm3_table.specs.declared.view.Told.{Told}
use Rattle.pm3_table.specs.declared.view.View.{View}
use Rattle.pm3_table.specs.Deeds.{stands_of, word_of}
use Rattle.pm3_table.specs.Holds.{holds_of, spans_of}
use Rattle.pm3_table.specs.Ops.{turned}
use Rattle.pm3_table.specs.Words.{space_unit, turn_unit}
use Rattle.pm3_txn.specs.Aborting.{AreAllOf, AreOwed, HasOnlyGiven, IsSpaceOwed}
use Rattle.pm3_txn.specs.CarriedPass.{Carried, IsCarriedBy, is_promoted_in, parts_of}
use Rattle.pm3_txn.specs.Owners.{IsOwnUnit}
use Rattle.pm3_txn.specs.PassCommits.{Marks, done_with}
use Rattle.pm3_txn.specs.PassEnding.{HasEndedPass, HasGivenPass, HasLeft, IsPassCommit}
use Rattle.pm3_txn.specs.PassEnds.{is_promoted}
use Rattle.pm3_txn.specs.PassSteps.{set_aside}
use Rattle.pm3_txn.specs.States.{MutatorState}
use Rattle.pm3_txn.specs.Takes.{with_view}
use Rattle.pm3_txn.specs.Values.{IsPageOf, IsSpaceOf}
use Rattle.pm3_txn.proofs.PassCarried.{done, has_sheet, own_of, pass, written_from}
use Rattle.pm3_txn.proofs.PassGiven.{own_alone, space_pages, space_value, unwritten_page, written_page}
use Rattle.pm3_txn.proofs.PassCommitted.{commit_same}

or_first : (a b : Bool) → a ≡ true → (a || b) ≡ true
or_first a b is = ap (λ (x : Bool). x || b) is

or_second : (a b : Bool) → b ≡ true → (a || b) ≡ true
or_second true b is = refl
or_second false b is = is

either : (a b : Bool) → (a || b) ≡ true → (a ≡ true) ⊎ (b ≡ true)
either true b is = inl refl
either false b is = inr is

-- the images of the space that a pass has left stand under their own pages
pub left_home : (c : Carried) (p : Parted) (pins promoted freed : Numbers) → IsAtHome c.space_now → HasLeft c p pins promoted freed → IsAtHome p.volatile.images
left_home c p pins promoted freed home left = subst IsAtHome (sym left.volatile) home

module _ {R : Type 0} (told : Told) (m : MutatorState R) (d : Done) (faults : ℕ) where
  abbrev then : List Deed → List Hold → List Span → List ℕ → List ℕ → MutatorState R
  then log holds spans steady pages = with_view m (record (turned (turn_unit told.pages) m.pass.1 (d ∷ []) [] faults) { log = log; holds = holds; spans = spans; steady = steady; pages = pages })

  has_passed : (log : List Deed) (holds : List Hold) (spans : List Span) (steady pages : List ℕ) → ((q : ℕ) → word_of log q ≡ word_of m.pass.1.log q) → ((q : ℕ) → stands_of log q ≡ stands_of m.pass.1.log q)
      → HasGivenPass m (then log holds spans steady pages) (d ∷ []) [] faults
  has_passed log holds spans steady pages words stands = record {
    rest = record { rest = refl; words = words; stands = stands };
    seen = refl;
    mine = refl;
    failed_are = refl;
    heard = refl;
  }

  -- the turn was given back with a commit, pages were settled, and then other units were given back
  pub has_given : (n r : MutatorState R) (promoted : ℕ → Bool) → HasEndedPass told m n promoted d faults → HasOnlyGiven n r → HasGivenPass m r (d ∷ []) [] faults
  has_given n r promoted ended given = subst (λ (x : MutatorState R). HasGivenPass m x (d ∷ []) [] faults) (sym whole)
      (has_passed n.pass.1.log r.pass.1.holds n.pass.1.spans n.pass.1.steady n.pass.1.pages ended.words ended.stands)
    where
      whole : r ≡ then n.pass.1.log r.pass.1.holds n.pass.1.spans n.pass.1.steady n.pass.1.pages
      whole = given ∙ ap (λ (x : MutatorState R). with_view x (record x.pass.1 { holds = r.pass.1.holds })) ended.rest

module _ (others : OthersAreQuiet) {R : Type 0} (content : R → Option (List ℕ)) (heap : TableId × Told) (m n : MutatorState R) (c : Carried) (d : Done) (is_commit : IsPassCommit content heap m c d)
    (p : Parted) (pins promoted freed : Numbers) (left : HasLeft c p pins promoted freed) (faults : ℕ) (ended : HasEndedPass heap.1 m n (is_promoted p) d faults) where
  abbrev told : Told
  told = heap.1

  abbrev v : View
  v = (set_aside told m is_commit.has.ready.log).pass.1

  abbrev has : IsCarriedBy told v m.space m.next_name m.pass.1.log c
  has = is_commit.has.carried

  abbrev marks : Marks
  marks = is_commit.marks

  abbrev h : Holding
  h = joined (parts_of c)

  abbrev later : List Done
  later = v.seen ++ done_with marks h (pass told v m.space m.next_name m.pass.1.log c has) ∷ []

  -- the commit has the moves of the pass
  same : d ≡ done_with marks h (pass told v m.space m.next_name m.pass.1.log c has)
  same = commit_same content heap m c d is_commit

  seen_now : n.pass.1.seen ≡ later
  seen_now = ap (λ (x : MutatorState R). x.pass.1.seen) ended.rest ∙ ap (λ (e : Done). v.seen ++ e ∷ []) same

  own : n.space ≡ m.space
  own = ap (λ (x : MutatorState R). x.space) ended.rest

  promoted_same : (q : ℕ) → is_promoted p q ≡ is_promoted_in c q
  promoted_same q = ap (λ (images : Images). contains_key images q && not (contains_key p.rest.found q)) left.written
      ∙ ap (λ (rest : RestState). contains_key c.written_now q && not (contains_key rest.found q)) left.rest

  -- what was held beside the turn is held still, and so is what was promoted
  held_still : (u : ℕ) → holds_of v.holds u ≡ true → holds_of n.pass.1.holds u ≡ true
  held_still u is = ended.holds u ∙ or_second (is_promoted p u) (holds_of v.holds u) is

  promoted_held : (q : ℕ) → is_promoted_in c q ≡ true → holds_of n.pass.1.holds q ≡ true
  promoted_held q is = ended.holds q ∙ or_first (is_promoted p q) (holds_of v.holds q) (promoted_same q ∙ is)

  written_held : (q : ℕ) → contains_key c.written_now q ≡ true → holds_of n.pass.1.holds q ≡ true
  written_held q on = of (contains_key c.found q) refl
    where
      of : (b : Bool) → contains_key c.found q ≡ b → holds_of n.pass.1.holds q ≡ true
      of true found = held_still q (has.holding.units q (sym (has.holding.kept q) ∙ found)).0
      of false none = promoted_held q (and_from (contains_key c.written_now q) (not (contains_key c.found q)) on (ap not none))

  others_owed : AreOwed told n.pass.1 c.others.images
  others_owed q image on = (
    held_still q (has.holding.units q (ap is_some ((has.parted.others q image).0 on).0)).0,
    subst (λ (l : List Done). IsPageOf told l q image) (sym seen_now) (unwritten_page others told v m.space m.next_name m.pass.1.log c has marks q image on),
  )

  written_owed : AreOwed told n.pass.1 c.written_now
  written_owed q image on = (
    written_held q (ap is_some on),
    subst (λ (l : List Done). IsPageOf told l q image) (sym seen_now) (written_page others told v m.space m.next_name m.pass.1.log c has marks q image on),
  )

  -- no page that is written is among the others
  others_apart : (q : ℕ) → contains_key c.written_now q ≡ true → get c.others.images q ≡ None
  others_apart q on = none_if (get c.others.images q) (λ image there. of image there (written_from told v m.space m.next_name m.pass.1.log c has q on))
    where
      of : (image : PageImage) → get c.others.images q ≡ Some image → (contains_key c.written.images q ≡ true) ⊎ ((set.contains c.pins q ≡ true) ⊎ (set.contains c.space.free q ≡ true)) → ⊥
      of image there (inl changed) = some_none (get c.others.images q) image there (has.parted.rejoin.apart q (there_none (get c.written.images q) changed))
      of image there (inr mine) = own_alone others told v m.space m.next_name m.pass.1.log c has marks q (own_of told v m.space m.next_name m.pass.1.log c has q mine) (ap is_some ((has.parted.others q image).0 there).0)

  pub parts_apart : (pages written : Images) → pages ≡ p.rest.pages.images → written ≡ p.written.images → (u : ℕ) → contains_key written u ≡ true → contains_key pages u ≡ false
  parts_apart pages written are are_too u on =
      ap (λ (images : Images). contains_key images u) (are ∙ ap (λ (rest : RestState). rest.pages.images) left.rest)
      ∙ ap is_some (others_apart u (sym (ap (λ (images : Images). contains_key images u) (are_too ∙ left.written)) ∙ on))

  pub pages_owed : (pages : Images) → pages ≡ p.rest.pages.images → AreOwed told n.pass.1 pages
  pages_owed pages are = subst (λ (images : Images). AreOwed told n.pass.1 images) (sym (are ∙ ap (λ (rest : RestState). rest.pages.images) left.rest)) others_owed

  pub changed_owed : (written : Images) → written ≡ p.written.images → AreOwed told n.pass.1 written
  changed_owed written are = subst (λ (images : Images). AreOwed told n.pass.1 images) (sym (are ∙ left.written)) written_owed

  -- the space as the pass has left it
  finished_now : (o : Option SpaceState) → IsFinished p.rest.space p.volatile.images p.written.images freed o → IsFinished (Some c.space) c.space_now c.written_now freed o
  finished_now o finished =
      subst (λ (rest : RestState). IsFinished rest.space c.space_now c.written_now freed o) left.rest
      (subst (λ (images : Images). IsFinished p.rest.space c.space_now images freed o) left.written (subst (λ (images : Images). IsFinished p.rest.space images p.written.images freed o) left.volatile finished))

  pub space_owed : (o : Option SpaceState) → IsFinished p.rest.space p.volatile.images p.written.images freed o → IsSpaceOwed told n.pass.1 n.space o
  space_owed o finished = subst (λ (k : ℕ). IsSpaceOwed told n.pass.1 k o) (sym own) (of o (finished_now o finished))
    where
      of : (o : Option SpaceState) → IsFinished (Some c.space) c.space_now c.written_now freed o → IsSpaceOwed told n.pass.1 m.space o
      of None is = tt
      of (Some t) is = (
        held_still (space_unit told.pages m.space) (ap (λ (k : ℕ). holds_of v.holds (space_unit told.pages k)) (sym has.holding.space.0) ∙ has.holding.space.1.unit),
        subst (λ (l : List Done). IsSpaceOf told l (space_unit told.pages m.space) t) (sym seen_now) (space_value others told v m.space m.next_name m.pass.1.log c has marks freed left.freed_are t is),
        λ q. space_pages others told v m.space m.next_name m.pass.1.log c has marks freed left.freed_are t is q
            ∙ ap (λ (b : Bool). not b && spans_of v.spans (space_unit told.pages m.space) q) (sym (promoted_same q)) ∙ sym (ended.spans (space_unit told.pages m.space) q),
      )

  -- nothing else is held
  held_alone : (q : ℕ) → is_some (get h.pages.left q) ≡ true → (contains_key c.others.images q ≡ true) ⊎ (contains_key c.written_now q ≡ true)
  held_alone q is = of (get c.written.images q) refl (sym (ap is_some (get_both c.others.images c.written.images q)) ∙ is)
    where
      of : (o : Option PageImage) → get c.written.images q ≡ o → is_some (option_or (get c.written.images q) (get c.others.images q)) ≡ true → (contains_key c.others.images q ≡ true) ⊎ (contains_key c.written_now q ≡ true)
      of None none there = inl (sym (ap (λ (o : Option PageImage). is_some (option_or o (get c.others.images q))) none) ∙ there)
      of (Some x) some there = inr (sym (has_sheet c.written_now q) ∙ ((done told v m.space m.next_name m.pass.1.log c has).written_pages q).1 (inl (has_sheet c.written.images q ∙ ap is_some some)))

  all_parts : (o : Option SpaceState) → is_some o ≡ true → AreAllOf told n.pass.1 m.space c.others.images c.written_now o
  all_parts o some u is = of (either (is_promoted p u) (holds_of v.holds u) (sym (ended.holds u) ∙ is))
    where
      alone : (contains_key c.others.images u ≡ true) ⊎ (contains_key c.written_now u ≡ true)
          → (contains_key c.others.images u ≡ true) ⊎ ((contains_key c.written_now u ≡ true) ⊎ ((is_some o ≡ true) × (u ≡ space_unit told.pages m.space)))
      alone (inl other) = inl other
      alone (inr written) = inr (inl written)

      was : (is_some (get h.pages.left u) ≡ true) ⊎ IsOwnUnit told h.space u
          → (contains_key c.others.images u ≡ true) ⊎ ((contains_key c.written_now u ≡ true) ⊎ ((is_some o ≡ true) × (u ≡ space_unit told.pages m.space)))
      was (inl there) = alone (held_alone u there)
      was (inr unit) = inr (inr (some, unit ∙ ap (space_unit told.pages) has.holding.space.0))

      of : (is_promoted p u ≡ true) ⊎ (holds_of v.holds u ≡ true)
          → (contains_key c.others.images u ≡ true) ⊎ ((contains_key c.written_now u ≡ true) ⊎ ((is_some o ≡ true) × (u ≡ space_unit told.pages m.space)))
      of (inl promoted_is) = inr (inl (and_parts (contains_key c.written_now u) (not (contains_key c.found u)) (sym (promoted_same u) ∙ promoted_is)).0)
      of (inr held) = was (has.holding.only u held)

  pub all_owed : (pages written : Images) → pages ≡ p.rest.pages.images → written ≡ p.written.images → (o : Option SpaceState) → IsFinished p.rest.space p.volatile.images p.written.images freed o
      → AreAllOf told n.pass.1 n.space pages written o
  all_owed pages written are are_too o finished =
      subst (λ (k : ℕ). AreAllOf told n.pass.1 k pages written o) (sym own)
      (subst (λ (images : Images). AreAllOf told n.pass.1 m.space images written o) (sym (are ∙ ap (λ (rest : RestState). rest.pages.images) left.rest))
      (subst (λ (images : Images). AreAllOf told n.pass.1 m.space c.others.images images o) (sym (are_too ∙ left.written)) (all_parts o (some_space o (finished_now o finished)))))
    where
      some_space : (o : Option SpaceState) → IsFinished (Some c.space) c.space_now c.written_now freed o → is_some o ≡ true
      some_space None is = absurd is
      some_space (Some t) is = refl
