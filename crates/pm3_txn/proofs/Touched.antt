-- A page that a transaction touched: refused, held, or given back.
use Rattle.std.proofs.Common.{◌≡◌, ◌≢◌, ◌⊎◌, ◌++◌, ◌==◌, ◌∙◌, inl, inr, ℕ, Bool, true, false, if◌then◌else◌, List, [], ◌∷◌, Option, Some, None, is_some, Err, refl, sym, ap, subst, arith}
use Rattle.std.proofs.lemmas.Bool.{false≢true}
use Rattle.std.specs.Option.{option_or}
use Rattle.std.specs.FinMap.{get}
use Rattle.std.proofs.lemmas.Bool.Decides.{nat_tests}
use Rattle.atomic_table.specs.Seated.{TableId}
use Rattle.pm3_disk.specs.declared.outside.Disk.{Ghosts}
use Rattle.pm3_types.specs.Layout.{PageImage}
use Rattle.pm3_graph.specs.Frame.{FrameOfRuns}
use Rattle.pm3_access.specs.Holding.{Holding, HeldSpaceState, image_in, space_now, admitted}
use Rattle.pm3_access.proofs.AdmitSteps.{left_here, left_else}
use Rattle.pm3_history.specs.Entry.{Done}
use Rattle.pm3_history.proofs.Laying.{there_none}
use Rattle.pm3_core.specs.declared.naming.TheConstants.{BASE}
use Rattle.pm3_types.proofs.Parts.{part_of_part}
use Rattle.pm3_disk.specs.Content.{IfTold}
use Rattle.pm3_disk.specs.Faults.{Rose}
use Rattle.pm3_pagefile.specs.Loading.{IsLoaded, read_of}
use Rattle.pm3_pagefile.specs.PageBytes.{page_at}
use Rattle.pm3_pagefile.specs.declared.faults.LoadFault.{LoadFault}
use Rattle.pm3_pagefile.specs.declared.faults.LoadFault.TheVariants as load
use Rattle.pm3_txn.specs.Refusals.{IsTouchRefusal, fault_of}
use Rattle.pm3_table.specs.declared.view.Hold.{Hold}
use Rattle.pm3_table.specs.Deeds.{word_of, stands_of, marks_of}
use Rattle.pm3_table.specs.declared.view.Hold.TheVariants.{Took, Gave}
use Rattle.pm3_table.specs.declared.view.Told.{Told}
use Rattle.pm3_table.specs.declared.view.View.{View}
use Rattle.pm3_table.specs.Holds.{holds_of}
use Rattle.pm3_table.specs.Ops.{refused, gave}
use Rattle.pm3_table.specs.Plays.{Taken}
use Rattle.pm3_table.specs.Words.{turn_unit}
use Rattle.pm3_txn.specs.declared.values.Value.{Value}
use Rattle.pm3_txn.specs.Aborting.{HasOnlyGiven}
use Rattle.pm3_txn.specs.Heaps.{IsBelow}
use Rattle.pm3_txn.specs.Knowing.{KnowsHome, state_seen}
use Rattle.pm3_txn.specs.Works.{Works}
use Rattle.pm3_graph.specs.declared.operations.Op.{Op}
use Rattle.pm3_history.specs.Opens.{Opens}
use Rattle.pm3_history.specs.State.{State}
use Rattle.pm3_txn.specs.Loads.{HasOnlyRead, IsPersistent}
use Rattle.pm3_txn.specs.OwnerLaws.{GoesFurther}
use Rattle.pm3_txn.specs.Owners.{WorksOn, AdvancesOn, HasNamesBelow, IsHolding, IsOwnUnit, RemembersHere, found_here}
use Rattle.pm3_txn.specs.Slots.{stands_for, pages_in, faults_in}
use Rattle.pm3_txn.specs.States.{MutatorState, TxnState, told_in}
use Rattle.pm3_txn.specs.Takes.{HasTaken, with_view}
use Rattle.pm3_txn.specs.Touching.{DrewNothing, IsSameButHeld, HasTouched, IsTurnedAway, IsGivenBack, nothing_more}
use Rattle.pm3_txn.specs.Underway.{IsMutatorOf, IsUnderway}
use Rattle.pm3_txn.specs.Values.{IsPageOf}
use Rattle.pm3_txn.proofs.Seeing.{persistent_later}
use Rattle.pm3_txn.proofs.Advancing.{moment, goes_still, still_underway}
use Rattle.pm3_txn.proofs.FurtherOn.{took_same, took_calm, took_further, took_unit, took_alone, back_further, advances_further, keeps_further, further_underway}
use Rattle.pm3_txn.proofs.Keeping.{Keeps, admitted_pages, found_further, row_kept}
use Rattle.pm3_txn.proofs.GivenUnits.{gave_only}
use Rattle.pm3_txn.proofs.OwnerTakes.{holdings_take_pages}

pub no_more : (h : List Done) → h ≡ h ++ []
no_more [] = refl
no_more (e ∷ es) = ap (λ (l : List Done). e ∷ l) (no_more es)

-- what a reader counts is nothing to what a mutator knows
pub mutator_read_on : {R : Type 0} (content : R → Option (List ℕ)) (faults : R → ℕ) (heap : TableId × Told) (m n : MutatorState R) → HasOnlyRead content faults m n → IsMutatorOf content heap m
    → IsMutatorOf content heap n
mutator_read_on {R} content faults heap m n read is = subst (IsMutatorOf content heap) (sym read.rest) (record {
  of = is.of;
  unmarked = is.unmarked;
  lawful = is.lawful;
  reads = read.content_is ∙ is.reads;
  tags = is.tags;
  space = is.space;
})

-- a unit was refused
module _ {R : Type 0} (content : R → Option (List ℕ)) (heap : TableId × Told) (m n : MutatorState R) (h : Holding) (tag unit word : ℕ) (is : n ≡ with_view m (refused m.pass.1 unit word)) where
  refused_view : n.pass.1 ≡ record m.pass.1 { log = n.pass.1.log; refusals = n.pass.1.refusals }
  refused_view = subst (λ (x : MutatorState R). x.pass.1 ≡ record m.pass.1 { log = x.pass.1.log; refusals = x.pass.1.refusals }) (sym is) refl

  pub away_underway : IsUnderway content (moment heap tag m h) → IsMutatorOf content heap n → IsUnderway content (moment heap tag n h)
  away_underway was kept =
      still_underway content heap m n h tag refused_view (λ q. ap (λ (x : MutatorState R). word_of x.pass.1.log q) is)
      (ap (λ (x : MutatorState R). x.refs) is) (ap (λ (x : MutatorState R). x.wrote) is) (ap (λ (x : MutatorState R). x.space) is) (ap (λ (x : MutatorState R). x.next_name) is) was kept

  pub away_same : IsSameButHeld (moment heap tag m h) (moment heap tag n h)
  away_same = record {
    heap = refl;
    tag = refl;
    table = ap (λ (x : MutatorState R). x.pass.0) is;
    space = ap (λ (x : MutatorState R). x.space) is;
    refs = ap (λ (x : MutatorState R). x.refs) is;
    wrote = ap (λ (x : MutatorState R). x.wrote) is;
    words = λ q. ap (λ (x : MutatorState R). word_of x.pass.1.log q) is;
    stands = λ q. ap (λ (x : MutatorState R). stands_of x.pass.1.log q) is;
    marks = λ p. ap (λ (x : MutatorState R). marks_of x.pass.1.log p) is;
    row = ap (λ (x : MutatorState R). x.pass.1.row) is;
    mine = ap (λ (x : MutatorState R). x.pass.1.mine) is;
    faults = ap (λ (x : MutatorState R). x.pass.1.faults) is;
  }

  pub away_drew : DrewNothing (moment heap tag m h) (moment heap tag n h)
  away_drew = (
    ap (λ (x : MutatorState R). x.pass.1.drew_pages) is,
    ap (λ (x : MutatorState R). x.pass.1.drew_names) is,
    ap (λ (x : MutatorState R). x.pass.1.filled) is,
    ap (λ (x : MutatorState R). x.next_name) is,
  )

  pub away_goes : AdvancesOn heap.1 m.pass.1 h n.pass.1 h nothing_more
  away_goes = goes_still heap.1 m.pass.1 n.pass.1 h (ap (λ (x : MutatorState R). x.pass.1.seen) is)

-- A page that is not held is taken.
module _ {D R : Type 0} (g : Ghosts D R) (content : R → Option (List ℕ)) (faults : R → ℕ) (heap : TableId × Told) (m : MutatorState R) (h : Holding) (tag page : ℕ)
    (was : IsUnderway content (moment heap tag m h)) (below : IsBelow heap.1) (absent : image_in h page ≡ None) (persistent : IsPersistent heap.1 m.pass.1.seen page) where
  -- a page that is not held is no unit that is
  pub not_held : holds_of m.pass.1.holds page ≡ false
  not_held = of (holds_of m.pass.1.holds page) refl
    where
      none : is_some (get h.pages.left page) ≡ true → ⊥
      none is = there_none (image_in h page) (by (get h.pages.left page) (space_now h.space page) is) absent
        where
          by : (o u : Option PageImage) → is_some o ≡ true → is_some (option_or o u) ≡ true
          by None u e = absurd (false≢true e)
          by (Some x) u e = refl

      no_space : (s : Option HeldSpaceState) → IsOwnUnit heap.1 s page → ⊥
      no_space None is = is
      no_space (Some s) is = (let low = persistent.low.1 in omega (arith, is, low))

      never : (is_some (get h.pages.left page) ≡ true) ⊎ IsOwnUnit heap.1 h.space page → ⊥
      never (inl is) = none is
      never (inr is) = no_space h.space is

      of : (b : Bool) → holds_of m.pass.1.holds page ≡ b → holds_of m.pass.1.holds page ≡ false
      of true is = absurd (never (was.holding.only page is))
      of false is = is

  not_there : is_some (image_in h page) ≡ false
  not_there = ap is_some absent

  pub turned_away : (n : MutatorState R) (word : ℕ) → n ≡ with_view m (refused m.pass.1 page word) → word ≢ 0 → IsTurnedAway (moment heap tag m h) (moment heap tag n h) page word
  turned_away n word is seen = record {
    same = away_same content heap m n h tag page word is;
    drew = away_drew content heap m n h tag page word is;
    seen = seen;
    refusals = ap (λ (x : MutatorState R). x.pass.1.refusals) is;
    holds = ap (λ (x : MutatorState R). x.pass.1.holds) is;
    held = refl;
    absent = λ there. there_none (image_in h page) there absent;
    goes_on = away_goes content heap m n h tag page word is;
  }

  -- a page that was taken is still persistent
  pub taken_page : (n : MutatorState R) (slot : Option (Value D R)) → HasTaken g heap.1 m n page slot → IsPersistent heap.1 n.pass.1.seen page
  taken_page n slot has =
      subst (λ (l : List Done). IsPersistent heap.1 l page) (sym (ap (λ (v : View). v.seen) has.taken.view)) (persistent_later heap.1 m.pass.1.seen has.taken.between page persistent)

  -- the page was taken, and its image read or found
  module _ (n o : MutatorState R) (slot : Option (Value D R)) (has : HasTaken g heap.1 m n page slot) (kept : IsMutatorOf content heap n) (read : HasOnlyRead content faults n o) where
    abbrev taken : Taken (stands_for g) pages_in (faults_in g) heap.1 m.pass.1 n.pass.1 page slot
    taken = has.taken

    not_turn : (page == turn_unit heap.1.pages) ≡ false
    not_turn = (let low = persistent.low.1 in grind (arith, nat_tests, low))

    read_view : o.pass.1 ≡ n.pass.1
    read_view = ap (λ (x : MutatorState R). x.pass.1) read.rest

    holds_now : o.pass.1.holds ≡ Took page ∷ m.pass.1.holds
    holds_now = ap (λ (v : View). v.holds) read_view ∙ ap (λ (v : View). v.holds) taken.view

    kept_now : IsMutatorOf content heap o
    kept_now = mutator_read_on content faults heap n o read kept

    far : GoesFurther heap.1 m.pass.1 o.pass.1 taken.between
    far = subst (λ (v : View). GoesFurther heap.1 m.pass.1 v taken.between) (sym read_view) (took_further g heap.1 m n page slot not_held has)

    view_now : (p : MutatorState R) → HasOnlyGiven o p → p.pass.1 ≡ record n.pass.1 { holds = p.pass.1.holds }
    view_now p is = ap (λ (x : MutatorState R). x.pass.1) is ∙ ap (λ (v : View). record v { holds = p.pass.1.holds }) read_view

    same_now : (p : MutatorState R) (held : Holding) → HasOnlyGiven o p → IsSameButHeld (moment heap tag m h) (moment heap tag p held)
    same_now p held is = took_same g heap.1 m n page slot not_held has not_turn heap tag h held p (view_now p is)
        (ap (λ (x : MutatorState R). x.pass.0) is ∙ ap (λ (x : MutatorState R). x.pass.0) read.rest) (ap (λ (x : MutatorState R). x.space) is ∙ ap (λ (x : MutatorState R). x.space) read.rest)
        (ap (λ (x : MutatorState R). x.refs) is ∙ ap (λ (x : MutatorState R). x.refs) read.rest) (ap (λ (x : MutatorState R). x.wrote) is ∙ ap (λ (x : MutatorState R). x.wrote) read.rest)

    calm_now : (p : MutatorState R) (held : Holding) → HasOnlyGiven o p → (p.pass.1.refusals ≡ m.pass.1.refusals) × DrewNothing (moment heap tag m h) (moment heap tag p held)
    calm_now p held is = took_calm g heap.1 m n page slot not_held has not_turn heap tag h held p (view_now p is)
        (ap (λ (x : MutatorState R). x.next_name) is ∙ ap (λ (x : MutatorState R). x.next_name) read.rest)

    read_same : IsSameButHeld (moment heap tag m h) (moment heap tag o h)
    read_same = same_now o h refl

    module _ (frame : FrameOfRuns) (home : KnowsHome heap.1 m.pass.1 page) (image : PageImage) (is : IsPageOf heap.1 n.pass.1.seen page image) where
      of : IsPageOf heap.1 o.pass.1.seen page image
      of = subst (λ (l : List Done). IsPageOf heap.1 l page image) (sym (ap (λ (x : MutatorState R). x.pass.1.seen) read.rest)) is

      goes : WorksOn heap.1 m.pass.1 h o.pass.1 (admitted h image) nothing_more × IsHolding heap.1 o.pass.1 m.space (admitted h image)
      goes = holdings_take_pages frame heap.1 m.pass.1 o.pass.1 m.space h taken.between page image below far absent of home persistent
          (ap (λ (v : View). holds_of v.holds page) read_view ∙ took_unit g heap.1 m n page slot not_held has)
          (λ u held. took_alone g heap.1 m n page slot not_held has u (sym (ap (λ (v : View). holds_of v.holds u) read_view) ∙ held)) was.holding

      before : (st : State) → Opens BASE heap.1.pages heap.1.opening st → (ops : List (Op × ℕ)) × Works heap.1.opening.catalog heap.1.pages (state_seen heap.1 o.pass.1 st) h ops
      before st opens = (let was_then = was.holding.works st opens in
          (was_then.0, (advances_further content heap m o h tag taken.between below far was).works st opens was_then.0 was_then.1))

      keeps : Keeps heap.1 m.pass.1 h o.pass.1 (admitted h image)
      keeps = (let on = keeps_further content heap m o h tag taken.between below far was in
          record {
            objects = record {
              usable = on.objects.usable;
              objects = on.objects.objects;
              found = λ st opens. part_of_part (found_here heap.1 m.pass.1 h st) (found_here heap.1 o.pass.1 h st) (found_here heap.1 o.pass.1 (admitted h image) st) (on.objects.found st opens)
                  (found_further heap.1 o.pass.1 h (admitted h image) kept_now.lawful before goes.1.works (admitted_pages h image) st opens);
            };
            word = on.word;
          })

      pub held_underway : IsUnderway content (moment heap tag o (admitted h image))
      held_underway = record {
        mutator = kept_now;
        known = subst (λ (l : List Bool × List Bool). RemembersHere heap.1 o.pass.1 (admitted h image) l.0 l.1) (λ i. (sym read_same.refs i, sym read_same.wrote i))
            (row_kept heap.1 m.pass.1 o.pass.1 h (admitted h image) keeps m.refs m.wrote read_same.words was.known);
        holding = subst (λ (k : ℕ). IsHolding heap.1 o.pass.1 k (admitted h image)) (sym read_same.space) goes.1;
        named = subst (λ (k : ℕ). HasNamesBelow k h) (sym (calm_now o h refl).1.3) was.named;
      }

      here : image_in h image.page ≡ None
      here = ap (image_in h) of.home ∙ absent

      pub held_touched : HasTouched (moment heap tag m h) (moment heap tag o (admitted h image)) page nothing_more
      held_touched = record {
        same = same_now o (admitted h image) refl;
        drew = (calm_now o (admitted h image) refl).1;
        refusals = (calm_now o (admitted h image) refl).0;
        holds = holds_now ∙ sym (ap (λ (b : Bool). if b then m.pass.1.holds else (Took page ∷ m.pass.1.holds)) not_there);
        held = ap is_some (left_here h image here page (sym of.home));
        others = λ q other. left_else h image here q (λ e. other (e ∙ of.home));
        goes_on = record { works = goes.0; keeps = keeps.objects };
      }

    -- it was given back
    module _ (p : MutatorState R) (given : p ≡ with_view o (gave o.pass.1 page)) (kept_then : IsMutatorOf content heap p) where
      then : GoesFurther heap.1 m.pass.1 p.pass.1 taken.between × ((x : ℕ) → holds_of p.pass.1.holds x ≡ true → holds_of m.pass.1.holds x ≡ true)
      then = back_further g heap.1 m n page slot not_held has p.pass.1 (ap (λ (x : MutatorState R). x.pass.1) given ∙ ap (λ (v : View). gave v page) read_view)

      back_same : IsSameButHeld (moment heap tag m h) (moment heap tag p h)
      back_same = same_now p h (gave_only o p page given)

      pub back_underway : IsUnderway content (moment heap tag p h)
      back_underway = further_underway content heap m p h tag taken.between below then.0 was then.1 back_same.words back_same.refs back_same.wrote back_same.space (calm_now p h (gave_only o p page given)).1.3 kept_then

      pub given_back : IsGivenBack (moment heap tag m h) (moment heap tag p h) page
      given_back = record {
        same = back_same;
        drew = (calm_now p h (gave_only o p page given)).1;
        refusals = (calm_now p h (gave_only o p page given)).0;
        holds = ap (λ (x : MutatorState R). x.pass.1.holds) given ∙ ap (λ (hs : List Hold). Gave page ∷ hs) holds_now;
        held = refl;
        absent = λ there. there_none (image_in h page) there absent;
        goes_on = advances_further content heap m p h tag taken.between below then.0 was;
      }

-- a load that was refused is the refusal of the page that was given back
pub load_refusal : {R : Type 0} (content : R → Option (List ℕ)) (faults : R → ℕ) (old new : TxnState R) (page : ℕ) (fault : LoadFault)
    → IfTold (told_in old).opening.file (λ bytes. IsLoaded page (read_of (told_in old).opening.catalog BASE (told_in old).frontier page (page_at page bytes)) (Err fault))
    → (fault ≡ load.PageFault → Rose (faults old.mutator.reader) (faults new.mutator.reader))
    → IsGivenBack old new page → IsTouchRefusal faults old new page (fault_of fault)
load_refusal content faults old new page load.PageFault read rose back = (rose refl, back)
load_refusal content faults old new page (load.Damaged p word) read rose back = (read, back)
load_refusal content faults old new page load.Memory read rose back = back
