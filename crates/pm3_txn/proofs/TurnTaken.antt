-- The turn is taken, and given back.
use Rattle.std.proofs.Common.{◌≡◌, ◌≤◌, ◌==◌, ◌++◌, ◌∙◌, inl, inr, ℕ, Bool, true, false, if◌then◌else◌, List, [], ◌∷◌, Option, Some, None, is_some, ◌⊎◌, refl, sym, ap, subst, arith}
use Rattle.std.proofs.lemmas.Bool.{cases_eq, false≢true, eq-eqb}
use Rattle.std.specs.FinMap.{get}
use Rattle.atomic_table.specs.Seated.{TableId}
use Rattle.pm3_disk.specs.declared.outside.Disk.{Ghosts}
use Rattle.pm3_access.specs.Holding.{HeldSpaceState, Holding}
use Rattle.pm3_history.specs.Entry.{Done}
use Rattle.pm3_table.specs.declared.view.Hold.{Hold}
use Rattle.pm3_table.specs.declared.view.Hold.TheVariants.{Took}
use Rattle.pm3_table.specs.declared.view.Told.{Told}
use Rattle.pm3_table.specs.declared.view.View.{View}
use Rattle.pm3_table.specs.Deeds.{word_of}
use Rattle.pm3_table.specs.Holds.{holds_of}
use Rattle.pm3_table.specs.Ops.{gave, turned}
use Rattle.pm3_table.specs.Plays.{Taken}
use Rattle.pm3_table.specs.Telling.{Lawful}
use Rattle.pm3_table.specs.Words.{turn_unit}
use Rattle.pm3_table.proofs.Put.{put_at, put_else}
use Rattle.pm3_txn.specs.declared.values.Turn.{Turn as Turns}
use Rattle.pm3_txn.specs.declared.values.Value.TheVariants.{Turn}
use Rattle.pm3_txn.specs.Aborting.{HasOnlyGiven}
use Rattle.pm3_txn.specs.Committing.{HasGivenTurn, HasTurn, MayGive}
use Rattle.pm3_txn.specs.Slots.{faults_in, pages_in, stands_for, turn_state}
use Rattle.pm3_txn.specs.Knowing.{KnowsWord}
use Rattle.pm3_txn.specs.PassSteps.{IsPassing}
use Rattle.pm3_txn.specs.SpaceCommits.{HasTurnValue}
use Rattle.pm3_txn.specs.States.{MutatorState, TxnState, told_in, view_in}
use Rattle.pm3_txn.specs.Takes.{HasTaken, with_view}
use Rattle.pm3_txn.specs.Touching.{nothing_more}
use Rattle.pm3_txn.specs.Heaps.{IsBelow}
use Rattle.pm3_txn.specs.OwnerLaws.{GoesFurther}
use Rattle.pm3_txn.specs.Owners.{AdvancesOn, IsHolding, IsOwnUnit, KnowsPlace, MayHoldSpace}
use Rattle.pm3_txn.specs.Underway.{Belongs, IsMutatorOf, IsUnderway}
use Rattle.pm3_txn.specs.Values.{IsTurnOf, TurnState}
use Rattle.pm3_txn.proofs.Advancing.{moment}
use Rattle.pm3_txn.proofs.Belonging.{belongs_taken}
use Rattle.pm3_txn.proofs.FurtherOn.{took_further, back_further, advances_further, further_underway}
use Rattle.pm3_txn.proofs.Keeping.{alone_known}
use Rattle.pm3_txn.proofs.OwnerGoes.{holdings_go_on}
use Rattle.pm3_txn.proofs.OwnerTakes.{holdings_alone}
use Rattle.pm3_txn.proofs.Touched.{no_more}

-- a transaction without its space remembers persistent objects alone
pub alone_belongs : {R : Type 0} (content : R → Option (List ℕ)) (t : TxnState R) → t.held.space ≡ None → IsUnderway content t → Belongs content t.heap t.mutator
alone_belongs content t alone underway = record { mutator = underway.mutator; known = λ q tagged. of (underway.known q tagged) }
  where
    of : {b : Bool} {a : ℕ} → KnowsPlace (told_in t) (view_in t) t.held b a → KnowsWord (told_in t) (view_in t) a
    of (inl word) = word
    of {b} {a} (inr own) = inr (alone_known (told_in t) (view_in t) t.held a alone own.1)

-- a transaction doesn't hold the turn
pub turn_free : (told : Told) (v : View) (number : ℕ) (h : Holding) → IsHolding told v number h → holds_of v.holds (turn_unit told.pages) ≡ false
turn_free told v number h holding = of (holds_of v.holds (turn_unit told.pages)) refl
  where
    of_space : (o : Option HeldSpaceState) → MayHoldSpace told v number o → IsOwnUnit told o (turn_unit told.pages) → ⊥
    of_space None held own = own
    of_space (Some s) held own = (let low = held.1.low in omega (arith, own, low))

    by : (is_some (get h.pages.left (turn_unit told.pages)) ≡ true) ⊎ IsOwnUnit told h.space (turn_unit told.pages) → ⊥
    by (inl left) = (let low = (holding.units (turn_unit told.pages) left).1 in omega (arith, low))
    by (inr own) = of_space h.space holding.space own

    of : (b : Bool) → holds_of v.holds (turn_unit told.pages) ≡ b → holds_of v.holds (turn_unit told.pages) ≡ false
    of true is = absurd (by (holding.only (turn_unit told.pages) is))
    of false is = is

-- what taking the turn makes of a view
module _ {D R : Type 0} (g : Ghosts D R) (told : Told) (m n : MutatorState R) (turn : Turns D R) (free : holds_of m.pass.1.holds (turn_unit told.pages) ≡ false)
    (has : HasTaken g told m n (turn_unit told.pages) (Some (Turn turn))) where
  abbrev unit : ℕ
  unit = turn_unit told.pages

  abbrev taken : Taken (stands_for g) pages_in (faults_in g) told m.pass.1 n.pass.1 unit (Some (Turn turn))
  taken = has.taken

  same_unit : (unit == unit) ≡ true
  same_unit = eq-eqb unit unit refl

  pub turn_seen : n.pass.1.seen ≡ m.pass.1.seen ++ taken.between
  turn_seen = ap (λ (v : View). v.seen) taken.view

  holds_now : n.pass.1.holds ≡ Took unit ∷ m.pass.1.holds
  holds_now = ap (λ (v : View). v.holds) taken.view

  pub turn_held : holds_of n.pass.1.holds unit ≡ true
  turn_held = ap (λ (hs : List Hold). holds_of hs unit) holds_now ∙ put_at (holds_of m.pass.1.holds) unit true unit refl

  lost_now : n.pass.1.lost ≡ taken.lost
  lost_now = ap (λ (v : View). v.lost) taken.view ∙ ap (λ (b : Bool). if b then taken.lost else m.pass.1.lost) same_unit

  turn_heard : n.pass.1.faults ≡ g.faults turn.journal.disk
  turn_heard = ap (λ (v : View). v.faults) taken.view ∙ ap (λ (b : Bool). if b then g.faults turn.journal.disk else m.pass.1.faults) same_unit

  pub turn_later : m.pass.1.faults ≤ n.pass.1.faults
  turn_later = (let rises = taken.heard refl in let same = turn_heard in omega (arith, rises, same))

  -- given back, it would hold what it held
  pub back_holds : (u : ℕ) → holds_of (gave n.pass.1 unit).holds u ≡ holds_of m.pass.1.holds u
  back_holds u = elim (cases_eq u unit) [
    | inl e ↦ put_at (holds_of n.pass.1.holds) unit false u e ∙ sym free ∙ ap (holds_of m.pass.1.holds) (sym e)
    | inr ne ↦ put_else (holds_of n.pass.1.holds) unit false u ne ∙ ap (λ (hs : List Hold). holds_of hs u) holds_now ∙ put_else (holds_of m.pass.1.holds) unit true u ne
  ]

  -- and the turn's value stands for it
  pub turn_value : HasTurnValue g told n.pass.1 (turn_state turn)
  turn_value = record {
    good = subst (λ (l : List Done). IsTurnOf g told n.pass.1.lost l unit (turn_state turn)) (sym turn_seen)
        (subst (λ (l : List Done). IsTurnOf g told l (m.pass.1.seen ++ taken.between) unit (turn_state turn)) (sym lost_now) taken.good);
    heard = turn_heard;
    lawful_lost = subst (λ (l : List Done). Lawful told (n.pass.1.seen ++ l)) (sym lost_now) taken.sound.lawful_lost;
  }

module _ {D R : Type 0} (g : Ghosts D R) (content : R → Option (List ℕ)) (heap : TableId × Told) where
  -- the turn beside what a transaction holds
  module _ (m n : MutatorState R) (h : Holding) (tag : ℕ) (turn : Turns D R) (was : IsUnderway content (moment heap tag m h)) (below : IsBelow heap.1)
      (has : HasTaken g heap.1 m n (turn_unit heap.1.pages) (Some (Turn turn))) where
    abbrev its_turn : ℕ
    its_turn = turn_unit heap.1.pages

    pub free_before : holds_of m.pass.1.holds its_turn ≡ false
    free_before = turn_free heap.1 m.pass.1 m.space h was.holding

    own : n.space ≡ m.space
    own = ap (λ (x : MutatorState R). x.space) has.rest

    back : GoesFurther heap.1 m.pass.1 (gave n.pass.1 its_turn) has.taken.between × ((u : ℕ) → holds_of (gave n.pass.1 its_turn).holds u ≡ true → holds_of m.pass.1.holds u ≡ true)
    back = back_further g heap.1 m n its_turn (Some (Turn turn)) free_before has (gave n.pass.1 its_turn) refl

    back_holding : IsHolding heap.1 (gave n.pass.1 its_turn) m.space h
    back_holding = (holdings_go_on heap.1 m.pass.1 (gave n.pass.1 its_turn) m.space h has.taken.between below back.0 was.holding).1 back.1

    -- what it had done goes on
    pub turn_goes : AdvancesOn heap.1 m.pass.1 h n.pass.1 h nothing_more
    turn_goes = advances_further content heap m n h tag has.taken.between below (took_further g heap.1 m n its_turn (Some (Turn turn)) free_before has) was

    -- a transaction without its space
    module _ (alone : h.space ≡ None) where
      belongs_still : Belongs content heap n
      belongs_still = belongs_taken content heap g m n its_turn (Some (Turn turn)) has (alone_belongs content (moment heap tag m h) alone was)

      pub has_turn : HasTurn g content heap n (turn_state turn) h
      has_turn = (let value = turn_value g heap.1 m n turn free_before has in record {
        belongs = belongs_still;
        holds = turn_held g heap.1 m n turn free_before has;
        good = value.good;
        heard = value.heard;
        holding = subst (λ (k : ℕ). IsHolding heap.1 (gave n.pass.1 its_turn) k h) (sym own) back_holding;
        under = holdings_alone heap.1 (gave n.pass.1 its_turn) m.space h belongs_still.mutator.lawful alone back_holding;
        lawful_lost = value.lawful_lost;
      })

    -- a transaction with its space
    module _ (spaced : is_some h.space ≡ true) (kept : IsMutatorOf content heap n) where
      pub has_passing : IsPassing content heap n h
      has_passing = record {
        log = n.pass.1.log;
        words = λ q. refl;
        stands = λ q. refl;
        underway = further_underway content heap m (with_view n (gave n.pass.1 its_turn)) h 0 has.taken.between below back.0
            (record { mutator = was.mutator; known = was.known; holding = was.holding; named = was.named }) back.1 (λ q. ap (λ (v : View). word_of v.log q) has.taken.view)
            (ap (λ (x : MutatorState R). x.refs) has.rest) (ap (λ (x : MutatorState R). x.wrote) has.rest) own (ap (λ (x : MutatorState R). x.next_name) has.rest)
            (record { of = kept.of; unmarked = kept.unmarked; lawful = kept.lawful; reads = kept.reads; tags = kept.tags; space = kept.space });
        turn = turn_held g heap.1 m n turn free_before has;
        space = spaced;
      }

  -- the room of the journal is nothing to the turn
  pub room_turn : (u : ℕ) (lost seen : List Done) (t : TurnState D R) (r : Option ℕ) → IsTurnOf g heap.1 lost seen u t
      → IsTurnOf g heap.1 lost seen u (record t { journal = record t.journal { room = r } })
  room_turn u lost seen t r is = record {
    unit = is.unit;
    origin = is.origin;
    file_is = is.file_is;
    opened_well = is.opened_well;
    opened_keeps = is.opened_keeps;
    page_count = is.page_count;
    summaries = is.summaries;
    due = is.due;
    bounds = is.bounds;
    last = is.last;
    marks = is.marks;
    name_is = is.name_is;
    none = is.none;
    records_are = is.records_are;
    tells = is.tells;
    within = is.within;
    later = is.later;
    stopped_at = is.stopped_at;
    halted = is.halted;
    whole = is.whole;
    failed = is.failed;
  }

  pub has_room : (m : MutatorState R) (turn : TurnState D R) (room : Option ℕ) (h : Holding) → HasTurn g content heap m turn h
      → HasTurn g content heap m (record turn { journal = record turn.journal { room = room } }) h
  has_room m turn room h has = record {
    belongs = has.belongs;
    holds = has.holds;
    good = room_turn (turn_unit heap.1.pages) m.pass.1.lost m.pass.1.seen turn room has.good;
    heard = has.heard;
    holding = has.holding;
    under = has.under;
    lawful_lost = has.lawful_lost;
  }

  -- it may be given back without a commit
  pub may_keep : (m : MutatorState R) (turn : TurnState D R) (h : Holding) → HasTurn g content heap m turn h → MayGive g heap.1 m.pass.1 turn [] []
  may_keep m turn h has = record {
    good = subst (λ (l : List Done). IsTurnOf g heap.1 l (m.pass.1.seen ++ []) (turn_unit heap.1.pages) turn) (no_more m.pass.1.lost)
        (subst (λ (l : List Done). IsTurnOf g heap.1 m.pass.1.lost l (turn_unit heap.1.pages) turn) (no_more m.pass.1.seen) has.good);
    heard = (let same = has.heard in omega (arith, same));
    may = record {
      lawful = subst (Lawful heap.1) (no_more m.pass.1.seen) has.belongs.mutator.lawful;
      lawful_lost = subst (λ (l : List Done). Lawful heap.1 (l ++ (m.pass.1.lost ++ []))) (no_more m.pass.1.seen)
          (subst (λ (l : List Done). Lawful heap.1 (m.pass.1.seen ++ l)) (no_more m.pass.1.lost) has.lawful_lost);
      single = (inr refl, inr refl);
      own = tt;
      held = λ u none. refl;
      drawn = λ n is. absurd (false≢true is);
      used = λ p is. absurd (false≢true is);
      cleared = λ p is. absurd (false≢true is);
      kept = λ j p is. absurd (false≢true is);
      read = tt;
    };
  }

module _ {R : Type 0} where
  -- the turn was given back
  pub given_turn : (m n : MutatorState R) (turn : ℕ) (more failed : List Done) (faults : ℕ) → n ≡ with_view m (turned turn m.pass.1 more failed faults)
      → HasGivenTurn m n more failed faults
  given_turn m n turn more failed faults is = subst (λ (x : MutatorState R). HasGivenTurn m x more failed faults) (sym is)
      (record { rest = refl; seen = refl; mine = refl; failed_are = refl; heard = refl })

  -- and then other units
  pub given_units : (m n p : MutatorState R) (more failed : List Done) (faults : ℕ) → HasGivenTurn m n more failed faults → HasOnlyGiven n p
      → HasGivenTurn m p more failed faults
  given_units m n p more failed faults given only =
      subst (λ (x : MutatorState R). HasGivenTurn m x more failed faults) (sym only) (of p.pass.1.holds)
    where
      of : (hs : List Hold) → HasGivenTurn m (with_view n (record n.pass.1 { holds = hs })) more failed faults
      of hs = record {
        rest = ap (λ (x : MutatorState R). with_view x (record x.pass.1 { holds = hs })) given.rest;
        seen = given.seen;
        mine = given.mine;
        failed_are = given.failed_are;
        heard = given.heard;
      }
