-- What a pass that was planned leaves once it is carried out, and the entry of its commit.
use Rattle.std.proofs.Common.{◌≡◌, ◌<◌, ◌≤◌, ◌^◌, ◌||◌, ◌&&◌, ◌∙◌, ◌⊎◌, inl, inr, ℕ, Bool, true, false, not, max, List, take, length, Option, Some, None, is_some, unwrap_or, slice_index, refl, sym, ap, subst, arith}
use Rattle.std.proofs.lemmas.Bool.{and_from, false≢true}
use Rattle.std.proofs.lemmas.Grind.{same_number_lists}
use Rattle.std.proofs.lemmas.List.{length-map, length-take}
use Rattle.std.proofs.lemmas.List.FromFn.{get_or-map-range_with_len, length-map-range_with_len}
use Rattle.std.proofs.lemmas.Map.Views.{list_any-from_Contains}
use Rattle.std.specs.Cmp.{eq_by_cmp_equiv, nat_cmp_total}
use Rattle.std.specs.List.{Contains, list_any}
use Rattle.std.specs.Option.{option_map}
use Rattle.std.specs.Ordering.{eq_by_cmp, nat_cmp}
use Rattle.std.specs.FinMap as map_of
use Rattle.std.specs.FinMap.{contains_key, get, len-entries}
use Rattle.std.specs.FinSet as set
use Rattle.atomic_table.specs.Seated.{TableId}
use Rattle.pm3_core.specs.declared.events.TheConstants.{PLACES}
use Rattle.pm3_core.specs.declared.naming.TheConstants.{BASE}
use Rattle.pm3_disk.specs.declared.outside.Disk.{Ghosts}
use Rattle.pm3_types.specs.Fields.{Fields}
use Rattle.pm3_types.specs.Layout.{PageImage}
use Rattle.pm3_types.specs.PassMoves as pass_moves
use Rattle.pm3_types.specs.PassMoves.{AreMovers, AreMoves, wanted_by}
use Rattle.pm3_types.specs.PassSets.{Before, Promoted, Turns, is_pinned}
use Rattle.pm3_types.specs.PassShown.{AreJoined}
use Rattle.pm3_types.specs.Shown.{Images as Sheets}
use Rattle.pm3_page.specs.PageMap.{Images}
use Rattle.pm3_page.specs.PageSheets.{AreSoundPages, sheets_of}
use Rattle.pm3_copy.specs.CarriedOut.{IsCarriedOut}
use Rattle.pm3_copy.specs.Planning.{IsPlan}
use Rattle.pm3_copy.specs.Spreading.{before_of}
use Rattle.pm3_access.specs.declared.parted.Parted.{Parted}
use Rattle.pm3_access.specs.Acts.{space_left}
use Rattle.pm3_access.specs.Parting.{joined}
use Rattle.pm3_access.specs.Parts.{SpaceRest, with_images}
use Rattle.pm3_access.proofs.SoundingPages.{image_for_more}
use Rattle.pm3_history.specs.Entry.{Done}
use Rattle.pm3_history.specs.Named.{book_of}
use Rattle.pm3_history.proofs.Laying.{none_if, there_none}
use Rattle.pm3_journal.specs.declared.entry.Entry.{Entry}
use Rattle.pm3_table.specs.declared.view.Deed.{Deed}
use Rattle.pm3_table.specs.declared.view.Told.{Told}
use Rattle.pm3_table.specs.declared.view.View.{View}
use Rattle.pm3_table.specs.Holds.{spans_of}
use Rattle.pm3_table.specs.Reads.{read_of}
use Rattle.pm3_table.specs.Words.{space_unit, turn_unit}
use Rattle.pm3_txn.specs.declared.prepared.Prepared.{Prepared}
use Rattle.pm3_txn.specs.CarriedPass.{Carried, IsCarriedBy, parts_of}
use Rattle.pm3_txn.specs.Committing.{AreFiled, AreWritable, IsDoneOf, IsEntryOf, IsParted}
use Rattle.pm3_txn.specs.Heaps.{IsBelow}
use Rattle.pm3_txn.specs.Owners.{HasNamesBelow, HoldsSpace, IsHolding, MayHoldSpace}
use Rattle.pm3_txn.specs.PassEnding.{HasCarried, HasLeft, IsPassCommit}
use Rattle.pm3_txn.specs.PassSteps.{AreFresh, IsPassing, IsPlanned, is_free, most_written, set_aside}
use Rattle.pm3_txn.specs.Pinning.{HasScanned}
use Rattle.pm3_txn.specs.SpaceCommits.{HasTurnValue, MayAppend, carried_of, commit_of, moves_planned, rest_in, words_read}
use Rattle.pm3_txn.specs.States.{MutatorState}
use Rattle.pm3_txn.specs.Underway.{IsUnderway}
use Rattle.pm3_txn.specs.Values.{TurnState}
use Rattle.pm3_txn.proofs.CommitLaws.{persistent_steady}
use Rattle.pm3_txn.proofs.MovesPlanned.{planned_long}
use Rattle.pm3_txn.proofs.PassAfter.{in_take}
use Rattle.pm3_txn.proofs.PassCarried.{done, has_sheet, key_there, written_low}
use Rattle.pm3_txn.proofs.PassDraws.{some_rest}
use Rattle.pm3_txn.proofs.PassPlans.{parts_apart, sound_wide, volatile_sound, written_sound}
use Rattle.pm3_txn.proofs.SameMoves.{same_lists}
use Rattle.pm3_txn.proofs.TurnValues.{high_low}
use Rattle.pm3_txn.proofs.WrittenCount.{few_written}

or_second : (a b : Bool) → b ≡ true → (a || b) ≡ true
or_second true b is = refl
or_second false b is = is

same_if : (a b : Bool) → (a ≡ true → b ≡ true) → (b ≡ true → a ≡ true) → a ≡ b
same_if true b to back = sym (to refl)
same_if false true to back = back refl
same_if false false to back = refl

not_off : (b : Bool) → not b ≡ true → b ≡ false
not_off true is = absurd (false≢true is)
not_off false is = refl

in_both : (a b : Bool) → (a && b) ≡ true → (a ≡ true) × (b ≡ true)
in_both true true is = (refl, refl)
in_both true false is = absurd (false≢true is)
in_both false b is = absurd (false≢true is)

rest_there : (o : Option SpaceRest) → is_some o ≡ true → o ≡ Some (rest_in o)
rest_there None is = absurd (false≢true is)
rest_there (Some s) is = refl

-- what the pass was planned over
pub parts_back : (p : Parted) (x : Prepared) (log : List Deed) (left : Parted) → is_some p.rest.space ≡ true → parts_of (carried_of p x log left) ≡ p
parts_back p x log left some = ap (λ (o : Option SpaceRest). record p { rest = record p.rest { space = o } }) (sym (rest_there p.rest.space some))

-- the words of a scan are those that it read
words_are : (log : List Deed) (words : List ℕ) → length words ≡ PLACES → ((n : ℕ) → n < PLACES → read_of log n ≡ Some (slice_index words n)) → words_read log ≡ words
words_are log words wide read = same_number_lists (words_read log) words (long ∙ sym wide) (λ k low. let there : k < PLACES = omega (arith, low, long) in
    get_or-map-range_with_len (λ n. unwrap_or (read_of log n) 0) 0 PLACES k k 0 there (omega arith) ∙ ap (λ (o : Option ℕ). unwrap_or o 0) (read k there))
  where
    long : length (words_read log) ≡ PLACES
    long = length-map-range_with_len (λ n. unwrap_or (read_of log n) 0) 0 PLACES

module _ {R : Type 0} (content : R → Option (List ℕ)) (heap : TableId × Told) (m : MutatorState R) (p : Parted) (x : Prepared) (journal : Option ℕ) (ready : IsPassing content heap m (joined p)) (parted : IsParted p)
    (planned : IsPlanned heap.1 m p journal x) (small : heap.1.pages < 16385) where
  abbrev told : Told
  told = heap.1

  abbrev catalog : List Fields
  catalog = heap.1.opening.catalog

  abbrev v : View
  v = (set_aside heap.1 m ready.log).pass.1

  abbrev s : SpaceRest
  s = rest_in p.rest.space

  abbrev before : Before
  before = before_of p.volatile.images p.written.images x.pins

  pub there : is_some p.rest.space ≡ true
  there = some_rest p.volatile.images p.rest.space ready.space

  rest_is : p.rest.space ≡ Some s
  rest_is = rest_there p.rest.space there

  space : HoldsSpace told v (with_images p.volatile.images s)
  space = of p.rest.space there ready.underway.holding.space
    where
      of : (o : Option SpaceRest) → is_some o ≡ true → MayHoldSpace told v m.space (option_map (with_images p.volatile.images) o) → HoldsSpace told v (with_images p.volatile.images (rest_in o))
      of None none held = absurd (false≢true none)
      of (Some t) some held = held.1

  pinned_there : (q : ℕ) → set.contains x.pins q ≡ true → contains_key p.volatile.images q ≡ true
  pinned_there q is = ((planned.scanned.pinned q).0 is).0

  apart_before : (q : ℕ) → contains_key p.volatile.images q ≡ true → get p.written.images q ≡ None
  apart_before = parts_apart told v m.space p ready.underway.holding parted small there

  -- a fresh page is a free one, so it has no image
  fresh_free : (q : ℕ) → contains_key x.fresh.images q ≡ true → set.contains s.free q ≡ true
  fresh_free q on = subst (λ (o : Option SpaceRest). is_free o q ≡ true) rest_is (planned.fresh.free q on)

  fresh_own : (q : ℕ) → contains_key x.fresh.images q ≡ true → spans_of v.spans (space_unit told.pages s.number) q ≡ true
  fresh_own q on = space.spans q ∙ or_second (is_some (get p.volatile.images q)) (set.contains s.free q) (fresh_free q on)

  pub fresh_low : (q : ℕ) → contains_key x.fresh.images q ≡ true → q < told.pages
  fresh_low q on = (space.within q (fresh_own q on)).1

  pub fresh_apart : (q : ℕ) → contains_key x.fresh.images q ≡ true → (get p.written.images q ≡ None) × (get p.volatile.images q ≡ None)
  fresh_apart q on = (
    none_if (get p.written.images q) (λ image there_is. false≢true (sym (space.apart q (fresh_own q on)).bare
        ∙ persistent_steady told v q (ready.underway.holding.persistent q (ap is_some ((parted.written q image).0 there_is).0)).used)),
    space.free q (fresh_free q on),
  )

  -- under another name of the catalog
  module _ (other : List Fields) (same : heap.1.opening.catalog ≡ other) where
    pub plan_other : IsPlan other BASE before x.plan
    plan_other = subst (λ (k : List Fields). IsPlan k BASE before x.plan) same planned.plan

    pub may_plan : (pinned : set.FinSet nat_cmp) × IsPlan other BASE (before_of p.volatile.images p.written.images pinned) x.plan × ((q : ℕ) → set.contains pinned q ≡ true → contains_key p.volatile.images q ≡ true)
    may_plan = (x.pins, plan_other, pinned_there)

    pub volatile_wide : AreSoundPages other BASE 16384 p.volatile.images
    volatile_wide = sound_wide catalog other told.pages p.volatile.images same small (volatile_sound told v m.space p ready.underway.holding parted small there)

    pub written_wide : AreSoundPages other BASE 16384 p.written.images
    written_wide = sound_wide catalog other told.pages p.written.images same small (written_sound told v m.space p ready.underway.holding parted small)

    module _ (volatile written : Images) where
      pub carried_back : ((pinned : set.FinSet nat_cmp) (all now : Sheets) → IsPlan other BASE (before_of p.volatile.images p.written.images pinned) x.plan
          → ((q : ℕ) → set.contains pinned q ≡ true → contains_key p.volatile.images q ≡ true) → AreJoined (sheets_of p.volatile.images) (sheets_of p.written.images) all → AreJoined (sheets_of volatile) (sheets_of written) now
          → IsCarriedOut other BASE (before_of p.volatile.images p.written.images pinned) (map_of.keys x.fresh.images) all now (sheets_of volatile) (sheets_of written))
          → (all now : Sheets) → AreJoined (sheets_of p.volatile.images) (sheets_of p.written.images) all → AreJoined (sheets_of volatile) (sheets_of written) now
          → IsCarriedOut catalog BASE before (map_of.keys x.fresh.images) all now (sheets_of volatile) (sheets_of written)
      carried_back is all now first second = subst (λ (k : List Fields). IsCarriedOut k BASE before (map_of.keys x.fresh.images) all now (sheets_of volatile) (sheets_of written)) (sym same) (is x.pins all now plan_other pinned_there first second)

      pub sound_back : ((pages : ℕ) → AreSoundPages other BASE pages p.volatile.images → AreSoundPages other BASE pages p.written.images → ((q : ℕ) → contains_key x.fresh.images q ≡ true → q < pages)
          → AreSoundPages other BASE pages volatile × AreSoundPages other BASE pages written)
          → AreSoundPages catalog BASE told.pages volatile × AreSoundPages catalog BASE told.pages written
      sound_back is = subst (λ (k : List Fields). AreSoundPages k BASE told.pages volatile × AreSoundPages k BASE told.pages written) (sym same) (is told.pages
          (subst (λ (k : List Fields). AreSoundPages k BASE told.pages p.volatile.images) same (volatile_sound told v m.space p ready.underway.holding parted small there))
          (subst (λ (k : List Fields). AreSoundPages k BASE told.pages p.written.images) same (written_sound told v m.space p ready.underway.holding parted small)) fresh_low)

  -- what a pass leaves that was carried out
  module _ (left : Parted) (rest_same : left.rest ≡ p.rest) (below : IsBelow heap.1)
      (carried : (all now : Sheets) → AreJoined (sheets_of p.volatile.images) (sheets_of p.written.images) all → AreJoined (sheets_of left.volatile.images) (sheets_of left.written.images) now
      → IsCarriedOut catalog BASE before (map_of.keys x.fresh.images) all now (sheets_of left.volatile.images) (sheets_of left.written.images))
      (apart : (q : ℕ) → contains_key left.volatile.images q ≡ true → get left.written.images q ≡ None)
      (sound : AreSoundPages catalog BASE told.pages left.volatile.images × AreSoundPages catalog BASE told.pages left.written.images) where
    abbrev c : Carried
    c = carried_of p x m.pass.1.log left

    parts_same : parts_of c ≡ p
    parts_same = parts_back p x m.pass.1.log left there

    back : (P : Parted → Type 0) → P p → P (parts_of c)
    back P is = subst P (sym parts_same) is

    by : IsCarriedBy told v m.space m.next_name m.pass.1.log c
    by = record {
      below = below;
      small = small;
      lawful = ready.underway.mutator.lawful;
      holding = back (λ q. IsHolding told v m.space (joined q)) ready.underway.holding;
      named = back (λ q. HasNamesBelow m.next_name (joined q)) ready.underway.named;
      parted = back IsParted parted;
      scanned = subst (λ (l : List ℕ). HasScanned told.pages m.pass.1.log (contains_key p.volatile.images) l x.pins) (sym (words_are m.pass.1.log planned.words planned.scanned.wide planned.scanned.read)) planned.scanned;
      are_fresh = subst (λ (o : Option SpaceRest). AreFresh o x.fresh.images) rest_is planned.fresh;
      carried = carried;
      apart = apart;
      space_sound = sound.0;
      written_sound = sound.1;
    }

    written_is : (q : ℕ) → (contains_key left.written.images q ≡ true)
        → (contains_key p.written.images q ≡ true) ⊎ (Turns catalog BASE before q ⊎ Contains (take (wanted_by catalog BASE before.space x.plan.promoted) (map_of.keys x.fresh.images)) q)
    written_is q on = of (((done told v m.space m.next_name m.pass.1.log c by).written_pages q).0 (has_sheet left.written.images q ∙ on))
      where
        same : (done told v m.space m.next_name m.pass.1.log c by).are.promoted ≡ x.plan.promoted
        same = same_lists (λ a. Promoted catalog BASE before a × (pinned_at a ≡ false)) (done told v m.space m.next_name m.pass.1.log c by).are.promoted x.plan.promoted
            (done told v m.space m.next_name m.pass.1.log c by).are.of_promoted planned.plan.promoted
          where
            pinned_at : ℕ → Bool
            pinned_at a = is_pinned BASE before a

        of : (contains_key (sheets_of p.written.images) q ≡ true)
            ⊎ (Turns catalog BASE before q ⊎ Contains (take (wanted_by catalog BASE before.space (done told v m.space m.next_name m.pass.1.log c by).are.promoted) (map_of.keys x.fresh.images)) q)
            → (contains_key p.written.images q ≡ true) ⊎ (Turns catalog BASE before q ⊎ Contains (take (wanted_by catalog BASE before.space x.plan.promoted) (map_of.keys x.fresh.images)) q)
        of (inl old) = inl (sym (has_sheet p.written.images q) ∙ old)
        of (inr (inl turns)) = inr (inl turns)
        of (inr (inr fresh)) = inr (inr (subst (λ (l : List ℕ). Contains (take (wanted_by catalog BASE before.space l) (map_of.keys x.fresh.images)) q) same fresh))

    turned_written : (q : ℕ) → Turns catalog BASE before q → contains_key left.written.images q ≡ true
    turned_written q turns = sym (has_sheet left.written.images q) ∙ ((done told v m.space m.next_name m.pass.1.log c by).written_pages q).1 (inr (inl turns))

    turned_now : (q : ℕ) → set.contains x.plan.turned q ≡ true → (set.contains x.pins q ≡ true) × (contains_key left.written.images q ≡ true)
    turned_now q is = (let turns = (planned.plan.turned q).0 is in (turns.0, turned_written q turns))

    pub has : HasCarried content heap m c
    has = record {
      ready = record {
        log = ready.log;
        words = ready.words;
        stands = ready.stands;
        underway = back (λ q. IsUnderway content (record { heap = heap; mutator = set_aside heap.1 m ready.log; held = joined q; tag = 0 })) ready.underway;
        turn = ready.turn;
        space = back (λ q. is_some (joined q).space ≡ true) ready.space;
      };
      carried = by;
      turned_row = λ q page tagged on names. turned_now page (planned.turns q page tagged on names);
    }

    -- a pinned page that is written now is one that turns persistent
    pinned_turns : (q : ℕ) → set.contains x.pins q ≡ true → contains_key left.written.images q ≡ true → set.contains x.plan.turned q ≡ true
    pinned_turns q pinned on = of (written_is q on)
      where
        of : (contains_key p.written.images q ≡ true) ⊎ (Turns catalog BASE before q ⊎ Contains (take (wanted_by catalog BASE before.space x.plan.promoted) (map_of.keys x.fresh.images)) q) → set.contains x.plan.turned q ≡ true
        of (inl old) = absurd (there_none (get p.written.images q) old (apart_before q (pinned_there q pinned)))
        of (inr (inl turns)) = (planned.plan.turned q).1 turns
        of (inr (inr fresh)) = absurd (there_none (get p.volatile.images q) (pinned_there q pinned) (fresh_apart q (key_there x.fresh.images q (in_take (wanted_by catalog BASE before.space x.plan.promoted) q (map_of.keys x.fresh.images) fresh))).1)

    freed_is : (q : ℕ) → set.contains x.plan.freed q ≡ (contains_key p.volatile.images q && not (set.contains x.pins q))
    freed_is q = same_if (set.contains x.plan.freed q) (contains_key p.volatile.images q && not (set.contains x.pins q))
        (λ is. let both = (planned.plan.freed q).0 is in and_from (contains_key p.volatile.images q) (not (set.contains x.pins q)) (sym (has_sheet p.volatile.images q) ∙ both.0) (ap not both.1))
        (λ is. let both = in_both (contains_key p.volatile.images q) (not (set.contains x.pins q)) is in (planned.plan.freed q).1 (has_sheet p.volatile.images q ∙ both.0, not_off (set.contains x.pins q) both.1))

    pub has_left : HasLeft c left x.pins x.plan.turned x.plan.freed
    has_left = record {
      volatile = refl;
      written = refl;
      rest = rest_same ∙ sym (ap (λ (q : Parted). q.rest) parts_same);
      pins_are = refl;
      promoted_are = λ q. same_if (set.contains x.plan.turned q) (set.contains x.pins q && contains_key left.written.images q)
          (λ is. let both = turned_now q is in and_from (set.contains x.pins q) (contains_key left.written.images q) both.0 both.1)
          (λ is. let both = in_both (set.contains x.pins q) (contains_key left.written.images q) is in pinned_turns q both.0 both.1);
      freed_are = freed_is;
    }

    abbrev fresh_pages : List ℕ
    fresh_pages = map_of.keys x.fresh.images

    abbrev wanted : ℕ
    wanted = wanted_by catalog BASE before.space x.plan.promoted

    one_of : (q : ℕ) → (contains_key p.written.images q ≡ true) ⊎ (Turns catalog BASE before q ⊎ Contains (take wanted fresh_pages) q)
        → (contains_key p.written.images q ≡ true) ⊎ ((list_any (eq_by_cmp nat_cmp q) (take wanted fresh_pages) ≡ true) ⊎ (set.contains x.plan.turned q ≡ true))
    one_of q (inl old) = inl old
    one_of q (inr (inl turns)) = inr (inr ((planned.plan.turned q).1 turns))
    one_of q (inr (inr new)) = inr (inl (list_any-from_Contains (eq_by_cmp_equiv nat_cmp_total) q (take wanted fresh_pages) new))

    -- it writes no more pages than there is room for
    pub written_few : map_of.len left.written.images ≤ most_written p x.plan
    written_few =
        let few = few_written left.written.images p.written.images (take wanted fresh_pages) x.plan.turned (λ q on. one_of q (written_is q on)) in
        let long = length-take wanted fresh_pages in let same = planned.plan.persistent in omega (arith, few, long, same)

    pub writes : AreWritable catalog told.pages left.written.images
    writes q image on =
        let low = written_low told v m.space m.next_name m.pass.1.log c by q (ap is_some on) in
        (sound.1.home q image on, low.0, low.1, sound.1.form q image on)

    pub writes_wide : (other : List Fields) → heap.1.opening.catalog ≡ other → AreWritable other 16384 left.written.images
    writes_wide other same = subst (λ (k : List Fields). AreWritable k 16384 left.written.images) same (λ q image on.
        let w = writes q image on in (w.0, w.1, (let low = w.2 in omega (arith, low, small)), image_for_more catalog BASE told.pages 16384 image (omega (arith, small)) w.3))

    moves_are : AreMoves catalog BASE before (map_of.keys x.fresh.images) (moves_planned catalog p x)
    moves_are = record {
      promoted = x.plan.promoted;
      kept = x.plan.kept;
      of_promoted = planned.plan.promoted;
      of_kept = planned.plan.kept;
      are = refl;
    }

    moves_count : length (moves_planned catalog p x) ≡ x.plan.moved
    moves_count = planned_long catalog (sheets_of p.volatile.images) x.plan.promoted x.plan.kept (map_of.keys x.fresh.images)
        (length-map (map_of.entries x.fresh.images) (λ (e : ℕ × PageImage). e.0) ∙ sym (len-entries x.fresh.images) ∙ planned.count
        ∙ (let one = planned.plan.persistent in let other = planned.plan.volatile in omega (arith, one, other)))
        ∙ sym planned.plan.moved

    -- the entry of the commit
    module _ {D : Type 0} (g : Ghosts D R) (turn : TurnState D R) (value : HasTurnValue g heap.1 m.pass.1 turn) (room : turn.journal.room ≡ journal) (e : Entry) (tag : ℕ)
        (other : List Fields) (same : heap.1.opening.catalog ≡ other) (is_other : IsEntryOf other tag turn left.written.images e) (filed_other : AreFiled other left.written.images)
        (name : e.next_name ≡ max turn.next_name m.next_name) (tag_low : tag < 2 ^ 32) (counts : (e.pins ≡ x.plan.pins) × (e.moved ≡ x.plan.moved)) (long : length e.pages.items ≡ map_of.len left.written.images) where
      abbrev d : Done
      d = commit_of heap.1 m p x left e

      is : IsEntryOf catalog tag turn left.written.images e
      is = subst (λ (l : List Fields). IsEntryOf l tag turn left.written.images e) (sym same) is_other

      filed : AreFiled catalog left.written.images
      filed = subst (λ (l : List Fields). AreFiled l left.written.images) (sym same) filed_other

      done_is : IsDoneOf e left.written.images d
      done_is = record {
        tag = refl;
        next_name = refl;
        high_page = refl;
        written_is = refl;
        pins = sym planned.plan.pins ∙ sym counts.0;
        moved = length-map (moves_planned catalog p x) (λ (k : pass_moves.Move). record { name = unwrap_or (get (book_of BASE (space_left (joined (parts_of c)).space)) k.from) 0; from = k.from; to = k.to }) ∙ moves_count ∙ sym counts.1;
      }

      pub may_append : MayAppend heap.1 m.next_name tag turn left e d
      may_append = record {
        entry = is;
        done = done_is;
        name = name;
        tag_low = tag_low;
        writes = writes;
        filed = filed;
        room = (planned.roomy.record_room.0, room ∙ planned.roomy.record_room.1, (let most = planned.roomy.record_room.2 in let few = written_few in omega (arith, most, few, long)));
      }

      pub commit_is : IsPassCommit content heap m c d
      commit_is = record {
        has = has;
        marks = record { tag = e.tag; mutator = m.pass.1.row; next_name = e.next_name; high_page = e.high_page };
        marks_are = record {
          mine = refl;
          low = (let greater = name in omega (arith, greater));
          rise = λ st opens. (let at = value.good.marks st opens in let n = at.0 in let q = at.1 in let names = is.names.0 in let top = is.top.most in (omega (arith, n, names), omega (arith, q, top)));
          high = is.top.above;
          most = high_low g heap.1 m.pass.1.lost m.pass.1.seen (turn_unit heap.1.pages) tag turn value.good small e left.written.images is d done_is writes filed;
        };
        moves = moves_planned catalog p x;
        moves_are = moves_are;
        is = refl;
      }
