-- What a view knows of a transaction that may hold its space, while others commit.
use Rattle.std.proofs.Common.{◌≡◌, ◌<◌, ◌++◌, ◌||◌, ◌&&◌, ◌∙◌, ◌⊎◌, inl, inr, ℕ, Bool, true, false, cond, List, [], ◌∷◌, Option, Some, None, is_some, unwrap_or, refl, sym, ap, subst}
use Rattle.std.proofs.lemmas.Bool.{false≢true, ne_eqb}
use Rattle.std.specs.Option.{option_or}
use Rattle.std.specs.Ordering.{nat_cmp}
use Rattle.std.specs.FinMap as map
use Rattle.std.specs.FinSet as set
use Rattle.std.specs.FinMap.{get, get-empty, empty}
use Rattle.pm3_core.specs.declared.naming.TheConstants.{BASE}
use Rattle.pm3_types.specs.Layout.{PageImage}
use Rattle.pm3_types.specs.PageForm.{is_memory_reference}
use Rattle.pm3_types.specs.Shown.{Images}
use Rattle.pm3_access.specs.Access.{HaveForm}
use Rattle.pm3_access.specs.Acts.{space_left, space_found}
use Rattle.pm3_access.specs.Holding.{Holding, HeldSpaceState, nothing_held, space_now}
use Rattle.pm3_access.proofs.InPlace.{nothing_in_place}
use Rattle.pm3_access.proofs.SoundingHeld.{sound_nothing}
use Rattle.pm3_access.proofs.SoundingPages.{form_for_more}
use Rattle.pm3_history.specs.Entry.{Pass, Done}
use Rattle.pm3_history.specs.LastImages.{last_written}
use Rattle.pm3_history.specs.Named.{book_of}
use Rattle.pm3_history.specs.Opens.{Opens}
use Rattle.pm3_history.specs.Spaces.{NamesSpace, NoneOfSpace}
use Rattle.pm3_history.specs.State.{State, now}
use Rattle.pm3_history.proofs.Laying.{some_none, there_none}
use Rattle.pm3_history.proofs.Names.{name_in_graph}
use Rattle.pm3_table.specs.declared.view.Told.{Told}
use Rattle.pm3_table.specs.declared.view.View.{View}
use Rattle.pm3_table.specs.Entries.{writes}
use Rattle.pm3_table.specs.Histories.{some_has}
use Rattle.pm3_table.specs.Holds.{holds_of, spans_of, is_in}
use Rattle.pm3_table.specs.Telling.{Lawful}
use Rattle.pm3_table.specs.Words.{space_unit}
use Rattle.pm3_table.proofs.Has.{has-append}
use Rattle.pm3_txn.specs.Heaps.{IsBelow}
use Rattle.pm3_txn.specs.Knowing.{is_in_use, state_seen}
use Rattle.pm3_txn.specs.Loads.{IsPersistent}
use Rattle.pm3_txn.specs.OwnerLaws.{GoesFurther, HoldingsBegin, HoldingsGoOn}
use Rattle.pm3_txn.specs.Owners.{WorksOn, HoldsSpace, MayHoldSpace, IsHolding, own_use}
use Rattle.pm3_txn.specs.Values as values
use Rattle.pm3_txn.specs.Values.{IsPageOf}
use Rattle.pm3_txn.specs.OwnStarts.{starts_in}
use Rattle.pm3_txn.specs.Works.{Works, IsOwnName, is_own_start}
use Rattle.pm3_txn.specs.WorkLaws.{NoneOf}
use Rattle.pm3_txn.proofs.OwnBooks.{found_booked}
use Rattle.pm3_txn.proofs.OwnerKnows.{unwritten_by, new_names_are_new, unnamed_have_none}
use Rattle.pm3_txn.proofs.Seeing.{settled_now, lawful_between, lawful_before, now_later, unwritten, use_later, persistent_later}
use Rattle.pm3_txn.proofs.Taking.{page_later}
use Rattle.pm3_txn.proofs.WorksBegin.{works_begin, no_own}
use Rattle.pm3_txn.proofs.WorksGo.{works_go_on}

pub holdings_begin : HoldingsBegin
holdings_begin told v number lawful bare = record {
  places = nothing_in_place;
  units = λ q is. absurd (there_none (get empty q) is (get-empty nat_cmp q));
  only = λ u is. absurd (false≢true (sym (bare u) ∙ is));
  persistent = λ q is. absurd (there_none (get empty q) is (get-empty nat_cmp q));
  kept = λ q. refl;
  found = λ q image is. absurd (some_none (get empty q) image is (get-empty nat_cmp q));
  space = tt;
  form = sound_nothing told.opening.catalog BASE (own_use told v nothing_held);
  names = λ st opens a n has. absurd (no_own a n has);
  works = λ st opens. ([], works_begin told.opening.catalog told.pages (state_seen told v st) (settled_now told v.seen st lawful opens));
}

-- what was written before or since was written
steady_parts : (a b c : Bool) → (a || (b || c)) ≡ false → c ≡ false
steady_parts true b c is = absurd (false≢true (sym is))
steady_parts false true c is = absurd (false≢true (sym is))
steady_parts false false c is = is

or_second : (a b : Bool) → b ≡ true → (a || b) ≡ true
or_second true b is = refl
or_second false b is = is

falls : (b : Bool) → (b ≡ true → ⊥) → b ≡ false
falls true never = absurd (never refl)
falls false never = refl

use_rises : (a b c : Bool) → (a ≡ true → c ≡ true) → (a || b) ≡ true → (c || b) ≡ true
use_rises true b c up is = ap (λ (x : Bool). x || b) (up refl)
use_rises false b true up is = refl
use_rises false b false up is = is

-- the images of a space after commits that have no pass of it
none_left : (between : List Done) (number : ℕ) → NoneOfSpace between number → values.space_left between number ≡ None
none_left [] number none = refl
none_left (d ∷ ds) number none = ap (λ (o : Option Images). option_or o (values.after_pass d.pass number)) (none_left ds number none.1) ∙ by d.pass none.0
  where
    by : (pass : Option Pass) → (NamesSpace pass number → ⊥) → values.after_pass pass number ≡ None
    by None never = refl
    by (Some p) never = ap (λ (b : Bool). cond b (Some p.after) None) (ne_eqb p.space number never)

space_later : (seen between : List Done) (number : ℕ) → values.space_left between number ≡ None → values.space_left (seen ++ between) number ≡ values.space_left seen number
space_later [] between number none = none
space_later (d ∷ ds) between number none = ap (λ (o : Option Images). option_or o (values.after_pass d.pass number)) (space_later ds between number none)

module _ (told : Told) (v w : View) (number : ℕ) (h : Holding) (between : List Done) (below : IsBelow told) (far : GoesFurther told v w between) (holding : IsHolding told v number h) where
  all : Lawful told (v.seen ++ between)
  all = subst (Lawful told) far.seen far.lawful

  before : Lawful told v.seen
  before = lawful_before told v.seen between all

  none_of : (s : Option HeldSpaceState) → MayHoldSpace told v number s → NoneOf between s
  none_of None held = tt
  none_of (Some s) held = unnamed_have_none told between s.number (far.unnamed (space_unit told.pages s.number) held.1.unit)

  -- the pages of the space, as the later view says
  spans_then : (s : HeldSpaceState) → HoldsSpace told v s → (q : ℕ) → spans_of w.spans (space_unit told.pages s.number) q ≡ spans_of v.spans (space_unit told.pages s.number) q
  spans_then s held q = far.spans s.number q held.unit

  bare_by : (s : Option HeldSpaceState) → MayHoldSpace told v number s → (q : ℕ) → is_some (space_now s q) ≡ true → last_written between q ≡ None
  bare_by None held q is = absurd (false≢true is)
  bare_by (Some s) held q is = unwritten_by between q (falls (some_has writes between q) (λ has. false≢true (sym quiet ∙ has_both has)))
    where
      spread : spans_of w.spans (space_unit told.pages s.number) q ≡ true
      spread = spans_then s held.1 q ∙ held.1.spans q ∙ ap (λ (b : Bool). b || set.contains s.free q) is

      quiet : some_has writes (v.seen ++ between) q ≡ false
      quiet = ap (λ (l : List Done). some_has writes l q) (sym far.seen)
          ∙ steady_parts _ _ (some_has writes w.seen q) (far.apart s.number q (held.1.low, far.holds (space_unit told.pages s.number) held.1.unit, spread)).bare

      has_both : some_has writes between q ≡ true → some_has writes (v.seen ++ between) q ≡ true
      has_both has = has-append writes v.seen between q ∙ or_second (some_has writes v.seen q) (some_has writes between q) has

  pub works_later : WorksOn told v h w h (λ st ops. ops)
  works_later st opens done works =
      subst (λ (l : List Done). Works told.opening.catalog told.pages (now told.opening.catalog BASE st l) h done) (sym far.seen)
      (subst (λ (s : State). Works told.opening.catalog told.pages s h done) (sym (now_later told v.seen between st))
      (works_go_on told.opening.catalog told.pages (state_seen told v st) h done between (settled_now told v.seen st before opens)
      (lawful_between told v.seen between st all opens) (λ q is. unwritten told between q (far.unnamed q (holding.units q is).0))
      (bare_by h.space holding.space) (none_of h.space holding.space) fresh works))
    where
      fresh : (n : ℕ) → IsOwnName (state_seen told v st) (space_left h.space) n → get (now told.opening.catalog BASE (state_seen told v st) between).graph.records n ≡ None
      fresh n is = of (holding.names st opens is.address n is.has)
        where
          of : (get (book_of BASE (space_found h.space)) is.address ≡ Some n) ⊎ (is_in n v.names ≡ true) → get (now told.opening.catalog BASE (state_seen told v st) between).graph.records n ≡ None
          of (inl found) =
              let settled = settled_now told v.seen st before opens in
              let there = name_in_graph told.opening.catalog BASE (state_seen told v st) is.address n settled.chronicled
              (found_booked told.opening.catalog (state_seen told v st) settled h.space works.space is.address n found) in
              absurd (some_none (get (state_seen told v st).graph.records n) there.0 there.1 is.new)
          of (inr mine) =
              let new = far.new n (ap (is_in n) far.names ∙ mine) in
              subst (λ (s : State). get s.graph.records n ≡ None) (now_later told v.seen between st)
              (subst (λ (l : List Done). get (now told.opening.catalog BASE st l).graph.records n ≡ None) far.seen
              (new_names_are_new told w n st below far.lawful new.0 new.1 opens))

  pub space_then : (s : Option HeldSpaceState) → MayHoldSpace told v number s → MayHoldSpace told w number s
  space_then None held = tt
  space_then (Some s) held = (
    held.0,
    record {
      low = held.1.low;
      unit = far.holds (space_unit told.pages s.number) held.1.unit;
      last = held.1.last ∙ ap (λ (o : Option Images). unwrap_or o map.empty)
          (sym (space_later v.seen between s.number (none_left between s.number (none_of (Some s) held)))
          ∙ ap (λ (l : List Done). values.space_left l s.number) (sym far.seen));
      sound = λ q image on. (let was = held.1.sound q image on in (
        was.0,
        was.1,
        was.2,
        form_for_more told.opening.catalog (values.space_use told v.seen s.images.found) (values.space_use told w.seen s.images.found)
            (λ a. use_rises (is_in_use told v.seen a) (is_memory_reference BASE told.pages a && starts_in s.images.found a) (is_in_use told w.seen a)
            (λ is. ap (λ (l : List Done). is_in_use told l a) far.seen ∙ use_later told v.seen between a is))
            image.page image.sheet was.3,
      ));
      within = λ q is. held.1.within q (sym (spans_then s held.1 q) ∙ is);
      spans = λ q. spans_then s held.1 q ∙ held.1.spans q;
      free = held.1.free;
      drawn = held.1.drawn;
      new = held.1.new;
      apart = λ q is. far.apart s.number q (held.1.low, far.holds (space_unit told.pages s.number) held.1.unit, is);
    },
  )

  pub units_later : (q : ℕ) → is_some (get h.pages.left q) ≡ true → (holds_of w.holds q ≡ true) × (q < told.pages)
  units_later q is = (let was = holding.units q is in (far.holds q was.0, was.1))

  pub persistent_then : (q : ℕ) → is_some (get h.pages.left q) ≡ true → IsPersistent told w.seen q
  persistent_then q is = subst (λ (l : List Done). IsPersistent told l q) (sym far.seen) (persistent_later told v.seen between q (holding.persistent q is))

  pub found_later : (q : ℕ) (image : PageImage) → get h.pages.found q ≡ Some image → IsPageOf told w.seen q image
  found_later q image is = subst (λ (l : List Done). IsPageOf told l q image) (sym far.seen)
      (page_later told v.seen between q image (far.unnamed q (holding.units q (sym (holding.kept q) ∙ ap is_some is)).0) (holding.found q image is))

  pub form_later : HaveForm told.opening.catalog (own_use told w h) h
  form_later q image on = form_for_more told.opening.catalog (own_use told v h) (own_use told w h)
      (λ a. use_rises (is_in_use told v.seen a) (is_memory_reference BASE told.pages a && is_own_start h a) (is_in_use told w.seen a)
      (λ is. ap (λ (l : List Done). is_in_use told l a) far.seen ∙ use_later told v.seen between a is))
      image.page image.sheet (holding.form q image on)

  pub names_later : (st : State) → Opens BASE told.pages told.opening st → (a n : ℕ) → get (book_of BASE (space_left h.space)) a ≡ Some n
      → (get (book_of BASE (space_found h.space)) a ≡ Some n) ⊎ (is_in n w.names ≡ true)
  names_later st opens a n has = of (holding.names st opens a n has)
    where
      of : (get (book_of BASE (space_found h.space)) a ≡ Some n) ⊎ (is_in n v.names ≡ true) → (get (book_of BASE (space_found h.space)) a ≡ Some n) ⊎ (is_in n w.names ≡ true)
      of (inl is) = inl is
      of (inr is) = inr (ap (is_in n) far.names ∙ is)

  pub holding_later : ((u : ℕ) → holds_of w.holds u ≡ true → holds_of v.holds u ≡ true) → IsHolding told w number h
  holding_later back = record {
    places = holding.places;
    units = units_later;
    only = λ u is. holding.only u (back u is);
    persistent = persistent_then;
    kept = holding.kept;
    found = found_later;
    space = space_then h.space holding.space;
    form = form_later;
    names = names_later;
    works = λ st opens. (let was = holding.works st opens in (was.0, works_later st opens was.0 was.1));
  }

pub holdings_go_on : HoldingsGoOn
holdings_go_on told v w number h between below far holding =
    (works_later told v w number h between below far holding, holding_later told v w number h between below far holding)
