-- A pass that was planned over the parts of a holding and carried out, as the history knows it.
use Rattle.std.proofs.Common.{◌≡◌, ◌<◌, ◌≤◌, ◌==◌, ◌||◌, ◌∙◌, ◌⊎◌, inl, inr, ℕ, Bool, true, false, cond, nat_lt, List, [], ◌∷◌, take, drop, Option, Some, None, is_some, refl, sym, ap, subst, arith}
use Rattle.std.proofs.lemmas.Bool.{eq-eqb, eqb-true, lt-ltb, ltb-true, false≢true}
use Rattle.std.proofs.lemmas.Map.Views.{list_any-from_Contains}
use Rattle.std.specs.Cmp.{eq_by_cmp_equiv, nat_cmp_total, unsigned_tied}
use Rattle.std.specs.List.{Contains}
use Rattle.std.specs.Option.{option_or}
use Rattle.std.specs.Ordering.{nat_cmp}
use Rattle.std.specs.FinMap as map_of
use Rattle.std.specs.FinMap.{get, contains_key, contains_key-keys}
use Rattle.std.specs.FinSet as set
use Rattle.std.specs.FinSet.{contains-empty, contains-from_list, contains-insert}
use Rattle.pm3_core.specs.declared.naming.TheConstants.{BASE}
use Rattle.pm3_types.specs.Layout.{PageImage, Sheet}
use Rattle.pm3_types.specs.PageForm.{HasForm, is_memory_reference}
use Rattle.pm3_types.specs.PassMoves.{wanted_by}
use Rattle.pm3_types.specs.PassSets.{Turns}
use Rattle.pm3_types.specs.Shown.{Images as Sheets}
use Rattle.pm3_page.specs.PageMap.{Images}
use Rattle.pm3_page.specs.PageSheets.{AreSoundPages, sheet_in, sheets_of}
use Rattle.pm3_page.proofs.SheetsOf.{get-sheets_of}
use Rattle.pm3_copy.specs.CarriedOut.{IsCarriedOut}
use Rattle.pm3_copy.specs.Spreading.{before_of}
use Rattle.pm3_access.specs.declared.parted.Parted.{Parted}
use Rattle.pm3_access.specs.Holding.{Holding, HeldSpaceState}
use Rattle.pm3_access.specs.Parting.{joined}
use Rattle.pm3_access.proofs.Moved.{get_both}
use Rattle.pm3_history.specs.Laid.{laid}
use Rattle.pm3_history.specs.Lawful.{HaveForm, IsFree}
use Rattle.pm3_history.specs.Opens.{Opens}
use Rattle.pm3_history.specs.State.{State}
use Rattle.pm3_history.proofs.Laying.{none_if, one_value, some_of, there_none}
use Rattle.pm3_table.specs.declared.view.Deed.{Deed}
use Rattle.pm3_table.specs.declared.view.Told.{Told}
use Rattle.pm3_table.specs.declared.view.View.{View}
use Rattle.pm3_table.specs.Holds.{is_in, spans_of}
use Rattle.pm3_table.specs.Words.{space_unit}
use Rattle.pm3_txn.specs.CarriedPass.{Carried, IsCarriedBy, names_below, pages_in, parts_of, pass_by}
use Rattle.pm3_txn.specs.Knowing.{state_seen}
use Rattle.pm3_txn.specs.PassCommits.{HasPassed, Marks, PassState}
use Rattle.pm3_txn.proofs.PassAfter.{in_drop, in_take, joined_laid}
use Rattle.pm3_txn.proofs.PassPages.{space_pages_may_go}
use Rattle.pm3_txn.proofs.PassPlans.{parts_apart}

or_first : (a b : Bool) → a ≡ true → (a || b) ≡ true
or_first a b is = ap (λ (x : Bool). x || b) is

or_second : (a b : Bool) → b ≡ true → (a || b) ≡ true
or_second true b is = refl
or_second false b is = is

pub has_sheet : (images : Images) (q : ℕ) → contains_key (sheets_of images) q ≡ contains_key images q
has_sheet images q = ap is_some (get-sheets_of images q) ∙ of (get images q)
  where
    of : (o : Option PageImage) → is_some (sheet_in o) ≡ is_some o
    of None = refl
    of (Some image) = refl

pub in_pages : (images : Images) (q : ℕ) → set.contains (pages_in images) q ≡ contains_key images q
in_pages images q = contains-from_list nat_cmp_total (map_of.keys images) q ∙ sym (contains_key-keys images q)

-- a page that images list has one
pub key_there : (images : Images) (q : ℕ) → Contains (map_of.keys images) q → contains_key images q ≡ true
key_there images q is = contains_key-keys images q ∙ list_any-from_Contains (eq_by_cmp_equiv nat_cmp_total) q (map_of.keys images) is

-- what a page's sheet is of
pub sheet_from : (images : Images) (q : ℕ) (sheet : Sheet) → get (sheets_of images) q ≡ Some sheet → (image : PageImage) × (get images q ≡ Some image) × (image.sheet ≡ sheet)
sheet_from images q sheet is = of (get images q) refl (sym (get-sheets_of images q) ∙ is)
  where
    of : (o : Option PageImage) → get images q ≡ o → sheet_in o ≡ Some sheet → (image : PageImage) × (get images q ≡ Some image) × (image.sheet ≡ sheet)
    of None none on = absurd (cc on)
    of (Some image) some on = (image, some, one_value (Some image.sheet) image.sheet sheet refl on)

pub sheet_of : (images : Images) (q : ℕ) (image : PageImage) → get images q ≡ Some image → get (sheets_of images) q ≡ Some image.sheet
sheet_of images q image is = get-sheets_of images q ∙ ap sheet_in is

-- where one more is put to them, if it is below
module _ (next x n : ℕ) (rest : set.FinSet nat_cmp) where
  inserted : set.contains (set.insert rest x) n ≡ ((n == x) || set.contains rest n)
  inserted = contains-insert nat_cmp_total rest x n ∙ ap (λ (b : Bool). b || set.contains rest n) (unsigned_tied n x)

  -- it is the number, or one that was there
  still_below : n < next → ((x == n) ≡ false → set.contains rest n ≡ true) → set.contains (cond (nat_lt x next) (set.insert rest x) rest) n ≡ true
  still_below low there = of (nat_lt x next) refl (x == n) refl
    where
      of : (b : Bool) → nat_lt x next ≡ b → (e : Bool) → (x == n) ≡ e → set.contains (cond b (set.insert rest x) rest) n ≡ true
      of true below true same = inserted ∙ or_first (n == x) (set.contains rest n) (eq-eqb n x (sym (eqb-true x n same)))
      of true below false other = inserted ∙ or_second (n == x) (set.contains rest n) (there other)
      of false off true same = absurd (false≢true (sym off ∙ lt-ltb x next (let e = eqb-true x n same in omega (arith, e, low))))
      of false off false other = there other

  then_below : {P : Type 0} → (set.contains rest n ≡ true → (n < next) × P) → ((n == x) ≡ true → P) → set.contains (cond (nat_lt x next) (set.insert rest x) rest) n ≡ true → (n < next) × P
  then_below {P} later here = of (nat_lt x next) refl (n == x) refl
    where
      of : (b : Bool) → nat_lt x next ≡ b → (e : Bool) → (n == x) ≡ e → set.contains (cond b (set.insert rest x) rest) n ≡ true → (n < next) × P
      of true below true same on = ((let e = eqb-true n x same in let low = ltb-true x next below in omega (arith, e, low)), here same)
      of true below false other on = later (sym (ap (λ (b : Bool). b || set.contains rest n) other) ∙ sym inserted ∙ on)
      of false off e same on = later on

kept_below : (next : ℕ) (ns : List ℕ) (n : ℕ) → is_in n ns ≡ true → n < next → set.contains (names_below next ns) n ≡ true
kept_below next [] n is low = absurd (false≢true is)
kept_below next (x ∷ xs) n is low = still_below next x n (names_below next xs) low (λ other. kept_below next xs n (sym (ap (λ (b : Bool). b || is_in n xs) other) ∙ is) low)

pub only_below : (next : ℕ) (ns : List ℕ) (n : ℕ) → set.contains (names_below next ns) n ≡ true → (n < next) × (is_in n ns ≡ true)
only_below next [] n is = absurd (false≢true (sym (contains-empty nat_cmp n) ∙ is))
only_below next (x ∷ xs) n is = then_below next x n (names_below next xs)
    (λ on. let rest = only_below next xs n on in (rest.0, or_second (x == n) (is_in n xs) rest.1))
    (λ same. or_first (x == n) (is_in n xs) (eq-eqb x n (sym (eqb-true n x same)))) is

module _ (told : Told) (v : View) (number next : ℕ) (log : List Deed) (c : Carried) (has : IsCarriedBy told v number next log c) where
  abbrev p : Parted
  p = parts_of c

  abbrev h : Holding
  h = joined p

  -- the images before it, and those after it
  abbrev all : Sheets
  all = laid (sheets_of c.volatile.images) (sheets_of c.written.images)

  abbrev now : Sheets
  now = laid (sheets_of c.space_now) (sheets_of c.written_now)

  -- no page is among both
  pub before_apart : (q : ℕ) → contains_key (sheets_of c.volatile.images) q ≡ true → get (sheets_of c.written.images) q ≡ None
  before_apart q on = get-sheets_of c.written.images q ∙ ap sheet_in (parts_apart told v number p has.holding has.parted has.small refl q (sym (has_sheet c.volatile.images q) ∙ on))

  pub after_apart : (q : ℕ) → contains_key (sheets_of c.space_now) q ≡ true → get (sheets_of c.written_now) q ≡ None
  after_apart q on = get-sheets_of c.written_now q ∙ ap sheet_in (has.apart q (sym (has_sheet c.space_now q) ∙ on))

  pub done : IsCarriedOut told.opening.catalog BASE (before_of c.volatile.images c.written.images c.pins) (map_of.keys c.fresh) all now (sheets_of c.space_now) (sheets_of c.written_now)
  done = has.carried all now (joined_laid (sheets_of c.volatile.images) (sheets_of c.written.images) before_apart) (joined_laid (sheets_of c.space_now) (sheets_of c.written_now) after_apart)

  -- the pass
  abbrev pub pass : PassState
  pass = pass_by number next v.names c done.moves

  -- pages of the space, of which some have no image
  pub spans : (q : ℕ) → spans_of v.spans (space_unit told.pages number) q ≡ (contains_key c.volatile.images q || set.contains c.space.free q)
  spans q = ap (λ (n : ℕ). spans_of v.spans (space_unit told.pages n) q) (sym has.holding.space.0) ∙ has.holding.space.1.spans q

  pub free_new : (q : ℕ) → set.contains c.space.free q ≡ true → (get c.volatile.images q ≡ None) × (get c.space.found q ≡ None)
  free_new q is = (bare, none_if (get c.space.found q) (λ image there. false≢true (sym (ap is_some bare) ∙ has.holding.space.1.drawn q ∙ or_first (is_some (get c.space.found q)) (is_in q c.space.drawn) (ap is_some there))))
    where
      bare : get c.volatile.images q ≡ None
      bare = has.holding.space.1.free q is

  -- what is held alone
  alone_of : (q : ℕ) (image : PageImage) → get h.pages.left q ≡ Some image → (get c.found q ≡ Some image) ⊎ (get (sheets_of c.written.images) q ≡ Some image.sheet)
  alone_of q image is = of (get c.written.images q) refl
    where
      of : (o : Option PageImage) → get c.written.images q ≡ o → (get c.found q ≡ Some image) ⊎ (get (sheets_of c.written.images) q ≡ Some image.sheet)
      of None none = inl ((has.parted.others q image).0 (sym (get_both c.others.images c.written.images q ∙ ap (λ (o : Option PageImage). option_or o (get c.others.images q)) none) ∙ is)).1
      of (Some y) there = inr (sheet_of c.written.images q image (there ∙ ap Some (one_value (get h.pages.left q) y image ((has.parted.written q y).0 there).0 is)))

  -- each page after it was one of the space, a written one, or a fresh one
  pub own_low : (q : ℕ) → (contains_key c.volatile.images q || set.contains c.space.free q) ≡ true → (3 ≤ q) × (q < told.pages)
  own_low q on = has.holding.space.1.within q (has.holding.space.1.spans q ∙ on)

  weaken : (q : ℕ) → (3 ≤ q) × (q < told.pages) → (2 ≤ q) × (q < told.pages)
  weaken q low = (let least = low.0 in omega (arith, least), low.1)

  count : ℕ
  count = wanted_by told.opening.catalog BASE (sheets_of c.volatile.images) done.are.promoted

  free_of : (q : ℕ) → Contains (map_of.keys c.fresh) q → set.contains c.space.free q ≡ true
  free_of q is = has.are_fresh.free q (key_there c.fresh q is)

  pub space_from : (q : ℕ) → contains_key c.space_now q ≡ true → (set.contains c.pins q ≡ true) ⊎ (set.contains c.space.free q ≡ true)
  unfolding count done
  space_from q on = of ((done.space_pages q).0 (has_sheet c.space_now q ∙ on))
    where
      of : ((set.contains c.pins q ≡ true) × (Turns told.opening.catalog BASE (before_of c.volatile.images c.written.images c.pins) q → ⊥)) ⊎ Contains (drop count (map_of.keys c.fresh)) q
          → (set.contains c.pins q ≡ true) ⊎ (set.contains c.space.free q ≡ true)
      of (inl stays) = inl stays.0
      of (inr one) = inr (free_of q (in_drop count q (map_of.keys c.fresh) one))

  pub written_from : (q : ℕ) → contains_key c.written_now q ≡ true → (contains_key c.written.images q ≡ true) ⊎ ((set.contains c.pins q ≡ true) ⊎ (set.contains c.space.free q ≡ true))
  unfolding count done
  written_from q on = of ((done.written_pages q).0 (has_sheet c.written_now q ∙ on))
    where
      of : (contains_key (sheets_of c.written.images) q ≡ true) ⊎ (Turns told.opening.catalog BASE (before_of c.volatile.images c.written.images c.pins) q ⊎ Contains (take count (map_of.keys c.fresh)) q)
          → (contains_key c.written.images q ≡ true) ⊎ ((set.contains c.pins q ≡ true) ⊎ (set.contains c.space.free q ≡ true))
      of (inl changed) = inl (sym (has_sheet c.written.images q) ∙ changed)
      of (inr (inl turns)) = inr (inl turns.0)
      of (inr (inr one)) = inr (inr (free_of q (in_take count q (map_of.keys c.fresh) one)))

  pinned_there : (q : ℕ) → set.contains c.pins q ≡ true → contains_key c.volatile.images q ≡ true
  pinned_there q is = ((has.scanned.pinned q).0 is).0

  pub own_of : (q : ℕ) → (set.contains c.pins q ≡ true) ⊎ (set.contains c.space.free q ≡ true) → (contains_key c.volatile.images q || set.contains c.space.free q) ≡ true
  own_of q (inl pinned) = or_first (contains_key c.volatile.images q) (set.contains c.space.free q) (pinned_there q pinned)
  own_of q (inr free) = or_second (contains_key c.volatile.images q) (set.contains c.space.free q) free

  pub space_low : (q : ℕ) → contains_key c.space_now q ≡ true → (3 ≤ q) × (q < told.pages)
  space_low q on = own_low q (own_of q (space_from q on))

  pub written_low : (q : ℕ) → contains_key c.written_now q ≡ true → (2 ≤ q) × (q < told.pages)
  written_low q on = of (written_from q on)
    where
      of : (contains_key c.written.images q ≡ true) ⊎ ((set.contains c.pins q ≡ true) ⊎ (set.contains c.space.free q ≡ true)) → (2 ≤ q) × (q < told.pages)
      of (inl changed) = (let image = some_of (get c.written.images q) changed in (has.holding.persistent q (ap is_some ((has.parted.written q image.0).0 image.1).0)).low)
      of (inr own) = weaken q (own_low q (own_of q own))

  -- what is written is no page that was marked and that no word pins
  pub written_pinned : (q : ℕ) → contains_key c.volatile.images q ≡ true → contains_key c.written_now q ≡ true → set.contains c.pins q ≡ true
  written_pinned q there on = of (written_from q on)
    where
      of : (contains_key c.written.images q ≡ true) ⊎ ((set.contains c.pins q ≡ true) ⊎ (set.contains c.space.free q ≡ true)) → set.contains c.pins q ≡ true
      of (inl changed) = absurd (there_none (get c.written.images q) changed (parts_apart told v number p has.holding has.parted has.small refl q there))
      of (inr (inl pinned)) = pinned
      of (inr (inr free)) = absurd (there_none (get c.volatile.images q) there (free_new q free).0)

  -- a pinned page that isn't written is one of the space still
  pub pinned_now : (q : ℕ) → set.contains c.pins q ≡ true → (contains_key c.written_now q ≡ true → ⊥) → contains_key c.space_now q ≡ true
  pinned_now q pinned unwritten = sym (has_sheet c.space_now q)
      ∙ (done.space_pages q).1 (inl (pinned, λ turns. unwritten (sym (has_sheet c.written_now q) ∙ (done.written_pages q).1 (inr (inl turns)))))

  sound_form : (images : Images) → AreSoundPages told.opening.catalog BASE told.pages images → ((q : ℕ) → contains_key images q ≡ true → (2 ≤ q) × (q < told.pages))
      → HaveForm told.opening.catalog BASE told.pages (sheets_of images)
  sound_form images sound low q sheet is =
      let on = sheet_from images q sheet is in let at = low q (ap is_some on.1) in (
        at.0,
        at.1,
        subst (λ (x : Sheet). HasForm told.opening.catalog (is_memory_reference BASE told.pages) q x) on.2
            (subst (λ (n : ℕ). HasForm told.opening.catalog (is_memory_reference BASE told.pages) n on.0.sheet) (sound.home q on.0 on.1) (sound.form q on.0 on.1)),
      )

  module _ (marks : Marks) (names : next ≤ marks.next_name) (st : State) (opens : Opens BASE told.pages told.opening st)
      (rise : ((state_seen told v st).next_name ≤ marks.next_name) × ((state_seen told v st).high_page ≤ marks.high_page))
      (high : (q : ℕ) → contains_key c.written_now q ≡ true → q < marks.high_page) (most : marks.high_page ≤ told.pages) where
    abbrev then : State
    then = state_seen told v st

    may_go : (q : ℕ) → spans_of v.spans (space_unit told.pages number) q ≡ true → ((get then.owner q ≡ Some number) × (is_some (get c.space.found q) ≡ true)) ⊎ (IsFree BASE then q × (get c.space.found q ≡ None))
    may_go q is = space_pages_may_go told v number h (record { number = c.space.number; images = record { left = c.volatile.images; found = c.space.found }; free = c.space.free; room = c.space.room; first = c.space.first; current = c.space.current; drawn = c.space.drawn })
        q st has.below has.lawful has.holding refl opens is

    fresh_free : (q : ℕ) → set.contains c.space.free q ≡ true → IsFree BASE then q
    fresh_free q is = of (may_go q (spans q ∙ or_second (contains_key c.volatile.images q) (set.contains c.space.free q) is))
      where
        of : ((get then.owner q ≡ Some number) × (is_some (get c.space.found q) ≡ true)) ⊎ (IsFree BASE then q × (get c.space.found q ≡ None)) → IsFree BASE then q
        of (inl own) = absurd (there_none (get c.space.found q) own.1 (free_new q is).1)
        of (inr free) = free.0

    pub passed : HasPassed told.opening.catalog told.pages then h marks pass
    passed = record {
      held = refl;
      number = λ t is. ap (λ (t : HeldSpaceState). t.number) (one_value h.space t _ is refl) ∙ has.holding.space.0;
      changed = λ q sheet is. (let on = sheet_from c.written.images q sheet is in get-sheets_of h.pages.left q ∙ ap sheet_in ((has.parted.written q on.0).0 on.1).0 ∙ ap Some on.2);
      others = alone_of;
      marked = λ q. in_pages c.volatile.images q ∙ sym (has_sheet c.volatile.images q);
      words = has.scanned.wide;
      pinned = λ q. (
        λ is. (let both = (has.scanned.pinned q).0 is in (in_pages c.volatile.images q ∙ both.0, both.1)),
        λ is. (has.scanned.pinned q).1 (sym (in_pages c.volatile.images q) ∙ is.0, is.1),
      );
      drawn = λ q is. of_drawn q (may_go q (spans q ∙ or_first (contains_key c.volatile.images q) (set.contains c.space.free q) (sym (has_sheet c.volatile.images q) ∙ is)));
      fresh = λ q is. (let free = has.are_fresh.free q (key_there c.fresh q is) in (fresh_free q free, get-sheets_of c.volatile.images q ∙ ap sheet_in (free_new q free).0));
      carried = done;
      moves = refl;
      apart = after_apart;
      after_form = sound_form c.space_now has.space_sound (λ q on. weaken q (space_low q on));
      written_form = sound_form c.written_now has.written_sound written_low;
      made = λ a n own. of_made a n (has.holding.names st opens a n own) (has.named a n own);
      names = λ n is. (let low = (only_below next v.names n is).0 in omega (arith, low, names));
      names_rise = rise.0;
      pages_rise = rise.1;
      high = λ q is. high q (sym (has_sheet c.written_now q) ∙ is);
      most = most;
    }
      where
        of_drawn : (q : ℕ) → ((get then.owner q ≡ Some number) × (is_some (get c.space.found q) ≡ true)) ⊎ (IsFree BASE then q × (get c.space.found q ≡ None)) → (get then.owner q ≡ Some number) ⊎ IsFree BASE then q
        of_drawn q (inl own) = inl own.0
        of_drawn q (inr free) = inr free.0

        of_made : (a n : ℕ) → {X : Type 0} → X ⊎ (is_in n v.names ≡ true) → X ⊎ (n < next) → X ⊎ (set.contains (names_below next v.names) n ≡ true)
        of_made a n (inl old) other = inl old
        of_made a n (inr drew) (inl old) = inl old
        of_made a n (inr drew) (inr low) = inr (kept_below next v.names n drew low)
