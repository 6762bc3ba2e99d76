-- A transaction that may hold its space, once a page or its space was taken, and where it holds pages alone.
use Rattle.std.proofs.Common.{◌≡◌, ◌≢◌, ◌<◌, ◌≤◌, ◌++◌, ◌||◌, ◌&&◌, ◌∙◌, ◌⊎◌, inl, inr, ℕ, ◌==◌, Bool, true, false, nat_lt, List, [], ◌∷◌, Option, Some, None, is_some, refl, sym, ap, subst}
use Rattle.std.proofs.lemmas.Bool.{cases_eq, false≢true, eq-eqb, ne_eqb, lt-ltb}
use Rattle.std.specs.Option.{option_or}
use Rattle.std.specs.FinMap as map
use Rattle.std.specs.FinMap.{get, contains_key-keys}
use Rattle.std.specs.Cmp.{unsigned_tied}
use Rattle.std.specs.List.{list_any}
use Rattle.std.specs.Ordering.{nat_cmp, eq_by_cmp}
use Rattle.std.specs.FinSet as set
use Rattle.pm3_core.specs.declared.naming.TheConstants.{BASE}
use Rattle.pm3_types.specs.Layout.{PageImage}
use Rattle.pm3_types.specs.PageForm.{HasForm, is_memory_reference}
use Rattle.pm3_graph.specs.Frame.{FrameOfRuns}
use Rattle.pm3_page.specs.PageMap.{IsAtHome}
use Rattle.pm3_access.specs.Holding.{Holding, HeldImages, HeldSpaceState, SpaceState, image_in, admitted, with_held_space}
use Rattle.pm3_access.proofs.Homes as images_at
use Rattle.pm3_access.proofs.InPlace.{admitted_in_place, space_in_place}
use Rattle.pm3_access.proofs.SoundingHeld.{sound_admitted, sound_held_space}
use Rattle.pm3_access.proofs.SoundingPages.{form_for_more}
use Rattle.pm3_history.specs.Entry.{Done}
use Rattle.pm3_history.specs.Homes.{IsHome}
use Rattle.pm3_history.proofs.Laying.{one_value, some_none}
use Rattle.pm3_table.specs.declared.view.Told.{Told}
use Rattle.pm3_table.specs.declared.view.View.{View}
use Rattle.pm3_table.specs.Entries.{writes}
use Rattle.pm3_table.specs.Histories.{some_has}
use Rattle.pm3_table.specs.Holds.{holds_of, spans_of, is_in}
use Rattle.pm3_table.specs.Telling.{Lawful, IsOnlyIn, is_steady}
use Rattle.pm3_table.specs.Words.{space_unit}
use Rattle.pm3_txn.specs.Heaps.{IsBelow}
use Rattle.pm3_txn.specs.Knowing.{KnowsHome, is_in_use, state_seen}
use Rattle.pm3_txn.specs.Loads.{IsPersistent}
use Rattle.pm3_txn.specs.OwnerLaws.{GoesFurther, HoldingsAlone, HoldingsTakePages, HoldingsTakeSpaces}
use Rattle.pm3_txn.specs.Owners.{WorksOn, IsOwnUnit, IsHolding, own_use}
use Rattle.pm3_txn.specs.Slots.{pages_of}
use Rattle.pm3_txn.specs.Underway.{IsUnder}
use Rattle.pm3_txn.specs.Values.{IsPageOf, IsSpaceOf, space_use}
use Rattle.pm3_txn.specs.OwnStarts.{starts_in}
use Rattle.pm3_txn.specs.Works.{is_own_start}
use Rattle.pm3_txn.proofs.OwnerGoes.{works_later, space_then, units_later, persistent_then, found_later, form_later, names_later}
use Rattle.pm3_txn.proofs.OwnerKnows.{spaces_are_last}
use Rattle.pm3_txn.proofs.Seeing.{settled_now, home_later, persistent_later, use_form}
use Rattle.pm3_txn.proofs.Taking.{page_sound}
use Rattle.pm3_txn.proofs.WorksAdmit.{works_admit}
use Rattle.pm3_txn.proofs.WorksBegin.{works_alone}
use Rattle.pm3_txn.proofs.WorksSpace.{works_take_space}

or_first : (a b : Bool) → a ≡ true → (a || b) ≡ true
or_first a b is = ap (λ x. x || b) is

module _ (frame : FrameOfRuns) (told : Told) (v w : View) (number : ℕ) (h : Holding) (between : List Done) (page : ℕ) (image : PageImage) (below : IsBelow told) (far : GoesFurther told v w between)
    (absent : image_in h page ≡ None) (of : IsPageOf told w.seen page image) (home : KnowsHome told v page) (persistent : IsPersistent told v.seen page) (taken : holds_of w.holds page ≡ true)
    (back : (u : ℕ) → holds_of w.holds u ≡ true → (u ≡ page) ⊎ (holds_of v.holds u ≡ true)) (holding : IsHolding told v number h) where
  here : image_in h image.page ≡ None
  here = ap (image_in h) of.home ∙ absent

  pub works_taken : WorksOn told v h w (admitted h image) (λ st ops. ops)
  works_taken st opens done works =
      works_admit frame told.opening.catalog told.pages (state_seen told w st) h done image (settled_now told w.seen st far.lawful opens) here
      (ap (get (state_seen told w st).pages) of.home ∙ of.last st opens)
      (subst (IsHome BASE (state_seen told w st)) (sym of.home) (home_later told v w between page far.seen far.lawful home st opens))
      (subst (λ (q : ℕ). 2 ≤ q) (sym of.home) of.low.0)
      (page_sound told w.seen page image of) (works_later told v w number h between below far holding st opens done works)

  pub holding_taken : IsHolding told w number (admitted h image)
  holding_taken = record {
    places = admitted_in_place h holding.places image here;
    units = λ q is. elim (cases_eq q image.page) [
      | inl e ↦ (ap (holds_of w.holds) (e ∙ of.home) ∙ taken, subst (λ (n : ℕ). n < told.pages) (sym (e ∙ of.home)) of.low.1)
      | inr ne ↦ units_later told v w number h between below far holding q (sym (left_other q ne) ∙ is)
    ];
    only = λ u is. by u (back u is);
    persistent = λ q is. elim (cases_eq q image.page) [
      | inl e ↦ subst (λ (n : ℕ). IsPersistent told w.seen n) (sym (e ∙ of.home)) (subst (λ (l : List Done). IsPersistent told l page) (sym far.seen) (persistent_later told v.seen between page persistent))
      | inr ne ↦ persistent_then told v w number h between below far holding q (sym (left_other q ne) ∙ is)
    ];
    kept = λ q. elim (cases_eq q image.page) [
      | inl e ↦ ap is_some (images_at.get_same h.pages.found image.page q image e) ∙ sym (ap is_some (images_at.get_same h.pages.left image.page q image e))
      | inr ne ↦ ap is_some (images_at.get_other h.pages.found image.page q image ne) ∙ holding.kept q ∙ sym (left_other q ne)
    ];
    found = λ q x is. elim (cases_eq q image.page) [
      | inl e ↦ (let same : image ≡ x = one_value (get (map.insert h.pages.found image.page image) q) image x (images_at.get_same h.pages.found image.page q image e) is in
          subst (λ (n : ℕ). IsPageOf told w.seen n x) (sym (e ∙ of.home)) (subst (IsPageOf told w.seen page) same of))
      | inr ne ↦ found_later told v w number h between below far holding q x (sym (images_at.get_other h.pages.found image.page q image ne) ∙ is)
    ];
    space = space_then told v w number h between below far holding h.space holding.space;
    form = sound_admitted told.opening.catalog BASE (own_use told w h) h image
        (form_for_more told.opening.catalog (is_in_use told w.seen) (own_use told w h)
        (λ a is. or_first (is_in_use told w.seen a) (is_memory_reference BASE told.pages a && is_own_start h a) is) image.page image.sheet
        (subst (λ (n : ℕ). HasForm told.opening.catalog (is_in_use told w.seen) n image.sheet) (sym of.home) of.form))
        (form_later told v w number h between below far holding);
    names = names_later told v w number h between below far holding;
    works = λ st opens. (let was = holding.works st opens in (was.0, works_taken st opens was.0 was.1));
  }
    where
      left_other : (q : ℕ) → q ≢ image.page → is_some (get (map.insert h.pages.left image.page image) q) ≡ is_some (get h.pages.left q)
      left_other q ne = ap is_some (images_at.get_other h.pages.left image.page q image ne)

      by : (u : ℕ) → (u ≡ page) ⊎ (holds_of v.holds u ≡ true) → (is_some (get (map.insert h.pages.left image.page image) u) ≡ true) ⊎ IsOwnUnit told h.space u
      by u (inl e) = inl (ap is_some (images_at.get_same h.pages.left image.page u image (e ∙ sym of.home)))
      by u (inr held) = elim (cases_eq u image.page) [
        | inl e ↦ inl (ap is_some (images_at.get_same h.pages.left image.page u image e))
        | inr ne ↦ before (holding.only u held)
      ]
        where
          before : (is_some (get h.pages.left u) ≡ true) ⊎ IsOwnUnit told h.space u → (is_some (get (map.insert h.pages.left image.page image) u) ≡ true) ⊎ IsOwnUnit told h.space u
          before (inr own) = inr own
          before (inl is) = elim (cases_eq u image.page) [
            | inl e ↦ inl (ap is_some (images_at.get_same h.pages.left image.page u image e))
            | inr ne ↦ inl (left_other u ne ∙ is)
          ]

pub holdings_take_pages : FrameOfRuns → HoldingsTakePages
holdings_take_pages frame told v w number h between page image below far absent of home persistent taken back holding =
    (works_taken frame told v w number h between page image below far absent of home persistent taken back holding, holding_taken frame told v w number h between page image below far absent of home persistent taken back holding)

-- the pages of a space, as the table tells them
key_in : (p : ℕ) (ks : List ℕ) → list_any (eq_by_cmp nat_cmp p) ks ≡ is_in p ks
key_in p [] = refl
key_in p (k ∷ ks) = (λ i. same (cases_eq k p) i || key_in p ks i)
  where
    same : (k ≡ p) ⊎ (k ≢ p) → eq_by_cmp nat_cmp p k ≡ (k == p)
    same (inl e) = unsigned_tied p k ∙ eq-eqb p k (sym e) ∙ sym (eq-eqb k p e)
    same (inr ne) = unsigned_tied p k ∙ ne_eqb p k (λ e. ne (sym e)) ∙ sym (ne_eqb k p ne)

in_both : (p : ℕ) (a b : List ℕ) → is_in p (a ++ b) ≡ (is_in p a || is_in p b)
in_both p [] b = refl
in_both p (x ∷ xs) b = ap (λ (t : Bool). (x == p) || t) (in_both p xs b) ∙ or_assoc (x == p) (is_in p xs) (is_in p b)
  where
    or_assoc : (u v w : Bool) → (u || (v || w)) ≡ ((u || v) || w)
    or_assoc true v w = refl
    or_assoc false v w = refl

pub pages_in_is : (space : SpaceState) (p : ℕ) → is_in p (pages_of space) ≡ (is_some (get space.images p) || set.contains space.free p)
pages_in_is space p = in_both p (map.keys space.images) (set.items space.free) ∙ (λ i. first i || second i)
  where
    first : is_in p (map.keys space.images) ≡ is_some (get space.images p)
    first = sym (key_in p (map.keys space.images)) ∙ sym (contains_key-keys space.images p)

    second : is_in p (set.items space.free) ≡ set.contains space.free p
    second = sym (key_in p (set.items space.free)) ∙ sym (set.contains-items space.free p)

or_none : (b : Bool) → b ≡ (b || false)
or_none true = refl
or_none false = refl

-- a page that is known to be persistent was in use at the start, or a commit seen wrote it
pub persistent_steady : (told : Told) (v : View) (q : ℕ) → IsPersistent told v.seen q → is_steady told v q ≡ true
persistent_steady told v q persistent = of persistent.used
  where
    of : (q < told.frontier) ⊎ (some_has writes v.seen q ≡ true) → is_steady told v q ≡ true
    of (inl low) = or_first (nat_lt q told.frontier) (is_in q v.steady || some_has writes v.seen q) (lt-ltb q told.frontier low)
    of (inr has) = last_of (nat_lt q told.frontier) (is_in q v.steady) (some_has writes v.seen q) has
      where
        last_of : (a b c : Bool) → c ≡ true → (a || (b || c)) ≡ true
        last_of true b c is = refl
        last_of false true c is = refl
        last_of false false c is = is

module _ (frame : FrameOfRuns) (told : Told) (v w : View) (number : ℕ) (p : HeldImages) (between : List Done) (space : SpaceState) (below : IsBelow told) (far : GoesFurther told v w between)
    (number_is : space.number ≡ number) (of : IsSpaceOf told w.seen (space_unit told.pages number) space) (at_home : IsAtHome space.images) (taken : holds_of w.holds (space_unit told.pages number) ≡ true)
    (spread : (q : ℕ) → spans_of w.spans (space_unit told.pages number) q ≡ is_in q (pages_of space))
    (back : (u : ℕ) → holds_of w.holds u ≡ true → (u ≡ space_unit told.pages number) ⊎ (holds_of v.holds u ≡ true)) (holding : IsHolding told v number (record { pages = p; space = None })) where
  abbrev h : Holding
  h = record { pages = p; space = None }

  abbrev new : Holding
  new = with_held_space h space

  low : number < 32
  low = subst (λ (n : ℕ). n < 32) number_is of.low

  spans_now : (q : ℕ) → spans_of w.spans (space_unit told.pages number) q ≡ (is_some (get space.images q) || set.contains space.free q)
  spans_now q = spread q ∙ pages_in_is space q

  -- no page of the space is held alone
  pub absent : (q : ℕ) → is_some (get space.images q) ≡ true → image_in h q ≡ None
  absent q is = ap (λ (o : Option PageImage). option_or o None) (by (get p.left q) refl)
    where
      by : (o : Option PageImage) → get p.left q ≡ o → get p.left q ≡ None
      by None none = none
      by (Some image) on = absurd (false≢true
          (sym (far.apart number q (low, taken, spans_now q ∙ or_first (is_some (get space.images q)) (set.contains space.free q) is)).bare
          ∙ persistent_steady told w q (persistent_then told v w number h between below far holding q (ap is_some on))))

  tight : (a : ℕ) → space_use told w.seen space.images a ≡ true → is_memory_reference BASE told.pages a ≡ true
  tight a is = of_both (is_in_use told w.seen a) (is_memory_reference BASE told.pages a) (starts_in space.images a) (use_form told w.seen a) is
    where
      of_both : (x y z : Bool) → (x ≡ true → y ≡ true) → (x || (y && z)) ≡ true → y ≡ true
      of_both true y z up e = up refl
      of_both false true z up e = refl
      of_both false false z up e = absurd (false≢true e)

  wide : (a : ℕ) → own_use told w h a ≡ true → own_use told w new a ≡ true
  wide a is = of_both (is_in_use told w.seen a) (is_memory_reference BASE told.pages a) (is_own_start new a) is
    where
      of_both : (x y z : Bool) → (x || (y && false)) ≡ true → (x || (y && z)) ≡ true
      of_both true y z e = refl
      of_both false true z e = absurd (false≢true e)
      of_both false false z e = absurd (false≢true e)

  pub works_spaced : WorksOn told v h w new (λ st ops. ops)
  works_spaced st opens done works =
      works_take_space frame told.opening.catalog told.pages (state_seen told w st) h done space (settled_now told w.seen st far.lawful opens) refl
      (spaces_are_last told w.seen (space_unit told.pages number) space st far.lawful of opens) at_home
      (λ q image on. (let was = of.sound q image on in form_for_more told.opening.catalog (space_use told w.seen space.images) (is_memory_reference BASE told.pages) tight image.page image.sheet was.3))
      (works_later told v w number h between below far holding st opens done works)

  pub holding_spaced : IsHolding told w number new
  holding_spaced = record {
    places = space_in_place h holding.places space refl (λ q image on. at_home q image on) absent;
    units = units_later told v w number h between below far holding;
    only = λ u is. by u (back u is);
    persistent = persistent_then told v w number h between below far holding;
    kept = holding.kept;
    found = found_later told v w number h between below far holding;
    space = (
      number_is,
      record {
        low = of.low;
        unit = ap (λ (n : ℕ). holds_of w.holds (space_unit told.pages n)) number_is ∙ taken;
        last = of.last;
        sound = of.sound;
        within = λ q is. inside q (sym (spans_here q) ∙ is);
        spans = spans_here;
        free = λ q is. (of.free q is).2;
        drawn = λ q. or_none (is_some (get space.images q));
        new = λ q is. absurd (false≢true is);
        apart = λ q is. subst (λ (n : ℕ). IsOnlyIn told w n q) (sym number_is)
            (far.apart number q (low, taken, ap (λ (n : ℕ). spans_of w.spans (space_unit told.pages n) q) (sym number_is) ∙ is));
      },
    );
    form = sound_held_space told.opening.catalog BASE (own_use told w new) h space refl
        (λ q image on. (of.sound q image on).3)
        (λ q image on. form_for_more told.opening.catalog (own_use told w h) (own_use told w new) wide image.page image.sheet (form_later told v w number h between below far holding q image on));
    names = λ st opens a n has. inl has;
    works = λ st opens. (let was = holding.works st opens in (was.0, works_spaced st opens was.0 was.1));
  }
    where
      spans_here : (q : ℕ) → spans_of w.spans (space_unit told.pages space.number) q ≡ (is_some (get space.images q) || set.contains space.free q)
      spans_here q = ap (λ (n : ℕ). spans_of w.spans (space_unit told.pages n) q) number_is ∙ spans_now q

      inside : (q : ℕ) → (is_some (get space.images q) || set.contains space.free q) ≡ true → (3 ≤ q) × (q < told.pages)
      inside q is = which (get space.images q) refl is
        where
          which : (o : Option PageImage) → get space.images q ≡ o → (is_some o || set.contains space.free q) ≡ true → (3 ≤ q) × (q < told.pages)
          which None none e = (let f = of.free q e in (f.0, f.1))
          which (Some image) on e = (let f = of.sound q image on in (f.1, f.2))

      by : (u : ℕ) → (u ≡ space_unit told.pages number) ⊎ (holds_of v.holds u ≡ true) → (is_some (get p.left u) ≡ true) ⊎ IsOwnUnit told new.space u
      by u (inl e) = inr (e ∙ ap (space_unit told.pages) (sym number_is))
      by u (inr held) = before (holding.only u held)
        where
          before : (is_some (get p.left u) ≡ true) ⊎ ⊥ → (is_some (get p.left u) ≡ true) ⊎ IsOwnUnit told new.space u
          before (inl is) = inl is
          before (inr never) = absurd never

spaced_by : FrameOfRuns → (told : Told) (v w : View) (number : ℕ) (p : HeldImages) (s : Option HeldSpaceState) (between : List Done) (space : SpaceState) → IsBelow told → GoesFurther told v w between
    → s ≡ None → space.number ≡ number → IsSpaceOf told w.seen (space_unit told.pages number) space → IsAtHome space.images
    → holds_of w.holds (space_unit told.pages number) ≡ true
    → ((q : ℕ) → spans_of w.spans (space_unit told.pages number) q ≡ is_in q (pages_of space))
    → ((u : ℕ) → holds_of w.holds u ≡ true → (u ≡ space_unit told.pages number) ⊎ (holds_of v.holds u ≡ true)) → IsHolding told v number (record { pages = p; space = s })
    → WorksOn told v (record { pages = p; space = s }) w (with_held_space (record { pages = p; space = s }) space) (λ st ops. ops) × IsHolding told w number (with_held_space (record { pages = p; space = s }) space)
spaced_by frame told v w number p (Some s) between space below far none number_is of at_home taken spread back holding = absurd (some_none (Some s) s refl none)
spaced_by frame told v w number p None between space below far none number_is of at_home taken spread back holding =
    (works_spaced frame told v w number p between space below far number_is of at_home taken spread back holding, holding_spaced frame told v w number p between space below far number_is of at_home taken spread back holding)

pub holdings_take_spaces : FrameOfRuns → HoldingsTakeSpaces
holdings_take_spaces frame told v w number h between space below far none number_is of at_home taken spread back holding =
    spaced_by frame told v w number h.pages h.space between space below far none number_is of at_home taken spread back holding

-- without a space
alone_by : (told : Told) (v : View) (number : ℕ) (p : HeldImages) (s : Option HeldSpaceState) → Lawful told v.seen → s ≡ None → IsHolding told v number (record { pages = p; space = s })
    → IsUnder told v (record { pages = p; space = s })
alone_by told v number p (Some s) lawful none holding = absurd (some_none (Some s) s refl none)
alone_by told v number p None lawful none holding = record {
  alone = refl;
  places = holding.places;
  units = λ q is. holding.units q (ap is_some (sym (just q)) ∙ is);
  only = λ u is. ap is_some (just u) ∙ only_one u (holding.only u is);
  persistent = λ q is. holding.persistent q (ap is_some (sym (just q)) ∙ is);
  kept = λ q is. holding.kept q ∙ ap is_some (sym (just q)) ∙ is;
  found = holding.found;
  form = λ q image on. form_for_more told.opening.catalog (own_use told v h) (is_in_use told v.seen) tight image.page image.sheet (holding.form q image on);
  runs = λ st opens. (let was = holding.works st opens in
      (was.0, works_alone told.opening.catalog told.pages (state_seen told v st) h was.0 (settled_now told v.seen st lawful opens) refl was.1));
}
  where
    h : Holding
    h = record { pages = p; space = None }

    just : (q : ℕ) → image_in h q ≡ get p.left q
    just q = or_left (get p.left q)
      where
        or_left : (o : Option PageImage) → option_or o None ≡ o
        or_left None = refl
        or_left (Some x) = refl

    only_one : (u : ℕ) → (is_some (get p.left u) ≡ true) ⊎ ⊥ → is_some (get p.left u) ≡ true
    only_one u (inl is) = is
    only_one u (inr never) = absurd never

    tight : (a : ℕ) → own_use told v h a ≡ true → is_in_use told v.seen a ≡ true
    tight a = of (is_in_use told v.seen a) (is_memory_reference BASE told.pages a)
      where
        of : (x y : Bool) → (x || (y && false)) ≡ true → x ≡ true
        of true y e = refl
        of false true e = e
        of false false e = e

pub holdings_alone : HoldingsAlone
holdings_alone told v number h lawful none holding = alone_by told v number h.pages h.space lawful none holding
