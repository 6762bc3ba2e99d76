-- A transaction whose view draws names and pages, and its space when a page is drawn into it.
use Rattle.std.proofs.Common.{◌≡◌, ◌≢◌, ◌<◌, ◌≤◌, ◌++◌, ◌+◌, ◌==◌, ◌||◌, ◌&&◌, ◌∙◌, ◌⊎◌, inl, inr, ℕ, Bool, true, false, nat_lt, List, [], ◌∷◌, Option, Some, None, is_some, unwrap_or, refl, sym, ap, subst}
use Rattle.std.proofs.lemmas.Bool.{cases_eq, false≢true, eq-eqb, ne_eqb}
use Rattle.std.specs.Prelude.{not}
use Rattle.std.specs.Option.{option_or}
use Rattle.std.specs.Cmp.{nat_cmp_total, unsigned_tied}
use Rattle.std.specs.FinMap as map
use Rattle.std.specs.FinMap.{get, insert}
use Rattle.std.specs.FinSet as set
use Rattle.std.specs.FinSet.{contains-remove}
use Rattle.pm3_core.specs.declared.naming.TheConstants.{BASE}
use Rattle.pm3_types.specs.Layout.{PageImage, blank_sheet, page_in, word_in}
use Rattle.pm3_types.specs.PageForm.{is_memory_reference}
use Rattle.pm3_types.specs.Shown.{Book}
use Rattle.pm3_page.specs.PageSheets.{sheets_of}
use Rattle.pm3_access.specs.Acts.{space_left, space_found}
use Rattle.pm3_access.specs.FreeList.{Numbers}
use Rattle.pm3_access.specs.Holding.{Holding, HeldImages, HeldSpaceState, FreeIs, image_in, with_free, grown, by_space}
use Rattle.pm3_access.proofs.Homes as images_at
use Rattle.pm3_access.proofs.InPlace.{grown_in_place}
use Rattle.pm3_access.proofs.SoundingHeld.{sound_grown}
use Rattle.pm3_access.proofs.SoundingPages.{form_for_more}
use Rattle.pm3_history.specs.Entry.{Done}
use Rattle.pm3_history.specs.Named.{book_of}
use Rattle.pm3_history.specs.Opens.{Opens}
use Rattle.pm3_history.specs.State.{State, now}
use Rattle.pm3_history.proofs.Laying.{some_none}
use Rattle.pm3_history.proofs.Names.{name_in_graph}
use Rattle.pm3_table.specs.declared.view.Told.{Told}
use Rattle.pm3_table.specs.declared.view.View.{View}
use Rattle.pm3_table.specs.Histories.{some_has}
use Rattle.pm3_table.specs.Entries.{keeps_in, writes}
use Rattle.pm3_table.specs.Holds.{holds_of, spans_of, is_in}
use Rattle.pm3_table.specs.Telling.{Lawful, IsNewPage, IsOnlyIn, is_steady}
use Rattle.pm3_table.specs.Words.{space_unit}
use Rattle.pm3_table.proofs.Known.{kept_named}
use Rattle.pm3_txn.specs.DrawnLaws.{IsAlike, HasGrown, HoldingsDraw, DrawnNamesAreUnused, FreePagesAreBare, DrawnPagesAreBare, HoldingsReuse, unfreed}
use Rattle.pm3_txn.specs.Heaps.{IsBelow}
use Rattle.pm3_txn.specs.Knowing.{is_in_use, state_seen}
use Rattle.pm3_txn.specs.Loads.{IsPersistent}
use Rattle.pm3_txn.specs.Owners.{WorksOn, HoldsSpace, MayHoldSpace, IsHolding, own_use}
use Rattle.pm3_txn.specs.Values as values
use Rattle.pm3_txn.specs.Values.{IsPageOf}
use Rattle.pm3_txn.specs.OwnStarts.{starts_on}
use Rattle.pm3_txn.specs.Works.{Works, is_own_start}
use Rattle.pm3_txn.proofs.OwnBooks.{found_booked}
use Rattle.pm3_txn.proofs.OwnerKnows.{new_names_are_new, others_are_bare}
use Rattle.pm3_txn.proofs.OwnerTakes.{persistent_steady}
use Rattle.pm3_txn.proofs.Seeing.{settled_now}
use Rattle.pm3_txn.proofs.WorksDraw.{works_free, works_grow, grown_own}

-- a page that no commit seen names is in no space, nor persistent
pub only_new : (told : Told) (v : View) (j page : ℕ) → IsNewPage told v page → IsOnlyIn told v j page
only_new told v j page new = record {
  bare = new.unknown;
  kept = λ i left. absurd (false≢true (sym new.unnamed ∙ kept_named told i page v.seen left));
}

-- what is the same of a view that is alike
module _ (told : Told) (v w : View) (alike : IsAlike v w) where
  pub holds_alike : (u : ℕ) → holds_of w.holds u ≡ holds_of v.holds u
  holds_alike u = λ i. holds_of (alike.holds i) u

  steady_alike : (q : ℕ) → is_steady told w q ≡ is_steady told v q
  steady_alike q = λ i. nat_lt q told.frontier || (is_in q (alike.steady i) || some_has writes (alike.seen i) q)

  pub only_alike : (j q : ℕ) → IsOnlyIn told v j q → IsOnlyIn told w j q
  only_alike j q is = record {
    bare = steady_alike q ∙ is.bare;
    kept = λ i left. is.kept i (ap (λ (l : List Done). some_has (keeps_in i) l q) (sym alike.seen) ∙ left);
  }

  pub works_alike : (h : Holding) → WorksOn told v h w h (λ st ops. ops)
  works_alike h st opens done works = subst (λ (l : List Done). Works told.opening.catalog told.pages (now told.opening.catalog BASE st l) h done) (sym alike.seen) works

  -- what is known of the images of the space as they were found
  pub space_alike : (s : HeldSpaceState) → HoldsSpace told v s → w.spans ≡ v.spans → HoldsSpace told w s
  space_alike s held spans = record {
    low = held.low;
    unit = holds_alike (space_unit told.pages s.number) ∙ held.unit;
    last = subst (λ (l : List Done). sheets_of s.images.found ≡ unwrap_or (values.space_left l s.number) map.empty) (sym alike.seen) held.last;
    sound = λ q image on. (let was = held.sound q image on in (
      was.0,
      was.1,
      was.2,
      form_for_more told.opening.catalog (values.space_use told v.seen s.images.found) (values.space_use told w.seen s.images.found)
          (λ a is. ap (λ (l : List Done). values.space_use told l s.images.found a) alike.seen ∙ is) image.page image.sheet was.3,
    ));
    within = λ q is. held.within q (sym (same q) ∙ is);
    spans = λ q. same q ∙ held.spans q;
    free = held.free;
    drawn = held.drawn;
    new = held.new;
    apart = λ q is. only_alike s.number q (held.apart q (sym (same q) ∙ is));
  }
    where
      same : (q : ℕ) → spans_of w.spans (space_unit told.pages s.number) q ≡ spans_of v.spans (space_unit told.pages s.number) q
      same q = λ i. spans_of (spans i) (space_unit told.pages s.number) q

  may_alike : (number : ℕ) (s : Option HeldSpaceState) → w.spans ≡ v.spans → MayHoldSpace told v number s → MayHoldSpace told w number s
  may_alike number None spans held = tt
  may_alike number (Some s) spans held = (held.0, space_alike s held.1 spans)

  module _ (number : ℕ) (h : Holding) (holding : IsHolding told v number h) where
    pub persistent_alike : (q : ℕ) → is_some (get h.pages.left q) ≡ true → IsPersistent told w.seen q
    persistent_alike q is = subst (λ (l : List Done). IsPersistent told l q) (sym alike.seen) (holding.persistent q is)

    pub found_alike : (q : ℕ) (image : PageImage) → get h.pages.found q ≡ Some image → IsPageOf told w.seen q image
    found_alike q image is = subst (λ (l : List Done). IsPageOf told l q image) (sym alike.seen) (holding.found q image is)

    pub units_alike : (q : ℕ) → is_some (get h.pages.left q) ≡ true → (holds_of w.holds q ≡ true) × (q < told.pages)
    units_alike q is = (let was = holding.units q is in (holds_alike q ∙ was.0, was.1))

    pub names_alike : (st : State) → Opens BASE told.pages told.opening st → (a n : ℕ) → get (book_of BASE (space_left h.space)) a ≡ Some n
        → (get (book_of BASE (space_found h.space)) a ≡ Some n) ⊎ (is_in n w.names ≡ true)
    names_alike st opens a n has = of (holding.names st opens a n has)
      where
        of : (get (book_of BASE (space_found h.space)) a ≡ Some n) ⊎ (is_in n v.names ≡ true) → (get (book_of BASE (space_found h.space)) a ≡ Some n) ⊎ (is_in n w.names ≡ true)
        of (inl is) = inl is
        of (inr is) = inr (alike.names n is)

    pub holding_alike : w.spans ≡ v.spans → IsHolding told w number h
    holding_alike spans = record {
      places = holding.places;
      units = units_alike;
      only = λ u is. holding.only u (sym (holds_alike u) ∙ is);
      persistent = persistent_alike;
      kept = holding.kept;
      found = found_alike;
      space = may_alike number h.space spans holding.space;
      form = λ q image on. form_for_more told.opening.catalog (own_use told v h) (own_use told w h)
          (λ a is. ap (λ (l : List Done). is_in_use told l a || (is_memory_reference BASE told.pages a && is_own_start h a)) alike.seen ∙ is) image.page image.sheet (holding.form q image on);
      names = names_alike;
      works = λ st opens. (let was = holding.works st opens in (was.0, works_alike h st opens was.0 was.1));
    }

pub holdings_draw : HoldingsDraw
holdings_draw told v w number h alike spans holding = (works_alike told v w alike h, holding_alike told v w alike number h holding spans)

pub drawn_names_are_unused : DrawnNamesAreUnused
drawn_names_are_unused told v number h n below lawful new holding st opens a has = of (holding.names st opens a n has)
  where
    of : (get (book_of BASE (space_found h.space)) a ≡ Some n) ⊎ (is_in n v.names ≡ true) → ⊥
    of (inr drawn) = false≢true (sym new.undrawn ∙ drawn)
    of (inl found) =
        let settled = settled_now told v.seen st lawful opens in
        let was = holding.works st opens in
        let there = name_in_graph told.opening.catalog BASE (state_seen told v st) a n settled.chronicled
        (found_booked told.opening.catalog (state_seen told v st) settled h.space was.1.space a n found) in
        some_none (get (state_seen told v st).graph.records n) there.0 there.1 (new_names_are_new told v n st below lawful new.from new.unmade opens)

or_first : (a b : Bool) → a ≡ true → (a || b) ≡ true
or_first a b is = ap (λ x. x || b) is

or_second : (a b : Bool) → b ≡ true → (a || b) ≡ true
or_second true b is = refl
or_second false b is = is

-- a page that isn't known to be persistent isn't held alone
pub unheld : (told : Told) (v : View) (number : ℕ) (h : Holding) (page : ℕ) → IsHolding told v number h → is_steady told v page ≡ false → get h.pages.left page ≡ None
unheld told v number h page holding loose = by (get h.pages.left page) refl
  where
    by : (o : Option PageImage) → get h.pages.left page ≡ o → get h.pages.left page ≡ None
    by None none = none
    by (Some image) on = absurd (false≢true (sym loose ∙ persistent_steady told v page (holding.persistent page (ap is_some on))))

-- nor is a free one
bare_free : (told : Told) (v : View) (number : ℕ) (p : HeldImages) (s : Option HeldSpaceState) (page : ℕ) → IsHolding told v number (record { pages = p; space = s })
    → FreeIs s (λ free. set.contains free page ≡ true) → (image_in (unfreed (record { pages = p; space = s }) page) page ≡ None) × (3 ≤ page) × (page < told.pages)
bare_free told v number p None page holding is = absurd is
bare_free told v number p (Some s) page holding is =
    let held = holding.space.1 in
    let spread : spans_of v.spans (space_unit told.pages s.number) page ≡ true = held.spans page ∙ or_second (is_some (get s.images.left page)) (set.contains s.free page) is in
    let bounds = held.within page spread in
    (ap (λ (o : Option PageImage). option_or o (get s.images.left page)) (unheld told v number (record { pages = p; space = Some s }) page holding (held.apart page spread).bare) ∙ held.free page is, bounds.0, bounds.1)

pub free_pages_are_bare : FreePagesAreBare
free_pages_are_bare told v number h page holding is = bare_free told v number h.pages h.space page holding is

none_by : (o : Option PageImage) → (is_some o ≡ true → ⊥) → o ≡ None
none_by None never = refl
none_by (Some x) never = absurd (never refl)

bare_drawn : (told : Told) (v : View) (number : ℕ) (p : HeldImages) (s : Option HeldSpaceState) (page : ℕ) → IsHolding told v number (record { pages = p; space = s }) → IsNewPage told v page
    → image_in (record { pages = p; space = s }) page ≡ None
bare_drawn told v number p None page holding new = ap (λ (o : Option PageImage). option_or o None) (unheld told v number (record { pages = p; space = None }) page holding new.unknown)
bare_drawn told v number p (Some s) page holding new =
    let held = holding.space.1 in
    ap (λ (o : Option PageImage). option_or o (get s.images.left page)) (unheld told v number (record { pages = p; space = Some s }) page holding new.unknown)
    ∙ none_by (get s.images.left page) (λ is. new.elsewhere s.number (held.low, held.unit, held.spans page ∙ or_first (is_some (get s.images.left page)) (set.contains s.free page) is))

pub drawn_pages_are_bare : DrawnPagesAreBare
drawn_pages_are_bare told v number h page holding new = bare_drawn told v number h.pages h.space page holding new

in_last : (q x : ℕ) (xs : List ℕ) → is_in q (xs ++ x ∷ []) ≡ (is_in q xs || (x == q))
in_last q x [] = or_false (x == q)
  where
    or_false : (b : Bool) → (b || false) ≡ (false || b)
    or_false true = refl
    or_false false = refl
in_last q x (y ∷ ys) = ap (λ (t : Bool). (y == q) || t) (in_last q x ys) ∙ or_assoc (y == q) (is_in q ys) (x == q)
  where
    or_assoc : (a b c : Bool) → (a || (b || c)) ≡ ((a || b) || c)
    or_assoc true b c = refl
    or_assoc false b c = refl

module _ (told : Told) (v w : View) (number : ℕ) (p : HeldImages) (s : HeldSpaceState) (image : PageImage) (free : Numbers) (room : ℕ) (below : IsBelow told) (lawful : Lawful told v.seen) (alike : IsAlike v w)
    (holding : IsHolding told v number (record { pages = p; space = Some s })) (blank : image.sheet ≡ blank_sheet) (absent : image_in (record { pages = p; space = Some s }) image.page ≡ None)
    (high : 3 ≤ image.page) (low : image.page < told.pages) (only : IsOnlyIn told v s.number image.page)
    (spread : (q : ℕ) → spans_of w.spans (space_unit told.pages s.number) q ≡ (is_some (get (insert s.images.left image.page image) q) || set.contains free q))
    (before : (q : ℕ) → q ≢ image.page → spans_of w.spans (space_unit told.pages s.number) q ≡ spans_of v.spans (space_unit told.pages s.number) q)
    (unfree : set.contains free image.page ≡ false) (fewer : (q : ℕ) → set.contains free q ≡ true → set.contains s.free q ≡ true) where
  abbrev h : Holding
  h = record { pages = p; space = Some s }

  abbrev mid : Holding
  mid = record { pages = p; space = Some (with_free s free room) }

  abbrev new : Holding
  new = record { pages = p; space = Some (grown (with_free s free room) image) }

  off : get s.images.left image.page ≡ None
  off = second (get p.left image.page) (get s.images.left image.page) absent
    where
      second : (o u : Option PageImage) → option_or o u ≡ None → u ≡ None
      second None u is = is
      second (Some x) u is = absurd (some_none (Some x) x refl is)

  own : book_of BASE (space_left new.space) ≡ book_of BASE (space_left h.space)
  own = grown_own p (with_free s free room) image absent blank

  works_grown : WorksOn told v h w new (λ st ops. ops)
  works_grown st opens done works =
      works_alike told v w alike new st opens done
      (works_grow told.opening.catalog told.pages (state_seen told v st) mid done image refl absent blank high
      (λ a n has. others_are_bare told v image.page a n st below lawful only.bare opens has)
      (works_free told.opening.catalog told.pages (state_seen told v st) h done (λ t. free) (λ t. room) works))

  here : (q : ℕ) → q ≡ image.page → is_some (get (insert s.images.left image.page image) q) ≡ true
  here q e = ap is_some (images_at.get_same s.images.left image.page q image e)

  other : (q : ℕ) → q ≢ image.page → get (insert s.images.left image.page image) q ≡ get s.images.left q
  other q ne = images_at.get_other s.images.left image.page q image ne

  none_of : (o : Option PageImage) → is_some o ≡ false → o ≡ None
  none_of None e = refl
  none_of (Some x) e = absurd (false≢true (sym e))

  neither : (a b : Bool) → (a || b) ≡ false → (a ≡ false) × (b ≡ false)
  neither true b is = absurd (false≢true (sym is))
  neither false b is = (refl, is)

  unfound : (is_some (get s.images.found image.page) ≡ false) × (is_in image.page s.drawn ≡ false)
  unfound = neither (is_some (get s.images.found image.page)) (is_in image.page s.drawn) (sym (holding.space.1.drawn image.page) ∙ ap is_some off)

  new_space : HoldsSpace told w (grown (with_free s free room) image)
  new_space = (let held = holding.space.1 in record {
    low = held.low;
    unit = holds_alike told v w alike (space_unit told.pages s.number) ∙ held.unit;
    last = subst (λ (l : List Done). sheets_of s.images.found ≡ unwrap_or (values.space_left l s.number) map.empty) (sym alike.seen) held.last;
    sound = λ q x on. (let was = held.sound q x on in (
      was.0,
      was.1,
      was.2,
      form_for_more told.opening.catalog (values.space_use told v.seen s.images.found) (values.space_use told w.seen s.images.found)
          (λ a is. ap (λ (l : List Done). values.space_use told l s.images.found a) alike.seen ∙ is) x.page x.sheet was.3,
    ));
    within = λ q is. elim (cases_eq q image.page) [
      | inl e ↦ (subst (λ (n : ℕ). 3 ≤ n) (sym e) high, subst (λ (n : ℕ). n < told.pages) (sym e) low)
      | inr ne ↦ held.within q (sym (before q ne) ∙ is)
    ];
    spans = spread;
    free = λ q is. elim (cases_eq q image.page) [
      | inl e ↦ absurd (false≢true (sym unfree ∙ ap (set.contains free) (sym e) ∙ is))
      | inr ne ↦ other q ne ∙ held.free q (fewer q is)
    ];
    drawn = λ q. elim (cases_eq q image.page) [
      | inl e ↦ here q e ∙ sym (or_second (is_some (get s.images.found q)) (is_in q (s.drawn ++ image.page ∷ []))
          (in_last q image.page s.drawn ∙ or_second (is_in q s.drawn) (image.page == q) (eq-eqb image.page q (sym e))))
      | inr ne ↦ ap is_some (other q ne) ∙ held.drawn q ∙ ap (λ (b : Bool). is_some (get s.images.found q) || b) (sym (old q ne))
    ];
    new = λ q is. elim (cases_eq q image.page) [
      | inl e ↦ ap (get s.images.found) e ∙ none_of (get s.images.found image.page) unfound.0
      | inr ne ↦ held.new q (sym (old q ne) ∙ is)
    ];
    apart = λ q is. only_alike told v w alike s.number q (elim (cases_eq q image.page) [
      | inl e ↦ subst (IsOnlyIn told v s.number) (sym e) only
      | inr ne ↦ held.apart q (sym (before q ne) ∙ is)
    ]);
  })
    where
      or_false : (b : Bool) → (b || false) ≡ b
      or_false true = refl
      or_false false = refl

      old : (q : ℕ) → q ≢ image.page → is_in q (s.drawn ++ image.page ∷ []) ≡ is_in q s.drawn
      old q ne = in_last q image.page s.drawn ∙ ap (λ (b : Bool). is_in q s.drawn || b) (ne_eqb image.page q (λ e. ne (sym e))) ∙ or_false (is_in q s.drawn)

  up : (a b c d : Bool) → (c ≡ true → d ≡ true) → (a || (b && c)) ≡ true → (a || (b && d)) ≡ true
  up true b c d more is = refl
  up false true c d more is = more is
  up false false c d more is = is

  more_own : (a : ℕ) → is_own_start h a ≡ true → is_own_start new a ≡ true
  more_own a is = elim (cases_eq (page_in BASE a) image.page) [
    | inl e ↦ absurd (false≢true (sym (ap (λ (o : Option PageImage). starts_on o (word_in BASE a)) (ap (get s.images.left) e ∙ off)) ∙ is))
    | inr ne ↦ ap (λ (o : Option PageImage). starts_on o (word_in BASE a)) (other (page_in BASE a) ne) ∙ is
  ]

  pub grows : HasGrown told v h w number new
  grows = (
    works_grown,
    record {
      places = grown_in_place mid (record { home = holding.places.home; apart = holding.places.apart; found = holding.places.found }) image absent;
      units = units_alike told v w alike number h holding;
      only = λ u is. holding.only u (sym (holds_alike told v w alike u) ∙ is);
      persistent = persistent_alike told v w alike number h holding;
      kept = holding.kept;
      found = found_alike told v w alike number h holding;
      space = (holding.space.0, new_space);
      form = λ q x on. form_for_more told.opening.catalog (own_use told v h) (own_use told w new)
          (λ a is. up (is_in_use told w.seen a) (is_memory_reference BASE told.pages a) (is_own_start h a) (is_own_start new a) (more_own a)
          (ap (λ (l : List Done). is_in_use told l a || (is_memory_reference BASE told.pages a && is_own_start h a)) alike.seen ∙ is)) x.page x.sheet
          (sound_grown told.opening.catalog BASE (own_use told v h) mid image blank high holding.form q x on);
      names = λ st opens a n has. names_alike told v w alike number h holding st opens a n (ap (λ (k : Book). get k a) (sym own) ∙ has);
      works = λ st opens. (let was = holding.works st opens in (was.0, works_grown st opens was.0 was.1));
    },
    own,
  )

reuse_by : (told : Told) (v : View) (number : ℕ) (p : HeldImages) (s : Option HeldSpaceState) (image : PageImage) → IsBelow told → Lawful told v.seen → IsHolding told v number (record { pages = p; space = s })
    → FreeIs s (λ free. set.contains free image.page ≡ true) → image.sheet ≡ blank_sheet
    → HasGrown told v (record { pages = p; space = s }) v number (by_space (λ t. grown t image) (unfreed (record { pages = p; space = s }) image.page))
reuse_by told v number p None image below lawful holding is blank = absurd is
reuse_by told v number p (Some s) image below lawful holding is blank =
    let held = holding.space.1 in
    let bare = bare_free told v number p (Some s) image.page holding is in
    grows told v v number p s image (set.remove s.free image.page) (s.room + 1) below lawful (record { seen = refl; holds = refl; steady = refl; names = λ n e. e }) holding blank bare.0 bare.1 bare.2
    (held.apart image.page spread)
    (λ q. held.spans q ∙ elim (cases_eq q image.page) [
      | inl e ↦ ap (λ (n : ℕ). is_some (get s.images.left n) || set.contains s.free n) e ∙ or_second (is_some (get s.images.left image.page)) (set.contains s.free image.page) is
          ∙ sym (or_first (is_some (get (insert s.images.left image.page image) q)) (set.contains (set.remove s.free image.page) q) (ap is_some (images_at.get_same s.images.left image.page q image e)))
      | inr ne ↦ sym (λ i. is_some (images_at.get_other s.images.left image.page q image ne i) || left q ne i)
    ])
    (λ q ne. refl)
    (gone image.page ∙ ap (λ (b : Bool). not b && set.contains s.free image.page) (eq-eqb image.page image.page refl))
    (λ q e. last (not (q == image.page)) (set.contains s.free q) (sym (gone q) ∙ e))
  where
    spread : spans_of v.spans (space_unit told.pages s.number) image.page ≡ true
    spread = holding.space.1.spans image.page ∙ or_second (is_some (get s.images.left image.page)) (set.contains s.free image.page) is

    gone : (q : ℕ) → set.contains (set.remove s.free image.page) q ≡ (not (q == image.page) && set.contains s.free q)
    gone q = contains-remove nat_cmp_total s.free image.page q ∙ ap (λ (b : Bool). not b && set.contains s.free q) (unsigned_tied q image.page)

    left : (q : ℕ) → q ≢ image.page → set.contains (set.remove s.free image.page) q ≡ set.contains s.free q
    left q ne = gone q ∙ ap (λ (b : Bool). not b && set.contains s.free q) (ne_eqb q image.page ne)

    last : (a b : Bool) → (a && b) ≡ true → b ≡ true
    last true b e = e
    last false b e = absurd (false≢true e)

pub holdings_reuse : HoldingsReuse
holdings_reuse told v number h image below lawful holding is blank = reuse_by told v number h.pages h.space image below lawful holding is blank
