-- A transaction whose space gets a free page, or other room for them.
use Rattle.std.proofs.Common.{◌≡◌, ◌≢◌, ◌<◌, ◌≤◌, ◌==◌, ◌||◌, ◌&&◌, ◌∙◌, inl, inr, ℕ, Bool, true, false, List, Option, Some, None, is_some, unwrap_or, refl, sym, ap, subst}
use Rattle.std.proofs.lemmas.Bool.{cases_eq, ne_eqb}
use Rattle.std.specs.Cmp.{nat_cmp_total, unsigned_tied}
use Rattle.std.specs.Option.{option_or}
use Rattle.std.specs.FinMap as map
use Rattle.std.specs.FinMap.{get}
use Rattle.std.specs.FinSet as set
use Rattle.std.specs.FinSet.{contains-insert}
use Rattle.pm3_core.specs.declared.naming.TheConstants.{BASE}
use Rattle.pm3_types.specs.Layout.{PageImage}
use Rattle.pm3_types.specs.PageForm.{is_memory_reference}
use Rattle.pm3_page.specs.PageSheets.{sheets_of}
use Rattle.pm3_access.specs.FreeList.{Numbers}
use Rattle.pm3_access.specs.Holding.{Holding, HeldImages, HeldSpaceState, by_space, with_free}
use Rattle.pm3_access.proofs.SoundingPages.{form_for_more}
use Rattle.pm3_history.specs.Entry.{Done}
use Rattle.pm3_history.proofs.Laying.{some_none}
use Rattle.pm3_table.specs.declared.view.Told.{Told}
use Rattle.pm3_table.specs.declared.view.View.{View}
use Rattle.pm3_table.specs.Holds.{spans_of}
use Rattle.pm3_table.specs.Telling.{IsNewPage, IsOnlyIn}
use Rattle.pm3_table.specs.Words.{space_unit}
use Rattle.pm3_txn.specs.DrawnLaws.{HasGrown, HoldingsFree, HoldingsRoom, IsAlike, with_free_page}
use Rattle.pm3_txn.specs.Knowing.{is_in_use, state_seen}
use Rattle.pm3_txn.specs.Owners.{WorksOn, HoldsSpace, IsHolding, own_use}
use Rattle.pm3_txn.specs.Values as values
use Rattle.pm3_txn.specs.Works.{is_own_start}
use Rattle.pm3_txn.proofs.OwnerDraws.{drawn_pages_are_bare, holds_alike, only_alike, only_new, works_alike, persistent_alike, found_alike, units_alike, names_alike}
use Rattle.pm3_txn.proofs.WorksDraw.{works_free}

module _ (told : Told) (v w : View) (number : ℕ) (p : HeldImages) (s : HeldSpaceState) (free : Numbers) (room : ℕ) (alike : IsAlike v w) (holding : IsHolding told v number (record { pages = p; space = Some s }))
    (spread : (q : ℕ) → spans_of w.spans (space_unit told.pages s.number) q ≡ (is_some (get s.images.left q) || set.contains free q))
    (within : (q : ℕ) → spans_of w.spans (space_unit told.pages s.number) q ≡ true → (3 ≤ q) × (q < told.pages))
    (bare : (q : ℕ) → set.contains free q ≡ true → get s.images.left q ≡ None)
    (apart : (q : ℕ) → spans_of w.spans (space_unit told.pages s.number) q ≡ true → IsOnlyIn told w s.number q) where
  abbrev h : Holding
  h = record { pages = p; space = Some s }

  abbrev new : Holding
  new = record { pages = p; space = Some (with_free s free room) }

  works_freed : WorksOn told v h w new (λ st ops. ops)
  works_freed st opens done works =
      works_alike told v w alike new st opens done (works_free told.opening.catalog told.pages (state_seen told v st) h done (λ t. free) (λ t. room) works)

  new_space : HoldsSpace told w (with_free s free room)
  new_space = (let held = holding.space.1 in record {
    low = held.low;
    unit = holds_alike told v w alike (space_unit told.pages s.number) ∙ held.unit;
    last = subst (λ (l : List Done). sheets_of s.images.found ≡ unwrap_or (values.space_left l s.number) map.empty) (sym alike.seen) held.last;
    sound = λ q x on. (let was = held.sound q x on in (
      was.0,
      was.1,
      was.2,
      form_for_more told.opening.catalog (values.space_use told v.seen s.images.found) (values.space_use told w.seen s.images.found)
          (λ a is. ap (λ (l : List Done). values.space_use told l s.images.found a) alike.seen ∙ is) x.page x.sheet was.3,
    ));
    within = within;
    spans = spread;
    free = bare;
    drawn = held.drawn;
    new = held.new;
    apart = apart;
  })

  pub freed : HasGrown told v h w number new
  freed = (
    works_freed,
    record {
      places = record { home = holding.places.home; apart = holding.places.apart; found = holding.places.found };
      units = units_alike told v w alike number h holding;
      only = λ u is. holding.only u (sym (holds_alike told v w alike u) ∙ is);
      persistent = persistent_alike told v w alike number h holding;
      kept = holding.kept;
      found = found_alike told v w alike number h holding;
      space = (holding.space.0, new_space);
      form = λ q x on. form_for_more told.opening.catalog (own_use told v h) (own_use told w new)
          (λ a is. ap (λ (l : List Done). is_in_use told l a || (is_memory_reference BASE told.pages a && is_own_start h a)) alike.seen ∙ is) x.page x.sheet
          (holding.form q x on);
      names = λ st opens a n has. names_alike told v w alike number h holding st opens a n has;
      works = λ st opens. (let was = holding.works st opens in (was.0, works_freed st opens was.0 was.1));
    },
    refl,
  )

alike_itself : (v : View) → IsAlike v v
alike_itself v = record { seen = refl; holds = refl; steady = refl; names = λ n e. e }

room_by : (told : Told) (v : View) (number : ℕ) (p : HeldImages) (s : Option HeldSpaceState) (room : HeldSpaceState → ℕ) → IsHolding told v number (record { pages = p; space = s })
    → HasGrown told v (record { pages = p; space = s }) v number (by_space (λ t. with_free t t.free (room t)) (record { pages = p; space = s }))
room_by told v number p None room holding = (λ st opens done works. works, holding, refl)
room_by told v number p (Some s) room holding =
    let held = holding.space.1 in freed told v v number p s s.free (room s) (alike_itself v) holding held.spans held.within held.free held.apart

pub holdings_room : HoldingsRoom
holdings_room told v number h room holding = room_by told v number h.pages h.space room holding

free_by : (told : Told) (v w : View) (number : ℕ) (p : HeldImages) (s : Option HeldSpaceState) (page : ℕ) (room : HeldSpaceState → ℕ) → IsHolding told v number (record { pages = p; space = s })
    → IsNewPage told v page → 3 ≤ page → page < told.pages → IsAlike v w
    → ((q : ℕ) → spans_of w.spans (space_unit told.pages number) q ≡ ((q == page) || spans_of v.spans (space_unit told.pages number) q))
    → HasGrown told v (record { pages = p; space = s }) w number (with_free_page (record { pages = p; space = s }) page room)
free_by told v w number p None page room holding new high low alike more = (
  works_alike told v w alike (record { pages = p; space = None }),
  record {
    places = holding.places;
    units = units_alike told v w alike number (record { pages = p; space = None }) holding;
    only = λ u is. holding.only u (sym (holds_alike told v w alike u) ∙ is);
    persistent = persistent_alike told v w alike number (record { pages = p; space = None }) holding;
    kept = holding.kept;
    found = found_alike told v w alike number (record { pages = p; space = None }) holding;
    space = tt;
    form = λ q x on. form_for_more told.opening.catalog (own_use told v (record { pages = p; space = None })) (own_use told w (record { pages = p; space = None }))
        (λ a is. ap (λ (l : List Done). is_in_use told l a || (is_memory_reference BASE told.pages a && is_own_start (record { pages = p; space = None }) a)) alike.seen ∙ is) x.page x.sheet
        (holding.form q x on);
    names = names_alike told v w alike number (record { pages = p; space = None }) holding;
    works = λ st opens. (let was = holding.works st opens in (was.0, works_alike told v w alike (record { pages = p; space = None }) st opens was.0 was.1));
  },
  refl,
)
free_by told v w number p (Some s) page room holding new high low alike more =
    let held = holding.space.1 in
    freed told v w number p s (set.insert s.free page) (room s) alike holding
    (λ q. here q ∙ ap (λ (b : Bool). (q == page) || b) (held.spans q) ∙ turned (q == page) (is_some (get s.images.left q)) (set.contains s.free q)
    ∙ ap (λ (b : Bool). is_some (get s.images.left q) || b) (sym (has q)))
    (λ q is. elim (cases_eq q page) [
      | inl e ↦ (subst (λ (n : ℕ). 3 ≤ n) (sym e) high, subst (λ (n : ℕ). n < told.pages) (sym e) low)
      | inr ne ↦ held.within q (sym (other q ne) ∙ is)
    ])
    (λ q is. elim (cases_eq q page) [
      | inl e ↦ ap (get s.images.left) e ∙ second (get p.left page) (get s.images.left page) (drawn_pages_are_bare told v number (record { pages = p; space = Some s }) page holding new)
      | inr ne ↦ held.free q (ap (λ (b : Bool). b || set.contains s.free q) (sym (ne_eqb q page ne)) ∙ sym (has q) ∙ is)
    ])
    (λ q is. only_alike told v w alike s.number q (elim (cases_eq q page) [
      | inl e ↦ subst (IsOnlyIn told v s.number) (sym e) (only_new told v s.number page new)
      | inr ne ↦ held.apart q (sym (other q ne) ∙ is)
    ]))
  where
    second : (o u : Option PageImage) → option_or o u ≡ None → u ≡ None
    second None u e = e
    second (Some x) u e = absurd (some_none (Some x) x refl e)

    turned : (a b c : Bool) → (a || (b || c)) ≡ (b || (a || c))
    turned true true c = refl
    turned true false c = refl
    turned false b c = refl

    here : (q : ℕ) → spans_of w.spans (space_unit told.pages s.number) q ≡ ((q == page) || spans_of v.spans (space_unit told.pages s.number) q)
    here q = subst (λ (n : ℕ). spans_of w.spans (space_unit told.pages n) q ≡ ((q == page) || spans_of v.spans (space_unit told.pages n) q)) (sym holding.space.0) (more q)

    other : (q : ℕ) → q ≢ page → spans_of w.spans (space_unit told.pages s.number) q ≡ spans_of v.spans (space_unit told.pages s.number) q
    other q ne = here q ∙ ap (λ (b : Bool). b || spans_of v.spans (space_unit told.pages s.number) q) (ne_eqb q page ne)

    has : (q : ℕ) → set.contains (set.insert s.free page) q ≡ ((q == page) || set.contains s.free q)
    has q = contains-insert nat_cmp_total s.free page q ∙ ap (λ (b : Bool). b || set.contains s.free q) (unsigned_tied q page)

pub holdings_free : HoldingsFree
holdings_free told v w number h page room holding new high low alike more = free_by told v w number h.pages h.space page room holding new high low alike more
