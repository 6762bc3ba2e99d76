-- The pages of a space that is held are its own, or may be drawn.
use Rattle.std.proofs.Common.{◌≡◌, ◌≢◌, ◌==◌, ◌||◌, ◌&&◌, ◌∙◌, ◌⊎◌, inl, inr, ℕ, Bool, true, false, cond, List, [], ◌∷◌, Option, Some, None, is_some, refl, sym, ap, subst, arith}
use Rattle.std.proofs.lemmas.Bool.{eq-eqb}
use Rattle.std.specs.Ordering.{nat_cmp}
use Rattle.std.specs.FinMap.{FinMap, get, get-empty, contains_key}
use Rattle.pm3_core.specs.declared.naming.TheConstants.{BASE}
use Rattle.pm3_types.specs.Fields.{Fields}
use Rattle.pm3_types.specs.Layout.{PageImage, page_in}
use Rattle.pm3_page.specs.PageSheets.{sheet_in, sheets_of}
use Rattle.pm3_page.proofs.SheetsOf.{get-sheets_of}
use Rattle.pm3_access.specs.Holding.{HeldImages, HeldSpaceState}
use Rattle.pm3_history.specs.Entry.{Done, Pass}
use Rattle.pm3_history.specs.Lawful.{IsFree}
use Rattle.pm3_history.specs.Opens.{Opens}
use Rattle.pm3_history.specs.Spaces.{AreOfSpace}
use Rattle.pm3_history.specs.State.{State, entry_after, next_owner, now, owned_by, step}
use Rattle.pm3_history.specs.Laid.{without}
use Rattle.pm3_history.proofs.Laying.{some_of, some_none, none_if, one_value, laid_cases, off_keeps, without_cases}
use Rattle.pm3_history.proofs.OwnedBy.{get-owned_by}
use Rattle.pm3_table.specs.declared.view.Told.{Told}
use Rattle.pm3_table.specs.declared.view.View.{View}
use Rattle.pm3_table.specs.Entries.{keeps_in, kept_by}
use Rattle.pm3_table.specs.Histories.{some_has}
use Rattle.pm3_table.specs.Holds.{spans_of}
use Rattle.pm3_table.specs.Telling.{IsOnlyIn, Lawful}
use Rattle.pm3_table.specs.Words.{space_unit}
use Rattle.pm3_txn.specs.Heaps.{IsBelow}
use Rattle.pm3_txn.specs.Knowing.{state_seen}
use Rattle.pm3_txn.specs.Owners.{HoldsSpace, IsHolding}
use Rattle.pm3_txn.specs.PassCommits.{SpacePagesMayGo}
use Rattle.pm3_txn.proofs.OwnBooks.{last_whole}
use Rattle.pm3_txn.proofs.OwnerKnows.{others_are_bare}
use Rattle.pm3_txn.proofs.Seeing.{settled_now}

is_kept : (b : Bool) (x k : ℕ) → cond b (Some x) None ≡ Some k → ((x == k) && b) ≡ true
is_kept true x k is = (let same : x ≡ k = one_value (Some x) x k refl is in ap (λ (b : Bool). b && true) (eq-eqb x k same))
is_kept false x k is = absurd (cc is)

-- a page that a pass gives to a space is one that it leaves there
owner_by : (owner : FinMap nat_cmp ℕ) (pass : Option Pass) (page k : ℕ) → get (next_owner owner pass) page ≡ Some k → (get owner page ≡ Some k) ⊎ (kept_by k pass page ≡ true)
owner_by owner None page k is = inl is
owner_by owner (Some p) page k is = of (laid_cases (without owner p.before) (owned_by p.space p.after) page k is)
  where
    of : (get (owned_by p.space p.after) page ≡ Some k) ⊎ ((get (owned_by p.space p.after) page ≡ None) × (get (without owner p.before) page ≡ Some k))
        → (get owner page ≡ Some k) ⊎ (kept_by k (Some p) page ≡ true)
    of (inl new) = inr (is_kept (contains_key p.after page) p.space k (sym (get-owned_by p.space p.after page) ∙ new))
    of (inr old) = inl (without_cases owner p.before page k old.1).1

or_first : (a b : Bool) → a ≡ true → (a || b) ≡ true
or_first a b is = ap (λ (x : Bool). x || b) is

or_second : (a b : Bool) → b ≡ true → (a || b) ≡ true
or_second true b is = refl
or_second false b is = is

-- so is each page that a space has after a history, and had not before
owner_after : (catalog : List Fields) (st : State) (h : List Done) (page k : ℕ) → get (now catalog BASE st h).owner page ≡ Some k → (get st.owner page ≡ Some k) ⊎ (some_has (keeps_in k) h page ≡ true)
owner_after catalog st [] page k is = inl is
owner_after catalog st (d ∷ ds) page k is = of (owner_after catalog (step BASE st (entry_after catalog BASE st d)) ds page k is)
  where
    first : (get st.owner page ≡ Some k) ⊎ (kept_by k d.pass page ≡ true) → (get st.owner page ≡ Some k) ⊎ (some_has (keeps_in k) (d ∷ ds) page ≡ true)
    first (inl old) = inl old
    first (inr new) = inr (or_first (keeps_in k d page) (some_has (keeps_in k) ds page) new)

    of : (get (next_owner st.owner d.pass) page ≡ Some k) ⊎ (some_has (keeps_in k) ds page ≡ true) → (get st.owner page ≡ Some k) ⊎ (some_has (keeps_in k) (d ∷ ds) page ≡ true)
    of (inl there) = first (owner_by st.owner d.pass page k there)
    of (inr later) = inr (or_second (keeps_in k d page) (some_has (keeps_in k) ds page) later)

-- no space has a page at an opening
opening_owner : (told : Told) (st : State) (page : ℕ) → Opens BASE told.pages told.opening st → get st.owner page ≡ None
opening_owner told st page opens = subst (λ (s : State). get s.owner page ≡ None) (sym opens.state) (get-empty nat_cmp page)

by_space : (told : Told) (v : View) (number : ℕ) (p : HeldImages) (o : Option HeldSpaceState) (s : HeldSpaceState) (page : ℕ) (st : State) → IsBelow told → Lawful told v.seen
    → IsHolding told v number (record { pages = p; space = o }) → o ≡ Some s → Opens BASE told.pages told.opening st → spans_of v.spans (space_unit told.pages number) page ≡ true
    → ((get (state_seen told v st).owner page ≡ Some number) × (is_some (get s.images.found page) ≡ true))
    ⊎ (IsFree BASE (state_seen told v st) page × (get s.images.found page ≡ None))
by_space told v number p None s page st below lawful holding is opens spread = absurd (some_none (Some s) s refl (sym is))
by_space told v number p (Some t) s page st below lawful holding is opens spread =
    subst (λ (x : HeldSpaceState). ((get after.owner page ≡ Some number) × (is_some (get x.images.found page) ≡ true)) ⊎ (IsFree BASE after page × (get x.images.found page ≡ None)))
    (one_value (Some t) t s refl is) (of (get t.images.found page) refl)
  where
    after : State
    after = state_seen told v st

    held : HoldsSpace told v t
    held = holding.space.1

    here : spans_of v.spans (space_unit told.pages t.number) page ≡ true
    here = ap (λ (n : ℕ). spans_of v.spans (space_unit told.pages n) page) holding.space.0 ∙ spread

    last : AreOfSpace after t.number (sheets_of t.images.found)
    last = (holding.works st opens).1.space

    apart : IsOnlyIn told v t.number page
    apart = held.apart page here

    of : (o : Option PageImage) → get t.images.found page ≡ o
        → ((get after.owner page ≡ Some number) × (is_some (get t.images.found page) ≡ true)) ⊎ (IsFree BASE after page × (get t.images.found page ≡ None))
    of (Some image) on = inl (
      ((last page image.sheet).1 (get-sheets_of t.images.found page ∙ ap sheet_in on)).0 ∙ ap Some holding.space.0,
      ap is_some on,
    )
    of None none = inr (record { apart = three; unowned = unowned; empty = bare }, none)
      where
        three : page ≢ 2
        three e = (let high = (held.within page here).0 in omega (arith, high, e))

        not_last : get after.owner page ≡ Some t.number → ⊥
        not_last mine =
            let settled = settled_now told v.seen st lawful opens in
            let x = some_of (get (sheets_of t.images.found) page) (last_whole told.opening.catalog after settled t.number (sheets_of t.images.found) last page mine) in
            some_none (get (sheets_of t.images.found) page) x.0 x.1 (get-sheets_of t.images.found page ∙ ap sheet_in none)

        unowned : get after.owner page ≡ None
        unowned = none_if (get after.owner page) (λ k mine. by k mine (owner_after told.opening.catalog st v.seen page k mine))
          where
            by : (k : ℕ) → get after.owner page ≡ Some k → (get st.owner page ≡ Some k) ⊎ (some_has (keeps_in k) v.seen page ≡ true) → ⊥
            by k mine (inl old) = some_none (get st.owner page) k old (opening_owner told st page opens)
            by k mine (inr left) = not_last (mine ∙ ap Some (apart.kept k left))

        bare : (a n : ℕ) → get after.book a ≡ Some n → page_in BASE a ≢ page
        bare a n there at = others_are_bare told v page a n st below lawful apart.bare opens
            (off_keeps BASE after.book after.owner a (ap (get after.owner) at ∙ unowned) ∙ there) at

pub space_pages_may_go : SpacePagesMayGo
space_pages_may_go told v number h s page st below lawful holding is opens spread = by_space told v number h.pages h.space s page st below lawful holding is opens spread
