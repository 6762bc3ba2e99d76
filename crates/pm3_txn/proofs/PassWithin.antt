-- No reference leads into a space from outside of it after a pass.
use Rattle.std.proofs.Common.{◌≡◌, ◌≢◌, ◌∙◌, ◌⊎◌, ◌+◌, inl, inr, ℕ, true, cond, List, Option, Some, None, is_some, refl, sym, ap, subst}
use Rattle.std.specs.Prelude.{◌<◌, slice_index}
use Rattle.std.specs.List.{Contains}
use Rattle.std.specs.Ordering.{nat_cmp}
use Rattle.std.specs.FinMap.{FinMap, get, contains_key}
use Rattle.pm3_core.specs.declared.naming.TheConstants.{BASE}
use Rattle.pm3_types.specs.Fields.{Fields}
use Rattle.pm3_types.specs.Layout.{Sheet, page_in, word_in}
use Rattle.pm3_types.specs.PageForm.{IsReferenceIn, map_at, tail_at}
use Rattle.pm3_types.specs.Shown.{FitsImages, IsKnown}
use Rattle.pm3_graph.specs.declared.operations.Op.{Op}
use Rattle.pm3_page.specs.PageSheets.{sheet_in}
use Rattle.pm3_copy.specs.PassLaws.{FitsAfter, OthersAreQuiet}
use Rattle.pm3_access.specs.Acts.{space_left}
use Rattle.pm3_access.specs.Holding.{Holding}
use Rattle.pm3_history.specs.Laid.{laid, without}
use Rattle.pm3_history.specs.Lawful.{StayWithin}
use Rattle.pm3_history.specs.Named.{book_of, off_pages, promoted}
use Rattle.pm3_history.specs.Persistent.{persistent_book}
use Rattle.pm3_history.specs.State.{State, next_owner, owned_by}
use Rattle.pm3_history.proofs.Laying.{some_of, some_none, there_none, none_if, laid_above, laid_below, laid_cases, without_keeps, without_none, without_cases, off_cases}
use Rattle.pm3_history.proofs.NamedOn.{book_of_named}
use Rattle.pm3_history.proofs.OwnedBy.{get-owned_by, owned_by_none}
use Rattle.pm3_txn.specs.PassCommits.{Marks, PassState, HasPassed, all_before, all_after, before_pass, pass_of}
use Rattle.pm3_txn.specs.TransactionLaws.{IsSettled}
use Rattle.pm3_txn.specs.Works.{Works, left_book}
use Rattle.pm3_txn.proofs.Admitting.{home_image}
use Rattle.pm3_txn.proofs.OwnBooks.{get-space_left, own_on, with_cases}
use Rattle.pm3_txn.proofs.PassAfter.{StandsOn, to, dead, new, space_page, written_page, after_unwritten, quiet, own_before, now_kept, old_bare, only_after, law_pass}
use Rattle.pm3_txn.proofs.PassBook.{whole_left, changed_home, before_left, before_fits}
use Rattle.pm3_txn.proofs.PassLeads.{IsOwn, leads, root_leads, copied, root_copied}

module _ (fits : FitsAfter) (others : OthersAreQuiet) (catalog : List Fields) (pages : ℕ) (st : State) (settled : IsSettled catalog st) (h : Holding) (ops : List (Op × ℕ)) (works : Works catalog pages st h ops)
    (m : Marks) (p : PassState) (has : HasPassed catalog pages st h m p) where
  abbrev moved : ℕ → ℕ
  moved = to others catalog pages st settled h ops works m p has

  abbrev owner : FinMap nat_cmp ℕ
  owner = next_owner st.owner (Some (pass_of h p))

  pub after_fits : FitsImages catalog BASE (new others catalog pages st settled h ops works m p has) (all_after p)
  after_fits = fits catalog BASE (before_pass h p) p.fresh (all_before h p) (all_after p) p.after p.written _ _ (law_pass others catalog pages st settled h ops works m p has)

  -- the spaces of pages after the pass
  owner_after : (q : ℕ) → contains_key p.after q ≡ true → get owner q ≡ Some p.space
  owner_after q is = laid_above (without st.owner (space_left h.space)) (owned_by p.space p.after) q p.space
      (get-owned_by p.space p.after q ∙ ap (λ (b : _). cond b (Some p.space) None) is)

  owner_else : (q : ℕ) → get p.after q ≡ None → get owner q ≡ get (without st.owner (space_left h.space)) q
  owner_else q none = laid_below (without st.owner (space_left h.space)) (owned_by p.space p.after) q (owned_by_none p.space p.after q none)

  pub written_free : (q : ℕ) → contains_key p.written q ≡ true → get owner q ≡ None
  written_free q is = owner_else q (none_if (get p.after q) (λ sheet on. there_none (get p.written q) is (after_unwritten others catalog pages st settled h ops works m p has q (ap is_some on))))
      ∙ of (written_page others catalog pages st settled h ops works m p has q is)
    where
      of : (contains_key p.changed q ≡ true) ⊎ ((is_some (get (space_left h.space) q) ≡ true) ⊎ Contains p.fresh q) → get (without st.owner (space_left h.space)) q ≡ None
      of (inl changed) =
          let sheet = some_of (get p.changed q) changed in
          let home = changed_home catalog pages st settled h ops works m p has q sheet.0 sheet.1 in
          without_keeps st.owner (space_left h.space) q home.1 ∙ (home_image catalog st settled q home.0).0
      of (inr (inl mine)) = without_none st.owner (space_left h.space) q mine
      of (inr (inr fresh)) = (let free = has.fresh q fresh in without_keeps st.owner (space_left h.space) q free.1 ∙ free.0.unowned)

  -- a persistent object stays, on a page of no space
  persistent_free : (w k : ℕ) → get (persistent_book BASE st) w ≡ Some k → (moved w ≡ w) × (get owner (page_in BASE w) ≡ None)
  persistent_free w k is = (
    (quiet others catalog pages st settled h ops works m p has w off).0,
    owner_else (page_in BASE w) (none_if (get p.after (page_in BASE w)) (λ sheet on. by (space_page others catalog pages st settled h ops works m p has (page_in BASE w) (ap is_some on))))
        ∙ without_keeps st.owner (space_left h.space) (page_in BASE w) off ∙ parts.0,
  )
    where
      parts : (get st.owner (page_in BASE w) ≡ None) × (get st.book w ≡ Some k)
      parts = off_cases BASE st.book st.owner w k is

      off : get (space_left h.space) (page_in BASE w) ≡ None
      off = get-space_left h.space (page_in BASE w) ∙ ap sheet_in (works.apart w k is)

      by : (is_some (get (space_left h.space) (page_in BASE w)) ≡ true) ⊎ Contains p.fresh (page_in BASE w) → ⊥
      by (inl mine) = there_none (get (space_left h.space) (page_in BASE w)) mine off
      by (inr fresh) = (has.fresh (page_in BASE w) fresh).0.empty w k parts.1 refl

  -- an object of the space is on one of its pages, or on one of no space
  own_within : (w : ℕ) → IsOwn others catalog pages st settled h ops works m p has w → moved w ≢ 0 → IsKnown (new others catalog pages st settled h ops works m p has) (moved w)
      → (get owner (page_in BASE (moved w)) ≡ None) ⊎ (get owner (page_in BASE (moved w)) ≡ Some p.space)
  own_within w mine some (inl nil) = absurd (some nil)
  own_within w mine some (inr there) = (let k = some_of _ there in of k.0 (laid_cases (off_pages BASE st.book (space_left h.space)) (book_of BASE (laid p.after (promoted p.written (pass_of h p)))) (moved w) k.0 k.1))
    where
      here : is_some (get (space_left h.space) (page_in BASE w)) ≡ true
      here = (let n = some_of (get (book_of BASE (space_left h.space)) w) mine in own_on (space_left h.space) w n.0 n.1)

      off : (k : ℕ) → (get (space_left h.space) (page_in BASE (moved w)) ≡ None) × (get st.book (moved w) ≡ Some k) → (moved w ≡ w) ⊎ Contains p.fresh (page_in BASE (moved w)) → ⊥
      off k old (inl same) = there_none (get (space_left h.space) (page_in BASE w)) here (ap (λ (a : ℕ). get (space_left h.space) (page_in BASE a)) (sym same) ∙ old.0)
      off k old (inr fresh) = (has.fresh (page_in BASE (moved w)) fresh).0.empty (moved w) k old.1 refl

      of : (k : ℕ) → (get (book_of BASE (laid p.after (promoted p.written (pass_of h p)))) (moved w) ≡ Some k)
          ⊎ ((get (book_of BASE (laid p.after (promoted p.written (pass_of h p)))) (moved w) ≡ None) × (get (off_pages BASE st.book (space_left h.space)) (moved w) ≡ Some k))
          → (get owner (page_in BASE (moved w)) ≡ None) ⊎ (get owner (page_in BASE (moved w)) ≡ Some p.space)
      of k (inr old) = absurd (off k (off_cases BASE st.book (space_left h.space) (moved w) k old.1) (has.carried.goes w))
      of k (inl is) = (let on = book_of_named BASE (laid p.after (promoted p.written (pass_of h p))) (moved w) k is in
          by on.sheet (laid_cases p.after (promoted p.written (pass_of h p)) (page_in BASE (moved w)) on.sheet on.on))
        where
          by : (sheet : Sheet) → (get (promoted p.written (pass_of h p)) (page_in BASE (moved w)) ≡ Some sheet)
              ⊎ ((get (promoted p.written (pass_of h p)) (page_in BASE (moved w)) ≡ None) × (get p.after (page_in BASE (moved w)) ≡ Some sheet))
              → (get owner (page_in BASE (moved w)) ≡ None) ⊎ (get owner (page_in BASE (moved w)) ≡ Some p.space)
          by sheet (inl there_) = inl (written_free (page_in BASE (moved w)) (ap is_some (without_cases p.written p.changed (page_in BASE (moved w)) sheet there_).1))
          by sheet (inr (none, after)) = inr (owner_after (page_in BASE (moved w)) (ap is_some after))

  -- a word that the transaction's book knew leads after the pass to a page of no space, or from a page of the space to one of the same
  abbrev Leads : ℕ → ℕ → Type 0
  Leads q v = (get owner (page_in BASE v) ≡ None) ⊎ (get owner (page_in BASE v) ≡ get owner q)

  known_leads : (q w : ℕ) (sheet : Sheet) → get (all_after p) q ≡ Some sheet → moved w ≢ 0 → IsKnown (new others catalog pages st settled h ops works m p has) (moved w)
      → (contains_key p.written q ≡ true → IsOwn others catalog pages st settled h ops works m p has w → contains_key p.written (page_in BASE (moved w)) ≡ true)
      → IsKnown (left_book st h) w → Leads q (moved w)
  known_leads q w sheet on some known lead (inl nil) = absurd (some (ap moved nil ∙ has.carried.addresses.zero))
  known_leads q w sheet on some known lead (inr there) = (let n = some_of (get (left_book st h) w) there in of n.0 (with_cases st (space_left h.space) w n.0 n.1))
    where
      of : (n : ℕ) → (get (book_of BASE (space_left h.space)) w ≡ Some n) ⊎ ((get (book_of BASE (space_left h.space)) w ≡ None) × (get (persistent_book BASE st) w ≡ Some n)) → Leads q (moved w)
      of n (inr old) = (let free = persistent_free w n old.1 in inl (ap (λ (a : ℕ). get owner (page_in BASE a)) free.0 ∙ free.1))
      of n (inl own) = by (laid_cases p.after p.written q sheet on)
        where
          after : (get owner (page_in BASE (moved w)) ≡ None) ⊎ (get owner (page_in BASE (moved w)) ≡ Some p.space) → get owner q ≡ Some p.space → Leads q (moved w)
          after (inl free) at = inl free
          after (inr same) at = inr (same ∙ sym at)

          by : (get p.written q ≡ Some sheet) ⊎ ((get p.written q ≡ None) × (get p.after q ≡ Some sheet)) → Leads q (moved w)
          by (inl written) = inl (written_free (page_in BASE (moved w)) (lead (ap is_some written) (ap is_some own)))
          by (inr (none, there_)) = after (own_within w (ap is_some own) some known) (owner_after q (ap is_some there_))

  -- an object of the new book was one of the whole book, on the images before the pass
  record Came (b : ℕ) : Type 0 where
    from : ℕ
    at : moved from ≡ b
    live : dead others catalog pages st settled h ops works m p has from → ⊥
    was : StandsOn (all_before h p) from
    name : ℕ
    booked : get (left_book st h) from ≡ Some name

  came : (b n : ℕ) (sheet : Sheet) → get (new others catalog pages st settled h ops works m p has) b ≡ Some n → get (all_after p) (page_in BASE b) ≡ Some sheet → Came b
  came b n sheet is on =
      let from = only_after others catalog pages st settled h ops works m p has b n is in
      let there = before from.0 from.1 from.2 in
      let stands = (before_fits catalog pages st settled h ops works m p has).objects from.0 n there.0 from.2 there.1 in
      record {
        from = from.0;
        at = from.1;
        live = from.3;
        was = record { sheet = there.0; on = there.1; address = stands.0; unmoved = stands.1 };
        name = n;
        booked = whole_left catalog pages st settled h ops works m p has from.0 n there.0 (before_left catalog pages st settled h ops works m p has (page_in BASE from.0) there.0 there.1) from.2;
      }
    where
      before : (a : ℕ) → moved a ≡ b → get (laid (book_of BASE (space_left h.space)) st.book) a ≡ Some n → (x : Sheet) × (get (all_before h p) (page_in BASE a) ≡ Some x)
      before a at booked = of (get (space_left h.space) (page_in BASE a)) refl
        where
          of : (o : Option Sheet) → get (space_left h.space) (page_in BASE a) ≡ o → (x : Sheet) × (get (all_before h p) (page_in BASE a) ≡ Some x)
          of (Some x) mine = (x, own_before others catalog pages st settled h ops works m p has (page_in BASE a) x mine)
          of None off = by (get p.changed (page_in BASE a)) refl
            where
              same : a ≡ b
              same = sym (quiet others catalog pages st settled h ops works m p has a off).0 ∙ at

              by : (o : Option Sheet) → get p.changed (page_in BASE a) ≡ o → (x : Sheet) × (get (all_before h p) (page_in BASE a) ≡ Some x)
              by (Some x) changed = (x, laid_above (space_left h.space) p.changed (page_in BASE a) x changed)
              by None none = absurd (some_none (get (laid p.after (promoted p.written (pass_of h p))) (page_in BASE a)) sheet
                  (now_kept others catalog pages st settled h ops works m p has (page_in BASE a) sheet (ap (λ (c : ℕ). get (all_after p) (page_in BASE c)) same ∙ on) none)
                  (old_bare others catalog pages st settled h ops works m p has a n off booked))

  pub within : StayWithin catalog BASE owner (new others catalog pages st settled h ops works m p has) (all_after p)
  within = record { objects = objects; roots = roots }
    where
      is_known : (w v : ℕ) → v ≡ moved w → IsKnown (new others catalog pages st settled h ops works m p has) v → IsKnown (new others catalog pages st settled h ops works m p has) (moved w)
      is_known w v is known = subst (IsKnown (new others catalog pages st settled h ops works m p has)) is known

      back : (q w v : ℕ) → v ≡ moved w → Leads q (moved w) → Leads q v
      back q w v is lead = subst (Leads q) (sym is) lead

      objects : (b n k : ℕ) (sheet : Sheet) → get (new others catalog pages st settled h ops works m p has) b ≡ Some n → get (all_after p) (page_in BASE b) ≡ Some sheet
          → IsReferenceIn (map_at catalog sheet (word_in BASE b)) (tail_at sheet (word_in BASE b)) k
          → slice_index sheet.words (word_in BASE b + 2 + k) ≢ 0 → Leads (page_in BASE b) (slice_index sheet.words (word_in BASE b + 2 + k))
      objects b n k sheet is on place some =
          let c = came b n sheet is on in
          let ref = copied others catalog pages st settled h ops works m p has c.from b k sheet c.was c.live c.at on place in
          let v : ℕ = slice_index sheet.words (word_in BASE b + 2 + k) in
          back (page_in BASE b) ref.0 v ref.2
          (known_leads (page_in BASE b) ref.0 sheet on (λ nil. some (ref.2 ∙ nil)) (is_known ref.0 v ref.2 (after_fits.references b n k sheet is on place))
          (λ written own. leads others catalog pages st settled h ops works m p has c.from k ref.0 c.was c.live (ap (λ (a : ℕ). contains_key p.written (page_in BASE a)) c.at ∙ written) ref.1 own)
          (subst (IsKnown (left_book st h)) ref.1.word
          (works.fits.references c.from c.name k c.was.sheet c.booked (before_left catalog pages st settled h ops works m p has (page_in BASE c.from) c.was.sheet c.was.on) ref.1.place)))

      roots : (slot : ℕ) (sheet : Sheet) → slot < 16 → get (all_after p) 2 ≡ Some sheet → slice_index sheet.words (2 + slot) ≢ 0 → Leads 2 (slice_index sheet.words (2 + slot))
      roots slot sheet low on some =
          let old = root_copied others catalog pages st settled h ops works m p has slot sheet low on in
          let w : ℕ = slice_index old.0.words (2 + slot) in
          let v : ℕ = slice_index sheet.words (2 + slot) in
          back 2 w v old.2
          (known_leads 2 w sheet on (λ nil. some (old.2 ∙ nil)) (is_known w v old.2 (after_fits.roots slot sheet low on))
          (λ written own. root_leads others catalog pages st settled h ops works m p has slot w old.0 low old.1 refl own)
          (works.fits.roots slot old.0 low (before_left catalog pages st settled h ops works m p has 2 old.0 (laid_above (space_left h.space) p.changed 2 old.0 old.1))))
