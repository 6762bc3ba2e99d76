-- What a transaction holds lies on persistent pages and on those of its space, and its books fit what was found.
use Rattle.std.proofs.Common.{◌≡◌, ◌∙◌, ◌⊎◌, inl, inr, ℕ, true, List, Option, Some, None, is_some, refl, sym, ap}
use Rattle.std.proofs.lemmas.Bool.{cases_eq}
use Rattle.std.specs.Prelude.{◌≢◌}
use Rattle.std.specs.Option.{option_or}
use Rattle.std.specs.Ordering.{nat_cmp}
use Rattle.std.specs.FinMap.{get, get-empty}
use Rattle.pm3_core.specs.declared.naming.TheConstants.{BASE}
use Rattle.pm3_types.specs.Fields.{Fields}
use Rattle.pm3_types.specs.Layout.{Sheet, PageImage, page_in}
use Rattle.pm3_types.specs.Shown.{Book, FitsImages, IsKnown}
use Rattle.pm3_page.specs.PageSheets.{sheet_in, sheets_of}
use Rattle.pm3_access.specs.Acts.{AreInPlace, left_images, found_images, space_left, space_found}
use Rattle.pm3_access.specs.Holding.{Holding, HeldSpaceState, space_now}
use Rattle.pm3_access.proofs.HeldSheets.{get-left_images, get-found_images}
use Rattle.pm3_history.specs.Homes.{IsHome}
use Rattle.pm3_history.specs.Named.{book_of}
use Rattle.pm3_history.specs.Persistent.{persistent_book}
use Rattle.pm3_history.specs.State.{State, all_images}
use Rattle.pm3_history.proofs.Laying.{some_of, some_none, laid_still, off_keeps}
use Rattle.pm3_txn.specs.TransactionLaws.{IsSettled}
use Rattle.pm3_txn.specs.Works.{found_book, IsLastSpace}
use Rattle.pm3_txn.proofs.Admitting.{home_image}
use Rattle.pm3_txn.proofs.OwnBooks.{get-space_left, AreOver, last_owner, last_whole, booked_own, found_owned, found_known, with_own}

module _ (st : State) (h : Holding) (places : AreInPlace h) (homes : (q : ℕ) → is_some (get h.pages.left q) ≡ true → IsHome BASE st q) where
  pub left_over : AreOver st (space_left h.space) (left_images h)
  left_over q sheet is = of (get h.pages.left q) refl
    where
      of : (o : Option PageImage) → get h.pages.left q ≡ o → ((get (space_left h.space) q ≡ None) × IsHome BASE st q) ⊎ (get (space_left h.space) q ≡ Some sheet)
      of (Some image) on = inl (get-space_left h.space q ∙ ap sheet_in (places.apart q (ap is_some on)), homes q (ap is_some on))
      of None none = inr (get-space_left h.space q ∙ sym (ap (λ (o : Option PageImage). sheet_in (option_or o (space_now h.space q))) none) ∙ sym (get-left_images h q) ∙ is)

module _ (catalog : List Fields) (st : State) (settled : IsSettled catalog st) (h : Holding) (space : IsLastSpace st h.space)
    (homes : (q : ℕ) → is_some (get h.pages.found q) ≡ true → IsHome BASE st q) where
  pub found_over : AreOver st (space_found h.space) (found_images h)
  found_over q sheet is = of (get h.pages.found q) refl
    where
      of : (o : Option PageImage) → get h.pages.found q ≡ o → ((get (space_found h.space) q ≡ None) × IsHome BASE st q) ⊎ (get (space_found h.space) q ≡ Some sheet)
      of (Some image) on =
          let home = homes q (ap is_some on) in inl (found_owned catalog st settled h.space space q (home_image catalog st settled q home).0, home)
      of None none = inr (sym (ap (λ (o : Option PageImage). option_or (sheet_in o) (get (space_found h.space) q)) none) ∙ sym (get-found_images h q) ∙ is)

  -- what the whole book knows on a page of the same space is an object of the space
  own_known : (s : Option HeldSpaceState) → IsLastSpace st s → (q : ℕ) (sheet : Sheet) → get (space_found s) q ≡ Some sheet
      → (w m : ℕ) → get st.owner (page_in BASE w) ≡ get st.owner q → get st.book w ≡ Some m → get (book_of BASE (space_found s)) w ≡ Some m
  own_known None is q sheet on w m same has = absurd (some_none (get (space_found None) q) sheet on (get-empty nat_cmp q))
  own_known (Some s) is q sheet on w m same has =
      let mine = same ∙ last_owner catalog st settled s.number (sheets_of s.images.found) is q sheet on in
      let there = some_of (get (sheets_of s.images.found) (page_in BASE w)) (last_whole catalog st settled s.number (sheets_of s.images.found) is (page_in BASE w) mine) in
      booked_own catalog st settled s.number (sheets_of s.images.found) is w m there.0 there.1 has

  abbrev book : Book
  book = found_book st h

  old_known : (w m : ℕ) → get st.owner (page_in BASE w) ≡ None → get st.book w ≡ Some m → is_some (get book w) ≡ true
  old_known w m free has = laid_still (persistent_book BASE st) (book_of BASE (space_found h.space)) w (ap is_some (off_keeps BASE st.book st.owner w free ∙ has))

  module _ (last : (q : ℕ) (sheet : Sheet) → get (found_images h) q ≡ Some sheet → get (all_images st) q ≡ Some sheet) where
    pub found_fits : FitsImages catalog BASE (found_book st h) (found_images h)
    found_fits = record {
      one = λ a b n has also. settled.chronicled.fits.one a b n (known a n has) (known b n also);
      named = λ a n has. settled.chronicled.fits.named a n (known a n has);
      objects = λ a n sheet has on. settled.chronicled.fits.objects a n sheet (known a n has) (last (page_in BASE a) sheet on);
      references = λ a n k sheet has on is.
          by (page_in BASE a) sheet on _ (settled.chronicled.fits.references a n k sheet (known a n has) (last (page_in BASE a) sheet on) is)
          (settled.chronicled.within.objects a n k sheet (known a n has) (last (page_in BASE a) sheet on) is);
      roots = λ slot sheet low on. by 2 sheet on _ (settled.chronicled.fits.roots slot sheet low (last 2 sheet on)) (settled.chronicled.within.roots slot sheet low (last 2 sheet on));
    }
      where
        known : (a n : ℕ) → get book a ≡ Some n → get st.book a ≡ Some n
        known = found_known catalog st settled h.space space

        by : (q : ℕ) (sheet : Sheet) → get (found_images h) q ≡ Some sheet → (w : ℕ) → IsKnown st.book w
            → (w ≢ 0 → (get st.owner (page_in BASE w) ≡ None) ⊎ (get st.owner (page_in BASE w) ≡ get st.owner q)) → IsKnown book w
        by q sheet on w (inl nil) may = inl nil
        by q sheet on w (inr some) may = elim (cases_eq w 0) [
          | inl nil ↦ inl nil
          | inr other ↦ inr (of (may other) (found_over q sheet on))
        ]
          where
            m : (n : ℕ) × (get st.book w ≡ Some n)
            m = some_of (get st.book w) some

            of : (get st.owner (page_in BASE w) ≡ None) ⊎ (get st.owner (page_in BASE w) ≡ get st.owner q)
                → ((get (space_found h.space) q ≡ None) × IsHome BASE st q) ⊎ (get (space_found h.space) q ≡ Some sheet) → is_some (get book w) ≡ true
            of (inl free) over = old_known w m.0 free m.1
            of (inr same) (inl home) = old_known w m.0 (same ∙ (home_image catalog st settled q home.1).0) m.1
            of (inr same) (inr mine) = ap is_some (with_own st (space_found h.space) w m.0 (own_known h.space space q sheet mine w m.0 same m.1))
