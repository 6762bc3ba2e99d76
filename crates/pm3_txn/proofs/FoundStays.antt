-- What a transaction found is part of the graph, and stays so.
use Rattle.std.proofs.Common.{◌≡◌, ◌∙◌, ◌⊎◌, inl, inr, ℕ, true, List, Option, Some, None, is_some, sym, ap, subst}
use Rattle.std.specs.FinMap.{get, get-empty}
use Rattle.std.specs.Ordering.{nat_cmp}
use Rattle.pm3_core.specs.declared.naming.TheConstants.{BASE}
use Rattle.pm3_types.specs.Fields.{Fields}
use Rattle.pm3_types.specs.Graph.{Part, PartOf}
use Rattle.pm3_types.specs.Layout.{Sheet, page_in}
use Rattle.pm3_types.specs.Shown.{FitsImages, shown}
use Rattle.pm3_types.proofs.Parts.{part_of_itself, part_of_part}
use Rattle.pm3_graph.specs.declared.operations.Op.{Op}
use Rattle.pm3_page.specs.PageSheets.{sheets_of}
use Rattle.pm3_access.specs.Acts.{found_images, found_part, space_found}
use Rattle.pm3_access.specs.Holding.{Holding, HeldSpaceState}
use Rattle.pm3_history.specs.Entry.{Done}
use Rattle.pm3_history.specs.Homes.{IsHome}
use Rattle.pm3_history.specs.Lawful.{AreLawful}
use Rattle.pm3_history.specs.Named.{book_of}
use Rattle.pm3_history.specs.Persistent.{persistent_book}
use Rattle.pm3_history.specs.State.{State, all_images, now}
use Rattle.pm3_history.proofs.Committing.{shows_among}
use Rattle.pm3_history.proofs.Holding.{shown_alike}
use Rattle.pm3_history.proofs.Laying.{some_of, some_none, one_value, off_cases}
use Rattle.pm3_txn.specs.TransactionLaws.{IsSettled}
use Rattle.pm3_txn.specs.Works.{Works, IsLastSpace, found_book}
use Rattle.pm3_txn.proofs.Admitting.{home_named}
use Rattle.pm3_txn.proofs.OwnBooks.{booked_own, found_booked, found_known, found_owned, shown_after, with_old, with_own}
use Rattle.pm3_txn.proofs.Seeing.{settled_after}
use Rattle.pm3_txn.proofs.WorksFound.{found_fits, found_over}

-- what is the same is part of it
pub part_same : (f g : Part) → f ≡ g → PartOf f g
part_same f g same = subst (PartOf f) same (part_of_itself f)

-- an object on a page of the space, as that was found, is one of the space
booked_by : (catalog : List Fields) (st : State) (settled : IsSettled catalog st) (s : Option HeldSpaceState) → IsLastSpace st s → (a n : ℕ) (sheet : Sheet)
    → get (space_found s) (page_in BASE a) ≡ Some sheet → get st.book a ≡ Some n → get (book_of BASE (space_found s)) a ≡ Some n
booked_by catalog st settled None is a n sheet on has = absurd (some_none (get (space_found None) (page_in BASE a)) sheet on (get-empty nat_cmp (page_in BASE a)))
booked_by catalog st settled (Some s) is a n sheet on has = booked_own catalog st settled s.number (sheets_of s.images.found) is a n sheet on has

module _ (catalog : List Fields) (pages : ℕ) (st : State) (settled : IsSettled catalog st) (h : Holding) (ops : List (Op × ℕ)) (works : Works catalog pages st h ops) where
  homes_found : (q : ℕ) → is_some (get h.pages.found q) ≡ true → IsHome BASE st q
  homes_found q is = (works.homes q (sym (works.held q) ∙ is)).0

  fit : FitsImages catalog BASE (found_book st h) (found_images h)
  fit = found_fits catalog st settled h works.space homes_found works.last

  -- it is what its images show under the book of all objects
  pub found_whole : shown catalog BASE st.book (found_images h) ≡ found_part catalog BASE (found_book st h) h
  found_whole =
      shown_alike catalog BASE (found_images h) (found_book st h) st.book fit settled.chronicled.fits.one (found_known catalog st settled h.space works.space) back
    where
      back : (a n : ℕ) (sheet : Sheet) → get (found_images h) (page_in BASE a) ≡ Some sheet → get st.book a ≡ Some n → get (found_book st h) a ≡ Some n
      back a n sheet on is = of (found_over catalog st settled h works.space homes_found (page_in BASE a) sheet on)
        where
          of : ((get (space_found h.space) (page_in BASE a) ≡ None) × IsHome BASE st (page_in BASE a)) ⊎ (get (space_found h.space) (page_in BASE a) ≡ Some sheet) → get (found_book st h) a ≡ Some n
          of (inl home) = with_old st (space_found h.space) a home.0 ∙ home_named catalog st settled a n home.1 is
          of (inr mine) = with_own st (space_found h.space) a n (booked_by catalog st settled h.space works.space a n sheet mine is)

  -- so it is part of the graph
  pub found_in_graph : PartOf (found_part catalog BASE (found_book st h) h) st.graph
  found_in_graph = subst (λ (p : Part). PartOf p st.graph) found_whole
      (part_of_part (shown catalog BASE st.book (found_images h)) (shown catalog BASE st.book (all_images st)) st.graph
      (shows_among catalog BASE st.book (found_images h) (all_images st) works.last settled.chronicled.fits.one) settled.chronicled.shows)

-- and of what was found with more pages
pub found_more : (catalog : List Fields) (pages : ℕ) (st : State) (h g : Holding) (ops more : List (Op × ℕ)) → IsSettled catalog st → Works catalog pages st h ops → Works catalog pages st g more
    → ((q : ℕ) → is_some (get (found_images h) q) ≡ true → is_some (get (found_images g) q) ≡ true)
    → PartOf (found_part catalog BASE (found_book st h) h) (found_part catalog BASE (found_book st g) g)
found_more catalog pages st h g ops more settled first second pages_too =
    subst (λ (p : Part). PartOf p (found_part catalog BASE (found_book st g) g)) (found_whole catalog pages st settled h ops first)
    (subst (PartOf (shown catalog BASE st.book (found_images h))) (found_whole catalog pages st settled g more second)
    (shows_among catalog BASE st.book (found_images h) (found_images g) among settled.chronicled.fits.one))
  where
    among : (q : ℕ) (sheet : Sheet) → get (found_images h) q ≡ Some sheet → get (found_images g) q ≡ Some sheet
    among q sheet on =
        let also = some_of (get (found_images g) q) (pages_too q (ap is_some on)) in
        also.1 ∙ ap Some (one_value (get (all_images st) q) also.0 sheet (second.last q also.0 also.1) (first.last q sheet on))

-- after commits of others it is as it was
pub found_after : (catalog : List Fields) (pages : ℕ) (st : State) (more : List Done) (h : Holding) (ops then : List (Op × ℕ)) → IsSettled catalog st → AreLawful catalog BASE pages st more
    → Works catalog pages st h ops → Works catalog pages (now catalog BASE st more) h then
    → found_part catalog BASE (found_book (now catalog BASE st more) h) h ≡ found_part catalog BASE (found_book st h) h
found_after catalog pages st more h ops then settled are works later =
    shown_after catalog pages st more settled are (space_found h.space) apart (λ a n has. inl (found_booked catalog after settled_then h.space later.space a n has))
    (fit catalog pages st settled h ops works).one (found_images h)
    (found_over catalog st settled h works.space (homes_found catalog pages st settled h ops works)) (fit catalog pages st settled h ops works)
  where
    after : State
    after = now catalog BASE st more

    settled_then : IsSettled catalog after
    settled_then = settled_after catalog pages st more settled are

    apart : (a n : ℕ) → get (persistent_book BASE after) a ≡ Some n → get (space_found h.space) (page_in BASE a) ≡ None
    apart a n has = found_owned catalog after settled_then h.space later.space (page_in BASE a) (off_cases BASE after.book after.owner a n has).0
