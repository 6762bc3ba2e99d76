-- A transaction, with its space or without it, stays as it is while others commit.
use Rattle.std.proofs.Common.{◌≡◌, ◌∙◌, ◌⊎◌, ◌||◌, ◌&&◌, inl, inr, ℕ, Bool, true, false, List, [], ◌∷◌, Option, Some, None, is_some, refl, sym, ap, subst}
use Rattle.std.specs.Option.{option_or}
use Rattle.std.specs.FinMap.{get}
use Rattle.pm3_core.specs.declared.naming.TheConstants.{BASE}
use Rattle.pm3_types.specs.Fields.{Fields}
use Rattle.pm3_types.specs.Graph.{Part}
use Rattle.pm3_types.specs.Layout.{Sheet, PageImage, page_in}
use Rattle.pm3_types.specs.PageForm.{is_memory_reference}
use Rattle.pm3_types.specs.Shown.{Images, FitsImages, shown}
use Rattle.pm3_graph.specs.declared.operations.Op.{Op}
use Rattle.pm3_graph.specs.declared.operations.Op.TheVariants.{New, Word, SetWord, Reference, SetReference, TailRef, SetTailRef, Byte, SetByte, Root, SetRoot}
use Rattle.pm3_graph.specs.Operation.{IsRun}
use Rattle.pm3_page.specs.PageSheets.{sheet_in, sheets_of}
use Rattle.pm3_access.specs.Acts.{left_images, found_images, space_left, space_found}
use Rattle.pm3_access.specs.Holding.{HeldSpaceState, space_now}
use Rattle.pm3_access.proofs.HeldSheets.{get-found_images}
use Rattle.pm3_access.proofs.SoundingPages.{reference_for_more, form_for_more}
use Rattle.pm3_history.specs.Chronicled.{Chronicled}
use Rattle.pm3_history.specs.Entry.{Done, Entry}
use Rattle.pm3_history.specs.Homes.{IsHome}
use Rattle.pm3_history.specs.Lawful.{AreLawful}
use Rattle.pm3_history.specs.Named.{book_of}
use Rattle.pm3_history.specs.Persistent.{persistent_book}
use Rattle.pm3_history.specs.Spaces.{AreOfSpace, NoneOfSpace}
use Rattle.pm3_history.specs.State.{State, all_images, step, entry_after, now}
use Rattle.pm3_history.proofs.Chronicles.{entry_keeps}
use Rattle.pm3_history.proofs.Holding.{homes_stay, homes_stand}
use Rattle.pm3_history.proofs.Laying.{off_cases}
use Rattle.pm3_history.proofs.Spacing.{spaces_stand}
use Rattle.pm3_history.proofs.Sparing.{persistent_are_written}
use Rattle.pm3_txn.specs.TransactionLaws.{IsSettled}
use Rattle.pm3_txn.specs.Works.{IsLastSpace, IsOwnName, MakesOf, AllMake, left_book, found_book, is_own_object, may_hold}
use Rattle.pm3_txn.specs.WorkLaws.{NoneOf, WorksGoOn}
use Rattle.pm3_txn.proofs.Going.{high_rises}
use Rattle.pm3_txn.proofs.Seeing.{settled_after}
use Rattle.pm3_txn.proofs.OwnBooks.{get-space_left, AreOver, found_booked, found_owned, found_last, fits_after, shown_after}
use Rattle.pm3_txn.proofs.WorksFound.{left_over, found_over, found_fits}

-- the last images of a space stay so where no commit has a pass of it
pub space_stands : (catalog : List Fields) (pages : ℕ) (st : State) (more : List Done) (space : ℕ) (own : Images) → Chronicled catalog BASE st → AreLawful catalog BASE pages st more
    → NoneOfSpace more space → AreOfSpace st space own → AreOfSpace (now catalog BASE st more) space own
space_stands catalog pages st [] space own chron are none of = of
space_stands catalog pages st (d ∷ ds) space own chron are none of =
    let e : Entry = entry_after catalog BASE st d in
    space_stands catalog pages (step BASE st e) ds space own (entry_keeps catalog BASE pages st e chron are.0) are.1 none.1 (spaces_stand catalog BASE pages st e space own chron are.0 none.0 of)

-- what holds of all names that a run makes
pub makes_map : (P Q : ℕ → Type 0) → ((n : ℕ) → P n → Q n) → (op : Op) → MakesOf P op → MakesOf Q op
makes_map P Q up (New name ty tail) is = up name is
makes_map P Q up (Word name field) is = tt
makes_map P Q up (SetWord name field value) is = tt
makes_map P Q up (Reference name field) is = tt
makes_map P Q up (SetReference name field to) is = tt
makes_map P Q up (TailRef name at) is = tt
makes_map P Q up (SetTailRef name at to) is = tt
makes_map P Q up (Byte name at) is = tt
makes_map P Q up (SetByte name at value) is = tt
makes_map P Q up (Root slot) is = tt
makes_map P Q up (SetRoot slot to) is = tt

pub all_map : (P Q : ℕ → Type 0) → ((n : ℕ) → P n → Q n) → (ops : List (Op × ℕ)) → AllMake P ops → AllMake Q ops
all_map P Q up [] are = tt
all_map P Q up (e ∷ es) are = (makes_map P Q up e.0 are.0, all_map P Q up es are.1)

or_either : (a b c : Bool) → (a ≡ true → c ≡ true) → (a || b) ≡ true → (c || b) ≡ true
or_either true b c up is = ap (λ (x : Bool). x || b) (up refl)
or_either false b true up is = refl
or_either false b false up is = is

pub works_go_on : WorksGoOn
works_go_on catalog pages st h ops more settled are unwritten bare none fresh works = record {
  places = works.places;
  form = works.form;
  sound = λ page image on. form_for_more catalog (may_hold pages st h) (may_hold pages after h) rises image.page image.sheet (works.sound page image on);
  fits = left.0;
  last = last;
  held = works.held;
  homes = λ page is. (let home = works.homes page is in ((homes_stay catalog BASE pages st more page settled.chronicled are home.0).0, home.1));
  space = space_after h.space none works.space;
  apart = apart_after;
  old = old_after;
  run = subst (λ (p : Part). IsRun catalog ops p (shown catalog BASE (left_book after h) (left_images h))) (sym found)
      (subst (λ (p : Part). IsRun catalog ops (shown catalog BASE (found_book st h) (found_images h)) p) (sym left.1) works.run);
  new = all_map (IsOwnName st (space_left h.space)) (IsOwnName after (space_left h.space))
      (λ n is. record { address = is.address; has = is.has; new = fresh n is }) ops works.new;
}
  where
    after : State
    after = now catalog BASE st more

    rises : (a : ℕ) → may_hold pages st h a ≡ true → may_hold pages after h a ≡ true
    rises a = or_either (is_memory_reference BASE st.high_page a) (is_memory_reference BASE pages a && is_own_object h a) (is_memory_reference BASE after.high_page a)
        (reference_for_more BASE st.high_page after.high_page a (high_rises catalog pages st more are))

    space_after : (s : Option HeldSpaceState) → NoneOf more s → IsLastSpace st s → IsLastSpace after s
    space_after None none is = tt
    space_after (Some s) none is = space_stands catalog pages st more s.number (sheets_of s.images.found) settled.chronicled are none is

    apart_after : (a n : ℕ) → get (persistent_book BASE after) a ≡ Some n → space_now h.space (page_in BASE a) ≡ None
    apart_after a n has = of (space_now h.space (page_in BASE a)) refl
      where
        of : (o : Option PageImage) → space_now h.space (page_in BASE a) ≡ o → space_now h.space (page_in BASE a) ≡ None
        of None is = is
        of (Some image) is =
            works.apart a n (persistent_are_written catalog BASE pages st more a n settled.chronicled are (bare (page_in BASE a) (ap is_some is)) has)

    left_apart : (a n : ℕ) → get (persistent_book BASE after) a ≡ Some n → get (space_left h.space) (page_in BASE a) ≡ None
    left_apart a n has = get-space_left h.space (page_in BASE a) ∙ ap sheet_in (apart_after a n has)

    settled_then : IsSettled catalog after
    settled_then = settled_after catalog pages st more settled are

    found_apart : (a n : ℕ) → get (persistent_book BASE after) a ≡ Some n → get (space_found h.space) (page_in BASE a) ≡ None
    found_apart a n has = found_owned catalog after settled_then h.space (space_after h.space none works.space) (page_in BASE a) (off_cases BASE after.book after.owner a n has).0

    old_after : (a n : ℕ) → get (book_of BASE (space_left h.space)) a ≡ Some n
        → (get (book_of BASE (space_found h.space)) a ≡ Some n) ⊎ (get after.graph.records n ≡ None)
    old_after a n has = of (works.old a n has)
      where
        of : (get (book_of BASE (space_found h.space)) a ≡ Some n) ⊎ (get st.graph.records n ≡ None) → (get (book_of BASE (space_found h.space)) a ≡ Some n) ⊎ (get after.graph.records n ≡ None)
        of (inl found_is) = inl found_is
        of (inr none_is) = inr (fresh n (record { address = a; has = has; new = none_is }))

    booked_then : (a n : ℕ) → get (book_of BASE (space_found h.space)) a ≡ Some n → get after.book a ≡ Some n
    booked_then = found_booked catalog after settled_then h.space (space_after h.space none works.space)

    left : FitsImages catalog BASE (left_book after h) (left_images h)
        × (shown catalog BASE (left_book after h) (left_images h) ≡ shown catalog BASE (left_book st h) (left_images h))
    left =
        let over : AreOver st (space_left h.space) (left_images h) = left_over st h works.places (λ q is. (works.homes q is).0) in
        let old : (a n : ℕ) → get (book_of BASE (space_left h.space)) a ≡ Some n → (get after.book a ≡ Some n) ⊎ (get after.graph.records n ≡ None) =
        λ a n has. either a n (old_after a n has) in (
          fits_after catalog pages st more settled are (space_left h.space) left_apart old works.fits.one (left_images h) over works.fits,
          shown_after catalog pages st more settled are (space_left h.space) left_apart old works.fits.one (left_images h) over works.fits,
        )
      where
        either : (a n : ℕ) → (get (book_of BASE (space_found h.space)) a ≡ Some n) ⊎ (get after.graph.records n ≡ None) → (get after.book a ≡ Some n) ⊎ (get after.graph.records n ≡ None)
        either a n (inl is) = inl (booked_then a n is)
        either a n (inr is) = inr is

    found_homes : (q : ℕ) → is_some (get h.pages.found q) ≡ true → IsHome BASE st q
    found_homes q is = (works.homes q (sym (works.held q) ∙ is)).0

    found : shown catalog BASE (found_book after h) (found_images h) ≡ shown catalog BASE (found_book st h) (found_images h)
    found =
        let fits : FitsImages catalog BASE (found_book st h) (found_images h) = found_fits catalog st settled h works.space found_homes works.last in
        shown_after catalog pages st more settled are (space_found h.space) found_apart (λ a n has. inl (booked_then a n has)) fits.one (found_images h)
        (found_over catalog st settled h works.space found_homes) fits

    last : (q : ℕ) (sheet : Sheet) → get (found_images h) q ≡ Some sheet → get (all_images after) q ≡ Some sheet
    last q sheet is = of (get h.pages.found q) refl
      where
        of : (o : Option PageImage) → get h.pages.found q ≡ o → get (all_images after) q ≡ Some sheet
        of (Some image) on =
            let there = sym (works.held q) ∙ ap is_some on in
            homes_stand catalog BASE pages st more q settled.chronicled are (works.homes q there).0 (unwritten q there) ∙ works.last q sheet is
        of None off = found_last catalog after settled_then h.space (space_after h.space none works.space) q sheet
            (sym (ap (λ (o : Option PageImage). option_or (sheet_in o) (get (space_found h.space) q)) off) ∙ sym (get-found_images h q) ∙ is)
