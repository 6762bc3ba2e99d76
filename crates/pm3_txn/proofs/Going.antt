-- A transaction stays as it is while others commit.
use Rattle.std.proofs.Common.{◌≡◌, ◌≤◌, ◌∙◌, ℕ, true, List, [], ◌∷◌, Option, Some, None, is_some, refl, sym, ap, subst, arith}
use Rattle.std.specs.FinMap.{get}
use Rattle.pm3_core.specs.declared.naming.TheConstants.{BASE}
use Rattle.pm3_types.specs.Fields.{Fields}
use Rattle.pm3_types.specs.Graph.{Part}
use Rattle.pm3_types.specs.Layout.{Sheet, PageImage}
use Rattle.pm3_types.specs.PageForm.{HasForm, is_memory_reference}
use Rattle.pm3_types.specs.Shown.{Images, FitsImages, shown}
use Rattle.pm3_graph.specs.Operation.{IsRun}
use Rattle.pm3_page.specs.PageSheets.{sheet_in}
use Rattle.pm3_access.specs.Acts.{left_images, found_images}
use Rattle.pm3_access.specs.Holding.{image_in}
use Rattle.pm3_access.proofs.HeldSheets.{get-left_images}
use Rattle.pm3_access.proofs.SoundingPages.{reference_for_more, form_for_more}
use Rattle.pm3_history.specs.Entry.{Done}
use Rattle.pm3_history.specs.Homes.{IsHome}
use Rattle.pm3_history.specs.Lawful.{AreLawful}
use Rattle.pm3_history.specs.Persistent.{persistent_book}
use Rattle.pm3_history.specs.State.{State, all_images, step, entry_after, now}
use Rattle.pm3_history.proofs.Committing.{fits_among}
use Rattle.pm3_history.proofs.Holding.{homes_stay, homes_stand, held_shows_on}
use Rattle.pm3_history.proofs.Laying.{there_none}
use Rattle.pm3_history.proofs.Persisting.{persistent_fits}
use Rattle.pm3_txn.specs.TransactionLaws.{TransactionsGoOn}
use Rattle.pm3_txn.proofs.Admitting.{home_image}

-- the high page only grows
pub high_rises : (catalog : List Fields) (pages : ℕ) (st : State) (more : List Done) → AreLawful catalog BASE pages st more → st.high_page ≤ (now catalog BASE st more).high_page
high_rises catalog pages st [] are = omega arith
high_rises catalog pages st (d ∷ ds) are =
    let first = are.0.writes.pages_rise in
    let rest = high_rises catalog pages (step BASE st (entry_after catalog BASE st d)) ds are.1 in omega (arith, first, rest)

-- what has the form in a store of fewer pages has it in one of more
pub form_rises : (catalog : List Fields) (few more page : ℕ) (sheet : Sheet) → few ≤ more → HasForm catalog (is_memory_reference BASE few) page sheet → HasForm catalog (is_memory_reference BASE more) page sheet
form_rises catalog few more page sheet up =
    form_for_more catalog (is_memory_reference BASE few) (is_memory_reference BASE more) (λ a. reference_for_more BASE few more a up) page sheet

some_sheet : (o : Option PageImage) → is_some (sheet_in o) ≡ true → is_some o ≡ true
some_sheet None is = is
some_sheet (Some image) is = refl

pub transactions_go_on : TransactionsGoOn
transactions_go_on catalog pages st h done more settled are unwritten runs = record {
  alone = runs.alone;
  places = runs.places;
  sound = λ page image is. form_rises catalog st.high_page after.high_page image.page image.sheet (high_rises catalog pages st more are) (runs.sound page image is);
  fits = (shows (left_images h) runs.fits left_homes).1;
  last = last;
  held = runs.held;
  homes = λ page is. (let home = runs.homes page is in ((homes_stay catalog BASE pages st more page settled.chronicled are home.0).0, home.1));
  run = subst (λ (p : Part). IsRun catalog done p (shown catalog BASE after.book (left_images h))) (sym (shows (found_images h) found_fits found_homes).0)
      (subst (λ (p : Part). IsRun catalog done (shown catalog BASE st.book (found_images h)) p) (sym (shows (left_images h) runs.fits left_homes).0) runs.run);
  old = runs.old;
}
  where
    after : State
    after = now catalog BASE st more

    shows : (held : Images) → FitsImages catalog BASE (persistent_book BASE st) held → ((page : ℕ) → is_some (get held page) ≡ true → IsHome BASE st page)
        → (shown catalog BASE after.book held ≡ shown catalog BASE st.book held) × FitsImages catalog BASE (persistent_book BASE after) held
    shows held = held_shows_on catalog BASE pages st more held settled.chronicled are

    left_homes : (page : ℕ) → is_some (get (left_images h) page) ≡ true → IsHome BASE st page
    left_homes page is = (runs.homes page (some_sheet (image_in h page) (ap is_some (sym (get-left_images h page)) ∙ is))).0

    held_of : (page : ℕ) (sheet : Sheet) → get (found_images h) page ≡ Some sheet → is_some (image_in h page) ≡ true
    held_of page sheet is = of (image_in h page) refl
      where
        of : (o : Option PageImage) → image_in h page ≡ o → is_some o ≡ true
        of None none = absurd (there_none (get (found_images h) page) (ap is_some is) (runs.places.found page none))
        of (Some image) there = refl

    last : (page : ℕ) (sheet : Sheet) → get (found_images h) page ≡ Some sheet → get (all_images after) page ≡ Some sheet
    last page sheet is =
        let held = held_of page sheet is in
        homes_stand catalog BASE pages st more page settled.chronicled are (runs.homes page held).0 (unwritten page held) ∙ runs.last page sheet is

    found_homes : (page : ℕ) → is_some (get (found_images h) page) ≡ true → IsHome BASE st page
    found_homes page is = of (get (found_images h) page) refl is
      where
        of : (o : Option Sheet) → get (found_images h) page ≡ o → is_some o ≡ true → IsHome BASE st page
        of None none e = absurd (cc e)
        of (Some sheet) has e = (runs.homes page (held_of page sheet has)).0

    found_fits : FitsImages catalog BASE (persistent_book BASE st) (found_images h)
    found_fits = fits_among catalog BASE (persistent_book BASE st) (found_images h) st.pages
        (λ page sheet is. sym (home_image catalog st settled page (found_homes page (ap is_some is))).1 ∙ runs.last page sheet is)
        (persistent_fits catalog BASE st settled.chronicled)
