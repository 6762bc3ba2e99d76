-- A transaction that holds pages alone, while others commit.
use Rattle.std.proofs.Common.{◌≡◌, ◌++◌, ◌∙◌, ℕ, true, List, [], ◌∷◌, Option, Some, None, is_some, refl, sym, ap, subst}
use Rattle.std.specs.Option.{option_or}
use Rattle.std.specs.FinMap as map
use Rattle.std.specs.FinMap.{get}
use Rattle.pm3_core.specs.declared.naming.TheConstants.{BASE}
use Rattle.pm3_types.specs.Layout.{Sheet, PageImage}
use Rattle.pm3_types.specs.PageForm.{HasForm, IsSound, is_memory_reference}
use Rattle.pm3_graph.specs.declared.operations.Op.{Op}
use Rattle.pm3_page.specs.PageSheets.{sheet_in}
use Rattle.pm3_access.specs.Access.{HaveForm}
use Rattle.pm3_access.specs.Acts.{found_images, space_found}
use Rattle.pm3_access.specs.Holding.{Holding, image_in}
use Rattle.pm3_access.proofs.HeldSheets.{get-found_images}
use Rattle.pm3_access.proofs.SoundingPages.{form_for_more}
use Rattle.pm3_history.specs.Entry.{Done}
use Rattle.pm3_history.specs.LastImages.{last_written}
use Rattle.pm3_history.specs.Opens.{Opens}
use Rattle.pm3_history.specs.State.{State, now}
use Rattle.pm3_history.proofs.Laying.{some_none}
use Rattle.pm3_history.proofs.Lasting.{last_is_written}
use Rattle.pm3_table.specs.declared.view.Told.{Told}
use Rattle.pm3_table.specs.declared.view.View.{View}
use Rattle.pm3_table.specs.Holds.{holds_of}
use Rattle.pm3_table.specs.Telling.{Lawful, NoneNames}
use Rattle.pm3_txn.specs.Knowing.{is_in_use, state_seen}
use Rattle.pm3_txn.specs.Loads.{IsPersistent}
use Rattle.pm3_txn.specs.Runs.{Runs, RunsAfter}
use Rattle.pm3_txn.specs.Underway.{IsUnder}
use Rattle.pm3_txn.specs.Values.{IsPageOf, last_known}
use Rattle.pm3_txn.proofs.Going.{transactions_go_on}
use Rattle.pm3_txn.proofs.Seeing.{settled_now, lawful_between, lawful_before, now_later, unwritten, use_later, use_form, persistent_later}

or_or : (a b c : Option Sheet) → option_or (option_or a b) c ≡ option_or a (option_or b c)
or_or None b c = refl
or_or (Some x) b c = refl

pub last_written-append : (a b : List Done) (q : ℕ) → last_written (a ++ b) q ≡ option_or (last_written b q) (last_written a q)
last_written-append [] b q = or_none (last_written b q)
  where
    or_none : (o : Option Sheet) → o ≡ option_or o None
    or_none None = refl
    or_none (Some x) = refl
last_written-append (d ∷ ds) b q = ap (λ (o : Option Sheet). option_or o (get d.written q)) (last_written-append ds b q) ∙ or_or (last_written b q) (last_written ds q) (get d.written q)

pub page_sound : (told : Told) (seen : List Done) (q : ℕ) (image : PageImage) → IsPageOf told seen q image → IsSound told.opening.catalog BASE told.pages image
page_sound told seen q image of = subst (λ (n : ℕ). HasForm told.opening.catalog (is_memory_reference BASE told.pages) n image.sheet) (sym of.home)
    (form_for_more told.opening.catalog (is_in_use told seen) (is_memory_reference BASE told.pages) (use_form told seen) q image.sheet of.form)

-- a page's value stays one while no commit names the page
pub page_later : (told : Told) (seen between : List Done) (q : ℕ) (image : PageImage) → NoneNames told between q → IsPageOf told seen q image → IsPageOf told (seen ++ between) q image
page_later told seen between q image none of = record {
  low = of.low;
  home = of.home;
  form = form_for_more told.opening.catalog (is_in_use told seen) (is_in_use told (seen ++ between)) (use_later told seen between) q image.sheet of.form;
  known = λ sheet is. of.known sheet (sym same ∙ is);
  loaded = λ is. of.loaded (sym same ∙ is);
  last = λ st opens. ap (λ (s : State). get s.pages q) (now_later told seen between st)
      ∙ last_is_written told.opening.catalog BASE (now told.opening.catalog BASE st seen) between q
      ∙ ap (λ (o : Option Sheet). option_or o (get (now told.opening.catalog BASE st seen).pages q)) quiet ∙ of.last st opens;
}
  where
    quiet : last_written between q ≡ None
    quiet = unwritten told between q none

    same : last_known told.opening (seen ++ between) q ≡ last_known told.opening seen q
    same = ap (λ (o : Option Sheet). option_or o (map.get told.opening.images q))
        (last_written-append seen between q ∙ ap (λ (o : Option Sheet). option_or o (last_written seen q)) quiet)

-- what was found is held
pub found_held : (told : Told) (v : View) (h : Holding) → IsUnder told v h → (q : ℕ) (image : PageImage) → map.get h.pages.found q ≡ Some image → is_some (image_in h q) ≡ true
found_held told v h under q image is = of (image_in h q) refl
  where
    of : (o : Option PageImage) → image_in h q ≡ o → is_some o ≡ true
    of None none = absurd (some_none (get (found_images h) q) image.sheet
        (get-found_images h q ∙ ap (λ (o : Option PageImage). option_or (sheet_in o) (get (space_found h.space) q)) is) (under.places.found q none))
    of (Some x) there = refl

module _ (told : Told) (v w : View) (h : Holding) (between : List Done) (under : IsUnder told v h)
    (seen : w.seen ≡ v.seen ++ between) (lawful : Lawful told w.seen)
    (apart : (u : ℕ) → holds_of v.holds u ≡ true → NoneNames told between u) where
  all : Lawful told (v.seen ++ between)
  all = subst (Lawful told) seen lawful

  before : Lawful told v.seen
  before = lawful_before told v.seen between all

  quiet : (q : ℕ) → is_some (image_in h q) ≡ true → NoneNames told between q
  quiet q is = apart q (under.units q is).0

  -- what was done goes on after the commits of others
  runs_later : (st : State) → Opens BASE told.pages told.opening st → (done : List (Op × ℕ)) → RunsAfter told v h st done → RunsAfter told w h st done
  runs_later st opens done runs =
      subst (λ (h' : List Done). Runs told.opening.catalog (now told.opening.catalog BASE st h') h done) (sym seen)
      (subst (λ (s : State). Runs told.opening.catalog s h done) (sym (now_later told v.seen between st))
      (transactions_go_on told.opening.catalog told.pages (state_seen told v st) h done between (settled_now told v.seen st before opens)
      (lawful_between told v.seen between st all opens) (λ page is. unwritten told between page (quiet page is)) runs))

  found_later : (q : ℕ) (image : PageImage) → map.get h.pages.found q ≡ Some image → IsPageOf told w.seen q image
  found_later q image is = subst (λ (l : List Done). IsPageOf told l q image) (sym seen) (page_later told v.seen between q image (quiet q (found_held told v h under q image is)) (under.found q image is))

  form_later : HaveForm told.opening.catalog (is_in_use told w.seen) h
  form_later q image on = subst (λ (l : List Done). HasForm told.opening.catalog (is_in_use told l) image.page image.sheet) (sym seen)
      (form_for_more told.opening.catalog (is_in_use told v.seen) (is_in_use told (v.seen ++ between)) (use_later told v.seen between) image.page image.sheet (under.form q image on))

  -- and so does what is known of it, where the same units are held
  pub under_later : ((u : ℕ) → holds_of w.holds u ≡ holds_of v.holds u) → IsUnder told w h
  under_later same = record {
    alone = under.alone;
    places = under.places;
    units = λ q is. (let was = under.units q is in (same q ∙ was.0, was.1));
    only = λ u is. under.only u (sym (same u) ∙ is);
    persistent = λ q is. subst (λ (l : List Done). IsPersistent told l q) (sym seen) (persistent_later told v.seen between q (under.persistent q is));
    kept = under.kept;
    found = found_later;
    form = form_later;
    runs = λ st opens. (let was = under.runs st opens in (was.0, runs_later st opens was.0 was.1));
  }
