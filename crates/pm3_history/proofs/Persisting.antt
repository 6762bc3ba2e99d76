-- The last images of the persistent pages show all that the roots reach.
use Rattle.std.proofs.Common.{◌≡◌, ◌≢◌, ◌+◌, ◌∙◌, ◌⊎◌, inl, inr, ℕ, true, List, Some, None, is_some, sym, ap}
use Rattle.std.specs.Prelude.{slice_index}
use Rattle.std.specs.FinMap.{get}
use Rattle.std.proofs.lemmas.Bool.{cases_eq}
use Rattle.pm3_types.specs.Fields.{Fields}
use Rattle.pm3_types.specs.Graph.{PartOf}
use Rattle.pm3_types.specs.Layout.{page_in, word_in}
use Rattle.pm3_types.specs.Record.{Record}
use Rattle.pm3_types.specs.ReachedLaws.{AgreesOnReached}
use Rattle.pm3_types.specs.Shown.{IsKnown, FitsImages, roots_in, shown, shown_records}
use Rattle.pm3_types.proofs.Books.{shown_at, shown_from}
use Rattle.pm3_types.proofs.Parts.{part_of_part}
use Rattle.pm3_history.specs.State.{State, all_images}
use Rattle.pm3_history.specs.Lawful.{MayRefer}
use Rattle.pm3_history.specs.Persistent.{persistent_book, persistent_part}
use Rattle.pm3_history.specs.Chronicled.{Chronicled}
use Rattle.pm3_history.proofs.Laying.{laid_below, off_keeps, off_cases}
use Rattle.pm3_history.proofs.Losing.{nothing_lost}
use Rattle.pm3_history.proofs.Plainly.{owned_none}
use Rattle.pm3_history.proofs.Replacing.{object_alike, object_same, roots_same}

module _ (catalog : List Fields) (base : ℕ) (st : State) (chron : Chronicled catalog base st) where
  pub page_same : (q : ℕ) → get st.owner q ≡ None → get (all_images st) q ≡ get st.pages q
  page_same q none = laid_below st.pages st.volatile q (owned_none st q (chron.owned q) none)

  root_page : get (all_images st) 2 ≡ get st.pages 2
  root_page = page_same 2 chron.roots_free

  -- what a persistent page refers to is persistent
  known_still : (q w : ℕ) → get st.owner q ≡ None → IsKnown st.book w → MayRefer base st.owner q w → IsKnown (persistent_book base st) w
  known_still q w none known may = elim (cases_eq w 0) [
    | inl e ↦ inl e
    | inr more ↦ by more known (may more)
  ]
    where
      by : w ≢ 0 → IsKnown st.book w → (get st.owner (page_in base w) ≡ None) ⊎ (get st.owner (page_in base w) ≡ get st.owner q) → IsKnown (persistent_book base st) w
      by more (inl e) where_ = absurd (more e)
      by more (inr is) (inl free) = inr (ap is_some (off_keeps base st.book st.owner w free) ∙ is)
      by more (inr is) (inr same) = inr (ap is_some (off_keeps base st.book st.owner w (same ∙ none)) ∙ is)

  pub persistent_fits : FitsImages catalog base (persistent_book base st) st.pages
  persistent_fits = record {
    one = λ a b n has also. chron.fits.one a b n (off_cases base st.book st.owner a n has).1 (off_cases base st.book st.owner b n also).1;
    named = λ a n has. chron.fits.named a n (off_cases base st.book st.owner a n has).1;
    objects = λ a n sheet has on.
        let old = off_cases base st.book st.owner a n has in
        chron.fits.objects a n sheet old.1 (page_same (page_in base a) old.0 ∙ on);
    references = λ a n k sheet has on reference.
        let old = off_cases base st.book st.owner a n has in
        let was : get (all_images st) (page_in base a) ≡ Some sheet = page_same (page_in base a) old.0 ∙ on in
        known_still (page_in base a) (slice_index sheet.words (word_in base a + 2 + k)) old.0 (chron.fits.references a n k sheet old.1 was reference)
        (chron.within.objects a n k sheet old.1 was reference);
    roots = λ slot sheet low on.
        let was : get (all_images st) 2 ≡ Some sheet = root_page ∙ on in
        known_still 2 (slice_index sheet.words (2 + slot)) chron.roots_free (chron.fits.roots slot sheet low was) (chron.within.roots slot sheet low was);
  }

  pub persistent_placed : (a n : ℕ) → get (persistent_book base st) a ≡ Some n → is_some (get st.pages (page_in base a)) ≡ true
  persistent_placed a n has =
      let old = off_cases base st.book st.owner a n has in
      sym (ap is_some (page_same (page_in base a) old.0)) ∙ chron.placed a n old.1

  records : (n : ℕ) (r : Record) → get (shown_records catalog base (persistent_book base st) st.pages) n ≡ Some r
      → get (shown_records catalog base st.book (all_images st)) n ≡ Some r
  records n r is =
      let from = shown_from catalog base (persistent_book base st) st.pages n r is in
      let a : ℕ = from.0 in
      let old = off_cases base st.book st.owner a n from.1 in
      shown_at catalog base st.book (all_images st) a n chron.fits.one old.1
      ∙ object_alike catalog base st.book st.pages (all_images st) a (page_same (page_in base a) old.0)
      ∙ object_same catalog base (persistent_book base st) st.book st.pages a n persistent_fits from.1
      (λ k m sheet on reference more has. (off_cases base st.book st.owner (slice_index sheet.words (word_in base a + 2 + k)) m has).1)
      ∙ from.2

  roots : roots_in catalog base st.book (all_images st) (get (all_images st) 2) ≡ roots_in catalog base (persistent_book base st) st.pages (get st.pages 2)
  roots =
      ap (roots_in catalog base st.book (all_images st)) root_page
      ∙ roots_same catalog base (persistent_book base st) st.book st.pages persistent_fits
      (λ slot m sheet low on more has. (off_cases base st.book st.owner (slice_index sheet.words (2 + slot)) m has).1)

  pub persistent_shows : PartOf (persistent_part catalog base st) (shown catalog base st.book (all_images st))
  persistent_shows = record { records = records; roots = λ names is. roots ∙ is }

  pub persistent_reached : AgreesOnReached catalog st.graph (persistent_part catalog base st)
  persistent_reached =
      nothing_lost catalog base (persistent_book base st) st.pages st.graph persistent_fits persistent_placed chron.roots
      (part_of_part (persistent_part catalog base st) (shown catalog base st.book (all_images st)) st.graph persistent_shows chron.shows) chron.no_nil

  pub all_reached : AgreesOnReached catalog st.graph (shown catalog base st.book (all_images st))
  all_reached =
      nothing_lost catalog base st.book (all_images st) st.graph chron.fits chron.placed (ap is_some root_page ∙ chron.roots) chron.shows chron.no_nil
