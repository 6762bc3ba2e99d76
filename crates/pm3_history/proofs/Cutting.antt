-- A book cut to what is reached: it fits, and under it the images show the closure.
use Rattle.std.proofs.Common.{◌≡◌, ◌≤◌, ◌+◌, ◌∙◌, inl, inr, ℕ, true, List, Option, Some, is_some, unwrap_or, sym, ap, subst}
use Rattle.std.specs.Prelude.{slice_index}
use Rattle.std.specs.FinMap.{get}
use Rattle.pm3_types.specs.Fields.{Fields}
use Rattle.pm3_types.specs.Graph.{Part}
use Rattle.pm3_types.specs.Layout.{page_in, word_in}
use Rattle.pm3_types.specs.Numbering.{is_among, met_names}
use Rattle.pm3_types.specs.Objects.{IsReachedAt}
use Rattle.pm3_types.specs.Reached.{Reached, IsClosure}
use Rattle.pm3_types.specs.Shown.{Book, Images, IsKnown, FitsImages, shown_records, shown}
use Rattle.pm3_types.proofs.Books.{shown_at, shown_from}
use Rattle.pm3_types.proofs.Meeting.{met_reached, reached_met}
use Rattle.pm3_history.specs.Laid.{where_number}
use Rattle.pm3_history.proofs.Laying.{some_of, where_keeps, where_cases}
use Rattle.pm3_history.proofs.Reaching.{address_reached, name_reached, root_reached, next_reached}
use Rattle.pm3_history.proofs.Replacing.{object_same, roots_same}

-- the book at the addresses of what is reached
pub cut : List Fields → ℕ → Book → Images → Book
cut catalog base book images = where_number book (λ a. is_among (met_names catalog (shown catalog base book images)) (unwrap_or (get book a) 0))

module _ (catalog : List Fields) (base : ℕ) (book : Book) (images : Images) (fits : FitsImages catalog base book images)
    (placed : (a n : ℕ) → get book a ≡ Some n → is_some (get images (page_in base a)) ≡ true)
    (above : (q : ℕ) → is_some (get images q) ≡ true → 2 ≤ q) (rooted : is_some (get images 2) ≡ true) where
  abbrev part : Part
  part = shown catalog base book images

  pub in_cut : (a n : ℕ) → get book a ≡ Some n → Reached catalog part n → get (cut catalog base book images) a ≡ Some n
  unfolding cut
  in_cut a n has reached =
      where_keeps book (λ b. is_among (met_names catalog part) (unwrap_or (get book b) 0)) a
      (ap (λ (o : Option ℕ). is_among (met_names catalog part) (unwrap_or o 0)) has ∙ reached_met catalog part n reached)
      ∙ has

  pub of_cut : (a n : ℕ) → get (cut catalog base book images) a ≡ Some n → (get book a ≡ Some n) × Reached catalog part n
  unfolding cut
  of_cut a n is =
      let parts = where_cases book (λ b. is_among (met_names catalog part) (unwrap_or (get book b) 0)) a n is in
      (parts.1, met_reached catalog part n (sym (ap (λ (o : Option ℕ). is_among (met_names catalog part) (unwrap_or o 0)) parts.1) ∙ parts.0))

  known : (w : ℕ) → IsKnown book w → ((n : ℕ) → get book w ≡ Some n → Reached catalog part n) → IsKnown (cut catalog base book images) w
  known w (inl nil) reached = inl nil
  known w (inr is) reached =
      let has = some_of (get book w) is in inr (ap is_some (in_cut w has.0 has.1 (reached has.0 has.1)))

  pub cut_fits : FitsImages catalog base (cut catalog base book images) images
  cut_fits = record {
    one = λ a b n has also. fits.one a b n (of_cut a n has).0 (of_cut b n also).0;
    named = λ a n has. fits.named a n (of_cut a n has).0;
    objects = λ a n sheet has on. fits.objects a n sheet (of_cut a n has).0 on;
    references = λ a m k sheet has on reference.
        let old = of_cut a m has in
        known (slice_index sheet.words (word_in base a + 2 + k)) (fits.references a m k sheet old.0 on reference)
        (λ n is. next_reached catalog base book images fits placed above rooted a m k n sheet old.0 old.1 on reference is);
    roots = λ slot sheet low on.
        known (slice_index sheet.words (2 + slot)) (fits.roots slot sheet low on)
        (λ n is. root_reached catalog base book images fits placed above rooted slot n sheet low on is);
  }

  -- it has just the objects that are reached at their addresses
  pub reached_in_cut : (a : ℕ) → IsReachedAt catalog base images a → is_some (get (cut catalog base book images) a) ≡ true
  reached_in_cut a is = (let found = address_reached catalog base book images fits placed above rooted a is in ap is_some (in_cut a found.0 found.1 found.2))

  pub cut_reached : (a n : ℕ) → get (cut catalog base book images) a ≡ Some n → IsReachedAt catalog base images a
  cut_reached a n is =
      let old = of_cut a n is in
      let found = name_reached catalog base book images fits placed above rooted n old.1 in
      subst (λ (b : ℕ). IsReachedAt catalog base images b) (fits.one found.0 a n found.1 old.0) found.2

  same : (a n : ℕ) → get (cut catalog base book images) a ≡ Some n → get (shown_records catalog base (cut catalog base book images) images) n ≡ get (shown_records catalog base book images) n
  same a n is =
      shown_at catalog base (cut catalog base book images) images a n cut_fits.one is
      ∙ sym (object_same catalog base (cut catalog base book images) book images a n cut_fits is (λ k m sheet on reference more has. (of_cut (slice_index sheet.words (word_in base a + 2 + k)) m has).0))
      ∙ sym (shown_at catalog base book images a n fits.one (of_cut a n is).0)

  pub cut_shows : IsClosure catalog part (shown catalog base (cut catalog base book images) images)
  cut_shows = record {
    kept = λ n r reached is.
        let found = name_reached catalog base book images fits placed above rooted n reached in
        same found.0 n (in_cut found.0 n found.1 reached) ∙ is;
    only = λ n r is.
        let from = shown_from catalog base (cut catalog base book images) images n r is in
        ((of_cut from.0 n from.1).1, sym (same from.0 n from.1) ∙ is);
    roots = sym (roots_same catalog base (cut catalog base book images) book images cut_fits (λ slot m sheet low on more has. (of_cut (slice_index sheet.words (2 + slot)) m has).0));
  }
