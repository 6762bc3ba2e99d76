-- An entry without a pass leads from a state of a chronicle to one.
use Rattle.std.proofs.Common.{◌≡◌, ◌<◌, ◌+◌, ◌∙◌, ◌⊎◌, inl, inr, ℕ, true, List, Option, Some, None, is_some, refl, sym, ap}
use Rattle.std.specs.Prelude.{slice_index}
use Rattle.std.specs.Option.{option_or}
use Rattle.std.specs.FinMap.{get, contains_key}
use Rattle.pm3_types.specs.Fields.{Fields}
use Rattle.pm3_types.specs.Graph.{Part, with_part}
use Rattle.pm3_types.specs.Layout.{Sheet, page_in, word_in}
use Rattle.pm3_types.specs.PageForm.{IsReferenceIn, map_at, tail_at}
use Rattle.pm3_types.specs.Record.{Record}
use Rattle.pm3_types.specs.Shown.{Book, Images, FitsImages, shown, shown_records, object_at}
use Rattle.pm3_types.proofs.Books.{shown_from}
use Rattle.pm3_types.proofs.Parts.{get-with_part, part_of_itself}
use Rattle.pm3_history.specs.Laid.{laid}
use Rattle.pm3_history.specs.Entry.{Entry}
use Rattle.pm3_history.specs.State.{State, step, all_images}
use Rattle.pm3_history.specs.Lawful.{Tells, StayWithin, MayRefer, IsPlain}
use Rattle.pm3_history.specs.Chronicled.{Chronicled}
use Rattle.pm3_history.proofs.Laying.{none_of, some_none, laid_above, laid_below, laid_still, none_if}
use Rattle.pm3_history.proofs.Replacing.{IsReplaced, nothing_at, fits_now, shows_now}

-- a name that an object shown has isn't 0
pub shown_named : (catalog : List Fields) (base : ℕ) (book : Book) (images : Images) (r : Record) → FitsImages catalog base book images
    → get (shown_records catalog base book images) 0 ≡ Some r → ⊥
shown_named catalog base book images r fits is =
    let from = shown_from catalog base book images 0 r is in fits.named from.0 0 from.1 refl

pub no_zero : (catalog : List Fields) (base : ℕ) (book : Book) (images : Images) → FitsImages catalog base book images
    → get (shown_records catalog base book images) 0 ≡ None
no_zero catalog base book images fits = none_if (get (shown_records catalog base book images) 0) (λ r is. shown_named catalog base book images r fits is)

-- nothing has the name 0 after an entry, where nothing had it before
pub no_nil_after : (g s : Part) (e : Entry) → Tells g s e → get g.records 0 ≡ None → get s.records 0 ≡ None → get (with_part g e.left).records 0 ≡ None
no_nil_after g s e tells before unseen = get-with_part g e.left 0 ∙ by (get e.left.records 0) refl
  where
    by : (o : Option Record) → get e.left.records 0 ≡ o → option_or (get e.left.records 0) (get g.records 0) ≡ None
    by None none = ap (λ (o : Option Record). option_or o (get g.records 0)) none ∙ before
    by (Some r) is = which (tells.unchanged 0 r is)
      where
        which : (get e.found.records 0 ≡ Some r) ⊎ (get s.records 0 ≡ Some r) → option_or (get e.left.records 0) (get g.records 0) ≡ None
        which (inl found) = absurd (some_none (get g.records 0) r (tells.found.records 0 r found) before)
        which (inr seen) = absurd (some_none (get s.records 0) r seen unseen)

-- what isn't in the second of two maps with the same keys
pub owned_none : (st : State) (page : ℕ) → contains_key st.volatile page ≡ contains_key st.owner page → get st.owner page ≡ None → get st.volatile page ≡ None
owned_none st page same none = none_of (get st.volatile page) (same ∙ ap is_some none)

module _ (catalog : List Fields) (base : ℕ) (st : State) (written : Images) (chron : Chronicled catalog base st)
    (persistent : (page : ℕ) (sheet : Sheet) → get written page ≡ Some sheet → (is_some (get st.pages page) ≡ true) × (get st.owner page ≡ None))
    (fits : FitsImages catalog base st.book written) where
  written_stand : (q : ℕ) (sheet : Sheet) → get written q ≡ Some sheet → get (laid (laid st.pages written) st.volatile) q ≡ Some sheet
  written_stand q sheet is =
      laid_below (laid st.pages written) st.volatile q (owned_none st q (chron.owned q) (persistent q sheet is).1) ∙ laid_above st.pages written q sheet is

  others_stand : (q : ℕ) → get written q ≡ None → get (laid (laid st.pages written) st.volatile) q ≡ get (all_images st) q
  others_stand q none = by (get st.volatile q) refl
    where
      by : (o : Option Sheet) → get st.volatile q ≡ o → get (laid (laid st.pages written) st.volatile) q ≡ get (all_images st) q
      by None off = laid_below (laid st.pages written) st.volatile q off ∙ laid_below st.pages written q none ∙ sym (laid_below st.pages st.volatile q off)
      by (Some sheet) on = laid_above (laid st.pages written) st.volatile q sheet on ∙ sym (laid_above st.pages st.volatile q sheet on)

  replaced : IsReplaced catalog base st.book (all_images st) st.book (laid (laid st.pages written) st.volatile) written
  replaced = record {
    fits = fits;
    above = written_stand;
    below = λ a n has none. (others_stand (page_in base a) none, has);
    root_page = others_stand 2;
    words = λ a n k m sheet has none on reference more is. is;
    slots = λ slot m sheet low none on more is. is;
  }

  placed_now : (a n : ℕ) → get st.book a ≡ Some n → is_some (get (laid (laid st.pages written) st.volatile) (page_in base a)) ≡ true
  placed_now a n has = by (get written (page_in base a)) refl
    where
      by : (o : Option Sheet) → get written (page_in base a) ≡ o → is_some (get (laid (laid st.pages written) st.volatile) (page_in base a)) ≡ true
      by None none = ap is_some (others_stand (page_in base a) none) ∙ chron.placed a n has
      by (Some sheet) is = ap is_some (written_stand (page_in base a) sheet is)

  within_now : StayWithin catalog base st.owner st.book written → StayWithin catalog base st.owner st.book (laid (laid st.pages written) st.volatile)
  within_now within = record {
    objects = λ a n k sheet has on is. objects a n k sheet has on is (get written (page_in base a)) refl;
    roots = λ slot sheet low on. roots slot sheet low on (get written 2) refl;
  }
    where
      objects : (a n k : ℕ) (sheet : Sheet) → get st.book a ≡ Some n → get (laid (laid st.pages written) st.volatile) (page_in base a) ≡ Some sheet
          → IsReferenceIn (map_at catalog sheet (word_in base a)) (tail_at sheet (word_in base a)) k → (o : Option Sheet) → get written (page_in base a) ≡ o
          → MayRefer base st.owner (page_in base a) (slice_index sheet.words (word_in base a + 2 + k))
      objects a n k sheet has on reference None none = chron.within.objects a n k sheet has (sym (others_stand (page_in base a) none) ∙ on) reference
      objects a n k sheet has on reference (Some s) is = within.objects a n k sheet has (is ∙ sym (written_stand (page_in base a) s is) ∙ on) reference

      roots : (slot : ℕ) (sheet : Sheet) → slot < 16 → get (laid (laid st.pages written) st.volatile) 2 ≡ Some sheet → (o : Option Sheet) → get written 2 ≡ o
          → MayRefer base st.owner 2 (slice_index sheet.words (2 + slot))
      roots slot sheet low on None none = chron.within.roots slot sheet low (sym (others_stand 2 none) ∙ on)
      roots slot sheet low on (Some s) is = within.roots slot sheet low (is ∙ sym (written_stand 2 s is) ∙ on)

  -- an object that isn't on the written images has a name that they don't show
  unseen : (a n : ℕ) → get st.book a ≡ Some n → get written (page_in base a) ≡ None → get (shown_records catalog base st.book written) n ≡ None
  unseen a n has none = none_if (get (shown_records catalog base st.book written) n) never
    where
      nowhere : (b : ℕ) (r : Record) → object_at st.book catalog base written b ≡ Some r → b ≡ a → ⊥
      nowhere b r is same =
          some_none (object_at st.book catalog base written b) r is
          (nothing_at catalog base st.book written b (ap (λ (c : ℕ). get written (page_in base c)) same ∙ none))

      never : (r : Record) → get (shown_records catalog base st.book written) n ≡ Some r → ⊥
      never r is = (let from = shown_from catalog base st.book written n r is in nowhere from.0 r from.2 (fits.one from.0 a n from.1 has))

pub plain_keeps : (catalog : List Fields) (base : ℕ) (st : State) (found left : Part) (tag mutator next_name high_page : ℕ) (written : Images)
    → let e : Entry = record { tag = tag; mutator = mutator; next_name = next_name; high_page = high_page; found = found; left = left; written = written; pass = None } in
    Chronicled catalog base st → Tells st.graph (shown catalog base st.book written) e → IsPlain catalog base st e → Chronicled catalog base (step base st e)
plain_keeps catalog base st found left tag mutator next_name high_page written chron tells plain =
    let e : Entry = record { tag = tag; mutator = mutator; next_name = next_name; high_page = high_page; found = found; left = left; written = written; pass = None } in
    let r = replaced catalog base st written chron plain.persistent plain.fits in
    let images : Images = laid (laid st.pages written) st.volatile in
    record {
      fits = fits_now catalog base st.book (all_images st) st.book images written r chron.fits;
      placed = placed_now catalog base st written chron plain.persistent plain.fits;
      named = chron.named;
      owned = chron.owned;
      shows = shows_now catalog base st.book (all_images st) st.book images written r chron.fits st.graph (shown catalog base st.book written) e tells chron.shows
          (part_of_itself (shown catalog base st.book written)) (unseen catalog base st written chron plain.persistent plain.fits) (λ none. none);
      roots = laid_still st.pages written 2 chron.roots;
      roots_free = chron.roots_free;
      no_nil = no_nil_after st.graph (shown catalog base st.book written) e tells chron.no_nil (no_zero catalog base st.book written plain.fits);
      within = within_now catalog base st written chron plain.persistent plain.fits plain.within;
    }
