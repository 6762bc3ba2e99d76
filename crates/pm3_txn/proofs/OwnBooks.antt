-- The books of transactions: of the persistent objects, and of those of a space.
use Rattle.std.proofs.Common.{◌≡◌, ◌∙◌, ◌⊎◌, inl, inr, ℕ, true, List, Option, Some, None, is_some, sym, ap}
use Rattle.std.specs.Ordering.{nat_cmp}
use Rattle.std.specs.FinMap.{get, get-empty}
use Rattle.pm3_core.specs.declared.naming.TheConstants.{BASE}
use Rattle.pm3_types.specs.Fields.{Fields}
use Rattle.pm3_types.specs.Layout.{Sheet, page_in}
use Rattle.pm3_types.specs.Shown.{Images, FitsImages, IsOneToOne, IsKnown, shown}
use Rattle.pm3_page.specs.PageSheets.{sheet_in, sheets_of}
use Rattle.pm3_page.proofs.SheetsOf.{get-sheets_of}
use Rattle.pm3_access.specs.Acts.{space_left, space_found}
use Rattle.pm3_access.specs.Holding.{HeldSpaceState, space_now}
use Rattle.pm3_history.specs.Entry.{Done}
use Rattle.pm3_history.specs.Homes.{IsHome}
use Rattle.pm3_history.specs.Lawful.{AreLawful}
use Rattle.pm3_history.specs.Named.{book_of}
use Rattle.pm3_history.specs.Persistent.{persistent_book}
use Rattle.pm3_history.specs.Spaces.{AreOfSpace}
use Rattle.pm3_history.specs.State.{State, all_images, now}
use Rattle.pm3_history.proofs.Chronicles.{histories_keep}
use Rattle.pm3_history.proofs.Holding.{was_there, shown_alike}
use Rattle.pm3_history.proofs.Laying.{some_of, some_none, there_none, none_if, laid_above, laid_below, laid_cases, off_cases, off_keeps}
use Rattle.pm3_history.proofs.NamedOn.{book_of_named, book_of_has}
use Rattle.pm3_history.proofs.Names.{name_in_graph}
use Rattle.pm3_history.proofs.Replacing.{known_kept}
use Rattle.pm3_history.proofs.Staying.{persistent_stay}
use Rattle.pm3_txn.specs.TransactionLaws.{IsSettled}
use Rattle.pm3_txn.specs.Works.{book_with, IsLastSpace}
use Rattle.pm3_txn.proofs.Admitting.{home_image}

-- the sheets of a space are those of its images
pub get-space_left : (s : Option HeldSpaceState) (q : ℕ) → get (space_left s) q ≡ sheet_in (space_now s q)
get-space_left None q = get-empty nat_cmp q
get-space_left (Some s) q = get-sheets_of s.images.left q

-- an object of a space is on a page of its images
pub own_on : (own : Images) (a n : ℕ) → get (book_of BASE own) a ≡ Some n → is_some (get own (page_in BASE a)) ≡ true
own_on own a n has = ap is_some (book_of_named BASE own a n has).on

module _ (st : State) (own : Images) where
  pub with_own : (a n : ℕ) → get (book_of BASE own) a ≡ Some n → get (book_with st own) a ≡ Some n
  with_own a n has = laid_above (persistent_book BASE st) (book_of BASE own) a n has

  not_own : (a : ℕ) → get own (page_in BASE a) ≡ None → get (book_of BASE own) a ≡ None
  not_own a none = none_if (get (book_of BASE own) a) (λ n has. there_none (get own (page_in BASE a)) (own_on own a n has) none)

  pub with_old : (a : ℕ) → get own (page_in BASE a) ≡ None → get (book_with st own) a ≡ get (persistent_book BASE st) a
  with_old a none = laid_below (persistent_book BASE st) (book_of BASE own) a (not_own a none)

  pub with_cases : (a n : ℕ) → get (book_with st own) a ≡ Some n
      → (get (book_of BASE own) a ≡ Some n) ⊎ ((get (book_of BASE own) a ≡ None) × (get (persistent_book BASE st) a ≡ Some n))
  with_cases a n has = laid_cases (persistent_book BASE st) (book_of BASE own) a n has

-- images of pages with persistent objects, and those of a space
abbrev pub AreOver : State → Images → Images → Type 0
AreOver st own images = (q : ℕ) (sheet : Sheet) → get images q ≡ Some sheet → ((get own q ≡ None) × IsHome BASE st q) ⊎ (get own q ≡ Some sheet)

module _ (catalog : List Fields) (st : State) (settled : IsSettled catalog st) where
  -- the last images of a space have the objects that the whole book has there
  last_volatile : (space : ℕ) (own : Images) → AreOfSpace st space own → (q : ℕ) (sheet : Sheet) → get own q ≡ Some sheet → get st.volatile q ≡ Some sheet
  last_volatile space own of q sheet on = ((of q sheet).1 on).1

  pub last_owner : (space : ℕ) (own : Images) → AreOfSpace st space own → (q : ℕ) (sheet : Sheet) → get own q ≡ Some sheet → get st.owner q ≡ Some space
  last_owner space own of q sheet on = ((of q sheet).1 on).0

  pub last_whole : (space : ℕ) (own : Images) → AreOfSpace st space own → (q : ℕ) → get st.owner q ≡ Some space → is_some (get own q) ≡ true
  last_whole space own of q mine =
      let there = some_of (get st.volatile q) (settled.chronicled.owned q ∙ ap is_some mine) in
      ap is_some ((of q there.0).0 (mine, there.1))

  pub last_image : (space : ℕ) (own : Images) → AreOfSpace st space own → (q : ℕ) (sheet : Sheet) → get own q ≡ Some sheet → get (all_images st) q ≡ Some sheet
  last_image space own of q sheet on = laid_above st.pages st.volatile q sheet (last_volatile space own of q sheet on)

  pub own_booked : (space : ℕ) (own : Images) → AreOfSpace st space own → (a n : ℕ) → get (book_of BASE own) a ≡ Some n → get st.book a ≡ Some n
  own_booked space own of a n has =
      let is = book_of_named BASE own a n has in
      settled.chronicled.named a n (record { sheet = is.sheet; on = last_volatile space own of (page_in BASE a) is.sheet is.on; address = is.address; unmoved = is.unmoved; named = is.named })

  pub booked_own : (space : ℕ) (own : Images) → AreOfSpace st space own → (a n : ℕ) (sheet : Sheet) → get own (page_in BASE a) ≡ Some sheet → get st.book a ≡ Some n
      → get (book_of BASE own) a ≡ Some n
  booked_own space own of a n sheet on has =
      let place = settled.chronicled.fits.objects a n sheet has (last_image space own of (page_in BASE a) sheet on) in
      book_of_has BASE own a n (record { sheet = sheet; on = on; address = place.0; unmoved = place.1; named = place.2 })

  -- of a space or of none
  pub found_booked : (s : Option HeldSpaceState) → IsLastSpace st s → (a n : ℕ) → get (book_of BASE (space_found s)) a ≡ Some n → get st.book a ≡ Some n
  found_booked None is a n has = absurd (there_none (get (space_found None) (page_in BASE a)) (own_on (space_found None) a n has) (get-empty nat_cmp (page_in BASE a)))
  found_booked (Some s) is a n has = own_booked s.number (sheets_of s.images.found) is a n has

  pub found_owned : (s : Option HeldSpaceState) → IsLastSpace st s → (q : ℕ) → get st.owner q ≡ None → get (space_found s) q ≡ None
  found_owned None is q free = get-empty nat_cmp q
  found_owned (Some s) is q free = none_if (get (sheets_of s.images.found) q)
      (λ sheet on. some_none (get st.owner q) s.number (last_owner s.number (sheets_of s.images.found) is q sheet on) free)

  pub found_last : (s : Option HeldSpaceState) → IsLastSpace st s → (q : ℕ) (sheet : Sheet) → get (space_found s) q ≡ Some sheet → get (all_images st) q ≡ Some sheet
  found_last None is q sheet on = absurd (some_none (get (space_found None) q) sheet on (get-empty nat_cmp q))
  found_last (Some s) is q sheet on = last_image s.number (sheets_of s.images.found) is q sheet on

  persistent_booked : (a n : ℕ) → get (persistent_book BASE st) a ≡ Some n → (get st.owner (page_in BASE a) ≡ None) × (get st.book a ≡ Some n)
  persistent_booked a n has = off_cases BASE st.book st.owner a n has

  -- the book of what was found is part of the whole one
  pub found_known : (s : Option HeldSpaceState) → IsLastSpace st s → (a n : ℕ) → get (book_with st (space_found s)) a ≡ Some n → get st.book a ≡ Some n
  found_known s is a n has = of (with_cases st (space_found s) a n has)
    where
      of : (get (book_of BASE (space_found s)) a ≡ Some n) ⊎ ((get (book_of BASE (space_found s)) a ≡ None) × (get (persistent_book BASE st) a ≡ Some n)) → get st.book a ≡ Some n
      of (inl own) = found_booked s is a n own
      of (inr old) = (persistent_booked a n old.1).1

-- after commits of others
module _ (catalog : List Fields) (pages : ℕ) (st : State) (more : List Done) (settled : IsSettled catalog st) (are : AreLawful catalog BASE pages st more)
    (own : Images) (apart_after : (a n : ℕ) → get (persistent_book BASE (now catalog BASE st more)) a ≡ Some n → get own (page_in BASE a) ≡ None) where
  abbrev after : State
  after = now catalog BASE st more

  pub into : (a n : ℕ) → get (book_with st own) a ≡ Some n → get (book_with after own) a ≡ Some n
  into a n has = of (with_cases st own a n has)
    where
      of : (get (book_of BASE own) a ≡ Some n) ⊎ ((get (book_of BASE own) a ≡ None) × (get (persistent_book BASE st) a ≡ Some n)) → get (book_with after own) a ≡ Some n
      of (inl mine) = with_own after own a n mine
      of (inr old) = laid_below (persistent_book BASE after) (book_of BASE own) a old.0 ∙ persistent_stay catalog BASE pages st more a n settled.chronicled are old.1

  pub back : (images : Images) → AreOver st own images → (a n : ℕ) (sheet : Sheet) → get images (page_in BASE a) ≡ Some sheet → get (book_with after own) a ≡ Some n → get (book_with st own) a ≡ Some n
  back images over a n sheet on has = of (over (page_in BASE a) sheet on)
    where
      of : ((get own (page_in BASE a) ≡ None) × IsHome BASE st (page_in BASE a)) ⊎ (get own (page_in BASE a) ≡ Some sheet) → get (book_with st own) a ≡ Some n
      of (inl home) =
          let later : get (persistent_book BASE after) a ≡ Some n = sym (with_old after own a home.0) ∙ has in
          let was = was_there catalog BASE pages st more a n settled.chronicled are home.1 (off_cases BASE after.book after.owner a n later).1 in
          with_old st own a home.0 ∙ off_keeps BASE st.book st.owner a (home_image catalog st settled (page_in BASE a) home.1).0 ∙ was
      of (inr mine) = by (with_cases after own a n has)
        where
          by : (get (book_of BASE own) a ≡ Some n) ⊎ ((get (book_of BASE own) a ≡ None) × (get (persistent_book BASE after) a ≡ Some n)) → get (book_with st own) a ≡ Some n
          by (inl own_is) = with_own st own a n own_is
          by (inr later) = absurd (some_none (get own (page_in BASE a)) sheet mine (apart_after a n later.1))

  module _ (old_after : (a n : ℕ) → get (book_of BASE own) a ≡ Some n → (get after.book a ≡ Some n) ⊎ (get after.graph.records n ≡ None)) (one : IsOneToOne (book_with st own)) where
    mixed : (a b n : ℕ) → get (book_of BASE own) a ≡ Some n → get (persistent_book BASE after) b ≡ Some n → ⊥
    mixed a b n mine later = of (old_after a n mine)
      where
        booked : get after.book b ≡ Some n
        booked = (off_cases BASE after.book after.owner b n later).1

        of : (get after.book a ≡ Some n) ⊎ (get after.graph.records n ≡ None) → ⊥
        of (inl was) =
            let same : a ≡ b = (histories_keep catalog BASE pages st more settled.chronicled are).fits.one a b n was booked in
            there_none (get own (page_in BASE b)) (ap (λ (c : ℕ). is_some (get own (page_in BASE c))) (sym same) ∙ own_on own a n mine) (apart_after b n later)
        of (inr fresh) =
            let there = name_in_graph catalog BASE after b n (histories_keep catalog BASE pages st more settled.chronicled are) booked in
            some_none (get after.graph.records n) there.0 there.1 fresh

    pub one_after : IsOneToOne (book_with after own)
    one_after a b n has also = of (with_cases after own a n has) (with_cases after own b n also)
      where
        of : (get (book_of BASE own) a ≡ Some n) ⊎ ((get (book_of BASE own) a ≡ None) × (get (persistent_book BASE after) a ≡ Some n))
            → (get (book_of BASE own) b ≡ Some n) ⊎ ((get (book_of BASE own) b ≡ None) × (get (persistent_book BASE after) b ≡ Some n)) → a ≡ b
        of (inl x) (inl y) = one a b n (with_own st own a n x) (with_own st own b n y)
        of (inl x) (inr y) = absurd (mixed a b n x y.1)
        of (inr x) (inl y) = absurd (mixed b a n y x.1)
        of (inr x) (inr y) =
            (histories_keep catalog BASE pages st more settled.chronicled are).fits.one a b n
            (off_cases BASE after.book after.owner a n x.1).1 (off_cases BASE after.book after.owner b n y.1).1

    module _ (images : Images) (over : AreOver st own images) (fits : FitsImages catalog BASE (book_with st own) images) where
      still : (w : ℕ) → IsKnown (book_with st own) w → IsKnown (book_with after own) w
      still w known = known_kept (book_with st own) (book_with after own) w known (λ m some is. into w m is)

      pub fits_after : FitsImages catalog BASE (book_with after own) images
      fits_after = record {
        one = one_after;
        named = λ a n has. of a n (with_cases after own a n has);
        objects = λ a n sheet has on. fits.objects a n sheet (back images over a n sheet on has) on;
        references = λ a n k sheet has on is. still _ (fits.references a n k sheet (back images over a n sheet on has) on is);
        roots = λ slot sheet low on. still _ (fits.roots slot sheet low on);
      }
        where
          of : (a n : ℕ) → (get (book_of BASE own) a ≡ Some n) ⊎ ((get (book_of BASE own) a ≡ None) × (get (persistent_book BASE after) a ≡ Some n)) → (n ≡ 0 → ⊥)
          of a n (inl mine) = fits.named a n (with_own st own a n mine)
          of a n (inr later) = (histories_keep catalog BASE pages st more settled.chronicled are).fits.named a n (off_cases BASE after.book after.owner a n later.1).1

      pub shown_after : shown catalog BASE (book_with after own) images ≡ shown catalog BASE (book_with st own) images
      shown_after = shown_alike catalog BASE images (book_with st own) (book_with after own) fits one_after into (back images over)
