-- Files open to one graph at most.
use Rattle.std.proofs.Common.{◌≡◌, ◌+◌, ◌&&◌, ℕ, Bool, true, false, List, take, Option, Some, None, is_some, slice_index, refl, sym, ◌∙◌, ap, subst}
use Rattle.std.specs.FinMap.{get, same_map, nat_cmp-IsAntisymmetric}
use Rattle.std.proofs.lemmas.Cmp.{nat_cmp_total}
use Rattle.pm3_types.specs.Fields.{Fields}
use Rattle.pm3_types.specs.Graph.{Part}
use Rattle.pm3_types.specs.Layout.{Sheet, page_in, word_in, is_address}
use Rattle.pm3_types.specs.Objects.{is_unmoved_on, IsReachedAt, root, next}
use Rattle.pm3_types.specs.Shown.{Book, Images, shown}
use Rattle.pm3_types.proofs.OnePage.{one_catalog}
use Rattle.pm3_types.proofs.Parts.{same_option}
use Rattle.pm3_journal.specs.Format.{JournalRecord}
use Rattle.pm3_journal.specs.FileHead.{page_count_of}
use Rattle.pm3_journal.specs.Opening.{AreImagesOf, AreReached, OpenTo, page_bytes}
use Rattle.pm3_journal.proofs.Listing.{whole_is}

second_holds : (a b : Bool) → (a && b) ≡ true → b ≡ true
second_holds true b is = is
second_holds false b is = absurd (cc is)

on_a_page : (sheet : Option Sheet) (at : ℕ) → is_unmoved_on sheet at ≡ true → (s : Sheet) × (sheet ≡ Some s)
on_a_page None at is = absurd (cc is)
on_a_page (Some s) at is = (s, refl)

there : {A : Type 0} (o : Option A) → is_some o ≡ true → (x : A) × (o ≡ Some x)
there None is = absurd (cc is)
there (Some x) is = (x, refl)

module _ (catalog : List Fields) (base : ℕ) (images : Images) where
  -- what is reached lies on a page
  reached_on : (a : ℕ) → IsReachedAt catalog base images a → (s : Sheet) × (get images (page_in base a) ≡ Some s)
  reached_on a (root _ from object) = on_a_page (get images (page_in base a)) (word_in base a) (second_holds (is_address base a) _ object)
  reached_on a (next m _ before refers object) = on_a_page (get images (page_in base a)) (word_in base a) (second_holds (is_address base a) _ object)

  module _ (list : List JournalRecord) where
    book_in : (one other : Book) (name high name_other high_other : ℕ) → AreReached catalog base list images one name high → AreReached catalog base list images other name_other high_other
        → (a n : ℕ) → get one a ≡ Some n → get other a ≡ Some n
    book_in one other name high name_other high_other first second a n is =
        let reached = first.only a n is in
        let (s, on) = reached_on a reached in
        let (m, also) = there (get other a) (second.reached a reached) in
        let named : slice_index s.words (word_in base a + 1) ≡ n = (first.fits.objects a n s is on).2 in
        let named_other : slice_index s.words (word_in base a + 1) ≡ m = (second.fits.objects a m s also on).2 in
        also ∙ ap Some (sym named_other ∙ named)

    one_book : (one other : Book) (name high name_other high_other : ℕ) → AreReached catalog base list images one name high → AreReached catalog base list images other name_other high_other → one ≡ other
    one_book one other name high name_other high_other first second = same_map nat_cmp_total nat_cmp-IsAntisymmetric one other (λ a.
        same_option (get one a) (get other a) (book_in one other name high name_other high_other first second a) (book_in other one name_other high_other name high second first a))

one_view : (catalog : List Fields) (base pages : ℕ) (file : List ℕ) (list : List JournalRecord) (one other : Images) → AreImagesOf catalog base pages file list one → AreImagesOf catalog base pages file list other → one ≡ other
one_view catalog base pages file list one other first second = same_map nat_cmp_total nat_cmp-IsAntisymmetric one other (λ page.
    same_option (get one page) (get other page) (λ sheet is. (second page sheet).1 ((first page sheet).0 is)) (λ sheet is. (first page sheet).1 ((second page sheet).0 is)))

pub opens_once : (base : ℕ) (file journal : List ℕ) (g h : Part) → OpenTo base file journal g → OpenTo base file journal h → g ≡ h
opens_once base file journal g h one other = one.graph ∙ ap (λ (c : List Fields). shown c base one.book one.images) catalogs ∙ ap (shown other.catalog base one.book) views ∙ ap (λ (b : Book). shown other.catalog base b other.images) books ∙ sym other.graph
  where
    pages : ℕ
    pages = page_count_of (take 32 journal)

    lists : one.list ≡ other.list
    lists = whole_is (sym one.records_are ∙ other.records_are)

    catalogs : one.catalog ≡ other.catalog
    catalogs = one_catalog one.catalog other.catalog one.is_catalog other.is_catalog (sym one.catalog_is ∙ ap (λ (l : List JournalRecord). page_bytes file l 1) lists ∙ other.catalog_is)

    views : one.images ≡ other.images
    views = one_view other.catalog base pages file other.list one.images other.images
        (subst (λ (l : List JournalRecord). AreImagesOf other.catalog base pages file l one.images) lists (subst (λ (c : List Fields). AreImagesOf c base pages file one.list one.images) catalogs one.images_are)) other.images_are

    reached : AreReached other.catalog base other.list other.images one.book one.next_name one.high_page
    reached =
        subst (λ (i : Images). AreReached other.catalog base other.list i one.book one.next_name one.high_page) views
        (subst (λ (l : List JournalRecord). AreReached other.catalog base l one.images one.book one.next_name one.high_page) lists
        (subst (λ (c : List Fields). AreReached c base one.list one.images one.book one.next_name one.high_page) catalogs one.reached))

    books : one.book ≡ other.book
    books = one_book other.catalog base other.images other.list one.book other.book one.next_name one.high_page other.next_name other.high_page reached other.reached
