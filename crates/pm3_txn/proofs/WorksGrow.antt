-- A run goes on where what was found, and what is left, have the same further images.
use Rattle.std.proofs.Common.{◌≡◌, ◌∙◌, inl, inr, ℕ, true, List, Option, Some, None, is_some, refl, sym, ap, subst}
use Rattle.std.specs.FinMap.{get}
use Rattle.pm3_core.specs.declared.naming.TheConstants.{BASE}
use Rattle.pm3_types.specs.Fields.{Fields}
use Rattle.pm3_types.specs.Graph.{Part, with_part}
use Rattle.pm3_types.specs.Layout.{Sheet, page_in}
use Rattle.pm3_types.specs.Record.{Record}
use Rattle.pm3_types.specs.Shown.{Book, Images, FitsImages, IsOneToOne, IsKnown, shown, shown_records, object_at, roots_in}
use Rattle.pm3_types.proofs.Books.{shown_from}
use Rattle.pm3_graph.specs.declared.operations.Op.{Op}
use Rattle.pm3_graph.specs.Frame.{AreNewTo, FrameOfRuns}
use Rattle.pm3_graph.specs.Operation.{IsRun}
use Rattle.pm3_access.proofs.JoinedParts.{AreJoined, shown_joined}
use Rattle.pm3_history.specs.Chronicled.{Chronicled}
use Rattle.pm3_history.specs.Named.{book_of}
use Rattle.pm3_history.specs.Persistent.{persistent_book}
use Rattle.pm3_history.specs.State.{State}
use Rattle.pm3_history.proofs.Laying.{some_of, some_none, there_none, none_if, laid_still}
use Rattle.pm3_history.proofs.Names.{name_in_graph}
use Rattle.pm3_history.proofs.Replacing.{nothing_at}
use Rattle.pm3_txn.specs.Works.{AllMake, IsOwnName, book_with}
use Rattle.pm3_txn.proofs.Admitting.{AreApart, run_beside}
use Rattle.pm3_txn.proofs.OwnBooks.{with_old}
use Rattle.pm3_txn.proofs.WorksBegin.{all_new_to}

-- an object is on a page that is there, and roots are on page 2
object_page : (catalog : List Fields) (book : Book) (images : Images) (a : ℕ) (r : Record) → object_at book catalog BASE images a ≡ Some r → is_some (get images (page_in BASE a)) ≡ true
object_page catalog book images a r is = of (get images (page_in BASE a)) refl
  where
    of : (o : Option Sheet) → get images (page_in BASE a) ≡ o → is_some (get images (page_in BASE a)) ≡ true
    of (Some sheet) on = ap is_some on
    of None off = absurd (some_none (object_at book catalog BASE images a) r is (nothing_at catalog BASE book images a off))

roots_page : (catalog : List Fields) (book : Book) (images : Images) → is_some (roots_in catalog BASE book images (get images 2)) ≡ true → is_some (get images 2) ≡ true
roots_page catalog book images is = of (get images 2) refl
  where
    of : (o : Option Sheet) → get images 2 ≡ o → is_some (get images 2) ≡ true
    of (Some sheet) on = ap is_some on
    of None off = absurd (there_none (roots_in catalog BASE book images (get images 2)) is (ap (roots_in catalog BASE book images) off))

-- images on other pages show nothing of what the further ones show
pub apart_by : (catalog : List Fields) (book : Book) (images more both : Images) → IsOneToOne book → AreJoined images more both
    → AreApart (shown catalog BASE book images) (shown catalog BASE book more)
apart_by catalog book images more both one joined = record {
  records = λ n is. none_if (get (shown_records catalog BASE book images) n) (λ r has. never n r has (some_of (get (shown_records catalog BASE book more) n) is));
  roots = λ is. ap (roots_in catalog BASE book images) (joined.apart 2 (roots_page catalog book more is));
}
  where
    never : (n : ℕ) (r : Record) → get (shown_records catalog BASE book images) n ≡ Some r
        → (x : Record) × (get (shown_records catalog BASE book more) n ≡ Some x) → ⊥
    never n r has (x, also) =
        let mine = shown_from catalog BASE book images n r has in
        let its = shown_from catalog BASE book more n x also in
        let same : its.0 ≡ mine.0 = one its.0 mine.0 n its.1 mine.1 in
        some_none (object_at book catalog BASE images mine.0) r mine.2
        (nothing_at catalog BASE book images mine.0 (ap (λ (a : ℕ). get images (page_in BASE a)) (sym same) ∙ joined.apart (page_in BASE its.0) (object_page catalog book more its.0 x its.2)))

module _ (frame : FrameOfRuns) (catalog : List Fields) (ops : List (Op × ℕ)) (found left more found' left' : Images) (found_by left_by : Book)
    (found_is : AreJoined found more found') (left_is : AreJoined left more left') (found_one : IsOneToOne found_by) (left_one : IsOneToOne left_by)
    (same : shown catalog BASE left_by more ≡ shown catalog BASE found_by more) (run : IsRun catalog ops (shown catalog BASE found_by found) (shown catalog BASE left_by left))
    (roots : (shown catalog BASE left_by left).roots ≡ None → (shown catalog BASE found_by found).roots ≡ None) (new : AreNewTo (shown catalog BASE found_by found') ops) where
  abbrev f : Part
  f = shown catalog BASE found_by found

  abbrev l : Part
  l = shown catalog BASE left_by left

  abbrev m : Part
  m = shown catalog BASE found_by more

  found_now : shown catalog BASE found_by found' ≡ with_part f m
  found_now = shown_joined catalog BASE found_by found more found' found_is

  left_now : shown catalog BASE left_by left' ≡ with_part l m
  left_now = shown_joined catalog BASE left_by left more left' left_is ∙ ap (with_part l) same

  pub grown_run : IsRun catalog ops (shown catalog BASE found_by found') (shown catalog BASE left_by left')
  grown_run = subst (λ (p : Part). IsRun catalog ops p (shown catalog BASE left_by left')) (sym found_now)
      (subst (λ (p : Part). IsRun catalog ops (with_part f m) p) (sym left_now)
      (run_beside frame catalog ops f l m run (apart_by catalog found_by found more found' found_one found_is)
      (subst (λ (p : Part). AreApart l p) same (apart_by catalog left_by left more left' left_one left_is)) roots
      (subst (λ (p : Part). AreNewTo p ops) found_now new)))

-- what a part of the whole book shows has no new name
pub shows_no_new : (catalog : List Fields) (st : State) (own : Images) (book : Book) (images : Images) (ops : List (Op × ℕ)) → Chronicled catalog BASE st
    → ((a n : ℕ) → get book a ≡ Some n → get st.book a ≡ Some n) → AllMake (IsOwnName st own) ops → AreNewTo (shown catalog BASE book images) ops
shows_no_new catalog st own book images ops chron known are =
    all_new_to (IsOwnName st own) (shown catalog BASE book images) (λ n is. none_if (get (shown_records catalog BASE book images) n) (λ r has.
    let from = shown_from catalog BASE book images n r has in
    let there = name_in_graph catalog BASE st from.0 n chron (known from.0 n from.1) in
    some_none (get st.graph.records n) there.0 there.1 is.new)) ops are

-- a book with the objects of a space fits images off its pages where that of the persistent ones does
pub with_fits : (catalog : List Fields) (st : State) (own images : Images) → IsOneToOne (book_with st own) → ((a n : ℕ) → get (book_with st own) a ≡ Some n → n ≡ 0 → ⊥)
    → ((q : ℕ) (sheet : Sheet) → get images q ≡ Some sheet → get own q ≡ None) → FitsImages catalog BASE (persistent_book BASE st) images
    → FitsImages catalog BASE (book_with st own) images
with_fits catalog st own images one named off fits = record {
  one = one;
  named = named;
  objects = λ a n sheet has on. fits.objects a n sheet (old a n sheet has on) on;
  references = λ a n k sheet has on is. known _ (fits.references a n k sheet (old a n sheet has on) on is);
  roots = λ slot sheet low on. known _ (fits.roots slot sheet low on);
}
  where
    old : (a n : ℕ) (sheet : Sheet) → get (book_with st own) a ≡ Some n → get images (page_in BASE a) ≡ Some sheet → get (persistent_book BASE st) a ≡ Some n
    old a n sheet has on = sym (with_old st own a (off (page_in BASE a) sheet on)) ∙ has

    known : (w : ℕ) → IsKnown (persistent_book BASE st) w → IsKnown (book_with st own) w
    known w (inl nil) = inl nil
    known w (inr is) = inr (laid_still (persistent_book BASE st) (book_of BASE own) w is)
