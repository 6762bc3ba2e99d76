-- A transaction begins with nothing, and is one of persistent pages alone as long as it doesn't hold its space.
use Rattle.std.proofs.Common.{◌≡◌, ◌∙◌, ◌⊎◌, ◌||◌, ◌&&◌, inl, inr, ℕ, Bool, true, false, List, [], ◌∷◌, Option, Some, None, is_some, refl, sym, ap, subst}
use Rattle.std.specs.Option.{option_or}
use Rattle.std.specs.Ordering.{nat_cmp}
use Rattle.std.specs.FinMap.{get, get-empty, empty, nat_cmp-IsAntisymmetric, same_map}
use Rattle.std.specs.Cmp.{nat_cmp_total}
use Rattle.pm3_core.specs.declared.naming.TheConstants.{BASE}
use Rattle.pm3_types.specs.Fields.{Fields}
use Rattle.pm3_types.specs.Graph.{Part}
use Rattle.pm3_types.specs.Layout.{Sheet, PageImage, page_in}
use Rattle.pm3_types.specs.PageForm.{is_memory_reference}
use Rattle.pm3_types.specs.Shown.{Book, Images, FitsImages, shown}
use Rattle.pm3_graph.specs.declared.operations.Op.{Op}
use Rattle.pm3_graph.specs.declared.operations.Op.TheVariants.{New, Word, SetWord, Reference, SetReference, TailRef, SetTailRef, Byte, SetByte, Root, SetRoot}
use Rattle.pm3_graph.specs.Frame.{AreNewTo}
use Rattle.pm3_graph.specs.Operation.{IsRun, IsNewTo}
use Rattle.pm3_page.specs.PageSheets.{sheet_in}
use Rattle.pm3_access.specs.Acts.{left_images, found_images, space_left, space_found}
use Rattle.pm3_access.specs.Holding.{Holding, HeldImages, HeldSpaceState, image_in, nothing_held}
use Rattle.pm3_access.proofs.HeldSheets.{get-found_images}
use Rattle.pm3_access.proofs.InPlace.{nothing_in_place}
use Rattle.pm3_access.proofs.SoundingHeld.{sound_nothing}
use Rattle.pm3_access.proofs.SoundingPages.{form_for_more}
use Rattle.pm3_history.specs.Homes.{IsHome}
use Rattle.pm3_history.specs.Named.{book_of}
use Rattle.pm3_history.specs.Persistent.{persistent_book}
use Rattle.pm3_history.specs.State.{State, all_images}
use Rattle.pm3_history.proofs.Holding.{shown_alike}
use Rattle.pm3_history.proofs.Laying.{some_none, there_none, none_if}
use Rattle.pm3_txn.specs.Runs.{Runs}
use Rattle.pm3_txn.specs.TransactionLaws.{IsSettled}
use Rattle.pm3_txn.specs.Works.{Works, IsOwnName, MakesOf, AllMake, book_with, is_own_object, may_hold}
use Rattle.pm3_txn.specs.WorkLaws.{WorksBegin, WorksAlone}
use Rattle.pm3_txn.proofs.Admitting.{home_named, book_named}
use Rattle.pm3_txn.proofs.OwnBooks.{AreOver, own_on, with_old}
use Rattle.pm3_txn.proofs.WorksFound.{left_over, found_over, found_fits}

nothing_there : (q : ℕ) → image_in nothing_held q ≡ None
nothing_there q = ap (λ (o : Option PageImage). option_or o None) (get-empty nat_cmp q)

nothing_found : (q : ℕ) → get (found_images nothing_held) q ≡ None
nothing_found q = nothing_in_place.found q (nothing_there q)

pub no_own : (a n : ℕ) → get (book_of BASE empty) a ≡ Some n → ⊥
no_own a n has = there_none (get empty (page_in BASE a)) (own_on empty a n has) (get-empty nat_cmp (page_in BASE a))

pub no_own_object : (a : ℕ) → is_some (get (book_of BASE empty) a) ≡ false
no_own_object a = ap is_some (none_if (get (book_of BASE empty) a) (λ n has. no_own a n has))

pub works_begin : WorksBegin
works_begin catalog pages st settled = record {
  places = nothing_in_place;
  form = sound_nothing catalog BASE (is_memory_reference BASE pages);
  sound = sound_nothing catalog BASE (may_hold pages st nothing_held);
  fits = found_fits catalog st settled nothing_held tt (λ q is. absurd (there_none (get empty q) is (get-empty nat_cmp q))) last;
  last = last;
  held = λ q. refl;
  homes = λ q is. absurd (there_none (get empty q) is (get-empty nat_cmp q));
  space = tt;
  apart = λ a n has. refl;
  old = λ a n has. absurd (no_own a n has);
  run = refl;
  new = tt;
}
  where
    last : (q : ℕ) (sheet : Sheet) → get (found_images nothing_held) q ≡ Some sheet → get (all_images st) q ≡ Some sheet
    last q sheet is = absurd (some_none (get (found_images nothing_held) q) sheet is (nothing_found q))

-- operations of which none makes an object that isn't new
pub new_to : (P : ℕ → Type 0) (g : Part) → ((n : ℕ) → P n → get g.records n ≡ None) → (op : Op) → MakesOf P op → IsNewTo g op
new_to P g none (New name ty tail) is = none name is
new_to P g none (Word name field) is = tt
new_to P g none (SetWord name field value) is = tt
new_to P g none (Reference name field) is = tt
new_to P g none (SetReference name field to) is = tt
new_to P g none (TailRef name at) is = tt
new_to P g none (SetTailRef name at to) is = tt
new_to P g none (Byte name at) is = tt
new_to P g none (SetByte name at value) is = tt
new_to P g none (Root slot) is = tt
new_to P g none (SetRoot slot to) is = tt

pub all_new_to : (P : ℕ → Type 0) (g : Part) → ((n : ℕ) → P n → get g.records n ≡ None) → (ops : List (Op × ℕ)) → AllMake P ops → AreNewTo g ops
all_new_to P g none [] are = tt
all_new_to P g none (e ∷ es) are = (new_to P g none e.0 are.0, all_new_to P g none es are.1)

-- without its space a transaction has the book of the persistent objects
pub book_empty : (st : State) → book_with st empty ≡ persistent_book BASE st
book_empty st = same_map nat_cmp_total nat_cmp-IsAntisymmetric (book_with st empty) (persistent_book BASE st)
    (λ a. with_old st empty a (get-empty nat_cmp (page_in BASE a)))

pub first_of : (a b c : Bool) → c ≡ false → (a || (b && c)) ≡ true → a ≡ true
first_of true b c none is = refl
first_of false true c none is = sym none ∙ is
first_of false false c none is = is

-- of the space by itself, so that it can be none
alone_by : (catalog : List Fields) (pages : ℕ) (st : State) (p : HeldImages) (s : Option HeldSpaceState) (ops : List (Op × ℕ)) → IsSettled catalog st → s ≡ None
    → Works catalog pages st (record { pages = p; space = s }) ops → Runs catalog st (record { pages = p; space = s }) ops
alone_by catalog pages st p (Some s) ops settled none works = absurd (some_none (Some s) s refl none)
alone_by catalog pages st p None ops settled none works = record {
  alone = refl;
  places = works.places;
  sound = λ page image on. form_for_more catalog (may_hold pages st h) (is_memory_reference BASE st.high_page)
      (λ a is. first_of (is_memory_reference BASE st.high_page a) (is_memory_reference BASE pages a) (is_own_object h a) (no_own_object a) is)
      image.page image.sheet (works.sound page image on);
  fits = fits;
  last = works.last;
  held = held;
  homes = λ page is. works.homes page (ap is_some (sym (just_page page)) ∙ is);
  run = subst (λ (x : Part). IsRun catalog ops (shown catalog BASE st.book (found_images h)) x) (sym (same (left_images h) fits left_home))
      (subst (λ (x : Part). IsRun catalog ops x (shown catalog BASE (persistent_book BASE st) (left_images h))) (sym (same (found_images h) found_fit found_home))
      (subst (λ (b : Book). IsRun catalog ops (shown catalog BASE b (found_images h)) (shown catalog BASE b (left_images h))) (book_empty st) works.run));
  old = λ g. all_new_to (IsOwnName st empty) g (λ n is. absurd (no_own is.address n is.has)) ops works.new;
}
  where
    h : Holding
    h = record { pages = p; space = None }

    just_page : (q : ℕ) → image_in h q ≡ get p.left q
    just_page q = or_none (get p.left q)
      where
        or_none : (o : Option PageImage) → option_or o None ≡ o
        or_none None = refl
        or_none (Some x) = refl

    fits : FitsImages catalog BASE (persistent_book BASE st) (left_images h)
    fits = subst (λ (b : Book). FitsImages catalog BASE b (left_images h)) (book_empty st) works.fits

    homes_found : (q : ℕ) → is_some (get p.found q) ≡ true → IsHome BASE st q
    homes_found q is = (works.homes q (sym (works.held q) ∙ is)).0

    found_fit : FitsImages catalog BASE (persistent_book BASE st) (found_images h)
    found_fit = subst (λ (b : Book). FitsImages catalog BASE b (found_images h)) (book_empty st) (found_fits catalog st settled h tt homes_found works.last)

    home_of : (images : Images) → AreOver st empty images → (q : ℕ) (sheet : Sheet) → get images q ≡ Some sheet → IsHome BASE st q
    home_of images over q sheet on = of (over q sheet on)
      where
        of : ((get (space_left None) q ≡ None) × IsHome BASE st q) ⊎ (get (space_left None) q ≡ Some sheet) → IsHome BASE st q
        of (inl home) = home.1
        of (inr own) = absurd (some_none (get empty q) sheet own (get-empty nat_cmp q))

    left_home : (q : ℕ) (sheet : Sheet) → get (left_images h) q ≡ Some sheet → IsHome BASE st q
    left_home = home_of (left_images h) (left_over st h works.places (λ q is. (works.homes q is).0))

    found_home : (q : ℕ) (sheet : Sheet) → get (found_images h) q ≡ Some sheet → IsHome BASE st q
    found_home = home_of (found_images h) (found_over catalog st settled h tt homes_found)

    same : (images : Images) → FitsImages catalog BASE (persistent_book BASE st) images → ((q : ℕ) (sheet : Sheet) → get images q ≡ Some sheet → IsHome BASE st q)
        → shown catalog BASE st.book images ≡ shown catalog BASE (persistent_book BASE st) images
    same images fit home = shown_alike catalog BASE images (persistent_book BASE st) st.book fit settled.chronicled.fits.one
        (book_named catalog st settled) (λ a n sheet on has. home_named catalog st settled a n (home (page_in BASE a) sheet on) has)

    held : (q : ℕ) → is_some (image_in h q) ≡ true → is_some (get (found_images h) q) ≡ true
    held q is = ap is_some (get-found_images h q) ∙ of (get p.found q) (works.held q ∙ ap is_some (sym (just_page q)) ∙ is)
      where
        of : (o : Option PageImage) → is_some o ≡ true → is_some (option_or (sheet_in o) (get (space_found None) q)) ≡ true
        of None e = absurd (cc e)
        of (Some x) e = refl

pub works_alone : WorksAlone
works_alone catalog pages st h ops settled none works = alone_by catalog pages st h.pages h.space ops settled none works
