-- A transaction, with its space or without it, goes on by reads and writes of objects and of root slots.
use Rattle.std.proofs.Common.{◌≡◌, ◌⊎◌, ◌<◌, ◌++◌, ◌∙◌, ◌||◌, ◌&&◌, inl, inr, ℕ, Bool, true, false, cond, List, [], ◌∷◌, Option, Some, None, is_some, Ok, refl, sym, ap, subst, arith}
use Rattle.std.specs.Option.{option_or, option_map}
use Rattle.std.specs.Ordering.{nat_cmp}
use Rattle.std.specs.FinMap.{get, get-empty}
use Rattle.pm3_core.specs.declared.naming.TheConstants.{BASE}
use Rattle.pm3_types.specs.Fields.{Fields, is_reference}
use Rattle.pm3_types.specs.Graph.{Part}
use Rattle.pm3_types.specs.Layout.{PageImage, page_in, word_in, is_address, is_unmoved, begins_at}
use Rattle.pm3_types.specs.PageForm.{is_memory_reference}
use Rattle.pm3_types.specs.Shown.{Book, Images, FitsImages, IsKnown, name_by, shown}
use Rattle.pm3_graph.specs.declared.operations.Op.{Op}
use Rattle.pm3_graph.specs.declared.operations.Op.TheVariants as operation
use Rattle.pm3_graph.specs.Operation.{IsStep, IsRun}
use Rattle.pm3_page.specs.PageSheets.{sheet_in}
use Rattle.pm3_access.specs.declared.places.Place.{Place}
use Rattle.pm3_access.specs.declared.places.Place.TheVariants.{Field, Tail, Byte}
use Rattle.pm3_access.specs.Access.{AreSound, HaveForm, is_object_held, begins_in, value_written, written_by}
use Rattle.pm3_access.specs.Acts.{AreInPlace, IsHeldAs, left_images, found_images, left_part, found_part, space_left, space_found, map_held, map_by, read_op, write_op, write_with, answer_of}
use Rattle.pm3_access.specs.Holding.{Holding, HeldImages, image_in, space_now}
use Rattle.pm3_access.specs.Roots.{root_written, images_rooted}
use Rattle.pm3_access.specs.Sound.{refers_in, refers_by}
use Rattle.pm3_access.specs.Spots.{IsValueFor, has_names}
use Rattle.pm3_access.proofs.BodyWriting.{one_word_written}
use Rattle.pm3_access.proofs.HeldSheets.{changed, changed_by, changed_here, written_is, get-left_images, get-found_images}
use Rattle.pm3_access.proofs.Homes.{is_some_none}
use Rattle.pm3_access.proofs.InPlace.{written_in_place}
use Rattle.pm3_access.proofs.ReadSteps.{read_step, read_known}
use Rattle.pm3_access.proofs.RootCalls.{root_read, root_write, rooted_form, rooted_in_place}
use Rattle.pm3_access.proofs.SoundingHeld.{sound_value}
use Rattle.pm3_access.proofs.SoundingPages.{form_for_more}
use Rattle.pm3_access.proofs.WriteSteps.{write_step, write_fits}
use Rattle.pm3_history.specs.Laid.{laid}
use Rattle.pm3_history.specs.Named.{book_of}
use Rattle.pm3_history.specs.Persistent.{persistent_book}
use Rattle.pm3_history.specs.State.{State}
use Rattle.pm3_history.proofs.Laying.{one_value, some_none}
use Rattle.pm3_txn.specs.TransactionLaws.{IsSettled}
use Rattle.pm3_txn.specs.Works.{Works, IsOwnName, MakesOf, AllMake, left_book, found_book, book_with, is_own_object, may_hold, without_space}
use Rattle.pm3_txn.specs.WorkLaws.{ObjectsAreHeld, WorksRead, WorksWrite, WorksReadRoot, WorksWriteRoot}
use Rattle.pm3_txn.proofs.Admitting.{narrow, known_below}
use Rattle.pm3_txn.proofs.Changing.{IsChange, rooted_change, changed_found, run_goes_on}
use Rattle.pm3_txn.proofs.OwnBooks.{with_own, with_cases}
use Rattle.pm3_txn.proofs.WorksGo.{all_map}
use Rattle.pm3_txn.proofs.WorksOwn.{alone_still, found_still, space_found_still, last_still, own_page_still, own_still}

-- one operation more makes no name
pub all_append : (P : ℕ → Type 0) (ops : List (Op × ℕ)) (op : Op) (answer : ℕ) → AllMake P ops → MakesOf P op → AllMake P (ops ++ (op, answer) ∷ [])
all_append P [] op answer are is = (is, tt)
all_append P (e ∷ es) op answer are is = (are.0, all_append P es op answer are.1 is)

either_makes : (P : ℕ → Type 0) (b : Bool) (x y : Op) → MakesOf P x → MakesOf P y → MakesOf P (cond b x y)
either_makes P true x y a b = a
either_makes P false x y a b = b

read_makes : (P : ℕ → Type 0) (map : Fields) (n : ℕ) (place : Place) → MakesOf P (read_op map n place)
read_makes P map n (Field f) = either_makes P (is_reference map f) (operation.Reference n f) (operation.Word n f) tt tt
read_makes P map n (Tail k) = tt
read_makes P map n (Byte k) = tt

write_makes : (P : ℕ → Type 0) (map : Fields) (n : ℕ) (place : Place) (x : ℕ) → MakesOf P (write_with map n place x)
write_makes P map n (Field f) x = either_makes P (is_reference map f) (operation.SetReference n f x) (operation.SetWord n f x) tt tt
write_makes P map n (Tail k) x = tt
write_makes P map n (Byte k) x = tt

-- what a known word refers to lies below the high page, or on a page of the space
may_by : (a b c : Bool) → (a ≡ true) ⊎ ((b ≡ true) × (c ≡ true)) → (a || (b && c)) ≡ true
may_by a b c (inl is) = ap (λ (x : Bool). x || (b && c)) is
may_by true b c (inr is) = refl
may_by false b c (inr is) = ap (λ (x : Bool). x && c) is.0 ∙ is.1

module _ (catalog : List Fields) (pages : ℕ) (st : State) (h : Holding) (ops : List (Op × ℕ)) (works : Works catalog pages st h ops) where
  -- an object of its book, which is held
  as_held : (a n : ℕ) (map : Fields) → get (left_book st h) a ≡ Some n → is_object_held BASE h a ≡ true → map_held catalog BASE h a ≡ Some map
      → IsHeldAs catalog BASE (left_book st h) h a n map
  as_held a n map named object map_is = record {
    refers = is_memory_reference BASE pages;
    form = works.form;
    object = object;
    map_is = map_is;
    fits = works.fits;
    named = named;
  }

  -- one step more that leaves what is held
  stays : (op : Op) (answer : ℕ) → IsStep catalog op (left_part catalog BASE (left_book st h) h) answer (left_part catalog BASE (left_book st h) h)
      → MakesOf (IsOwnName st (space_left h.space)) op → Works catalog pages st h (ops ++ (op, answer) ∷ [])
  stays op answer step makes = record {
    places = works.places;
    form = works.form;
    sound = works.sound;
    fits = works.fits;
    last = works.last;
    held = works.held;
    homes = works.homes;
    space = works.space;
    apart = works.apart;
    old = works.old;
    run = run_goes_on catalog ops op answer (found_part catalog BASE (found_book st h) h) (left_part catalog BASE (left_book st h) h) (left_part catalog BASE (left_book st h) h) works.run step;
    new = all_append (IsOwnName st (space_left h.space)) ops op answer works.new makes;
  }

  -- one that changes an image, and leaves the names of the space's objects
  module _ (page : ℕ) (image now : PageImage) (there : image_in h page ≡ Some image) where
    abbrev new : Holding
    new = changed h page now

    changes : AreInPlace new → AreSound catalog BASE pages new → HaveForm catalog (may_hold pages st h) (without_space new)
        → FitsImages catalog BASE (left_book st h) (left_images new) → book_of BASE (space_left new.space) ≡ book_of BASE (space_left h.space)
        → (op : Op) (answer : ℕ) → IsStep catalog op (left_part catalog BASE (left_book st h) h) answer (left_part catalog BASE (left_book st h) new)
        → MakesOf (IsOwnName st (space_left h.space)) op → Works catalog pages st new (ops ++ (op, answer) ∷ [])
    changes places form sound fits own op answer step makes = record {
      places = places;
      form = form;
      sound = λ q x on. form_for_more catalog (may_hold pages st h) (may_hold pages st new) still x.page x.sheet (sound q x on);
      fits = subst (λ (b : Book). FitsImages catalog BASE b (left_images new)) (sym book) fits;
      last = λ q sheet is. works.last q sheet (ap (λ (m : Images). get m q) (sym found) ∙ is);
      held = λ q. ap is_some (found_still h page image now there q) ∙ works.held q ∙ sym (alone_still h page image now there q);
      homes = λ q is. works.homes q (sym (alone_still h page image now there q) ∙ is);
      space = last_still h page image now there st works.space;
      apart = λ a n has. none_still (page_in BASE a) (works.apart a n has);
      old = λ a n has. subst (λ (m : Images). (get (book_of BASE m) a ≡ Some n) ⊎ (get st.graph.records n ≡ None)) (sym (space_found_still h page image now there))
          (works.old a n (ap (λ (b : Book). get b a) (sym own) ∙ has));
      run = subst (λ (x : Part). IsRun catalog (ops ++ (op, answer) ∷ []) x (left_part catalog BASE (left_book st new) new)) (sym found_same)
          (subst (λ (b : Book). IsRun catalog (ops ++ (op, answer) ∷ []) (found_part catalog BASE (found_book st h) h) (shown catalog BASE b (left_images new))) (sym book)
          (run_goes_on catalog ops op answer (found_part catalog BASE (found_book st h) h) (left_part catalog BASE (left_book st h) h) (left_part catalog BASE (left_book st h) new) works.run step));
      new = all_map (IsOwnName st (space_left h.space)) (IsOwnName st (space_left new.space))
          (λ n is. record { address = is.address; has = ap (λ (b : Book). get b is.address) own ∙ is.has; new = is.new }) (ops ++ (op, answer) ∷ [])
          (all_append (IsOwnName st (space_left h.space)) ops op answer works.new makes);
    }
      where
        found : found_images new ≡ found_images h
        found = changed_found h page image now there

        book : left_book st new ≡ left_book st h
        book = ap (laid (persistent_book BASE st)) own

        found_same : found_part catalog BASE (found_book st new) new ≡ found_part catalog BASE (found_book st h) h
        found_same = ap (λ (m : Images). shown catalog BASE (book_with st m) (found_images new)) (space_found_still h page image now there)
            ∙ ap (shown catalog BASE (found_book st h)) found

        still : (a : ℕ) → may_hold pages st h a ≡ true → may_hold pages st new a ≡ true
        still a is = ap (λ (b : Bool). is_memory_reference BASE st.high_page a || (is_memory_reference BASE pages a && b)) (ap (λ (b : Book). is_some (get b a)) own) ∙ is

        none_still : (q : ℕ) → space_now h.space q ≡ None → space_now new.space q ≡ None
        none_still q none = by (space_now new.space q) (own_page_still h page image now there q ∙ ap is_some none)
          where
            by : (o : Option PageImage) → is_some o ≡ false → o ≡ None
            by None e = refl
            by (Some x) e = absurd (cc e)

  -- what it knows may be written to a page that is held alone
  known_may : IsSettled catalog st → (v : ℕ) → IsKnown (left_book st h) v → is_memory_reference BASE pages v ≡ true → may_hold pages st h v ≡ true
  known_may settled v known form = may_by (is_memory_reference BASE st.high_page v) (is_memory_reference BASE pages v) (is_own_object h v) (by known)
    where
      which : (n : ℕ) → (get (book_of BASE (space_left h.space)) v ≡ Some n) ⊎ ((get (book_of BASE (space_left h.space)) v ≡ None) × (get (persistent_book BASE st) v ≡ Some n))
          → (is_memory_reference BASE st.high_page v ≡ true) ⊎ ((is_memory_reference BASE pages v ≡ true) × (is_own_object h v ≡ true))
      which n (inl own) = inr (form, ap is_some own)
      which n (inr old) = inl (narrow BASE pages st.high_page v form (known_below catalog st settled v (inr (ap is_some old.1))))

      some_name : (o : Option ℕ) → get (left_book st h) v ≡ o → is_some o ≡ true → (n : ℕ) × (get (left_book st h) v ≡ Some n)
      some_name None is e = absurd (cc e)
      some_name (Some n) is e = (n, is)

      by : IsKnown (left_book st h) v → (is_memory_reference BASE st.high_page v ≡ true) ⊎ ((is_memory_reference BASE pages v ≡ true) × (is_own_object h v ≡ true))
      by (inl nil) = inl (narrow BASE pages st.high_page v form (inl nil))
      by (inr is) = (let named = some_name (get (left_book st h) v) refl is in which named.0 (with_cases st (space_left h.space) v named.0 named.1))

  objects_held : (a n : ℕ) → get (left_book st h) a ≡ Some n → is_some (image_in h (page_in BASE a)) ≡ true → is_object_held BASE h a ≡ true
  objects_held a n named there = of (image_in h (page_in BASE a)) refl there
    where
      of : (o : Option PageImage) → image_in h (page_in BASE a) ≡ o → is_some o ≡ true → begins_in BASE (image_in h (page_in BASE a)) a ≡ true
      of None none e = absurd (cc e)
      of (Some image) is e =
          let object = works.fits.objects a n image.sheet named (get-left_images h (page_in BASE a) ∙ ap sheet_in is) in
          ap (λ (o : Option PageImage). begins_in BASE o a) is ∙ begins (works.places.home (page_in BASE a) image is) object.0 object.1
        where
          begins : image.page ≡ page_in BASE a → is_address BASE a ≡ true → is_unmoved image.sheet (word_in BASE a) ≡ true → begins_at BASE image a ≡ true
          begins own address unmoved = grind (arith, own, address, unmoved)

pub objects_are_held : ObjectsAreHeld
objects_are_held catalog pages st h ops a n works named there = objects_held catalog pages st h ops works a n named there

pub works_read : WorksRead
works_read catalog pages st h ops a n v map place object map_is named is works = (
  stays catalog pages st h ops works (read_op map n place) (answer_of (left_book st h) map place v)
      (read_step catalog BASE (left_book st h) h a n map place (as_held catalog pages st h ops works a n map named object map_is) v is)
      (read_makes (IsOwnName st (space_left h.space)) map n place),
  λ names. read_known catalog BASE (left_book st h) h a n map place (as_held catalog pages st h ops works a n map named object map_is) v names is,
)

pub works_read_root : WorksReadRoot
works_read_root catalog pages st h ops slot a low is works = (
  stays catalog pages st h ops works (operation.Root slot) (name_by (left_book st h) a) (root_read catalog BASE h slot a low is (left_book st h)).0 tt,
  (root_read catalog BASE h slot a low is (left_book st h)).1 works.fits,
)

-- what comes of a map of something
mapped_some : {A B : Type 0} (f : A → B) (o : Option A) (y : B) → option_map f o ≡ Some y → (x : A) × (o ≡ Some x) × (f x ≡ y)
mapped_some f None y is = absurd (is_some_none y is)
mapped_some f (Some x) y is = (x, refl, one_value (Some (f x)) (f x) y refl is)

object_image : (o : Option PageImage) (a : ℕ) → begins_in BASE o a ≡ true → (image : PageImage) × (o ≡ Some image)
object_image None a is = absurd (cc is)
object_image (Some image) a is = (image, refl)

module _ (catalog : List Fields) (pages : ℕ) (st : State) (h new : Holding) (ops : List (Op × ℕ)) (settled : IsSettled catalog st) (works : Works catalog pages st h ops) where
  module _ (a n v : ℕ) (map : Fields) (place : Place) (object : is_object_held BASE h a ≡ true) (map_is : map_held catalog BASE h a ≡ Some map) (named : get (left_book st h) a ≡ Some n)
      (value : IsValueFor place v) (known : has_names map place ≡ true → IsKnown (left_book st h) v × (is_memory_reference BASE pages v ≡ true)) (is : value_written catalog BASE h a place v ≡ Some new) where
    page : ℕ
    page = page_in BASE a

    there : (image : PageImage) × (image_in h (page_in BASE a) ≡ Some image)
    there = object_image (image_in h (page_in BASE a)) a object

    written : (now : PageImage) × (written_by catalog (image_in h (page_in BASE a)) (word_in BASE a) place v ≡ Some now) × (changed h (page_in BASE a) now ≡ new)
    written = mapped_some (changed h (page_in BASE a)) (written_by catalog (image_in h (page_in BASE a)) (word_in BASE a) place v) new (sym (written_is catalog BASE h a place v) ∙ is)

    abbrev image : PageImage
    image = there.0

    abbrev now : PageImage
    now = written.0

    map_there : (o : Option PageImage) → map_by catalog o (word_in BASE a) ≡ Some map → refers_in catalog o (word_in BASE a) place ≡ true → has_names map place ≡ true
    map_there None e r = absurd (is_some_none map e)
    map_there (Some x) e r = sym (ap (λ (o : Option Fields). refers_by o place) e) ∙ r

    names : refers_in catalog (image_in h (page_in BASE a)) (word_in BASE a) place ≡ true → has_names map place ≡ true
    names = map_there (image_in h (page_in BASE a)) map_is

    sound_now : HaveForm catalog (may_hold pages st h) (without_space (changed h (page_in BASE a) now))
    sound_now = of (get h.pages.left (page_in BASE a)) refl
      where
        of : (o : Option PageImage) → get h.pages.left (page_in BASE a) ≡ o → HaveForm catalog (may_hold pages st h) (without_space (changed_by o h (page_in BASE a) now))
        of None none = works.sound
        of (Some old) on =
            let bare : image_in (without_space h) (page_in BASE a) ≡ image_in h (page_in BASE a) =
            ap (λ (o : Option PageImage). option_or o None) on ∙ sym (ap (λ (o : Option PageImage). option_or o (space_now h.space (page_in BASE a))) on) in
            let done : value_written catalog BASE (without_space h) a place v ≡ Some (changed_by (Some old) (without_space h) (page_in BASE a) now) =
            written_is catalog BASE (without_space h) a place v
            ∙ ap (λ (o : Option PageImage). option_map (changed (without_space h) (page_in BASE a)) (written_by catalog o (word_in BASE a) place v)) bare
            ∙ ap (option_map (changed (without_space h) (page_in BASE a))) written.1
            ∙ ap (λ (o : Option PageImage). Some (changed_by o (without_space h) (page_in BASE a) now)) on in
            sound_value catalog BASE (may_hold pages st h) (without_space h) a v place (ap (λ (o : Option PageImage). begins_in BASE o a) bare ∙ object) value
            (λ r. let k = known (names (sym (ap (λ (o : Option PageImage). refers_in catalog o (word_in BASE a) place) bare) ∙ r)) in known_may catalog pages st h ops works settled v k.0 k.1)
            works.sound (changed_by (Some old) (without_space h) (page_in BASE a) now) (Ok tt) done

    starts : now.sheet.starts ≡ image.sheet.starts
    starts =
        let body = one_word_written catalog BASE h new a place v object is in
        let here : image_in new (page_in BASE a) ≡ Some now = ap (λ (x : Holding). image_in x (page_in BASE a)) (sym written.2) ∙ changed_here h (page_in BASE a) image now there.1 in
        ap (λ (x : PageImage). x.sheet.starts) (one_value (image_in new (page_in BASE a)) now _ here body.is)
        ∙ ap (λ (x : PageImage). x.sheet.starts) (one_value (image_in h (page_in BASE a)) body.image image body.was there.1)

    -- the space has the same objects after it
    pub write_own : book_of BASE (space_left new.space) ≡ book_of BASE (space_left h.space)
    write_own =
        let places : AreInPlace (changed h (page_in BASE a) now) = subst AreInPlace (sym written.2) (written_in_place h works.places catalog BASE a place v new is) in
        let held : IsHeldAs catalog BASE (left_book st h) h a n map = as_held catalog pages st h ops works a n map named object map_is in
        let fits : FitsImages catalog BASE (left_book st h) (left_images (changed h (page_in BASE a) now)) =
        subst (λ (x : Holding). FitsImages catalog BASE (left_book st h) (left_images x)) (sym written.2) (write_fits catalog BASE (left_book st h) h a n map place v held new (λ r. (known r).0) is) in
        ap (λ (x : Holding). book_of BASE (space_left x.space)) (sym written.2)
        ∙ own_still h (page_in BASE a) image now there.1 works.places places starts catalog (is_memory_reference BASE pages) works.form (left_book st h) fits (with_own st (space_left h.space))

    pub write_more : Works catalog pages st new (ops ++ (write_op (left_book st h) map n place v, 0) ∷ [])
    write_more =
        let places : AreInPlace (changed h (page_in BASE a) now) = subst AreInPlace (sym written.2) (written_in_place h works.places catalog BASE a place v new is) in
        let held : IsHeldAs catalog BASE (left_book st h) h a n map = as_held catalog pages st h ops works a n map named object map_is in
        let fits : FitsImages catalog BASE (left_book st h) (left_images (changed h (page_in BASE a) now)) =
        subst (λ (x : Holding). FitsImages catalog BASE (left_book st h) (left_images x)) (sym written.2) (write_fits catalog BASE (left_book st h) h a n map place v held new (λ r. (known r).0) is) in
        subst (λ (x : Holding). Works catalog pages st x (ops ++ (write_op (left_book st h) map n place v, 0) ∷ [])) written.2
        (changes catalog pages st h ops works (page_in BASE a) image now there.1 places
        (subst (AreSound catalog BASE pages) (sym written.2) (sound_value catalog BASE (is_memory_reference BASE pages) h a v place object value (λ r. (known (names r)).1) works.form new (Ok tt) is))
        sound_now fits
        (own_still h (page_in BASE a) image now there.1 works.places places starts catalog (is_memory_reference BASE pages) works.form (left_book st h) fits (with_own st (space_left h.space)))
        (write_op (left_book st h) map n place v) 0
        (subst (λ (x : Holding). IsStep catalog (write_op (left_book st h) map n place v) (left_part catalog BASE (left_book st h) h) 0 (left_part catalog BASE (left_book st h) x)) (sym written.2)
        (write_step catalog BASE (left_book st h) h a n map place v held new value is))
        (write_makes (IsOwnName st (space_left h.space)) map n place (answer_of (left_book st h) map place v)))

  -- without the space all is in place as well
  bare_in_place : AreInPlace (without_space h)
  bare_in_place = record {
    home = λ q x on. works.places.home q x (just (space_now h.space q) (get h.pages.left q) x on);
    apart = λ q on. refl;
    found = λ q none. get-found_images (without_space h) q ∙ ap (λ (o : Option PageImage). option_or (sheet_in o) (get (space_found None) q)) (unfound q none) ∙ get-empty nat_cmp q;
  }
    where
      just : (u o : Option PageImage) (x : PageImage) → option_or o None ≡ Some x → option_or o u ≡ Some x
      just u None x on = absurd (is_some_none x on)
      just u (Some y) x on = on

      first_none : (o : Option PageImage) → option_or o None ≡ None → o ≡ None
      first_none None e = e
      first_none (Some x) e = absurd (some_none (Some x) x refl e)

      unfound : (q : ℕ) → option_or (get h.pages.left q) None ≡ None → get h.pages.found q ≡ None
      unfound q none = by (get h.pages.found q) (works.held q ∙ ap is_some (first_none (get h.pages.left q) none))
        where
          by : (o : Option PageImage) → is_some o ≡ false → o ≡ None
          by None e = refl
          by (Some x) e = absurd (cc e)

  module _ (slot a : ℕ) (low : slot < 16) (known : IsKnown (left_book st h) a) (form : is_memory_reference BASE pages a ≡ true) (is : root_written h slot a ≡ Some new) where
    pub rooted : (p : HeldImages) × (images_rooted h.pages slot a ≡ Some p) × (record h { pages = p } ≡ new)
    rooted = mapped_some (λ (p : HeldImages). record h { pages = p }) (images_rooted h.pages slot a) new is

    change : IsChange h new 2
    change = rooted_change h new slot a is

    bare_rooted : root_written (without_space h) slot a ≡ Some (without_space new)
    bare_rooted = ap (option_map (λ (p : HeldImages). record (without_space h) { pages = p })) rooted.1 ∙ ap (λ (x : Holding). Some (without_space x)) rooted.2

    pub set_root_more : Works catalog pages st new (ops ++ (operation.SetRoot slot (name_by (left_book st h) a), 0) ∷ [])
    set_root_more =
        let step = root_write h new slot a works.places is low catalog BASE (left_book st h) (is_memory_reference BASE pages) works.form in
        let Q : Holding → Type 0 = λ x. Works catalog pages st x (ops ++ (operation.SetRoot slot (name_by (left_book st h) a), 0) ∷ []) in
        subst Q change.is
        (changes catalog pages st h ops works 2 change.image change.now change.there
        (subst AreInPlace (sym change.is) (rooted_in_place h new slot a works.places is))
        (subst (AreSound catalog BASE pages) (sym change.is) (rooted_form h new slot a works.places is low catalog BASE (is_memory_reference BASE pages) works.form form))
        (subst (λ (x : Holding). HaveForm catalog (may_hold pages st h) (without_space x)) (sym change.is)
        (rooted_form (without_space h) (without_space new) slot a bare_in_place bare_rooted low catalog BASE (may_hold pages st h) works.sound (known_may catalog pages st h ops works settled a known form)))
        (subst (λ (x : Holding). FitsImages catalog BASE (left_book st h) (left_images x)) (sym change.is) (step.1 works.fits known))
        (ap (λ (x : Holding). book_of BASE (space_left x.space)) (change.is ∙ sym rooted.2))
        (operation.SetRoot slot (name_by (left_book st h) a)) 0
        (subst (λ (x : Holding). IsStep catalog (operation.SetRoot slot (name_by (left_book st h) a)) (left_part catalog BASE (left_book st h) h) 0 (left_part catalog BASE (left_book st h) x)) (sym change.is) step.0) tt)

pub works_write : WorksWrite
works_write catalog pages st h new ops a n v map place settled object map_is named value known is works =
    write_more catalog pages st h new ops settled works a n v map place object map_is named value known is

pub works_write_root : WorksWriteRoot
works_write_root catalog pages st h new ops slot a settled low known form is works = set_root_more catalog pages st h new ops settled works slot a low known form is
