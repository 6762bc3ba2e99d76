-- A transaction goes on by reads and writes of objects and of root slots.
use Rattle.std.proofs.Common.{◌≡◌, ◌<◌, ◌+◌, ◌++◌, ◌∙◌, inl, inr, ℕ, Bool, true, false, cond, List, [], ◌∷◌, Option, Some, None, is_some, Ok, refl, sym, ap, subst, arith}
use Rattle.std.proofs.lemmas.Bool.{cases_eq}
use Rattle.std.specs.Option.{option_or, option_map}
use Rattle.std.specs.FinMap as map
use Rattle.std.specs.FinMap.{get, nat_cmp-IsAntisymmetric, same_map}
use Rattle.std.specs.Cmp.{nat_cmp_total}
use Rattle.pm3_core.specs.declared.naming.TheConstants.{BASE}
use Rattle.pm3_types.specs.Fields.{Fields, is_reference}
use Rattle.pm3_types.specs.Graph.{Part}
use Rattle.pm3_types.specs.Layout.{PageImage, page_in, word_in, is_address, is_start, is_unmoved, begins_at, with_word_at}
use Rattle.pm3_types.specs.PageForm.{is_memory_reference}
use Rattle.pm3_types.specs.Shown.{Book, Images, FitsImages, IsKnown, name_by, shown}
use Rattle.pm3_graph.specs.declared.operations.Op.{Op}
use Rattle.pm3_graph.specs.declared.operations.Op.TheVariants as operation
use Rattle.pm3_graph.specs.Frame.{AreNewTo}
use Rattle.pm3_graph.specs.Operation.{IsStep, IsRun, IsNewTo}
use Rattle.pm3_access.specs.declared.places.Place.{Place}
use Rattle.pm3_access.specs.declared.places.Place.TheVariants.{Field, Tail, Byte}
use Rattle.pm3_access.specs.Access.{HaveForm, is_object_held, begins_in, value_held, value_written, written_by}
use Rattle.pm3_page.specs.PageSheets.{sheet_in}
use Rattle.pm3_access.specs.Acts.{AreInPlace, space_found, IsHeldAs, left_images, found_images, left_part, found_part, map_held, map_by, read_op, write_op, write_with, answer_of}
use Rattle.pm3_access.specs.Holding.{Holding, HeldImages, HeldSpaceState, image_in, with_image, space_with, space_now}
use Rattle.pm3_access.specs.Roots.{root_held, root_written}
use Rattle.pm3_access.specs.Sound.{IsReferenceFor, refers_in, refers_by}
use Rattle.pm3_access.specs.Spots.{IsValueFor, has_names}
use Rattle.pm3_access.proofs.StartsStay.{starts_stay}
use Rattle.pm3_access.proofs.HeldSheets.{changed, changed_by, changed_here, changed_else, written_is, get-left_images, get-found_images}
use Rattle.pm3_access.proofs.Homes.{is_some_none}
use Rattle.pm3_access.proofs.InPlace.{written_in_place}
use Rattle.pm3_access.proofs.ReadSteps.{read_step, read_known}
use Rattle.pm3_access.proofs.RootCalls.{root_read, root_write, rooted_form, rooted_in_place}
use Rattle.pm3_access.proofs.SoundingHeld.{sound_value}
use Rattle.pm3_access.proofs.WriteSteps.{write_step, write_fits}
use Rattle.pm3_history.specs.Persistent.{persistent_book}
use Rattle.pm3_history.specs.State.{State}
use Rattle.pm3_history.proofs.Laying.{one_value}
use Rattle.pm3_txn.specs.Runs.{Runs}
use Rattle.pm3_txn.specs.TransactionLaws.{IsSettled, ObjectsAreThere, ReadsGoOn, ReadsAreKnown, WritesGoOn, RootReadsGoOn, RootWritesGoOn}
use Rattle.pm3_txn.proofs.Admitting.{narrow, known_below, book_named, whole_fits}

-- a run goes on by one step
pub run_goes_on : (catalog : List Fields) (done : List (Op × ℕ)) (op : Op) (answer : ℕ) (g m h : Part) → IsRun catalog done g m → IsStep catalog op m answer h
    → IsRun catalog (done ++ (op, answer) ∷ []) g h
run_goes_on catalog [] op answer g m h run step = (h, subst (λ (x : Part). IsStep catalog op x answer h) run step, refl)
run_goes_on catalog (e ∷ es) op answer g m h run step = (run.0, run.1, run_goes_on catalog es op answer run.0 m h run.2 step)

pub new_goes_on : (done : List (Op × ℕ)) (op : Op) (answer : ℕ) (g : Part) → AreNewTo g done → IsNewTo g op → AreNewTo g (done ++ (op, answer) ∷ [])
new_goes_on [] op answer g are new = (new, tt)
new_goes_on (e ∷ es) op answer g are new = (are.0, new_goes_on es op answer g are.1 new)

either_old : (b : Bool) (x y : Op) (g : Part) → IsNewTo g x → IsNewTo g y → IsNewTo g (cond b x y)
either_old true x y g a b = a
either_old false x y g a b = b

-- reads and writes make no object
pub read_old : (map : Fields) (n : ℕ) (place : Place) (g : Part) → IsNewTo g (read_op map n place)
read_old map n (Field f) g = either_old (is_reference map f) (operation.Reference n f) (operation.Word n f) g tt tt
read_old map n (Tail k) g = tt
read_old map n (Byte k) g = tt

pub write_old : (map : Fields) (n : ℕ) (place : Place) (x : ℕ) (g : Part) → IsNewTo g (write_with map n place x)
write_old map n (Field f) x g = either_old (is_reference map f) (operation.SetReference n f x) (operation.SetWord n f x) g tt tt
write_old map n (Tail k) x g = tt
write_old map n (Byte k) x g = tt

-- another image of a page that is held
module _ (h : Holding) (page : ℕ) (image now : PageImage) (there : image_in h page ≡ Some image) where
  pub changed_alone : h.space ≡ None → (changed h page now).space ≡ None
  changed_alone none = of (map.get h.pages.left page)
    where
      of : (o : Option PageImage) → (changed_by o h page now).space ≡ None
      of None = ap (option_map (λ t. space_with t page now)) none
      of (Some x) = none

  pub changed_held : (q : ℕ) → is_some (image_in (changed h page now) q) ≡ is_some (image_in h q)
  changed_held q = elim (cases_eq q page) [
    | inl e ↦ ap (λ (n : ℕ). is_some (image_in (changed h page now) n)) e ∙ ap is_some (changed_here h page image now there) ∙ sym (ap is_some there) ∙ sym (ap (λ (n : ℕ). is_some (image_in h n)) e)
    | inr ne ↦ ap is_some (changed_else h page now q ne)
  ]

  pub changed_found : found_images (changed h page now) ≡ found_images h
  changed_found = same_map nat_cmp_total nat_cmp-IsAntisymmetric (found_images (changed h page now)) (found_images h) (λ q. of q (map.get h.pages.left page))
    where
      of : (q : ℕ) (o : Option PageImage) → get (found_images (changed_by o h page now)) q ≡ get (found_images h) q
      of q None = get-found_images (changed_by None h page now) q ∙ ap (option_or (sheet_in (map.get h.pages.found q))) (same h.space) ∙ sym (get-found_images h q)
        where
          same : (s : Option HeldSpaceState) → get (space_found (option_map (λ t. space_with t page now) s)) q ≡ get (space_found s) q
          same None = refl
          same (Some s) = refl
      of q (Some old) = refl

-- what a write changed
pub record IsChange (h new : Holding) (page : ℕ) : Type 0 where
  pub image : PageImage
  pub now : PageImage
  pub there : image_in h page ≡ Some image
  pub is : changed h page now ≡ new
  pub starts : (s : ℕ) → is_start image.sheet s ≡ true → is_start now.sheet s ≡ true

pub written_change : (catalog : List Fields) (h new : Holding) (a : ℕ) (place : Place) (v : ℕ) → value_written catalog BASE h a place v ≡ Some new → IsChange h new (page_in BASE a)
written_change catalog h new a place v is = of (image_in h (page_in BASE a)) refl
  where
    written : option_map (changed h (page_in BASE a)) (written_by catalog (image_in h (page_in BASE a)) (word_in BASE a) place v) ≡ Some new
    written = sym (written_is catalog BASE h a place v) ∙ is

    with_now : (image : PageImage) → image_in h (page_in BASE a) ≡ Some image → (o : Option PageImage) → written_by catalog (Some image) (word_in BASE a) place v ≡ o
        → option_map (changed h (page_in BASE a)) o ≡ Some new → IsChange h new (page_in BASE a)
    with_now image there None made e = absurd (is_some_none new e)
    with_now image there (Some now) made e = record {
      image = image;
      now = now;
      there = there;
      is = one_value (Some (changed h (page_in BASE a) now)) (changed h (page_in BASE a) now) new refl e;
      starts = starts_stay catalog image now (word_in BASE a) place v made;
    }

    of : (o : Option PageImage) → image_in h (page_in BASE a) ≡ o → IsChange h new (page_in BASE a)
    of None none = absurd (is_some_none new (sym (ap (λ (o : Option PageImage). option_map (changed h (page_in BASE a)) (written_by catalog o (word_in BASE a) place v)) none) ∙ written))
    of (Some image) there = with_now image there (written_by catalog (image_in h (page_in BASE a)) (word_in BASE a) place v)
        (ap (λ (o : Option PageImage). written_by catalog o (word_in BASE a) place v) (sym there)) written

pub rooted_change : (h new : Holding) (slot a : ℕ) → root_written h slot a ≡ Some new → IsChange h new 2
rooted_change h new slot a is = of (map.get h.pages.left 2) refl is
  where
    of : (o : Option PageImage) → map.get h.pages.left 2 ≡ o
        → option_map (λ (pages : HeldImages). record h { pages = pages }) (option_map (λ image. with_image h.pages 2 (with_word_at image (2 + slot) a)) o) ≡ Some new
        → IsChange h new 2
    of None none e = absurd (is_some_none new e)
    of (Some image) there e = record {
      image = image;
      now = with_word_at image (2 + slot) a;
      there = ap (λ (o : Option PageImage). option_or o (space_now h.space 2)) there;
      is = ap (λ (o : Option PageImage). changed_by o h 2 (with_word_at image (2 + slot) a)) there
          ∙ one_value (Some (record h { pages = with_image h.pages 2 (with_word_at image (2 + slot) a) })) (record h { pages = with_image h.pages 2 (with_word_at image (2 + slot) a) }) new refl e;
      starts = λ s begins. begins;
    }

module _ (catalog : List Fields) (st : State) (settled : IsSettled catalog st) (h : Holding) (done : List (Op × ℕ)) (runs : Runs catalog st h done) where
  -- one step more that leaves what is held
  stays : (op : Op) (answer : ℕ) → IsStep catalog op (left_part catalog BASE st.book h) answer (left_part catalog BASE st.book h) → ((g : Part) → IsNewTo g op)
      → Runs catalog st h (done ++ (op, answer) ∷ [])
  stays op answer step old = record {
    alone = runs.alone;
    places = runs.places;
    sound = runs.sound;
    fits = runs.fits;
    last = runs.last;
    held = runs.held;
    homes = runs.homes;
    run = run_goes_on catalog done op answer (found_part catalog BASE st.book h) (left_part catalog BASE st.book h) (left_part catalog BASE st.book h) runs.run step;
    old = λ g. new_goes_on done op answer g (runs.old g) (old g);
  }

  -- one that changes an image
  changes : (new : Holding) (page : ℕ) → IsChange h new page → AreInPlace new → HaveForm catalog (is_memory_reference BASE st.high_page) new
      → FitsImages catalog BASE (persistent_book BASE st) (left_images new)
      → (op : Op) (answer : ℕ) → IsStep catalog op (left_part catalog BASE st.book h) answer (left_part catalog BASE st.book new) → ((g : Part) → IsNewTo g op)
      → Runs catalog st new (done ++ (op, answer) ∷ [])
  changes new page change places sound fits op answer step old =
      let same : found_images new ≡ found_images h = ap found_images (sym change.is) ∙ changed_found h page change.image change.now change.there in record {
        alone = ap (λ (x : Holding). x.space) (sym change.is) ∙ changed_alone h page change.image change.now change.there runs.alone;
        places = places;
        sound = sound;
        fits = fits;
        last = λ q sheet is. runs.last q sheet (ap (λ (m : Images). get m q) (sym same) ∙ is);
        held = λ q is. ap (λ (m : Images). is_some (get m q)) same ∙ runs.held q (sym (changed_held h page change.image change.now change.there q) ∙ ap (λ (x : Holding). is_some (image_in x q)) change.is ∙ is);
        homes = λ q is. runs.homes q (sym (changed_held h page change.image change.now change.there q) ∙ ap (λ (x : Holding). is_some (image_in x q)) change.is ∙ is);
        run = subst (λ (m : Images). IsRun catalog (done ++ (op, answer) ∷ []) (shown catalog BASE st.book m) (left_part catalog BASE st.book new)) (sym same)
            (run_goes_on catalog done op answer (found_part catalog BASE st.book h) (left_part catalog BASE st.book h) (left_part catalog BASE st.book new) runs.run step);
        old = λ g. new_goes_on done op answer g (runs.old g) (old g);
      }

  -- the object at an address, under the whole book and under that of the persistent objects
  held_as : (book : Book) → FitsImages catalog BASE book (left_images h) → (a n : ℕ) (map : Fields) → get book a ≡ Some n
      → is_object_held BASE h a ≡ true → map_held catalog BASE h a ≡ Some map → IsHeldAs catalog BASE book h a n map
  held_as book fits a n map named object map_is = record {
    refers = is_memory_reference BASE st.high_page;
    form = runs.sound;
    object = object;
    map_is = map_is;
    fits = fits;
    named = named;
  }

  pub as_whole : (a n : ℕ) (map : Fields) → get (persistent_book BASE st) a ≡ Some n → is_object_held BASE h a ≡ true → map_held catalog BASE h a ≡ Some map
      → IsHeldAs catalog BASE st.book h a n map
  as_whole a n map named = held_as st.book (whole_fits catalog st settled h done runs) a n map (book_named catalog st settled a n named)

  pub as_persistent : (a n : ℕ) (map : Fields) → get (persistent_book BASE st) a ≡ Some n → is_object_held BASE h a ≡ true → map_held catalog BASE h a ≡ Some map
      → IsHeldAs catalog BASE (persistent_book BASE st) h a n map
  as_persistent = held_as (persistent_book BASE st) runs.fits

  pub read_more : (a n v : ℕ) (map : Fields) (place : Place) → is_object_held BASE h a ≡ true → map_held catalog BASE h a ≡ Some map
      → get (persistent_book BASE st) a ≡ Some n → value_held catalog BASE h a place ≡ Some v
      → Runs catalog st h (done ++ (read_op map n place, answer_of st.book map place v) ∷ [])
  read_more a n v map place object map_is named is =
      stays (read_op map n place) (answer_of st.book map place v)
      (read_step catalog BASE st.book h a n map place (as_whole a n map named object map_is) v is) (read_old map n place)

  pub write_more : (pages : ℕ) (new : Holding) (a n v : ℕ) (map : Fields) (place : Place) → is_object_held BASE h a ≡ true → map_held catalog BASE h a ≡ Some map
      → get (persistent_book BASE st) a ≡ Some n → IsValueFor place v
      → (has_names map place ≡ true → IsKnown (persistent_book BASE st) v × (is_memory_reference BASE pages v ≡ true))
      → value_written catalog BASE h a place v ≡ Some new
      → Runs catalog st new (done ++ (write_op st.book map n place v, 0) ∷ [])
  write_more pages new a n v map place object map_is named value known is =
      changes new (page_in BASE a) (written_change catalog h new a place v is)
      (written_in_place h runs.places catalog BASE a place v new is)
      (sound_value catalog BASE (is_memory_reference BASE st.high_page) h a v place object value refers runs.sound new (Ok tt) is)
      (write_fits catalog BASE (persistent_book BASE st) h a n map place v (as_persistent a n map named object map_is) new (λ names. (known names).0) is)
      (write_op st.book map n place v) 0
      (write_step catalog BASE st.book h a n map place v (as_whole a n map named object map_is) new value is)
      (write_old map n place (answer_of st.book map place v))
    where
      map_there : (o : Option PageImage) → map_by catalog o (word_in BASE a) ≡ Some map → refers_in catalog o (word_in BASE a) place ≡ true → has_names map place ≡ true
      map_there None e r = absurd (is_some_none map e)
      map_there (Some image) e r = sym (ap (λ (o : Option Fields). refers_by o place) e) ∙ r

      refers : IsReferenceFor catalog BASE (is_memory_reference BASE st.high_page) h a place v
      refers r = let k = known (map_there (image_in h (page_in BASE a)) map_is r) in narrow BASE pages st.high_page v k.1 (known_below catalog st settled v k.0)

  pub root_more : (slot a : ℕ) → slot < 16 → root_held h slot ≡ Some a → Runs catalog st h (done ++ (operation.Root slot, name_by st.book a) ∷ []) × IsKnown (persistent_book BASE st) a
  root_more slot a low is = (
    stays (operation.Root slot) (name_by st.book a) (root_read catalog BASE h slot a low is st.book).0 (λ g. tt),
    (root_read catalog BASE h slot a low is (persistent_book BASE st)).1 runs.fits,
  )

  pub set_root_more : (pages : ℕ) (new : Holding) (slot a : ℕ) → slot < 16 → IsKnown (persistent_book BASE st) a → is_memory_reference BASE pages a ≡ true
      → root_written h slot a ≡ Some new → Runs catalog st new (done ++ (operation.SetRoot slot (name_by st.book a), 0) ∷ [])
  set_root_more pages new slot a low known form is =
      let refers : ℕ → Bool = is_memory_reference BASE st.high_page in
      changes new 2 (rooted_change h new slot a is) (rooted_in_place h new slot a runs.places is)
      (rooted_form h new slot a runs.places is low catalog BASE refers runs.sound (narrow BASE pages st.high_page a form (known_below catalog st settled a known)))
      ((root_write h new slot a runs.places is low catalog BASE (persistent_book BASE st) refers runs.sound).1 runs.fits known)
      (operation.SetRoot slot (name_by st.book a)) 0 (root_write h new slot a runs.places is low catalog BASE st.book refers runs.sound).0 (λ g. tt)

pub reads_go_on : ReadsGoOn
reads_go_on catalog st h done a n v map place settled object map_is named is runs = read_more catalog st settled h done runs a n v map place object map_is named is

pub writes_go_on : WritesGoOn
writes_go_on catalog pages st h new done a n v map place settled object map_is named value known is runs =
    write_more catalog st settled h done runs pages new a n v map place object map_is named value known is

pub root_reads_go_on : RootReadsGoOn
root_reads_go_on catalog st h done slot a settled low is runs = root_more catalog st settled h done runs slot a low is

pub root_writes_go_on : RootWritesGoOn
root_writes_go_on catalog pages st h new done slot a settled low known form is runs = set_root_more catalog st settled h done runs pages new slot a low known form is

pub reads_are_known : ReadsAreKnown
reads_are_known catalog st h done a n v map place object map_is named is names runs =
    read_known catalog BASE (persistent_book BASE st) h a n map place
    (record { refers = is_memory_reference BASE st.high_page; form = runs.sound; object = object; map_is = map_is; fits = runs.fits; named = named }) v names is

pub objects_are_there : ObjectsAreThere
objects_are_there catalog st h done a n settled runs named there = of (image_in h (page_in BASE a)) refl there
  where
    of : (o : Option PageImage) → image_in h (page_in BASE a) ≡ o → is_some o ≡ true → begins_in BASE (image_in h (page_in BASE a)) a ≡ true
    of None none e = absurd (cc e)
    of (Some image) is e =
        let object = runs.fits.objects a n image.sheet named (get-left_images h (page_in BASE a) ∙ ap sheet_in is) in
        ap (λ (o : Option PageImage). begins_in BASE o a) is ∙ begins (runs.places.home (page_in BASE a) image is) object.0 object.1
      where
        begins : image.page ≡ page_in BASE a → is_address BASE a ≡ true → is_unmoved image.sheet (word_in BASE a) ≡ true → begins_at BASE image a ≡ true
        begins own address unmoved = grind (arith, own, address, unmoved)
