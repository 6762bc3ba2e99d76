-- An object made in the space is one operation more.
use Rattle.std.proofs.Common.{◌≡◌, ◌≢◌, ◌<◌, ◌+◌, ◌++◌, ◌∙◌, ◌⊎◌, ◌||◌, ◌&&◌, inl, inr, ℕ, Bool, true, false, List, [], ◌∷◌, Option, Some, None, is_some, refl, sym, ap, subst, arith, get_or-set_other}
use Rattle.std.proofs.lemmas.Bool.{cases_eq, and_parts, and_from, leb-true}
use Rattle.std.specs.Prelude.{slice_index, slice_get, not, nat_le, ◌==◌}
use Rattle.std.specs.Option.{option_or, option_and_then}
use Rattle.std.specs.Cmp.{nat_cmp_total}
use Rattle.std.specs.FinMap.{get, insert, nat_cmp-IsAntisymmetric, same_map}
use Rattle.pm3_core.specs.declared.naming.TheConstants.{BASE}
use Rattle.pm3_types.specs.Fields.{Fields}
use Rattle.pm3_types.specs.Graph.{Part}
use Rattle.pm3_types.specs.Layout.{Sheet, PageImage, address, page_in, word_in, is_start, is_unmoved, is_forwarded, begins_at, end_of, size_by, head_of, placed_on}
use Rattle.pm3_types.specs.PageForm.{is_memory_reference}
use Rattle.pm3_types.specs.Shown.{Book, Images, FitsImages, shown}
use Rattle.pm3_types.proofs.Addressing.{address_of, page_in-address, word_in-address}
use Rattle.pm3_types.proofs.FormedObjects.{begins}
use Rattle.pm3_types.proofs.Parts.{same_option}
use Rattle.pm3_graph.specs.declared.operations.Op.{Op}
use Rattle.pm3_graph.specs.declared.operations.Op.TheVariants as operation
use Rattle.pm3_graph.specs.Operation.{IsRun, IsStep}
use Rattle.pm3_page.specs.PageSheets.{sheet_in}
use Rattle.pm3_access.specs.Access.{AreSound, HaveForm}
use Rattle.pm3_access.specs.Acts.{AreInPlace, IsNewName, IsMakeStep, left_images, found_images, left_part, found_part, space_left, space_found}
use Rattle.pm3_access.specs.Holding.{Holding, HeldImages, HeldSpaceState, image_in, space_now}
use Rattle.pm3_access.specs.Making.{IsMade, current_in, space_made, next_address, has_room_for}
use Rattle.pm3_access.proofs.Bodies as bodies
use Rattle.pm3_access.proofs.HeldSheets.{changed, changed_by, changed_here, changed_else, get-left_images}
use Rattle.pm3_access.proofs.MakeSteps.{make_place}
use Rattle.pm3_access.proofs.MoreNames.{get_here, get_else}
use Rattle.pm3_access.proofs.SoundingPages.{form_for_more}
use Rattle.pm3_history.specs.Laid.{laid}
use Rattle.pm3_history.specs.Named.{IsNamedOn, book_of}
use Rattle.pm3_history.specs.Persistent.{persistent_book}
use Rattle.pm3_history.specs.State.{State}
use Rattle.pm3_history.proofs.Laying.{some_of, some_none, there_none, one_value, get-laid, laid_none}
use Rattle.pm3_history.proofs.NamedOn.{book_of_named, book_of_has}
use Rattle.pm3_history.proofs.Names.{name_in_graph}
use Rattle.pm3_txn.specs.TransactionLaws.{IsSettled}
use Rattle.pm3_txn.specs.Works.{Works, IsOwnName, left_book, found_book, book_with, is_own_object, may_hold}
use Rattle.pm3_txn.specs.WorkLaws.{WorksMake}
use Rattle.pm3_txn.proofs.Admitting.{book_named}
use Rattle.pm3_txn.proofs.Changing.{changed_found, run_goes_on}
use Rattle.pm3_txn.proofs.OwnBooks.{with_own, with_cases}
use Rattle.pm3_txn.proofs.WorksChange.{all_append}
use Rattle.pm3_txn.proofs.WorksGo.{all_map}
use Rattle.pm3_txn.proofs.WorksOwn.{own_held, held_own, alone_still, found_still, space_found_still, last_still, own_page_still}

-- a page of the space, of which the image has a further object at a word
module _ (h : Holding) (page : ℕ) (image now : PageImage) (there : image_in h page ≡ Some image) (off : get h.pages.left page ≡ None) (w : ℕ)
    (starts : (t : ℕ) → t ≢ w → is_start now.sheet t ≡ is_start image.sheet t) (catalog : List Fields) (refers : ℕ → Bool) (form : HaveForm catalog refers h) (book : Book) (a n : ℕ)
    (at_page : page_in BASE a ≡ page) (at_word : word_in BASE a ≡ w) (is_there : address BASE page w ≡ a)
    (places : AreInPlace h) (places_now : AreInPlace (changed h page now)) (fits : FitsImages catalog BASE (insert book a n) (left_images (changed h page now)))
    (fresh : get book a ≡ None) (into : (b m : ℕ) → get (book_of BASE (space_left h.space)) b ≡ Some m → get book b ≡ Some m) where
  abbrev new : Holding
  new = changed h page now

  none_by : (o : Option PageImage) → (is_some o ≡ true → ⊥) → o ≡ None
  none_by None never = refl
  none_by (Some x) never = absurd (never refl)

  alone_none : (q : ℕ) → get h.pages.left q ≡ None → get new.pages.left q ≡ None
  alone_none q none = none_by (get new.pages.left q) (λ is. there_none (get h.pages.left q) (sym (alone_still h page image now there q) ∙ is) none)

  none_alone : (q : ℕ) → get new.pages.left q ≡ None → get h.pages.left q ≡ None
  none_alone q none = none_by (get h.pages.left q) (λ is. there_none (get new.pages.left q) (alone_still h page image now there q ∙ is) none)

  now_on : get (space_left new.space) page ≡ Some now.sheet
  now_on = held_own new page now (alone_none page off) (changed_here h page image now there)

  later : (q : ℕ) (sheet : Sheet) → get (space_left h.space) q ≡ Some sheet → (x : Sheet) × (get (space_left new.space) q ≡ Some x)
  later q sheet on =
      let own = own_held h places q sheet on in
      elim (cases_eq q page) [
        | inl e ↦ (now.sheet, ap (get (space_left new.space)) e ∙ now_on)
        | inr ne ↦ (own.image.sheet, held_own new q own.image (alone_none q own.off) (changed_else h page now q ne ∙ own.held))
      ]

  shown_there : (q : ℕ) (sheet : Sheet) → get (space_left new.space) q ≡ Some sheet → get (left_images new) q ≡ Some sheet
  shown_there q sheet on = (let own = own_held new places_now q sheet on in get-left_images new q ∙ ap sheet_in own.held ∙ ap Some own.sheet_is)

  named_now : (b m : ℕ) (sheet : Sheet) → get (insert book a n) b ≡ Some m → get (space_left new.space) (page_in BASE b) ≡ Some sheet → get (book_of BASE (space_left new.space)) b ≡ Some m
  named_now b m sheet has on =
      let place = fits.objects b m sheet has (shown_there (page_in BASE b) sheet on) in
      book_of_has BASE (space_left new.space) b m (record { sheet = sheet; on = on; address = place.0; unmoved = place.1; named = place.2 })

  pub made_here : get (book_of BASE (space_left new.space)) a ≡ Some n
  made_here = named_now a n now.sheet (get_here book a a n refl) (ap (get (space_left new.space)) at_page ∙ now_on)

  pub made_kept : (b m : ℕ) → get (book_of BASE (space_left h.space)) b ≡ Some m → get (book_of BASE (space_left new.space)) b ≡ Some m
  made_kept b m has =
      let was = book_of_named BASE (space_left h.space) b m has in
      let is = later (page_in BASE b) was.sheet was.on in
      named_now b m is.0 (get_else book a b n (λ e. some_none (get book b) m (into b m has) (ap (get book) e ∙ fresh)) ∙ into b m has) is.1

  -- an object that begins at another word began there before
  old_here : (b m : ℕ) (x : PageImage) → get (book_of BASE (space_left new.space)) b ≡ Some m → image_in h (page_in BASE b) ≡ Some x → get h.pages.left (page_in BASE b) ≡ None
      → (is : IsNamedOn BASE (space_left new.space) b m) → is_start x.sheet (word_in BASE b) ≡ true → get (book_of BASE (space_left h.space)) b ≡ Some m
  old_here b m x has held bare is start =
      let begun : begins_at BASE x b ≡ true = begins BASE x b is.address (sym (places.home (page_in BASE b) x held)) start in
      let unmoved : is_unmoved x.sheet (word_in BASE b) ≡ true =
      and_from (is_start x.sheet (word_in BASE b)) (not (is_forwarded (slice_index x.sheet.words (word_in BASE b)))) start
      (ap not (bodies.is_unmoved catalog BASE refers x b (form (page_in BASE b) x held) begun)) in
      let old = book_of_has BASE (space_left h.space) b (slice_index x.sheet.words (word_in BASE b + 1))
      (record { sheet = x.sheet; on = held_own h (page_in BASE b) x bare held; address = is.address; unmoved = unmoved; named = refl }) in
      old ∙ ap Some (one_value (get (book_of BASE (space_left new.space)) b) (slice_index x.sheet.words (word_in BASE b + 1)) m
      (made_kept b (slice_index x.sheet.words (word_in BASE b + 1)) old) has)

  pub made_cases : (b m : ℕ) → get (book_of BASE (space_left new.space)) b ≡ Some m → ((b ≡ a) × (m ≡ n)) ⊎ (get (book_of BASE (space_left h.space)) b ≡ Some m)
  made_cases b m has = elim (cases_eq (page_in BASE b) page) [
    | inl e ↦ on_page e
    | inr ne ↦ (let own = own_held new places_now (page_in BASE b) is.sheet is.on in
        let held : image_in h (page_in BASE b) ≡ Some own.image = sym (changed_else h page now (page_in BASE b) ne) ∙ own.held in
        inr (old_here b m own.image has held (none_alone (page_in BASE b) own.off) is (ap (λ (x : Sheet). is_start x (word_in BASE b)) own.sheet_is ∙ begun)))
  ]
    where
      is : IsNamedOn BASE (space_left new.space) b m
      is = book_of_named BASE (space_left new.space) b m has

      begun : is_start is.sheet (word_in BASE b) ≡ true
      begun = (and_parts (is_start is.sheet (word_in BASE b)) (not (is_forwarded (slice_index is.sheet.words (word_in BASE b)))) is.unmoved).0

      on_page : page_in BASE b ≡ page → ((b ≡ a) × (m ≡ n)) ⊎ (get (book_of BASE (space_left h.space)) b ≡ Some m)
      on_page e = elim (cases_eq (word_in BASE b) w) [
        | inl same ↦ (let at : b ≡ a = sym (address_of BASE b is.address) ∙ (λ i. address BASE (e i) (same i)) ∙ is_there in
            inl (at, one_value (get (book_of BASE (space_left new.space)) a) m n (ap (get (book_of BASE (space_left new.space))) (sym at) ∙ has) made_here))
        | inr other ↦ (let sheet_is : is.sheet ≡ now.sheet = one_value (get (space_left new.space) (page_in BASE b)) is.sheet now.sheet is.on (ap (get (space_left new.space)) e ∙ now_on) in
            inr (old_here b m image has (ap (image_in h) e ∙ there) (ap (get h.pages.left) e ∙ off) is
            (sym (starts (word_in BASE b) other) ∙ ap (λ (x : Sheet). is_start x (word_in BASE b)) (sym sheet_is) ∙ begun)))
      ]

-- the object was placed on a page of the space
pub record IsPut (h new : Holding) (size head n a : ℕ) : Type 0 where
  pub page : ℕ
  pub image : PageImage
  pub there : image_in h page ≡ Some image
  pub off : get h.pages.left page ≡ None
  pub is : changed h page (placed_on image size head n) ≡ new
  pub address : a ≡ address BASE image.page (end_of image.sheet)
  pub room : end_of image.sheet + size < 513

put_by : (p : HeldImages) (s : HeldSpaceState) (new : Holding) (size head n a : ℕ) → AreInPlace (record { pages = p; space = Some s }) → (current : Option ℕ) → s.current ≡ current
    → (o : Option PageImage) → option_and_then (get s.images.left) current ≡ o → has_room_for o size ≡ true → a ≡ next_address BASE o
    → new ≡ record { pages = p; space = Some (space_made s current o size head n) } → IsPut (record { pages = p; space = Some s }) new size head n a
put_by p s new size head n a places current current_is None none room at is = absurd (cc room)
put_by p s new size head n a places None current_is (Some image) on room at is = absurd (cc on)
put_by p s new size head n a places (Some page) current_is (Some image) on room at is = record {
  page = page;
  image = image;
  there = ap (λ (o : Option PageImage). option_or o (get s.images.left page)) off ∙ on;
  off = off;
  is = ap (λ (o : Option PageImage). changed_by o (record { pages = p; space = Some s }) page (placed_on image size head n)) off ∙ sym is;
  address = at;
  room = (let low = leb-true (end_of image.sheet + size) 512 (and_parts (not (image.page == 2)) (nat_le (end_of image.sheet + size) 512) room).1 in omega (arith, low));
}
  where
    off : get p.left page ≡ None
    off = none_of (get p.left page) (λ there. some_none (get s.images.left page) image on (places.apart page there))
      where
        none_of : (o : Option PageImage) → (is_some o ≡ true → ⊥) → o ≡ None
        none_of None never = refl
        none_of (Some x) never = absurd (never refl)

pub put_of : (catalog : List Fields) (p : HeldImages) (s : Option HeldSpaceState) (new : Holding) (ty tail n a : ℕ) → AreInPlace (record { pages = p; space = s })
    → IsMade BASE catalog (record { pages = p; space = s }) ty tail n (Some a) new → IsPut (record { pages = p; space = s }) new (size_by (slice_get catalog ty) tail) (head_of ty tail) n a
put_of catalog p None new ty tail n a places made = absurd (cc made.0)
put_of catalog p (Some s) new ty tail n a places made =
    put_by p s new (size_by (slice_get catalog ty) tail) (head_of ty tail) n a places s.current refl (current_in s) refl made.0 made.1 made.2

or_up : (a b c d : Bool) → (c ≡ true → d ≡ true) → (a || (b && c)) ≡ true → (a || (b && d)) ≡ true
or_up true b c d up is = refl
or_up false true c d up is = up is
or_up false false c d up is = is

module _ (catalog : List Fields) (pages : ℕ) (st : State) (h new : Holding) (ops : List (Op × ℕ)) (ty tail n a : ℕ) (map : Fields) (settled : IsSettled catalog st)
    (typed : slice_get catalog ty ≡ Some map) (none : get st.graph.records n ≡ None) (unused : (b : ℕ) → get (book_of BASE (space_left h.space)) b ≡ Some n → ⊥)
    (made : IsMade BASE catalog h ty tail n (Some a) new) (step : IsMakeStep catalog BASE h ty tail n a new) (form_now : AreSound catalog BASE pages new) (works : Works catalog pages st h ops) where
  size : ℕ
  size = size_by (slice_get catalog ty) tail

  put : IsPut h new (size_by (slice_get catalog ty) tail) (head_of ty tail) n a
  put = put_of catalog h.pages h.space new ty tail n a works.places made

  abbrev now : PageImage
  now = placed_on put.image (size_by (slice_get catalog ty) tail) (head_of ty tail) n

  places_now : AreInPlace (changed h put.page now)
  places_now = subst AreInPlace (sym put.is) (make_place catalog BASE h new ty tail n (Some a) made works.places)

  -- no object of its book has the name
  fresh : (b : ℕ) → get (left_book st h) b ≢ Some n
  fresh b has = of (with_cases st (space_left h.space) b n has)
    where
      of : (get (book_of BASE (space_left h.space)) b ≡ Some n) ⊎ ((get (book_of BASE (space_left h.space)) b ≡ None) × (get (persistent_book BASE st) b ≡ Some n)) → ⊥
      of (inl own) = unused b own
      of (inr old) = (let there = name_in_graph catalog BASE st b n settled.chronicled (book_named catalog st settled b n old.1) in some_none (get st.graph.records n) there.0 there.1 none)

  is_new : IsNewName catalog BASE (left_book st h) h n
  is_new = record { refers = is_memory_reference BASE pages; form = works.form; fits = works.fits; fresh = fresh }

  done : IsStep catalog (operation.New n ty tail) (left_part catalog BASE (left_book st h) h) 0 (left_part catalog BASE (insert (left_book st h) a n) new)
      × FitsImages catalog BASE (insert (left_book st h) a n) (left_images new) × (get (left_book st h) a ≡ None)
  done = step (left_book st h) is_new

  own_page : put.image.page ≡ put.page
  own_page = works.places.home put.page put.image put.there

  low : end_of put.image.sheet < 512
  low = (let two : size_by (slice_get catalog ty) tail ≡ size_by (Some map) tail = ap (λ (o : Option Fields). size_by o tail) typed in let room = put.room in omega (arith, two, room))

  at_page : page_in BASE a ≡ put.page
  at_page = ap (page_in BASE) put.address ∙ page_in-address BASE put.image.page (end_of put.image.sheet) low ∙ own_page

  at_word : word_in BASE a ≡ end_of put.image.sheet
  at_word = ap (word_in BASE) put.address ∙ word_in-address BASE put.image.page (end_of put.image.sheet) low

  is_there : address BASE put.page (end_of put.image.sheet) ≡ a
  is_there = ap (λ (q : ℕ). address BASE q (end_of put.image.sheet)) (sym own_page) ∙ sym put.address

  starts : (t : ℕ) → t ≢ end_of put.image.sheet → is_start now.sheet t ≡ is_start put.image.sheet t
  starts t apart = get_or-set_other put.image.sheet.starts (end_of put.image.sheet) t true false apart

  fits_now : FitsImages catalog BASE (insert (left_book st h) a n) (left_images (changed h put.page now))
  fits_now = subst (λ (x : Holding). FitsImages catalog BASE (insert (left_book st h) a n) (left_images x)) (sym put.is) done.1

  own_here : get (book_of BASE (space_left (changed h put.page now).space)) a ≡ Some n
  own_here = made_here h put.page put.image now put.there put.off (end_of put.image.sheet) starts catalog (is_memory_reference BASE pages) works.form (left_book st h) a n
      at_page at_word is_there works.places places_now fits_now done.2 (with_own st (space_left h.space))

  own_kept : (b m : ℕ) → get (book_of BASE (space_left h.space)) b ≡ Some m → get (book_of BASE (space_left (changed h put.page now).space)) b ≡ Some m
  own_kept = made_kept h put.page put.image now put.there put.off (end_of put.image.sheet) starts catalog (is_memory_reference BASE pages) works.form (left_book st h) a n
      at_page at_word is_there works.places places_now fits_now done.2 (with_own st (space_left h.space))

  own_cases : (b m : ℕ) → get (book_of BASE (space_left (changed h put.page now).space)) b ≡ Some m → ((b ≡ a) × (m ≡ n)) ⊎ (get (book_of BASE (space_left h.space)) b ≡ Some m)
  own_cases = made_cases h put.page put.image now put.there put.off (end_of put.image.sheet) starts catalog (is_memory_reference BASE pages) works.form (left_book st h) a n
      at_page at_word is_there works.places places_now fits_now done.2 (with_own st (space_left h.space))

  own_is : book_of BASE (space_left (changed h put.page now).space) ≡ insert (book_of BASE (space_left h.space)) a n
  own_is = same_map nat_cmp_total nat_cmp-IsAntisymmetric (book_of BASE (space_left (changed h put.page now).space)) (insert (book_of BASE (space_left h.space)) a n) (λ b.
      same_option (get (book_of BASE (space_left (changed h put.page now).space)) b) (get (insert (book_of BASE (space_left h.space)) a n) b) (there b) (back b))
    where
      absent : get (book_of BASE (space_left h.space)) a ≡ None
      absent = (laid_none (persistent_book BASE st) (book_of BASE (space_left h.space)) a done.2).0

      there : (b m : ℕ) → get (book_of BASE (space_left (changed h put.page now).space)) b ≡ Some m → get (insert (book_of BASE (space_left h.space)) a n) b ≡ Some m
      there b m has = of (own_cases b m has)
        where
          of : ((b ≡ a) × (m ≡ n)) ⊎ (get (book_of BASE (space_left h.space)) b ≡ Some m) → get (insert (book_of BASE (space_left h.space)) a n) b ≡ Some m
          of (inl same) = get_here (book_of BASE (space_left h.space)) a b n same.0 ∙ ap Some (sym same.1)
          of (inr old) = get_else (book_of BASE (space_left h.space)) a b n (λ e. some_none (get (book_of BASE (space_left h.space)) b) m old (ap (get (book_of BASE (space_left h.space))) e ∙ absent)) ∙ old

      back : (b m : ℕ) → get (insert (book_of BASE (space_left h.space)) a n) b ≡ Some m → get (book_of BASE (space_left (changed h put.page now).space)) b ≡ Some m
      back b m has = elim (cases_eq b a) [
        | inl e ↦ ap (get (book_of BASE (space_left (changed h put.page now).space))) e ∙ own_here ∙ sym (get_here (book_of BASE (space_left h.space)) a b n e) ∙ has
        | inr ne ↦ own_kept b m (sym (get_else (book_of BASE (space_left h.space)) a b n ne) ∙ has)
      ]

  pub made_own : book_of BASE (space_left new.space) ≡ insert (book_of BASE (space_left h.space)) a n
  made_own = subst (λ (x : Holding). book_of BASE (space_left x.space) ≡ insert (book_of BASE (space_left h.space)) a n) put.is own_is

  pub made_none : get (left_book st h) a ≡ None
  made_none = done.2

  -- its book has the object besides
  book : left_book st (changed h put.page now) ≡ insert (left_book st h) a n
  book = ap (laid (persistent_book BASE st)) own_is ∙ same_map nat_cmp_total nat_cmp-IsAntisymmetric
      (laid (persistent_book BASE st) (insert (book_of BASE (space_left h.space)) a n)) (insert (left_book st h) a n)
      (λ b. get-laid (persistent_book BASE st) (insert (book_of BASE (space_left h.space)) a n) b ∙ elim (cases_eq b a) [
        | inl e ↦ ap (λ (o : Option ℕ). option_or o (get (persistent_book BASE st) b)) (get_here (book_of BASE (space_left h.space)) a b n e) ∙ sym (get_here (left_book st h) a b n e)
        | inr ne ↦ ap (λ (o : Option ℕ). option_or o (get (persistent_book BASE st) b)) (get_else (book_of BASE (space_left h.space)) a b n ne)
            ∙ sym (get-laid (persistent_book BASE st) (book_of BASE (space_left h.space)) b) ∙ sym (get_else (left_book st h) a b n ne)
      ])

  same_pages : (changed h put.page now).pages ≡ h.pages
  same_pages = ap (λ (o : Option PageImage). (changed_by o h put.page now).pages) put.off

  pub made_more : Works catalog pages st new (ops ++ (operation.New n ty tail, 0) ∷ [])
  made_more = subst (λ (x : Holding). Works catalog pages st x (ops ++ (operation.New n ty tail, 0) ∷ [])) put.is (record {
    places = places_now;
    form = subst (AreSound catalog BASE pages) (sym put.is) form_now;
    sound = λ q x on. form_for_more catalog (may_hold pages st h) (may_hold pages st (changed h put.page now))
        (λ b. or_up (is_memory_reference BASE st.high_page b) (is_memory_reference BASE pages b) (is_own_object h b) (is_own_object (changed h put.page now) b)
        (λ is. let was = some_of (get (book_of BASE (space_left h.space)) b) is in ap is_some (own_kept b was.0 was.1)))
        x.page x.sheet (works.sound q x (ap (λ (p : HeldImages). image_in (record { pages = p; space = None }) q) (sym same_pages) ∙ on));
    fits = subst (λ (b : Book). FitsImages catalog BASE b (left_images (changed h put.page now))) (sym book) fits_now;
    last = λ q sheet is. works.last q sheet (ap (λ (m : Images). get m q) (sym found) ∙ is);
    held = λ q. ap is_some (found_still h put.page put.image now put.there q) ∙ works.held q ∙ sym (alone_still h put.page put.image now put.there q);
    homes = λ q is. works.homes q (sym (alone_still h put.page put.image now put.there q) ∙ is);
    space = last_still h put.page put.image now put.there st works.space;
    apart = λ b m has. none_still (page_in BASE b) (works.apart b m has);
    old = λ b m has. subst (λ (x : Images). (get (book_of BASE x) b ≡ Some m) ⊎ (get st.graph.records m ≡ None)) (sym (space_found_still h put.page put.image now put.there)) (old b m (own_cases b m has));
    run = subst (λ (x : Part). IsRun catalog (ops ++ (operation.New n ty tail, 0) ∷ []) x (left_part catalog BASE (left_book st (changed h put.page now)) (changed h put.page now))) (sym found_same)
        (subst (λ (b : Book). IsRun catalog (ops ++ (operation.New n ty tail, 0) ∷ []) (found_part catalog BASE (found_book st h) h) (shown catalog BASE b (left_images (changed h put.page now)))) (sym book)
        (run_goes_on catalog ops (operation.New n ty tail) 0 (found_part catalog BASE (found_book st h) h) (left_part catalog BASE (left_book st h) h)
        (left_part catalog BASE (insert (left_book st h) a n) (changed h put.page now)) works.run
        (subst (λ (x : Holding). IsStep catalog (operation.New n ty tail) (left_part catalog BASE (left_book st h) h) 0 (left_part catalog BASE (insert (left_book st h) a n) x)) (sym put.is) done.0)));
    new = all_append (IsOwnName st (space_left (changed h put.page now).space)) ops (operation.New n ty tail) 0
        (all_map (IsOwnName st (space_left h.space)) (IsOwnName st (space_left (changed h put.page now).space))
        (λ m is. record { address = is.address; has = own_kept is.address m is.has; new = is.new }) ops works.new)
        (record { address = a; has = own_here; new = none });
  })
    where
      found : found_images (changed h put.page now) ≡ found_images h
      found = changed_found h put.page put.image now put.there

      found_same : found_part catalog BASE (found_book st (changed h put.page now)) (changed h put.page now) ≡ found_part catalog BASE (found_book st h) h
      found_same = ap (λ (m : Images). shown catalog BASE (book_with st m) (found_images (changed h put.page now))) (space_found_still h put.page put.image now put.there)
          ∙ ap (shown catalog BASE (found_book st h)) found

      none_still : (q : ℕ) → space_now h.space q ≡ None → space_now (changed h put.page now).space q ≡ None
      none_still q bare = by (space_now (changed h put.page now).space q) (own_page_still h put.page put.image now put.there q ∙ ap is_some bare)
        where
          by : (o : Option PageImage) → is_some o ≡ false → o ≡ None
          by None e = refl
          by (Some x) e = absurd (cc e)

      old : (b m : ℕ) → ((b ≡ a) × (m ≡ n)) ⊎ (get (book_of BASE (space_left h.space)) b ≡ Some m) → (get (book_of BASE (space_found h.space)) b ≡ Some m) ⊎ (get st.graph.records m ≡ None)
      old b m (inl same) = inr (ap (get st.graph.records) same.1 ∙ none)
      old b m (inr was) = works.old b m was

pub works_make : WorksMake
works_make catalog pages st h new ops ty tail n a map settled typed none unused made step form works =
    made_more catalog pages st h new ops ty tail n a map settled typed none unused made step form works
