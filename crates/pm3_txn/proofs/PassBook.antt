-- The book under which the commit of a transaction with its space is read, before its pass.
use Rattle.std.proofs.Common.{◌≡◌, ◌∙◌, ◌⊎◌, inl, inr, ℕ, true, List, Option, Some, None, is_some, refl, sym, ap, subst}
use Rattle.std.specs.Option.{option_or}
use Rattle.std.specs.FinMap.{get, contains_key}
use Rattle.pm3_core.specs.declared.naming.TheConstants.{BASE}
use Rattle.pm3_types.specs.Fields.{Fields}
use Rattle.pm3_types.specs.Graph.{Part}
use Rattle.pm3_types.specs.Layout.{Sheet, PageImage, page_in}
use Rattle.pm3_types.specs.Shown.{Book, FitsImages, IsOneToOne, shown}
use Rattle.pm3_types.proofs.Books.{shown_from}
use Rattle.pm3_graph.specs.declared.operations.Op.{Op}
use Rattle.pm3_graph.specs.Operation.{IsRun}
use Rattle.pm3_page.specs.PageSheets.{sheet_in, sheets_of}
use Rattle.pm3_page.proofs.SheetsOf.{get-sheets_of}
use Rattle.pm3_access.specs.Acts.{left_images, found_images, left_part, found_part, space_left, space_found}
use Rattle.pm3_access.specs.Holding.{Holding, HeldSpaceState, image_in, space_now}
use Rattle.pm3_access.proofs.HeldSheets.{get-left_images, get-found_images}
use Rattle.pm3_history.specs.Commits.{IsCommitOf}
use Rattle.pm3_history.specs.Homes.{IsHome}
use Rattle.pm3_history.specs.Laid.{laid}
use Rattle.pm3_history.specs.Lawful.{IsFree}
use Rattle.pm3_history.specs.Named.{book_of}
use Rattle.pm3_history.specs.Persistent.{persistent_book}
use Rattle.pm3_history.specs.Spaces.{AreOfSpace}
use Rattle.pm3_history.specs.State.{State}
use Rattle.pm3_history.proofs.Committing.{fits_among}
use Rattle.pm3_history.proofs.Holding.{shown_alike}
use Rattle.pm3_history.proofs.Laying.{some_of, some_none, there_none, none_if, one_value, off_cases, laid_above, laid_below, laid_cases}
use Rattle.pm3_history.proofs.Names.{name_in_graph}
use Rattle.pm3_history.proofs.Replacing.{known_kept, object_shown}
use Rattle.pm3_history.proofs.RunNames.{run_grows}
use Rattle.pm3_txn.specs.PassCommits.{Marks, PassState, HasPassed, all_before, done_with}
use Rattle.pm3_txn.specs.TransactionLaws.{IsSettled}
use Rattle.pm3_txn.specs.Works.{Works, IsLastSpace, IsOwnName, left_book, found_book}
use Rattle.pm3_txn.proofs.Admitting.{home_image, home_named}
use Rattle.pm3_txn.proofs.OwnBooks.{get-space_left, AreOver, own_on, with_own, with_old, with_cases, last_owner, last_whole, booked_own, found_booked, found_known}
use Rattle.pm3_txn.proofs.WorksBegin.{all_new_to}
use Rattle.pm3_txn.proofs.WorksFound.{left_over, found_over, found_fits}
use Rattle.pm3_txn.proofs.WorksOwn.{own_held}

of_space : (st : State) (number : ℕ) (s : Option HeldSpaceState) → is_some s ≡ true → ((t : HeldSpaceState) → s ≡ Some t → t.number ≡ number) → IsLastSpace st s
    → AreOfSpace st number (space_found s)
of_space st number None there is last = absurd (cc there)
of_space st number (Some s) there is last = subst (λ (n : ℕ). AreOfSpace st n (sheets_of s.images.found)) (is s refl) last

sheet_some : (o : Option PageImage) → is_some o ≡ true → is_some (sheet_in o) ≡ true
sheet_some None is = is
sheet_some (Some x) is = refl

or_some : (o u : Option Sheet) → is_some u ≡ true → is_some (option_or o u) ≡ true
or_some None u is = is
or_some (Some x) u is = refl

module _ (catalog : List Fields) (pages : ℕ) (st : State) (settled : IsSettled catalog st) (h : Holding) (ops : List (Op × ℕ)) (works : Works catalog pages st h ops)
    (m : Marks) (p : PassState) (has : HasPassed catalog pages st h m p) where
  abbrev pub own : Book
  own = book_of BASE (space_left h.space)

  abbrev pub whole : Book
  whole = laid own st.book

  -- the space was found with its last images
  pub last : AreOfSpace st p.space (space_found h.space)
  last = of_space st p.space h.space has.held has.number works.space

  over : AreOver st (space_left h.space) (left_images h)
  over = left_over st h works.places (λ q is. (works.homes q is).0)

  homes_found : (q : ℕ) → is_some (get h.pages.found q) ≡ true → IsHome BASE st q
  homes_found q is = (works.homes q (sym (works.held q) ∙ is)).0

  fit : FitsImages catalog BASE (found_book st h) (found_images h)
  fit = found_fits catalog st settled h works.space homes_found works.last

  booked : (a n : ℕ) → get (book_of BASE (space_found h.space)) a ≡ Some n → get st.book a ≡ Some n
  booked = found_booked catalog st settled h.space works.space

  -- no persistent object is on a page of the space as it was found
  not_persistent : (a n : ℕ) → get (book_of BASE (space_found h.space)) a ≡ Some n → get st.owner (page_in BASE a) ≡ None → ⊥
  not_persistent a n mine free =
      let x = some_of (get (space_found h.space) (page_in BASE a)) (own_on (space_found h.space) a n mine) in
      some_none (get st.owner (page_in BASE a)) p.space (last_owner catalog st settled p.space (space_found h.space) last (page_in BASE a) x.0 x.1) free

  -- a page that the space had is one that it has
  pub found_page_left : (q : ℕ) (sheet : Sheet) → get (space_found h.space) q ≡ Some sheet → contains_key (space_left h.space) q ≡ true
  found_page_left q sheet on = of (get h.pages.left q) refl
    where
      there : is_some (get (found_images h) q) ≡ true
      there = ap is_some (get-found_images h q) ∙ or_some (sheet_in (get h.pages.found q)) (get (space_found h.space) q) (ap is_some on)

      of : (o : Option PageImage) → get h.pages.left q ≡ o → contains_key (space_left h.space) q ≡ true
      of (Some image) alone = absurd (some_none (get st.owner q) p.space (last_owner catalog st settled p.space (space_found h.space) last q sheet on)
          (home_image catalog st settled q (works.homes q (ap is_some alone)).0).0)
      of None off = by (space_now h.space q) refl
        where
          by : (o : Option PageImage) → space_now h.space q ≡ o → contains_key (space_left h.space) q ≡ true
          by None none = absurd (there_none (get (found_images h) q) there (works.places.found q (ap (λ (o : Option PageImage). option_or o (space_now h.space q)) off ∙ none)))
          by (Some x) mine = ap is_some (get-space_left h.space q ∙ ap sheet_in mine)

  -- what was found in the space is left there
  pub found_left : (a n : ℕ) → get (book_of BASE (space_found h.space)) a ≡ Some n → get own a ≡ Some n
  found_left a n mine = of (with_cases st (space_left h.space) b.0 n b.1)
    where
      there : is_some (get (found_images h) (page_in BASE a)) ≡ true
      there = ap is_some (get-found_images h (page_in BASE a)) ∙ or_some (sheet_in (get h.pages.found (page_in BASE a))) (get (space_found h.space) (page_in BASE a)) (own_on (space_found h.space) a n mine)

      was : is_some (get (found_part catalog BASE (found_book st h) h).records n) ≡ true
      was = ap is_some (object_shown catalog BASE (found_book st h) (found_images h) a n fit there (with_own st (space_found h.space) a n mine)).2

      is : is_some (get (left_part catalog BASE (left_book st h) h).records n) ≡ true
      is = (run_grows catalog ops (found_part catalog BASE (found_book st h) h) (left_part catalog BASE (left_book st h) h) works.run).kept n was

      b : (x : ℕ) × (get (left_book st h) x ≡ Some n)
      b = (let r = some_of (get (left_part catalog BASE (left_book st h) h).records n) is in
          let from = shown_from catalog BASE (left_book st h) (left_images h) n r.0 r.1 in (from.0, from.1))

      same : (c : ℕ) → get st.book c ≡ Some n → a ≡ c
      same c also = settled.chronicled.fits.one a c n (booked a n mine) also

      of : (get own b.0 ≡ Some n) ⊎ ((get own b.0 ≡ None) × (get (persistent_book BASE st) b.0 ≡ Some n)) → get own a ≡ Some n
      of (inl here) = old (works.old b.0 n here)
        where
          old : (get (book_of BASE (space_found h.space)) b.0 ≡ Some n) ⊎ (get st.graph.records n ≡ None) → get own a ≡ Some n
          old (inl found) = ap (get own) (same b.0 (booked b.0 n found)) ∙ here
          old (inr new) = absurd (let g = name_in_graph catalog BASE st a n settled.chronicled (booked a n mine) in some_none (get st.graph.records n) g.0 g.1 new)
      of (inr (none, old)) =
          absurd (let parts = off_cases BASE st.book st.owner b.0 n old in
          not_persistent a n mine (ap (λ (c : ℕ). get st.owner (page_in BASE c)) (same b.0 parts.1) ∙ parts.0))

  -- what was known on a page of the space is an object of the space
  old_own : (a n : ℕ) → is_some (get (space_left h.space) (page_in BASE a)) ≡ true → get st.book a ≡ Some n → get own a ≡ Some n
  old_own a n mine old = of (has.drawn (page_in BASE a) mine)
    where
      of : (get st.owner (page_in BASE a) ≡ Some p.space) ⊎ IsFree BASE st (page_in BASE a) → get own a ≡ Some n
      of (inl owned) =
          let x = some_of (get (space_found h.space) (page_in BASE a)) (last_whole catalog st settled p.space (space_found h.space) last (page_in BASE a) owned) in
          found_left a n (booked_own catalog st settled p.space (space_found h.space) last a n x.0 x.1 old)
      of (inr free) = absurd (free.empty a n old refl)

  -- an object of the whole book is one of the space, or lies on none of its pages and was known before
  pub whole_cases : (a n : ℕ) → get whole a ≡ Some n → (get own a ≡ Some n) ⊎ ((get (space_left h.space) (page_in BASE a) ≡ None) × (get st.book a ≡ Some n))
  whole_cases a n is = of (laid_cases own st.book a n is)
    where
      of : (get st.book a ≡ Some n) ⊎ ((get st.book a ≡ None) × (get own a ≡ Some n)) → (get own a ≡ Some n) ⊎ ((get (space_left h.space) (page_in BASE a) ≡ None) × (get st.book a ≡ Some n))
      of (inr (none, mine)) = inl mine
      of (inl old) = by (get (space_left h.space) (page_in BASE a)) refl
        where
          by : (o : Option Sheet) → get (space_left h.space) (page_in BASE a) ≡ o → (get own a ≡ Some n) ⊎ ((get (space_left h.space) (page_in BASE a) ≡ None) × (get st.book a ≡ Some n))
          by None off = inr (off, old)
          by (Some sheet) on = inl (old_own a n (ap is_some on) old)

  pub own_whole : (a n : ℕ) → get own a ≡ Some n → get whole a ≡ Some n
  own_whole a n mine = of (get st.book a) refl
    where
      of : (o : Option ℕ) → get st.book a ≡ o → get whole a ≡ Some n
      of None none = laid_below own st.book a none ∙ mine
      of (Some k) old = laid_above own st.book a k old ∙ ap Some (one_value (get own a) k n (old_own a k (own_on (space_left h.space) a n mine) old) mine)

  pub off_own : (a : ℕ) → get (space_left h.space) (page_in BASE a) ≡ None → get own a ≡ None
  off_own a off = none_if (get own a) (λ n mine. there_none (get (space_left h.space) (page_in BASE a)) (own_on (space_left h.space) a n mine) off)

  pub old_whole : (a n : ℕ) → get st.book a ≡ Some n → get whole a ≡ Some n
  old_whole a n old = laid_above own st.book a n old

  -- the book of the transaction is part of it, and has all that it has on images that are held
  left_whole : (a n : ℕ) → get (left_book st h) a ≡ Some n → get whole a ≡ Some n
  left_whole a n is = of (with_cases st (space_left h.space) a n is)
    where
      of : (get own a ≡ Some n) ⊎ ((get own a ≡ None) × (get (persistent_book BASE st) a ≡ Some n)) → get whole a ≡ Some n
      of (inl mine) = own_whole a n mine
      of (inr (none, old)) = old_whole a n (off_cases BASE st.book st.owner a n old).1

  pub whole_left : (a n : ℕ) (sheet : Sheet) → get (left_images h) (page_in BASE a) ≡ Some sheet → get whole a ≡ Some n → get (left_book st h) a ≡ Some n
  whole_left a n sheet on is = of (whole_cases a n is) (over (page_in BASE a) sheet on)
    where
      of : (get own a ≡ Some n) ⊎ ((get (space_left h.space) (page_in BASE a) ≡ None) × (get st.book a ≡ Some n))
          → ((get (space_left h.space) (page_in BASE a) ≡ None) × IsHome BASE st (page_in BASE a)) ⊎ (get (space_left h.space) (page_in BASE a) ≡ Some sheet)
          → get (left_book st h) a ≡ Some n
      of (inl mine) at = with_own st (space_left h.space) a n mine
      of (inr old) (inl home) = with_old st (space_left h.space) a old.0 ∙ home_named catalog st settled a n home.1 old.1
      of (inr old) (inr mine) = absurd (some_none (get (space_left h.space) (page_in BASE a)) sheet mine old.0)

  mixed : (a b n : ℕ) → get own a ≡ Some n → get st.book b ≡ Some n → a ≡ b
  mixed a b n mine old = of (works.old a n mine)
    where
      of : (get (book_of BASE (space_found h.space)) a ≡ Some n) ⊎ (get st.graph.records n ≡ None) → a ≡ b
      of (inl found) = settled.chronicled.fits.one a b n (booked a n found) old
      of (inr new) = absurd (let g = name_in_graph catalog BASE st b n settled.chronicled old in some_none (get st.graph.records n) g.0 g.1 new)

  pub whole_one : IsOneToOne whole
  whole_one a b n is also = of (whole_cases a n is) (whole_cases b n also)
    where
      of : (get own a ≡ Some n) ⊎ ((get (space_left h.space) (page_in BASE a) ≡ None) × (get st.book a ≡ Some n))
          → (get own b ≡ Some n) ⊎ ((get (space_left h.space) (page_in BASE b) ≡ None) × (get st.book b ≡ Some n)) → a ≡ b
      of (inl x) (inl y) = works.fits.one a b n (with_own st (space_left h.space) a n x) (with_own st (space_left h.space) b n y)
      of (inl x) (inr y) = mixed a b n x y.1
      of (inr x) (inl y) = sym (mixed b a n y x.1)
      of (inr x) (inr y) = settled.chronicled.fits.one a b n x.1 y.1

  pub whole_fits : FitsImages catalog BASE whole (left_images h)
  whole_fits = record {
    one = whole_one;
    named = λ a n is. named a n (whole_cases a n is);
    objects = λ a n sheet is on. works.fits.objects a n sheet (whole_left a n sheet on is) on;
    references = λ a n k sheet is on at. known_kept (left_book st h) whole _ (works.fits.references a n k sheet (whole_left a n sheet on is) on at) (λ x some there. left_whole _ x there);
    roots = λ slot sheet low on. known_kept (left_book st h) whole _ (works.fits.roots slot sheet low on) (λ x some there. left_whole _ x there);
  }
    where
      named : (a n : ℕ) → (get own a ≡ Some n) ⊎ ((get (space_left h.space) (page_in BASE a) ≡ None) × (get st.book a ≡ Some n)) → (n ≡ 0 → ⊥)
      named a n (inl mine) = works.fits.named a n (with_own st (space_left h.space) a n mine)
      named a n (inr old) = settled.chronicled.fits.named a n old.1

  -- the operations run from what was found under the book before to what is left under it
  whole_run : IsRun catalog ops (shown catalog BASE st.book (found_images h)) (shown catalog BASE whole (left_images h))
  whole_run =
      let found : shown catalog BASE st.book (found_images h) ≡ shown catalog BASE (found_book st h) (found_images h) =
      shown_alike catalog BASE (found_images h) (found_book st h) st.book fit settled.chronicled.fits.one (found_known catalog st settled h.space works.space) found_back in
      let left : shown catalog BASE whole (left_images h) ≡ shown catalog BASE (left_book st h) (left_images h) =
      shown_alike catalog BASE (left_images h) (left_book st h) whole works.fits whole_one left_whole whole_left in
      subst (λ (x : Part). IsRun catalog ops x (shown catalog BASE whole (left_images h))) (sym found)
      (subst (λ (x : Part). IsRun catalog ops (shown catalog BASE (found_book st h) (found_images h)) x) (sym left) works.run)
    where
      found_back : (a n : ℕ) (sheet : Sheet) → get (found_images h) (page_in BASE a) ≡ Some sheet → get st.book a ≡ Some n → get (found_book st h) a ≡ Some n
      found_back a n sheet on is = of (found_over catalog st settled h works.space homes_found (page_in BASE a) sheet on)
        where
          of : ((get (space_found h.space) (page_in BASE a) ≡ None) × IsHome BASE st (page_in BASE a)) ⊎ (get (space_found h.space) (page_in BASE a) ≡ Some sheet) → get (found_book st h) a ≡ Some n
          of (inl home) = with_old st (space_found h.space) a home.0 ∙ home_named catalog st settled a n home.1 is
          of (inr mine) = with_own st (space_found h.space) a n (booked_own catalog st settled p.space (space_found h.space) last a n sheet mine is)

  -- a changed page is held alone
  pub changed_alone : (q : ℕ) (sheet : Sheet) → get p.changed q ≡ Some sheet → (image : PageImage) × (get h.pages.left q ≡ Some image) × (image.sheet ≡ sheet)
  changed_alone q sheet is = of (get h.pages.left q) refl
    where
      of : (o : Option PageImage) → get h.pages.left q ≡ o → (image : PageImage) × (get h.pages.left q ≡ Some image) × (image.sheet ≡ sheet)
      of None none = absurd (some_none (get (sheets_of h.pages.left) q) sheet (has.changed q sheet is) (get-sheets_of h.pages.left q ∙ ap sheet_in none))
      of (Some image) on = (image, on, one_value (get (sheets_of h.pages.left) q) image.sheet sheet (get-sheets_of h.pages.left q ∙ ap sheet_in on) (has.changed q sheet is))

  pub changed_home : (q : ℕ) (sheet : Sheet) → get p.changed q ≡ Some sheet → IsHome BASE st q × (get (space_left h.space) q ≡ None)
  changed_home q sheet is =
      let x = changed_alone q sheet is in
      ((works.homes q (ap is_some x.1)).0, get-space_left h.space q ∙ ap sheet_in (works.places.apart q (ap is_some x.1)))

  pub own_unchanged : (q : ℕ) → is_some (get (space_left h.space) q) ≡ true → get p.changed q ≡ None
  own_unchanged q is = none_if (get p.changed q) (λ sheet on. there_none (get (space_left h.space) q) is (changed_home q sheet on).1)

  -- its images before the pass are left
  pub before_left : (q : ℕ) (sheet : Sheet) → get (all_before h p) q ≡ Some sheet → get (left_images h) q ≡ Some sheet
  before_left q sheet is = of (laid_cases (space_left h.space) p.changed q sheet is)
    where
      of : (get p.changed q ≡ Some sheet) ⊎ ((get p.changed q ≡ None) × (get (space_left h.space) q ≡ Some sheet)) → get (left_images h) q ≡ Some sheet
      of (inl on) = (let x = changed_alone q sheet on in
          get-left_images h q ∙ ap (λ (o : Option PageImage). sheet_in (option_or o (space_now h.space q))) x.1 ∙ ap Some x.2)
      of (inr (none, on)) = (let x = own_held h works.places q sheet on in get-left_images h q ∙ ap sheet_in x.held ∙ ap Some x.sheet_is)

  pub before_fits : FitsImages catalog BASE whole (all_before h p)
  before_fits = fits_among catalog BASE whole (all_before h p) (left_images h) before_left whole_fits

  pub commit : IsCommitOf catalog BASE st (done_with m h p) ops
  commit = record {
    last = works.last;
    kept = kept;
    read = before_left;
    others = others;
    run = whole_run;
    new = all_new_to (IsOwnName st (space_left h.space)) st.graph (λ n is. is.new) ops works.new;
  }
    where
      kept : (q : ℕ) → is_some (get (found_images h) q) ≡ true → is_some (get (left_images h) q) ≡ true
      kept q is = ap is_some (get-left_images h q) ∙ sheet_some (image_in h q) (held (image_in h q) refl)
        where
          held : (o : Option PageImage) → image_in h q ≡ o → is_some o ≡ true
          held None none = absurd (there_none (get (found_images h) q) is (works.places.found q none))
          held (Some x) on = refl

      others : (q : ℕ) (sheet : Sheet) → get (left_images h) q ≡ Some sheet → (get (found_images h) q ≡ Some sheet) ⊎ (get (all_before h p) q ≡ Some sheet)
      others q sheet is = of (get h.pages.left q) refl
        where
          at : (o : Option PageImage) → get h.pages.left q ≡ o → sheet_in (option_or o (space_now h.space q)) ≡ Some sheet
          at o on = sym (ap (λ (o : Option PageImage). sheet_in (option_or o (space_now h.space q))) on) ∙ sym (get-left_images h q) ∙ is

          of : (o : Option PageImage) → get h.pages.left q ≡ o → (get (found_images h) q ≡ Some sheet) ⊎ (get (all_before h p) q ≡ Some sheet)
          of None none =
              let mine : get (space_left h.space) q ≡ Some sheet = get-space_left h.space q ∙ at None none in
              inr (laid_below (space_left h.space) p.changed q (own_unchanged q (ap is_some mine)) ∙ mine)
          of (Some image) on = by (has.others q image on)
            where
              by : (get h.pages.found q ≡ Some image) ⊎ (get p.changed q ≡ Some image.sheet) → (get (found_images h) q ≡ Some sheet) ⊎ (get (all_before h p) q ≡ Some sheet)
              by (inl was) = inl (get-found_images h q ∙ ap (λ (o : Option PageImage). option_or (sheet_in o) (get (space_found h.space) q)) was ∙ at (Some image) on)
              by (inr new) = inr (laid_above (space_left h.space) p.changed q image.sheet new ∙ at (Some image) on)
