-- What a transaction knows of the objects of its book, and of the words of its row, stays known.
use Rattle.std.proofs.Common.{◌≡◌, ◌<◌, ◌++◌, ◌||◌, ◌&&◌, ◌∙◌, inl, inr, ℕ, Bool, true, false, List, Option, Some, None, is_some, unwrap_or, length, get_or, get_or-set_same, get_or-set_other, slice_index_or, refl, sym, ap, subst}
use Rattle.std.proofs.lemmas.Bool.{cases_eq, false≢true}
use Rattle.std.proofs.Math.ListN.{set}
use Rattle.std.specs.Option.{option_or}
use Rattle.std.specs.Ordering.{nat_cmp}
use Rattle.std.specs.FinMap.{get, get-empty, insert}
use Rattle.pm3_core.specs.declared.naming.TheConstants.{BASE}
use Rattle.pm3_core.specs.Machine.{put}
use Rattle.pm3_types.specs.Graph.{PartOf}
use Rattle.pm3_types.specs.Layout.{PageImage, page_in, word_in}
use Rattle.pm3_types.specs.PageForm.{is_memory_reference}
use Rattle.pm3_types.specs.Shown.{Book, shown}
use Rattle.pm3_types.proofs.Parts.{part_of_part}
use Rattle.pm3_graph.specs.declared.operations.Op.{Op}
use Rattle.pm3_page.specs.PageSheets.{sheet_in}
use Rattle.pm3_access.specs.Acts.{found_images, found_part, space_found, space_left}
use Rattle.pm3_access.specs.Holding.{Holding, HeldImages, HeldSpaceState, SpaceState, admitted, space_now, with_held_space, held_space}
use Rattle.pm3_access.proofs.HeldSheets.{get-found_images}
use Rattle.pm3_access.proofs.Homes.{get_same, get_other}
use Rattle.pm3_access.proofs.MoreNames.{get_else}
use Rattle.pm3_history.specs.Entry.{Done}
use Rattle.pm3_history.specs.Laid.{laid}
use Rattle.pm3_history.specs.Named.{book_of}
use Rattle.pm3_history.specs.Opens.{Opens}
use Rattle.pm3_history.specs.Persistent.{persistent_book}
use Rattle.pm3_history.specs.State.{State, now}
use Rattle.pm3_history.proofs.Laying.{some_of, some_none, there_none, get-laid}
use Rattle.pm3_table.specs.declared.view.Told.{Told}
use Rattle.pm3_table.specs.declared.view.View.{View}
use Rattle.pm3_table.specs.Deeds.{word_of}
use Rattle.pm3_table.specs.Telling.{Lawful}
use Rattle.pm3_table.proofs.Put.{put_at, put_else}
use Rattle.pm3_txn.specs.Heaps.{IsBelow}
use Rattle.pm3_txn.specs.Knowing.{KnowsReference, KnowsWord, is_in_use, state_seen}
use Rattle.pm3_txn.specs.OwnerLaws.{GoesFurther}
use Rattle.pm3_txn.specs.Owners.{IsHolding, KeepsObjects, KnowsHere, KnowsWordHere, KnowsPlace, RemembersHere, found_here, name_here}
use Rattle.pm3_txn.specs.OwnStarts.{starts_on}
use Rattle.pm3_txn.specs.Works.{Works, book_with, found_book, left_book, is_own_start}
use Rattle.pm3_txn.proofs.FoundStays.{found_after, found_more, part_same}
use Rattle.pm3_txn.proofs.OwnBooks.{get-space_left, with_old, into}
use Rattle.pm3_txn.proofs.OwnerAnswers.{known_are_here}
use Rattle.pm3_txn.proofs.OwnerGoes.{works_later}
use Rattle.pm3_txn.proofs.Recalling.{same_word}
use Rattle.pm3_txn.proofs.Seeing.{settled_now, lawful_before, lawful_between, now_later, use_later, word_later}

-- the same with the persistent ones by themselves
pub record Keeps (told : Told) (v : View) (h : Holding) (w : View) (g : Holding) : Type 0 where
  pub objects : KeepsObjects told v h w g
  pub word : (a : ℕ) → KnowsWord told v a → KnowsWord told w a

pub knows_on : (told : Told) (v w : View) (h g : Holding) → KeepsObjects told v h w g → (a : ℕ) → KnowsHere told v h a → KnowsHere told w g a
knows_on told v w h g keeps a known = record {
  usable = keeps.usable a known.usable;
  object = λ st opens. (let has = some_of (get (left_book (state_seen told v st) h) a) (known.object st opens) in ap is_some (keeps.objects st opens a has.0 has.1));
}

-- it has the same name
pub name_on : (told : Told) (v w : View) (h g : Holding) → KeepsObjects told v h w g → (a : ℕ) → KnowsHere told v h a → (st : State) → Opens BASE told.pages told.opening st
    → name_here told w g st a ≡ name_here told v h st a
name_on told v w h g keeps a known st opens =
    let has = some_of (get (left_book (state_seen told v st) h) a) (known.object st opens) in
    ap (λ (o : Option ℕ). unwrap_or o 0) (keeps.objects st opens a has.0 has.1 ∙ sym has.1)

pub objects_both : (told : Told) (v w x : View) (h g k : Holding) → KeepsObjects told v h w g → KeepsObjects told w g x k → KeepsObjects told v h x k
objects_both told v w x h g k first second = record {
  usable = λ a is. second.usable a (first.usable a is);
  objects = λ st opens a n has. second.objects st opens a n (first.objects st opens a n has);
  found = λ st opens. part_of_part (found_here told v h st) (found_here told w g st) (found_here told x k st) (first.found st opens) (second.found st opens);
}

pub keeps_both : (told : Told) (v w x : View) (h g k : Holding) → Keeps told v h w g → Keeps told w g x k → Keeps told v h x k
keeps_both told v w x h g k first second = record { objects = objects_both told v w x h g k first.objects second.objects; word = λ a known. second.word a (first.word a known) }

use_up : (x y b c d : Bool) → (x ≡ true → y ≡ true) → (c ≡ true → d ≡ true) → (x || (b && c)) ≡ true → (y || (b && d)) ≡ true
use_up true y b c d up on e = ap (λ (t : Bool). t || (b && d)) (up refl)
use_up false true b c d up on e = refl
use_up false false true c d up on e = on e
use_up false false false c d up on e = e

-- the same was found
pub record FoundSame (h g : Holding) : Type 0 where
  pub images : found_images g ≡ found_images h
  pub space : space_found g.space ≡ space_found h.space

found_same : (told : Told) (v : View) (h g : Holding) (st : State) → FoundSame h g → PartOf (found_here told v h st) (found_here told v g st)
found_same told v h g st same =
    let images = sym same.images in let space = sym same.space in
    part_same (found_here told v h st) (found_here told v g st) (λ i. shown told.opening.catalog BASE (book_with (state_seen told v st) (space i)) (images i))

-- with another holding in which the pages of the space are, and its objects
pub keeps_by : (told : Told) (v : View) (h g : Holding) → ((a : ℕ) → is_own_start h a ≡ true → is_own_start g a ≡ true)
    → ((st : State) → Opens BASE told.pages told.opening st → (a n : ℕ) → get (left_book (state_seen told v st) h) a ≡ Some n → get (left_book (state_seen told v st) g) a ≡ Some n)
    → ((st : State) → Opens BASE told.pages told.opening st → PartOf (found_here told v h st) (found_here told v g st)) → Keeps told v h v g
keeps_by told v h g starts objects found = record {
  objects = record {
    usable = λ a is. use_up (is_in_use told v.seen a) (is_in_use told v.seen a) (is_memory_reference BASE told.pages a) (is_own_start h a) (is_own_start g a) (λ e. e) (starts a) is;
    objects = objects;
    found = found;
  };
  word = λ a known. known;
}

pub keeps_books : (told : Told) (v : View) (h g : Holding) → ((a : ℕ) → is_own_start h a ≡ true → is_own_start g a ≡ true)
    → ((st : State) → Opens BASE told.pages told.opening st → book_of BASE (space_left g.space) ≡ book_of BASE (space_left h.space)) → FoundSame h g → Keeps told v h v g
keeps_books told v h g starts books found = keeps_by told v h g starts
    (λ st opens a n is. ap (λ (b : Book). get (laid (persistent_book BASE (state_seen told v st)) b) a) (books st opens) ∙ is) (λ st opens. found_same told v h g st found)

-- where the view has seen the same
pub keeps_same : (told : Told) (v w : View) (h : Holding) → w.seen ≡ v.seen → Keeps told v h w h
keeps_same told v w h seen = record {
  objects = record {
    usable = λ a is. ap (λ (l : List Done). is_in_use told l a || (is_memory_reference BASE told.pages a && is_own_start h a)) seen ∙ is;
    objects = λ st opens a n is. ap (λ (l : List Done). get (left_book (now told.opening.catalog BASE st l) h) a) seen ∙ is;
    found = λ st opens. part_same (found_here told v h st) (found_here told w h st)
        (ap (λ (l : List Done). found_part told.opening.catalog BASE (found_book (now told.opening.catalog BASE st l) h) h) (sym seen));
  };
  word = λ a known. same_word told v w a seen known;
}

-- and where it went further
module _ (told : Told) (v w : View) (number : ℕ) (h : Holding) (between : List Done) (below : IsBelow told) (far : GoesFurther told v w between) (holding : IsHolding told v number h) where
  all : Lawful told (v.seen ++ between)
  all = subst (Lawful told) far.seen far.lawful

  object_later : (st : State) → Opens BASE told.pages told.opening st → (a n : ℕ) → get (left_book (state_seen told v st) h) a ≡ Some n → get (left_book (state_seen told w st) h) a ≡ Some n
  object_later st opens a n is =
      let was = holding.works st opens in
      let then = works_later told v w number h between below far holding st opens was.0 was.1 in
      let at : state_seen told w st ≡ now told.opening.catalog BASE (state_seen told v st) between = ap (λ (l : List Done). now told.opening.catalog BASE st l) far.seen ∙ now_later told v.seen between st in
      ap (λ (s : State). get (left_book s h) a) at
      ∙ into told.opening.catalog told.pages (state_seen told v st) between (settled_now told v.seen st (lawful_before told v.seen between all) opens)
      (lawful_between told v.seen between st all opens) (space_left h.space)
      (λ b m old. get-space_left h.space (page_in BASE b) ∙ ap sheet_in (then.apart b m (ap (λ (s : State). get (persistent_book BASE s) b) at ∙ old))) a n is

  found_later : (st : State) → Opens BASE told.pages told.opening st → PartOf (found_here told v h st) (found_here told w h st)
  found_later st opens =
      let was = holding.works st opens in
      let then = works_later told v w number h between below far holding st opens was.0 was.1 in
      let at : state_seen told w st ≡ now told.opening.catalog BASE (state_seen told v st) between = ap (λ (l : List Done). now told.opening.catalog BASE st l) far.seen ∙ now_later told v.seen between st in
      let same : found_part told.opening.catalog BASE (found_book (now told.opening.catalog BASE (state_seen told v st) between) h) h ≡ found_here told v h st =
      found_after told.opening.catalog told.pages (state_seen told v st) between h was.0 was.0 (settled_now told v.seen st (lawful_before told v.seen between all) opens)
      (lawful_between told v.seen between st all opens) was.1 (subst (λ (s : State). Works told.opening.catalog told.pages s h was.0) at then) in
      part_same (found_here told v h st) (found_here told w h st) (sym (ap (λ (s : State). found_part told.opening.catalog BASE (found_book s h) h) at ∙ same))

  pub keeps_later : Keeps told v h w h
  keeps_later = record {
    objects = record {
      usable = λ a. use_up (is_in_use told v.seen a) (is_in_use told w.seen a) (is_memory_reference BASE told.pages a) (is_own_start h a) (is_own_start h a)
          (λ is. ap (λ (l : List Done). is_in_use told l a) far.seen ∙ use_later told v.seen between a is) (λ e. e);
      objects = object_later;
      found = found_later;
    };
    word = λ a known. word_later told v w between a far.seen far.lawful known;
  }

-- what was found is part of what is found with further pages
pub found_further : (told : Told) (v : View) (h g : Holding) → Lawful told v.seen
    → ((st : State) → Opens BASE told.pages told.opening st → (ops : List (Op × ℕ)) × Works told.opening.catalog told.pages (state_seen told v st) h ops)
    → ((st : State) → Opens BASE told.pages told.opening st → (ops : List (Op × ℕ)) × Works told.opening.catalog told.pages (state_seen told v st) g ops)
    → ((q : ℕ) → is_some (get (found_images h) q) ≡ true → is_some (get (found_images g) q) ≡ true)
    → (st : State) → Opens BASE told.pages told.opening st → PartOf (found_here told v h st) (found_here told v g st)
found_further told v h g lawful before after pages st opens =
    let b = before st opens in let a = after st opens in
    found_more told.opening.catalog told.pages (state_seen told v st) h g b.0 a.0 (settled_now told v.seen st lawful opens) b.1 a.1 pages

or_further : {A : Type 0} (o a b : Option A) → (is_some a ≡ true → is_some b ≡ true) → is_some (option_or o a) ≡ true → is_some (option_or o b) ≡ true
or_further None a b up is = up is
or_further (Some x) a b up is = refl

none_found : (s : Option HeldSpaceState) → s ≡ None → (q : ℕ) → get (space_found s) q ≡ None
none_found None none q = get-empty nat_cmp q
none_found (Some s) none q = absurd (some_none (Some s) s refl none)

pub spaced_pages : (h : Holding) (space : SpaceState) → h.space ≡ None → (q : ℕ) → is_some (get (found_images h) q) ≡ true → is_some (get (found_images (with_held_space h space)) q) ≡ true
spaced_pages h space none q is =
    ap is_some (get-found_images (with_held_space h space) q)
    ∙ or_further (sheet_in (get h.pages.found q)) (get (space_found h.space) q) (get (space_found (Some (held_space space))) q) (λ on. absurd (there_none (get (space_found h.space) q) on (none_found h.space none q)))
    (sym (ap is_some (get-found_images h q)) ∙ is)

or_first : {A : Type 0} (o p a : Option A) → (is_some o ≡ true → is_some p ≡ true) → is_some (option_or o a) ≡ true → is_some (option_or p a) ≡ true
or_first None None a up is = is
or_first None (Some y) a up is = refl
or_first (Some x) None a up is = absurd (false≢true (up refl))
or_first (Some x) (Some y) a up is = refl

sheet_there : (o : Option PageImage) → is_some (sheet_in o) ≡ is_some o
sheet_there None = refl
sheet_there (Some x) = refl

pub admitted_pages : (h : Holding) (image : PageImage) (q : ℕ) → is_some (get (found_images h) q) ≡ true → is_some (get (found_images (admitted h image)) q) ≡ true
admitted_pages h image q is =
    ap is_some (get-found_images (admitted h image) q)
    ∙ or_first (sheet_in (get h.pages.found q)) (sheet_in (get (insert h.pages.found image.page image) q)) (get (space_found h.space) q)
    (λ on. sheet_there (get (insert h.pages.found image.page image) q) ∙ still (sym (sheet_there (get h.pages.found q)) ∙ on))
    (sym (ap is_some (get-found_images h q)) ∙ is)
  where
    still : is_some (get h.pages.found q) ≡ true → is_some (get (insert h.pages.found image.page image) q) ≡ true
    still on = elim (cases_eq q image.page) [
      | inl e ↦ ap is_some (get_same h.pages.found image.page q image e)
      | inr ne ↦ ap is_some (get_other h.pages.found image.page q image ne) ∙ on
    ]

-- with its space, on which no persistent object is
spaced_keeps : (told : Told) (v : View) (p : HeldImages) (s : Option HeldSpaceState) (space : SpaceState) → s ≡ None
    → ((st : State) → Opens BASE told.pages told.opening st → (a n : ℕ) → get (persistent_book BASE (state_seen told v st)) a ≡ Some n → get space.images (page_in BASE a) ≡ None)
    → ((st : State) → Opens BASE told.pages told.opening st → PartOf (found_here told v (record { pages = p; space = s }) st) (found_here told v (with_held_space (record { pages = p; space = s }) space) st))
    → Keeps told v (record { pages = p; space = s }) v (with_held_space (record { pages = p; space = s }) space)
spaced_keeps told v p (Some s) space none apart found = absurd (some_none (Some s) s refl none)
spaced_keeps told v p None space none apart found = keeps_by told v (record { pages = p; space = None }) (with_held_space (record { pages = p; space = None }) space) (λ q never. absurd (false≢true never))
    (λ st opens a n is. (let old : get (persistent_book BASE (state_seen told v st)) a ≡ Some n = sym (with_old (state_seen told v st) (space_left None) a (get-space_left None (page_in BASE a))) ∙ is in
    with_old (state_seen told v st) (space_left (Some (held_space space))) a (get-space_left (Some (held_space space)) (page_in BASE a) ∙ ap sheet_in (apart st opens a n old)) ∙ old)) found

pub keeps_spaced : (told : Told) (v : View) (number : ℕ) (h : Holding) (space : SpaceState) → h.space ≡ None → Lawful told v.seen
    → ((st : State) → Opens BASE told.pages told.opening st → (ops : List (Op × ℕ)) × Works told.opening.catalog told.pages (state_seen told v st) h ops)
    → IsHolding told v number (with_held_space h space) → Keeps told v h v (with_held_space h space)
keeps_spaced told v number h space none lawful before then =
    spaced_keeps told v h.pages h.space space none (λ st opens a n old. (let is = then.works st opens in is.1.apart a n old))
    (found_further told v h (with_held_space h space) lawful before then.works (spaced_pages h space none))

-- with an object more, at an address where there was none
pub keeps_made : (told : Told) (v : View) (h g : Holding) (a n : ℕ) → ((b : ℕ) → is_own_start h b ≡ true → is_own_start g b ≡ true)
    → ((st : State) → Opens BASE told.pages told.opening st
    → (get (left_book (state_seen told v st) h) a ≡ None) × (book_of BASE (space_left g.space) ≡ insert (book_of BASE (space_left h.space)) a n)) → FoundSame h g → Keeps told v h v g
keeps_made told v h g a n starts books found = keeps_by told v h g starts (λ st opens b m is. (let made = books st opens in
    ap (λ (k : Book). get (laid (persistent_book BASE (state_seen told v st)) k) b) made.1 ∙ of st made.0 b m is)) (λ st opens. found_same told v h g st found)
  where
    of : (st : State) → get (left_book (state_seen told v st) h) a ≡ None → (b m : ℕ) → get (left_book (state_seen told v st) h) b ≡ Some m
        → get (laid (persistent_book BASE (state_seen told v st)) (insert (book_of BASE (space_left h.space)) a n)) b ≡ Some m
    of st none b m is =
        get-laid (persistent_book BASE (state_seen told v st)) (insert (book_of BASE (space_left h.space)) a n) b
        ∙ ap (λ (o : Option ℕ). option_or o (get (persistent_book BASE (state_seen told v st)) b))
        (get_else (book_of BASE (space_left h.space)) a b n (λ e. some_none (get (left_book (state_seen told v st) h) b) m is (ap (get (left_book (state_seen told v st) h)) e ∙ none)))
        ∙ sym (get-laid (persistent_book BASE (state_seen told v st)) (book_of BASE (space_left h.space)) b) ∙ is

-- a known object whose page is not held is a persistent one
off_by : (x b : Bool) → (x || (b && false)) ≡ true → x ≡ true
off_by true b e = refl
off_by false true e = e
off_by false false e = e

pub off_known : (told : Told) (v : View) (h : Holding) (a : ℕ) → space_now h.space (page_in BASE a) ≡ None → KnowsHere told v h a → KnowsReference told v a
off_known told v h a off known = record {
  usable = off_by (is_in_use told v.seen a) (is_memory_reference BASE told.pages a)
      (ap (λ (o : Option PageImage). is_in_use told v.seen a || (is_memory_reference BASE told.pages a && starts_on o (word_in BASE a))) (sym off) ∙ known.usable);
  object = λ st opens. ap is_some (sym (with_old (state_seen told v st) (space_left h.space) a (get-space_left h.space (page_in BASE a) ∙ ap sheet_in off))) ∙ known.object st opens;
}

-- of a transaction without its space all are
pub alone_known : (told : Told) (v : View) (h : Holding) (a : ℕ) → h.space ≡ None → KnowsHere told v h a → KnowsReference told v a
alone_known told v h a alone = off_known told v h a (ap (λ (s : Option HeldSpaceState). space_now s (page_in BASE a)) alone)

-- a word that a place of the row holds is known here
pub word_here : (told : Told) (v : View) (number : ℕ) (h : Holding) (a : ℕ) → IsHolding told v number h → KnowsWord told v a → KnowsWordHere told v h a
word_here told v number h a holding (inl nil) = inl nil
word_here told v number h a holding (inr known) = elim (cases_eq a 0) [
  | inl nil ↦ inl nil
  | inr other ↦ inr (known_are_here told v number h a other holding known)
]

pub place_here : (told : Told) (v : View) (number : ℕ) (h : Holding) (wrote : Bool) (a : ℕ) → IsHolding told v number h → KnowsPlace told v h wrote a → KnowsWordHere told v h a
place_here told v number h wrote a holding (inl word) = word_here told v number h a holding word
place_here told v number h wrote a holding (inr own) = inr own.1

-- what a row remembers stays so
module _ (told : Told) (v w : View) (h g : Holding) (keeps : Keeps told v h w g) where
  place_kept : (wrote : Bool) (a : ℕ) → KnowsPlace told v h wrote a → KnowsPlace told w g wrote a
  place_kept wrote a (inl word) = inl (keeps.word a word)
  place_kept wrote a (inr own) = inr (own.0, knows_on told v w h g keeps.objects a own.1)

  pub row_kept : (refs wrote : List Bool) → ((q : ℕ) → word_of w.log q ≡ word_of v.log q) → RemembersHere told v h refs wrote → RemembersHere told w g refs wrote
  row_kept refs wrote words known q is =
      subst (KnowsPlace told w g (slice_index_or wrote q false)) (sym (words q)) (place_kept (slice_index_or wrote q false) (word_of v.log q) (known q is))

  -- once a place was written under its tag
  pub row_written : (refs wrote : List Bool) (place word : ℕ) (is_ref : Bool) → place < length refs → place < length wrote
      → ((q : ℕ) → word_of w.log q ≡ put (word_of v.log) place word q) → (is_ref ≡ true → KnowsWordHere told v h word)
      → RemembersHere told v h refs wrote → RemembersHere told w g (set refs place is_ref) (set wrote place true)
  row_written refs wrote place word is_ref low low_too words knows known q is = elim (cases_eq q place) [
    | inl here ↦ (let tagged : is_ref ≡ true = sym (ap (λ (k : ℕ). get_or (set refs place is_ref) k false) here ∙ get_or-set_same refs place is_ref false low) ∙ is in
        subst (KnowsPlace told w g (get_or (set wrote place true) q false)) (sym (words q ∙ put_at (word_of v.log) place word q here))
        (of (ap (λ (k : ℕ). get_or (set wrote place true) k false) here ∙ get_or-set_same wrote place true false low_too) (knows tagged)))
    | inr other ↦ (let before : get_or refs q false ≡ true = sym (get_or-set_other refs place q is_ref false other) ∙ is in
        subst (λ (b : Bool). KnowsPlace told w g b (word_of w.log q)) (sym (get_or-set_other wrote place q true false other))
        (subst (KnowsPlace told w g (get_or wrote q false)) (sym (words q ∙ put_else (word_of v.log) place word q other)) (place_kept (get_or wrote q false) (word_of v.log q) (known q before))))
  ]
    where
      of : get_or (set wrote place true) q false ≡ true → KnowsWordHere told v h word → KnowsPlace told w g (get_or (set wrote place true) q false) word
      of noted (inl nil) = inl (inl nil)
      of noted (inr own) = inr (noted, knows_on told v w h g keeps.objects word own)
