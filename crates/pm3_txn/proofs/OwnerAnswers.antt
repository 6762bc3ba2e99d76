-- Each access of a transaction that may hold its space is one operation more, and leaves what its view knows of it.
use Rattle.std.proofs.Common.{◌≡◌, ◌<◌, ◌+◌, ◌||◌, ◌&&◌, ◌∙◌, ◌⊎◌, inl, inr, ℕ, Bool, true, false, List, Option, Some, None, is_some, unwrap_or, Ok, refl, sym, ap, subst}
use Rattle.std.proofs.lemmas.Bool.{cases_eq, false≢true}
use Rattle.std.specs.Prelude.{slice_index}
use Rattle.std.specs.Option.{option_or, option_map}
use Rattle.std.specs.FinMap as map_of
use Rattle.std.specs.FinMap.{get}
use Rattle.std.specs.FinSet as set
use Rattle.pm3_core.specs.declared.naming.TheConstants.{BASE}
use Rattle.pm3_types.specs.Fields.{Fields}
use Rattle.pm3_types.specs.Layout.{PageImage, page_in, word_in}
use Rattle.pm3_types.specs.PageForm.{is_memory_reference}
use Rattle.pm3_types.specs.Shown.{Book, Images, IsKnown}
use Rattle.pm3_graph.specs.declared.operations.Op.{Op}
use Rattle.pm3_access.specs.declared.places.Place.{Place}
use Rattle.pm3_access.specs.Access.{HaveForm, is_object_held, value_held, value_written}
use Rattle.pm3_access.specs.Acts.{AreInPlace, map_by, map_held, space_left, space_found}
use Rattle.pm3_access.specs.Holding.{Holding, HeldSpaceState, image_in, space_now, space_with}
use Rattle.pm3_access.specs.Roots.{root_held, root_written}
use Rattle.pm3_access.specs.Sound.{IsReferenceFor, refers_in, refers_by}
use Rattle.pm3_access.specs.Spots.{IsValueFor, has_names}
use Rattle.pm3_access.proofs.HeldSheets.{changed_by}
use Rattle.pm3_access.proofs.Homes as images_at
use Rattle.pm3_access.proofs.Homes.{is_some_none}
use Rattle.pm3_access.proofs.InPlace.{written_in_place}
use Rattle.pm3_access.proofs.RootCalls.{rooted_form, rooted_in_place}
use Rattle.pm3_access.proofs.SoundingHeld.{sound_value}
use Rattle.pm3_access.proofs.SoundingPages.{form_for_more}
use Rattle.pm3_history.specs.Named.{book_of}
use Rattle.pm3_history.specs.Opens.{Opens}
use Rattle.pm3_history.specs.Persistent.{persistent_book}
use Rattle.pm3_history.specs.State.{State}
use Rattle.pm3_history.proofs.Laying.{some_of, one_value, laid_still}
use Rattle.pm3_table.specs.declared.view.Told.{Told}
use Rattle.pm3_table.specs.declared.view.View.{View}
use Rattle.pm3_table.specs.Holds.{is_in}
use Rattle.pm3_table.specs.Telling.{Lawful}
use Rattle.pm3_txn.specs.Knowing.{is_in_use, state_seen}
use Rattle.pm3_txn.specs.OwnerLaws.{KnownAreHere, HoldingsRead, HoldingsWrite, HoldingsReadRoot, HoldingsWriteRoot}
use Rattle.pm3_txn.specs.Owners.{WorksOn, MayHoldSpace, IsOwnUnit, IsHolding, KnowsHere, KnowsWordHere, own_use, name_here, reads_here, writes_here, root_writes_here}
use Rattle.pm3_txn.specs.Works.{Works, left_book, is_own_start}
use Rattle.pm3_txn.proofs.Answering.{read_refers}
use Rattle.pm3_txn.proofs.Changing.{IsChange, written_change, rooted_change}
use Rattle.pm3_txn.proofs.Seeing.{settled_now, use_form}
use Rattle.pm3_txn.proofs.WorksChange.{works_read, works_write, works_read_root, works_write_root, write_own, rooted}
use Rattle.pm3_txn.proofs.WorksOwn.{alone_still, found_still, space_found_still, own_start_still}

pub known_are_here : KnownAreHere
known_are_here told v number h a some holding known = record {
  usable = ap (λ (x : Bool). x || (is_memory_reference BASE told.pages a && is_own_start h a)) known.usable;
  object = λ st opens. laid_still (persistent_book BASE (state_seen told v st)) (book_of BASE (space_left h.space)) a (known.object st opens);
}

-- what may be a reference here has the form of one of the store
tight : (x y z : Bool) → (x ≡ true → y ≡ true) → (x || (y && z)) ≡ true → y ≡ true
tight true y z up e = up refl
tight false true z up e = refl
tight false false z up e = absurd (false≢true e)

use_up : (x y c d : Bool) → (c ≡ true → d ≡ true) → (x || (y && c)) ≡ true → (x || (y && d)) ≡ true
use_up true y c d up is = refl
use_up false true c d up is = up is
use_up false false c d up is = is

pub own_form : (told : Told) (v : View) (h : Holding) (a : ℕ) → own_use told v h a ≡ true → is_memory_reference BASE told.pages a ≡ true
own_form told v h a = tight (is_in_use told v.seen a) (is_memory_reference BASE told.pages a) (is_own_start h a) (use_form told v.seen a)

pub nil_use : (told : Told) (v : View) (h : Holding) → own_use told v h 0 ≡ true
unfolding is_memory_reference
nil_use told v h = refl

pub word_use : (told : Told) (v : View) (h : Holding) (a : ℕ) → KnowsWordHere told v h a → own_use told v h a ≡ true
word_use told v h a (inl nil) = ap (own_use told v h) nil ∙ nil_use told v h
word_use told v h a (inr known) = known.usable

pub known_word : (told : Told) (v : View) (h : Holding) (st : State) (a : ℕ) → Opens BASE told.pages told.opening st → KnowsWordHere told v h a
    → IsKnown (left_book (state_seen told v st) h) a × (is_memory_reference BASE told.pages a ≡ true)
known_word told v h st a opens (inl nil) = (inl nil, own_form told v h a (ap (own_use told v h) nil ∙ nil_use told v h))
known_word told v h st a opens (inr known) = (inr (known.object st opens), own_form told v h a known.usable)

word_known : (told : Told) (v : View) (h : Holding) (a : ℕ) → own_use told v h a ≡ true → ((st : State) → Opens BASE told.pages told.opening st → IsKnown (left_book (state_seen told v st) h) a) → KnowsWordHere told v h a
word_known told v h a usable known = elim (cases_eq a 0) [
  | inl nil ↦ inl nil
  | inr other ↦ inr (record { usable = usable; object = λ st opens. of (left_book (state_seen told v st) h) other (known st opens) })
]
  where
    of : (b : Book) → (a ≡ 0 → ⊥) → IsKnown b a → is_some (get b a) ≡ true
    of b other (inl nil) = absurd (other nil)
    of b other (inr is) = is

module _ (told : Told) (v : View) (number : ℕ) (h : Holding) (holding : IsHolding told v number h) where
  named : (a : ℕ) (st : State) → Opens BASE told.pages told.opening st → KnowsHere told v h a → get (left_book (state_seen told v st) h) a ≡ Some (name_here told v h st a)
  named a st opens known = (let has = some_of (get (left_book (state_seen told v st) h) a) (known.object st opens) in has.1 ∙ ap (λ (o : Option ℕ). Some (unwrap_or o 0)) (sym has.1))

  module _ (a x : ℕ) (map : Fields) (place : Place) (known : KnowsHere told v h a) (object : is_object_held BASE h a ≡ true) (map_is : map_held told.opening.catalog BASE h a ≡ Some map) where
    read : (is : value_held told.opening.catalog BASE h a place ≡ Some x) → WorksOn told v h v h (reads_here told v h a map place x) × (has_names map place ≡ true → KnowsWordHere told v h x)
    read is = (
      λ st opens done works. (works_read told.opening.catalog told.pages (state_seen told v st) h done a (name_here told v h st a) x map place object map_is (named a st opens known) is works).0,
      λ names. word_known told v h x (read_refers told.opening.catalog (own_use told v h) h a x map place holding.form object map_is names is)
          (λ st opens. (let was = holding.works st opens in
          (works_read told.opening.catalog told.pages (state_seen told v st) h was.0 a (name_here told v h st a) x map place object map_is (named a st opens known) is was.1).1 names)),
    )

  -- what is known goes on where one image is another, and the space has the same objects but for new ones
  module _ (new : Holding) (page : ℕ) (change : IsChange h new page) (places : AreInPlace new) (form : HaveForm told.opening.catalog (own_use told v h) new)
      (own : (st : State) → Opens BASE told.pages told.opening st → (b m : ℕ) → get (book_of BASE (space_left new.space)) b ≡ Some m → (get (book_of BASE (space_left h.space)) b ≡ Some m) ⊎ (is_in m v.names ≡ true))
      (works : (st : State) → Opens BASE told.pages told.opening st → (ops : List (Op × ℕ)) × Works told.opening.catalog told.pages (state_seen told v st) new ops) where
    alone : (q : ℕ) → is_some (get new.pages.left q) ≡ is_some (get h.pages.left q)
    alone q = ap (λ (k : Holding). is_some (get k.pages.left q)) (sym change.is) ∙ alone_still h page change.image change.now change.there q

    unfound : (q : ℕ) → get new.pages.found q ≡ get h.pages.found q
    unfound q = ap (λ (k : Holding). get k.pages.found q) (sym change.is) ∙ found_still h page change.image change.now change.there q

    own_starts : (b : ℕ) → is_own_start h b ≡ true → is_own_start new b ≡ true
    own_starts b is = subst (λ (k : Holding). is_own_start k b ≡ true) change.is (own_start_still h page change.image change.now change.there change.starts b is)

    space_by : (s : Option HeldSpaceState) → space_now s page ≡ Some change.image → MayHoldSpace told v number s → MayHoldSpace told v number (option_map (λ t. space_with t page change.now) s)
    space_by None there held = tt
    space_by (Some s) there held = (
      held.0,
      record {
        low = held.1.low;
        unit = held.1.unit;
        last = held.1.last;
        sound = held.1.sound;
        within = held.1.within;
        spans = λ q. held.1.spans q ∙ ap (λ (b : Bool). b || set.contains s.free q) (sym (same q));
        free = λ q is. none_by (get (map_of.insert s.images.left page change.now) q) (same q ∙ ap is_some (held.1.free q is));
        drawn = λ q. same q ∙ held.1.drawn q;
        new = held.1.new;
        apart = held.1.apart;
      },
    )
      where
        same : (q : ℕ) → is_some (get (map_of.insert s.images.left page change.now) q) ≡ is_some (get s.images.left q)
        same q = elim (cases_eq q page) [
          | inl e ↦ ap is_some (images_at.get_same s.images.left page q change.now e) ∙ sym (ap is_some (ap (get s.images.left) e ∙ there))
          | inr ne ↦ ap is_some (images_at.get_other s.images.left page q change.now ne)
        ]

        none_by : (o : Option PageImage) → is_some o ≡ false → o ≡ None
        none_by None e = refl
        none_by (Some y) e = absurd (false≢true (sym e))

    space : MayHoldSpace told v number new.space
    space = subst (λ (k : Holding). MayHoldSpace told v number k.space) change.is (of (get h.pages.left page) refl)
      where
        of : (o : Option PageImage) → get h.pages.left page ≡ o → MayHoldSpace told v number (changed_by o h page change.now).space
        of None none = space_by h.space (sym (ap (λ (o : Option PageImage). option_or o (space_now h.space page)) none) ∙ change.there) holding.space
        of (Some old) on = holding.space

    only_by : (u : ℕ) → (is_some (get h.pages.left u) ≡ true) ⊎ IsOwnUnit told h.space u → (is_some (get new.pages.left u) ≡ true) ⊎ IsOwnUnit told new.space u
    only_by u (inl is) = inl (alone u ∙ is)
    only_by u (inr own_unit) = inr (subst (λ (k : Holding). IsOwnUnit told k.space u) change.is (of (get h.pages.left page)))
      where
        by : (s : Option HeldSpaceState) → IsOwnUnit told s u → IsOwnUnit told (option_map (λ t. space_with t page change.now) s) u
        by None is = is
        by (Some s) is = is

        of : (o : Option PageImage) → IsOwnUnit told (changed_by o h page change.now).space u
        of None = by h.space own_unit
        of (Some old) = own_unit

    found_space : space_found new.space ≡ space_found h.space
    found_space = ap (λ (k : Holding). space_found k.space) (sym change.is) ∙ space_found_still h page change.image change.now change.there

    names_by : (st : State) → Opens BASE told.pages told.opening st → (b n : ℕ) → (get (book_of BASE (space_left h.space)) b ≡ Some n) ⊎ (is_in n v.names ≡ true)
        → (get (book_of BASE (space_found new.space)) b ≡ Some n) ⊎ (is_in n v.names ≡ true)
    names_by st opens b n (inl was) = subst (λ (m : Images). (get (book_of BASE m) b ≡ Some n) ⊎ (is_in n v.names ≡ true)) (sym found_space) (holding.names st opens b n was)
    names_by st opens b n (inr drawn) = inr drawn

    pub changed_holding : IsHolding told v number new
    changed_holding = record {
      places = places;
      units = λ q is. holding.units q (sym (alone q) ∙ is);
      only = λ u is. only_by u (holding.only u is);
      persistent = λ q is. holding.persistent q (sym (alone q) ∙ is);
      kept = λ q. ap is_some (unfound q) ∙ holding.kept q ∙ sym (alone q);
      found = λ q image is. holding.found q image (sym (unfound q) ∙ is);
      space = space;
      form = λ q image on. form_for_more told.opening.catalog (own_use told v h) (own_use told v new)
          (λ b is. use_up (is_in_use told v.seen b) (is_memory_reference BASE told.pages b) (is_own_start h b) (is_own_start new b) (own_starts b) is) image.page image.sheet (form q image on);
      names = λ st opens b n has. names_by st opens b n (own st opens b n has);
      works = works;
    }

  module _ (lawful : Lawful told v.seen) where
    module _ (new : Holding) (a x : ℕ) (map : Fields) (place : Place) (known : KnowsHere told v h a) (object : is_object_held BASE h a ≡ true) (map_is : map_held told.opening.catalog BASE h a ≡ Some map)
        (value : IsValueFor place x) (word : has_names map place ≡ true → KnowsWordHere told v h x) (is : value_written told.opening.catalog BASE h a place x ≡ Some new) where
      map_there : (o : Option PageImage) → map_by told.opening.catalog o (word_in BASE a) ≡ Some map → refers_in told.opening.catalog o (word_in BASE a) place ≡ true → has_names map place ≡ true
      map_there None e r = absurd (is_some_none map e)
      map_there (Some image) e r = sym (ap (λ (o : Option Fields). refers_by o place) e) ∙ r

      refers : IsReferenceFor told.opening.catalog BASE (own_use told v h) h a place x
      refers r = word_use told v h x (word (map_there (image_in h (page_in BASE a)) map_is r))

      written_on : WorksOn told v h v new (writes_here told v h a map place x)
      written_on st opens done works =
          works_write told.opening.catalog told.pages (state_seen told v st) h new done a (name_here told v h st a) x map place (settled_now told v.seen st lawful opens) object map_is (named a st opens known) value
          (λ names. known_word told v h st x opens (word names)) is works

      pub written_holding : IsHolding told v number new
      written_holding = changed_holding new (page_in BASE a) (written_change told.opening.catalog h new a place x is)
          (written_in_place h holding.places told.opening.catalog BASE a place x new is)
          (sound_value told.opening.catalog BASE (own_use told v h) h a x place object value refers holding.form new (Ok tt) is)
          (λ st opens b m has. (let was = holding.works st opens in
          inl (ap (λ (k : Book). get k b) (sym (write_own told.opening.catalog told.pages (state_seen told v st) h new was.0 (settled_now told v.seen st lawful opens) was.1 a (name_here told v h st a) x map place object map_is (named a st opens known) value
          (λ names. known_word told v h st x opens (word names)) is)) ∙ has)))
          (λ st opens. (let was = holding.works st opens in (writes_here told v h a map place x st was.0, written_on st opens was.0 was.1)))

    module _ (new : Holding) (slot x : ℕ) (low : slot < 16) (word : KnowsWordHere told v h x) (is : root_written h slot x ≡ Some new) where
      rooted_on : WorksOn told v h v new (root_writes_here told v h slot x)
      rooted_on st opens done works =
          let known = known_word told v h st x opens word in
          works_write_root told.opening.catalog told.pages (state_seen told v st) h new done slot x (settled_now told v.seen st lawful opens) low known.0 known.1 is works

      pub rooted_holding : IsHolding told v number new
      rooted_holding = changed_holding new 2 (rooted_change h new slot x is) (rooted_in_place h new slot x holding.places is)
          (rooted_form h new slot x holding.places is low told.opening.catalog BASE (own_use told v h) holding.form (word_use told v h x word))
          (λ st opens b m has. (let was = holding.works st opens in
          let known = known_word told v h st x opens word in
          inl (ap (λ (k : Holding). get (book_of BASE (space_left k.space)) b) (rooted told.opening.catalog told.pages (state_seen told v st) h new was.0 (settled_now told v.seen st lawful opens) was.1 slot x low known.0 known.1 is).2 ∙ has)))
          (λ st opens. (let was = holding.works st opens in (root_writes_here told v h slot x st was.0, rooted_on st opens was.0 was.1)))

  root_word : (slot x : ℕ) → slot < 16 → root_held h slot ≡ Some x → KnowsWordHere told v h x
  root_word slot x low is = word_known told v h x (of (get h.pages.left 2) refl is)
      (λ st opens. (let was = holding.works st opens in (works_read_root told.opening.catalog told.pages (state_seen told v st) h was.0 slot x low is was.1).1))
    where
      of : (o : Option PageImage) → get h.pages.left 2 ≡ o → option_map (λ (image : PageImage). slice_index image.sheet.words (2 + slot)) o ≡ Some x → own_use told v h x ≡ true
      of None none e = absurd (is_some_none x e)
      of (Some image) on e =
          let there : image_in h 2 ≡ Some image = ap (λ (o : Option PageImage). option_or o (space_now h.space 2)) on in
          let roots = (holding.form 2 image there).roots (holding.places.home 2 image there) in
          let value : slice_index image.sheet.words (2 + slot) ≡ x = one_value (Some (slice_index image.sheet.words (2 + slot))) (slice_index image.sheet.words (2 + slot)) x refl e in
          ap (own_use told v h) (sym value) ∙ roots.roots slot low

pub holdings_read : HoldingsRead
holdings_read told v number h a x map place holding known object map_is is = read told v number h holding a x map place known object map_is is

pub holdings_write : HoldingsWrite
holdings_write told v number h new a x map place holding lawful known object map_is value word is = (
  written_on told v number h holding lawful new a x map place known object map_is value word is,
  written_holding told v number h holding lawful new a x map place known object map_is value word is,
)

pub holdings_read_root : HoldingsReadRoot
holdings_read_root told v number h slot x low holding is = (
  λ st opens done works. (works_read_root told.opening.catalog told.pages (state_seen told v st) h done slot x low is works).0,
  root_word told v number h holding slot x low is,
)

pub holdings_write_root : HoldingsWriteRoot
holdings_write_root told v number h new slot x low holding lawful word is = (
  rooted_on told v number h holding lawful new slot x low word is,
  rooted_holding told v number h holding lawful new slot x low word is,
)
