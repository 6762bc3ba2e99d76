-- A transaction that makes an object in its space, and the space when what was done there is undone.
use Rattle.std.proofs.Common.{◌≡◌, ◌<◌, ◌≤◌, ◌++◌, ◌==◌, ◌||◌, ◌&&◌, ◌∙◌, ◌⊎◌, inl, inr, ℕ, zero, suc, Bool, true, false, nat_lt, List, [], ◌∷◌, length, Option, Some, None, is_some, get_or-set_same, get_or-set_other, slice_index_or, slice_set, refl, sym, ap, subst, arith}
use Rattle.std.proofs.lemmas.Bool.{cases_eq, false≢true, and_from, lt-ltb, le-leb}
use Rattle.std.specs.Prelude.{slice_get, nat_le}
use Rattle.std.specs.Option.{option_or}
use Rattle.std.specs.List.{list_any}
use Rattle.std.specs.Cmp.{nat_cmp_total}
use Rattle.std.specs.Ordering.{nat_cmp}
use Rattle.std.specs.FinMap.{get, insert}
use Rattle.std.specs.FinSet as set
use Rattle.std.specs.FinSet.{contains-union, contains-from_list_nat}
use Rattle.pm3_core.specs.declared.naming.TheConstants.{BASE}
use Rattle.pm3_types.specs.Fields.{Fields}
use Rattle.pm3_types.specs.Layout.{PageImage, Sheet, IsLaid, blank_sheet, address, is_address, is_start, page_in, word_in, size_by, head_of, end_of, placed, placed_on}
use Rattle.pm3_types.specs.PageForm.{HasObjects, is_memory_reference}
use Rattle.pm3_types.specs.Shown.{Book}
use Rattle.pm3_types.proofs.Addressing.{page_in-address, word_in-address, is_address-address}
use Rattle.pm3_graph.specs.declared.operations.Op.{Op}
use Rattle.pm3_graph.specs.declared.operations.Op.TheVariants as operation
use Rattle.pm3_access.specs.Access.{AreSound, HaveForm}
use Rattle.pm3_access.specs.Acts.{IsMakeStep, space_left}
use Rattle.pm3_access.specs.Holding.{Holding, HeldImages, HeldSpaceState, space_now, undone_space}
use Rattle.pm3_access.specs.Making.{IsMade}
use Rattle.pm3_access.proofs.MakeSteps.{make_place}
use Rattle.pm3_access.proofs.MoreNames.{get_here, get_else}
use Rattle.pm3_access.proofs.NewObjects.{blank_laid}
use Rattle.pm3_history.specs.Named.{book_of}
use Rattle.pm3_history.specs.Opens.{Opens}
use Rattle.pm3_history.specs.State.{State}
use Rattle.pm3_history.proofs.Laying.{one_value}
use Rattle.pm3_table.specs.declared.view.Told.{Told}
use Rattle.pm3_table.specs.declared.view.View.{View}
use Rattle.pm3_table.specs.Entries.{makes}
use Rattle.pm3_table.specs.Histories.{some_has}
use Rattle.pm3_table.specs.Holds.{spans_of, is_in}
use Rattle.pm3_table.specs.Telling.{Lawful}
use Rattle.pm3_table.specs.Words.{space_unit}
use Rattle.pm3_txn.specs.DrawnLaws.{HasNoName, HoldingsMake, HoldingsUndo}
use Rattle.pm3_txn.specs.Heaps.{IsBelow}
use Rattle.pm3_txn.specs.Knowing.{is_in_use, state_seen}
use Rattle.pm3_txn.specs.Owners.{WorksOn, MayHoldSpace, IsHolding, KnowsHere, own_use}
use Rattle.pm3_txn.specs.Slots.{pages_of}
use Rattle.pm3_txn.specs.Values.{IsSpaceOf}
use Rattle.pm3_txn.specs.Works.{Works, left_book, is_own_page, is_own_start}
use Rattle.pm3_txn.proofs.Changing.{IsChange}
use Rattle.pm3_txn.proofs.OwnBooks.{with_own}
use Rattle.pm3_txn.proofs.OwnerAnswers.{nil_use, changed_holding}
use Rattle.pm3_txn.proofs.OwnerKnows.{new_names_are_new}
use Rattle.pm3_txn.proofs.OwnerTakes.{pages_in_is}
use Rattle.pm3_txn.proofs.Seeing.{settled_now}
use Rattle.pm3_txn.proofs.WorksMake.{IsPut, put_of, works_make, made_own, made_none}
use Rattle.pm3_txn.proofs.WorksOwn.{own_page_still, own_start_here}

or_first : (a b : Bool) → a ≡ true → (a || b) ≡ true
or_first a b is = ap (λ x. x || b) is

or_second : (a b : Bool) → b ≡ true → (a || b) ≡ true
or_second true b is = refl
or_second false b is = is

nil_memory : (pages : ℕ) → is_memory_reference BASE pages 0 ≡ true
unfolding is_memory_reference
nil_memory pages = refl

-- the address of a word behind the head of a page of the store
reference_to : (pages a page word : ℕ) → a ≡ address BASE page word → 3 ≤ page → page < pages → 2 ≤ word → word < 512 → is_memory_reference BASE pages a ≡ true
unfolding is_memory_reference
reference_to pages a page word at high low begin fits =
    or_second (a == 0) (is_address BASE a && ((nat_le 3 (page_in BASE a) && nat_lt (page_in BASE a) pages) && nat_le 2 (word_in BASE a)))
    (and_from (is_address BASE a) ((nat_le 3 (page_in BASE a) && nat_lt (page_in BASE a) pages) && nat_le 2 (word_in BASE a))
    (ap (is_address BASE) at ∙ is_address-address BASE page word)
    (and_from (nat_le 3 (page_in BASE a) && nat_lt (page_in BASE a) pages) (nat_le 2 (word_in BASE a))
    (and_from (nat_le 3 (page_in BASE a)) (nat_lt (page_in BASE a) pages)
    (ap (nat_le 3) page_is ∙ le-leb 3 page high) (ap (λ (q : ℕ). nat_lt q pages) page_is ∙ lt-ltb page pages low))
    (ap (nat_le 2) word_is ∙ le-leb 2 word begin)))
  where
    page_is : page_in BASE a ≡ page
    page_is = ap (page_in BASE) at ∙ page_in-address BASE page word fits

    word_is : word_in BASE a ≡ word
    word_is = ap (word_in BASE) at ∙ word_in-address BASE page word fits

-- where an object is placed those before it begin still
pub placed_starts : (page : ℕ) (sheet : Sheet) (size head name s : ℕ) → is_start sheet s ≡ true → is_start (placed page sheet size head name) s ≡ true
placed_starts page sheet size head name s is = elim (cases_eq s (end_of sheet)) [
  | inl e ↦ set_true sheet.starts s (end_of sheet) e is
  | inr ne ↦ get_or-set_other sheet.starts (end_of sheet) s true false ne ∙ is
]
  where
    set_true : (starts : List Bool) (s k : ℕ) → s ≡ k → slice_index_or starts s false ≡ true → slice_index_or (slice_set starts k true) s false ≡ true
    set_true starts s k e begins = ap (λ (j : ℕ). slice_index_or (slice_set starts k true) j false) e
        ∙ get_or-set_same starts k true false (in_list starts k (ap (λ (j : ℕ). slice_index_or starts j false) (sym e) ∙ begins))
      where
        in_list : (starts : List Bool) (k : ℕ) → slice_index_or starts k false ≡ true → k < length starts
        in_list [] k begins_ = absurd (false≢true begins_)
        in_list (b ∷ bs) zero begins_ = omega arith
        in_list (b ∷ bs) (suc j) begins_ = (let rest = in_list bs j begins_ in omega (arith, rest))

own_bounds : (told : Told) (v : View) (number : ℕ) (s : Option HeldSpaceState) → MayHoldSpace told v number s → (q : ℕ) → is_some (space_now s q) ≡ true → (3 ≤ q) × (q < told.pages)
own_bounds told v number None held q is = absurd (false≢true is)
own_bounds told v number (Some s) held q is = held.1.within q (held.1.spans q ∙ or_first (is_some (get s.images.left q)) (set.contains s.free q) is)

module _ (told : Told) (v : View) (number : ℕ) (h new : Holding) (ty tail n a : ℕ) (map : Fields) (below : IsBelow told) (lawful : Lawful told v.seen) (holding : IsHolding told v number h)
    (drawn : is_in n v.names ≡ true) (from : told.next_name ≤ n) (unmade : some_has makes v.seen n ≡ false) (unused : HasNoName told h n) (typed : slice_get told.opening.catalog ty ≡ Some map)
    (made : IsMade BASE told.opening.catalog h ty tail n (Some a) new) (step : IsMakeStep told.opening.catalog BASE h ty tail n a new)
    (form : (refers : ℕ → Bool) → refers 0 ≡ true → HaveForm told.opening.catalog refers h → HaveForm told.opening.catalog refers new) where
  pub put : IsPut h new (size_by (slice_get told.opening.catalog ty) tail) (head_of ty tail) n a
  put = put_of told.opening.catalog h.pages h.space new ty tail n a holding.places made

  abbrev now : PageImage
  now = placed_on put.image (size_by (slice_get told.opening.catalog ty) tail) (head_of ty tail) n

  change : IsChange h new put.page
  change = record { image = put.image; now = now; there = put.there; is = put.is; starts = placed_starts put.image.page put.image.sheet (size_by (slice_get told.opening.catalog ty) tail) (head_of ty tail) n }

  new_name : (st : State) → Opens BASE told.pages told.opening st → get (state_seen told v st).graph.records n ≡ None
  new_name st opens = new_names_are_new told v n st below lawful from unmade opens

  sound : (st : State) (done : List (Op × ℕ)) → Works told.opening.catalog told.pages (state_seen told v st) h done → AreSound told.opening.catalog BASE told.pages new
  sound st done works = form (is_memory_reference BASE told.pages) (nil_memory told.pages) works.form

  works_made : WorksOn told v h v new (λ st ops. ops ++ (operation.New n ty tail, 0) ∷ [])
  works_made st opens done works =
      works_make told.opening.catalog told.pages (state_seen told v st) h new done ty tail n a map (settled_now told v.seen st lawful opens) typed (new_name st opens) (unused st opens) made step
      (sound st done works) works

  pub own_book : (st : State) → Opens BASE told.pages told.opening st → book_of BASE (space_left new.space) ≡ insert (book_of BASE (space_left h.space)) a n
  own_book st opens = (let was = holding.works st opens in
      made_own told.opening.catalog told.pages (state_seen told v st) h new was.0 ty tail n a map (settled_now told v.seen st lawful opens) typed (new_name st opens) (unused st opens) made step
      (sound st was.0 was.1) was.1)

  -- there was no object at its address
  pub none_before : (st : State) → Opens BASE told.pages told.opening st → get (left_book (state_seen told v st) h) a ≡ None
  none_before st opens = (let was = holding.works st opens in
      made_none told.opening.catalog told.pages (state_seen told v st) h new was.0 ty tail n a map (settled_now told v.seen st lawful opens) typed (new_name st opens) (unused st opens) made step
      (sound st was.0 was.1) was.1)

  holding_made : IsHolding told v number new
  holding_made = changed_holding told v number h holding new put.page change (make_place told.opening.catalog BASE h new ty tail n (Some a) made holding.places)
      (form (own_use told v h) (nil_use told v h) holding.form)
      (λ st opens b m has. (let was : get (insert (book_of BASE (space_left h.space)) a n) b ≡ Some m = ap (λ (k : Book). get k b) (sym (own_book st opens)) ∙ has in elim (cases_eq b a) [
        | inl e ↦ (let same : n ≡ m = one_value (get (insert (book_of BASE (space_left h.space)) a n) b) n m (get_here (book_of BASE (space_left h.space)) a b n e) was in inr (ap (λ (k : ℕ). is_in k v.names) (sym same) ∙ drawn))
        | inr ne ↦ inl (sym (get_else (book_of BASE (space_left h.space)) a b n ne) ∙ was)
      ]))
      (λ st opens. (let was = holding.works st opens in (was.0 ++ (operation.New n ty tail, 0) ∷ [], works_made st opens was.0 was.1)))

  on_space : is_own_page h put.page ≡ true
  on_space = ap is_some (sym (ap (λ (o : Option PageImage). option_or o (space_now h.space put.page)) put.off) ∙ put.there)

  bounds : (3 ≤ put.page) × (put.page < told.pages)
  bounds = own_bounds told v number h.space holding.space put.page on_space

  home : put.image.page ≡ put.page
  home = holding.places.home put.page put.image put.there

  pub laid : IsLaid told.opening.catalog put.image.sheet
  laid = of ((holding.form put.page put.image put.there).objects (λ e. omega (arith, e, home, bounds.0)))
    where
      of : (put.image.sheet ≡ blank_sheet) ⊎ HasObjects told.opening.catalog (own_use told v h) put.image.page put.image.sheet → IsLaid told.opening.catalog put.image.sheet
      of (inl is) = subst (IsLaid told.opening.catalog) (sym is) (blank_laid told.opening.catalog)
      of (inr objects) = objects.laid

  low : end_of put.image.sheet < 512
  low = (let two : size_by (slice_get told.opening.catalog ty) tail ≡ size_by (Some map) tail = ap (λ (o : Option Fields). size_by o tail) typed in let room = put.room in omega (arith, two, room))

  at : a ≡ address BASE put.page (end_of put.image.sheet)
  at = put.address ∙ ap (λ (q : ℕ). address BASE q (end_of put.image.sheet)) home

  pub own_page : is_own_page new (page_in BASE a) ≡ true
  own_page = ap (is_own_page new) (ap (page_in BASE) at ∙ page_in-address BASE put.page (end_of put.image.sheet) low)
      ∙ subst (λ (x : Holding). is_own_page x put.page ≡ true) put.is (own_page_still h put.page put.image now put.there put.page ∙ on_space)

  -- it begins there
  own_start : is_own_start new a ≡ true
  own_start = subst (λ (x : Holding). is_own_start x a ≡ true) put.is (own_start_here h put.page put.image now put.there put.off a
      (ap (page_in BASE) at ∙ page_in-address BASE put.page (end_of put.image.sheet) low)
      (ap (is_start now.sheet) (ap (word_in BASE) at ∙ word_in-address BASE put.page (end_of put.image.sheet) low)
      ∙ get_or-set_same put.image.sheet.starts (end_of put.image.sheet) true false (let long = laid.starts in omega (arith, low, long))))

  known : KnowsHere told v new a
  known = record {
    usable = or_second (is_in_use told v.seen a) (is_memory_reference BASE told.pages a && is_own_start new a)
        (and_from (is_memory_reference BASE told.pages a) (is_own_start new a)
        (reference_to told.pages a put.page (end_of put.image.sheet) at bounds.0 bounds.1 laid.end.0 low) own_start);
    object = λ st opens. ap is_some (with_own (state_seen told v st) (space_left new.space) a n
        (ap (λ (k : Book). get k a) (own_book st opens) ∙ get_here (book_of BASE (space_left h.space)) a a n refl));
  }

pub holdings_make : HoldingsMake
holdings_make told v number h new ty tail n a map below lawful holding drawn from unmade unused typed made step form = (
  works_made told v number h new ty tail n a map below lawful holding drawn from unmade unused typed made step form,
  holding_made told v number h new ty tail n a map below lawful holding drawn from unmade unused typed made step form,
  known told v number h new ty tail n a map below lawful holding drawn from unmade unused typed made step form,
)

-- the pages drawn since are free once more
in_list : (q : ℕ) (xs : List ℕ) → list_any (λ y. y == q) xs ≡ is_in q xs
in_list q [] = refl
in_list q (x ∷ xs) = ap (λ (t : Bool). (x == q) || t) (in_list q xs)

freed : (s : HeldSpaceState) (room q : ℕ) → set.contains (undone_space s room).free q ≡ (set.contains s.free q || is_in q s.drawn)
freed s room q = contains-union nat_cmp_total s.free (set.from_list {R = nat_cmp} s.drawn) q ∙ ap (λ (t : Bool). set.contains s.free q || t) (contains-from_list_nat s.drawn q ∙ in_list q s.drawn)

either : (a b : Bool) → (a || b) ≡ true → (a ≡ true) ⊎ (b ≡ true)
either true b is = inl refl
either false b is = inr is

none_of : (o : Option PageImage) → is_some o ≡ false → o ≡ None
none_of None e = refl
none_of (Some x) e = absurd (false≢true (sym e))

neither : (a b : Bool) → (a || b) ≡ false → a ≡ false
neither true b is = absurd (false≢true (sym is))
neither false b is = refl

turned : (a b c : Bool) → ((a || b) || c) ≡ (a || (c || b))
turned true b c = refl
turned false true true = refl
turned false true false = refl
turned false false true = refl
turned false false false = refl

undone_by : (told : Told) (v : View) (number : ℕ) (p : HeldImages) (s : HeldSpaceState) (room : ℕ) → IsHolding told v number (record { pages = p; space = Some s })
    → IsSpaceOf told v.seen (space_unit told.pages number) (undone_space s room)
    × ((q : ℕ) → spans_of v.spans (space_unit told.pages number) q ≡ is_in q (pages_of (undone_space s room)))
undone_by told v number p s room holding = (
  record {
    unit = ap (space_unit told.pages) (sym holding.space.0);
    low = holding.space.1.low;
    last = holding.space.1.last;
    sound = holding.space.1.sound;
    free = λ q is. bare q (either (set.contains s.free q) (is_in q s.drawn) (sym (freed s room q) ∙ is));
  },
  λ q. ap (λ (k : ℕ). spans_of v.spans (space_unit told.pages k) q) (sym holding.space.0) ∙ holding.space.1.spans q
      ∙ ap (λ (t : Bool). t || set.contains s.free q) (holding.space.1.drawn q)
      ∙ turned (is_some (get s.images.found q)) (is_in q s.drawn) (set.contains s.free q)
      ∙ ap (λ (t : Bool). is_some (get s.images.found q) || t) (sym (freed s room q))
      ∙ sym (pages_in_is (undone_space s room) q),
)
  where
    bare : (q : ℕ) → (set.contains s.free q ≡ true) ⊎ (is_in q s.drawn ≡ true) → (3 ≤ q) × (q < told.pages) × (get s.images.found q ≡ None)
    bare q (inl is) =
        let bounds = holding.space.1.within q (holding.space.1.spans q ∙ or_second (is_some (get s.images.left q)) (set.contains s.free q) is) in
        (bounds.0, bounds.1, none_of (get s.images.found q) (neither (is_some (get s.images.found q)) (is_in q s.drawn) (sym (holding.space.1.drawn q) ∙ ap is_some (holding.space.1.free q is))))
    bare q (inr is) =
        let there : is_some (get s.images.left q) ≡ true = holding.space.1.drawn q ∙ or_second (is_some (get s.images.found q)) (is_in q s.drawn) is in
        let bounds = holding.space.1.within q (holding.space.1.spans q ∙ or_first (is_some (get s.images.left q)) (set.contains s.free q) there) in
        (bounds.0, bounds.1, holding.space.1.new q is)

pub holdings_undo : HoldingsUndo
holdings_undo told v number h s room holding is =
    undone_by told v number h.pages s room (subst (λ (o : Option HeldSpaceState). IsHolding told v number (record { pages = h.pages; space = o })) is holding)
