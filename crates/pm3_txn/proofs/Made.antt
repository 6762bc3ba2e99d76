-- A transaction that makes an object, step by step.
use Rattle.std.proofs.Common.{◌≡◌, ◌⊎◌, ◌<◌, ◌≤◌, ◌+◌, ◌++◌, ◌||◌, ◌∙◌, inl, inr, ℕ, zero, suc, Bool, true, false, List, [], ◌∷◌, length, Option, Some, None, is_some, unwrap_or, slice_get, refl, sym, ap, subst, arith}
use Rattle.std.proofs.lemmas.Bool.{false≢true}
use Rattle.std.proofs.lemmas.List.Elements.{All-nil, All-replicate}
use Rattle.std.specs.FinMap.{get, insert}
use Rattle.std.specs.FinSet as set
use Rattle.atomic_table.specs.Seated.{TableId}
use Rattle.pm3_core.specs.declared.naming.TheConstants.{BASE}
use Rattle.pm3_types.specs.Fields.{Fields}
use Rattle.pm3_types.specs.Layout.{page_in, size_by, head_of, placed_on}
use Rattle.pm3_graph.specs.declared.operations.Op.TheVariants as operation
use Rattle.pm3_access.specs.Access.{HaveForm}
use Rattle.pm3_access.specs.Acts.{AreInPlace, IsMakeStep, space_left}
use Rattle.pm3_access.specs.Holding.{Holding, HeldSpaceState, space_now}
use Rattle.pm3_access.specs.Making.{IsMade, current_image, has_room_for}
use Rattle.pm3_access.proofs.MoreNames.{get_here}
use Rattle.pm3_history.specs.Named.{book_of}
use Rattle.pm3_history.specs.Opens.{Opens}
use Rattle.pm3_history.specs.State.{State}
use Rattle.pm3_table.specs.declared.unit.Busy.{Busy}
use Rattle.pm3_table.specs.declared.unit.Unit.TheVariants.{Page}
use Rattle.pm3_table.specs.declared.view.Told.{Told}
use Rattle.pm3_table.specs.Telling.{HasInSpace}
use Rattle.pm3_txn.specs.declared.faults.AccessFault.{AccessFault}
use Rattle.pm3_txn.specs.declared.faults.AccessFault.TheVariants.{NotAReference, Nil, Busy as BusyFault, PageFault, Damaged, NoSuchField, NoSuchTail, Full, Memory}
use Rattle.pm3_txn.specs.Heaps.{IsBelow}
use Rattle.pm3_txn.specs.Knowing.{state_seen}
use Rattle.pm3_txn.specs.Making.{Drew, IsMakeRefusal, IsSpaceRefusal, HasGrownSpace, HasMade, HasNewObject, HasNoRoom, HasNotMade, HasTakenSpace, IsUsableName, MayMake}
use Rattle.pm3_txn.specs.Owners.{WorksOn, HasNamesBelow, IsHolding, MayHoldSpace, KnowsHere, own_use}
use Rattle.pm3_txn.specs.Placing.{IsPlaced, IsRefusedPlace}
use Rattle.pm3_txn.specs.Spaces.{HasDrawnName, HasDrawnPage, HasFree, HasMadeRoom, HasNoFree, HasNone, HasOpenedPage, HasPlacedObject, IsNameRefusal, IsOutOfPages, IsPageShortage, IsShortOfMemory}
use Rattle.pm3_txn.specs.States.{MutatorState, TxnState, told_in, view_in}
use Rattle.pm3_txn.specs.Touching.{Advances, IsSameButHeld, nothing_more}
use Rattle.pm3_txn.specs.Underway.{IsUnderway}
use Rattle.pm3_txn.specs.Works.{left_book, is_own_page, is_own_start}
use Rattle.pm3_txn.proofs.Advancing.{moment, advances_both, goes_still}
use Rattle.pm3_txn.proofs.Changing.{IsChange}
use Rattle.pm3_txn.proofs.Keeping.{FoundSame, Keeps, keeps_made, row_kept}
use Rattle.pm3_txn.proofs.NamesBelow.{names_put}
use Rattle.pm3_txn.proofs.OwnBooks.{with_own}
use Rattle.pm3_txn.proofs.OwnerMakes.{holdings_make, laid, none_before, own_book, own_page, placed_starts, put as put_there}
use Rattle.pm3_txn.proofs.Growing.{still_some}
use Rattle.pm3_txn.proofs.KeepingWrites.{change_found, own_starts}
use Rattle.pm3_txn.proofs.WorksMake.{put_of}

same_both : {R : Type 0} (old mid new : TxnState R) → IsSameButHeld old mid → IsSameButHeld mid new → IsSameButHeld old new
same_both old mid new first second = record {
  heap = second.heap ∙ first.heap;
  tag = second.tag ∙ first.tag;
  table = second.table ∙ first.table;
  space = second.space ∙ first.space;
  refs = second.refs ∙ first.refs;
  wrote = second.wrote ∙ first.wrote;
  words = λ q. second.words q ∙ first.words q;
  stands = λ q. second.stands q ∙ first.stands q;
  marks = λ p. second.marks p ∙ first.marks p;
  row = second.row ∙ first.row;
  mine = second.mine ∙ first.mine;
  faults = second.faults ∙ first.faults;
}

pub space_both : {R : Type 0} (old mid new : TxnState R) → HasGrownSpace old mid → HasGrownSpace mid new → HasGrownSpace old new
space_both old mid new first second = record {
  same = same_both old mid new first.same second.same;
  refusals = second.refusals ∙ first.refusals;
  holds = second.holds ∙ first.holds;
  held = second.held;
  pages = second.pages ∙ first.pages;
  names = λ n is. second.names n (first.names n is);
  goes_on = advances_both old mid new nothing_more nothing_more first.same.heap first.goes_on second.goes_on;
}

pub space_itself : {R : Type 0} (t : TxnState R) → is_some t.held.space ≡ true → HasGrownSpace t t
space_itself t is = record {
  same = record {
    heap = refl;
    tag = refl;
    table = refl;
    space = refl;
    refs = refl;
    wrote = refl;
    words = λ q. refl;
    stands = λ q. refl;
    marks = λ q. refl;
    row = refl;
    mine = refl;
    faults = refl;
  };
  refusals = refl;
  holds = refl;
  held = is;
  pages = refl;
  names = λ n usable. usable;
  goes_on = goes_still (told_in t) (view_in t) (view_in t) t.held refl;
}

-- so many pages more
pub drew_both : {R : Type 0} (old mid new : TxnState R) (names : List ℕ) (b d : ℕ) → Drew old mid names b → Drew mid new [] d → Drew old new names (b + d)
drew_both old mid new names b d first second = record {
  pages_drawn = let one = first.pages_drawn in let two = second.pages_drawn in omega (arith, one, two);
  names_drawn = let one = first.names_drawn in let two = second.names_drawn in omega (arith, one, two);
  names_are = second.names_are ∙ first.names_are;
  noted = second.noted ∙ first.noted;
}

-- nothing
pub drew_none : {R : Type 0} (t : TxnState R) → Drew t t [] 0
drew_none t = record { pages_drawn = omega arith; names_drawn = omega arith; names_are = refl; noted = refl }

none_free : (s : Option HeldSpaceState) → HasFree s → HasNone s → ⊥
none_free None some none = some
none_free (Some s) some none = false≢true (sym (none some.0) ∙ some.1)

-- room was made
module _ {R : Type 0} (old : TxnState R) (there : is_some old.held.space ≡ true) where
  pub room_opened : (new : TxnState R) → HasOpenedPage old new → HasMadeRoom old new
  room_opened new is = record { drawn = 0; grown = is.grown; drew = is.drew; why = inl refl; room = is.room }

  pub room_memory : (new : TxnState R) (fault : AccessFault) → fault ≡ Memory → new ≡ old → IsShortOfMemory old new fault
  room_memory new fault is same = subst (λ (t : TxnState R). IsShortOfMemory old t fault) (sym same)
      (record { drawn = 0; memory = is; grown = space_itself old there; drew = (drew_none old, omega arith) })

  -- no page was free
  module _ (mid : TxnState R) (bare : HasNoFree old mid) where
    pub room_short : (new : TxnState R) (fault : AccessFault) → IsPageShortage mid new fault → (size : ℕ) → IsOutOfPages old new size fault
    room_short new fault short size = by old refl
      where
        by : (t : TxnState R) → t ≡ old → IsOutOfPages old new size fault
        by t _ = (let is : IsPageShortage old new fault = subst (λ (x : TxnState R). IsPageShortage x new fault) bare.same short in record {
          full = is.full;
          grown = is.grown;
          drew = is.drew;
          filled = is.filled;
          none = λ full. record { current = ap (λ o. has_room_for o size) is.current ∙ full; free = is.free bare.none };
        })

    pub room_out : (new : TxnState R) (fault : AccessFault) → IsPageShortage mid new fault ⊎ ((fault ≡ Memory) × (new ≡ mid))
        → ((size : ℕ) → IsOutOfPages old new size fault) ⊎ IsShortOfMemory old new fault
    room_out new fault (inl short) = inl (room_short new fault short)
    room_out new fault (inr none) = inr (room_memory new fault none.0 (none.1 ∙ bare.same))

    -- one was drawn
    module _ (a : TxnState R) (drew : HasDrawnPage mid a) where
      drawn : HasDrawnPage old a
      drawn = subst (λ (x : TxnState R). HasDrawnPage x a) bare.same drew

      pub room_drawn : (new : TxnState R) → HasOpenedPage a new → HasMadeRoom old new
      room_drawn new is = record {
        drawn = 1;
        grown = space_both old a new drawn.grown is.grown;
        drew = drew_both old a new [] 1 0 drawn.drew is.drew;
        why = inr (refl, bare.none);
        room = is.room;
      }

      pub room_never : (new : TxnState R) → HasNoFree a new → ⊥
      room_never new none = none_free a.held.space drawn.free none.none

      pub drawn_memory : (new : TxnState R) (fault : AccessFault) → fault ≡ Memory → new ≡ a → IsShortOfMemory old new fault
      drawn_memory new fault is same = subst (λ (t : TxnState R). IsShortOfMemory old t fault) (sym same)
          (record { drawn = 1; memory = is; grown = drawn.grown; drew = (drawn.drew, omega arith) })

-- an object was placed
module _ {R : Type 0} (old : TxnState R) (type tail size name : ℕ) where
  pub placed_first : (new : TxnState R) (a : ℕ) → is_some old.held.space ≡ true → HasNewObject old new type tail name a → HasPlacedObject old new type tail size name a
  placed_first new a there is = record { ready = old; drawn = 0; grown = space_itself old there; drew = drew_none old; why = inl refl; object = is }

  pub placed_then : (mid a new : TxnState R) (at : ℕ) → mid ≡ old → has_room_for (current_image old.held.space) size ≡ false → HasMadeRoom mid a → HasNewObject a new type tail name at
      → HasPlacedObject old new type tail size name at
  placed_then mid a new at same full room is = (let made : HasMadeRoom old a = subst (λ (t : TxnState R). HasMadeRoom t a) same room in
      record { ready = a; drawn = made.drawn; grown = made.grown; drew = made.drew; why = why made.drawn made.why; object = is })
    where
      why : (drawn : ℕ) → (drawn ≡ 0) ⊎ ((drawn ≡ 1) × HasNone old.held.space) → (drawn ≡ 0) ⊎ ((drawn ≡ 1) × HasNoRoom old size)
      why drawn (inl none) = inl none
      why drawn (inr one) = inr (one.0, record { current = full; free = one.1 })

-- the map of a type of the catalog
there_is : (catalog : List Fields) (type : ℕ) → type < length catalog → (map : Fields) × (slice_get catalog type ≡ Some map)
there_is [] type low = absurd (omega (arith, low))
there_is (map ∷ maps) zero low = (map, refl)
there_is (map ∷ maps) (suc k) low = there_is maps k (omega (arith, low))

-- an image is another once an object was made
made_change : (catalog : List Fields) (h new : Holding) (type tail name a : ℕ) → AreInPlace h → IsMade BASE catalog h type tail name (Some a) new → (page : ℕ) × IsChange h new page
made_change catalog h new type tail name a places made =
    let put = put_of catalog h.pages h.space new type tail name a places made in
    (put.page, record { image = put.image; now = placed_on put.image (size_by (slice_get catalog type) tail) (head_of type tail) name; there = put.there; is = put.is; starts = placed_starts put.image.page put.image.sheet (size_by (slice_get catalog type) tail) (head_of type tail) name })

-- so where an object of the space begins one begins still
more_starts : (catalog : List Fields) (h new : Holding) (type tail name a : ℕ) → AreInPlace h → IsMade BASE catalog h type tail name (Some a) new → (b : ℕ) → is_own_start h b ≡ true → is_own_start new b ≡ true
more_starts catalog h new type tail name a places made =
    let change = made_change catalog h new type tail name a places made in own_starts h new change.0 change.1

-- and the same was found
more_found : (catalog : List Fields) (h new : Holding) (type tail name a : ℕ) → AreInPlace h → IsMade BASE catalog h type tail name (Some a) new → FoundSame h new
more_found catalog h new type tail name a places made =
    let change = made_change catalog h new type tail name a places made in change_found h new change.0 change.1

-- in the space, under a usable name
module _ {R : Type 0} (content : R → Option (List ℕ)) (heap : TableId × Told) (m : MutatorState R) (h new : Holding) (tag type tail name a : ℕ) (was : IsUnderway content (moment heap tag m h))
    (may : MayMake heap.1.opening.catalog type tail) (usable : IsUsableName heap.1 m.pass.1 h name) (noted : name < m.next_name) (there : is_some h.space ≡ true)
    (made : IsMade BASE heap.1.opening.catalog h type tail name (Some a) new) (step : IsMakeStep heap.1.opening.catalog BASE h type tail name a new)
    (form : (refers : ℕ → Bool) → refers 0 ≡ true → HaveForm heap.1.opening.catalog refers h → HaveForm heap.1.opening.catalog refers new) (below : IsBelow heap.1) where
  typed : (map : Fields) × (slice_get heap.1.opening.catalog type ≡ Some map)
  typed = there_is heap.1.opening.catalog type may.there

  make_it : WorksOn heap.1 m.pass.1 h m.pass.1 new (λ st ops. ops ++ (operation.New name type tail, 0) ∷ []) × IsHolding heap.1 m.pass.1 m.space new × KnowsHere heap.1 m.pass.1 new a
  make_it = holdings_make heap.1 m.pass.1 m.space h new type tail name a typed.0 below was.mutator.lawful was.holding usable.drawn usable.from usable.unmade usable.unused typed.1 made step form

  own : is_own_page new (page_in BASE a) ≡ true
  own = own_page heap.1 m.pass.1 m.space h new type tail name a typed.0 below was.mutator.lawful was.holding usable.drawn usable.from usable.unmade usable.unused typed.1 made step form

  books : (st : State) → Opens BASE heap.1.pages heap.1.opening st
      → (get (left_book (state_seen heap.1 m.pass.1 st) h) a ≡ None) × (book_of BASE (space_left new.space) ≡ insert (book_of BASE (space_left h.space)) a name)
  books st opens = (
    none_before heap.1 m.pass.1 m.space h new type tail name a typed.0 below was.mutator.lawful was.holding usable.drawn usable.from usable.unmade usable.unused typed.1 made step form st opens,
    own_book heap.1 m.pass.1 m.space h new type tail name a typed.0 below was.mutator.lawful was.holding usable.drawn usable.from usable.unmade usable.unused typed.1 made step form st opens,
  )

  keeps : Keeps heap.1 m.pass.1 h m.pass.1 new
  keeps = keeps_made heap.1 m.pass.1 h new a name (more_starts heap.1.opening.catalog h new type tail name a was.holding.places made) books
      (more_found heap.1.opening.catalog h new type tail name a was.holding.places made)

  -- it has a name below the next one
  named_below : HasNamesBelow m.next_name new
  named_below = names_put m.next_name h new (size_by (slice_get heap.1.opening.catalog type) tail) (head_of type tail) name a
      (put_there heap.1 m.pass.1 m.space h new type tail name a typed.0 below was.mutator.lawful was.holding usable.drawn usable.from usable.unmade usable.unused typed.1 made step form)
      was.holding.places make_it.1.places heap.1.opening.catalog (own_use heap.1 m.pass.1 h) was.holding.form
      (laid heap.1 m.pass.1 m.space h new type tail name a typed.0 below was.mutator.lawful was.holding usable.drawn usable.from usable.unmade usable.unused typed.1 made step form)
      two noted was.named
    where
      two : 2 ≤ size_by (slice_get heap.1.opening.catalog type) tail
      two = let same : size_by (slice_get heap.1.opening.catalog type) tail ≡ size_by (Some typed.0) tail = ap (λ (o : Option Fields). size_by o tail) typed.1 in omega (arith, same)

  pub made_underway : IsUnderway content (moment heap tag m new)
  made_underway = record {
    mutator = was.mutator;
    known = row_kept heap.1 m.pass.1 m.pass.1 h new keeps m.refs m.wrote (λ q. refl) was.known;
    holding = make_it.1;
    named = named_below;
  }

  pub has_new_object : HasNewObject (moment heap tag m h) (moment heap tag m new) type tail name a
  has_new_object = record {
    rest = refl;
    pages = ap (λ (k : Holding). k.pages) made.2;
    space = ap (λ (k : Holding). is_some k.space) made.2 ∙ still_some _ h.space ∙ there;
    known = make_it.2;
    own = own;
    none = λ st opens. (books st opens).0;
    named = λ st opens. ap (λ (o : Option ℕ). unwrap_or o 0) (with_own (state_seen heap.1 m.pass.1 st) (space_left new.space) a name
        (ap (λ k. get k a) (books st opens).1 ∙ get_here (book_of BASE (space_left h.space)) a a name refl));
    goes_on = record { works = make_it.0; keeps = keeps.objects };
  }

-- it is put at a place, and no one marked its page
module _ {R : Type 0} (old mid named made : TxnState R) (type tail name a : ℕ) (taken : HasTakenSpace old mid) (name_is : HasDrawnName mid named name)
    (placed : HasPlacedObject named made type tail (size_by (slice_get (told_in named).opening.catalog type) tail) name a) where
  pub has_made : (new : TxnState R) (j : ℕ) → IsPlaced made new j a true → HasMade old new type tail j
  has_made new j put = record {
    mid = mid;
    ready = placed.ready;
    made = made;
    name = name;
    address = a;
    drawn = placed.drawn;
    taken = taken;
    grown = space_both mid named placed.ready name_is.grown placed.grown;
    drew = (let same : 0 + placed.drawn ≡ placed.drawn = omega arith in subst (Drew mid placed.ready (name ∷ [])) same (drew_both mid named placed.ready (name ∷ []) 0 placed.drawn name_is.drew placed.drew));
    why = why placed.drawn placed.why;
    fresh = name_is.fresh;
    object = placed.object;
    placed = put;
    goes_on = advances_both old mid new nothing_more (λ st ops. ops ++ (operation.New name type tail, 0) ∷ []) taken.same.heap taken.goes_on
        (advances_both mid placed.ready new nothing_more (λ st ops. ops ++ (operation.New name type tail, 0) ∷ []) (placed.grown.same.heap ∙ name_is.grown.same.heap)
        (space_both mid named placed.ready name_is.grown placed.grown).goes_on
        (advances_both placed.ready made new (λ st ops. ops ++ (operation.New name type tail, 0) ∷ []) nothing_more (ap (λ (t : TxnState R). t.heap) placed.object.rest) placed.object.goes_on put.goes_on));
  }
    where
      room : (heap : TableId × Told) → heap ≡ old.heap → HasNoRoom named (size_by (slice_get heap.1.opening.catalog type) tail) → HasNoRoom mid (size_by (slice_get (told_in old).opening.catalog type) tail)
      room heap same none = (let here : HasNoRoom named (size_by (slice_get (told_in old).opening.catalog type) tail) =
          subst (λ (x : TableId × Told). HasNoRoom named (size_by (slice_get x.1.opening.catalog type) tail)) same none in
          record {
            current = ap (λ (k : Holding). has_room_for (current_image k.space) (size_by (slice_get (told_in old).opening.catalog type) tail)) (sym name_is.held) ∙ here.current;
            free = subst (λ (k : Holding). HasNone k.space) name_is.held here.free;
          })

      why : (drawn : ℕ) → (drawn ≡ 0) ⊎ ((drawn ≡ 1) × HasNoRoom named (size_by (slice_get (told_in named).opening.catalog type) tail))
          → (drawn ≡ 0) ⊎ ((drawn ≡ 1) × HasNoRoom mid (size_by (slice_get (told_in old).opening.catalog type) tail))
      why drawn (inl none) = inl none
      why drawn (inr one) = inr (one.0, room named.heap (name_is.grown.same.heap ∙ taken.same.heap) one.1)

-- nothing was made
module _ {R : Type 0} (old mid new : TxnState R) (size : ℕ) (taken : HasTakenSpace old mid) where
  goes : HasGrownSpace mid new → Advances old new nothing_more
  goes grown = advances_both old mid new nothing_more nothing_more taken.same.heap taken.goes_on grown.goes_on

  -- no name was left
  pub no_name : (fault : AccessFault) → IsNameRefusal mid new fault → IsMakeRefusal old new size fault
  no_name fault is = subst (IsMakeRefusal old new size) (sym is.full) (inl (
    refl,
    refl,
    record { mid = mid; names = []; drawn = 0; taken = taken; grown = is.grown; counted = refl; drew = (is.drew, omega arith); usable = All-nil _; goes_on = goes is.grown },
    is.filled ∙ ap (λ l. 1 ∷ l) taken.drew.2,
  ))

  module _ (named : TxnState R) (name : ℕ) (name_is : HasDrawnName mid named name) where
    not_made : (drawn : ℕ) → HasGrownSpace named new → Drew named new [] drawn → drawn ≤ 1 → HasNotMade old new 1
    not_made drawn grown drew low = (let all = space_both mid named new name_is.grown grown in
        record {
          mid = mid;
          names = name ∷ [];
          drawn = drawn;
          taken = taken;
          grown = all;
          counted = refl;
          drew = (let same : 0 + drawn ≡ drawn = omega arith in subst (Drew mid new (name ∷ [])) same (drew_both mid named new (name ∷ []) 0 drawn name_is.drew drew), low);
          usable = All-replicate (λ n. IsUsableName (told_in new) (view_in new) new.held n) 1 name (grown.names name name_is.usable);
          goes_on = goes all;
        })

    -- no page was left, or there was no memory
    pub no_room : (fault : AccessFault) → (IsOutOfPages named new size fault × HasNoRoom new size) ⊎ IsShortOfMemory named new fault → IsMakeRefusal old new size fault
    no_room fault (inl (out, none)) = subst (IsMakeRefusal old new size) (sym out.full) (inr (
      refl,
      ap (λ (heap : TableId × Told). heap.1.pages) (name_is.grown.same.heap ∙ taken.same.heap),
      not_made 0 out.grown out.drew (omega arith),
      none,
      out.filled ∙ ap (λ l. 0 ∷ l) (name_is.filled ∙ taken.drew.2),
    ))
    no_room fault (inr short) = subst (IsMakeRefusal old new size) (sym short.memory) (inr (not_made short.drawn short.grown short.drew.0 short.drew.1))

-- the space was refused
pub no_space : {R : Type 0} (old new : TxnState R) (size : ℕ) (fault : AccessFault) → IsSpaceRefusal old new fault → IsMakeRefusal old new size fault
no_space old new size (NotAReference index) is = absurd is
no_space old new size (Nil index) is = absurd is
no_space old new size (BusyFault unit word) is = is
no_space old new size PageFault is = absurd is
no_space old new size (Damaged page word) is = absurd is
no_space old new size (NoSuchField ty field) is = absurd is
no_space old new size (NoSuchTail ty at) is = absurd is
no_space old new size (Full what limit) is = absurd is
no_space old new size Memory is = inl is

-- what was made is put at a place, since no one else marked its page
pub never_marked : {R : Type 0} (content : R → Option (List ℕ)) (made new : TxnState R) (j a : ℕ) (busy : Busy) → IsUnderway content made → IsRefusedPlace made new j a busy → is_own_page made.held (page_in BASE a) ≡ true
    → ((page k : ℕ) → busy.unit ≡ Page page → HasInSpace (told_in made) (view_in made) k page → ⊥) → ⊥
unfolding page_in
never_marked content made new j a busy underway refused own other = by made.held.space refl underway.holding.space own
  where
    page : ℕ
    page = refused.marked.page

    at : page_in BASE a ≡ page
    at = (let named = refused.marked.named in omega (arith, named.1, named.2))

    first : (x y : Bool) → x ≡ true → (x || y) ≡ true
    first true y e = refl
    first false y e = absurd (false≢true e)

    by : (s : Option HeldSpaceState) → made.held.space ≡ s → MayHoldSpace (told_in made) (view_in made) made.mutator.space s → is_some (space_now s (page_in BASE a)) ≡ true → ⊥
    by None none held is = false≢true is
    by (Some s) there held is = other page s.number refused.marked.unit (held.1.low, held.1.unit, held.1.spans page ∙ first (is_some (get s.images.left page)) (set.contains s.free page) (ap (λ (q : ℕ). is_some (get s.images.left q)) (sym at) ∙ is))
