-- A mutator gives back what a transaction held, and clears what it wrote.
use Rattle.std.proofs.Common.{◌≡◌, ◌≢◌, ◌⊎◌, ◌<◌, ◌≤◌, ◌+◌, ◌&&◌, ◌||◌, ◌∙◌, inl, inr, ℕ, Bool, true, false, nat_lt, if◌then◌else◌, List, Option, Some, None, is_some, length, get_or, get_or-set_same, get_or-set_other, slice_index_or, refl, sym, ap, subst, arith}
use Rattle.std.proofs.Math.ListN.{set}
use Rattle.std.proofs.lemmas.Bool.{cases_eq, ltb-true, ltb-false, lt-ltb, le-ltb, false≢true}
use Rattle.std.proofs.lemmas.List.{get_or_past}
use Rattle.std.specs.FinMap as map
use Rattle.std.specs.FinMap.{contains_key}
use Rattle.pm3_core.specs.Machine.{put}
use Rattle.pm3_page.specs.PageMap.{Images}
use Rattle.pm3_access.proofs.Moved.{get_gone, get_left}
use Rattle.pm3_access.specs.Holding.{Holding, HeldSpaceState, SpaceState, IsUndone}
use Rattle.atomic_table.specs.Seated.{TableId}
use Rattle.pm3_table.specs.declared.view.Hold.{Hold}
use Rattle.pm3_table.specs.declared.view.Told.{Told}
use Rattle.pm3_table.specs.declared.view.View.{View}
use Rattle.pm3_table.specs.Deeds.{word_of}
use Rattle.pm3_table.specs.Holds.{holds_of}
use Rattle.pm3_table.specs.Words.{space_unit}
use Rattle.pm3_table.specs.Ops.{gave}
use Rattle.pm3_table.proofs.Put.{put_at, put_else}
use Rattle.pm3_txn.specs.Aborting.{AreAll, AreOwed, HasCleared, HasOnlyGiven, IsSpaceOwed, RemembersUnwritten, was_written}
use Rattle.pm3_txn.specs.Puts.{HasPut}
use Rattle.pm3_txn.specs.States.{MutatorState, TxnState, told_in, view_in}
use Rattle.pm3_txn.specs.Takes.{with_view}
use Rattle.pm3_txn.specs.Underway.{Belongs, IsMutatorOf, IsUnder, IsUnderway}
use Rattle.pm3_txn.specs.Knowing.{KnowsWord}
use Rattle.pm3_txn.specs.Owners.{HoldsSpace, MayHoldSpace, IsOwnUnit, IsHolding, KnowsPlace}
use Rattle.pm3_txn.proofs.OwnerMakes.{holdings_undo}
use Rattle.pm3_txn.proofs.Recalling.{same_word}
use Rattle.pm3_txn.proofs.Taking.{found_held}

-- what a transaction found is owed
pub found_owed : (told : Told) (v : View) (number : ℕ) (h : Holding) → IsHolding told v number h → AreOwed told v h.pages.found
found_owed told v number h holding q image is = ((holding.units q (sym (holding.kept q) ∙ ap is_some is)).0, holding.found q image is)

-- so is its space, undone
pub space_owed : (told : Told) (v : View) (number : ℕ) (h : Holding) (o : Option SpaceState) → IsHolding told v number h → IsUndone h.space o → IsSpaceOwed told v number o
space_owed told v number h o holding undone = by h.space o refl undone
  where
    by : (s : Option HeldSpaceState) (o : Option SpaceState) → h.space ≡ s → IsUndone s o → IsSpaceOwed told v number o
    by s None is undone = tt
    by None (Some t) is undone = absurd undone
    by (Some s) (Some t) is undone =
        let held : (s.number ≡ number) × HoldsSpace told v s = subst (MayHoldSpace told v number) is holding.space in
        let back = holdings_undo told v number h s t.room holding is in
        subst (λ (x : SpaceState). IsSpaceOwed told v number (Some x)) (sym undone.0) (
          ap (λ (n : ℕ). holds_of v.holds (space_unit told.pages n)) (sym held.0) ∙ held.1.unit,
          back.0,
          λ p. sym (back.1 p),
        )

-- and these are all that it holds
pub found_all : (told : Told) (v : View) (number : ℕ) (h : Holding) (o : Option SpaceState) → IsHolding told v number h → IsUndone h.space o → AreAll told v number h.pages.found o
found_all told v number h o holding undone u is = of (holding.only u is)
  where
    by : (s : Option HeldSpaceState) (o : Option SpaceState) → h.space ≡ s → IsUndone s o → IsOwnUnit told s u → (is_some o ≡ true) × (u ≡ space_unit told.pages number)
    by None o at undone own = absurd own
    by (Some s) None at undone own = absurd undone
    by (Some s) (Some t) at undone own =
        let held : (s.number ≡ number) × HoldsSpace told v s = subst (MayHoldSpace told v number) at holding.space in (refl, own ∙ ap (space_unit told.pages) held.0)

    of : (is_some (map.get h.pages.left u) ≡ true) ⊎ IsOwnUnit told h.space u → (is_some (map.get h.pages.found u) ≡ true) ⊎ ((is_some o ≡ true) × (u ≡ space_unit told.pages number))
    of (inl left) = inl (holding.kept u ∙ left)
    of (inr own) = inr (by h.space o refl undone own)

-- the same of a transaction that held pages alone
pub alone_owed : (told : Told) (v : View) (h : Holding) → IsUnder told v h → (images : Images) → images ≡ h.pages.found → AreOwed told v images
alone_owed told v h under images is =
    subst (AreOwed told v) (sym is) (λ q image found. ((under.units q (found_held told v h under q image found)).0, under.found q image found))

pub alone_space : (told : Told) (v : View) (number : ℕ) (h : Holding) → h.space ≡ None → (o : Option SpaceState) → IsUndone h.space o → IsSpaceOwed told v number o
alone_space told v number h alone None undone = tt
alone_space told v number h alone (Some t) undone = absurd (subst (λ (s : Option HeldSpaceState). IsUndone s (Some t)) alone undone)

pub alone_all : (told : Told) (v : View) (number : ℕ) (h : Holding) → IsUnder told v h → (images : Images) (o : Option SpaceState) → images ≡ h.pages.found → AreAll told v number images o
alone_all told v number h under images o is = subst (λ (m : Images). AreAll told v number m o) (sym is) (λ u held. inl (under.kept u (under.only u held)))

-- once one was given back, the others are owed
pub owed_less : (told : Told) (v : View) (images : Images) (page : ℕ) → AreOwed told v images → AreOwed told (gave v page) (map.remove images page)
owed_less told v images page owed q image is = elim (cases_eq q page) [
  | inl e ↦ absurd (false≢true (ap is_some (sym (get_gone images page q e) ∙ is)))
  | inr ne ↦ (let was = owed q image (sym (get_left images page q ne) ∙ is) in (put_else (holds_of v.holds) page false q ne ∙ was.0, was.1))
]

-- a mutator that gave all pages back holds its space alone, or nothing
pub rest_held : (told : Told) (holds : ℕ → Bool) (v : View) (number : ℕ) (images : Images) (space : Option SpaceState) → AreAll told v number images space → ((u : ℕ) → contains_key images u ≡ true → holds u ≡ false)
    → ((u : ℕ) → contains_key images u ≡ false → holds u ≡ holds_of v.holds u) → (u : ℕ) → holds u ≡ true → (is_some space ≡ true) × (u ≡ space_unit told.pages number)
rest_held told holds v number images space all gone others u is = of (contains_key images u) refl
  where
    rest : contains_key images u ≡ false → (contains_key images u ≡ true) ⊎ ((is_some space ≡ true) × (u ≡ space_unit told.pages number)) → (is_some space ≡ true) × (u ≡ space_unit told.pages number)
    rest none (inl there) = absurd (false≢true (sym none ∙ there))
    rest none (inr own) = own

    of : (b : Bool) → contains_key images u ≡ b → (is_some space ≡ true) × (u ≡ space_unit told.pages number)
    of true there = absurd (false≢true (sym (gone u there) ∙ is))
    of false none = rest none (all u (sym (others u none) ∙ is))

-- Of the units of these images, those that are left are held, and all others are as they were.
pub record AreGiving (first now : ℕ → Bool) (all left : Images) : Type 0 where
  pub among : (u : ℕ) → contains_key left u ≡ true → contains_key all u ≡ true
  pub gone : (u : ℕ) → contains_key all u ≡ true → contains_key left u ≡ false → now u ≡ false
  pub others : (u : ℕ) → contains_key all u ≡ false → now u ≡ first u

pub giving_none : (first : ℕ → Bool) (all : Images) → AreGiving first first all all
giving_none first all = record {
  among = λ u is. is;
  gone = λ u is none. absurd (false≢true (sym none ∙ is));
  others = λ u none. refl;
}

pub giving_more : (first : ℕ → Bool) (v : View) (all left rest : Images) (page : ℕ) → contains_key left page ≡ true → rest ≡ map.remove left page → AreGiving first (holds_of v.holds) all left
    → AreGiving first (holds_of (gave v page).holds) all rest
giving_more first v all left rest page there less are = record {
  among = λ u is. elim (cases_eq u page) [
    | inl e ↦ are.among u (ap (contains_key left) e ∙ there)
    | inr ne ↦ are.among u (sym (ap is_some (get_left left page u ne)) ∙ sym (ap (λ (m : Images). contains_key m u) less) ∙ is)
  ];
  gone = λ u is none. elim (cases_eq u page) [
    | inl e ↦ put_at (holds_of v.holds) page false u e
    | inr ne ↦ put_else (holds_of v.holds) page false u ne ∙ are.gone u is (sym (ap is_some (get_left left page u ne)) ∙ sym (ap (λ (m : Images). contains_key m u) less) ∙ none)
  ];
  others = λ u none. elim (cases_eq u page) [
    | inl e ↦ absurd (false≢true (sym none ∙ are.among u (ap (contains_key left) e ∙ there)))
    | inr ne ↦ put_else (holds_of v.holds) page false u ne ∙ are.others u none
  ];
}

-- the places below n of those that were written
abbrev pub written_below : List Bool → ℕ → ℕ → Bool
written_below wrote n q = nat_lt q n && slice_index_or wrote q false

below_none : (wrote : List Bool) (q : ℕ) → written_below wrote 0 q ≡ false
below_none wrote q = of (nat_lt q 0) refl
  where
    of : (b : Bool) → nat_lt q 0 ≡ b → written_below wrote 0 q ≡ false
    of true e = (let low = ltb-true q 0 e in absurd (omega (arith, low)))
    of false e = ap (λ (b : Bool). b && slice_index_or wrote q false) e

below_other : (wrote : List Bool) (n q : ℕ) → q ≢ n → written_below wrote (n + 1) q ≡ written_below wrote n q
below_other wrote n q ne = of (nat_lt q n) refl
  where
    of : (b : Bool) → nat_lt q n ≡ b → written_below wrote (n + 1) q ≡ written_below wrote n q
    of true e = (let low = ltb-true q n e in ap (λ (b : Bool). b && slice_index_or wrote q false) (lt-ltb q (n + 1) (omega (arith, low)) ∙ sym e))
    of false e = (let high = ltb-false q n e in ap (λ (b : Bool). b && slice_index_or wrote q false) (le-ltb q (n + 1) (omega (arith, high, ne)) ∙ sym e))

below_here : (wrote : List Bool) (n q : ℕ) → q ≡ n → written_below wrote (n + 1) q ≡ slice_index_or wrote n false
below_here wrote n q e =
    ap (λ (b : Bool). b && slice_index_or wrote q false) (lt-ltb q (n + 1) (omega (arith, e))) ∙ ap (λ (k : ℕ). slice_index_or wrote k false) e

below_at : (wrote : List Bool) (n q : ℕ) → q ≡ n → written_below wrote n q ≡ false
below_at wrote n q e = ap (λ (b : Bool). b && slice_index_or wrote q false) (le-ltb q n (omega (arith, e)))

below_all : (wrote : List Bool) (n q : ℕ) → length wrote ≡ n → written_below wrote n q ≡ slice_index_or wrote q false
below_all wrote n q long = of (nat_lt q n) refl
  where
    of : (b : Bool) → nat_lt q n ≡ b → written_below wrote n q ≡ slice_index_or wrote q false
    of true e = ap (λ (b : Bool). b && slice_index_or wrote q false) e
    of false e = ap (λ (b : Bool). b && slice_index_or wrote q false) e ∙ sym (get_or_past wrote q false (let high = ltb-false q n e in omega (arith, high, long)))

-- a place that was written is still noted so
pub still_written : (first wrote : List Bool) (n : ℕ) → n < length wrote → slice_index_or wrote n false ≡ true → ((q : ℕ) → slice_index_or wrote q false ≡ slice_index_or first q false)
    → (q : ℕ) → slice_index_or (set wrote n true) q false ≡ slice_index_or first q false
still_written first wrote n low is same q = elim (cases_eq q n) [
  | inl e ↦ ap (λ (k : ℕ). get_or (set wrote n true) k false) e ∙ get_or-set_same wrote n true false low ∙ sym is ∙ ap (λ (k : ℕ). slice_index_or wrote k false) (sym e) ∙ same q
  | inr ne ↦ get_or-set_other wrote n q true false ne ∙ same q
]

-- a list without a page below one and from it on is empty
pub none_left : (images : Images) (from q : ℕ) → ((q : ℕ) → q < from → contains_key images q ≡ false) → ((q : ℕ) → from ≤ q → contains_key images q ≡ false) → contains_key images q ≡ false
none_left images from q below above = of (nat_lt q from) refl
  where
    of : (b : Bool) → nat_lt q from ≡ b → contains_key images q ≡ false
    of true e = below q (ltb-true q from e)
    of false e = above q (ltb-false q from e)

-- and a page that was taken out leaves none before the next
pub none_before : (images : Images) (from page q : ℕ) → ((q : ℕ) → q < from → contains_key images q ≡ false) → ((q : ℕ) → from ≤ q → q < page → contains_key images q ≡ false)
    → q < page + 1 → contains_key (map.remove images page) q ≡ false
none_before images from page q below least low = elim (cases_eq q page) [
  | inl e ↦ ap is_some (get_gone images page q e)
  | inr ne ↦ ap is_some (get_left images page q ne) ∙ of ne (nat_lt q from) refl
]
  where
    of : q ≢ page → (b : Bool) → nat_lt q from ≡ b → contains_key images q ≡ false
    of ne true e = below q (ltb-true q from e)
    of ne false e = least q (ltb-false q from e) (omega (arith, low, ne))

module _ {R : Type 0} where
  -- the same places in other words
  pub cleared_same : (old new : MutatorState R) (f g : ℕ → Bool) → ((q : ℕ) → g q ≡ f q) → HasCleared old new f → HasCleared old new g
  cleared_same old new f g same has = record {
    words = λ q. has.words q ∙ ap (λ (b : Bool). if b then 0 else word_of old.pass.1.log q) (sym (same q));
    refs = λ q. has.refs q ∙ ap (λ (b : Bool). b || slice_index_or old.refs q false) (sym (same q));
    stands = λ q none. has.stands q (sym (same q) ∙ none);
    marks = has.marks;
    space = has.space;
    reader = has.reader;
    next_name = has.next_name;
    view = has.view;
  }

  -- no place yet
  pub cleared_none : (m : MutatorState R) → HasCleared m m (written_below m.wrote 0)
  cleared_none m = cleared_same m m (λ _. false) (written_below m.wrote 0) (below_none m.wrote) (record {
    words = λ q. refl;
    refs = λ q. refl;
    stands = λ q none. refl;
    marks = λ p. refl;
    space = refl;
    reader = refl;
    next_name = refl;
    view = (refl, refl);
  })

  -- one place more, which was written
  pub cleared_more : (old mid new : MutatorState R) (n : ℕ) → n < length mid.refs → slice_index_or old.wrote n false ≡ true → HasCleared old mid (written_below old.wrote n)
      → HasPut mid new n 0 true → new.pass.1.refusals ≡ mid.pass.1.refusals → HasCleared old new (written_below old.wrote (n + 1))
  cleared_more old mid new n low wrote has put calm = record {
    words = λ q. put.words q ∙ elim (cases_eq q n) [
      | inl e ↦ put_at (word_of mid.pass.1.log) n 0 q e ∙ ap (λ (b : Bool). if b then 0 else word_of old.pass.1.log q) (sym (below_here old.wrote n q e ∙ wrote))
      | inr ne ↦ put_else (word_of mid.pass.1.log) n 0 q ne ∙ has.words q ∙ ap (λ (b : Bool). if b then 0 else word_of old.pass.1.log q) (sym (below_other old.wrote n q ne))
    ];
    refs = λ q. ap (λ (l : List Bool). slice_index_or l q false) put.refs ∙ elim (cases_eq q n) [
      | inl e ↦ ap (λ (k : ℕ). get_or (set mid.refs n true) k false) e ∙ get_or-set_same mid.refs n true false low
          ∙ ap (λ (b : Bool). b || slice_index_or old.refs q false) (sym (below_here old.wrote n q e ∙ wrote))
      | inr ne ↦ get_or-set_other mid.refs n q true false ne ∙ has.refs q ∙ ap (λ (b : Bool). b || slice_index_or old.refs q false) (sym (below_other old.wrote n q ne))
    ];
    stands = λ q none. elim (cases_eq q n) [
      | inl e ↦ absurd (false≢true (sym none ∙ below_here old.wrote n q e ∙ wrote))
      | inr ne ↦ put.stands q ne ∙ has.stands q (sym (below_other old.wrote n q ne) ∙ none)
    ];
    marks = λ p. put.marks p ∙ has.marks p;
    space = put.space ∙ has.space;
    reader = put.reader ∙ has.reader;
    next_name = put.next_name ∙ has.next_name;
    view = (
      put.view.0 ∙ has.view.0,
      put.view.1 ∙ (λ i. record (has.view.1 i) { log = new.pass.1.log; refusals = (calm ∙ ap (λ (v : View). v.refusals) has.view.1) i })
          ∙ ap (λ (hs : List Hold). record old.pass.1 { log = new.pass.1.log; holds = hs }) (sym (ap (λ (v : View). v.holds) put.view.1)),
    );
  }

  -- or one that was not
  pub cleared_still : (old mid : MutatorState R) (n : ℕ) → slice_index_or old.wrote n false ≡ false → HasCleared old mid (written_below old.wrote n) → HasCleared old mid (written_below old.wrote (n + 1))
  cleared_still old mid n wrote has = cleared_same old mid (written_below old.wrote n) (written_below old.wrote (n + 1)) same has
    where
      same : (q : ℕ) → written_below old.wrote (n + 1) q ≡ written_below old.wrote n q
      same q = elim (cases_eq q n) [
        | inl e ↦ below_here old.wrote n q e ∙ wrote ∙ sym (below_at old.wrote n q e)
        | inr ne ↦ below_other old.wrote n q ne
      ]

  pub cleared_all : (old new : MutatorState R) (n : ℕ) → length old.wrote ≡ n → HasCleared old new (written_below old.wrote n) → HasCleared old new (was_written old)
  cleared_all old new n long has = cleared_same old new (written_below old.wrote n) (was_written old) (λ q. sym (below_all old.wrote n q long)) has

  -- one unit more was given back
  pub given_more : (told : Told) (first mid new : MutatorState R) (images rest : Images) (page : ℕ) → AreOwed told mid.pass.1 images → HasOnlyGiven first mid
      → new ≡ with_view mid (gave mid.pass.1 page) → rest ≡ map.remove images page → AreOwed told new.pass.1 rest × HasOnlyGiven first new
  given_more told first mid new images rest page owed given is less = (
    subst (λ (v : View). AreOwed told v rest) (sym (ap (λ (m : MutatorState R). m.pass.1) is))
        (subst (λ (i : Images). AreOwed told (gave mid.pass.1 page) i) (sym less) (owed_less told mid.pass.1 images page owed)),
    is ∙ ap (λ (m : MutatorState R). with_view m (gave m.pass.1 page)) given
        ∙ ap (λ (hs : List Hold). with_view first (record first.pass.1 { holds = hs })) (sym (ap (λ (m : MutatorState R). m.pass.1.holds) is)),
  )

-- once the written places are nil, each place is one that was known before
pub cleared_belongs : {R : Type 0} (content : R → Option (List ℕ)) (heap : TableId × Told) (old new : MutatorState R) → RemembersUnwritten heap.1 old → HasCleared old new (was_written old)
    → IsMutatorOf content heap new → Belongs content heap new
cleared_belongs content heap old new known has kept = record {
  mutator = kept;
  known = λ q tagged. of q (was_written old q) refl (sym (has.refs q) ∙ tagged) (has.words q);
}
  where
    of : (q : ℕ) (b : Bool) → was_written old q ≡ b → (was_written old q || slice_index_or old.refs q false) ≡ true → word_of new.pass.1.log q ≡ (if was_written old q then 0 else word_of old.pass.1.log q)
        → KnowsWord heap.1 new.pass.1 (word_of new.pass.1.log q)
    of q true e tagged word = inl (word ∙ ap (λ (b : Bool). if b then 0 else word_of old.pass.1.log q) e)
    of q false e tagged word =
        subst (KnowsWord heap.1 new.pass.1) (sym (word ∙ ap (λ (b : Bool). if b then 0 else word_of old.pass.1.log q) e))
        (same_word heap.1 old.pass.1 new.pass.1 (word_of old.pass.1.log q) (ap (λ (v : View). v.seen) has.view.1)
        (known q (sym (ap (λ (b : Bool). b || slice_index_or old.refs q false) e) ∙ tagged) e))

-- what a row remembers in a transaction
pub unwritten_known : {R : Type 0} (content : R → Option (List ℕ)) (t : TxnState R) → IsUnderway content t → RemembersUnwritten (told_in t) t.mutator
unwritten_known content t underway q tagged none = of (underway.known q tagged)
  where
    of : KnowsPlace (told_in t) (view_in t) t.held (slice_index_or t.mutator.wrote q false) (word_of (view_in t).log q) → KnowsWord (told_in t) (view_in t) (word_of (view_in t).log q)
    of (inl word) = word
    of (inr own) = absurd (false≢true (sym none ∙ own.0))
