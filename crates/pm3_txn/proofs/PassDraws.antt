-- A commit with a pass draws pages into its space.
use Rattle.std.proofs.Common.{◌≡◌, ◌<◌, ◌≤◌, ◌+◌, ◌-◌, ◌||◌, ◌∙◌, ◌⊎◌, inl, inr, ℕ, Bool, true, false, max, if◌then◌else◌, List, ◌∷◌, Option, Some, None, is_some, refl, sym, ap, subst, arith}
use Rattle.std.proofs.lemmas.Bool.{cases_eq, false≢true}
use Rattle.std.specs.Cmp.{nat_cmp_total, unsigned_tied}
use Rattle.std.specs.Ordering.{eq_by_cmp, nat_cmp}
use Rattle.std.specs.Option.{option_map}
use Rattle.std.specs.FinMap.{contains_key, get}
use Rattle.std.specs.FinSet as set
use Rattle.std.specs.FinSet.{contains-insert}
use Rattle.atomic_table.specs.Seated.{TableId}
use Rattle.pm3_page.specs.PageMap.{Images}
use Rattle.pm3_access.specs.Holding.{Holding, HeldSpaceState, by_space, with_free}
use Rattle.pm3_access.specs.Parts.{SpaceRest, rest_with_free, with_images}
use Rattle.pm3_access.proofs.Homes.{some_of}
use Rattle.pm3_table.specs.declared.view.Deed.{Deed}
use Rattle.pm3_table.specs.declared.view.Deed.TheVariants.{Unmarked}
use Rattle.pm3_table.specs.declared.view.Told.{Told}
use Rattle.pm3_table.specs.declared.view.View.{View}
use Rattle.pm3_table.specs.Deeds.{marks_of, stands_of, word_of}
use Rattle.pm3_table.specs.Holds.{holds_of, spans_of}
use Rattle.pm3_table.specs.Ops.{drew_page, gave, saw_full, settled_in}
use Rattle.pm3_table.specs.Settles.{unmark_log}
use Rattle.pm3_table.specs.Telling.{HasInSpace, IsNewPage}
use Rattle.pm3_table.specs.Words.{space_unit, turn_unit}
use Rattle.pm3_table.proofs.Put.{put_at, put_else}
use Rattle.pm3_txn.specs.DrawnLaws.{with_free_page}
use Rattle.pm3_txn.specs.Owners.{MayHoldSpace}
use Rattle.pm3_txn.specs.declared.commit_fault.CommitRefusal.{CommitRefusal}
use Rattle.pm3_txn.specs.declared.commit_fault.CommitRefusal.TheVariants.{Busy, Full, Memory, Later}
use Rattle.pm3_txn.specs.PassSteps.{HasDrawn, HasKeptRow, IsNewFree, IsOutOfFresh, IsPassing, is_free, set_aside}
use Rattle.pm3_txn.specs.States.{MutatorState}
use Rattle.pm3_txn.specs.Takes.{with_view}
use Rattle.pm3_txn.proofs.Growing.{paged_underway, pages_full_underway, roomy_underway}

-- a mark that is taken off leaves the words of the row
unmark_words : (log : List Deed) (page : ℕ) (b : Bool) → marks_of log page ≡ b → word_of (unmark_log log page) ≡ word_of log
unmark_words log page b is = ap (λ (c : Bool). word_of (if c then (Unmarked page ∷ log) else log)) is ∙ of b
  where
    of : (b : Bool) → word_of (if b then (Unmarked page ∷ log) else log) ≡ word_of log
    of true = refl
    of false = refl

unmark_stands : (log : List Deed) (page : ℕ) (b : Bool) → marks_of log page ≡ b → stands_of (unmark_log log page) ≡ stands_of log
unmark_stands log page b is = ap (λ (c : Bool). stands_of (if c then (Unmarked page ∷ log) else log)) is ∙ of b
  where
    of : (b : Bool) → stands_of (if b then (Unmarked page ∷ log) else log) ≡ stands_of log
    of true = refl
    of false = refl

-- what a view holds once the turn is given back it held before
pub still_held : (v : View) (turn u : ℕ) → holds_of (gave v turn).holds u ≡ true → holds_of v.holds u ≡ true
still_held v turn u is = elim (cases_eq u turn) [
  | inl e ↦ absurd (false≢true (sym (gave_at e) ∙ is))
  | inr ne ↦ sym (put_else (holds_of v.holds) turn false u ne) ∙ is
]
  where
    gave_at : u ≡ turn → holds_of (gave v turn).holds u ≡ false
    gave_at e = put_at (holds_of v.holds) turn false u e

module _ {R : Type 0} (content : R → Option (List ℕ)) (heap : TableId × Told) (m : MutatorState R) (h : Holding) (is : IsPassing content heap m h) where
  abbrev v : View
  v = m.pass.1

  abbrev aside : MutatorState R
  aside = set_aside heap.1 m is.log

  new_page : (page : ℕ) → IsNewPage heap.1 v page → IsNewPage heap.1 aside.pass.1 page
  new_page page new = record {
    from = new.from;
    elsewhere = λ j mine. new.elsewhere j (mine.0, still_held v (turn_unit heap.1.pages) (space_unit heap.1.pages j) mine.1, mine.2);
    unnamed = new.unnamed;
    unknown = new.unknown;
  }

  -- there is other room
  pub passing_roomy : (room : ℕ) → IsPassing content heap m (by_space (λ s. with_free s s.free room) h)
  passing_roomy room = record {
    log = is.log;
    words = is.words;
    stands = is.stands;
    underway = roomy_underway content heap aside h 0 is.underway is.space (λ s. room);
    turn = is.turn;
    space = some h.space is.space;
  }
    where
      some : (s : Option HeldSpaceState) → is_some s ≡ true → is_some (option_map (λ t. with_free t t.free room) s) ≡ true
      some None there = there
      some (Some s) there = refl

  -- the counter is full
  pub passing_full : IsPassing content heap (with_view m (saw_full 0 v)) (by_space (λ s. with_free s s.free (max s.room 1)) h)
  passing_full = record {
    log = is.log;
    words = is.words;
    stands = is.stands;
    underway = pages_full_underway content heap aside h 0 is.underway is.space (λ s. max s.room 1) (record {
      of = is.underway.mutator.of;
      unmarked = is.underway.mutator.unmarked;
      lawful = is.underway.mutator.lawful;
      reads = is.underway.mutator.reads;
      tags = is.underway.mutator.tags;
      space = is.underway.mutator.space;
    });
    turn = is.turn;
    space = some h.space is.space;
  }
    where
      some : (s : Option HeldSpaceState) → is_some s ≡ true → is_some (option_map (λ t. with_free t t.free (max t.room 1)) s) ≡ true
      some None there = there
      some (Some s) there = refl

  -- a page of the space, with an image or free, is in it
  has_in_space : (s : Option HeldSpaceState) → MayHoldSpace heap.1 aside.pass.1 m.space s → (t : HeldSpaceState) → s ≡ Some t → (q : ℕ)
      → (is_some (get t.images.left q) ≡ true) ⊎ (set.contains t.free q ≡ true) → HasInSpace heap.1 v m.space q
  has_in_space None held t is_t q there = absurd (cc is_t)
  has_in_space (Some s) held t is_t q there = (
    subst (λ (n : ℕ). n < 32) held.0 held.1.low,
    still_held v (turn_unit heap.1.pages) (space_unit heap.1.pages m.space) (subst (λ (n : ℕ). holds_of aside.pass.1.holds (space_unit heap.1.pages n) ≡ true) held.0 held.1.unit),
    subst (λ (n : ℕ). spans_of v.spans (space_unit heap.1.pages n) q ≡ true) held.0 (held.1.spans q ∙ either (is_some (get s.images.left q)) (set.contains s.free q)
        (subst (λ (x : HeldSpaceState). (is_some (get x.images.left q) ≡ true) ⊎ (set.contains x.free q ≡ true)) (sym (some_of s t is_t)) there)),
  )
    where
      either : (a b : Bool) → (a ≡ true) ⊎ (b ≡ true) → (a || b) ≡ true
      either true b one = refl
      either false b (inl never) = absurd (false≢true never)
      either false b (inr other) = other

  -- so is a free page of its parts, and one of its images
  module _ (o : Option SpaceRest) (images : Images) (same : h.space ≡ option_map (with_images images) o) where
    held_parts : MayHoldSpace heap.1 aside.pass.1 m.space (option_map (with_images images) o)
    held_parts = subst (MayHoldSpace heap.1 aside.pass.1 m.space) same is.underway.holding.space

    pub free_in_space : (q : ℕ) → is_free o q ≡ true → HasInSpace heap.1 v m.space q
    free_in_space q = of o held_parts
      where
        of : (s : Option SpaceRest) → MayHoldSpace heap.1 aside.pass.1 m.space (option_map (with_images images) s) → is_free s q ≡ true → HasInSpace heap.1 v m.space q
        of None held free = absurd (false≢true free)
        of (Some s) held free = has_in_space (Some (with_images images s)) held (with_images images s) refl q (inr free)

    pub image_in_space : is_some o ≡ true → (q : ℕ) → is_some (get images q) ≡ true → HasInSpace heap.1 v m.space q
    image_in_space there q = of o there held_parts
      where
        of : (s : Option SpaceRest) → is_some s ≡ true → MayHoldSpace heap.1 aside.pass.1 m.space (option_map (with_images images) s) → is_some (get images q) ≡ true → HasInSpace heap.1 v m.space q
        of None some held on = absurd (false≢true some)
        of (Some s) some held on = has_in_space (Some (with_images images s)) held (with_images images s) refl q (inl on)

    -- a page that was drawn is none of them
    pub new_not_free : (page : ℕ) → IsNewPage heap.1 v page → is_free o page ≡ false
    new_not_free page new = of (is_free o page) refl
      where
        of : (b : Bool) → is_free o page ≡ b → is_free o page ≡ false
        of true free = absurd (new.elsewhere m.space (free_in_space page free))
        of false none = none

    -- and has no mark
    pub new_unmarked : is_some o ≡ true → ((q : ℕ) → marks_of v.log q ≡ true → contains_key images q ≡ true) → (page : ℕ) → IsNewPage heap.1 v page → marks_of v.log page ≡ false
    new_unmarked there marks page new = of (marks_of v.log page) refl
      where
        of : (b : Bool) → marks_of v.log page ≡ b → marks_of v.log page ≡ false
        of true marked = absurd (new.elsewhere m.space (image_in_space there page (marks page marked)))
        of false none = none

    -- free pages are pages of the table from 3 on
    pub free_low : heap.1.pages < 16385 → (q : ℕ) → is_free o q ≡ true → (3 ≤ q) × (q < 16384)
    free_low small q = of o held_parts
      where
        of : (s : Option SpaceRest) → MayHoldSpace heap.1 aside.pass.1 m.space (option_map (with_images images) s) → is_free s q ≡ true → (3 ≤ q) × (q < 16384)
        of None held free = absurd (false≢true free)
        of (Some s) held free =
            let within = held.1.within q (subst (λ (n : ℕ). spans_of v.spans (space_unit heap.1.pages n) q ≡ true) (sym held.0)
            (has_in_space (Some (with_images images s)) held (with_images images s) refl q (inr free)).2) in
            (within.0, (let low = within.1 in omega (arith, low, small)))

  -- a page was drawn, and is free
  module _ (page : ℕ) (high : 3 ≤ page) (low : page < heap.1.pages) (new : IsNewPage heap.1 v page) where
    abbrev pub drawn_view : View
    drawn_view = settled_in (drew_page v page) page (space_unit heap.1.pages m.space) (unmark_log v.log page)

    pub passing_drawn : IsPassing content heap (with_view m drawn_view) (with_free_page (by_space (λ s. with_free s s.free (max s.room 1)) h) page (λ s. s.room - 1))
    passing_drawn = record {
      log = is.log;
      words = λ q. is.words q ∙ ap (λ (f : ℕ → ℕ). f q) (sym (unmark_words v.log page (marks_of v.log page) refl));
      stands = λ q. is.stands q ∙ ap (λ (f : ℕ → Bool). f q) (sym (unmark_stands v.log page (marks_of v.log page) refl));
      underway = paged_underway content heap aside h 0 is.underway is.space (λ s. max s.room 1) page high low (new_page page new) (λ s. s.room - 1) (record {
        of = is.underway.mutator.of;
        unmarked = is.underway.mutator.unmarked;
        lawful = is.underway.mutator.lawful;
        reads = is.underway.mutator.reads;
        tags = is.underway.mutator.tags;
        space = is.underway.mutator.space;
      });
      turn = is.turn;
      space = some h.space is.space;
    }
      where
        some : (s : Option HeldSpaceState) → is_some s ≡ true
            → is_some (option_map (λ t. with_free t (set.insert t.free page) (t.room - 1)) (option_map (λ t. with_free t t.free (max t.room 1)) s)) ≡ true
        some None there = there
        some (Some s) there = refl

    pub has_drawn : marks_of v.log page ≡ false → HasDrawn m (with_view m drawn_view) 1
    has_drawn unmarked =
        let log : unmark_log v.log page ≡ v.log = ap (λ (b : Bool). if b then (Unmarked page ∷ v.log) else v.log) unmarked in record {
          kept = record { rest = refl; words = λ q. ap (λ (l : List Deed). word_of l q) log; stands = λ q. ap (λ (l : List Deed). stands_of l q) log };
          log = log;
          drew = refl;
        }

-- nothing was drawn
pub drew_none : {R : Type 0} (m : MutatorState R) → HasDrawn m m 0
drew_none m = record { kept = record { rest = refl; words = λ q. refl; stands = λ q. refl }; log = refl; drew = omega arith }

pub full_drawn : {R : Type 0} (m : MutatorState R) → HasDrawn m (with_view m (saw_full 0 m.pass.1)) 0
full_drawn m = record { kept = record { rest = refl; words = λ q. refl; stands = λ q. refl }; log = refl; drew = omega arith }

module _ {R : Type 0} (a b c : MutatorState R) where
  pub row_both : HasKeptRow a b → HasKeptRow b c → HasKeptRow a c
  row_both first second = record {
    rest = second.rest ∙ ap (λ (x : MutatorState R). with_view x (record x.pass.1 {
      log = c.pass.1.log;
      spans = c.pass.1.spans;
      pages = c.pass.1.pages;
      drawing = c.pass.1.drawing;
      filled = c.pass.1.filled;
      drew_pages = c.pass.1.drew_pages;
    })) first.rest;
    words = λ q. second.words q ∙ first.words q;
    stands = λ q. second.stands q ∙ first.stands q;
  }

  pub drawn_both : (n k : ℕ) → HasDrawn a b n → HasDrawn b c k → HasDrawn a c (n + k)
  drawn_both n k first second = record {
    kept = row_both first.kept second.kept;
    log = second.log ∙ first.log;
    drew = (let one = first.drew in let two = second.drew in omega (arith, one, two));
  }

-- a page that is added to the free ones is a new one
pub new_free : (o : Option SpaceRest) (page room : ℕ) → is_some o ≡ true → is_free o page ≡ false
    → IsNewFree o (option_map (λ s. rest_with_free s (set.insert s.free page) (s.room - 1)) (option_map (λ s. rest_with_free s s.free (max s.room room)) o)) page
new_free None page room there none = absurd (false≢true there)
new_free (Some s) page room there none = record {
  none = none;
  free = λ q. contains-insert nat_cmp_total s.free page q ∙ ap (λ (b : Bool). b || set.contains s.free q) (unsigned_tied q page);
}

-- no free page is lost by one more
pub one_more_free : (page : ℕ) (s : SpaceRest) (p : ℕ) → set.contains s.free p ≡ true → set.contains (set.insert s.free page) p ≡ true
one_more_free page s p is = contains-insert nat_cmp_total s.free page p ∙ or_second (eq_by_cmp nat_cmp p page) (set.contains s.free p) is
  where
    or_second : (a b : Bool) → b ≡ true → (a || b) ≡ true
    or_second true b e = refl
    or_second false b e = e

-- there is a space where its parts have one
pub some_rest : (images : Images) (o : Option SpaceRest) → is_some (option_map (with_images images) o) ≡ true → is_some o ≡ true
some_rest images None there = there
some_rest images (Some s) there = refl

-- a shortage that follows draws
pub shortage_on : {R : Type 0} (told : Told) (old mid new : MutatorState R) (cause : CommitRefusal) → mid.pass.1.filled ≡ old.pass.1.filled → IsOutOfFresh told mid new cause → IsOutOfFresh told old new cause
shortage_on told old mid new (Busy unit word) same is = is
shortage_on told old mid new (Full what limit) same is = (is.0, is.1, is.2 ∙ ap (λ (l : List ℕ). 0 ∷ l) same)
shortage_on told old mid new Memory same is = is ∙ same
shortage_on told old mid new Later same is = is
