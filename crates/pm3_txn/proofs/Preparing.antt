-- A pass is prepared, or refused.
use Rattle.std.proofs.Common.{◌≡◌, ◌<◌, ◌∙◌, ℕ, Bool, true, false, List, Option, ◌∷◌, is_some, slice_index_or, refl, sym, ap, subst}
use Rattle.std.specs.FinMap as map
use Rattle.std.specs.FinSet as set
use Rattle.std.specs.Ordering.{nat_cmp}
use Rattle.atomic_table.specs.Seated.{TableId}
use Rattle.pm3_core.specs.declared.naming.TheConstants.{BASE}
use Rattle.pm3_core.specs.Naming.{Names}
use Rattle.pm3_types.specs.Fields.{Fields}
use Rattle.pm3_page.specs.PageMap.{Images}
use Rattle.pm3_copy.specs.Planning.{IsPlan, PlanState}
use Rattle.pm3_copy.specs.Spreading.{before_of}
use Rattle.pm3_access.specs.declared.parted.Parted.{Parted}
use Rattle.pm3_access.specs.FreeList.{Numbers}
use Rattle.pm3_access.specs.Holding.{Holding}
use Rattle.pm3_access.specs.Parting.{joined}
use Rattle.pm3_access.specs.Parts.{SpaceRest}
use Rattle.pm3_table.specs.declared.view.Deed.{Deed}
use Rattle.pm3_table.specs.declared.view.Told.{Told}
use Rattle.pm3_table.specs.Deeds.{marks_of, word_of}
use Rattle.pm3_table.specs.Holds.{holds_of}
use Rattle.pm3_table.specs.Words.{turn_unit}
use Rattle.pm3_txn.specs.declared.commit_fault.CommitRefusal.{CommitRefusal}
use Rattle.pm3_txn.specs.declared.commit_fault.CommitRefusal.TheVariants.{Busy, Full, Memory, Later}
use Rattle.pm3_txn.specs.Committing.{IsParted}
use Rattle.pm3_txn.specs.PassSteps.{AreFresh, AreNamed, HasKeptRow, IsOutOfFresh, IsPassing, IsPassRefusal, is_free, set_aside}
use Rattle.pm3_txn.specs.Pinning.{AreOwnPages, HasOnlyLogged, HasScanned}
use Rattle.pm3_txn.specs.States.{MutatorState}
use Rattle.pm3_txn.specs.Takes.{with_view}
use Rattle.pm3_txn.specs.Underway.{IsMutatorOf, IsUnderway}
use Rattle.pm3_txn.proofs.PassDraws.{image_in_space, some_rest}
use Rattle.pm3_txn.proofs.PassPlans.{volatile_low}

module _ {R : Type 0} (content : R → Option (List ℕ)) (heap : TableId × Told) where
  -- without marks it is a mutator of the heap
  pub passing_mutator : (m : MutatorState R) (h : Holding) → IsPassing content heap m h → ((p : ℕ) → marks_of m.pass.1.log p ≡ false) → IsMutatorOf content heap m
  passing_mutator m h is bare = record {
    of = is.underway.mutator.of;
    unmarked = bare;
    lawful = is.underway.mutator.lawful;
    reads = is.underway.mutator.reads;
    tags = is.underway.mutator.tags;
    space = is.underway.mutator.space;
  }

  -- what it marks and reads leaves it so
  pub passing_logged : (m n : MutatorState R) (h : Holding) → HasOnlyLogged m n → IsPassing content heap m h → IsPassing content heap n h
  passing_logged m n h only is = record {
    log = is.log;
    words = λ q. is.words q ∙ sym (only.words q);
    stands = λ q. is.stands q ∙ sym (only.stands q);
    underway = subst (λ (x : MutatorState R). IsUnderway content (record { heap = heap; mutator = set_aside heap.1 x is.log; held = h; tag = 0 })) (sym only.rest) is.underway;
    turn = subst (λ (x : MutatorState R). holds_of x.pass.1.holds (turn_unit heap.1.pages) ≡ true) (sym only.rest) is.turn;
    space = is.space;
  }

  -- the images of its space are on pages of the table, in that space
  pub own_pages : (m : MutatorState R) (p : Parted) → IsPassing content heap m (joined p) → IsParted p → heap.1.pages < 16385 → AreOwnPages heap.1 m.pass.1 m.space p.volatile.images
  own_pages m p is parted small q on =
      let there : is_some p.rest.space ≡ true = some_rest p.volatile.images p.rest.space is.space in (
        (volatile_low heap.1 (set_aside heap.1 m is.log).pass.1 m.space p is.underway.holding parted small there q on).1,
        image_in_space content heap m (joined p) is p.rest.space p.volatile.images refl there q on,
      )

module _ {R : Type 0} (old new : MutatorState R) where
  pub kept_logged : HasOnlyLogged old new → HasKeptRow old new
  kept_logged only = record {
    rest = only.rest ∙ sym (of only.rest);
    words = only.words;
    stands = only.stands;
  }
    where
      of : new ≡ with_view old (record old.pass.1 { log = new.pass.1.log })
          → with_view old (record old.pass.1 {
            log = new.pass.1.log;
            spans = new.pass.1.spans;
            pages = new.pass.1.pages;
            drawing = new.pass.1.drawing;
            filled = new.pass.1.filled;
            drew_pages = new.pass.1.drew_pages;
          }) ≡ with_view old (record old.pass.1 { log = new.pass.1.log })
      of is = ap (λ (x : MutatorState R). with_view old (record old.pass.1 {
        log = new.pass.1.log;
        spans = x.pass.1.spans;
        pages = x.pass.1.pages;
        drawing = x.pass.1.drawing;
        filled = x.pass.1.filled;
        drew_pages = x.pass.1.drew_pages;
      })) is

  pub refs_kept : HasKeptRow old new → new.refs ≡ old.refs
  refs_kept kept = ap (λ (x : MutatorState R). x.refs) kept.rest

  pub logged_filled : HasOnlyLogged old new → new.pass.1.filled ≡ old.pass.1.filled
  logged_filled only = ap (λ (x : MutatorState R). x.pass.1.filled) only.rest

  -- what the row names it names still
  pub named_on : (pages : ℕ) (has : ℕ → Bool) (named : Numbers) → HasKeptRow old new → AreNamed pages old has named → AreNamed pages new has named
  named_on pages has named kept are page = (
    λ is. (let was = (are page).0 is in (was.0, (was.1.0, ap (λ (l : List Bool). slice_index_or l was.1.0 false) (refs_kept kept) ∙ was.1.1, subst (λ (w : ℕ). Names pages w page) (sym (kept.words was.1.0)) was.1.2))),
    λ is. (are page).1 (is.0, (is.1.0, ap (λ (l : List Bool). slice_index_or l is.1.0 false) (sym (refs_kept kept)) ∙ is.1.1, subst (λ (w : ℕ). Names pages w page) (kept.words is.1.0) is.1.2)),
  )

-- the same scan of the same images
pub scan_on : (pages : ℕ) (log then : List Deed) (one other : Images) (words : List ℕ) (pins : set.FinSet nat_cmp) → then ≡ log → other ≡ one
    → HasScanned pages log (map.contains_key one) words pins → HasScanned pages then (map.contains_key other) words pins
scan_on pages log then one other words pins same images scan =
    subst (λ (l : List Deed). HasScanned pages l (map.contains_key other) words pins) (sym same) (subst (λ (i : Images). HasScanned pages log (map.contains_key i) words pins) (sym images) scan)

pub plan_on : (catalog other : List Fields) (a b w x : Images) (pins : set.FinSet nat_cmp) (plan : PlanState) → catalog ≡ other → b ≡ a → x ≡ w
    → IsPlan other BASE (before_of a w pins) plan → IsPlan catalog BASE (before_of b x pins) plan
plan_on catalog other a b w x pins plan same volatile written is =
    subst (λ (k : List Fields). IsPlan k BASE (before_of b x pins) plan) (sym same)
    (subst (λ (i : Images). IsPlan other BASE (before_of i x pins) plan) (sym volatile) (subst (λ (i : Images). IsPlan other BASE (before_of a i pins) plan) (sym written) is))

pub fresh_on : (old new : Option SpaceRest) (fresh : Images) → ((q : ℕ) → is_free new q ≡ is_free old q) → AreFresh old fresh → AreFresh new fresh
fresh_on old new fresh same are = record { blank = are.blank; free = λ q on. same q ∙ are.free q on; least = λ p q on free. are.least p q on (sym (same p) ∙ free) }

-- all pages that references name turn
pub turns_on : {R : Type 0} (pages : ℕ) (old new : MutatorState R) (a b : Images) (named turned : Numbers) → HasKeptRow old new → b ≡ a
    → AreNamed pages old (map.contains_key a) named → ((p : ℕ) → set.contains named p ≡ true → set.contains turned p ≡ true)
    → (q page : ℕ) → slice_index_or new.refs q false ≡ true → map.contains_key b page ≡ true → Names pages (word_of new.pass.1.log q) page → set.contains turned page ≡ true
turns_on pages old new a b named turned kept images are all q page tagged on names = all page ((are page).1 (
  ap (λ (i : Images). map.contains_key i page) (sym images) ∙ on,
  (q, ap (λ (l : List Bool). slice_index_or l q false) (sym (refs_kept old new kept)) ∙ tagged, subst (λ (w : ℕ). Names pages w page) (kept.words q) names),
))

-- the refusal of a draw is one of the pass
pub refused_draw : {R : Type 0} (told : Told) (old new : MutatorState R) (has : ℕ → Bool) (cause : CommitRefusal) → IsOutOfFresh told old new cause → IsPassRefusal told old new has cause
refused_draw told old new has (Busy unit word) is = is
refused_draw told old new has (Full what limit) is = is
refused_draw told old new has Memory is = is
refused_draw told old new has Later is = absurd is

-- a refusal behind steps that kept the row
pub refused_on : {R : Type 0} (told : Told) (a b c d : MutatorState R) (has : ℕ → Bool) (cause : CommitRefusal) → HasKeptRow a b → b.pass.1.filled ≡ a.pass.1.filled → d.pass.1.filled ≡ c.pass.1.filled
    → IsPassRefusal told b c has cause → IsPassRefusal told a d has cause
refused_on told a b c d has (Busy unit word) kept calm last is = is
refused_on told a b c d has (Full what limit) kept calm last is = (is.0, is.1, last ∙ is.2 ∙ ap (λ (l : List ℕ). 0 ∷ l) calm)
refused_on told a b c d has Memory kept calm last is = last ∙ is ∙ calm
refused_on told a b c d has Later kept calm last is = (
  last ∙ is.0 ∙ calm,
  (is.1.0, is.1.1, ap (λ (l : List Bool). slice_index_or l is.1.0 false) (sym (refs_kept a b kept)) ∙ is.1.2, is.1.3, subst (λ (w : ℕ). Names told.pages w is.1.1) (kept.words is.1.0) is.1.4),
)
