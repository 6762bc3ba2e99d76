-- Parts of what is told of commits.
use Rattle.std.specs.Prelude.{ℕ, ◌≡◌, ◌≢◌, ◌↔◌, true, Some}
use Rattle.std.specs.FinMap.{get}
use Rattle.std.specs.FinSet as set
use Rattle.pm3_types.specs.Layout.{Sheet}
use Rattle.pm3_page.specs.PageSheets.{sheets_of}
use Rattle.pm3_access.specs.Acts.{space_left}
use Rattle.pm3_access.specs.FreeList.{Numbers}
use Rattle.pm3_access.specs.Holding.{HeldSpaceState, Holding, by_space, with_free}
use Rattle.pm3_history.specs.Entry.{Pass}
use Rattle.pm3_table.specs.Deeds.{stands_of, word_of}
use Rattle.pm3_txn.specs.States.{MutatorState}
use Rattle.pm3_txn.specs.Takes.{with_view}

-- A mutator's row, its marks and its refusals are as they were. What it holds, what it has seen of the history and of the faults, and
-- its own commits may be others.
abbrev pub HasOnlySeen : {R : Type 0} → MutatorState R → MutatorState R → Type 0
HasOnlySeen old new = new ≡ with_view old (record old.pass.1 {
  holds = new.pass.1.holds;
  spans = new.pass.1.spans;
  seen = new.pass.1.seen;
  faults = new.pass.1.faults;
  lost = new.pass.1.lost;
  names = new.pass.1.names;
  mine = new.pass.1.mine;
  failed = new.pass.1.failed;
})

-- A mutator's row and its refusals are as they were. What it holds and marks and has read, the pages that it drew, what it has seen of
-- the history and of the faults, and its own commits may be others.
pub record HasOnlyPassed {R : Type 0} (old new : MutatorState R) : Type 0 where
  pub rest : new ≡ with_view old (record old.pass.1 {
    log = new.pass.1.log;
    holds = new.pass.1.holds;
    spans = new.pass.1.spans;
    steady = new.pass.1.steady;
    pages = new.pass.1.pages;
    drawing = new.pass.1.drawing;
    filled = new.pass.1.filled;
    drew_pages = new.pass.1.drew_pages;
    seen = new.pass.1.seen;
    faults = new.pass.1.faults;
    lost = new.pass.1.lost;
    names = new.pass.1.names;
    mine = new.pass.1.mine;
    failed = new.pass.1.failed;
  })
  pub words : (q : ℕ) → word_of new.pass.1.log q ≡ word_of old.pass.1.log q
  pub stands : (q : ℕ) → stands_of new.pass.1.log q ≡ stands_of old.pass.1.log q

-- What is held is the same, but for more free pages of the space or more room for them.
pub record HasMoreFree (old new : Holding) : Type 0 where
  pub free : Numbers
  pub room : ℕ
  pub rest : new ≡ by_space (λ s. with_free s free room) old
  pub more : (s : HeldSpaceState) → old.space ≡ Some s → (p : ℕ) → set.contains s.free p ≡ true → set.contains free p ≡ true

-- The pass is over the space with this number as it is held, and the changed images are those of the pages held alone that are not as
-- they were found.
pub record IsPassOver (h : Holding) (number : ℕ) (p : Pass) : Type 0 where
  pub space : p.space ≡ number
  pub before : p.before ≡ space_left h.space
  pub changed : (page : ℕ) (sheet : Sheet) → (get p.changed page ≡ Some sheet)
      ↔ ((get (sheets_of h.pages.left) page ≡ Some sheet) × (get (sheets_of h.pages.found) page ≢ Some sheet))
