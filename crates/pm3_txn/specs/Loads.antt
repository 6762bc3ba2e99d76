-- What a mutator gets of a page that it has taken.
use Rattle.std.specs.Prelude.{ℕ, ◌≡◌, ◌⊎◌, ◌<◌, ◌≤◌, true, List, Option}
use Rattle.pm3_history.specs.Entry.{Done}
use Rattle.pm3_table.specs.declared.view.Told.{Told}
use Rattle.pm3_table.specs.Entries.{writes}
use Rattle.pm3_table.specs.Histories.{some_has}
use Rattle.pm3_txn.specs.States.{MutatorState}

-- nothing but the reader has gone on, which tells what it told
pub record HasOnlyRead {R : Type 0} (content : R → Option (List ℕ)) (faults : R → ℕ) (old new : MutatorState R) : Type 0 where
  pub rest : new ≡ record old { reader = new.reader }
  pub content_is : content new.reader ≡ content old.reader
  pub later : faults old.reader ≤ faults new.reader

-- a page from 2 on was in use at the start, or a commit wrote it
pub record IsPersistent (told : Told) (h : List Done) (page : ℕ) : Type 0 where
  pub low : (2 ≤ page) × (page < told.pages)
  pub used : (page < told.frontier) ⊎ (some_has writes h page ≡ true)
