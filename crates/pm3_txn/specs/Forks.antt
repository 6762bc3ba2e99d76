-- How a mutator is made of the group of another.
use Rattle.std.specs.Prelude.{ℕ, ◌≡◌, ◌≢◌, ◌<◌, ◌∷◌, [], false, replicate, slice_index_or}
use Rattle.pm3_core.specs.declared.events.TheConstants.{ROW_PLACES}
use Rattle.pm3_core.specs.Naming.{Names}
use Rattle.pm3_table.specs.declared.unit.Busy.{Busy}
use Rattle.pm3_table.specs.declared.unit.Limit.TheVariants.{Rows}
use Rattle.pm3_table.specs.declared.unit.Unit.{Unit as Asked}
use Rattle.pm3_table.specs.declared.unit.Unit.TheVariants.{Page}
use Rattle.pm3_table.specs.declared.view.View.{View}
use Rattle.pm3_table.specs.Deeds.{marks_of, stands_of, word_of}
use Rattle.pm3_table.specs.Ops.{saw_full}
use Rattle.pm3_table.specs.Seats.{both_views, new_view}
use Rattle.pm3_table.specs.Words.{mark_in}
use Rattle.pm3_txn.specs.declared.crew.FreshFault.{FreshFault}
use Rattle.pm3_txn.specs.declared.crew.FreshFault.TheVariants as fresh
use Rattle.pm3_txn.specs.declared.forking.ForkFault.{ForkFault}
use Rattle.pm3_txn.specs.declared.forking.ForkFault.TheVariants as fork
use Rattle.pm3_txn.specs.Puts.{IsPinned}
use Rattle.pm3_txn.specs.States.{MutatorState}
use Rattle.pm3_txn.specs.Takes.{with_view}

abbrev pub fork_fault : FreshFault → ForkFault
fork_fault (fresh.Full what limit) = fork.Full what limit
fork_fault fresh.Memory = fork.Memory

-- it has read words of its own row, and done nothing else
pub record HasReadRow {R : Type 0} (old new : MutatorState R) : Type 0 where
  pub rest : new ≡ with_view old (record old.pass.1 { log = new.pass.1.log })
  pub words : (q : ℕ) → word_of new.pass.1.log q ≡ word_of old.pass.1.log q
  pub stands : (q : ℕ) → stands_of new.pass.1.log q ≡ stands_of old.pass.1.log q
  pub marks : (p : ℕ) → marks_of new.pass.1.log p ≡ marks_of old.pass.1.log p

-- The first places of a row have the words of another mutator's row, under their tags, and each stands or names no page.
pub record HasRowOf {R : Type 0} (pages places : ℕ) (from made : MutatorState R) : Type 0 where
  pub words : (q : ℕ) → q < places → word_of made.pass.1.log q ≡ word_of from.pass.1.log q
  pub tags : (q : ℕ) → q < places → slice_index_or made.refs q false ≡ slice_index_or from.refs q false
  pub pinned : (q : ℕ) → q < places → IsPinned pages made q

-- these were copied, and nothing else was done
pub record HasCopied {R : Type 0} (pages places : ℕ) (from old new : MutatorState R) : Type 0 where
  pub row : HasRowOf pages places from new
  pub marks : (p : ℕ) → marks_of new.pass.1.log p ≡ marks_of old.pass.1.log p
  pub view : new.pass ≡ (old.pass.0, record old.pass.1 { log = new.pass.1.log })
  pub rest : new ≡ record old { pass = new.pass; refs = new.refs; wrote = new.wrote }

-- the page that the word names was seen with a mark
pub record IsMarkedPage (pages word : ℕ) (unit : Asked) (seen page : ℕ) : Type 0 where
  pub named : Names pages word page
  pub unit_is : unit ≡ Page page
  pub mark : mark_in seen ≢ 0

-- one of these words was refused for the mark of its page
pub record IsCopyRefused {R : Type 0} (pages : ℕ) (from old new : MutatorState R) (busy : Busy) : Type 0 where
  pub place : ℕ
  pub low : place < ROW_PLACES
  pub page : ℕ
  pub marked : IsMarkedPage pages (word_of from.pass.1.log place) busy.unit busy.word page
  pub marks : (p : ℕ) → marks_of new.pass.1.log p ≡ marks_of old.pass.1.log p
  pub view : new.pass ≡ (old.pass.0, record old.pass.1 { log = new.pass.1.log; refusals = record { unit = page; word = busy.word } ∷ old.pass.1.refusals })
  pub rest : new ≡ record old { pass = new.pass; refs = new.refs; wrote = new.wrote }

-- A new mutator, which has seen what its maker had, holds nothing and notes no name. Its space is that of its maker, and so is what
-- stands in its row, of which it has written no place.
pub record IsFork {R : Type 0} (pages : ℕ) (maker made : MutatorState R) (reader : R) : Type 0 where
  pub row : ℕ
  pub low : row < 32
  pub is : made ≡ record {
    pass = (maker.pass.0, record (new_view row maker.pass.1) { log = made.pass.1.log });
    space = maker.space;
    reader = reader;
    refs = made.refs;
    wrote = replicate 512 false;
    next_name = 0;
  }
  pub copied : HasRowOf pages ROW_PLACES maker made

-- A word of the row was refused for the mark of its page. The mutator that was made for it, which had seen what this one had and was
-- refused once, was joined into this one.
pub record IsForkBusy {R : Type 0} (pages : ℕ) (old new : MutatorState R) (unit : Asked) (word : ℕ) : Type 0 where
  pub place : ℕ
  pub low : place < ROW_PLACES
  pub page : ℕ
  pub marked : IsMarkedPage pages (word_of old.pass.1.log place) unit word page
  pub row : ℕ
  pub made : View
  pub made_is : made ≡ record (new_view row old.pass.1) { log = made.log; refusals = record { unit = page; word = word } ∷ [] }
  pub read : HasReadRow old (with_view old (record old.pass.1 { log = new.pass.1.log }))
  pub rest : new ≡ with_view old (both_views (record old.pass.1 { log = new.pass.1.log }) made)

-- none was made: the counter of rows was seen at its limit, there was no memory, or a page of the row was marked
abbrev pub IsNotForked : {R : Type 0} → ℕ → ForkFault → MutatorState R → MutatorState R → Type 0
IsNotForked pages (fork.Full what limit) old new = (what ≡ Rows) × (limit ≡ 32) × (new ≡ with_view old (saw_full 2 old.pass.1))
IsNotForked pages fork.Memory old new = new ≡ old
IsNotForked pages (fork.Busy unit word) old new = IsForkBusy pages old new unit word
