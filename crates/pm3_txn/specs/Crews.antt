-- How mutators are made.
use Rattle.std.specs.Prelude.{ℕ, ◌≡◌, ◌<◌, true, false, replicate}
use Rattle.atomic_table.specs.Seated.{TableId}
use Rattle.pm3_table.specs.declared.unit.Limit.TheVariants.{Rows}
use Rattle.pm3_table.specs.declared.view.View.{View}
use Rattle.pm3_table.specs.Deeds.{word_of, marks_of}
use Rattle.pm3_table.specs.Ops.{saw_full}
use Rattle.pm3_table.specs.Passes.{Becomes}
use Rattle.pm3_table.specs.Seats.{new_view}
use Rattle.pm3_txn.specs.declared.crew.FreshFault.{FreshFault}
use Rattle.pm3_txn.specs.declared.crew.FreshFault.TheVariants.{Full, Memory}
use Rattle.pm3_txn.specs.States.{MutatorState}
use Rattle.pm3_txn.specs.Takes.{with_view}

-- a new mutator: a row of its own, which holds nil references, the space with that number, and this reader; it has seen what its
-- maker had, and notes no name
pub record IsFresh {R : Type 0} (maker made : MutatorState R) (reader : R) : Type 0 where
  pub row : ℕ
  pub low : row < 32
  pub is : made ≡ record {
    pass = (maker.pass.0, new_view row maker.pass.1);
    space = row;
    reader = reader;
    refs = replicate 512 true;
    wrote = replicate 512 false;
    next_name = 0;
  }

-- The first places of a row hold 0, and all else of the pass is as it was.
pub record IsRowCleared (places : ℕ) (old new : TableId × View) : Type 0 where
  pub row : (q : ℕ) → q < places → word_of new.1.log q ≡ 0
  pub marks : (p : ℕ) → marks_of new.1.log p ≡ marks_of old.1.log p
  pub view : Becomes old new (record old.1 { log = new.1.log })

-- none was made: the counter of rows was seen at its limit, or nothing was done
abbrev pub IsNotMade : {R : Type 0} → FreshFault → MutatorState R → MutatorState R → Type 0
IsNotMade (Full what limit) old new = (what ≡ Rows) × (limit ≡ 32) × (new ≡ with_view old (saw_full 2 old.pass.1))
IsNotMade Memory old new = new ≡ old
