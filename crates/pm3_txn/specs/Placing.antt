-- What the calls of a transaction on its row make of it.
use Rattle.std.specs.Prelude.{ℕ, ◌≡◌, Bool, true}
use Rattle.pm3_table.specs.declared.unit.Busy.{Busy}
use Rattle.pm3_table.specs.declared.unit.Full.{Full}
use Rattle.pm3_txn.specs.declared.faults.AccessFault as access
use Rattle.pm3_txn.specs.declared.faults.AccessFault.TheVariants as fault
use Rattle.pm3_txn.specs.Puts.{HasPut, IsPinned, IsMarked}
use Rattle.pm3_txn.specs.States.{TxnState, told_in, view_in}
use Rattle.pm3_txn.specs.Touching.{Advances, nothing_more}

-- a page that was refused for a mark, as the fault of an access
abbrev pub busy_fault : Busy → access.AccessFault
busy_fault busy = fault.Busy busy.unit busy.word

-- a counter at its limit, as the fault of an access
abbrev pub full_fault : Full → access.AccessFault
full_fault full = fault.Full full.what full.limit

-- the place of the row has the word, under this tag, and the page that it names is pinned; all else is as it was
pub record IsPlaced {R : Type 0} (old new : TxnState R) (j word : ℕ) (is_ref : Bool) : Type 0 where
  pub rest : new ≡ record old { mutator = new.mutator }
  pub put : HasPut old.mutator new.mutator j word is_ref
  pub pinned : IsPinned (told_in old).pages new.mutator j
  pub calm : (view_in new).refusals ≡ (view_in old).refusals
  pub goes_on : Advances old new nothing_more

-- the page that the word names has a mark: the place is a nil reference, and all else is as it was
pub record IsRefusedPlace {R : Type 0} (old new : TxnState R) (j word : ℕ) (busy : Busy) : Type 0 where
  pub rest : new ≡ record old { mutator = new.mutator }
  pub put : HasPut old.mutator new.mutator j 0 true
  pub marked : IsMarked (told_in old).pages word old.mutator new.mutator busy
  pub goes_on : Advances old new nothing_more

-- the place is a nil reference, and all else is as it was
pub record IsCleared {R : Type 0} (old new : TxnState R) (j : ℕ) : Type 0 where
  pub rest : new ≡ record old { mutator = new.mutator }
  pub put : HasPut old.mutator new.mutator j 0 true
  pub calm : (view_in new).refusals ≡ (view_in old).refusals
  pub goes_on : Advances old new nothing_more
