-- What a call of a transaction makes of its mutator and of what it holds, when it touches a page.
use Rattle.std.specs.Prelude.{ℕ, ◌≡◌, ◌≢◌, true, if◌then◌else◌, List, ◌∷◌, is_some}
use Rattle.pm3_graph.specs.declared.operations.Op.{Op}
use Rattle.pm3_access.specs.Holding.{image_in}
use Rattle.pm3_history.specs.State.{State}
use Rattle.pm3_table.specs.declared.view.Hold.TheVariants.{Took, Gave}
use Rattle.pm3_table.specs.Deeds.{word_of, stands_of, marks_of}
use Rattle.pm3_txn.specs.Owners.{AdvancesOn}
use Rattle.pm3_txn.specs.States.{TxnState, told_in, view_in}

-- From one moment of a transaction to another, in which it did what `more` adds to whatever it had done before. Objects stay where they
-- were.
abbrev pub Advances : {R : Type 0} → TxnState R → TxnState R → (State → List (Op × ℕ) → List (Op × ℕ)) → Type 0
Advances old new more = AdvancesOn (told_in old) (view_in old) old.held (view_in new) new.held more

-- nothing was done
abbrev pub nothing_more : State → List (Op × ℕ) → List (Op × ℕ)
nothing_more st ops = ops

-- the transaction is the same, and so are the words of its row, but for what its view saw, its reader, and what it holds
pub record IsSameButHeld {R : Type 0} (old new : TxnState R) : Type 0 where
  pub heap : new.heap ≡ old.heap
  pub tag : new.tag ≡ old.tag
  pub table : new.mutator.pass.0 ≡ old.mutator.pass.0
  pub space : new.mutator.space ≡ old.mutator.space
  pub refs : new.mutator.refs ≡ old.mutator.refs
  pub wrote : new.mutator.wrote ≡ old.mutator.wrote
  pub words : (q : ℕ) → word_of (view_in new).log q ≡ word_of (view_in old).log q
  pub stands : (q : ℕ) → stands_of (view_in new).log q ≡ stands_of (view_in old).log q
  pub marks : (p : ℕ) → marks_of (view_in new).log p ≡ marks_of (view_in old).log p
  pub row : (view_in new).row ≡ (view_in old).row
  pub mine : (view_in new).mine ≡ (view_in old).mine
  pub faults : (view_in new).faults ≡ (view_in old).faults

-- no page and no name was drawn, nor tried to be; and none is noted that wasn't
abbrev pub DrewNothing : {R : Type 0} → TxnState R → TxnState R → Type 0
DrewNothing old new = ((view_in new).drew_pages ≡ (view_in old).drew_pages) × ((view_in new).drew_names ≡ (view_in old).drew_names)
    × ((view_in new).filled ≡ (view_in old).filled) × (new.mutator.next_name ≡ old.mutator.next_name)

-- The page is held. Where it wasn't before, it was taken, and nothing else was.
pub record HasTouched {R : Type 0} (old new : TxnState R) (page : ℕ) (more : State → List (Op × ℕ) → List (Op × ℕ)) : Type 0 where
  pub same : IsSameButHeld old new
  pub drew : DrewNothing old new
  pub refusals : (view_in new).refusals ≡ (view_in old).refusals
  pub holds : (view_in new).holds ≡ (if is_some (image_in old.held page) then (view_in old).holds else (Took page ∷ (view_in old).holds))
  pub held : is_some (image_in new.held page) ≡ true
  pub others : (q : ℕ) → q ≢ page → image_in new.held q ≡ image_in old.held q
  pub goes_on : Advances old new more

-- The page was refused: its word showed another holder. Only the refusals rose.
pub record IsTurnedAway {R : Type 0} (old new : TxnState R) (page word : ℕ) : Type 0 where
  pub same : IsSameButHeld old new
  pub drew : DrewNothing old new
  pub seen : word ≢ 0
  pub refusals : (view_in new).refusals ≡ record { unit = page; word = word } ∷ (view_in old).refusals
  pub holds : (view_in new).holds ≡ (view_in old).holds
  pub held : new.held ≡ old.held
  pub absent : is_some (image_in old.held page) ≡ true → ⊥
  pub goes_on : Advances old new nothing_more

-- The page was taken and given back, since its image couldn't be had.
pub record IsGivenBack {R : Type 0} (old new : TxnState R) (page : ℕ) : Type 0 where
  pub same : IsSameButHeld old new
  pub drew : DrewNothing old new
  pub refusals : (view_in new).refusals ≡ (view_in old).refusals
  pub holds : (view_in new).holds ≡ Gave page ∷ Took page ∷ (view_in old).holds
  pub held : new.held ≡ old.held
  pub absent : is_some (image_in old.held page) ≡ true → ⊥
  pub goes_on : Advances old new nothing_more
