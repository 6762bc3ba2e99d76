-- Why no room was made for a new object.
use Rattle.std.proofs.Common.{◌≡◌, ◌∙◌, ◌⊎◌, inl, inr, ℕ, true, Option, is_some, sym, ap, subst, arith}
use Rattle.pm3_types.specs.Layout.{PageImage}
use Rattle.pm3_access.specs.Making.{has_room_for}
use Rattle.pm3_txn.specs.declared.faults.AccessFault.{AccessFault}
use Rattle.pm3_txn.specs.declared.faults.AccessFault.TheVariants.{Memory}
use Rattle.pm3_txn.specs.Spaces.{HasNone, IsOutOfPages, IsPageShortage, IsShortOfMemory}
use Rattle.pm3_txn.specs.States.{TxnState}
use Rattle.pm3_txn.proofs.Made.{drew_none, space_itself}

module _ {R : Type 0} where
  -- there was no memory, and nothing was done
  pub short_same : (old new : TxnState R) (fault : AccessFault) → is_some old.held.space ≡ true → fault ≡ Memory → new ≡ old → IsShortOfMemory old new fault
  short_same old new fault there memory same = subst (λ (t : TxnState R). IsShortOfMemory old t fault) (sym same)
      (record { drawn = 0; memory = memory; grown = space_itself old there; drew = (drew_none old, omega arith) })

  -- or no page was free, and none could be drawn
  pub room_refused : (old mid new : TxnState R) (fault : AccessFault) → mid ≡ old → HasNone old.held.space → is_some old.held.space ≡ true
      → IsPageShortage mid new fault ⊎ ((fault ≡ Memory) × (new ≡ mid)) → ((size : ℕ) → IsOutOfPages old new size fault) ⊎ IsShortOfMemory old new fault
  room_refused old mid new fault same none there (inl short) = inl (λ size. of size (subst (λ (t : TxnState R). IsPageShortage t new fault) same short))
    where
      of : (size : ℕ) → IsPageShortage old new fault → IsOutOfPages old new size fault
      of size x = record {
        full = x.full;
        grown = x.grown;
        drew = x.drew;
        filled = x.filled;
        none = λ fits. record { current = ap (λ (o : Option PageImage). has_room_for o size) x.current ∙ fits; free = x.free none };
      }
  room_refused old mid new fault same none there (inr memory) = inr (short_same old new fault there memory.0 (memory.1 ∙ same))
