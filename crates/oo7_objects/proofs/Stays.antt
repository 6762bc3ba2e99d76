-- Where a call was refused, or only read, nothing is written and the row leads where it led.
use Rattle.std.proofs.Common.{◌≡◌, inl, inr, ℕ, Bool, false, List, Option, slice_index_or, refl, sym, ap, subst}
use Rattle.pm3_access.specs.declared.places.Place.{Place}
use Rattle.pm3_txn.specs.declared.faults.AccessFault.{AccessFault}
use Rattle.pm3_txn.specs.declared.faults.AccessFault.TheVariants.{NotAReference, Nil, Busy, PageFault, Damaged, NoSuchField, NoSuchTail, Full, Memory}
use Rattle.pm3_txn.specs.PlaceAccess.{IsNumberPlace, IsPlaceRefusal}
use Rattle.pm3_txn.specs.Refusals.{IsObjectRefusal, IsTouchRefusal, page_at_place, with_read}
use Rattle.pm3_txn.specs.States.{TxnState, told_in, view_in}
use Rattle.pm3_txn.specs.Touching.{Advances, IsSameButHeld, nothing_more}
use Rattle.pm3_txn.specs.Underway.{IsUnderway}
use Rattle.pm3_txn.proofs.Advancing.{goes_still}
use Rattle.oo7_objects.specs.Wholes.{Kept, KeepsRow}
use Rattle.oo7_objects.proofs.Moves.{kept_by}
use Rattle.oo7_objects.proofs.Rows.{IsStillRow, row_still}

-- nothing was done, and the row is as it was
pub record HasStayed {R : Type 0} (a b : TxnState R) : Type 0 where
  pub goes : Advances a b nothing_more
  pub still : IsStillRow a b

module _ {R : Type 0} where
  pub still_of : (a b : TxnState R) → IsSameButHeld a b → IsStillRow a b
  still_of a b same = record { tags = λ k. ap (λ (l : List Bool). slice_index_or l k false) same.refs; words = same.words }

  pub stayed_by : (a b : TxnState R) → IsSameButHeld a b → Advances a b nothing_more → HasStayed a b
  stayed_by a b same goes = record { goes = goes; still = still_of a b same }

  stayed_itself : (a : TxnState R) → HasStayed a a
  stayed_itself a = record { goes = goes_still (told_in a) (view_in a) (view_in a) a.held refl; still = record { tags = λ k. refl; words = λ k. refl } }

  stayed_read : (a : TxnState R) (i : ℕ) → HasStayed a (with_read a i)
  stayed_read a i = record { goes = goes_still (told_in a) (view_in a) (view_in (with_read a i)) a.held refl; still = record { tags = λ k. refl; words = λ k. refl } }

  pub read_stayed : (a b : TxnState R) (i : ℕ) → b ≡ with_read a i → HasStayed a b
  read_stayed a b i is = subst (HasStayed a) (sym is) (stayed_read a i)

  pub touch_stayed : (faults : R → ℕ) (a b : TxnState R) (page : ℕ) (fault : AccessFault) → IsTouchRefusal faults a b page fault → HasStayed a b
  touch_stayed faults a b page (NotAReference index) x = absurd x
  touch_stayed faults a b page (Nil index) x = absurd x
  touch_stayed faults a b page (Busy unit word) x = stayed_by a b x.1.same x.1.goes_on
  touch_stayed faults a b page PageFault x = stayed_by a b x.1.same x.1.goes_on
  touch_stayed faults a b page (Damaged p word) x = stayed_by a b x.1.same x.1.goes_on
  touch_stayed faults a b page (NoSuchField ty field) x = absurd x
  touch_stayed faults a b page (NoSuchTail ty at) x = absurd x
  touch_stayed faults a b page (Full what limit) x = absurd x
  touch_stayed faults a b page Memory x = stayed_by a b x.same x.goes_on

  pub object_stayed : (faults : R → ℕ) (a b : TxnState R) (i : ℕ) (fault : AccessFault) → IsObjectRefusal faults a b i fault → HasStayed a b
  object_stayed faults a b i (NotAReference index) x = subst (HasStayed a) (sym x.2) (stayed_itself a)
  object_stayed faults a b i (Nil index) x = subst (HasStayed a) (sym x.2) (stayed_read a i)
  object_stayed faults a b i (Busy unit word) x = touch_stayed faults a b (page_at_place a i) (Busy unit word) x.1
  object_stayed faults a b i PageFault x = touch_stayed faults a b (page_at_place a i) PageFault x.1
  object_stayed faults a b i (Damaged page word) x = elim x.1 [
    | inl refused ↦ touch_stayed faults a b (page_at_place a i) (Damaged page word) refused
    | inr missing ↦ stayed_by a b missing.touched.same missing.touched.goes_on
  ]
  object_stayed faults a b i (NoSuchField ty field) x = absurd x
  object_stayed faults a b i (NoSuchTail ty at) x = absurd x
  object_stayed faults a b i (Full what limit) x = absurd x
  object_stayed faults a b i Memory x = touch_stayed faults a b (page_at_place a i) Memory x.1

  pub place_stayed : (faults : R → ℕ) (a b : TxnState R) (i : ℕ) (place : Place) (is_ref : Bool) (fault : AccessFault) → IsPlaceRefusal faults a b i place is_ref fault → HasStayed a b
  place_stayed faults a b i place is_ref fault (inl object) = object_stayed faults a b i fault object
  place_stayed faults a b i place is_ref fault (inr lacking) = stayed_by a b lacking.object.touched.same lacking.object.touched.goes_on

  pub number_stayed : (a b : TxnState R) (k : ℕ) (fault : AccessFault) → IsNumberPlace a b k fault → HasStayed a b
  number_stayed a b k fault x = subst (HasStayed a) (sym x.same) (stayed_itself a)

  pub stayed_kept : (a b : TxnState R) → b.heap ≡ a.heap → HasStayed a b → Kept a b
  stayed_kept a b same stayed = kept_by a b same stayed.goes

  pub stayed_row : (content : R → Option (List ℕ)) (a b : TxnState R) → b.heap ≡ a.heap → IsUnderway content a → HasStayed a b → (from end : ℕ) → KeepsRow a b from end
  stayed_row content a b same underway stayed = row_still content a b same underway stayed.goes.keeps stayed.still
