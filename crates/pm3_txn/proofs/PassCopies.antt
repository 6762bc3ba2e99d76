-- The references of what a pass leaves are new addresses of those before it.
use Rattle.std.proofs.Common.{◌≡◌, ◌+◌, ◌<◌, ◌∙◌, ℕ, true, List, Option, Some, None, refl, sym, ap, subst}
use Rattle.std.specs.Prelude.{slice_get, slice_index}
use Rattle.std.specs.FinMap.{get}
use Rattle.pm3_core.specs.declared.naming.TheConstants.{BASE}
use Rattle.pm3_types.specs.Fields.{Fields}
use Rattle.pm3_types.specs.Layout.{Sheet, is_address, page_in, tail_in, type_in, word_in}
use Rattle.pm3_types.specs.PageForm.{IsReferenceIn, map_at, tail_at}
use Rattle.pm3_types.specs.PassMoves.{moved_by}
use Rattle.pm3_types.specs.PassSets.{Before, IsDead}
use Rattle.pm3_types.specs.PassShown.{IsCopy}
use Rattle.pm3_types.specs.Shown.{Images}
use Rattle.pm3_copy.specs.CarriedOut.{IsCarriedOut}
use Rattle.pm3_history.proofs.Laying.{one_value, some_none}
use Rattle.pm3_txn.proofs.PassAfter.{StandsOn, object_at_on}

-- word k of the body of the object at an address on a sheet is a reference, and this is it
pub record Refers (catalog : List Fields) (a k w : ℕ) (sheet : Sheet) : Type 0 where
  pub place : IsReferenceIn (map_at catalog sheet (word_in BASE a)) (tail_at sheet (word_in BASE a)) k
  pub word : slice_index sheet.words (word_in BASE a + 2 + k) ≡ w

module _ (catalog : List Fields) (before : Before) (fresh : List ℕ) (all now space written : Images) (carried : IsCarriedOut catalog BASE before fresh all now space written) where
  abbrev moved : ℕ → ℕ
  moved = moved_by carried.moves

  -- so are those of an object
  pub copied_from : (a b k : ℕ) (sheet : Sheet) (was : StandsOn all a) → (IsDead catalog BASE before a → ⊥) → moved a ≡ b → get now (page_in BASE b) ≡ Some sheet
      → IsReferenceIn (map_at catalog sheet (word_in BASE b)) (tail_at sheet (word_in BASE b)) k
      → (w : ℕ) × Refers catalog a k w was.sheet × (slice_index sheet.words (word_in BASE b + 2 + k) ≡ moved w)
  copied_from a b k sheet was live at on place = (slice_index was.sheet.words (word_in BASE a + 2 + k), record { place = old; word = refl }, after)
    where
      copy : (is_address BASE (moved a) ≡ true)
          × ((new : Sheet) × (get now (page_in BASE (moved a)) ≡ Some new) × IsCopy catalog moved was.sheet (word_in BASE a) new (word_in BASE (moved a)))
      copy = carried.carried.objects a was.sheet (object_at_on all a was.sheet was.on was.address was.unmoved) live was.on

      same : copy.1.0 ≡ sheet
      same = one_value (get now (page_in BASE b)) copy.1.0 sheet (ap (λ (c : ℕ). get now (page_in BASE c)) (sym at) ∙ copy.1.1) on

      head : slice_index sheet.words (word_in BASE b) ≡ slice_index was.sheet.words (word_in BASE a)
      head = sym (ap (λ (s : Sheet). slice_index s.words (word_in BASE (moved a))) same ∙ ap (λ (c : ℕ). slice_index sheet.words (word_in BASE c)) at) ∙ copy.1.2.head

      old : IsReferenceIn (map_at catalog was.sheet (word_in BASE a)) (tail_at was.sheet (word_in BASE a)) k
      old = subst (λ (w : ℕ). IsReferenceIn (slice_get catalog (type_in w)) (tail_in w) k) head place

      after : slice_index sheet.words (word_in BASE b + 2 + k) ≡ moved (slice_index was.sheet.words (word_in BASE a + 2 + k))
      after = sym (ap (λ (s : Sheet). slice_index s.words (word_in BASE (moved a) + 2 + k)) same ∙ ap (λ (c : ℕ). slice_index sheet.words (word_in BASE c + 2 + k)) at) ∙ copy.1.2.references k old

  -- and those of a root slot
  pub root_from : (slot : ℕ) (sheet : Sheet) → slot < 16 → get now 2 ≡ Some sheet
      → (old : Sheet) × (get all 2 ≡ Some old) × (slice_index sheet.words (2 + slot) ≡ moved (slice_index old.words (2 + slot)))
  root_from slot sheet low on = of (get all 2) refl
    where
      of : (o : Option Sheet) → get all 2 ≡ o → (old : Sheet) × (get all 2 ≡ Some old) × (slice_index sheet.words (2 + slot) ≡ moved (slice_index old.words (2 + slot)))
      of None off = absurd (some_none (get now 2) sheet on (carried.carried.no_roots off))
      of (Some old) there =
          let copy = carried.carried.roots old there in
          let same : copy.0 ≡ sheet = one_value (get now 2) copy.0 sheet copy.1 on in
          (old, there, ap (λ (s : Sheet). slice_index s.words (2 + slot)) (sym same) ∙ copy.2 slot low)
