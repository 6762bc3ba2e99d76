-- The words of a page say where its objects begin.
use Rattle.std.proofs.Common.{◌≡◌, ◌<◌, ◌≤◌, ◌+◌, ◌∙◌, ◌⊎◌, inl, inr, ℕ, zero, suc, Bool, true, false, List, get_or, sym, ap, arith}
use Rattle.std.proofs.lemmas.Bool.{cases_lt, cases_eq, cases_Bool}
use Rattle.std.proofs.lemmas.List.{ext_get_or}
use Rattle.pm3_types.specs.Fields.{Fields}
use Rattle.pm3_types.specs.Layout.{Sheet, IsLaid, is_start, size_at, end_of}

-- no object begins before word 2, or at the end or behind it
pub outside : (catalog : List Fields) (sheet : Sheet) → IsLaid catalog sheet → (i : ℕ) → (i < 2) ⊎ (end_of sheet ≤ i) → is_start sheet i ≡ false
outside catalog sheet laid i where_ = elim (cases_Bool (is_start sheet i)) [ inl is ↦ absurd (nowhere is where_) | inr none ↦ none ]
  where
    nowhere : is_start sheet i ≡ true → (i < 2) ⊎ (end_of sheet ≤ i) → ⊥
    nowhere is (inl low) = let whole = laid.whole i is in omega arith
    nowhere is (inr past) = let whole = laid.whole i is in omega (arith, whole.1, whole.2)

module _ (catalog : List Fields) (words : List ℕ) (a b : List Bool) where
  -- the same from one object on, where it is from the next one on
  step : (k : ℕ) (one : IsLaid catalog (record { words = words; starts = a })) (other : IsLaid catalog (record { words = words; starts = b }))
      → get_or a k false ≡ true → get_or b k false ≡ true → (i : ℕ) → k ≤ i
      → (k + size_at catalog (record { words = words; starts = a }) k < end_of (record { words = words; starts = a })
      → k + size_at catalog (record { words = words; starts = a }) k ≤ i → get_or a i false ≡ get_or b i false)
      → get_or a i false ≡ get_or b i false
  step k one other here there i from rest =
      elim (cases_eq i k) [
        | inl e ↦ ap (λ (j : ℕ). get_or a j false) e ∙ here ∙ sym (ap (λ (j : ℕ). get_or b j false) e ∙ there)
        | inr apart ↦ elim (cases_lt i (k + size_at catalog (record { words = words; starts = a }) k)) [
          | inl inside ↦ one.apart k i here (omega arith) inside ∙ sym (other.apart k i there (omega arith) inside)
          | inr past ↦ elim (cases_lt (k + size_at catalog (record { words = words; starts = a }) k) (end_of (record { words = words; starts = a }))) [
            | inl more ↦ rest more past
            | inr last ↦ outside catalog _ one i (inr (omega arith)) ∙ sym (outside catalog _ other i (inr (omega arith)))
          ]
        ]
      ]

  -- from an object of both on the starts are the same
  same_from : (n k : ℕ) → IsLaid catalog (record { words = words; starts = a }) → IsLaid catalog (record { words = words; starts = b })
      → get_or a k false ≡ true → get_or b k false ≡ true → end_of (record { words = words; starts = a }) ≤ k + n
      → (i : ℕ) → k ≤ i → get_or a i false ≡ get_or b i false
  same_from zero k one other here there far i from =
      outside catalog _ one i (inr (omega arith)) ∙ sym (outside catalog _ other i (inr (omega arith)))
  same_from (suc n) k one other here there far i from =
      step k one other here there i from
      (λ more past. let whole = one.whole k here in
      same_from n (k + size_at catalog (record { words = words; starts = a }) k) one other (one.next k here more) (other.next k there more) (omega (arith, whole.1)) i past)

  -- the words and the catalog say where objects begin
  pub starts_are : IsLaid catalog (record { words = words; starts = a }) → IsLaid catalog (record { words = words; starts = b }) → a ≡ b
  starts_are one other = ext_get_or false a b (one.starts ∙ sym other.starts) (λ i below. at i)
    where
      at : (i : ℕ) → get_or a i false ≡ get_or b i false
      at i = elim (cases_lt i 2) [
        | inl low ↦ outside catalog _ one i (inl low) ∙ sym (outside catalog _ other i (inl low))
        | inr high ↦ elim (cases_lt 2 (end_of (record { words = words; starts = a }))) [
          | inl some ↦ same_from (end_of (record { words = words; starts = a })) 2 one other (one.first some) (other.first some) (omega arith) i high
          | inr none ↦ outside catalog _ one i (inr (omega arith)) ∙ sym (outside catalog _ other i (inr (omega arith)))
        ]
      ]
