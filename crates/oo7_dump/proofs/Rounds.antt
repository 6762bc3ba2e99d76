-- Once all that are met were looked at, to look further meets no more.
use Rattle.std.proofs.Common.{◌≡◌, ◌≤◌, ◌+◌, ◌-◌, ℕ, zero, suc, List, [], length, Option, Some, refl, sym, ap, ◌∙◌, arith, inl, inr}
use Rattle.std.specs.Prelude.{slice_get, fold}
use Rattle.std.specs.List.{range_with_len}
use Rattle.std.proofs.lemmas.Option.{slice_get_past}
use Rattle.std.proofs.lemmas.Bool.{cases_lt}
use Rattle.pm3_types.specs.Fields.{Fields}
use Rattle.pm3_types.specs.Numbering.{look, meet, met_from, names_of, names_under}
use Rattle.pm3_types.specs.Record.{Record}

module _ (catalog : List Fields) (A : ℕ → Option Record) where
  still : (k i : ℕ) (met : List ℕ) → length met ≤ i → fold (look catalog A) met (range_with_len i k) ≡ met
  still zero i met past = refl
  still (suc k) i met past =
      ap (λ (o : Option ℕ). fold (look catalog A) (meet A met (names_under catalog A o)) (range_with_len (i + 1) k)) (slice_get_past met i past)
      ∙ still k (i + 1) met (omega arith)

  split : (j k i : ℕ) (met : List ℕ)
      → fold (look catalog A) met (range_with_len i (j + k)) ≡ fold (look catalog A) (fold (look catalog A) met (range_with_len i j)) (range_with_len (i + j) k)
  split zero k i met =
      let none : 0 + k ≡ k = omega arith in
      let at : i ≡ i + 0 = omega arith in
      ap (λ (n : ℕ). fold (look catalog A) met (range_with_len i n)) none ∙ ap (λ (n : ℕ). fold (look catalog A) met (range_with_len n k)) at
  split (suc j) k i met =
      let more : suc j + k ≡ suc (j + k) = omega arith in
      let at : i + 1 + j ≡ i + suc j = omega arith in
      ap (λ (n : ℕ). fold (look catalog A) met (range_with_len i n)) more
      ∙ split j k (i + 1) (look catalog A met i)
      ∙ ap (λ (n : ℕ). fold (look catalog A) (fold (look catalog A) (look catalog A met i) (range_with_len (i + 1) j)) (range_with_len n k)) at

  module _ (roots : List ℕ) where
    further : (count more : ℕ) → length (met_from catalog A count roots) ≤ count → met_from catalog A (count + more) roots ≡ met_from catalog A count roots
    further count more enough =
        split count more 0 (meet A [] roots)
        ∙ still more (0 + count) (met_from catalog A count roots) (omega arith)

    -- how many are looked at makes no difference, once all that are met are
    pub enough_alike : (one other : ℕ) → length (met_from catalog A one roots) ≤ one → length (met_from catalog A other roots) ≤ other
        → met_from catalog A one roots ≡ met_from catalog A other roots
    enough_alike one other enough also = elim (cases_lt one other) [
      | inl less ↦
          let sum : one + (other - one) ≡ other = omega arith in
          sym (ap (λ (n : ℕ). met_from catalog A n roots) (sym sum) ∙ further one (other - one) enough)
      | inr more ↦
          let sum : other + (one - other) ≡ one = omega arith in
          ap (λ (n : ℕ). met_from catalog A n roots) (sym sum) ∙ further other (one - other) also
    ]

    one_more : (i a : ℕ) → slice_get (met_from catalog A i roots) i ≡ Some a
        → met_from catalog A (i + 1) roots ≡ meet A (met_from catalog A i roots) (names_under catalog A (Some a))
    one_more i a is =
        let at : 0 + i ≡ i = omega arith in
        split i 1 0 (meet A [] roots)
        ∙ ap (λ (n : ℕ). look catalog A (met_from catalog A i roots) n) at
        ∙ ap (λ (o : Option ℕ). meet A (met_from catalog A i roots) (names_under catalog A o)) is

    -- the next of those met has been looked at
    pub looked_more : (before now : List ℕ) (i a : ℕ) → before ≡ met_from catalog A i roots → slice_get before i ≡ Some a → now ≡ meet A before (names_of catalog (A a))
        → now ≡ met_from catalog A (i + 1) roots
    looked_more before now i a so_far at is =
        is ∙ ap (λ (l : List ℕ). meet A l (names_of catalog (A a))) so_far
        ∙ sym (one_more i a (sym (ap (λ (l : List ℕ). slice_get l i) so_far) ∙ at))
