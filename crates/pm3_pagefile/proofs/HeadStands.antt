-- A field of page 0 that departs can't be mended by what stands behind it.
use Rattle.std.proofs.Common.{◌≡◌, ◌≢◌, ◌⊎◌, inl, inr, ⊎_elim, ◌≤◌, ◌<◌, ◌+◌, ◌-◌, ◌∙◌, ℕ, Bool, true, false, List, [], ◌∷◌, length, take, drop, get_or, Option, None, Some, nat_le, refl, sym, ap, subst, arith, take-take, get_or-take}
use Rattle.std.proofs.lemmas.Bool.{cases_lt}
use Rattle.std.proofs.lemmas.Bool.Decides.{nat_tests}
use Rattle.std.proofs.lemmas.List.{drop-take, length-take}
use Rattle.std.specs.Prelude.{◌^◌, ◌&&◌}
use Rattle.std.specs.Int.{Width, byte_len, w32, w64}
use Rattle.std.specs.Option.{option_or}
use Rattle.pm3_page.specs.declared.marks.Marks.{Marks}
use Rattle.pm3_page.specs.Head.{AreMarks, head_page}
use Rattle.pm3_types.specs.Bytes.{Field, piece, is_zero, number_at, is_between, are_zeros, has_field, offset_of, unless, first_departure}
use Rattle.pm3_types.specs.Bytes.Field.{Number, Zeros}
use Rattle.pm3_pagefile.specs.HeadForm.{head_departure, kind}
use Rattle.pm3_pagefile.specs.HeadLaws.{HeadDepartureStands, behind_field}
use Rattle.pm3_pagefile.proofs.OneHead.{head_has_form}

-- the first bytes of two lists that are the same up to e
module _ (xs ys : List ℕ) (e : ℕ) (same : take e ys ≡ take e xs) where
  byte_same : (i : ℕ) → i < e → get_or ys i 0 ≡ get_or xs i 0
  byte_same i there = sym (get_or-take e ys i 0 there) ∙ ap (λ (l : List ℕ). get_or l i 0) same ∙ get_or-take e xs i 0 there

  drop_same : (at : ℕ) → at ≤ e → take (e - at) (drop at ys) ≡ take (e - at) (drop at xs)
  drop_same at low =
      let whole : at + (e - at) ≡ e = omega arith in
      sym (drop-take at (e - at) ys) ∙ ap (λ (n : ℕ). drop at (take n ys)) whole ∙ ap (drop at) same ∙ ap (λ (n : ℕ). drop at (take n xs)) (sym whole)
      ∙ drop-take at (e - at) xs

  there_same : (n : ℕ) → n ≤ e → nat_le n (length ys) ≡ nat_le n (length xs)
  there_same n low =
      let long : length (take e ys) ≡ length (take e xs) = ap length same in
      grind (arith, nat_tests, long, length-take e ys, length-take e xs)

  piece_same : (at n : ℕ) → at + n ≤ e → piece at n ys ≡ piece at n xs
  piece_same at n low =
      sym (take-take n (e - at) (drop at ys) (omega arith)) ∙ ap (take n) (drop_same at (omega arith)) ∙ take-take n (e - at) (drop at xs) (omega arith)

-- numbers of the same bytes
number_alike_32 : (xs ys : List ℕ) → ((i : ℕ) → i < 4 → get_or ys i 0 ≡ get_or xs i 0) → number_at w32 0 ys ≡ number_at w32 0 xs
unfolding number_at
number_alike_32 xs ys same = omega (arith, same 0 (omega arith), same 1 (omega arith), same 2 (omega arith), same 3 (omega arith))

number_alike_64 : (xs ys : List ℕ) → ((i : ℕ) → i < 8 → get_or ys i 0 ≡ get_or xs i 0) → number_at w64 0 ys ≡ number_at w64 0 xs
unfolding number_at
number_alike_64 xs ys same =
    omega (arith, same 0 (omega arith), same 1 (omega arith), same 2 (omega arith), same 3 (omega arith), same 4 (omega arith), same 5 (omega arith), same 6 (omega arith), same 7 (omega arith))

from_drop : (w : Width) (at : ℕ) (l : List ℕ) → number_at w at l ≡ number_at w 0 (drop at l)
unfolding number_at
from_drop w at l = refl

module _ (xs ys : List ℕ) (e : ℕ) (same : take e ys ≡ take e xs) where
  number_same_32 : (at : ℕ) → at + 4 ≤ e → number_at w32 at ys ≡ number_at w32 at xs
  number_same_32 at low =
      from_drop w32 at ys ∙ number_alike_32 (drop at xs) (drop at ys) (λ i small. byte_same (drop at xs) (drop at ys) (e - at) (drop_same xs ys e same at (omega arith)) i (omega arith))
      ∙ sym (from_drop w32 at xs)

  number_same_64 : (at : ℕ) → at + 8 ≤ e → number_at w64 at ys ≡ number_at w64 at xs
  number_same_64 at low =
      from_drop w64 at ys ∙ number_alike_64 (drop at xs) (drop at ys) (λ i small. byte_same (drop at xs) (drop at ys) (e - at) (drop_same xs ys e same at (omega arith)) i (omega arith))
      ∙ sym (from_drop w64 at xs)

  short_same : (at least most : ℕ) → at + 4 ≤ e → is_between at w32 least most ys ≡ is_between at w32 least most xs
  unfolding is_between
  short_same at least most low =
      λ i. there_same xs ys e same (at + 4) low i && (nat_le least (number_same_32 at low i) && nat_le (number_same_32 at low i) most)

  long_same : (at least most : ℕ) → at + 8 ≤ e → is_between at w64 least most ys ≡ is_between at w64 least most xs
  unfolding is_between
  long_same at least most low =
      λ i. there_same xs ys e same (at + 8) low i && (nat_le least (number_same_64 at low i) && nat_le (number_same_64 at low i) most)

  zeros_same : (at n : ℕ) → at + n ≤ e → are_zeros at n ys ≡ are_zeros at n xs
  unfolding are_zeros
  zeros_same at n low = λ i. there_same xs ys e same (at + n) low i && is_zero (piece_same xs ys e same at n low i)

-- where nothing departs, the first field is good and nothing behind it departs
good_first : (good : Bool) (at : ℕ) {later : Option ℕ} → option_or (unless good at) later ≡ None → (good ≡ true) × (later ≡ None)
good_first true at {later} is = (refl, is)
good_first false at {later} is = absurd (cc is)

-- a departure is at the first field, which then isn't good, or behind it
here_or_behind : (good : Bool) (at o : ℕ) {later : Option ℕ} → option_or (unless good at) later ≡ Some o → ((at ≡ o) × (good ≡ false)) ⊎ (later ≡ Some o)
here_or_behind true at o {later} is = inr is
here_or_behind false at o {later} is = inl (cc is, refl)

true_false : {b c : Bool} → b ≡ true → c ≡ false → b ≡ c → ⊥
true_false is isn't same = cc

pub head_departure_stands : HeadDepartureStands
head_departure_stands bytes at marks departs are same =
    let head : List ℕ = head_page marks in
    let e : ℕ = behind_field at in
    let P : ℕ = number_at w32 12 bytes in
    let H : ℕ = number_at w32 12 head in
    let k0 = good_first (is_between 0 w64 kind kind head) 0 (head_has_form marks are) in
    let k1 = good_first (is_between 8 w32 1 1 head) 8 k0.1 in
    let k2 = good_first (is_between 12 w32 16 16384 head) 12 k1.1 in
    let k3 = good_first (is_between 16 w32 3 H head) 16 k2.1 in
    let k4 = good_first (is_between 20 w32 0 0 head) 20 k3.1 in
    let k5 = good_first (is_between 24 w64 1 (2 ^ 62) head) 24 k4.1 in
    let k6 = good_first (is_between 32 w64 1 (2 ^ 64 - 1) head) 32 k5.1 in
    let k7 = good_first (are_zeros 40 4056 head) 40 k6.1 in
    let long : (o least most : ℕ) → o + 8 ≡ behind_field o → is_between o w64 least most head ≡ true → (o ≡ at) × (is_between o w64 least most bytes ≡ false) → ⊥ =
    λ o least most end good here. true_false good here.1 (long_same bytes head e same o least most (omega (arith, end, ap behind_field here.0))) in
    let short : (o least most : ℕ) → o + 4 ≡ behind_field o → is_between o w32 least most head ≡ true → (o ≡ at) × (is_between o w32 least most bytes ≡ false) → ⊥ =
    λ o least most end good here. true_false good here.1 (short_same bytes head e same o least most (omega (arith, end, ap behind_field here.0))) in
    let highest : (16 ≡ at) × (is_between 16 w32 3 P bytes ≡ false) → ⊥ =
    λ here.
    let count : H ≡ P = number_same_32 bytes head e same 12 (omega (arith, ap behind_field here.0)) in
    short 16 3 P refl (subst (λ (n : ℕ). is_between 16 w32 3 n head ≡ true) count k3.0) here in
    let last : (40 ≡ at) × (are_zeros 40 4056 bytes ≡ false) → ⊥ =
    λ here. true_false k7.0 here.1 (zeros_same bytes head e same 40 4056 (omega (arith, ap behind_field here.0))) in
    ⊎_elim (long 0 kind kind refl k0.0)
    (λ d1. ⊎_elim (short 8 1 1 refl k1.0)
    (λ d2. ⊎_elim (short 12 16 16384 refl k2.0)
    (λ d3. ⊎_elim highest
    (λ d4. ⊎_elim (short 20 0 0 refl k4.0)
    (λ d5. ⊎_elim (long 24 1 (2 ^ 62) refl k5.0)
    (λ d6. ⊎_elim (long 32 1 (2 ^ 64 - 1) refl k6.0)
    (λ d7. ⊎_elim last (λ d8. absurd (cc d8)) (here_or_behind (are_zeros 40 4056 bytes) 40 at d7))
    (here_or_behind (is_between 32 w64 1 (2 ^ 64 - 1) bytes) 32 at d6))
    (here_or_behind (is_between 24 w64 1 (2 ^ 62) bytes) 24 at d5))
    (here_or_behind (is_between 20 w32 0 0 bytes) 20 at d4))
    (here_or_behind (is_between 16 w32 3 P bytes) 16 at d3))
    (here_or_behind (is_between 12 w32 16 16384 bytes) 12 at d2))
    (here_or_behind (is_between 8 w32 1 1 bytes) 8 at d1))
    (here_or_behind (is_between 0 w64 kind kind bytes) 0 at departs)
