-- Zero bytes, tests of fields, and pieces of bytes.
use Rattle.std.proofs.Common.{◌≡◌, ◌≤◌, ◌+◌, ℕ, zero, suc, List, [], ◌∷◌, ◌++◌, length, drop, replicate, Bool, true, false, None, nat_le, refl, sym, arith, ap, ◌∙◌}
use Rattle.std.proofs.lemmas.Bool.{le-leb, and_from, and_parts}
use Rattle.std.proofs.lemmas.Bool.Decides.{nat_tests}
use Rattle.std.proofs.lemmas.List.{take-append-drop, drop-drop}
use Rattle.std.specs.Prelude.{◌==◌, ◌&&◌}
use Rattle.std.specs.Int.{Width, byte_len}
use Rattle.std.specs.Option.{option_or}
use Rattle.pm3_types.specs.Bytes.{Field, piece, is_zero, number_at, is_between, are_zeros, has_field, unless, offset_of, first_departure}

first_of : (b : ℕ) (t : Bool) → (b == 0) && t ≡ true → b ≡ 0
first_of b t is = grind (arith, nat_tests)

rest_of : (a t : Bool) → a && t ≡ true → t ≡ true
rest_of true t is = is
rest_of false t is = cc

-- zero bytes are so many zeros
pub zeros_of : (bytes : List ℕ) → is_zero bytes ≡ true → bytes ≡ replicate (length bytes) 0
zeros_of [] is = refl
zeros_of (b ∷ bytes) is =
    let rest : bytes ≡ replicate (length bytes) 0 = zeros_of bytes (rest_of (b == 0) (is_zero bytes) is) in
    let first : b ≡ 0 = first_of b (is_zero bytes) is in
    λ i. first i ∷ rest i

-- so many zeros are zero
pub is_zero-replicate : (n : ℕ) → is_zero (replicate n 0) ≡ true
is_zero-replicate zero = refl
is_zero-replicate (suc n) = is_zero-replicate n

-- a field that doesn't depart has the zeros that the form asks for
pub zeros_at : (at n : ℕ) (bytes : List ℕ) → length (piece at n bytes) ≡ n → are_zeros at n bytes ≡ true → piece at n bytes ≡ replicate n 0
unfolding are_zeros
zeros_at at n bytes long is =
    zeros_of (piece at n bytes) (and_parts (nat_le (at + n) (length bytes)) (is_zero (piece at n bytes)) is).1 ∙ ap (λ (k : ℕ). replicate k 0) long

-- a number that is there and within its bounds doesn't depart
pub between : (at : ℕ) (w : Width) (least most n : ℕ) (bytes : List ℕ) → at + byte_len w ≤ length bytes → number_at w at bytes ≡ n → least ≤ n → n ≤ most
    → is_between at w least most bytes ≡ true
unfolding is_between
between at w least most n bytes fits is low high =
    and_from (nat_le (at + byte_len w) (length bytes)) (nat_le least (number_at w at bytes) && nat_le (number_at w at bytes) most)
    (le-leb (at + byte_len w) (length bytes) fits)
    (and_from (nat_le least (number_at w at bytes)) (nat_le (number_at w at bytes) most) (le-leb least (number_at w at bytes) (omega arith))
    (le-leb (number_at w at bytes) most (omega arith)))

-- zeros that are there don't depart
pub zeros_there : (at n : ℕ) (bytes : List ℕ) → at + n ≤ length bytes → is_zero (piece at n bytes) ≡ true → are_zeros at n bytes ≡ true
unfolding are_zeros
zeros_there at n bytes fits zero_bytes =
    and_from (nat_le (at + n) (length bytes)) (is_zero (piece at n bytes)) (le-leb (at + n) (length bytes) fits) zero_bytes

-- a field that is as the form says, and no departure behind it
pub none_yet : (field : Field) (fields : List Field) (bytes : List ℕ) → has_field bytes field ≡ true → first_departure fields bytes ≡ None
    → first_departure (field ∷ fields) bytes ≡ None
none_yet field fields bytes is none = ap (λ (b : Bool). option_or (unless b (offset_of field)) (first_departure fields bytes)) is ∙ none

-- a list from an offset on is a piece and what is behind it
pub piece_before : (bytes cell behind : List ℕ) (n at next : ℕ) → at + n ≡ next → cell ≡ piece at n bytes → drop next bytes ≡ behind → drop at bytes ≡ cell ++ behind
piece_before bytes cell behind n at next follows is rest =
    sym (take-append-drop n (drop at bytes))
    ∙ ap (λ (front : List ℕ). front ++ drop n (drop at bytes)) (sym is)
    ∙ ap (λ (back : List ℕ). cell ++ back) (drop-drop n at bytes ∙ ap (λ (k : ℕ). drop k bytes) follows ∙ rest)
