-- What `parse` reads of a word of decimal digits.
use Rattle.std.proofs.Common.{◌≡◌, ℕ, ◌<◌, ◌^◌, Bool, true, false, ◌&&◌, List, [], ◌∷◌, length, None, Result, Err, arith, rules}
use Rattle.std.specs.Char.{is_ascii_digit}
use Rattle.std.specs.List.{list_all}
use Rattle.std.specs.Result.{OkIff}
use Rattle.std.specs.Str.Parse.{digits_value, ParsesUnsigned}
use Rattle.std.proofs.lemmas.Str.Parse.{IsNumeralModel, numerals_by_value, parse_digits}
use Rattle.std.proofs.lemmas.Bool.Decides.{nat_tests}
use Rattle.oo7.specs.Words.{is_decimal, number_of}

own : IsNumeralModel (λ ds. list_all is_ascii_digit ds ≡ true) (digits_value 10)
own = numerals_by_value _ (search rules)

and_right : (a b : Bool) → (a && b) ≡ true → b ≡ true
and_right true b both = both
and_right false b both = cc

-- the number is read, but where it is too large
pub parsed : {E : Type 0} (text : List ℕ) (r : Result ℕ E) → is_decimal text ≡ true → ParsesUnsigned 32 10 text r → OkIff r ((0 < length text) × (digits_value 10 text < 2 ^ 32)) (digits_value 10 text)
parsed [] r decimal parses = absurd (cc decimal)
parsed (d ∷ ds) r decimal parses = parse_digits own 32 (d ∷ ds) r parses (and_right _ _ decimal)

-- a number that isn't read is above each bound that a u32 can be
pub too_large : {E : Type 0} (least most : ℕ) (text : List ℕ) (e : E) → is_decimal text ≡ true → most < 2 ^ 32 → ParsesUnsigned 32 10 text (Err e) → number_of least most text ≡ None
too_large least most [] e decimal small parses = absurd (cc decimal)
too_large least most (d ∷ ds) e decimal small parses =
    let large : ¬ ((0 < length (d ∷ ds)) × (digits_value 10 (d ∷ ds) < 2 ^ 32)) = parsed (d ∷ ds) (Err e) decimal parses in
    grind (arith, nat_tests, large)
