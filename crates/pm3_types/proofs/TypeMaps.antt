-- Which fields of a type map may be references.
use Rattle.std.proofs.Common.{◌≡◌, ◌<◌, ◌≤◌, ◌^◌, ◌/◌, ◌%◌, ℕ, ap, false, arith}
use Rattle.std.specs.Prelude.{◌==◌}
use Rattle.std.proofs.Math.Nat.{div-eq_of_lt, pow-le-pow_right}
use Rattle.pm3_types.specs.Fields.{Fields, is_reference}

-- no bit at or above a bound of the mask is set
pub is_reference-past : (map : Fields) (bound f : ℕ) → map.refs < 2 ^ bound → bound ≤ f → is_reference map f ≡ false
unfolding is_reference
is_reference-past map bound f within past =
    let power : 2 ^ bound ≤ 2 ^ f = pow-le-pow_right (omega arith) past in
    let none : map.refs / 2 ^ f ≡ 0 = div-eq_of_lt (omega arith) in
    ap (λ (n : ℕ). n % 2 == 1) none
