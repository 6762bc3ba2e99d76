-- How far a departure from the form of a catalog can be.
use Rattle.std.proofs.Common.{◌≡◌, ⊎_elim, ℕ, ◌+◌, ◌*◌, ◌≤◌, List, take, drop, Option, None, Some, arith}
use Rattle.std.specs.Int.{w32}
use Rattle.std.specs.Option.{option_or}
use Rattle.std.specs.Prelude.{nat_le}
use Rattle.std.proofs.lemmas.Bool.Decides.{nat_tests}
use Rattle.pm3_types.specs.Bytes.{is_zero, number_at, unless}
use Rattle.pm3_types.specs.CatalogForm.{departure, head_departure, maps_departure}
use Rattle.pm3_types.proofs.Departing.{either, maps_within, unless_at}

few : (n : ℕ) (q : Option ℕ) → option_or (unless (nat_le n 256) 0) q ≡ None → n ≤ 256
few n q is = grind (arith, nat_tests)

pub departs_near : (bytes : List ℕ) (o : ℕ) → departure bytes ≡ Some o → o ≤ 2056
departs_near bytes o is =
    ⊎_elim in_head in_maps (either (head_departure (take 8 bytes)) (maps_departure (number_at w32 0 (take 8 bytes)) 8 (drop 8 bytes)) o is)
  where
    in_head : head_departure (take 8 bytes) ≡ Some o → o ≤ 2056
    in_head here =
        ⊎_elim (λ number. omega (arith, unless_at (nat_le (number_at w32 0 (take 8 bytes)) 256) 0 o number))
        (λ gap. omega (arith, unless_at (is_zero (drop 4 (take 8 bytes))) 4 o gap.1))
        (either (unless (nat_le (number_at w32 0 (take 8 bytes)) 256) 0) (unless (is_zero (drop 4 (take 8 bytes))) 4) o here)

    in_maps : (head_departure (take 8 bytes) ≡ None) × (maps_departure (number_at w32 0 (take 8 bytes)) 8 (drop 8 bytes) ≡ Some o) → o ≤ 2056
    in_maps (none, later) =
        let n : ℕ = number_at w32 0 (take 8 bytes) in
        omega (arith, few n (unless (is_zero (drop 4 (take 8 bytes))) 4) none, (maps_within n 8 (drop 8 bytes) o later).1)
