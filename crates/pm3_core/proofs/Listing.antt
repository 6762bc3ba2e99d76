-- How far the loop over the listed pages has come.
use Rattle.std.proofs.Common.{◌≡◌, ℕ, nat_lt, if◌then◌else◌, List, get_or, Option, None}
use Rattle.pm3_core.specs.Snapshot.{Marking}

-- the marks of the pages with a seat below a number are changed, and no others
abbrev pub IsReadTo : List (Option Marking) → List ℕ → ℕ → (ℕ → Option Marking → Option Marking) → List (Option Marking) → Type 0
IsReadTo marks seats to change marks' =
    (page : ℕ) → get_or marks' page None ≡ (if nat_lt (get_or seats page 0) to then change page (get_or marks page None) else get_or marks page None)
