-- What a sink has of bytes that were to be printed.
use Rattle.std.specs.Prelude.{◌≡◌, ◌⊎◌, ℕ, List, ◌++◌, take, option_map}
use Rattle.pm3_disk.specs.Faults.{Rose}
use Rattle.pm3_disk.specs.declared.outside.Sink.{Ghosts}

module _ {K : Type 0} (g : Ghosts K) where
  -- it has taken these bytes, where it tells what it has taken
  abbrev pub HasTaken : List ℕ → K → K → Type 0
  HasTaken bytes old new = g.taken new ≡ option_map (λ taken. taken ++ bytes) (g.taken old)

  -- it has taken them all and has counted no fault, or it has failed and taken some first of them
  abbrev pub Prints : List ℕ → K → K → Type 0
  Prints bytes old new =
      (HasTaken bytes old new × (g.faults new ≡ g.faults old)) ⊎ (Rose (g.faults old) (g.faults new) × ((count : ℕ) × HasTaken (take count bytes) old new))
