-- A list of sound type maps.
use Rattle.std.proofs.Common.{◌≡◌, ℕ, suc, List, [], ◌∷◌, Some, refl}
use Rattle.std.specs.Prelude.{slice_get}
use Rattle.pm3_types.specs.Fields.{Fields, IsTypeMap}
use Rattle.pm3_types.specs.PageLaws.{AreTypeMaps}

pub maps_from_each : (maps : List Fields) → ((i : ℕ) (m : Fields) → slice_get maps i ≡ Some m → IsTypeMap m.count m.refs) → AreTypeMaps maps
maps_from_each [] each = tt
maps_from_each (m ∷ maps) each = (each 0 m refl, maps_from_each maps (λ i n is. each (suc i) n is))
