use Rattle.std.proofs.Common.{◌≡◌, ◌<◌, ℕ, Some}
use Rattle.std.specs.Prelude.{slice_get}
use Rattle.pm3_types.specs.Fields.{Fields, IsTypeMap}
use Rattle.oo7_dump.proofs.catalogs.types_are_sound.Given as goal

abbrev pub invariant-loop-ty : goal.invariant-loop-ty
invariant-loop-ty l = (i : ℕ) (m : Fields) → i < l.ty → slice_get l.catalog i ≡ Some m → IsTypeMap m.count m.refs
