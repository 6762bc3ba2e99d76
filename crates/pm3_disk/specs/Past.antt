-- The calls that were made of a disk, the newest first, and for how many more there is room.
use Rattle.std.specs.Prelude.{ℕ, List}
use Rattle.pm3_disk.specs.declared.call.Call.{Call}

pub record Past : Type 0 where
  pub calls : List Call
  pub room : ℕ
