-- What a window has of a device's bytes.
use Rattle.std.specs.Prelude.{◌≡◌, ℕ, List, length, Option}
use Rattle.pm3_disk.specs.Content.{IfTold}
use Rattle.pm3_types.specs.Bytes.{piece}

-- the bytes that were read, from this offset on
pub record Stretch : Type 0 where
  pub start : ℕ
  pub bytes : List ℕ

-- they are those of the device, where it tells them
abbrev pub IsWindowOn : Stretch → Option (List ℕ) → Type 0
IsWindowOn window content = IfTold content (λ bytes. window.bytes ≡ piece window.start (length window.bytes) bytes)
