-- What holds of the images that are held.
use Rattle.std.specs.Prelude.{◌≡◌, ℕ, ◌+◌, ◌<◌, ◌≤◌, length, vec_capacity}
use Rattle.std.specs.declared.vec.Vec.{Vec}
use Rattle.std.specs.declared.alloc.Global.{Global}
use Rattle.pm3_page.specs.declared.slots.Slots.{Slots}
use Rattle.pm3_types.specs.Layout.{PageImage}
use Rattle.pm3_page.specs.PageIndex.{IsIndex, IsReady}

-- the images stand at the indexes that their pages lead to, and there is room for the spare ones
pub record IsStored (slots : Slots) (images : Vec PageImage Global) (spare : ℕ) : Type 0 where
  pub index : IsIndex slots.by_page.items slots.homes.items slots.held.words.items
  pub ready : 0 < spare + length images.items → IsReady slots.by_page.items slots.held.words.items
  pub as_many : length slots.homes.items ≡ length images.items
  pub room : length images.items + spare ≤ vec_capacity images
  pub slots_room : length images.items + spare ≤ vec_capacity slots.homes
