-- What a call that may load pages does to the reader and to the images that are held.
use Rattle.std.specs.Prelude.{ℕ, ◌≡◌, ◌⊎◌, List, Option, Some, None, Result, Ok, Err}
use Rattle.std.specs.FinMap.{get}
use Rattle.pm3_core.specs.declared.naming.TheConstants.{BASE}
use Rattle.pm3_disk.specs.Content.{IfTold}
use Rattle.pm3_disk.specs.Faults.{Rose}
use Rattle.pm3_disk.specs.declared.outside.Reader.{Ghosts}
use Rattle.pm3_types.specs.Fields.{Fields}
use Rattle.pm3_types.specs.Layout.{PageImage}
use Rattle.pm3_page.specs.PageMap.{Images}
use Rattle.pm3_pagefile.specs.Loading.{read_of}
use Rattle.pm3_pagefile.specs.PageBytes.{page_at}
use Rattle.oo7_dump.specs.Held.{AreSound}
use Rattle.oo7_dump.specs.declared.faults.DumpFault.{DumpFault}
use Rattle.oo7_dump.specs.declared.faults.DumpFault.TheVariants.{PageFault}

-- the fault with which a call ended, if it did
abbrev pub fault_of : {T : Type 0} → Result T DumpFault → Option DumpFault
fault_of (Ok value) = None
fault_of (Err fault) = Some fault

-- The reader has the bytes that it had. The images are sound; those that were held are held still, and each other one was read
-- from the bytes. A fault of the reader was counted exactly where the call ended with one.
pub record Loads {R : Type 0} (g : Ghosts R) (catalog : List Fields) (pages : ℕ) (old new : R) (held now : Images) (fault : Option DumpFault) : Type 0 where
  pub same : g.content new ≡ g.content old
  pub sound : AreSound catalog pages now
  pub kept : (page : ℕ) (image : PageImage) → get held page ≡ Some image → get now page ≡ Some image
  pub loaded : IfTold (g.content old) (λ bytes. (page : ℕ) (image : PageImage) → get now page ≡ Some image
      → (get held page ≡ Some image) ⊎ (read_of catalog BASE pages page (page_at page bytes) ≡ Ok image.sheet))
  pub failed : fault ≡ Some PageFault → Rose (g.faults old) (g.faults new)
  pub calm : (fault ≡ Some PageFault → ⊥) → g.faults new ≡ g.faults old
