-- Images that are held while objects are met, and the objects on them.
use Rattle.std.specs.Prelude.{ℕ, ◌≡◌, ◌<◌, ◌≤◌, true, List, All, Some}
use Rattle.std.specs.FinMap.{get}
use Rattle.pm3_core.specs.declared.naming.TheConstants.{BASE}
use Rattle.pm3_types.specs.Fields.{Fields}
use Rattle.pm3_types.specs.Layout.{PageImage, begins_at, page_in}
use Rattle.pm3_types.specs.PageForm.{IsSound}
use Rattle.pm3_types.specs.Shown as shown
use Rattle.pm3_page.specs.PageMap.{Images}

-- the images that are held are among these sheets
abbrev pub AreAmong : Images → shown.Images → Type 0
AreAmong held all = (page : ℕ) (image : PageImage) → get held page ≡ Some image → get all page ≡ Some image.sheet

-- each image stands under its own page, which the store has, and has the form
abbrev pub AreSound : List Fields → ℕ → Images → Type 0
AreSound catalog pages images = (page : ℕ) (image : PageImage) → get images page ≡ Some image
    → (image.page ≡ page) × (2 ≤ page) × (page < pages) × IsSound catalog BASE pages image

-- an object begins at the address, on a page that is held
pub record IsHeld (images : Images) (a : ℕ) : Type 0 where
  pub image : PageImage
  pub on : get images (page_in BASE a) ≡ Some image
  pub begins : begins_at BASE image a ≡ true

-- each of these is held so
abbrev pub AreHeld : Images → List ℕ → Type 0
AreHeld images met = All (IsHeld images) met
