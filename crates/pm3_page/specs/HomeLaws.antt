-- What keeps images under their own pages.
use Rattle.std.specs.Prelude.{◌≡◌, ℕ}
use Rattle.std.specs.FinMap as map
use Rattle.pm3_types.specs.Layout.{PageImage}
use Rattle.pm3_page.specs.PageMap.{Images, IsAtHome}

-- an image that is put under its own page
abbrev pub PutAtHome : Type 0
PutAtHome = (images : Images) (page : ℕ) (image : PageImage) → IsAtHome images → image.page ≡ page → IsAtHome (map.insert images page image)

-- an image that is taken away
abbrev pub TakenFromHome : Type 0
TakenFromHome = (images : Images) (page : ℕ) → IsAtHome images → IsAtHome (map.remove images page)
