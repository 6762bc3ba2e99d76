-- What one transaction holds, and what it does to that.
use Rattle.std.specs.Prelude.{ℕ, ◌≡◌, ◌<◌, ◌≤◌, List, [], ◌∷◌, ◌++◌, Option, None, Some}
use Rattle.std.specs.Option.{option_or, option_map}
use Rattle.std.specs.FinMap as map
use Rattle.pm3_types.specs.Layout.{PageImage}
use Rattle.pm3_page.specs.PageMap.{Images, IsAtHome}
use Rattle.pm3_access.specs.FreeList.{Numbers, with_pages}

-- the volatile pages of a group: their images, the free pages and the room for more, and the page that objects are placed on
pub record SpaceState : Type 0 where
  pub number : ℕ
  pub images : Images
  pub free : Numbers
  pub room : ℕ
  pub current : Option ℕ

-- images as they are now, and as they were found
pub record HeldImages : Type 0 where
  pub left : Images
  pub found : Images

-- a space that is held: its images, its free pages and the room for more, its current page as it was found and now, and the pages drawn since
pub record HeldSpaceState : Type 0 where
  pub number : ℕ
  pub images : HeldImages
  pub free : Numbers
  pub room : ℕ
  pub first : Option ℕ
  pub current : Option ℕ
  pub drawn : List ℕ

-- pages held alone, and a space or none
pub record Holding : Type 0 where
  pub pages : HeldImages
  pub space : Option HeldSpaceState

abbrev pub no_images : HeldImages
no_images = record { left = map.empty; found = map.empty }

abbrev pub nothing_held : Holding
nothing_held = record { pages = no_images; space = None }

-- what is found is held, and each image stands under its own page
pub record AreHeld (left found : Images) : Type 0 where
  pub kept : (page : ℕ) → map.get left page ≡ None → map.get found page ≡ None
  pub left_home : IsAtHome left
  pub found_home : IsAtHome found

-- all that is held was found
abbrev pub AreFound : Images → Images → Type 0
AreFound left found = (page : ℕ) → map.get found page ≡ None → map.get left page ≡ None

-- the image of a page, as it is now and as it was found
abbrev pub space_now : Option HeldSpaceState → ℕ → Option PageImage
space_now None page = None
space_now (Some s) page = map.get s.images.left page

abbrev pub image_in : Holding → ℕ → Option PageImage
image_in h page = option_or (map.get h.pages.left page) (space_now h.space page)

-- a page that was found as it is
abbrev pub with_admitted : HeldImages → PageImage → HeldImages
with_admitted h image = record { left = map.insert h.left image.page image; found = map.insert h.found image.page image }

-- a page that was not found
abbrev pub with_grown : HeldImages → PageImage → HeldImages
with_grown h image = record h { left = map.insert h.left image.page image }

-- another image now
abbrev pub with_image : HeldImages → ℕ → PageImage → HeldImages
with_image h page image = record h { left = map.insert h.left page image }

-- images that were found as they are
abbrev pub as_found : Images → HeldImages
as_found images = record { left = images; found = images }

-- a space that was found as it is
abbrev pub held_space : SpaceState → HeldSpaceState
held_space s = record { number = s.number; images = as_found s.images; free = s.free; room = s.room; first = s.current; current = s.current; drawn = [] }

-- the space with another image now
abbrev pub space_with : HeldSpaceState → ℕ → PageImage → HeldSpaceState
space_with s page image = record s { images = with_image s.images page image }

-- the space with a page drawn, which is its current one
abbrev pub grown : HeldSpaceState → PageImage → HeldSpaceState
grown s image = record s { images = with_grown s.images image; current = Some image.page; drawn = s.drawn ++ image.page ∷ [] }

-- the space with other free pages and other room
abbrev pub with_free : HeldSpaceState → Numbers → ℕ → HeldSpaceState
with_free s free room = record s { free = free; room = room }

-- the space as it was found, with the pages drawn since among the free ones
abbrev pub undone_space : HeldSpaceState → ℕ → SpaceState
undone_space s room = record { number = s.number; images = s.images.found; free = with_pages s.free s.drawn; room = room; current = s.first }

-- the same of a space or none; no room is lost
abbrev pub IsUndone : Option HeldSpaceState → Option SpaceState → Type 0
IsUndone None None = Unit {0}
IsUndone None (Some t) = ⊥
IsUndone (Some s) None = ⊥
IsUndone (Some s) (Some t) = (t ≡ undone_space s t.room) × (s.room ≤ t.room)

-- a page held as it is, and a space held as it is
abbrev pub admitted : Holding → PageImage → Holding
admitted h image = record h { pages = with_admitted h.pages image }

abbrev pub with_held_space : Holding → SpaceState → Holding
with_held_space h space = record h { space = Some (held_space space) }

-- a change of the held space alone
abbrev pub by_space : (HeldSpaceState → HeldSpaceState) → Holding → Holding
by_space change h = record h { space = option_map change h.space }

-- there is room for a free page
abbrev pub HasRoom : Option HeldSpaceState → Type 0
HasRoom None = ⊥
HasRoom (Some s) = 0 < s.room

-- this holds of the free pages of the held space
abbrev pub FreeIs : Option HeldSpaceState → (Numbers → Type 0) → Type 0
FreeIs None holds = ⊥
FreeIs (Some s) holds = holds s.free
