-- What stays of a holding when its volatile and its written images are moved out.
use Rattle.std.specs.Prelude.{ℕ, ◌≡◌, ◌≢◌, ◌<◌, ◌≤◌, ◌+◌, ◌↔◌, ◌⊎◌, ◌&&◌, ◌||◌, Bool, not, List, [], ◌∷◌, Option, None, Some}
use Rattle.std.specs.Option.{option_map}
use Rattle.std.specs.FinMap as map
use Rattle.std.specs.FinSet as set
use Rattle.pm3_types.specs.Layout.{PageImage}
use Rattle.pm3_page.specs.PageMap.{Images, PageMap}
use Rattle.pm3_access.specs.FreeList.{Numbers}
use Rattle.pm3_access.specs.Holding.{HeldImages, HeldSpaceState, SpaceState}

-- a held space without its images as they are now
pub record SpaceRest : Type 0 where
  pub number : ℕ
  pub found : Images
  pub free : Numbers
  pub room : ℕ
  pub first : Option ℕ
  pub current : Option ℕ
  pub drawn : List ℕ

-- the pages held alone that were not written, with the room for the others, all images found, and the rest of the space
pub record RestState : Type 0 where
  pub pages : PageMap
  pub found : Images
  pub space : Option SpaceRest

-- the space without its images as they are now, and with these
abbrev pub rest_of : HeldSpaceState → SpaceRest
rest_of s = record { number = s.number; found = s.images.found; free = s.free; room = s.room; first = s.first; current = s.current; drawn = s.drawn }

abbrev pub with_images : Images → SpaceRest → HeldSpaceState
with_images volatile s = record {
  number = s.number;
  images = record { left = volatile; found = s.found };
  free = s.free;
  room = s.room;
  first = s.first;
  current = s.current;
  drawn = s.drawn;
}

-- the space with other free pages and other room
abbrev pub rest_with_free : SpaceRest → Numbers → ℕ → SpaceRest
rest_with_free s free room = record s { free = free; room = room }

-- the images with those of a list
unfoldable pub added : Images → List (ℕ × PageImage) → Images
added images [] = images
added images (e ∷ es) = map.insert (added images es) e.0 e.1

-- the images of both
abbrev pub both : Images → Images → Images
both images others = added images (map.entries others)

-- pages without images, with room for all of these
pub record HaveRoomFor (images : Images) (pages : PageMap) : Type 0 where
  pub none : pages.images ≡ map.empty
  pub room : map.len images ≤ pages.spare

-- exactly the images that are not as they were found
abbrev pub AreWritten : HeldImages → Images → Type 0
AreWritten h written = (page : ℕ) (image : PageImage) → (map.get written page ≡ Some image) ↔ ((map.get h.left page ≡ Some image) × (map.get h.found page ≢ Some image))

-- exactly the images that are as they were found
abbrev pub AreUnwritten : HeldImages → Images → Type 0
AreUnwritten h others = (page : ℕ) (image : PageImage) → (map.get others page ≡ Some image) ↔ ((map.get h.left page ≡ Some image) × (map.get h.found page ≡ Some image))

-- the images of the held space as they are now, or none where no space is held
abbrev pub images_of_space : Option HeldSpaceState → Images
images_of_space None = map.empty
images_of_space (Some s) = s.images.left

-- each page of the space that was found has an image among these
abbrev pub KeepsFound : Option SpaceRest → Images → Type 0
KeepsFound None volatile = Unit {0}
KeepsFound (Some s) volatile = (page : ℕ) → map.get volatile page ≡ None → map.get s.found page ≡ None

-- a change of the rest of the held space alone
abbrev pub rest_by_space : (SpaceRest → SpaceRest) → RestState → RestState
rest_by_space change r = record r { space = option_map change r.space }

-- there is room for so many free pages; none is needed where no space is held
abbrev pub HasRoomFor : Option SpaceRest → ℕ → Type 0
HasRoomFor None count = Unit {0}
HasRoomFor (Some s) count = count ≤ s.room

-- there is room for a free page
abbrev pub HasRestRoom : Option SpaceRest → Type 0
HasRestRoom None = ⊥
HasRestRoom (Some s) = 0 < s.room

-- this holds of the free pages of the held space
abbrev pub RestFreeIs : Option SpaceRest → (Numbers → Type 0) → Type 0
RestFreeIs None holds = ⊥
RestFreeIs (Some s) holds = holds s.free

-- the page has an image, among those of the space or the written ones
abbrev pub is_filled : Images → Images → ℕ → Bool
is_filled volatile written page = map.contains_key volatile page || map.contains_key written page

-- The space after a commit has its images as they are now, and no current page. Free are the pages that were and have no image now, and
-- these pages besides. No room is lost but that of the pages added.
pub record IsFinishedSpace (s : SpaceRest) (volatile written : Images) (freed : Numbers) (t : SpaceState) : Type 0 where
  pub number : t.number ≡ s.number
  pub images : t.images ≡ volatile
  pub free : (page : ℕ) → set.contains t.free page ≡ ((set.contains s.free page && not (is_filled volatile written page)) || set.contains freed page)
  pub room : s.room ≤ t.room + set.len freed
  pub current : t.current ≡ None

-- the same of a space or none
abbrev pub IsFinished : Option SpaceRest → Images → Images → Numbers → Option SpaceState → Type 0
IsFinished None volatile written freed None = Unit {0}
IsFinished None volatile written freed (Some t) = ⊥
IsFinished (Some s) volatile written freed None = ⊥
IsFinished (Some s) volatile written freed (Some t) = IsFinishedSpace s volatile written freed t

-- the image of the page was as it was found, and stays
pub record Stays (page : ℕ) (found : Images) (pages written new_pages new_written : PageMap) : Type 0 where
  pub same : map.get pages.images page ≡ map.get found page
  pub pages_same : new_pages ≡ pages
  pub written_same : new_written ≡ written

-- the image of the page was not as it was found, and was moved
pub record Moves (page : ℕ) (found : Images) (pages written new_pages new_written : PageMap) (image : PageImage) : Type 0 where
  pub there : map.get pages.images page ≡ Some image
  pub differs : map.get found page ≢ Some image
  pub taken : new_pages.images ≡ map.remove pages.images page
  pub put : new_written.images ≡ map.insert written.images page image
  pub pages_room : new_pages.spare ≡ pages.spare + 1
  pub written_room : new_written.spare + 1 ≡ written.spare

-- the image of the page stays, or is moved
abbrev pub StaysOrMoves : ℕ → Images → PageMap → PageMap → PageMap → PageMap → Type 0
StaysOrMoves page found pages written new_pages new_written =
    Stays page found pages written new_pages new_written ⊎ ((image : PageImage) × Moves page found pages written new_pages new_written image)
