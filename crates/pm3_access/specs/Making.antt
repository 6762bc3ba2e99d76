-- New objects.
use Rattle.std.specs.Prelude.{ℕ, ◌≡◌, ◌+◌, ◌==◌, ◌&&◌, Bool, true, false, not, nat_le, List, Option, None, Some, slice_get}
use Rattle.std.specs.Option.{option_and_then}
use Rattle.std.specs.FinMap as map
use Rattle.pm3_types.specs.Fields.{Fields}
use Rattle.pm3_types.specs.Layout.{PageImage, address, end_of, size_by, head_of, placed_on}
use Rattle.pm3_access.specs.Holding.{Holding, HeldImages, HeldSpaceState, with_image, space_with, by_space}

-- an object of so many words fits on the page behind its last one; none fits on page 2
abbrev pub has_space_for : PageImage → ℕ → Bool
has_space_for image size = not (image.page == 2) && nat_le (end_of image.sheet + size) 512

abbrev pub has_room_for : Option PageImage → ℕ → Bool
has_room_for None size = false
has_room_for (Some image) size = has_space_for image size

-- the address behind the last object
abbrev pub next_address : ℕ → Option PageImage → ℕ
next_address base None = 0
next_address base (Some image) = address base image.page (end_of image.sheet)

-- where this image is, an object of so many words was made behind its last one, and all is `made`; at None it does not fit there, or there
-- is no image, and all is as it was
abbrev pub IsMadeOn : {S : Type 0} → ℕ → Option PageImage → ℕ → S → S → Option ℕ → S → Type 0
IsMadeOn base image size old made None new = (has_room_for image size ≡ false) × (new ≡ old)
IsMadeOn base image size old made (Some at) new = (has_room_for image size ≡ true) × (at ≡ next_address base image) × (new ≡ made)

-- the images of which this one has a new object
abbrev pub images_made : HeldImages → ℕ → Option PageImage → ℕ → ℕ → ℕ → HeldImages
images_made h page None size head name = h
images_made h page (Some image) size head name = with_image h page (placed_on image size head name)

-- the image of the current page of a space
abbrev pub current_in : HeldSpaceState → Option PageImage
current_in s = option_and_then (map.get s.images.left) s.current

abbrev pub current_image : Option HeldSpaceState → Option PageImage
current_image None = None
current_image (Some s) = current_in s

-- the space whose current page has a new object
abbrev pub space_made : HeldSpaceState → Option ℕ → Option PageImage → ℕ → ℕ → ℕ → HeldSpaceState
space_made s None image size head name = s
space_made s (Some page) None size head name = s
space_made s (Some page) (Some image) size head name = space_with s page (placed_on image size head name)

-- a new object is on the current page of the held space, behind the last one; at None it does not fit there, or there is no current page
abbrev pub IsMade : ℕ → List Fields → Holding → ℕ → ℕ → ℕ → Option ℕ → Holding → Type 0
IsMade base catalog old ty tail name result new =
    let size : ℕ = size_by (slice_get catalog ty) tail in
    IsMadeOn base (current_image old.space) size old (by_space (λ s. space_made s s.current (current_in s) size (head_of ty tail) name) old) result new
