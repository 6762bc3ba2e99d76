-- The images in the homes of pages.
use Rattle.std.specs.Prelude.{ℕ, ◌≡◌, ◌≤◌, ◌<◌, nat_lt, if◌then◌else◌, List, length, Option, Some, None, slice_index_or}
use Rattle.std.specs.FinMap as map
use Rattle.pm3_types.specs.Layout.{PageImage}
use Rattle.pm3_page.specs.PageMap.{Images}
use Rattle.pm3_txn.specs.declared.values.Value.{Value}
use Rattle.pm3_txn.specs.declared.values.Value.TheVariants.{Page, Space, Turn}

-- the image in a home, if it has one
abbrev pub image_at : {D R : Type 0} → Option (Value D R) → Option PageImage
image_at None = None
image_at (Some (Page image)) = Some image
image_at (Some (Space space)) = None
image_at (Some (Turn turn)) = None

-- each image is in the home of its own page
abbrev pub AreAtHome : {D R : Type 0} → List (Option (Value D R)) → Type 0
AreAtHome homes = (u : ℕ) (image : PageImage) → image_at (slice_index_or homes u None) ≡ Some image → image.page ≡ u

-- the images of the homes from a number on
abbrev pub AreImagesFrom : {D R : Type 0} → ℕ → List (Option (Value D R)) → Images → Type 0
AreImagesFrom n homes images = (u : ℕ) → map.get images u ≡ (if nat_lt u n then None else image_at (slice_index_or homes u None))

-- the images of all homes
abbrev pub AreImagesOf : {D R : Type 0} → List (Option (Value D R)) → Images → Type 0
AreImagesOf homes images = (u : ℕ) → map.get images u ≡ image_at (slice_index_or homes u None)

-- the image in a home is put under its page
abbrev pub with_image : Images → Option PageImage → Images
with_image images None = images
with_image images (Some image) = map.insert images image.page image

-- its page has no image yet
abbrev pub IsNewImage : Images → Option PageImage → Type 0
IsNewImage images None = Unit {0}
IsNewImage images (Some image) = map.get images image.page ≡ None

-- These are the first homes of all, and the images are those of the others.
pub record IsGathered {D R : Type 0} (all first : List (Option (Value D R))) (images : Images) : Type 0 where
  pub short : length first ≤ length all
  pub front : (u : ℕ) → u < length first → slice_index_or first u None ≡ slice_index_or all u None
  pub images_are : AreImagesFrom (length first) all images
