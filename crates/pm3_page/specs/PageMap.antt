-- Images of pages, each under a page number.
use Rattle.std.specs.Prelude.{◌≡◌, ℕ, zero, suc, Bool, List, Option, None, Some, slice_index_or, slice_get, length, refl}
use Rattle.std.specs.Ordering.{nat_cmp}
use Rattle.std.specs.FinMap as map
use Rattle.std.specs.Coded.{Coded, code_by, coded×, coded_ℕ, coded_bool, coded_list}
use Rattle.pm3_types.specs.Layout.{PageImage}

-- images, each under a page number
abbrev pub Images : Type 0
Images = map.FinMap nat_cmp PageImage

-- the images that are held, and how many more there is room for
pub record PageMap : Type 0 where
  pub images : Images
  pub spare : ℕ

abbrev pub page_image_code : Coded PageImage
page_image_code =
    code_by (ℕ × (List ℕ × List Bool)) (coded× coded_ℕ (coded× (coded_list coded_ℕ) (coded_list coded_bool))) (λ i. (i.page, (i.sheet.words, i.sheet.starts)))
    (λ p. record { page = p.0; sheet = record { words = p.1.0; starts = p.1.1 } }) (λ _. refl)

abbrev pub page_map_code : Coded PageMap
page_map_code = code_by (Images × ℕ) (coded× (map.code coded_ℕ page_image_code) coded_ℕ) (λ m. (m.images, m.spare)) (λ p. record { images = p.0; spare = p.1 }) (λ _. refl)

-- each image stands under its own page
abbrev pub IsAtHome : Images → Type 0
IsAtHome images = (page : ℕ) (image : PageImage) → map.get images page ≡ Some image → image.page ≡ page

-- the index of a page's image, or 65535 where it has none
abbrev pub slot_of : List ℕ → ℕ → ℕ
slot_of slots page = slice_index_or slots page 65535

-- the image of a page, if it has one
abbrev pub image_at : List ℕ → List PageImage → ℕ → Option PageImage
image_at slots images page = slice_get images (slot_of slots page)

unfoldable pub with_some : Images → ℕ → Option PageImage → Images
with_some images page None = images
with_some images page (Some image) = map.insert images page image

-- what f gives for the numbers below n
unfoldable pub gather : (ℕ → Option PageImage) → ℕ → Images
gather f zero = map.empty
gather f (suc n) = with_some (gather f n) n (f n)

-- the images under the pages whose slots lead to them
abbrev pub images_of : List ℕ → List PageImage → Images
images_of slots images = gather (image_at slots images) (length slots)
