-- Where objects begin.
use Rattle.std.specs.Prelude.{ℕ, Bool, false, Option, Some, None}
use Rattle.std.specs.FinMap.{get}
use Rattle.pm3_core.specs.declared.naming.TheConstants.{BASE}
use Rattle.pm3_types.specs.Layout.{PageImage, is_start, page_in, word_in}
use Rattle.pm3_page.specs.PageMap.{Images}

-- an object begins at a word of an image
abbrev pub starts_on : Option PageImage → ℕ → Bool
starts_on None s = false
starts_on (Some image) s = is_start image.sheet s

-- an object begins at the address, on one of these images
abbrev pub starts_in : Images → ℕ → Bool
starts_in images a = starts_on (get images (page_in BASE a)) (word_in BASE a)
