-- A write changes one word of one body.
use Rattle.std.proofs.Common.{◌≡◌, ◌+◌, ◌∙◌, ℕ, true, List, Option, Some, None, refl, sym, ap, arith}
use Rattle.std.specs.Option.{option_map}
use mathlib.Core.Bool.{true≢false}
use Rattle.pm3_types.specs.Fields.{Fields}
use Rattle.pm3_types.specs.Layout.{PageImage, page_in, word_in, size_by}
use Rattle.pm3_types.specs.PageForm.{map_at, tail_at}
use Rattle.pm3_access.specs.declared.places.Place.{Place}
use Rattle.pm3_access.specs.declared.spots.Spot.{Spot}
use Rattle.pm3_access.specs.Access.{begins_in, written_by}
use Rattle.pm3_access.specs.BodyWrites.{IsBodyWrite, WritesChangeOneWord}
use Rattle.pm3_access.specs.Holding.{Holding, image_in}
use Rattle.pm3_access.specs.Spots.{spot_in, word_of, with_value_in}
use Rattle.pm3_access.proofs.Homes.{is_some_none, some_of}
use Rattle.pm3_access.proofs.HeldSheets.{changed, changed_here, changed_else, written_is}
use Rattle.pm3_access.proofs.RecordWrites.{word_written, with_value_is, spot_within}

module _ (catalog : List Fields) (base : ℕ) (h new : Holding) (a : ℕ) (place : Place) (v : ℕ) where
  abbrev page : ℕ
  page = page_in base a

  abbrev at : ℕ
  at = word_in base a

  -- a spot of the object's body was found
  at_spot : (image : PageImage) (map : Fields) (spot : Spot) → image_in h (page_in base a) ≡ Some image → map_at catalog image.sheet (word_in base a) ≡ Some map
      → spot_in (Some map) (tail_at image.sheet (word_in base a)) place ≡ Some spot
      → changed h (page_in base a) (with_value_in image (word_in base a) spot v) ≡ new → IsBodyWrite catalog base h new a
  at_spot image map spot was typed found is = record {
    image = image;
    word = word_in base a + 2 + word_of spot;
    value = word_written image.sheet.words (word_in base a) spot v;
    was = was;
    behind = omega arith;
    within = omega (arith, spot_within map (tail_at image.sheet (word_in base a)) place spot found, ap (λ (o : Option Fields). size_by o (tail_at image.sheet (word_in base a))) typed);
    is = ap (λ (n : Holding). image_in n (page_in base a)) (sym is) ∙ changed_here h (page_in base a) image (with_value_in image (word_in base a) spot v) was
        ∙ ap Some (with_value_is image (word_in base a) spot v);
    others = λ q apart. ap (λ (n : Holding). image_in n q) (sym is) ∙ changed_else h (page_in base a) (with_value_in image (word_in base a) spot v) q apart;
  }

  by_spot : (image : PageImage) (o : Option Fields) (p : Option Spot) → image_in h (page_in base a) ≡ Some image → map_at catalog image.sheet (word_in base a) ≡ o
      → spot_in o (tail_at image.sheet (word_in base a)) place ≡ p
      → option_map (changed h (page_in base a)) (option_map (λ spot. with_value_in image (word_in base a) spot v) p) ≡ Some new → IsBodyWrite catalog base h new a
  by_spot image o None was typed found is = absurd (is_some_none new is)
  by_spot image None (Some spot) was typed found is = absurd (is_some_none spot found)
  by_spot image (Some map) (Some spot) was typed found is =
      at_spot image map spot was typed found (some_of (changed h (page_in base a) (with_value_in image (word_in base a) spot v)) new is)

  by_image : (o : Option PageImage) → image_in h (page_in base a) ≡ o → begins_in base o a ≡ true
      → option_map (changed h (page_in base a)) (written_by catalog o (word_in base a) place v) ≡ Some new → IsBodyWrite catalog base h new a
  by_image None was object is = absurd (true≢false (sym object))
  by_image (Some image) was object is =
      by_spot image (map_at catalog image.sheet (word_in base a)) (spot_in (map_at catalog image.sheet (word_in base a)) (tail_at image.sheet (word_in base a)) place) was refl refl is

pub one_word_written : WritesChangeOneWord
one_word_written catalog base h new a place v object is =
    by_image catalog base h new a place v (image_in h (page_in base a)) refl object (sym (written_is catalog base h a place v) ∙ is)
