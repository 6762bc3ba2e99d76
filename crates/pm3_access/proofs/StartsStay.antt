-- A write leaves where objects begin.
use Rattle.std.proofs.Common.{◌≡◌, ℕ, true, List, Option, Some, None, refl, sym, ap, ◌∙◌}
use Rattle.std.specs.Option.{option_map}
use Rattle.pm3_types.specs.Fields.{Fields}
use Rattle.pm3_types.specs.Layout.{PageImage, is_start}
use Rattle.pm3_access.specs.declared.places.Place.{Place}
use Rattle.pm3_access.specs.declared.spots.Spot.{Spot}
use Rattle.pm3_access.specs.declared.spots.Spot.TheVariants.{Word, ByteOf}
use Rattle.pm3_access.specs.Access.{written_by}
use Rattle.pm3_access.specs.Spots.{spot_at, with_value_in}
use Rattle.pm3_access.proofs.Homes.{is_some_none, some_of}

same_starts : (image : PageImage) (at v s : ℕ) (spot : Spot) → is_start (with_value_in image at spot v).sheet s ≡ is_start image.sheet s
same_starts image at v s (Word k) = refl
same_starts image at v s (ByteOf k j) = refl

pub starts_stay : (catalog : List Fields) (image now : PageImage) (at : ℕ) (place : Place) (v : ℕ) → written_by catalog (Some image) at place v ≡ Some now
    → (s : ℕ) → is_start image.sheet s ≡ true → is_start now.sheet s ≡ true
starts_stay catalog image now at place v made s begins = of (spot_at catalog image.sheet at place) made
  where
    of : (o : Option Spot) → option_map (λ (spot : Spot). with_value_in image at spot v) o ≡ Some now → is_start now.sheet s ≡ true
    of None e = absurd (is_some_none now e)
    of (Some spot) e = ap (λ (i : PageImage). is_start i.sheet s) (sym (some_of (with_value_in image at spot v) now e)) ∙ same_starts image at v s spot ∙ begins
