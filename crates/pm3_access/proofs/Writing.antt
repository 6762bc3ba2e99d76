-- Images that are written among others.
use Rattle.std.proofs.Common.{◌≡◌, ℕ, ◌^◌, ◌<◌, Bool, true, false, Option, None, Some, Ok, Err, Result, refl, sym, ap, ◌∙◌, inl, inr, List}
use Rattle.std.proofs.lemmas.Bool.{cases_eq}
use Rattle.std.specs.Option.{option_map}
use Rattle.std.specs.Prelude.{MatchResult, slice_get}
use Rattle.std.specs.Cmp.{nat_cmp_total}
use Rattle.std.specs.FinMap as map
use Rattle.std.specs.FinMap.{nat_cmp-IsAntisymmetric, same_map}
use mathlib.Core.Bool.{true≢false}
use Rattle.pm3_types.specs.Fields.{Fields}
use Rattle.pm3_types.specs.Layout.{PageImage, is_address, page_in, word_in, size_by, head_of, placed_on}
use Rattle.pm3_types.specs.PageForm.{is_memory_reference, IsSound}
use Rattle.pm3_page.specs.PageMap.{Images}
use Rattle.pm3_access.specs.declared.places.Place.{Place}
use Rattle.pm3_access.specs.declared.places.Place.TheVariants.{Field, Tail, Byte}
use Rattle.pm3_access.specs.declared.spots.Spot.{Spot}
use Rattle.pm3_access.specs.declared.spots.Spot.TheVariants.{Word, ByteOf}
use Rattle.pm3_access.specs.Spots.{spot_if, spot_in, with_value_in, with_value_at_place, spot_at, IsValueFor}
use Rattle.pm3_access.specs.Access.{begins_in, written_by, images_written}
use Rattle.pm3_access.specs.Holding.{HeldImages, with_image}
use Rattle.pm3_access.specs.Making.{has_room_for, next_address, images_made, IsMadeOn}
use Rattle.pm3_access.specs.declared.places.NoPlace.{NoPlace}
use Rattle.pm3_access.proofs.Homes.{get_same, get_other, some_of, is_some_none}
use Rattle.pm3_types.proofs.FormedObjects.{page_low, address_of}

kept_by : (image new : PageImage) (at v : ℕ) (o : Option Spot) → option_map (λ spot. with_value_in image at spot v) o ≡ Some new → new.page ≡ image.page
kept_by image new at v None e = absurd (is_some_none new e)
kept_by image new at v (Some (Word k)) e = sym (ap (λ (i : PageImage). i.page) (some_of _ _ e))
kept_by image new at v (Some (ByteOf k j)) e = sym (ap (λ (i : PageImage). i.page) (some_of _ _ e))

-- a write leaves the number of the page
pub page_kept : (catalog : List Fields) (image new : PageImage) (at : ℕ) (place : Place) (v : ℕ) → with_value_at_place catalog image at place v ≡ Some new → new.page ≡ image.page
page_kept catalog image new at place v e = kept_by image new at v (spot_at catalog image.sheet at place) e

-- an image that is there already
pub insert_there : (images : Images) (page : ℕ) (image : PageImage) → map.get images page ≡ Some image → map.insert images page image ≡ images
insert_there images page image is = same_map nat_cmp_total nat_cmp-IsAntisymmetric _ _ (λ q. elim (cases_eq q page) [
  | inl same ↦ get_same images page q image same ∙ sym is ∙ sym (ap (map.get images) same)
  | inr ne ↦ get_other images page q image ne
])

-- the page of an object that is held
pub held_address : (base : ℕ) (o : Option PageImage) (a : ℕ) → begins_in base o a ≡ true → is_address base a ≡ true
held_address base None a e = absurd (true≢false (sym e))
held_address base (Some image) a e = address_of base image a e

pub held_low : (catalog : List Fields) (base : ℕ) (o : Option PageImage) (a : ℕ) → ((image : PageImage) → o ≡ Some image → IsSound catalog base 16384 image) → begins_in base o a ≡ true → page_in base a < 2 ^ 32
held_low catalog base None a sound e = absurd (true≢false (sym e))
held_low catalog base (Some image) a sound e = page_low catalog base (is_memory_reference base 16384) image a (sound image refl) e

-- a new object leaves the number of the page
pub placed_page : (base : ℕ) (catalog : List Fields) (old : PageImage) (ty tail name : ℕ) (result : Option ℕ) (new : PageImage)
    → IsMadeOn base (Some old) (size_by (slice_get catalog ty) tail) old (placed_on old (size_by (slice_get catalog ty) tail) (head_of ty tail) name) result new → new.page ≡ old.page
placed_page base catalog old ty tail name None new h = ap (λ (i : PageImage). i.page) h.1
placed_page base catalog old ty tail name (Some at) new h = ap (λ (i : PageImage). i.page) h.2

-- a new object in one of the images
pub made_among : (base : ℕ) (catalog : List Fields) (left found : Images) (page ty tail name : ℕ) (result : Option ℕ) (image new : PageImage) → map.get left page ≡ Some image
    → IsMadeOn base (Some image) (size_by (slice_get catalog ty) tail) image (placed_on image (size_by (slice_get catalog ty) tail) (head_of ty tail) name) result new
    → IsMadeOn base (map.get left page) (size_by (slice_get catalog ty) tail) (record { left = left; found = found })
    (images_made (record { left = left; found = found }) page (map.get left page) (size_by (slice_get catalog ty) tail) (head_of ty tail) name) result (record { left = map.insert left page new; found = found })
made_among base catalog left found page ty tail name None image new is h =
    let same : map.insert left page new ≡ left = ap (map.insert left page) h.1 ∙ insert_there left page image is in
    (ap (λ o. has_room_for o (size_by (slice_get catalog ty) tail)) is ∙ h.0, λ i. record { left = same i; found = found })
made_among base catalog left found page ty tail name (Some at) image new is h = (
  ap (λ o. has_room_for o (size_by (slice_get catalog ty) tail)) is ∙ h.0,
  h.1 ∙ sym (ap (next_address base) is),
  (λ i. record { left = map.insert left page (h.2 i); found = found })
      ∙ sym (ap (λ o. images_made (record { left = left; found = found }) page o (size_by (slice_get catalog ty) tail) (head_of ty tail) name) is),
)

-- what a write did to one image
abbrev pub IsWritten : List Fields → PageImage → ℕ → Place → ℕ → Result (Unit {0}) NoPlace → PageImage → Type 0
IsWritten catalog old at place v result new = MatchResult result (λ _. with_value_at_place catalog old at place v ≡ Some new) (λ _. (with_value_at_place catalog old at place v ≡ None) × (new ≡ old))

pub written_page : (catalog : List Fields) (old : PageImage) (at : ℕ) (place : Place) (v : ℕ) (result : Result (Unit {0}) NoPlace) (new : PageImage) → IsWritten catalog old at place v result new → new.page ≡ old.page
written_page catalog old at place v (Ok u) new h = page_kept catalog old new at place v h
written_page catalog old at place v (Err e) new h = ap (λ (i : PageImage). i.page) h.1

abbrev both : Images → Images → HeldImages
both left found = record { left = left; found = found }

-- a write in one of the images
pub written_among : (base : ℕ) (catalog : List Fields) (left found : Images) (page a : ℕ) (place : Place) (v : ℕ) (result : Result (Unit {0}) NoPlace) (image new : PageImage) → map.get left page ≡ Some image
    → IsWritten catalog image (word_in base a) place v result new
    → MatchResult result (λ _. images_written catalog base (both left found) page a place v ≡ Some (both (map.insert left page new) found))
    (λ _. (images_written catalog base (both left found) page a place v ≡ None) × (both (map.insert left page new) found ≡ both left found))
written_among base catalog left found page a place v (Ok u) image new is h =
    ap (λ o. option_map (with_image (both left found) page) (written_by catalog o (word_in base a) place v)) is
    ∙ ap (option_map (with_image (both left found) page)) h
written_among base catalog left found page a place v (Err e) image new is h =
    let same : map.insert left page new ≡ left = ap (map.insert left page) h.1 ∙ insert_there left page image is in (
      ap (λ o. option_map (with_image (both left found) page) (written_by catalog o (word_in base a) place v)) is
          ∙ ap (option_map (with_image (both left found) page)) h.0,
      λ i. record { left = same i; found = found },
    )

abbrev is_byte : Option Spot → Bool
is_byte None = false
is_byte (Some (Word k)) = false
is_byte (Some (ByteOf k j)) = true

no_byte : (b : Bool) (k : ℕ) → is_byte (spot_if b (Word k)) ≡ false
no_byte true k = refl
no_byte false k = refl

-- a byte of a word is a place for bytes
pub byte_value : (o : Option Fields) (len : ℕ) (place : Place) (v : ℕ) (s : Spot) (w j : ℕ) → s ≡ ByteOf w j → Some s ≡ spot_in o len place → IsValueFor place v → v < 256
byte_value None len place v s w j is found value = absurd (true≢false (sym (ap (λ t. is_byte (Some t)) is) ∙ ap is_byte found))
byte_value (Some map) len (Field f) v s w j is found value = absurd (true≢false (sym (ap (λ t. is_byte (Some t)) is) ∙ ap is_byte found ∙ no_byte _ _))
byte_value (Some map) len (Tail k) v s w j is found value = absurd (true≢false (sym (ap (λ t. is_byte (Some t)) is) ∙ ap is_byte found ∙ no_byte _ _))
byte_value (Some map) len (Byte k) v s w j is found value = value
