-- A new object keeps the form of what is held.
use Rattle.std.proofs.Common.{◌≡◌, ◌≢◌, ◌<◌, ◌≤◌, ◌+◌, ◌^◌, ◌||◌, ◌∙◌, inl, inr, ℕ, Bool, true, false, not, eqb, leb, ltb, List, length, Option, Some, None, slice_get, refl, sym, ap, subst, arith}
use Rattle.std.specs.Option.{option_or, option_map, option_and_then}
use Rattle.std.specs.FinMap as map
use Rattle.std.proofs.lemmas.Bool.{cases_Bool, and_parts, leb-true, lt-ltb, eq-eqb, false≢true}
use Rattle.std.proofs.lemmas.Option.{slice_get_cases}
use Rattle.std.proofs.Math.Bool.{or-true}
use Rattle.pm3_types.specs.Fields.{Fields}
use Rattle.pm3_types.specs.Layout.{PageImage, end_of, has_tail, has_tail_by, size_by, size_of, head_of, type_in, tail_in, placed_on}
use Rattle.pm3_types.specs.PageForm.{is_head_of, is_name}
use Rattle.pm3_access.specs.Access.{HaveForm, ImageHasForm}
use Rattle.pm3_access.specs.Holding.{Holding, HeldImages, HeldSpaceState}
use Rattle.pm3_access.specs.Making.{has_space_for, has_room_for, current_in, current_image, space_made, IsMade}
use Rattle.pm3_access.specs.Sound.{HasLowPage}
use Rattle.pm3_access.proofs.SoundingPages.{both}
use Rattle.pm3_types.proofs.PlacedForm.{form_placed}
use Rattle.pm3_access.proofs.SoundingHeld.{sound_in_space}

type_back : (ty tail : ℕ) → ty < 2 ^ 16 → type_in (head_of ty tail) ≡ ty
unfolding type_in head_of
type_back ty tail low = omega arith

tail_back : (ty tail : ℕ) → ty < 2 ^ 16 → tail < 2 ^ 32 → tail_in (head_of ty tail) ≡ tail
unfolding tail_in head_of
tail_back ty tail low few = omega arith

head_low : (ty tail : ℕ) → ty < 2 ^ 16 → tail < 2 ^ 32 → head_of ty tail < 2 ^ 48
unfolding head_of
head_low ty tail low few = omega arith

name_form : (name : ℕ) → 0 < name → name < 2 ^ 62 → is_name name ≡ true
unfolding is_name
name_form name some low = both (ltb 0 name) (ltb name (2 ^ 62)) (lt-ltb 0 name some) (lt-ltb name (2 ^ 62) low)

head_form : (map : Fields) (head : ℕ) → head < 2 ^ 48 → (has_tail_by map.tail ≡ false → tail_in head ≡ 0) → is_head_of map head ≡ true
unfolding is_head_of
head_form map head low empty = both (ltb head (2 ^ 48)) (has_tail_by map.tail || eqb (tail_in head) 0) (lt-ltb head (2 ^ 48) low) (elim (cases_Bool (has_tail_by map.tail)) [
  | inl has ↦ ap (λ (b : Bool). b || eqb (tail_in head) 0) has
  | inr none ↦ ap (λ (b : Bool). has_tail_by map.tail || b) (eq-eqb (tail_in head) 0 (empty none)) ∙ or-true (has_tail_by map.tail)
])

apart_by : (page : ℕ) → not (eqb page 2) ≡ true → page ≢ 2
apart_by page e same = false≢true (sym (ap not (eq-eqb page 2 same)) ∙ e)

module _ (catalog : List Fields) (base : ℕ) (refers : ℕ → Bool) (nil : refers 0 ≡ true) (ty tail name : ℕ) (there : ty < length catalog) (low : ty < 2 ^ 16) (few : tail < 2 ^ 32)
    (named : (0 < name) × (name < 2 ^ 62)) (empty : has_tail (slice_get catalog ty) ≡ false → tail ≡ 0) where
  abbrev size : ℕ
  size = size_by (slice_get catalog ty) tail

  two_by : (o : Option Fields) (map : Fields) → o ≡ Some map → 2 ≤ size_by o tail
  two_by o map is = omega (arith, ap (λ (m : Option Fields). size_by m tail) is)

  two : 2 ≤ size
  two = elim ((slice_get_cases catalog ty).1) [
    | inl found ↦ two_by (slice_get catalog ty) found.0 found.2
    | inr past ↦ absurd (omega (arith, past.0))
  ]

  sized : size_of catalog (head_of ty tail) ≡ size
  sized = ap (λ (t : ℕ). size_by (slice_get catalog t) (tail_in (head_of ty tail))) (type_back ty tail low) ∙ ap (size_by (slice_get catalog ty)) (tail_back ty tail low few)

  headed : (map : Fields) → slice_get catalog (type_in (head_of ty tail)) ≡ Some map → is_head_of map (head_of ty tail) ≡ true
  headed map is = head_form map (head_of ty tail) (head_low ty tail low few)
      (λ none. tail_back ty tail low few ∙ empty (ap has_tail (sym (ap (slice_get catalog) (type_back ty tail low)) ∙ is) ∙ none))

  image_made : (image : PageImage) → has_space_for image size ≡ true → image.page < 2 ^ 32 → ImageHasForm catalog refers image
      → ImageHasForm catalog refers (placed_on image size (head_of ty tail) name)
  image_made image room small form =
      let tests = and_parts (not (eqb image.page 2)) (leb (end_of image.sheet + size) 512) room in
      form_placed catalog refers image size (head_of ty tail) name nil form (apart_by image.page tests.0) small two (leb-true (end_of image.sheet + size) 512 tests.1) sized headed
      (name_form name named.0 named.1)

  in_space : (p : HeldImages) (s : HeldSpaceState) (current : Option ℕ) (found : Option PageImage) → option_and_then (map.get s.images.left) current ≡ found → has_room_for found size ≡ true
      → HasLowPage found → HaveForm catalog refers (record { pages = p; space = Some s })
      → HaveForm catalog refers (record { pages = p; space = Some (space_made s current found size (head_of ty tail) name) })
  in_space p s None found is room small sound = absurd (false≢true (ap (λ (o : Option PageImage). has_room_for o size) is ∙ room))
  in_space p s (Some page) None is room small sound = absurd (false≢true room)
  in_space p s (Some page) (Some image) is room small sound =
      sound_in_space catalog base refers p s (space_made s (Some page) (Some image) size (head_of ty tail) name) page (placed_on image size (head_of ty tail) name) refl
      (λ none. image_made image room (small image refl) (sound page image (ap (λ (o : Option PageImage). option_or o (map.get s.images.left page)) none ∙ is))) sound

  held : (p : HeldImages) (space : Option HeldSpaceState) → has_room_for (current_image space) size ≡ true → HasLowPage (current_image space)
      → HaveForm catalog refers (record { pages = p; space = space })
      → HaveForm catalog refers (record { pages = p; space = option_map (λ s. space_made s s.current (current_in s) size (head_of ty tail) name) space })
  held p None room small sound = absurd (false≢true room)
  held p (Some s) room small sound = in_space p s s.current (current_in s) refl room small sound

  -- a new object keeps the form of what is held
  pub sound_made : (old : Holding) (result : Option ℕ) (new : Holding) → IsMade base catalog old ty tail name result new
      → HasLowPage (current_image old.space) → HaveForm catalog refers old → HaveForm catalog refers new
  sound_made old None new is small sound = subst (HaveForm catalog refers) (sym is.1) sound
  sound_made old (Some at) new is small sound = subst (HaveForm catalog refers) (sym is.2) (held old.pages old.space is.0 small sound)
