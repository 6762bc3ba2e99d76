-- Reads and writes of root slots of what is held.
use Rattle.std.proofs.Common.{◌≡◌, ◌<◌, ◌+◌, ◌∙◌, inl, inr, ℕ, Bool, true, List, length, set, Option, Some, None, Ok, refl, sym, ap, subst, arith, length-set, get_or-set_other, get_or-set_same}
use Rattle.std.proofs.lemmas.Bool.{cases_eq}
use Rattle.std.specs.Prelude.{slice_index}
use Rattle.std.specs.Option.{option_map, option_or}
use Rattle.std.specs.FinMap as map
use Rattle.pm3_types.specs.Fields.{Fields}
use Rattle.pm3_types.specs.Layout.{PageImage, with_word, with_word_at}
use Rattle.pm3_types.specs.PageForm.{HasRoots, is_page_head}
use Rattle.pm3_types.specs.Shown.{Images, IsKnown, FitsImages, name_by, shown}
use Rattle.pm3_page.specs.PageMap as page_map
use Rattle.pm3_page.specs.PageSheets.{sheet_in}
use Rattle.pm3_access.specs.Access.{HaveForm}
use Rattle.pm3_access.specs.Acts.{AreInPlace, left_images, left_part}
use Rattle.pm3_access.specs.Holding.{Holding, HeldImages, AreFound, image_in, space_now, with_image}
use Rattle.pm3_access.specs.Parts.{HaveRoomFor}
use Rattle.pm3_access.specs.Roots.{root_held, images_rooted, root_written, IsRootRead, IsRootWrite}
use Rattle.pm3_access.proofs.Homes.{is_some_none, some_of}
use Rattle.pm3_access.proofs.HeldSheets.{get-left_images, changed, changed_by, left_changed}
use Rattle.pm3_access.proofs.InPlace.{changed_in_place}
use Rattle.pm3_access.proofs.SoundingHeld.{sound_alone}
use Rattle.pm3_access.proofs.Founds.{change_all}
use Rattle.pm3_access.proofs.PartRoom.{change_room}
use Rattle.pm3_access.proofs.RootSteps.{root_step, set_root_step, still_fits_roots}

there_too : (h : Holding) (image : PageImage) → map.get h.pages.left 2 ≡ Some image → image_in h 2 ≡ Some image
there_too h image there = ap (λ (o : Option PageImage). option_or o (space_now h.space 2)) there

on_page : (h : Holding) (image : PageImage) → map.get h.pages.left 2 ≡ Some image → map.get (left_images h) 2 ≡ Some image.sheet
on_page h image there = get-left_images h 2 ∙ ap sheet_in (there_too h image there)

-- what is read in a slot is read in the graph
pub root_read : (catalog : List Fields) (base : ℕ) (h : Holding) (slot a : ℕ) → slot < 16 → root_held h slot ≡ Some a → IsRootRead catalog base h slot a
root_read catalog base h slot a low is = of (map.get h.pages.left 2) refl is
  where
    of : (o : Option PageImage) → map.get h.pages.left 2 ≡ o → option_map (λ image. slice_index image.sheet.words (2 + slot)) o ≡ Some a → IsRootRead catalog base h slot a
    of None there e = absurd (is_some_none a e)
    of (Some image) there e = λ b. (
      root_step catalog base b (left_images h) image.sheet (on_page h image there) slot low
          ∙ ap (λ (x : ℕ). Ok (name_by b x, left_part catalog base b h)) (some_of (slice_index image.sheet.words (2 + slot)) a e),
      λ fits. subst (IsKnown b) (some_of (slice_index image.sheet.words (2 + slot)) a e) (fits.roots slot image.sheet low (on_page h image there)),
    )

abbrev rooted : Holding → PageImage → ℕ → ℕ → Holding
rooted h image slot a = record { pages = with_image h.pages 2 (with_word_at image (2 + slot) a); space = h.space }

-- the image of page 2 that was written
image_of : (h new : Holding) (slot a : ℕ) → root_written h slot a ≡ Some new → (image : PageImage) × (map.get h.pages.left 2 ≡ Some image) × (rooted h image slot a ≡ new)
image_of h new slot a is = of (map.get h.pages.left 2) refl is
  where
    of : (o : Option PageImage) → map.get h.pages.left 2 ≡ o
        → option_map (λ (pages : HeldImages). record h { pages = pages }) (option_map (λ image. with_image h.pages 2 (with_word_at image (2 + slot) a)) o) ≡ Some new
        → (image : PageImage) × (map.get h.pages.left 2 ≡ Some image) × (rooted h image slot a ≡ new)
    of None there e = absurd (is_some_none new e)
    of (Some image) there e = (image, there, some_of (rooted h image slot a) new e)

is_changed : (h : Holding) (image : PageImage) (slot a : ℕ) → map.get h.pages.left 2 ≡ Some image → changed h 2 (with_word_at image (2 + slot) a) ≡ rooted h image slot a
is_changed h image slot a there = ap (λ (o : Option PageImage). changed_by o h 2 (with_word_at image (2 + slot) a)) there

module _ (catalog : List Fields) (refers : ℕ → Bool) (image : PageImage) (slot a : ℕ) (low : slot < 16) (form : HasRoots refers image.sheet) where
  within : 2 + slot < length image.sheet.words
  within = omega (arith, form.words)

  -- a page of roots with another one
  still_roots : refers a ≡ true → HasRoots refers (with_word image.sheet (2 + slot) a)
  still_roots refer = record {
    words = length-set image.sheet.words (2 + slot) a ∙ form.words;
    starts = form.starts;
    head = ap (is_page_head 2) (get_or-set_other image.sheet.words (2 + slot) 0 a 0 (λ e. omega arith)) ∙ form.head;
    second = get_or-set_other image.sheet.words (2 + slot) 1 a 0 (λ e. omega arith) ∙ form.second;
    roots = λ k below. elim (cases_eq k slot) [
      | inl e ↦ ap refers (ap (λ (i : ℕ). slice_index (set image.sheet.words (2 + slot) a) (2 + i)) e ∙ get_or-set_same image.sheet.words (2 + slot) a 0 within) ∙ refer
      | inr ne ↦ ap refers (get_or-set_other image.sheet.words (2 + slot) (2 + k) a 0 (λ e. ne (omega arith))) ∙ form.roots k below
    ];
    rest = λ i from. get_or-set_other image.sheet.words (2 + slot) i a 0 (λ e. omega arith) ∙ form.rest i from;
    empty = form.empty;
  }

module _ (h new : Holding) (slot a : ℕ) (places : AreInPlace h) (is : root_written h slot a ≡ Some new) where
  module _ (image : PageImage) (there : map.get h.pages.left 2 ≡ Some image) (same : rooted h image slot a ≡ new) where
    own : image.page ≡ 2
    own = places.home 2 image (there_too h image there)

    left_is : left_images new ≡ map.insert (left_images h) 2 (with_word image.sheet (2 + slot) a)
    left_is = ap left_images (sym same) ∙ ap left_images (sym (is_changed h image slot a there)) ∙ left_changed h 2 image (with_word_at image (2 + slot) a) (there_too h image there)

    place_of : AreInPlace new
    place_of = subst AreInPlace (is_changed h image slot a there ∙ same) (changed_in_place h places 2 image (with_word_at image (2 + slot) a) (there_too h image there) refl)

    form_of : (catalog : List Fields) (refers : ℕ → Bool) → HaveForm catalog refers h → HasRoots refers image.sheet
    form_of catalog refers sound = (sound 2 image (there_too h image there)).roots own

    write_of : slot < 16 → (catalog : List Fields) (base : ℕ) → IsRootWrite catalog base h slot a new
    write_of low catalog base book refers sound =
        let form = form_of catalog refers sound in
        let inside = within catalog refers image slot a low form in (
          set_root_step catalog base book (left_images h) image.sheet (on_page h image there) slot low a form.empty inside
              ∙ ap (λ (images : Images). Ok (0, shown catalog base book images)) (sym left_is),
          λ fits known. subst (FitsImages catalog base book) (sym left_is)
              (still_fits_roots catalog base book (left_images h) image.sheet (on_page h image there) slot low a form.empty inside fits known),
        )

    sound_of : slot < 16 → (catalog : List Fields) (base : ℕ) (refers : ℕ → Bool) → HaveForm catalog refers h → refers a ≡ true → HaveForm catalog refers new
    sound_of low catalog base refers sound refer = subst (HaveForm catalog refers) same
        (sound_alone catalog base refers h.pages (with_image h.pages 2 (with_word_at image (2 + slot) a)) h.space 2 (with_word_at image (2 + slot) a) refl
        (record { roots = λ e. still_roots catalog refers image slot a low (form_of catalog refers sound) refer; objects = λ apart. absurd (apart own) }) sound)

  pub rooted_in_place : AreInPlace new
  rooted_in_place = let found = image_of h new slot a is in place_of found.0 found.1 found.2

  pub root_write : slot < 16 → (catalog : List Fields) (base : ℕ) → IsRootWrite catalog base h slot a new
  root_write low catalog base = let found = image_of h new slot a is in write_of found.0 found.1 found.2 low catalog base

  pub rooted_form : slot < 16 → (catalog : List Fields) (base : ℕ) (refers : ℕ → Bool) → HaveForm catalog refers h → refers a ≡ true → HaveForm catalog refers new
  rooted_form low catalog base refers sound refer = let found = image_of h new slot a is in sound_of found.0 found.1 found.2 low catalog base refers sound refer

-- the pages are those that were found, and there is room for all
module _ (old new : HeldImages) (slot a : ℕ) (is : images_rooted old slot a ≡ Some new) where
  pub rooted_found : AreFound old.left old.found → AreFound new.left new.found
  rooted_found all = of (map.get old.left 2) refl is
    where
      of : (o : Option PageImage) → map.get old.left 2 ≡ o → option_map (λ image. with_image old 2 (with_word_at image (2 + slot) a)) o ≡ Some new → AreFound new.left new.found
      of None there e = absurd (is_some_none new e)
      of (Some image) there e = change_all old new 2 image (Some (with_word_at image (2 + slot) a)) there e all

  pub rooted_room : (written : page_map.PageMap) → HaveRoomFor old.left written → HaveRoomFor new.left written
  rooted_room written room = of (map.get old.left 2) refl is
    where
      of : (o : Option PageImage) → map.get old.left 2 ≡ o → option_map (λ image. with_image old 2 (with_word_at image (2 + slot) a)) o ≡ Some new → HaveRoomFor new.left written
      of None there e = absurd (is_some_none new e)
      of (Some image) there e = change_room old new written 2 image (Some (with_word_at image (2 + slot) a)) there e room
