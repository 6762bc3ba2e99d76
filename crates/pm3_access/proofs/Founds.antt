-- All that is held alone was found.
use Rattle.std.proofs.Common.{◌≡◌, ℕ, Option, None, Some, Ok, Err, Result, refl, sym, ap, ◌∙◌, inl, inr, List}
use Rattle.std.proofs.lemmas.Bool.{cases_eq}
use Rattle.std.specs.Option.{option_map, option_or}
use Rattle.std.specs.Prelude.{MatchResult, OnOk, OnErr}
use Rattle.std.specs.FinMap as map
use Rattle.pm3_types.specs.Fields.{Fields}
use Rattle.pm3_types.specs.Layout.{PageImage, word_in}
use Rattle.pm3_page.specs.PageMap.{Images}
use Rattle.pm3_access.specs.declared.places.Place.{Place}
use Rattle.pm3_access.specs.declared.places.NoPlace.{NoPlace}
use Rattle.pm3_access.specs.Access.{written_by, images_written}
use Rattle.pm3_access.specs.Holding.{HeldImages, AreFound, with_admitted, with_image}
use Rattle.pm3_access.specs.Parts.{both, AreWritten, AreUnwritten}
use Rattle.pm3_access.proofs.Homes.{get_same, get_other, is_some_none, some_of}
use Rattle.pm3_access.proofs.Moved.{get_both}

abbrev All : HeldImages → Type 0
All h = AreFound h.left h.found

all_of : (old new : HeldImages) → new ≡ old → All old → All new
all_of old new same all = rw same all

admit_all : (old : HeldImages) (image : PageImage) → All old → All (with_admitted old image)
admit_all old image all page none = elim (cases_eq page image.page) [
  | inl is ↦ absurd (is_some_none image (sym none ∙ get_same old.found image.page page image is))
  | inr ne ↦ get_other old.left image.page page image ne ∙ all page (sym (get_other old.found image.page page image ne) ∙ none)
]

pub found_admitted : {A E : Type 0} (result : Result A E) (old new : HeldImages) (image : PageImage) → OnOk result (new ≡ with_admitted old image) → OnErr result (new ≡ old) → All old → All new
found_admitted (Ok a) old new image admitted same all = all_of (with_admitted old image) new admitted (admit_all old image all)
found_admitted (Err e) old new image admitted same all = all_of old new same all

insert_all : (old : HeldImages) (page : ℕ) (image before : PageImage) → map.get old.left page ≡ Some before → All old → All (with_image old page image)
insert_all old page image before there all q none = elim (cases_eq q page) [
  | inl is ↦ absurd (is_some_none before (sym (all page (sym (ap (map.get old.found) is) ∙ none)) ∙ there))
  | inr ne ↦ get_other old.left page q image ne ∙ all q none
]

pub change_all : (old new : HeldImages) (page : ℕ) (before : PageImage) (o : Option PageImage) → map.get old.left page ≡ Some before → option_map (with_image old page) o ≡ Some new → All old → All new
change_all old new page before None there is all = absurd (is_some_none new is)
change_all old new page before (Some image) there is all = all_of (with_image old page image) new (sym (some_of (with_image old page image) new is)) (insert_all old page image before there all)

write_all : (catalog : List Fields) (old new : HeldImages) (page at : ℕ) (place : Place) (v : ℕ) (o : Option PageImage) → map.get old.left page ≡ o
    → option_map (with_image old page) (written_by catalog o at place v) ≡ Some new → All old → All new
write_all catalog old new page at place v None there is all = absurd (is_some_none new is)
write_all catalog old new page at place v (Some before) there is all = change_all old new page before (written_by catalog (Some before) at place v) there is all

pub found_written : (catalog : List Fields) (base : ℕ) (old new : HeldImages) (page a : ℕ) (place : Place) (v : ℕ) (result : Result (Unit {0}) NoPlace)
    → MatchResult result (λ _. images_written catalog base old page a place v ≡ Some new) (λ _. (images_written catalog base old page a place v ≡ None) × (new ≡ old)) → All old → All new
found_written catalog base old new page a place v (Ok u) is all = write_all catalog old new page (word_in base a) place v (map.get old.left page) refl is all
found_written catalog base old new page a place v (Err e) is all = all_of old new is.1 all

none_if : (o : Option PageImage) → ((image : PageImage) → o ≡ Some image → ⊥) → o ≡ None
none_if None never = refl
none_if (Some image) never = absurd (never image refl)

pub written_found : (left found written : Images) → AreWritten (record { left = left; found = found }) written → AreFound left found → AreFound written found
written_found left found written so all page none = none_if (map.get written page) (λ image is. is_some_none image (sym (all page none) ∙ ((so page image).0 is).0))

pub others_found : (left found others : Images) → AreUnwritten (record { left = left; found = found }) others → AreFound left found → AreFound others found
others_found left found others so all page none = none_if (map.get others page) (λ image is. is_some_none image (sym (all page none) ∙ ((so page image).0 is).0))

pub both_found : (others written found : Images) → AreFound others found → AreFound written found → AreFound (both others written) found
both_found others written found in_others in_written page none =
    get_both others written page ∙ ap (λ o. option_or o (map.get others page)) (in_written page none) ∙ in_others page none
