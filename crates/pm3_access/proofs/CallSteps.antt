-- What the calls on what is held answer, as operations on the part that is left.
use Rattle.std.proofs.Common.{◌≡◌, ◌∙◌, ap, true, ℕ, List, Option, Some, None, Ok, Err, Result}
use Rattle.std.specs.Prelude.{MatchResult, IfSome, OnOk}
use Rattle.std.specs.FinMap.{insert, empty, contains_key}
use Rattle.pm3_types.specs.Fields.{Fields}
use Rattle.pm3_types.specs.Layout.{PageImage}
use Rattle.pm3_access.specs.declared.places.Place.{Place}
use Rattle.pm3_access.specs.declared.places.NoPlace.{NoPlace}
use Rattle.pm3_access.specs.Access.{value_held, value_written}
use Rattle.pm3_page.specs.PageSheets.{sheets_of}
use Rattle.pm3_access.specs.Acts.{AreInPlace, IsReadStep, IsWriteStep, IsMakeStep, MayBeMade, HaveGrown, left_images, found_images, left_part, found_part, image_part, space_part}
use Rattle.pm3_access.specs.Sound.{HasLowPage}
use Rattle.pm3_access.specs.Holding.{Holding, SpaceState, image_in, admitted, with_held_space}
use Rattle.pm3_access.specs.Making.{IsMade, current_image}
use Rattle.pm3_access.specs.Spots.{IsValueFor}
use Rattle.pm3_access.proofs.JoinedParts.{shown_joined}
use Rattle.pm3_access.proofs.AdmitSteps.{left_joined, found_joined, space_left_joined, space_found_joined}
use Rattle.pm3_access.proofs.ReadSteps.{read_step, no_read_step}
use Rattle.pm3_access.proofs.WriteSteps.{write_step, write_fits, no_write_step}
use Rattle.pm3_access.proofs.MakeSteps.{made_step, made_fits, made_new}

pub read_call : (catalog : List Fields) (base : ℕ) (h : Holding) (a : ℕ) (place : Place) (result : Result ℕ NoPlace)
    → MatchResult result (λ v. value_held catalog base h a place ≡ Some v) (λ _. value_held catalog base h a place ≡ None)
    → MatchResult result (λ v. IsReadStep catalog base h a place (Some v)) (λ _. IsReadStep catalog base h a place None)
read_call catalog base h a place (Ok v) is = λ book n map held. read_step catalog base book h a n map place held v is
read_call catalog base h a place (Err e) none = λ book n map held. no_read_step catalog base book h a n map place held none

pub write_call : (catalog : List Fields) (base : ℕ) (h new : Holding) (a : ℕ) (place : Place) (v : ℕ) → IsValueFor place v → (result : Result (Unit {0}) NoPlace)
    → MatchResult result (λ _. value_written catalog base h a place v ≡ Some new) (λ _. (value_written catalog base h a place v ≡ None) × (new ≡ h))
    → MatchResult result (λ _. IsWriteStep catalog base h a place v (Some new)) (λ _. IsWriteStep catalog base h a place v None)
write_call catalog base h new a place v value (Ok u) is =
    λ book n map held. (write_step catalog base book h a n map place v held new value is, λ known. write_fits catalog base book h a n map place v held new known is)
write_call catalog base h new a place v value (Err e) none = λ book n map held. no_write_step catalog base book h a n map place v held none.0

pub make_call : (catalog : List Fields) (base : ℕ) (h new : Holding) (ty tail n : ℕ) → AreInPlace h → HasLowPage (current_image h.space) → MayBeMade catalog ty tail n
    → (result : Option ℕ) → IsMade base catalog h ty tail n result new → IfSome result (λ a. IsMakeStep catalog base h ty tail n a new)
make_call catalog base h new ty tail n places low may None made = tt
make_call catalog base h new ty tail n places low may (Some a) made = λ book fresh. (
  made_step catalog base h new ty tail n a places made book low may fresh,
  made_fits catalog base h new ty tail n a places made book low may fresh,
  made_new catalog base h new ty tail n a places made book low may fresh,
)

pub admit_call : {T E : Type 0} (result : Result T E) (base : ℕ) (h new : Holding) (image : PageImage) → AreInPlace h → image_in h image.page ≡ None → OnOk result (new ≡ admitted h image)
    → OnOk result ((catalog : List Fields) → HaveGrown catalog base h new (λ book. image_part catalog base book image))
admit_call (Err e) base h new image places absent done = tt
admit_call (Ok x) base h new image places absent done = λ catalog book. (
  ap (left_part catalog base book) done ∙ shown_joined catalog base book (left_images h) (insert empty image.page image.sheet) (left_images (admitted h image)) (left_joined h image absent),
  ap (found_part catalog base book) done ∙ shown_joined catalog base book (found_images h) (insert empty image.page image.sheet) (found_images (admitted h image)) (found_joined h image absent places),
)

pub space_call : (base : ℕ) (h new : Holding) (space : SpaceState) → AreInPlace h → h.space ≡ None → ((page : ℕ) → contains_key space.images page ≡ true → image_in h page ≡ None)
    → new ≡ with_held_space h space → (catalog : List Fields) → HaveGrown catalog base h new (λ book. space_part catalog base book space)
space_call base h new space places none absent done = λ catalog book. (
  ap (left_part catalog base book) done ∙ shown_joined catalog base book (left_images h) (sheets_of space.images) (left_images (with_held_space h space)) (space_left_joined h space none absent),
  ap (found_part catalog base book) done ∙ shown_joined catalog base book (found_images h) (sheets_of space.images) (found_images (with_held_space h space)) (space_found_joined h space none absent places),
)
