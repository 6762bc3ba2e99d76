-- What is held is in place after each call.
use Rattle.std.proofs.Common.{◌≡◌, ℕ, true, List, Option, Some, None, Ok, Err, Result, sym, subst}
use Rattle.std.specs.Prelude.{MatchResult, OnOk, OnErr}
use Rattle.std.specs.FinMap as map
use Rattle.pm3_types.specs.Fields.{Fields}
use Rattle.pm3_types.specs.Layout.{PageImage}
use Rattle.pm3_access.specs.declared.places.Place.{Place}
use Rattle.pm3_access.specs.declared.places.NoPlace.{NoPlace}
use Rattle.pm3_access.specs.Access.{value_written}
use Rattle.pm3_access.specs.Acts.{AreInPlace}
use Rattle.pm3_access.specs.Holding.{Holding, HeldImages, HeldSpaceState, SpaceState, image_in, with_admitted, held_space, grown}
use Rattle.pm3_page.specs.PageMap.{IsAtHome}
use Rattle.pm3_access.proofs.InPlace.{admitted_in_place, space_in_place, grown_in_place, written_in_place}

-- these pages and this space
abbrev pub of : HeldImages → Option HeldSpaceState → Holding
of pages space = record { pages = pages; space = space }

pub admit_place : {T E : Type 0} (result : Result T E) (pages new : HeldImages) (space : Option HeldSpaceState) (image : PageImage) → OnOk result (new ≡ with_admitted pages image) → OnErr result (new ≡ pages)
    → image_in (of pages space) image.page ≡ None → AreInPlace (of pages space) → AreInPlace (of new space)
admit_place (Ok x) pages new space image done same absent places = subst (λ (p : HeldImages). AreInPlace (of p space)) (sym done) (admitted_in_place (of pages space) places image absent)
admit_place (Err e) pages new space image done same absent places = subst (λ (p : HeldImages). AreInPlace (of p space)) (sym same) places

pub space_place : (pages : HeldImages) (before : Option HeldSpaceState) (held : HeldSpaceState) (space : SpaceState) → held ≡ held_space space → before ≡ None → IsAtHome space.images
    → ((page : ℕ) → map.contains_key space.images page ≡ true → image_in (of pages before) page ≡ None) → AreInPlace (of pages before) → AreInPlace (of pages (Some held))
space_place pages before held space is none home absent places = subst (λ (s : HeldSpaceState). AreInPlace (of pages (Some s))) (sym is) (space_in_place (of pages before) places space none home absent)

-- a change of the space
pub by_new_space : {T E : Type 0} (result : Result T E) (pages : HeldImages) (before : Option HeldSpaceState) (old new target : HeldSpaceState) → Some old ≡ before → OnOk result (new ≡ target) → OnErr result (new ≡ old)
    → (AreInPlace (of pages (Some old)) → AreInPlace (of pages (Some target))) → AreInPlace (of pages before) → AreInPlace (of pages (Some new))
by_new_space (Ok x) pages before old new target is done same kept places =
    subst (λ (s : HeldSpaceState). AreInPlace (of pages (Some s))) (sym done) (kept (subst (λ (o : Option HeldSpaceState). AreInPlace (of pages o)) (sym is) places))
by_new_space (Err e) pages before old new target is done same kept places =
    subst (λ (s : HeldSpaceState). AreInPlace (of pages (Some s))) (sym same) (subst (λ (o : Option HeldSpaceState). AreInPlace (of pages o)) (sym is) places)

pub grow_place : (pages : HeldImages) (old : HeldSpaceState) (image : PageImage) → image_in (of pages (Some old)) image.page ≡ None → AreInPlace (of pages (Some old)) → AreInPlace (of pages (Some (grown old image)))
grow_place pages old image absent places = grown_in_place (of pages (Some old)) places image absent

-- a space with the same images
pub same_place : (pages : HeldImages) (before : Option HeldSpaceState) (old new : HeldSpaceState) → Some old ≡ before → new.images ≡ old.images → AreInPlace (of pages before) → AreInPlace (of pages (Some new))
same_place pages before old new is images places =
    let there : AreInPlace (of pages (Some old)) = subst (λ (o : Option HeldSpaceState). AreInPlace (of pages o)) (sym is) places in
    let here : AreInPlace (of pages (Some (record new { images = old.images }))) = record { home = there.home; apart = there.apart; found = there.found } in
    subst (λ (i : HeldImages). AreInPlace (of pages (Some (record new { images = i })))) (sym images) here

-- a write, to a page alone or to the space
pub write_place : (catalog : List Fields) (base : ℕ) (h new : Holding) (a : ℕ) (place : Place) (v : ℕ) (result : Result (Unit {0}) NoPlace)
    → MatchResult result (λ _. value_written catalog base h a place v ≡ Some new) (λ _. (value_written catalog base h a place v ≡ None) × (new ≡ h)) → AreInPlace h → AreInPlace new
write_place catalog base h new a place v (Ok u) is places = written_in_place h places catalog base a place v new is
write_place catalog base h new a place v (Err e) none places = subst AreInPlace (sym none.1) places
