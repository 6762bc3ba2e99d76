-- Room for the images of all pages held alone.
use Rattle.std.proofs.Common.{◌≡◌, ◌+◌, ◌≤◌, ◌∙◌, max, ℕ, Bool, true, false, List, Option, None, Some, Ok, Err, Result, is_some, cond, refl, sym, ap, arith}
use Rattle.std.specs.Option.{option_map}
use Rattle.std.specs.Prelude.{MatchResult, OnOk, OnErr}
use Rattle.std.proofs.Math.Nat.{le-max_right}
use Rattle.std.specs.Cmp.{nat_cmp_total}
use Rattle.std.specs.Ordering.{nat_cmp}
use Rattle.std.specs.FinMap as map
use Rattle.std.specs.FinMap.{len-insert, len-empty}
use Rattle.pm3_types.specs.Fields.{Fields}
use Rattle.pm3_types.specs.Layout.{PageImage, word_in}
use Rattle.pm3_page.specs.PageMap.{Images, PageMap}
use Rattle.pm3_access.specs.declared.places.Place.{Place}
use Rattle.pm3_access.specs.declared.places.NoPlace.{NoPlace}
use Rattle.pm3_access.specs.Access.{written_by, images_written}
use Rattle.pm3_access.specs.Holding.{HeldImages, with_admitted, with_image}
use Rattle.pm3_access.specs.Parts.{HaveRoomFor}
use Rattle.pm3_access.proofs.Homes.{is_some_none, some_of}

-- room for no images
pub room_for_none : (images : Images) (pages : PageMap) → images ≡ map.empty → pages.images ≡ map.empty → HaveRoomFor images pages
room_for_none images pages none empty =
    let count : map.len images ≡ 0 = ap map.len none ∙ len-empty nat_cmp PageImage in
    record { none = empty; room = omega arith }

-- an image more at most
choice_most : (b : Bool) (n : ℕ) → cond b n (n + 1) ≤ n + 1
choice_most true n = omega arith
choice_most false n = omega arith

len_most : (m : Images) (k : ℕ) (v : PageImage) → map.len (map.insert m k v) ≤ map.len m + 1
len_most m k v =
    let count : map.len (map.insert m k v) ≡ cond (is_some (map.get m k)) (map.len m) (map.len m + 1) = len-insert nat_cmp_total m k v in
    omega (arith, count, choice_most (is_some (map.get m k)) (map.len m))

-- another image of a page
len_same : (m : Images) (k : ℕ) (v before : PageImage) → map.get m k ≡ Some before → map.len (map.insert m k v) ≡ map.len m
len_same m k v before is = len-insert nat_cmp_total m k v ∙ ap (λ (o : Option PageImage). cond (is_some o) (map.len m) (map.len m + 1)) is

-- a page is admitted, for which room was made
pub room_admitted : {A E : Type 0} (result : Result A E) (old new : HeldImages) (image : PageImage) (before after : PageMap) (more : ℕ) → OnOk result (new ≡ with_admitted old image)
    → OnErr result (new ≡ old) → after.images ≡ before.images → after.spare ≡ max before.spare more → more ≡ map.len old.left + 1 → HaveRoomFor old.left before → HaveRoomFor new.left after
room_admitted (Ok a) old new image before after more admitted same images spare wanted room =
    let count : map.len new.left ≡ map.len (map.insert old.left image.page image) = ap (λ (h : HeldImages). map.len h.left) admitted in
    record { none = images ∙ room.none; room = omega (arith, count, spare, wanted, len_most old.left image.page image, le-max_right before.spare more) }
room_admitted (Err e) old new image before after more admitted same images spare wanted room =
    let count : map.len new.left ≡ map.len old.left = ap (λ (h : HeldImages). map.len h.left) same in
    record { none = images ∙ room.none; room = omega (arith, count, spare, wanted, le-max_right before.spare more) }

as_many : (old new : HeldImages) (written : PageMap) → map.len new.left ≡ map.len old.left → HaveRoomFor old.left written → HaveRoomFor new.left written
as_many old new written count room = record { none = room.none; room = omega (arith, count, room.room) }

pub change_room : (old new : HeldImages) (written : PageMap) (page : ℕ) (before : PageImage) (o : Option PageImage) → map.get old.left page ≡ Some before
    → option_map (with_image old page) o ≡ Some new → HaveRoomFor old.left written → HaveRoomFor new.left written
change_room old new written page before None there is room = absurd (is_some_none new is)
change_room old new written page before (Some image) there is room =
    as_many old new written (ap (λ (h : HeldImages). map.len h.left) (sym (some_of (with_image old page image) new is)) ∙ len_same old.left page image before there) room

write_room : (catalog : List Fields) (old new : HeldImages) (written : PageMap) (page at : ℕ) (place : Place) (v : ℕ) (o : Option PageImage) → map.get old.left page ≡ o
    → option_map (with_image old page) (written_by catalog o at place v) ≡ Some new → HaveRoomFor old.left written → HaveRoomFor new.left written
write_room catalog old new written page at place v None there is room = absurd (is_some_none new is)
write_room catalog old new written page at place v (Some before) there is room = change_room old new written page before (written_by catalog (Some before) at place v) there is room

-- a write leaves the room for all images
pub room_written : (catalog : List Fields) (base : ℕ) (old new : HeldImages) (written : PageMap) (page a : ℕ) (place : Place) (v : ℕ) (result : Result (Unit {0}) NoPlace)
    → MatchResult result (λ _. images_written catalog base old page a place v ≡ Some new) (λ _. (images_written catalog base old page a place v ≡ None) × (new ≡ old))
    → HaveRoomFor old.left written → HaveRoomFor new.left written
room_written catalog base old new written page a place v (Ok u) is room = write_room catalog old new written page (word_in base a) place v (map.get old.left page) refl is room
room_written catalog base old new written page a place v (Err e) is room = as_many old new written (ap (λ (h : HeldImages). map.len h.left) is.1) room
