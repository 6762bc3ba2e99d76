-- Changes of the free pages of a parted holding.
use Rattle.std.proofs.Common.{◌≡◌, ℕ, ◌+◌, max, Option, None, Some, Ok, Err, Result, refl, sym, ap, ◌∙◌, subst, arith}
use Rattle.std.specs.Option.{option_map}
use Rattle.std.specs.Prelude.{OnOk, OnErr, MatchOption}
use Rattle.std.specs.FinSet as set_of
use Rattle.pm3_page.specs.PageMap.{Images}
use Rattle.pm3_access.specs.declared.parted.Parted.{Parted}
use Rattle.pm3_access.specs.Acts.{AreInPlace}
use Rattle.pm3_access.proofs.GrowSteps.{still_in_place}
use Rattle.pm3_access.specs.FreeList.{Numbers}
use Rattle.pm3_access.specs.Holding.{HeldSpaceState, by_space, with_free}
use Rattle.pm3_access.specs.Parts.{SpaceRest, with_images, rest_with_free, KeepsFound, HasRoomFor, both}
use Rattle.pm3_access.specs.Parting.{joined, CanRejoin, parted_by_space}

abbrev pub part_change : (Numbers → Numbers) → (ℕ → ℕ) → SpaceRest → SpaceRest
part_change free room s = rest_with_free s (free s.free) (room s.room)

abbrev pub held_change : (Numbers → Numbers) → (ℕ → ℕ) → HeldSpaceState → HeldSpaceState
held_change free room s = with_free s (free s.free) (room s.room)

spaces_by : (free : Numbers → Numbers) (room : ℕ → ℕ) (volatile : Images) (o : Option SpaceRest)
    → option_map (with_images volatile) (option_map (part_change free room) o) ≡ option_map (held_change free room) (option_map (with_images volatile) o)
spaces_by free room volatile None = refl
spaces_by free room volatile (Some s) = refl

pub joined_by : (free : Numbers → Numbers) (room : ℕ → ℕ) (old new : Parted) → new ≡ parted_by_space (part_change free room) old → joined new ≡ by_space (held_change free room) (joined old)
joined_by free room old new is = ap joined is ∙ (λ i. record {
  pages = record { left = both old.rest.pages.images old.written.images; found = old.rest.found };
  space = spaces_by free room old.volatile.images old.rest.space i;
})

kept_still : (free : Numbers → Numbers) (room : ℕ → ℕ) (volatile : Images) (o : Option SpaceRest) → KeepsFound o volatile → KeepsFound (option_map (part_change free room) o) volatile
kept_still free room volatile None kept = kept
kept_still free room volatile (Some s) kept = kept

rejoin_same : (old new : Parted) → new ≡ old → CanRejoin old → CanRejoin new
rejoin_same old new is can = rw is can

pub rejoin_by : (free : Numbers → Numbers) (room : ℕ → ℕ) (old new : Parted) → new ≡ parted_by_space (part_change free room) old → CanRejoin old → CanRejoin new
rejoin_by free room old new is can = rejoin_same (parted_by_space (part_change free room) old) new is (record {
  written_home = can.written_home;
  volatile_home = can.volatile_home;
  found = can.found;
  apart = can.apart;
  room = can.room;
  written_room = can.written_room;
  kept = can.kept;
  space_kept = kept_still free room old.volatile.images old.rest.space can.space_kept;
  places = subst AreInPlace (sym (joined_by free room old (parted_by_space (part_change free room) old) refl)) (still_in_place (joined old) (held_change free room) (λ s. refl) can.places);
})

pub joined_ok : {A E : Type 0} (free : Numbers → Numbers) (room : ℕ → ℕ) (result : Result A E) (old new : Parted) → OnOk result (new ≡ parted_by_space (part_change free room) old)
    → OnOk result (joined new ≡ by_space (held_change free room) (joined old))
joined_ok free room (Ok a) old new is = joined_by free room old new is
joined_ok free room (Err e) old new is = is

pub rejoin_ok : {A E : Type 0} (free : Numbers → Numbers) (room : ℕ → ℕ) (result : Result A E) (old new : Parted) → OnOk result (new ≡ parted_by_space (part_change free room) old)
    → OnErr result (new ≡ old) → CanRejoin old → CanRejoin new
rejoin_ok free room (Ok a) old new is same = rejoin_by free room old new is
rejoin_ok free room (Err e) old new is same = rejoin_same old new same

-- the same where the least free page is taken
abbrev pub taken : ℕ → Numbers → Numbers
taken page free = set_of.remove free page

abbrev pub one_more : ℕ → ℕ
one_more room = room + 1

pub joined_least : (result : Option ℕ) (old new : Parted) → MatchOption result (new ≡ old) (λ page. new ≡ parted_by_space (part_change (taken page) one_more) old)
    → MatchOption result (joined new ≡ joined old) (λ page. joined new ≡ by_space (held_change (taken page) one_more) (joined old))
joined_least None old new is = ap joined is
joined_least (Some page) old new is = joined_by (taken page) one_more old new is

pub rejoin_least : (result : Option ℕ) (old new : Parted) → MatchOption result (new ≡ old) (λ page. new ≡ parted_by_space (part_change (taken page) one_more) old) → CanRejoin old → CanRejoin new
rejoin_least None old new is = rejoin_same old new is
rejoin_least (Some page) old new is = rejoin_by (taken page) one_more old new is

enough_for : (more : ℕ) (o : Option SpaceRest) → HasRoomFor (option_map (part_change (λ free. free) (λ room. max room more)) o) more
enough_for more None = tt
enough_for more (Some s) = omega arith

-- there is room for as many as were asked for
pub enough_ok : {A E : Type 0} (more : ℕ) (result : Result A E) (old new : Parted) → OnOk result (new ≡ parted_by_space (part_change (λ free. free) (λ room. max room more)) old)
    → OnOk result (HasRoomFor new.rest.space more)
enough_ok more (Ok a) old new is = rw is (enough_for more old.rest.space)
enough_ok more (Err e) old new is = is
