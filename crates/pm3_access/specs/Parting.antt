-- What a transaction holds, parted for a commit, and joined again.
use Rattle.std.specs.Prelude.{ℕ, ◌≡◌, ◌≢◌, ◌≤◌, None}
use Rattle.std.specs.Option.{option_map}
use Rattle.std.specs.FinMap as map
use Rattle.pm3_access.specs.declared.parted.Parted.{Parted}
use Rattle.pm3_page.specs.PageMap.{IsAtHome}
use Rattle.pm3_access.specs.Acts.{AreInPlace}
use Rattle.pm3_access.specs.Holding.{Holding, AreFound}
use Rattle.pm3_access.specs.Parts.{SpaceRest, with_images, both, KeepsFound, rest_by_space}

-- what is held once the parts are joined
abbrev pub joined : Parted → Holding
joined p = record {
  pages = record { left = both p.rest.pages.images p.written.images; found = p.rest.found };
  space = option_map (with_images p.volatile.images) p.rest.space;
}

-- all images stand under their own pages; the written ones were found, are apart from the others, and each have room for the other; and each page
-- that was found is there; and what is held once they are joined is in place
pub record CanRejoin (p : Parted) : Type 0 where
  pub written_home : IsAtHome p.written.images
  pub volatile_home : IsAtHome p.volatile.images
  pub found : AreFound p.written.images p.rest.found
  pub apart : (page : ℕ) → map.get p.written.images page ≢ None → map.get p.rest.pages.images page ≡ None
  pub room : map.len p.written.images ≤ p.rest.pages.spare
  pub written_room : map.len p.rest.pages.images ≤ p.written.spare
  pub kept : (page : ℕ) → map.get p.written.images page ≡ None → map.get p.rest.pages.images page ≡ None → map.get p.rest.found page ≡ None
  pub space_kept : KeepsFound p.rest.space p.volatile.images
  pub places : AreInPlace (joined p)

-- the parts with a change of the rest of the space alone
abbrev pub parted_by_space : (SpaceRest → SpaceRest) → Parted → Parted
parted_by_space change p = record p { rest = rest_by_space change p.rest }
