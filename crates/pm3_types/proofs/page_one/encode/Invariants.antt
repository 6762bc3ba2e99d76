use Rattle.std.proofs.Common.{◌≡◌, length, take, ◌++◌}
use Rattle.pm3_types.specs.PageOne.{padded, catalog_head, maps_bytes}
use Rattle.pm3_types.proofs.page_one.encode.Given as goal

-- the types so far are written
abbrev pub invariant-loop-i : goal.invariant-loop-i
invariant-loop-i l = l.out ≡ padded 4096 (catalog_head (length l.maps) ++ maps_bytes (take l.i l.maps))
