use Rattle.std.proofs.Common.{rules, refl}
use Rattle.pm3_types.specs.PageOne.{catalog_head}
use Rattle.pm3_types.proofs.Padding.{padded-maps_bytes}
use Rattle.pm3_types.proofs.page_one.encode.Goals as goal

pub loop-i-preserved : goal.loop-i-preserved
loop-i-preserved c = padded-maps_bytes (catalog_head _) _ c.loop-i.i c.index-maps-i.result _ _ refl c.requires.few (search rules) c.index-maps-i.is c.loop-i.invariant (rw c.to_bytes-entry.ensures at c.put.ensures)
