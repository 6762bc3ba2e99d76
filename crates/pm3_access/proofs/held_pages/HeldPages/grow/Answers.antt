use Rattle.std.proofs.Common.{rules, ◌≡◌, refl}
use Rattle.std.specs.FinMap as map
use Rattle.pm3_access.proofs.Homes.{held_insert}
use Rattle.pm3_access.proofs.held_pages.HeldPages.grow.Goals as goal

pub invariant_of-self-2 : goal.invariant_of-self-2
invariant_of-self-2 c =
    let after : c.put.new.self.images ≡ map.insert c.self.inside.left.images c.args.image.page c.args.image = search rules in
    rw after (held_insert c.self.inside.left.images c.self.inside.found.images c.args.image.page c.args.image refl c.self.invariant)
