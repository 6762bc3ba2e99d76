use Rattle.std.proofs.Common.{rules, ◌≡◌, refl}
use Rattle.std.specs.FinMap as map
use Rattle.pm3_access.proofs.Homes.{held_admit}
use Rattle.pm3_access.proofs.held_pages.HeldPages.admit.Goals as goal

pub invariant_of-self-2 : goal.invariant_of-self-2
invariant_of-self-2 c =
    let left : c.put-2.new.self.images ≡ map.insert c.self.inside.left.images c.args.image.page c.args.image = search rules in
    let found : c.put.new.self.images ≡ map.insert c.self.inside.found.images c.args.image.page c.args.image = search rules in
    rw (left, found) (held_admit c.self.inside.left.images c.self.inside.found.images c.args.image.page c.args.image refl c.self.invariant)
