use Rattle.std.proofs.Common.{sym, ap, ◌∙◌}
use Rattle.pm3_types.specs.Layout.{PageImage}
use Rattle.pm3_access.proofs.Homes.{held_insert}
use Rattle.pm3_access.proofs.held_pages.HeldPages.set_root.Goals as goal

pub invariant_of-self : goal.invariant_of-self
invariant_of-self c =
    held_insert c.self.inside.left.images c.self.inside.found.images 2 c.set_root.new.self
    (ap (λ (i : PageImage). i.page) c.set_root.ensures ∙ c.self.invariant.left_home 2 c.in-Some.image.now (sym c.in-Some.ensures.value))
    c.self.invariant
