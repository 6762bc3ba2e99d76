use Rattle.std.proofs.Common.{rules, ◌≡◌, ℕ, true, None, sym, subst}
use Rattle.pm3_core.specs.declared.naming.TheConstants.{BASE}
use Rattle.pm3_access.specs.Access.{HaveForm}
use Rattle.std.specs.FinMap as map
use Rattle.pm3_access.specs.Holding.{image_in}
use Rattle.pm3_access.proofs.CallPlaces.{of, space_place}
use Rattle.pm3_access.proofs.CallSteps.{space_call}
use Rattle.pm3_access.proofs.SoundingHeld.{sound_held_space}
use Rattle.pm3_access.proofs.held.Held.admit_space.Goals as goal

pub returns-in-Ok-clause-admitted : goal.returns-in-Ok-clause-admitted
returns-in-Ok-clause-admitted c = search rules

pub returns-in-Ok-clause-form : goal.returns-in-Ok-clause-form
returns-in-Ok-clause-form c =
    λ catalog refers sound fine. subst (HaveForm catalog refers) (sym (returns-in-Ok-clause-admitted c)) (sound_held_space catalog BASE refers c.args.self.now c.args.space c.requires.none fine sound)

pub invariant_of-self : goal.invariant_of-self
invariant_of-self c =
    let none : c.self.inside.space ≡ None = rw (← c.self.view_is) at c.requires.none in
    let absent : (page : ℕ) → map.contains_key c.args.space.images page ≡ true → image_in (of c.self.inside.pages c.self.inside.space) page ≡ None = rw (← c.self.view_is) at c.requires.absent in
    (c.self.invariant.0, space_place c.self.inside.pages c.self.inside.space c.in-Ok.held c.args.space c.in-Ok.ensures.taken none c.taken.ensures.home absent c.self.invariant.1, c.self.invariant.2)

pub returns-in-Ok-clause-parts : goal.returns-in-Ok-clause-parts
returns-in-Ok-clause-parts c = space_call BASE c.args.self.now _ c.args.space (rw (← c.self.view_is) c.self.invariant.1) c.requires.none c.requires.absent (returns-in-Ok-clause-admitted c)
