use Rattle.std.proofs.Common.{rules, ◌≡◌, Option, Some, None, sym, subst}
use Rattle.pm3_core.specs.declared.naming.TheConstants.{BASE}
use Rattle.pm3_access.specs.Holding.{HeldSpaceState, by_space, grown, image_in}
use Rattle.pm3_access.proofs.CallPlaces.{of, by_new_space, grow_place}
use Rattle.pm3_access.proofs.SoundingHeld.{sound_grown, sound_result}
use Rattle.pm3_access.proofs.held.Held.grow.Goals as goal

pub returns-clause-grown : goal.returns-clause-grown
returns-clause-grown c = search rules

pub returns-clause-same : goal.returns-clause-same
returns-clause-same c = search rules

pub returns-clause-form : goal.returns-clause-form
returns-clause-form c =
    λ catalog refers high sound. sound_result catalog BASE refers c.grow.result c.args.self.now _ (by_space (λ s. grown s c.args.image) c.args.self.now) (returns-clause-grown c) (returns-clause-same c)
    (sound_grown catalog BASE refers c.args.self.now c.args.image c.requires.blank high) sound

pub invariant_of-self : goal.invariant_of-self
invariant_of-self c =
    let there : Some c.in-Some.space ≡ c.self.inside.space = search rules in
    let absent : image_in (of c.self.inside.pages c.self.inside.space) c.args.image.page ≡ None = rw (← c.self.view_is) at c.requires.absent in (
      c.self.invariant.0,
      by_new_space c.grow.result c.self.inside.pages c.self.inside.space c.in-Some.space c.grow.new.self (grown c.in-Some.space c.args.image) there c.grow.ensures.grown c.grow.ensures.same
          (grow_place c.self.inside.pages c.in-Some.space c.args.image (subst (λ (o : Option HeldSpaceState). image_in (of c.self.inside.pages o) c.args.image.page ≡ None) (sym there) absent))
          c.self.invariant.1,
      c.self.invariant.2,
    )
