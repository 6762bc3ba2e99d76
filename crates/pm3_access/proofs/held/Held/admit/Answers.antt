use Rattle.std.proofs.Common.{rules, ◌≡◌, ◌+◌, max}
use Rattle.std.specs.FinMap as map
use Rattle.pm3_core.specs.declared.naming.TheConstants.{BASE}
use Rattle.pm3_access.specs.Holding.{admitted}
use Rattle.pm3_access.proofs.CallPlaces.{admit_place}
use Rattle.pm3_access.proofs.CallSteps.{admit_call}
use Rattle.pm3_access.proofs.SoundingHeld.{sound_admitted, sound_result}
use Rattle.pm3_access.proofs.Founds.{found_admitted}
use Rattle.pm3_access.proofs.PartRoom.{room_admitted}
use Rattle.pm3_access.proofs.held.Held.admit.Goals as goal

pub returns-clause-admitted : goal.returns-clause-admitted
returns-clause-admitted c = search rules

pub returns-clause-same : goal.returns-clause-same
returns-clause-same c = search rules

pub returns-clause-form : goal.returns-clause-form
returns-clause-form c =
    λ catalog refers sound fine. sound_result catalog BASE refers c.admit.result c.args.self.now _ (admitted c.args.self.now c.args.image) (returns-clause-admitted c) (returns-clause-same c)
    (sound_admitted catalog BASE refers c.args.self.now c.args.image fine) sound

pub invariant_of-self-2 : goal.invariant_of-self-2
invariant_of-self-2 c =
    let wanted : c.len.result + 1 ≡ map.len c.self.inside.pages.left + 1 = search rules in
    let room : c.reserve.new.self.spare ≡ max c.self.inside.written.spare (c.len.result + 1) = search rules in (
      found_admitted c.admit.result c.self.inside.pages c.admit.new.self c.args.image c.admit.ensures.admitted c.admit.ensures.same c.self.invariant.0,
      admit_place c.admit.result c.self.inside.pages c.admit.new.self c.self.inside.space c.args.image c.admit.ensures.admitted c.admit.ensures.same (rw (← c.self.view_is) at c.requires) c.self.invariant.1,
      room_admitted c.admit.result c.self.inside.pages c.admit.new.self c.args.image c.self.inside.written c.reserve.new.self _ c.admit.ensures.admitted c.admit.ensures.same c.reserve.ensures.images
          room wanted c.self.invariant.2,
    )

pub returns-clause-parts : goal.returns-clause-parts
returns-clause-parts c = admit_call c.admit.result BASE c.args.self.now _ c.args.image (rw (← c.self.view_is) c.self.invariant.1) c.requires (returns-clause-admitted c)
