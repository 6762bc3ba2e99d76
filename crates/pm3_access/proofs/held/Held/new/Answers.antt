use Rattle.std.proofs.Common.{rules, None, sym, subst, ap}
use Rattle.pm3_core.specs.declared.naming.TheConstants.{BASE}
use Rattle.pm3_access.specs.Access.{HaveForm}
use Rattle.pm3_access.specs.Acts.{AreInPlace}
use Rattle.pm3_access.specs.Holding.{HeldImages, AreFound}
use Rattle.pm3_access.proofs.CallPlaces.{of}
use Rattle.pm3_access.proofs.InPlace.{nothing_in_place}
use Rattle.pm3_access.proofs.PartRoom.{room_for_none}
use Rattle.pm3_access.proofs.SoundingHeld.{sound_nothing}
use Rattle.pm3_access.proofs.held.Held.new.Goals as goal

pub returns-clause-nothing : goal.returns-clause-nothing
returns-clause-nothing c = search rules

pub returns-clause-form : goal.returns-clause-form
returns-clause-form c = λ catalog refers. subst (HaveForm catalog refers) (sym (returns-clause-nothing c)) (sound_nothing catalog BASE refers)

pub invariant_of-result : goal.invariant_of-result
invariant_of-result c =
    let both = subst (λ (pages : HeldImages). AreFound pages.left pages.found × AreInPlace (of pages None)) (sym c.new.ensures) (λ page none. none, nothing_in_place) in
    (both.0, both.1, room_for_none _ _ (ap (λ (h : HeldImages). h.left) c.new.ensures) (search rules))
