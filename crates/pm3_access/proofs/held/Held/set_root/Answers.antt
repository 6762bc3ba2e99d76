use Rattle.std.proofs.Common.{ap}
use Rattle.std.specs.Option.{option_map}
use Rattle.pm3_core.specs.declared.naming.TheConstants.{BASE}
use Rattle.pm3_access.specs.Holding.{HeldImages}
use Rattle.pm3_access.proofs.CallPlaces.{of}
use Rattle.pm3_access.proofs.RootCalls.{root_write, rooted_form, rooted_in_place, rooted_found, rooted_room}
use Rattle.pm3_access.proofs.held.Held.set_root.Goals as goal

pub invariant_of-self : goal.invariant_of-self
invariant_of-self c = (
  rooted_found c.self.inside.pages c.set_root.new.self c.args.slot c.args.at c.set_root.ensures c.self.invariant.0,
  rooted_in_place (of c.self.inside.pages c.self.inside.space) (of c.set_root.new.self c.self.inside.space) c.args.slot c.args.at c.self.invariant.1
      (ap (option_map (λ (pages : HeldImages). of pages c.self.inside.space)) c.set_root.ensures),
  rooted_room c.self.inside.pages c.set_root.new.self c.args.slot c.args.at c.set_root.ensures c.self.inside.written c.self.invariant.2,
)

pub returns-clause-step : goal.returns-clause-step
returns-clause-step c = rw (← c.self.view_is)
    (λ catalog. root_write (of c.self.inside.pages c.self.inside.space) (of c.set_root.new.self c.self.inside.space) c.args.slot c.args.at c.self.invariant.1
    (ap (option_map (λ (pages : HeldImages). of pages c.self.inside.space)) c.set_root.ensures) c.requires.slot catalog BASE)

pub returns-clause-form : goal.returns-clause-form
returns-clause-form c = rw (← c.self.view_is)
    (λ catalog refers form refer. rooted_form (of c.self.inside.pages c.self.inside.space) (of c.set_root.new.self c.self.inside.space) c.args.slot c.args.at c.self.invariant.1
    (ap (option_map (λ (pages : HeldImages). of pages c.self.inside.space)) c.set_root.ensures) c.requires.slot catalog BASE refers form refer)
