use Rattle.std.proofs.Common.{rules, ◌≡◌, Some, None}
use Rattle.std.specs.Prelude.{MatchResult}
use Rattle.pm3_access.specs.Access.{value_written}
use Rattle.pm3_types.specs.Layout.{page_in}
use Rattle.pm3_core.specs.declared.naming.TheConstants.{BASE}
use Rattle.pm3_access.specs.Holding.{image_in}
use Rattle.pm3_access.proofs.CallPlaces.{of, write_place}
use Rattle.pm3_access.proofs.CallSteps.{write_call}
use Rattle.pm3_access.proofs.SoundingHeld.{sound_value}
use Rattle.pm3_access.proofs.Founds.{found_written}
use Rattle.pm3_access.proofs.PartRoom.{room_written}
use Rattle.pm3_access.proofs.Writing.{held_low}
use Rattle.pm3_access.proofs.held.Held.write.Goals as goal

pub page_of-page-requires-clause-low : goal.page_of-page-requires-clause-low
page_of-page-requires-clause-low c = held_low c.args.catalog.now BASE (image_in c.args.self.now (page_in BASE c.args.at)) c.args.at (λ image is. c.requires.sound (page_in BASE c.args.at) image is) c.requires.object

pub returns-then-has-clause-written : goal.returns-then-has-clause-written
returns-then-has-clause-written c = search rules

pub returns-then-has-clause-step : goal.returns-then-has-clause-step
returns-then-has-clause-step c = write_call c.args.catalog.now BASE c.args.self.now _ c.args.at c.args.place c.args.value c.requires.value c.write.result (returns-then-has-clause-written c)

pub returns-then-has-clause-form : goal.returns-then-has-clause-form
returns-then-has-clause-form c =
    λ refers sound value. sound_value c.args.catalog.now BASE refers c.args.self.now c.args.at c.args.value c.args.place c.requires.object c.requires.value value sound _ c.write.result
    (returns-then-has-clause-written c)

pub returns-clause-written : goal.returns-clause-written
returns-clause-written c = search rules

pub returns-clause-step : goal.returns-clause-step
returns-clause-step c = write_call c.args.catalog.now BASE c.args.self.now _ c.args.at c.args.place c.args.value c.requires.value c.write-2.result (returns-clause-written c)

pub returns-clause-form : goal.returns-clause-form
returns-clause-form c =
    λ refers sound value. sound_value c.args.catalog.now BASE refers c.args.self.now c.args.at c.args.value c.args.place c.requires.object c.requires.value value sound _ c.write-2.result
    (returns-clause-written c)

pub invariant_of-self : goal.invariant_of-self
invariant_of-self c =
    let written : MatchResult c.write.result
    (λ _. value_written c.args.catalog.now BASE (of c.self.inside.pages c.self.inside.space) c.args.at c.args.place c.args.value ≡ Some (of c.write.new.self c.self.inside.space))
    (λ _. (value_written c.args.catalog.now BASE (of c.self.inside.pages c.self.inside.space) c.args.at c.args.place c.args.value ≡ None)
    × (of c.write.new.self c.self.inside.space ≡ of c.self.inside.pages c.self.inside.space)) = search rules in (
      found_written c.args.catalog.now BASE c.self.inside.pages c.write.new.self c.page_of-page.result c.args.at c.args.place c.args.value c.write.result c.write.ensures c.self.invariant.0,
      write_place c.args.catalog.now BASE (of c.self.inside.pages c.self.inside.space) (of c.write.new.self c.self.inside.space) c.args.at c.args.place c.args.value c.write.result written c.self.invariant.1,
      room_written c.args.catalog.now BASE c.self.inside.pages c.write.new.self c.self.inside.written c.page_of-page.result c.args.at c.args.place c.args.value c.write.result c.write.ensures c.self.invariant.2,
    )

pub invariant_of-self-2 : goal.invariant_of-self-2
invariant_of-self-2 c =
    let written : MatchResult c.write-2.result
    (λ _. value_written c.args.catalog.now BASE (of c.self.inside.pages c.self.inside.space) c.args.at c.args.place c.args.value ≡ Some (of c.self.inside.pages (Some c.write-2.new.self)))
    (λ _. (value_written c.args.catalog.now BASE (of c.self.inside.pages c.self.inside.space) c.args.at c.args.place c.args.value ≡ None)
    × (of c.self.inside.pages (Some c.write-2.new.self) ≡ of c.self.inside.pages c.self.inside.space)) = search rules in
    (c.self.invariant.0, write_place c.args.catalog.now BASE (of c.self.inside.pages c.self.inside.space) (of c.self.inside.pages (Some c.write-2.new.self)) c.args.at c.args.place c.args.value c.write-2.result written c.self.invariant.1, c.self.invariant.2)
