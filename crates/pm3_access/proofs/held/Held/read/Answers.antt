use Rattle.std.proofs.Common.{rules}
use Rattle.pm3_types.specs.Layout.{page_in}
use Rattle.pm3_core.specs.declared.naming.TheConstants.{BASE}
use Rattle.pm3_access.specs.Holding.{image_in}
use Rattle.pm3_access.proofs.CallSteps.{read_call}
use Rattle.pm3_access.proofs.Writing.{held_low}
use Rattle.pm3_access.proofs.held.Held.read.Goals as goal

pub page_of-requires-clause-low : goal.page_of-requires-clause-low
page_of-requires-clause-low c = held_low c.args.catalog.now BASE (image_in c.args.self.now (page_in BASE c.args.at)) c.args.at (λ image is. c.requires.sound (page_in BASE c.args.at) image is) c.requires.object

pub returns-clause-value : goal.returns-clause-value
returns-clause-value c = search rules

pub returns-clause-step : goal.returns-clause-step
returns-clause-step c = read_call c.args.catalog.now BASE c.args.self.now c.args.at c.args.place c.read_place.result (returns-clause-value c)
