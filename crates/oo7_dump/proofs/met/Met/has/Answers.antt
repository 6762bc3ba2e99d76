use Rattle.std.proofs.Common.{ap, ◌∙◌, is_some}
use Rattle.oo7_dump.proofs.MeetingOne.{has_number}
use Rattle.oo7_dump.proofs.met.Met.has.Goals as goal

pub returns : goal.returns
returns c = c.is_some.ensures ∙ ap is_some c.number.ensures ∙ has_number c.args.self.now c.args.at
