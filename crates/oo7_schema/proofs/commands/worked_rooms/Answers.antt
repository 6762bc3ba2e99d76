use Rattle.std.proofs.Common.{refl}
use Rattle.oo7_schema.proofs.commands.worked_rooms.Goals as goal

pub returns-clause-part : goal.returns-clause-part
returns-clause-part c = refl

pub returns-clause-tiny : goal.returns-clause-tiny
returns-clause-tiny c = refl

pub returns-clause-small : goal.returns-clause-small
returns-clause-small c = refl

pub returns-clause-run : goal.returns-clause-run
returns-clause-run c = refl
