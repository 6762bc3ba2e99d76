use Rattle.pm3_core.specs.Snapshot.{snapshot}
use Rattle.pm3_core.proofs.Effects.{store_done}
use Rattle.pm3_core.proofs.machine.Core.store.Goals as goal

pub returns-clause-answer : goal.returns-clause-answer
returns-clause-answer c =
    rw (← c.self.view_is) (store_done (snapshot c.self.inside.pages c.self.inside.words.items c.self.inside.stands.items c.self.inside.marks) c.args.who c.args.place c.in-Some.at c.args.word c.self.invariant c.in-Some.ensures.found.0 c.in-Some.ensures.found.1 c.in-Some.ensures.below)
