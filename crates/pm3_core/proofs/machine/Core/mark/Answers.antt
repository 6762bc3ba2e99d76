use Rattle.std.proofs.Common.{◌≡◌, ◌∙◌, ap, sym, get_or, None, is_some, arith}
use Rattle.pm3_core.specs.Snapshot.{snapshot, mark_of}
use Rattle.pm3_core.proofs.Effects.{mark_done, mark_may, free_of}
use Rattle.pm3_core.proofs.machine.Core.mark.Goals as goal

pub returns-clause-answer : goal.returns-clause-answer
returns-clause-answer c =
    let free : mark_of (get_or c.self.inside.marks c.args.page None) ≡ 0 =
    free_of (get_or c.self.inside.marks c.args.page None) (ap is_some (sym c.marker.ensures) ∙ (sym c.is_some.ensures ∙ c.if-is_some.false)) in
    rw (← c.self.view_is, c.in-Ok.ensures.ok) (mark_done (snapshot c.self.inside.pages c.self.inside.words.items c.self.inside.stands.items c.self.inside.marks) c.args.who c.args.page c.self.invariant (omega arith) (omega arith) free)

pub returns-in_default-clause-memory : goal.returns-in_default-clause-memory
returns-in_default-clause-memory c =
    let free : mark_of (get_or c.self.inside.marks c.args.page None) ≡ 0 =
    free_of (get_or c.self.inside.marks c.args.page None) (ap is_some (sym c.marker.ensures) ∙ (sym c.is_some.ensures ∙ c.if-is_some.false)) in
    rw (← c.self.view_is) (mark_may (snapshot c.self.inside.pages c.self.inside.words.items c.self.inside.stands.items c.self.inside.marks) c.args.who c.args.page (omega arith) (omega arith) free)
