use Rattle.std.proofs.Common.{arith, eqb-true, eq-eqb, ◌∙◌, sym}
use Rattle.pm3_core.proofs.Counts.{none_left, all_read}
use Rattle.pm3_core.proofs.readings.Reading.is_whole.Goals as goal

pub returns : goal.returns
returns c =
    rw (← c.self.view_is) (
      (λ zero n below. none_left c.self.inside.read.items (sym c.self.invariant.1 ∙ eqb-true c.self.inside.left 0 zero) n (omega (arith, below, c.self.invariant.0))),
      (λ each. eq-eqb c.self.inside.left 0 (c.self.invariant.1 ∙ all_read c.self.inside.read.items (λ n below. each n (omega (arith, below, c.self.invariant.0))))),
    )
