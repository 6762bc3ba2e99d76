use Rattle.std.proofs.Common.{◌≡◌, replicate, false}
use Rattle.pm3_core.proofs.readings.Reading.begin.Goals as goal

pub returns : goal.returns
returns c =
    let items : c.in_ok-read.read.items ≡ replicate 16384 false = c.in_ok-read.ensures.items_if_clones_equal (λ y same. same) in
    λ i. record { by = c.args.who; read = items i }
