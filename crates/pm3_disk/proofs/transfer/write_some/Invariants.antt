use Rattle.std.proofs.Common.{◌≡◌}
use Rattle.pm3_disk.proofs.transfer.write_some.Given as goal

-- a write that was interrupted has written nothing
abbrev pub invariant-loop : goal.invariant-loop
invariant-loop g l = g.F.Taker.seen l.to ≡ g.F.Taker.seen l.fn.to
