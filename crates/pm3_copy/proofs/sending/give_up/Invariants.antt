use Rattle.std.proofs.Common.{◌≤◌, ◌-◌}
use Rattle.pm3_copy.proofs.Sent.{AreGoing}
use Rattle.pm3_copy.proofs.sending.give_up.Given as goal

abbrev pub invariant-loop-next : goal.invariant-loop-next
invariant-loop-next l = record {
  going : AreGoing l.pages l.fn.images.images l.images.images l.next;
  low : l.next ≤ 16384;
  room : l.fn.images.spare ≤ l.images.spare;
}

abbrev pub decreases-loop-next : goal.decreases-loop-next
decreases-loop-next l = 16384 - l.next
