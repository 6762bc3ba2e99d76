use Rattle.std.proofs.Common.{◌≡◌, ◌≤◌, ◌<◌, ◌+◌, ◌-◌, true}
use Rattle.std.specs.FinSet as set
use Rattle.pm3_page.specs.PageMap.{IsAtHome}
use Rattle.pm3_copy.specs.Sending.{AreSent}
use Rattle.pm3_copy.proofs.LaterPages.{later}
use Rattle.pm3_copy.proofs.sending.send_all.Given as goal

abbrev pub invariant-loop-next : goal.invariant-loop-next
invariant-loop-next l = record {
  home : IsAtHome l.from.images;
  sent : AreSent (λ p. (set.contains l.pages p ≡ true) × (p < l.next)) l.fn.from.images l.fn.to.images l.from.images l.to.images;
  low : l.next ≤ 16384;
  room : l.to.spare + set.len l.pages ≡ l.fn.to.spare + set.len (later l.pages l.next);
  freed : l.fn.from.spare ≤ l.from.spare;
}

abbrev pub decreases-loop-next : goal.decreases-loop-next
decreases-loop-next l = 16384 - l.next
