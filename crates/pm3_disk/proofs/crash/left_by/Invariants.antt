use Rattle.std.proofs.Common.{◌≡◌, ◌≤◌, take, reverse}
use Rattle.pm3_disk.specs.Crash.{writes_after, left_after}
use Rattle.pm3_disk.specs.Replay.{content_after}
use Rattle.pm3_disk.proofs.crash.left_by.Given as goal

abbrev pub invariant-loop-call : goal.invariant-loop-call
invariant-loop-call l = record {
  content : l.replay.content.items ≡ content_after l.began (reverse (take l.call-index l.calls));
  left : l.replay.left.items ≡ left_after l.choice l.began (reverse (take l.call-index l.calls));
  writes : l.replay.writes ≡ writes_after (reverse (take l.call-index l.calls));
  few : l.replay.writes ≤ l.call-index;
}
