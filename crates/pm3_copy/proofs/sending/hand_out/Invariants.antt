use Rattle.std.proofs.Common.{◌≡◌, ◌≤◌, ◌+◌, ◌++◌, ℕ, List, length}
use Rattle.std.specs.FinMap as map
use Rattle.pm3_page.specs.PageMap.{IsAtHome}
use Rattle.pm3_copy.specs.Fresh.{AreLeast}
use Rattle.pm3_copy.proofs.Sent.{AreSending}
use Rattle.pm3_copy.proofs.sending.hand_out.Given as goal

abbrev pub invariant-loop : goal.invariant-loop
invariant-loop l = record {
  home : IsAtHome l.from.images;
  sending : (list more : List ℕ) → AreLeast (map.contains_key l.fn.from.images) l.start (list ++ more) → length list ≡ l.count
      → AreSending list more (map.contains_key l.from.images) l.fn.from.images l.fn.to.images l.from.images l.to.images l.next l.counter;
  low : l.next ≤ 16384;
  room : l.to.spare + l.counter ≡ l.fn.to.spare;
}
