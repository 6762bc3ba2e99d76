use Rattle.std.proofs.Common.{◌+◌, ◌<◌, ◌≤◌, ℕ}
use Rattle.oo7_schema.specs.Lookup.{word}
use Rattle.oo7_objects.specs.Wholes.{Kept, KeepsRow, Knows, look_of, name_at}
use Rattle.oo7_index.proofs.descents.first_at_least.Given as goal

abbrev pub invariant-loop-m : goal.invariant-loop-m
invariant-loop-m g l = record {
  most : l.m ≤ l.count;
  lower : Knows l.txn (λ st w. (k : ℕ) → k < l.m → word (look_of w) (name_at l.initial.txn st l.node) (l.from + k) < l.key);
  kept : Kept l.initial.txn l.txn;
  row : KeepsRow l.initial.txn l.txn 0 0;
}
