use Rattle.std.proofs.Common.{◌≡◌, ◌+◌, length}
use Rattle.pm3_txn.specs.Starts.{AreEmptyFrom, GetSpaces}
use Rattle.pm3_txn.proofs.homes.with_spaces.Given as goal

abbrev pub invariant-loop-space : goal.invariant-loop-space
invariant-loop-space g l = record {
  wide : length l.homes ≡ l.pages + 33;
  filled : GetSpaces l.pages l.initial.homes l.homes l.space;
  empty : AreEmptyFrom l.homes (l.pages + l.space);
}
