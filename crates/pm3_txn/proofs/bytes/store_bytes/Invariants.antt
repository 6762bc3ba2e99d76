use Rattle.std.proofs.Common.{◌≡◌, ℕ, true, take}
use Rattle.pm3_core.specs.declared.naming.TheConstants.{BASE}
use Rattle.pm3_access.specs.Access.{is_object_held}
use Rattle.pm3_txn.specs.ByteRuns.{HasStoredBytes, has_byte}
use Rattle.pm3_txn.specs.Owners.{KnowsHere}
use Rattle.pm3_txn.specs.States.{told_in, view_in}
use Rattle.pm3_txn.proofs.bytes.store_bytes.Given as goal

abbrev pub invariant-loop-k : goal.invariant-loop-k
invariant-loop-k g l = record {
  stored : HasStoredBytes l.initial.txn l.txn l.at l.from (take l.k l.bytes);
  object : is_object_held BASE l.txn.held l.at ≡ true;
  known : KnowsHere (told_in l.txn) (view_in l.txn) l.txn.held l.at;
  there : (q : ℕ) → has_byte (told_in l.initial.txn) l.txn.held l.at q ≡ has_byte (told_in l.initial.txn) l.initial.txn.held l.at q;
}
