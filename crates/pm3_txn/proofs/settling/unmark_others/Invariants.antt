use Rattle.std.proofs.Common.{◌≡◌, ◌≤◌, ◌-◌, ◌&&◌, ℕ, not, nat_lt}
use Rattle.pm3_table.specs.Deeds.{marks_of}
use Rattle.pm3_txn.specs.PassEnds.{is_other}
use Rattle.pm3_txn.specs.Pinning.{HasOnlyLogged}
use Rattle.pm3_txn.proofs.settling.unmark_others.Given as goal

abbrev pub invariant-loop-page : goal.invariant-loop-page
invariant-loop-page g l = record {
  only : HasOnlyLogged l.fn.mutator l.mutator;
  marks : (q : ℕ) → marks_of l.mutator.pass.1.log q ≡ (marks_of l.fn.mutator.pass.1.log q && not (nat_lt q l.from && is_other l.pages l.but q));
  low : l.from ≤ 16384;
}

abbrev pub decreases-loop-page : goal.decreases-loop-page
decreases-loop-page g l = 16384 - l.from
