use Rattle.std.proofs.Common.{◌≡◌, ◌⊎◌, ◌+◌, ◌-◌, ◌≤◌, ℕ, true}
use Rattle.std.specs.FinMap as map
use Rattle.pm3_access.specs.Parting.{joined}
use Rattle.pm3_table.specs.Deeds.{marks_of}
use Rattle.pm3_txn.specs.PassSteps.{AreAllFresh, AreFresh, HasDrawn, HasMoreRoom, IsPassing}
use Rattle.pm3_txn.proofs.fresh.fresh_pages.Given as goal

abbrev pub invariant-loop-alloc : goal.invariant-loop-alloc
invariant-loop-alloc g l = record {
  ready : IsPassing g.D.Reader.Reader.content l.heap l.mutator (joined l.parted);
  marks : (p : ℕ) → marks_of l.mutator.pass.1.log p ≡ true → map.contains_key l.parted.volatile.images p ≡ true;
  parts : HasMoreRoom l.fn.parted l.parted;
  drawn : (n : ℕ) × HasDrawn l.fn.mutator l.mutator n × (n ≤ map.len l.fresh.images);
  calm : l.mutator.pass.1.filled ≡ l.fn.mutator.pass.1.filled;
  fresh : AreFresh l.parted.rest.space l.fresh.images;
  all : (map.len l.fresh.images ≡ l.wanted) ⊎ AreAllFresh l.parted.rest.space l.fresh.images;
  most : map.len l.fresh.images ≤ l.wanted;
  room : l.wanted ≤ l.fresh.spare + map.len l.fresh.images;
}

abbrev pub decreases-loop-alloc : goal.decreases-loop-alloc
decreases-loop-alloc g l = l.wanted - map.len l.fresh.images
