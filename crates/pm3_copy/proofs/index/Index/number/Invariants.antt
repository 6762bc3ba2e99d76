use Rattle.std.proofs.Common.{◌≡◌}
use Rattle.pm3_core.specs.declared.naming.TheConstants.{BASE}
use Rattle.pm3_copy.proofs.Numbered.{AreNumberedBelow}
use Rattle.pm3_copy.proofs.index.Index.number.Given as goal

abbrev pub invariant-loop-i : goal.invariant-loop-i
invariant-loop-i l = record {
  blocks : l.self.blocks ≡ l.fn.self.blocks;
  numbers : AreNumberedBelow BASE l.fn.self.blocks.by_page.items l.first l.list l.i l.fn.self.numbers.items l.self.numbers.items;
}
