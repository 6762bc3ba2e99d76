use Rattle.std.proofs.Common.{◌≡◌, ◌≤◌, ◌<◌, ◌*◌, ◌-◌, ℕ, true}
use Rattle.std.specs.FinSet as set
use Rattle.pm3_copy.specs.Blocks.{AreBlocks, HasBlock}
use Rattle.pm3_copy.proofs.blocks.Blocks.of.Given as goal

abbrev pub invariant-loop-page : goal.invariant-loop-page
invariant-loop-page l = record {
  blocks : AreBlocks l.blocks.by_page.items l.blocks.words;
  few : l.blocks.words ≤ 512 * l.from;
  has : (p : ℕ) → p < l.from → set.contains l.pages p ≡ true → HasBlock l.blocks.by_page.items l.blocks.words p;
  low : l.from ≤ 16384;
}

abbrev pub decreases-loop-page : goal.decreases-loop-page
decreases-loop-page l = 16384 - l.from
