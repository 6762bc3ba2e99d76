use Rattle.std.proofs.Common.{◌≡◌, ◌<◌, ◌+◌, ℕ}
use Rattle.pm3_copy.specs.Renaming.{IsRenamed}
use Rattle.pm3_copy.specs.Tables.{follows}
use Rattle.pm3_copy.proofs.updating.update_roots.Given as goal

abbrev pub invariant-loop-slot : goal.invariant-loop-slot
invariant-loop-slot l = record {
  page : l.image.page ≡ l.fn.image.page;
  sheet : IsRenamed (λ i. (slot : ℕ) × (slot < l.slot) × (i ≡ 2 + slot)) (follows l.tables) l.fn.image.sheet l.image.sheet;
}
