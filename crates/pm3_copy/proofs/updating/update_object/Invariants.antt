use Rattle.std.proofs.Common.{◌≡◌, ◌-◌, ◌≤◌, Some}
use Rattle.pm3_core.specs.declared.naming.TheConstants.{BASE}
use Rattle.pm3_types.specs.Layout.{word_in}
use Rattle.pm3_copy.specs.Renaming.{IsRenamed, IsPlaceBelow}
use Rattle.pm3_copy.specs.Tables.{follows}
use Rattle.pm3_copy.proofs.updating.update_object.Given as goal

abbrev pub invariant-loop-place : goal.invariant-loop-place
invariant-loop-place l = record {
  page : l.image.page ≡ l.fn.image.page;
  sheet : IsRenamed (IsPlaceBelow (Some l.map) l.tail (word_in BASE l.at) l.from) (follows l.tables) l.fn.image.sheet l.image.sheet;
  low : l.from ≤ 512;
}

abbrev pub decreases-loop-place : goal.decreases-loop-place
decreases-loop-place l = 512 - l.from
