use Rattle.std.proofs.Common.{◌≡◌, ◌+◌, ◌*◌, ◌-◌}
use Rattle.pm3_core.specs.declared.naming.TheConstants.{BASE}
use Rattle.pm3_copy.specs.Renaming.{IsRenamed}
use Rattle.pm3_copy.specs.Tables.{follows}
use Rattle.pm3_copy.proofs.RenamedPages.{IsPlaceUpTo}
use Rattle.pm3_copy.proofs.updating.update_objects.Given as goal

abbrev pub invariant-loop-next : goal.invariant-loop-next
invariant-loop-next l = record {
  page : l.image.page ≡ l.fn.image.page;
  sheet : IsRenamed (IsPlaceUpTo l.catalog BASE l.fn.image l.at) (follows l.tables) l.fn.image.sheet l.image.sheet;
}

abbrev pub decreases-loop-next : goal.decreases-loop-next
decreases-loop-next l = BASE + 4096 * (l.fn.image.page + 1) - l.at
