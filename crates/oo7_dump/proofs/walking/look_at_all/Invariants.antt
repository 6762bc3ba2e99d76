use Rattle.std.proofs.Common.{◌≡◌, ◌-◌, ◌^◌, None}
use Rattle.pm3_core.specs.declared.naming.TheConstants.{BASE}
use Rattle.pm3_types.specs.Shown as shown
use Rattle.oo7_dump.specs.ByAddress.{met_addresses}
use Rattle.oo7_dump.specs.Held.{AreAmong, AreHeld}
use Rattle.oo7_dump.specs.Loads.{Loads}
use Rattle.oo7_dump.proofs.walking.look_at_all.Given as goal

abbrev pub invariant-loop-at : goal.invariant-loop-at
invariant-loop-at g l = record {
  loads : Loads g.R.Reader l.catalog l.pages l.initial.reader l.reader l.initial.images.images l.images.images None;
  held : AreHeld l.images.images l.met;
  met : (all : shown.Images) → AreAmong l.images.images all → l.met ≡ met_addresses l.catalog BASE all l.next;
}

abbrev pub decreases-loop-at : goal.decreases-loop-at
decreases-loop-at g l = 2 ^ 64 - l.next
