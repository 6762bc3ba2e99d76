use Rattle.std.proofs.Common.{◌≡◌, ◌+◌, ◌++◌, drop}
use Rattle.pm3_core.specs.declared.naming.TheConstants.{BASE}
use Rattle.pm3_types.specs.Dump.{object_lines}
use Rattle.pm3_types.specs.Shown as shown
use Rattle.oo7_dump.specs.Held.{AreAmong}
use Rattle.oo7_dump.specs.Raw.{raw_at}
use Rattle.oo7_dump.proofs.dumping.put_objects.Given as goal

abbrev pub invariant-loop-place : goal.invariant-loop-place
invariant-loop-place l = (all : shown.Images) → AreAmong l.images.images all
    → l.text ++ object_lines l.catalog (raw_at l.catalog BASE all) l.met (l.place + 1) (drop l.place l.met) ≡ l.initial.text ++ object_lines l.catalog (raw_at l.catalog BASE all) l.met 1 l.met
