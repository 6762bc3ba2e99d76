use Rattle.std.proofs.Common.{◌≡◌, None}
use Rattle.pm3_core.specs.declared.naming.TheConstants.{BASE}
use Rattle.pm3_types.specs.Numbering.{meet}
use Rattle.pm3_types.specs.Shown as shown
use Rattle.oo7_dump.specs.Held.{AreAmong, AreHeld}
use Rattle.oo7_dump.specs.Loads.{Loads}
use Rattle.oo7_dump.specs.Places.{place_word, references_in}
use Rattle.oo7_dump.specs.Raw.{raw_at}
use Rattle.oo7_dump.proofs.meeting.meet_places.Given as goal

abbrev pub invariant-loop-place : goal.invariant-loop-place
invariant-loop-place g l = record {
  loads : Loads g.R.Reader l.catalog l.pages l.initial.reader l.reader l.initial.images.images l.images.images None;
  held : AreHeld l.images.images l.met;
  met : (all : shown.Images) → AreAmong l.images.images all → l.met ≡ meet (raw_at l.catalog BASE all) l.initial.met (references_in l.map (place_word l.initial.images.images l.at) l.place);
}
