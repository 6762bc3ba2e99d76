-- Laws of the room of a command: what jobs and builds make is within it.
use Rattle.std.specs.Prelude.{ℕ, ◌+◌, ◌*◌, ◌≤◌, List, length}
use Rattle.oo7_schema.specs.declared.sizes.Params.{Params}
use Rattle.oo7_schema.specs.declared.jobs.Extent.{Extent}
use Rattle.oo7_schema.specs.declared.jobs.Walk.TheVariants.{T3}
use Rattle.oo7_schema.specs.declared.jobs.Job.{Job}
use Rattle.oo7_schema.specs.declared.jobs.Job.TheVariants.{Traverse}
use Rattle.oo7_schema.specs.Flat.{Flat, reading_of}
use Rattle.oo7_schema.specs.Members.{params_in}
use Rattle.oo7_schema.specs.Traversals.{changes}
use Rattle.oo7_schema.specs.Alike.{IsClosed}
use Rattle.oo7_schema.specs.Jobs.{job_named}
use Rattle.oo7_schema.specs.JobLaws.{AreNew}
use Rattle.oo7_schema.specs.Sized.{objects_built}
use Rattle.oo7_schema.specs.Designs.{IsFlatDesign}
use Rattle.oo7_schema.specs.Room.{most_made, most_built}

-- the reading that a job leaves has no more objects than the one before and those that the job may make
abbrev pub JobsMakeWithin : Type 0
JobsMakeWithin = (job : Job) (g : Flat) (count after : ℕ) (names : List ℕ) → AreNew g names → IsFlatDesign g → IsClosed g count
    → length (reading_of (job_named job names g).left after).objects ≤ length (reading_of g count).objects + most_made (params_in g) job

-- T3 may make seventeen nodes at each change
abbrev pub TurnsMakeWithin : Type 0
TurnsMakeWithin = (g : Flat) (e : Extent) → IsFlatDesign g → 17 * changes g e ≤ most_made (params_in g) (Traverse (T3 e))

-- a build's design has no more objects than a build may make
abbrev pub BuildsMakeWithin : Type 0
BuildsMakeWithin = (p : Params) → objects_built p ≤ most_built p
