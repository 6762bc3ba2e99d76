-- Laws of designs: what jobs leave is a design.
use Rattle.std.specs.Prelude.{ℕ, ◌≡◌, ◌+◌, ◌<◌, ◌≤◌, List, length, true, is_some}
use Rattle.std.specs.FinMap.{len}
use Rattle.pm3_types.specs.Graph.{Part}
use Rattle.pm3_types.specs.Numbering.{is_among}
use Rattle.oo7_schema.specs.declared.jobs.Extent.{Extent}
use Rattle.oo7_schema.specs.declared.jobs.Job.{Job}
use Rattle.oo7_schema.specs.Sizes.{params_of, size_at}
use Rattle.oo7_schema.specs.Flat.{Flat, reading_of, flat_part}
use Rattle.oo7_schema.specs.Traversals.{t2, t3}
use Rattle.oo7_schema.specs.Changes.{insert, delete}
use Rattle.oo7_schema.specs.Jobs.{job_named}
use Rattle.oo7_schema.specs.Alike.{IsClosed}
use Rattle.oo7_schema.specs.JobLaws.{AreNew}
use Rattle.oo7_schema.specs.Sized.{design, objects_built}
use Rattle.oo7_schema.specs.Designs.{IsFlatDesign, IsDesign}

-- swaps of x and y leave a design
abbrev pub SwapsLeaveDesigns : Type 0
SwapsLeaveDesigns = (g : Flat) (e : Extent) → IsFlatDesign g → IsFlatDesign (t2 g e)

-- and so do turned dates
abbrev pub DatesLeaveDesigns : Type 0
DatesLeaveDesigns = (g : Flat) (e : Extent) → IsFlatDesign g → IsFlatDesign (t3 g e)

-- composite parts that go leave a design
abbrev pub DeletesLeaveDesigns : Type 0
DeletesLeaveDesigns = (g : Flat) (choice : ℕ) → IsFlatDesign g → IsFlatDesign (delete g choice).design

-- and so do composite parts that come under new names
abbrev pub InsertsLeaveDesigns : Type 0
InsertsLeaveDesigns = (g : Flat) (choice : ℕ) (names : List ℕ) → AreNew g names → IsFlatDesign g → IsFlatDesign (insert g choice names).design

-- so each job leaves a design
abbrev pub JobsLeaveDesigns : Type 0
JobsLeaveDesigns = (job : Job) (g : Flat) (names : List ℕ) → AreNew g names → IsFlatDesign g → IsFlatDesign (job_named job names g).left

-- and where so many looks found all that a design's roots reach, as many as it has objects, and one more for each new name, find
-- all that is reached of what a job leaves
abbrev pub JobsLeaveClosed : Type 0
JobsLeaveClosed = (job : Job) (g : Flat) (count : ℕ) (names : List ℕ) → AreNew g names → IsFlatDesign g → IsClosed g count
    → IsClosed (job_named job names g).left (length (reading_of g count).objects + length names)

-- a design's roots reach no more than is there
abbrev pub DesignsAreClosed : Type 0
DesignsAreClosed = (g : Flat) (all : List ℕ) (count : ℕ) → IsFlatDesign g → ((n : ℕ) → is_some (g.look n) ≡ true → is_among all n ≡ true)
    → length all ≤ count → IsClosed g count

-- so the reading of a design has all that it reaches
abbrev pub ReadingsAreWhole : Type 0
ReadingsAreWhole = (g : Part) → IsDesign g → IsClosed (flat_part g) (len g.records)

-- the design of each size and seed is one
abbrev pub BuiltIsDesign : Type 0
BuiltIsDesign = (number seed : ℕ) → number < 5 → IsFlatDesign (design number seed)

-- and its reading has all that it reaches
abbrev pub BuiltIsClosed : Type 0
BuiltIsClosed = (number seed : ℕ) → number < 5 → IsClosed (design number seed) (objects_built (params_of (size_at number)))
