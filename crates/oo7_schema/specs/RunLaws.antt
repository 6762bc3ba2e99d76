-- Laws of job lists and of runs.
use Rattle.std.specs.Prelude.{ℕ, ◌≡◌, ◌<◌, ◌≤◌, ◌^◌, List, map, zip, length, Some}
use Rattle.pm3_types.specs.Graph.{Part}
use Rattle.oo7_schema.specs.declared.jobs.Query.{Query}
use Rattle.oo7_schema.specs.declared.jobs.Query.TheVariants.{Q1, Q2, Q3, Q4, Q5, Q7}
use Rattle.oo7_schema.specs.declared.jobs.Job.{Job}
use Rattle.oo7_schema.specs.declared.jobs.Job.TheVariants.{Traverse, Ask, Insert, Delete}
use Rattle.oo7_schema.specs.Flat.{Flat, reading_of, flat_part, reading}
use Rattle.oo7_schema.specs.Alike.{IsClosed}
use Rattle.oo7_schema.specs.Designs.{IsFlatDesign, IsDesign}
use Rattle.oo7_schema.specs.JobLines.{job_text, job_of}
use Rattle.oo7_schema.specs.Report.{Run, answers, left_by_all, answers_named, left_named, jobs_in, AllNew, tagged, told}

-- the seed of a query, and of a job, is a word
abbrev pub HasWord : Query → Type 0
HasWord (Q1 seed) = seed < 2 ^ 64
HasWord Q2 = Unit {0}
HasWord Q3 = Unit {0}
HasWord (Q4 seed) = seed < 2 ^ 64
HasWord Q5 = Unit {0}
HasWord Q7 = Unit {0}

abbrev pub HasSeed : Job → Type 0
HasSeed (Traverse walk) = Unit {0}
HasSeed (Ask query) = HasWord query
HasSeed (Insert seed) = seed < 2 ^ 64
HasSeed (Delete seed) = seed < 2 ^ 64

-- a job is read from its line
abbrev pub JobsAreRead : Type 0
JobsAreRead = (job : Job) → HasSeed job → job_of (job_text job) ≡ Some job

-- and a line that is read as a job is that job's
abbrev pub LinesAreJobs : Type 0
LinesAreJobs = (line : List ℕ) (job : Job) → job_of line ≡ Some job → (line ≡ job_text job) × HasSeed job

-- and no line is longer than a reader need take
abbrev pub LinesAreShort : Type 0
LinesAreShort = (job : Job) → HasSeed job → length (job_text job) ≤ 64

-- what jobs answer one after another of a design is what they answer of its reading
abbrev pub RunsByReading : Type 0
RunsByReading = (run : Run) (g : Flat) (count : ℕ) → IsFlatDesign g → IsClosed g count → AllNew run g
    → answers_named run g ≡ answers (jobs_in run) (reading_of g count)

-- and what they leave is a design, whose reading is what they leave of the reading
pub record Ran (run : Run) (g : Flat) (count : ℕ) : Type 0 where
  pub after : ℕ
  pub design : IsFlatDesign (left_named run g)
  pub closed : IsClosed (left_named run g) after
  pub left : left_by_all (jobs_in run) (reading_of g count) ≡ reading_of (left_named run g) after

abbrev pub RunsLeaveReadings : Type 0
RunsLeaveReadings = (run : Run) (g : Flat) (count : ℕ) → IsFlatDesign g → IsClosed g count → AllNew run g → Ran run g count

-- so what they answer of a store's graph is what they answer of its reading
abbrev pub RunsOnDesigns : Type 0
RunsOnDesigns = (run : Run) (g : Part) → IsDesign g → AllNew run (flat_part g)
    → answers_named run (flat_part g) ≡ answers (jobs_in run) (reading g)

-- and a report tells what the jobs answered that its tags name
abbrev pub ReportsTellRuns : Type 0
ReportsTellRuns = (run : Run) (g : Part) (jobs : List Job) (tags : List ℕ) → IsDesign g → AllNew run (flat_part g)
    → jobs_in run ≡ map (λ (one : ℕ × Job). one.1) (tagged jobs tags)
    → told (reading g) (tagged jobs tags) ≡ zip (map (λ (one : ℕ × Job). one.0) (tagged jobs tags)) (answers_named run (flat_part g))
