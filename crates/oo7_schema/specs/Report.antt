-- Jobs run one after another, and the report of their answers.
use Rattle.std.specs.Prelude.{ℕ, zero, suc, ◌==◌, ◌++◌, List, [], ◌∷◌, length, zip, find, flat_map, filter_map, Option, None, Some, codes, map, option_map}
use Rattle.std.specs.List.{range_with_len, slice_get}
use Rattle.std.specs.Fmt.{decimal}
use Rattle.oo7_schema.specs.declared.jobs.Job.{Job}
use Rattle.oo7_schema.specs.Flat.{Flat, Reading}
use Rattle.oo7_schema.specs.Jobs.{job_named, job}
use Rattle.oo7_schema.specs.JobLaws.{AreNew}
use Rattle.oo7_schema.specs.JobLines.{job_text}

-- what jobs answer one after another, and the reading that they leave
abbrev pub answers : List Job → Reading → List ℕ
answers [] r = []
answers (j ∷ jobs) r = (job j r).answer ∷ answers jobs (job j r).left

abbrev pub left_by_all : List Job → Reading → Reading
left_by_all [] r = r
left_by_all (j ∷ jobs) r = left_by_all jobs (job j r).left

-- the same on a graph, where the makes of each job draw these names
abbrev pub Run : Type 0
Run = List (Job × List ℕ)

abbrev pub answers_named : Run → Flat → List ℕ
answers_named [] g = []
answers_named (step ∷ run) g = (job_named step.0 step.1 g).answer ∷ answers_named run (job_named step.0 step.1 g).left

abbrev pub left_named : Run → Flat → Flat
left_named [] g = g
left_named (step ∷ run) g = left_named run (job_named step.0 step.1 g).left

-- the jobs of a run
abbrev pub jobs_in : Run → List Job
jobs_in run = map (λ (step : Job × List ℕ). step.0) run

-- the names of each job are new when it is run
abbrev pub AllNew : Run → Flat → Type 0
AllNew [] g = Unit {0}
AllNew (step ∷ run) g = AreNew g step.1 × AllNew run (job_named step.0 step.1 g).left

-- the job of a list that a tag names by its number, from 1
abbrev pub job_at : List Job → ℕ → Option Job
job_at jobs zero = None
job_at jobs (suc k) = slice_get jobs k

-- the jobs that tags name, each with its tag, in the order of the tags
abbrev pub tagged : List Job → List ℕ → List (ℕ × Job)
tagged jobs tags = filter_map (λ (tag : ℕ). option_map (λ (j : Job). (tag, j)) (job_at jobs tag)) tags

-- what they answer, run in this order
abbrev pub told : Reading → List (ℕ × Job) → List (ℕ × ℕ)
told r ran = zip (map (λ (one : ℕ × Job). one.0) ran) (answers (map (λ (one : ℕ × Job). one.1) ran) r)

-- one line: the number of a job, the job, and its answer
abbrev pub line_for : ℕ → Job → Option (ℕ × ℕ) → List ℕ
line_for number j None = []
line_for number j (Some answer) = decimal number ++ codes " " ++ job_text j ++ codes " " ++ decimal answer.1 ++ codes "\n"

-- the report of jobs that were run in the order of these tags: a line for each, in the order of the list
abbrev pub report : Reading → List Job → List ℕ → List ℕ
report r jobs tags =
    flat_map (λ (one : ℕ × Job). line_for one.0 one.1 (find (λ (answer : ℕ × ℕ). answer.0 == one.0) (told r (tagged jobs tags))))
    (zip (range_with_len 1 (length jobs)) jobs)
