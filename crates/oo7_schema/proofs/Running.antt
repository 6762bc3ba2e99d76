-- Jobs that are run one after another answer by readings as by names.
use Rattle.std.proofs.Common.{◌≡◌, ◌+◌, ℕ, List, [], ◌∷◌, length, refl, sym, ap, ◌∙◌, map}
use Rattle.std.specs.Prelude.{zip}
use Rattle.std.specs.FinMap.{len}
use Rattle.oo7_schema.specs.declared.jobs.Job.{Job}
use Rattle.oo7_schema.specs.Flat.{Flat, reading_of, flat_part, reading}
use Rattle.oo7_schema.specs.Jobs.{job_named, job}
use Rattle.oo7_schema.specs.JobLaws.{AreNew}
use Rattle.oo7_schema.specs.Alike.{IsClosed}
use Rattle.oo7_schema.specs.Designs.{IsFlatDesign}
use Rattle.oo7_schema.specs.Report.{answers, left_by_all, answers_named, jobs_in, tagged}
use Rattle.oo7_schema.specs.RunLaws.{Ran, RunsByReading, RunsLeaveReadings, RunsOnDesigns, ReportsTellRuns}
use Rattle.oo7_schema.proofs.NewNames.{job_is_of_reading}
use Rattle.oo7_schema.proofs.ClosedDesigns.{readings_are_whole}
use Rattle.oo7_schema.proofs.Insertions.{jobs_leave_designs, jobs_leave_closed}

-- one job of a run
record Step (j : Job) (names : List ℕ) (g : Flat) (count : ℕ) : Type 0 where
  after : ℕ
  design : IsFlatDesign (job_named j names g).left
  closed : IsClosed (job_named j names g).left after
  answer : (job_named j names g).answer ≡ (job j (reading_of g count)).answer
  left : (job j (reading_of g count)).left ≡ reading_of (job_named j names g).left after

one_step : (j : Job) (names : List ℕ) (g : Flat) (count : ℕ) → IsFlatDesign g → IsClosed g count → AreNew g names → Step j names g count
one_step j names g count design closed new =
    let one = job_is_of_reading j g count names closed new in
    record {
      after = length (reading_of g count).objects + length names;
      design = jobs_leave_designs j g names new design;
      closed = jobs_leave_closed j g count names new design closed;
      answer = sym one.0;
      left = one.1;
    }

pub runs_by_reading : RunsByReading
runs_by_reading [] g count design closed new = refl
runs_by_reading (step ∷ run) g count design closed new =
    let one : Step step.0 step.1 g count = one_step step.0 step.1 g count design closed new.0 in
    let rest : answers_named run (job_named step.0 step.1 g).left ≡ answers (jobs_in run) (reading_of (job_named step.0 step.1 g).left one.after) =
    runs_by_reading run (job_named step.0 step.1 g).left one.after one.design one.closed new.1 in
    λ i. one.answer i ∷ (rest ∙ ap (answers (jobs_in run)) (sym one.left)) i

pub runs_leave_readings : RunsLeaveReadings
runs_leave_readings [] g count design closed new = record { after = count; design = design; closed = closed; left = refl }
runs_leave_readings (step ∷ run) g count design closed new =
    let one : Step step.0 step.1 g count = one_step step.0 step.1 g count design closed new.0 in
    let rest : Ran run (job_named step.0 step.1 g).left one.after = runs_leave_readings run (job_named step.0 step.1 g).left one.after one.design one.closed new.1 in
    record { after = rest.after; design = rest.design; closed = rest.closed; left = ap (left_by_all (jobs_in run)) one.left ∙ rest.left }

pub runs_on_designs : RunsOnDesigns
runs_on_designs = λ run g design new. runs_by_reading run (flat_part g) (len g.records) design.design (readings_are_whole g design) new

pub reports_tell_runs : ReportsTellRuns
reports_tell_runs = λ run g jobs tags design new same.
    ap (λ (ran : List Job). zip (map (λ (one : ℕ × Job). one.0) (tagged jobs tags)) (answers ran (reading g))) (sym same)
    ∙ ap (λ (told_so : List ℕ). zip (map (λ (one : ℕ × Job). one.0) (tagged jobs tags)) told_so) (sym (runs_on_designs run g design new))
