-- Laws of jobs: what a job answers of a graph, and the reading of what it leaves, depend on the reading of the graph alone.
use Rattle.std.specs.Prelude.{ℕ, ◌≡◌, ◌≢◌, ◌+◌, ◌*◌, List, length, Bool, true, None, Some}
use Rattle.std.specs.List.{slice_get}
use Rattle.oo7_schema.specs.declared.jobs.Job.{Job}
use Rattle.oo7_schema.specs.Flat.{Flat, reading_of, flat_of}
use Rattle.oo7_schema.specs.Members.{params_in}
use Rattle.oo7_schema.specs.Composites.{objects_in}
use Rattle.oo7_schema.specs.Jobs.{Outcome, job_named, job}
use Rattle.oo7_schema.specs.Alike.{Pairing, AlikeFlats, met, Stands, IsClosed}

-- graphs that are alike have one reading
abbrev pub AlikeHaveOneReading : Type 0
AlikeHaveOneReading = (test : ℕ → ℕ → Bool) (f g : Flat) (count : ℕ)
    → Pairing (λ m n. test m n ≡ true) → AlikeFlats (λ m n. test m n ≡ true) f g → reading_of f count ≡ reading_of g count

-- a graph is alike to its own reading, whose numbers stand for its names
abbrev pub IsAlikeToItsReading : Type 0
IsAlikeToItsReading = (g : Flat) (count : ℕ) → IsClosed g count
    → Pairing (Stands (met g count)) × AlikeFlats (Stands (met g count)) (flat_of (reading_of g count)) g

-- names that five insertions may draw: none is nil or has an object, and none is there twice
pub record AreNew (g : Flat) (names : List ℕ) : Type 0 where
  pub count : length names ≡ 5 * objects_in (params_in g)
  pub none : (k n : ℕ) → slice_get names k ≡ Some n → (n ≢ 0) × (g.look n ≡ None)
  pub once : (j k n : ℕ) → slice_get names j ≡ Some n → slice_get names k ≡ Some n → j ≡ k

-- one answer, and graphs left that have one reading
pub record AreOne (a b : Outcome) : Type 0 where
  pub answer : a.answer ≡ b.answer
  pub left : (count : ℕ) → reading_of a.left count ≡ reading_of b.left count

-- a job on a reading is the job on the graph, whatever names its makes draw
abbrev pub JobsSeeReadings : Type 0
JobsSeeReadings = (j : Job) (g : Flat) (count : ℕ) (numbers names : List ℕ) → IsClosed g count
    → AreNew (flat_of (reading_of g count)) numbers → AreNew g names
    → AreOne (job_named j numbers (flat_of (reading_of g count))) (job_named j names g)

-- so what `job` says of the reading of a graph is what the job does to the graph
abbrev pub JobIsOfReading : Type 0
JobIsOfReading = (j : Job) (g : Flat) (count : ℕ) (names : List ℕ) → IsClosed g count → AreNew g names
    → ((job j (reading_of g count)).answer ≡ (job_named j names g).answer)
    × ((job j (reading_of g count)).left ≡ reading_of (job_named j names g).left (length (reading_of g count).objects + length names))
