-- Job lists: the lines that name jobs.
use Rattle.std.specs.Prelude.{ℕ, ◌==◌, ◌&&◌, ◌++◌, ◌^◌, List, [], ◌∷◌, not, cond, map, filter_map, length, take, drop, nat_lt, Option, None, Some, option_map, is_some, codes, bytes_eq, find, leb, zip, Bool}
use Rattle.std.specs.Fmt.{decimal}
use Rattle.std.specs.Str.Parse.{digits_value}
use Rattle.std.specs.List.{range_with_len}
use Rattle.oo7_schema.specs.declared.jobs.Extent.{Extent}
use Rattle.oo7_schema.specs.declared.jobs.Extent.TheVariants.{A, B, C}
use Rattle.oo7_schema.specs.declared.jobs.Walk.{Walk}
use Rattle.oo7_schema.specs.declared.jobs.Walk.TheVariants.{T1, T2, T3, T6, T8, T9}
use Rattle.oo7_schema.specs.declared.jobs.Query.{Query}
use Rattle.oo7_schema.specs.declared.jobs.Query.TheVariants.{Q1, Q2, Q3, Q4, Q5, Q7}
use Rattle.oo7_schema.specs.declared.jobs.Job.{Job}
use Rattle.oo7_schema.specs.declared.jobs.Job.TheVariants.{Traverse, Ask, Insert, Delete}

abbrev pub extent_text : Extent → List ℕ
extent_text A = codes "a"
extent_text B = codes "b"
extent_text C = codes "c"

abbrev pub walk_text : Walk → List ℕ
walk_text T1 = codes "T1"
walk_text (T2 e) = codes "T2 " ++ extent_text e
walk_text (T3 e) = codes "T3 " ++ extent_text e
walk_text T6 = codes "T6"
walk_text T8 = codes "T8"
walk_text T9 = codes "T9"

abbrev pub query_text : Query → List ℕ
query_text (Q1 seed) = codes "Q1 " ++ decimal seed
query_text Q2 = codes "Q2"
query_text Q3 = codes "Q3"
query_text (Q4 seed) = codes "Q4 " ++ decimal seed
query_text Q5 = codes "Q5"
query_text Q7 = codes "Q7"

-- the line that names a job, without its end
abbrev pub job_text : Job → List ℕ
job_text (Traverse walk) = walk_text walk
job_text (Ask query) = query_text query
job_text (Insert seed) = codes "insert " ++ decimal seed
job_text (Delete seed) = codes "delete " ++ decimal seed

-- the jobs without a seed
abbrev pub seedless : List Job
seedless =
    map Traverse (T1 ∷ T2 A ∷ T2 B ∷ T2 C ∷ T3 A ∷ T3 B ∷ T3 C ∷ T6 ∷ T8 ∷ T9 ∷ []) ++ map Ask (Q2 ∷ Q3 ∷ Q5 ∷ Q7 ∷ [])

-- the jobs with a seed, each with what stands before it
abbrev pub seeded : List (List ℕ × (ℕ → Job))
seeded =
    (codes "Q1 ", λ (seed : ℕ). Ask (Q1 seed)) ∷ (codes "Q4 ", λ (seed : ℕ). Ask (Q4 seed)) ∷ (codes "insert ", λ (seed : ℕ). Insert seed)
    ∷ (codes "delete ", λ (seed : ℕ). Delete seed) ∷ []

-- the seed that a text writes: below 2^64, and just as numbers are written
abbrev pub seed_of : List ℕ → Option ℕ
seed_of text =
    let seed = digits_value 10 text in
    cond (bytes_eq text (decimal seed) && nat_lt seed (2 ^ 64)) (Some seed) None

-- the job with a seed that a line names, of these
abbrev pub with_seed : List (List ℕ × (ℕ → Job)) → List ℕ → Option Job
with_seed [] line = None
with_seed (form ∷ forms) line =
    cond (bytes_eq form.0 (take (length form.0) line)) (option_map form.1 (seed_of (drop (length form.0) line))) (with_seed forms line)

abbrev pub or_else : Option Job → Option Job → Option Job
or_else None other = other
or_else (Some job) other = Some job

-- the job that a line names, if it names one
abbrev pub job_of : List ℕ → Option Job
job_of line = or_else (find (λ (job : Job). bytes_eq (job_text job) line) seedless) (with_seed seeded line)

-- a byte in front of lines
abbrev pub onto : ℕ → List (List ℕ) → List (List ℕ)
onto b [] = (b ∷ []) ∷ []
onto b (line ∷ lines) = (b ∷ line) ∷ lines

-- the lines of a text; the last may lack its line feed
abbrev pub lines_of : List ℕ → List (List ℕ)
lines_of [] = []
lines_of (b ∷ bytes) = cond (b == 10) ([] ∷ lines_of bytes) (onto b (lines_of bytes))

-- how many lines a job list may have
abbrev pub most_lines : ℕ
most_lines = 4096

-- the jobs of a list, where each line is one
abbrev pub jobs_of : List ℕ → List Job
jobs_of text = filter_map job_of (lines_of text)

-- a line of this number, counted from 1, stands for a job
abbrev pub stands : ℕ × List ℕ → Bool
stands line = leb line.0 most_lines && is_some (job_of line.1)

-- the number of the first line that stands for none
abbrev pub wrong_line : List ℕ → Option ℕ
wrong_line text =
    let lines = lines_of text in
    option_map (λ (line : ℕ × List ℕ). line.0) (find (λ (line : ℕ × List ℕ). not (stands line)) (zip (range_with_len 1 (length lines)) lines))
