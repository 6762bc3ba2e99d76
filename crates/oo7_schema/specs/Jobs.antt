-- What a job means: its answer, and the graph that it leaves. A job is told over a graph with its trees as lists, by the names
-- that this has; its reading tells all that a job can tell.
use Rattle.std.specs.Prelude.{ℕ, ◌+◌, ◌*◌, List, length}
use Rattle.std.specs.List.{range_with_len}
use Rattle.oo7_schema.specs.declared.jobs.Walk.{Walk}
use Rattle.oo7_schema.specs.declared.jobs.Walk.TheVariants.{T1, T2, T3, T6, T8, T9}
use Rattle.oo7_schema.specs.declared.jobs.Query.{Query}
use Rattle.oo7_schema.specs.declared.jobs.Query.TheVariants.{Q1, Q2, Q3, Q4, Q5, Q7}
use Rattle.oo7_schema.specs.declared.jobs.Job.{Job}
use Rattle.oo7_schema.specs.declared.jobs.Job.TheVariants.{Traverse, Ask, Insert, Delete}
use Rattle.oo7_schema.specs.Flat.{Flat, Reading, reading_of, flat_of}
use Rattle.oo7_schema.specs.Members.{params_in}
use Rattle.oo7_schema.specs.Composites.{objects_in}
use Rattle.oo7_schema.specs.Traversals.{t1, t2, t3, t6, t8, t9, changes}
use Rattle.oo7_schema.specs.Queries.{q1, q2, q3, q4, q5, q7}
use Rattle.oo7_schema.specs.Changes.{insert, delete}

-- an answer, and what is left
pub record Outcome : Type 0 where
  pub answer : ℕ
  pub left : Flat

abbrev pub outcome : ℕ → Flat → Outcome
outcome answer left = record { answer = answer; left = left }

-- what a traversal answers and leaves
abbrev pub traversal : Walk → Flat → Outcome
traversal T1 g = outcome (t1 g) g
traversal (T2 e) g = outcome (changes g e) (t2 g e)
traversal (T3 e) g = outcome (changes g e) (t3 g e)
traversal T6 g = outcome (t6 g) g
traversal T8 g = outcome (t8 g) g
traversal T9 g = outcome (t9 g) g

-- what a query answers
abbrev pub answer_to : Query → Flat → ℕ
answer_to (Q1 seed) g = q1 g seed
answer_to Q2 g = q2 g
answer_to Q3 g = q3 g
answer_to (Q4 seed) g = q4 g seed
answer_to Q5 g = q5 g
answer_to Q7 g = q7 g

-- what a job answers and leaves, where its makes draw these names
abbrev pub job_named : Job → List ℕ → Flat → Outcome
job_named (Traverse walk) names g = traversal walk g
job_named (Ask query) names g = outcome (answer_to query g) g
job_named (Insert seed) names g = outcome (insert g seed names).parts (insert g seed names).design
job_named (Delete seed) names g = outcome (delete g seed).parts (delete g seed).design

-- as many names as five insertions draw, from n on
abbrev pub names_from : ℕ → Flat → List ℕ
names_from n g = range_with_len n (5 * objects_in (params_in g))

-- an answer, and the reading that is left
pub record Answered : Type 0 where
  pub answer : ℕ
  pub left : Reading

-- what a job answers of a reading and leaves of it
abbrev pub job : Job → Reading → Answered
job j r =
    let names = names_from (length r.objects + 1) (flat_of r) in
    let done = job_named j names (flat_of r) in
    record { answer = done.answer; left = reading_of done.left (length r.objects + length names) }
