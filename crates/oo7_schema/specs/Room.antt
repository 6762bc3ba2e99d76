-- The room of a command: how many objects it may make, and how many pages these may take.
use Rattle.std.specs.Prelude.{ℕ, ◌+◌, ◌-◌, ◌*◌, ◌/◌, ◌^◌, List, Bool, cond, map, length, sum}
use Rattle.oo7_schema.specs.declared.sizes.Params.{Params}
use Rattle.oo7_schema.specs.declared.jobs.Walk.{Walk}
use Rattle.oo7_schema.specs.declared.jobs.Walk.TheVariants.{T1, T2, T3, T6, T8, T9}
use Rattle.oo7_schema.specs.declared.jobs.Job.{Job}
use Rattle.oo7_schema.specs.declared.jobs.Job.TheVariants.{Traverse, Ask, Insert, Delete}
use Rattle.oo7_schema.specs.Texts.{chunk_count}
use Rattle.oo7_schema.specs.Composites.{objects_in}
use Rattle.oo7_schema.specs.Sized.{assembly_count}

-- the objects of a composite part, and the nodes that its entries may make: of each entry one on each level, and a root
abbrev pub part : Params → ℕ
part p = objects_in p + 17 * (2 * p.atomics + 2)

-- how many base assemblies a size has
abbrev pub base_count : Params → ℕ
base_count p = 3 ^ (p.levels - 1)

-- the objects that one try of a traversal may make: T3 turns each part of three visits of a base assembly four times at most
abbrev pub most_by_walk : Params → Walk → ℕ
most_by_walk p T1 = 0
most_by_walk p (T2 e) = 0
most_by_walk p (T3 e) = 204 * (base_count p * p.atomics)
most_by_walk p T6 = 0
most_by_walk p T8 = 0
most_by_walk p T9 = 0

-- the objects that one try of a job may make
abbrev pub most_made : Params → Job → ℕ
most_made p (Traverse walk) = most_by_walk p walk
most_made p (Ask query) = 0
most_made p (Insert seed) = 5 * part p
most_made p (Delete seed) = 0

-- the objects that a build may make, and its transactions: the first, one for each ten composite parts, the last
abbrev pub most_built : Params → ℕ
most_built p = p.composites * part p + assembly_count (p.levels - 1) + chunk_count p.manual + 6

abbrev pub build_steps : Params → ℕ
build_steps p = (p.composites + 9) / 10 + 2

-- what a command may make, and its transactions: a build or none, and nine tries of each job
abbrev pub most_of_command : Params → Bool → List Job → ℕ
most_of_command p builds jobs = cond builds (most_built p) 0 + 9 * sum (map (most_made p) jobs)

abbrev pub steps_of_command : Params → Bool → List Job → ℕ
steps_of_command p builds jobs = cond builds (build_steps p) 0 + 9 * length jobs

-- the pages that it may need: each object draws one, and moves at each commit at most
abbrev pub room : Params → Bool → List Job → ℕ
room p builds jobs = (steps_of_command p builds jobs + 2) * most_of_command p builds jobs
