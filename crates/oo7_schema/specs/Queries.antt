-- The queries Q1 to Q5 and Q7.
use Rattle.std.specs.Prelude.{ℕ, ◌+◌, List, Bool, length, map, replicate, sum, count_by, Option, None, Some, nat_lt}
use Rattle.std.specs.List.{list_any}
use Rattle.pm3_types.specs.Numbering.{is_among}
use Rattle.oo7_schema.specs.Lookup.{Look}
use Rattle.oo7_schema.specs.Entries.{Entry, first_with, count_between}
use Rattle.oo7_schema.specs.Flat.{Flat, index}
use Rattle.oo7_schema.specs.Members.{greatest_atomic, greatest_composite, date_of, part_of, x_of}
use Rattle.oo7_schema.specs.Walk.{bases, parts_at}
use Rattle.oo7_schema.specs.Draws.{begun, drawn}

-- so many numbers from 1 to g, drawn in the stream of jobs
abbrev pub numbers_to : ℕ → ℕ → ℕ → List ℕ
numbers_to count g choice = map (λ (n : ℕ). n + 1) (drawn (replicate count g) (begun choice 7))

-- what an entry's object tells, and 0 where there is no entry
abbrev pub told : (ℕ → ℕ) → Option Entry → ℕ
told tell None = 0
told tell (Some e) = tell e.1

-- Q1 sums x over the parts with ten drawn ids
abbrev pub q1 : Flat → ℕ → ℕ
q1 g choice = sum (map (λ (id : ℕ). told (x_of g.look) (first_with id (index g 1))) (numbers_to 10 (greatest_atomic g) choice))

-- Q2 and Q3 count the parts of ten years and of a hundred
abbrev pub q2 : Flat → ℕ
q2 g = count_between 1990 1999 (index g 2)

abbrev pub q3 : Flat → ℕ
q3 g = count_between 1900 1999 (index g 2)

-- how many base assemblies refer to a composite part
abbrev pub users : Flat → ℕ → ℕ
users g c = count_by (λ (base : ℕ). is_among (parts_at g.look base) c) (bases g)

-- Q4 sums the users of the composite parts of 100 drawn documents
abbrev pub q4 : Flat → ℕ → ℕ
q4 g choice =
    sum (map (λ (title : ℕ). told (λ (d : ℕ). users g (part_of g.look d)) (first_with title (index g 3))) (numbers_to 100 (greatest_composite g) choice))

-- a base assembly refers to a composite part that is younger than itself
abbrev pub has_younger : Look → ℕ → Bool
has_younger look base = list_any (λ (c : ℕ). nat_lt (date_of look base) (date_of look c)) (parts_at look base)

-- Q5 counts these base assemblies
abbrev pub q5 : Flat → ℕ
q5 g = count_by (has_younger g.look) (bases g)

-- Q7 counts the atomic parts
abbrev pub q7 : Flat → ℕ
q7 g = length (index g 1)
