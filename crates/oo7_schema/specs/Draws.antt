-- Random choices: a number below a bound is the next word of PCG32 modulo the bound.
use Rattle.std.specs.Prelude.{ℕ, ◌%◌, List, [], ◌∷◌}
use Rattle.rand_pcg.specs.Lcg.{Lcg, started, increment_of}
use Rattle.rand_pcg.specs.Pcg.{multiplier_64, pcg32}

-- the generator that a choice and a stream give
abbrev pub begun : ℕ → ℕ → Lcg
begun choice stream = started 64 multiplier_64 choice (increment_of 64 stream)

-- a number below the bound, and the generator behind it
abbrev pub below : ℕ → Lcg → ℕ × Lcg
below n g = ((pcg32 g).0 % n, (pcg32 g).1)

-- one number below each of these bounds, in order
abbrev pub drawn : List ℕ → Lcg → List ℕ
drawn [] g = []
drawn (n ∷ ns) g = (below n g).0 ∷ drawn ns (below n g).1

-- the generator behind these draws
abbrev pub after : List ℕ → Lcg → Lcg
after [] g = g
after (n ∷ ns) g = after ns (below n g).1
