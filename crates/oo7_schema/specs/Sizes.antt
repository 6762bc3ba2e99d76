-- The sizes of a design, and what each says.
use Rattle.std.specs.Prelude.{ℕ, List, [], ◌∷◌, get_or}
use Rattle.oo7_schema.specs.declared.sizes.Size.{Size}
use Rattle.oo7_schema.specs.declared.sizes.Size.TheVariants.{Tiny, Small, Small6, Small9, Medium}
use Rattle.oo7_schema.specs.declared.sizes.Params.{Params}

-- a size of seven levels and 500 composite parts
abbrev pub large : ℕ → ℕ → ℕ → ℕ → Params
large atomics connections document manual =
    record { levels = 7; composites = 500; atomics = atomics; connections = connections; document = document; manual = manual }

abbrev pub params_of : Size → Params
params_of Tiny = record { levels = 3; composites = 10; atomics = 4; connections = 3; document = 200; manual = 1000 }
params_of Small = large 20 3 2000 100000
params_of Small6 = large 20 6 2000 100000
params_of Small9 = large 20 9 2000 100000
params_of Medium = large 200 3 20000 1000000

-- the sizes, each at the number by which a module names it
abbrev pub sizes : List Size
sizes = Tiny ∷ Small ∷ Small6 ∷ Small9 ∷ Medium ∷ []

-- the size of a number below 5
abbrev pub size_at : ℕ → Size
size_at number = get_or sizes number Tiny
