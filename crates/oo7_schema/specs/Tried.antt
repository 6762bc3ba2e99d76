-- Names for what is made on the tiny design, on which the definitions are tried.
use Rattle.std.specs.Prelude.{ℕ, List}
use Rattle.std.specs.List.{range_with_len}

-- names that the tiny design has not: five composite parts have 95 objects
abbrev pub hundred_names : List ℕ
hundred_names = range_with_len 1000 100
