-- What the two files of a new store open to.
use Rattle.std.specs.Prelude.{ℕ, ◌<◌, ◌≤◌, List, Some, replicate}
use Rattle.std.specs.FinMap.{empty}
use Rattle.pm3_types.specs.Fields.{Fields}
use Rattle.pm3_types.specs.Graph.{Part}
use Rattle.pm3_types.specs.PageLaws.{IsCatalog}
use Rattle.pm3_journal.specs.FileHead.{empty_journal}
use Rattle.pm3_journal.specs.Opening.{OpenTo}
use Rattle.pm3_pagefile.specs.EmptyFile.{page_file}

-- the graph without objects: each of its sixteen roots is nil
abbrev pub empty_graph : Part
empty_graph = record { records = empty; roots = Some (replicate 16 0) }

-- A new store opens to the graph without objects. An address 0 would be nil, so that page 0 can't be there.
abbrev pub NewStoreOpens : Type 0
NewStoreOpens = (base pages : ℕ) (catalog : List Fields) → 0 < base → 16 ≤ pages → pages ≤ 16384 → IsCatalog catalog
    → OpenTo base (page_file pages catalog) (empty_journal pages) empty_graph
