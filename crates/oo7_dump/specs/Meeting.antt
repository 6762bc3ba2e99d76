-- What a call does that meets objects by the references that lead to them.
use Rattle.std.specs.Prelude.{ℕ, ◌≡◌, List}
use Rattle.pm3_core.specs.declared.naming.TheConstants.{BASE}
use Rattle.pm3_types.specs.Fields.{Fields}
use Rattle.pm3_types.specs.Numbering.{meet}
use Rattle.pm3_types.specs.Shown as shown
use Rattle.pm3_page.specs.PageMap.{Images}
use Rattle.oo7_dump.specs.Held.{AreAmong}
use Rattle.oo7_dump.specs.Raw.{raw_at}

-- behind the objects that were met, those to which these references lead are met, whatever pages there are beside the held ones
abbrev pub Meets : List Fields → Images → List ℕ → List ℕ → List ℕ → Type 0
Meets catalog images old new names = (all : shown.Images) → AreAmong images all → new ≡ meet (raw_at catalog BASE all) old names
