-- The part of a state that is on persistent pages.
use Rattle.std.specs.Prelude.{ℕ, List}
use Rattle.pm3_types.specs.Fields.{Fields}
use Rattle.pm3_types.specs.Graph.{Part}
use Rattle.pm3_types.specs.Shown.{Book, shown}
use Rattle.pm3_history.specs.Named.{off_pages}
use Rattle.pm3_history.specs.State.{State}

-- the book at addresses on pages of no space
abbrev pub persistent_book : ℕ → State → Book
persistent_book base st = off_pages base st.book st.owner

-- what the last images of the pages show under it
abbrev pub persistent_part : List Fields → ℕ → State → Part
persistent_part catalog base st = shown catalog base (persistent_book base st) st.pages
