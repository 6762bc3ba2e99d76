-- When a page may be settled.
use Rattle.std.specs.Prelude.{◌≡◌, ◌⊎◌, ℕ, true, if◌then◌else◌, List, ◌∷◌}
use Rattle.pm3_table.specs.declared.view.Deed.{Deed}
use Rattle.pm3_table.specs.declared.view.Deed.TheVariants.{Unmarked}
use Rattle.pm3_table.specs.declared.view.Told.{Told}
use Rattle.pm3_table.specs.declared.view.View.{View}
use Rattle.pm3_table.specs.Deeds.{marks_of}
use Rattle.pm3_table.specs.Holds.{is_in}
use Rattle.pm3_table.specs.Telling.{HasInSpace}

-- the log once the page has no mark of its own
abbrev pub unmark_log : List Deed → ℕ → List Deed
unmark_log log page = if marks_of log page then (Unmarked page ∷ log) else log

-- as persistent: the view has drawn the page and not settled it, or the page is in a space that it holds
abbrev pub MaySettle : Told → View → ℕ → Type 0
MaySettle told v page = (is_in page v.pages ≡ true) ⊎ ((j : ℕ) × HasInSpace told v j page)

-- in space j: the view has drawn the page and not settled it, or it is in that space already, which the view holds
abbrev pub MaySettleIn : Told → View → ℕ → ℕ → Type 0
MaySettleIn told v j page = (is_in page v.pages ≡ true) ⊎ HasInSpace told v j page
