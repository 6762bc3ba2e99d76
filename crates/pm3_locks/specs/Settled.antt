-- What settling a page asks and makes.
use Rattle.std.specs.Prelude.{ℕ, ◌≡◌, ◌<◌, true}
use Rattle.pm3_locks.specs.declared.states.PageState.{PageState}
use Rattle.pm3_locks.specs.declared.states.PageState.TheVariants.{Volatile, Held}
use Rattle.pm3_table.specs.declared.view.Told.{Told}
use Rattle.pm3_table.specs.declared.view.View.{View}
use Rattle.pm3_table.specs.Holds.{holds_of}
use Rattle.pm3_table.specs.Ops.{settled_in, settled_held}
use Rattle.pm3_table.specs.Settles.{unmark_log, MaySettle, MaySettleIn}
use Rattle.pm3_table.specs.Words.{space_unit}

-- the space of the state is one that the view holds, among the spaces of a table of so many pages
abbrev pub HoldsSpace : ℕ → View → PageState → Type 0
HoldsSpace pages v (Volatile space) = (space < 32) × (holds_of v.holds (space_unit pages space) ≡ true)
HoldsSpace pages v Held = 0 < 1

-- a page that the view drew goes anywhere; one of a space that it holds stays in that, or becomes persistent
abbrev pub MayGo : Told → View → ℕ → PageState → Type 0
MayGo told v page (Volatile space) = MaySettleIn told v space page
MayGo told v page Held = MaySettle told v page

-- the view once the page is settled
abbrev pub settled : ℕ → View → ℕ → PageState → View
settled pages v page (Volatile space) = settled_in v page (space_unit pages space) (unmark_log v.log page)
settled pages v page Held = settled_held v page (unmark_log v.log page)
