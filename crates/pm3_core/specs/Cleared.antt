-- When a page may be moved from, and with it when an event is a step.
use Rattle.std.specs.Prelude.{◌≡◌, ℕ, true, ◌+◌, ◌<◌, List, [], ◌∷◌}
use Rattle.pm3_core.specs.declared.events.Event.{Event}
use Rattle.pm3_core.specs.declared.events.Event.TheVariants.{Move}
use Rattle.pm3_core.specs.declared.events.TheConstants.{PLACES}
use Rattle.pm3_core.specs.Machine.{Machine, admits, after}

-- the mutator marks the page, and each place of all rows is read off for it
abbrev pub Cleared : Machine → ℕ → ℕ → Type 0
Cleared m who page = (m.mark page ≡ who + 1) × ((n : ℕ) → n < PLACES → m.read page n ≡ true)

-- a move is of a cleared page
abbrev pub MovesCleared : Machine → Event → Type 0
MovesCleared m (Move who page) = Cleared m who page
MovesCleared m _ = Unit {0}

-- the event is a step of the machine
abbrev pub IsStep : ℕ → Machine → Event → Type 0
IsStep pages m event = (admits pages m event ≡ true) × MovesCleared m event

-- each event is a step where it happens
abbrev pub AllSteps : ℕ → List Event → Machine → Type 0
AllSteps pages [] m = Unit {0}
AllSteps pages (event ∷ events) m = IsStep pages m event × AllSteps pages events (after pages m event)
