-- What the machine is for.
use Rattle.std.specs.Prelude.{◌≡◌, ◌≢◌, ◌↔◌, ℕ, true, ◌<◌, List, [], ◌∷◌, ◌++◌, All}
use Rattle.pm3_core.specs.declared.events.Event.{Event}
use Rattle.pm3_core.specs.declared.events.Event.TheVariants.{Move, Unmark}
use Rattle.pm3_core.specs.declared.events.TheConstants.{PLACES}
use Rattle.pm3_core.specs.Naming.{Names}
use Rattle.pm3_core.specs.Machine.{Machine, opening, after, reached}
use Rattle.pm3_core.specs.Cleared.{IsStep}
use Rattle.pm3_core.specs.Apart.{IsApart, StandingNames}
use Rattle.pm3_core.specs.Standing.{Stood}

-- the place stands with a word that names the page
abbrev pub Pins : ℕ → Machine → ℕ → ℕ → Type 0
Pins pages m n page = (m.stands n ≡ true) × Names pages (m.word n) page

-- no place pins the page
abbrev pub IsUnpinned : ℕ → Machine → ℕ → Type 0
IsUnpinned pages m page = (n : ℕ) → n < PLACES → Pins pages m n page → ⊥

-- a place that pins the page in the later state pinned it in the sooner one, with the same word
abbrev pub PinnedBefore : ℕ → Machine → Machine → ℕ → ℕ → Type 0
PinnedBefore pages sooner later n page =
    Pins pages later n page → Pins pages sooner n page × (sooner.word n ≡ later.word n)

-- a move that is a step is of a page that no standing word names
abbrev pub MovesUnpinned : Type 0
MovesUnpinned =
    (pages : ℕ) (events : List Event) (who page : ℕ)
    → IsStep pages (reached pages events) (Move who page)
    → IsUnpinned pages (reached pages events) page

-- what pins a marked page after one more event pinned it before
abbrev pub NoneBegins : Type 0
NoneBegins =
    (pages : ℕ) (events : List Event) (event : Event) (n page : ℕ)
    → (reached pages events).mark page ≢ 0
    → PinnedBefore pages (reached pages events) (reached pages (events ++ event ∷ [])) n page

-- the event is no unmark of the page
abbrev pub LeavesMark : ℕ → Event → Type 0
LeavesMark page (Unmark who other) = other ≢ page
LeavesMark page _ = Unit {0}

-- what pins a marked page after more events, none of which unmarks it, pinned it before
abbrev pub NoneBeginsBeforeUnmark : Type 0
NoneBeginsBeforeUnmark =
    (pages : ℕ) (events more : List Event) (n page : ℕ)
    → (reached pages events).mark page ≢ 0
    → All (LeavesMark page) more
    → PinnedBefore pages (reached pages events) (reached pages (events ++ more)) n page

-- a place stands exactly where its page was found without a mark, with no store there since
abbrev pub StandsSinceLoad : Type 0
StandsSinceLoad =
    (pages : ℕ) (events : List Event) (n : ℕ)
    → ((reached pages events).stands n ≡ true) ↔ Stood pages n events opening

-- in each state that is reached, standing places name pages
abbrev pub StandsNaming : Type 0
StandsNaming = (pages : ℕ) (events : List Event) → StandingNames pages (reached pages events)

-- at the opening no standing place is read off for the marked page that it names
abbrev pub OpensApart : Type 0
OpensApart = (pages : ℕ) → IsApart pages opening

-- each event keeps it so
abbrev pub StaysApart : Type 0
StaysApart =
    (pages : ℕ) (m : Machine) (event : Event) → IsApart pages m → IsApart pages (after pages m event)
