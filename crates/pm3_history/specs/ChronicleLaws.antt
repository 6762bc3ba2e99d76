-- What holds after every lawful history.
use Rattle.std.specs.Prelude.{ℕ, ◌≡◌, ◌||◌, Bool, false, List, [], ◌∷◌, Option, Some, None}
use Rattle.std.specs.FinMap.{get}
use Rattle.std.specs.FinSet as set
use Rattle.pm3_types.specs.Fields.{Fields}
use Rattle.pm3_types.specs.ReachedLaws.{AgreesOnReached}
use Rattle.pm3_types.specs.Shown.{shown}
use Rattle.pm3_history.specs.Entry.{Pass, Done}
use Rattle.pm3_history.specs.State.{State, all_images, now}
use Rattle.pm3_history.specs.Lawful.{AreLawful}
use Rattle.pm3_history.specs.Opens.{Origin, Opens}
use Rattle.pm3_history.specs.Persistent.{persistent_book, persistent_part}
use Rattle.pm3_history.specs.Chronicled.{Chronicled}

-- each state to which an origin opens is one of a chronicle
abbrev pub OpeningsAreChronicled : Type 0
OpeningsAreChronicled = (base pages : ℕ) (o : Origin) (st : State) → Opens base pages o st → Chronicled o.catalog base st

-- a lawful history leads from such a state to such a state
abbrev pub HistoriesKeep : Type 0
HistoriesKeep = (catalog : List Fields) (base pages : ℕ) (st : State) (h : List Done)
    → Chronicled catalog base st → AreLawful catalog base pages st h → Chronicled catalog base (now catalog base st h)

-- what the roots reach after a lawful history is what the images show that stand after it, under its book
abbrev pub NothingIsLost : Type 0
NothingIsLost = (catalog : List Fields) (base pages : ℕ) (st : State) (h : List Done)
    → Chronicled catalog base st → AreLawful catalog base pages st h
    → let after = now catalog base st h in AgreesOnReached catalog after.graph (shown catalog base after.book (all_images after))

-- the last images of the persistent pages alone show it
abbrev pub NothingIsVolatile : Type 0
NothingIsVolatile = (catalog : List Fields) (base pages : ℕ) (st : State) (h : List Done)
    → Chronicled catalog base st → AreLawful catalog base pages st h
    → let after = now catalog base st h in AgreesOnReached catalog after.graph (persistent_part catalog base after)

-- a persistent object keeps its address and its name
abbrev pub PersistentStay : Type 0
PersistentStay = (catalog : List Fields) (base pages : ℕ) (st : State) (h : List Done) (a n : ℕ)
    → Chronicled catalog base st → AreLawful catalog base pages st h → get (persistent_book base st) a ≡ Some n
    → get (persistent_book base (now catalog base st h)) a ≡ Some n

-- the transaction of the pass made an object of this name
abbrev pub made_by : Option Pass → ℕ → Bool
made_by None n = false
made_by (Some p) n = set.contains p.made n

-- one of the commits made one
abbrev pub some_made : List Done → ℕ → Bool
some_made [] n = false
some_made (d ∷ ds) n = made_by d.pass n || some_made ds n

-- a name that the graph lacked, and that no commit made, it lacks still
abbrev pub NamesAreMade : Type 0
NamesAreMade = (catalog : List Fields) (base pages : ℕ) (st : State) (h : List Done) (n : ℕ)
    → Chronicled catalog base st → AreLawful catalog base pages st h → get st.graph.records n ≡ None → some_made h n ≡ false
    → get (now catalog base st h).graph.records n ≡ None
