-- What holds of every history.
use Rattle.std.specs.Prelude.{ℕ, ◌≡◌, ◌↔◌, List, ◌++◌}
use Rattle.pm3_types.specs.Fields.{Fields}
use Rattle.pm3_history.specs.Entry.{Done}
use Rattle.pm3_history.specs.State.{State, now, entries_of, graph_after}
use Rattle.pm3_history.specs.Lawful.{AreLawful}
use Rattle.pm3_history.specs.Opens.{Origin, Opens, LawfulFrom}

-- the state after more commits is the state after these, from the state after the first
abbrev pub GoesOn : Type 0
GoesOn = (catalog : List Fields) (base : ℕ) (st : State) (h more : List Done)
    → now catalog base st (h ++ more) ≡ now catalog base (now catalog base st h) more

-- the graph after a history is the one that its entries make of the first, one after another
abbrev pub GraphIsFold : Type 0
GraphIsFold = (catalog : List Fields) (base : ℕ) (st : State) (h : List Done)
    → (now catalog base st h).graph ≡ graph_after st.graph (entries_of catalog base st h)

-- a history with more commits is lawful where it is, and the further ones are from the state after it
abbrev pub LawfulParts : Type 0
LawfulParts = (catalog : List Fields) (base pages : ℕ) (st : State) (h more : List Done)
    → AreLawful catalog base pages st (h ++ more)
    ↔ (AreLawful catalog base pages st h × AreLawful catalog base pages (now catalog base st h) more)

-- over an origin that opens to nothing each history is lawful
abbrev pub LooseIsLawful : Type 0
LooseIsLawful = (base pages : ℕ) (o : Origin) (h : List Done)
    → ((st : State) → Opens base pages o st → ⊥) → LawfulFrom base pages o h
