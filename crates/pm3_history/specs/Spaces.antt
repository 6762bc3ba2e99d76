-- What stands in the spaces after commits of others.
use Rattle.std.specs.Prelude.{ℕ, ◌≡◌, ◌↔◌, List, [], ◌∷◌, Contains, Option, Some, None}
use Rattle.std.specs.FinMap.{get}
use Rattle.pm3_types.specs.Fields.{Fields}
use Rattle.pm3_types.specs.Layout.{Sheet, page_in}
use Rattle.pm3_types.specs.Shown.{Images}
use Rattle.pm3_history.specs.Chronicled.{Chronicled}
use Rattle.pm3_history.specs.Entry.{Pass, Done, Entry}
use Rattle.pm3_history.specs.Lawful.{IsLawful, AreLawful, book_for}
use Rattle.pm3_history.specs.Named.{next_book}
use Rattle.pm3_history.specs.LastImages.{last_written}
use Rattle.pm3_history.specs.Persistent.{persistent_book}
use Rattle.pm3_history.specs.State.{State, all_images, step, entry_after, now}

-- these are the last images of the space
abbrev pub AreOfSpace : State → ℕ → Images → Type 0
AreOfSpace st space images = (page : ℕ) (sheet : Sheet)
    → ((get st.owner page ≡ Some space) × (get st.volatile page ≡ Some sheet)) ↔ (get images page ≡ Some sheet)

-- the pass is one of this space
abbrev pub NamesSpace : Option Pass → ℕ → Type 0
NamesSpace None space = ⊥
NamesSpace (Some p) space = p.space ≡ space

-- a space keeps its images where an entry has no pass of it
abbrev pub SpacesStand : Type 0
SpacesStand = (catalog : List Fields) (base pages : ℕ) (st : State) (e : Entry) (space : ℕ) (images : Images)
    → Chronicled catalog base st → IsLawful catalog base pages st e → (NamesSpace e.pass space → ⊥)
    → AreOfSpace st space images → AreOfSpace (step base st e) space images

-- and else has those that the pass leaves
abbrev pub SpacesAreLeft : Type 0
SpacesAreLeft = (catalog : List Fields) (base pages : ℕ) (st : State) (e : Entry) (p : Pass)
    → Chronicled catalog base st → IsLawful catalog base pages st e → e.pass ≡ Some p → AreOfSpace (step base st e) p.space p.after

-- no commit has a pass of this space
abbrev pub NoneOfSpace : List Done → ℕ → Type 0
NoneOfSpace [] space = Unit {0}
NoneOfSpace (d ∷ ds) space = (NamesSpace d.pass space → ⊥) × NoneOfSpace ds space

-- its pages then stay its own, with the images and the objects that they had
abbrev pub SpacesStay : Type 0
SpacesStay = (catalog : List Fields) (base pages : ℕ) (st : State) (h : List Done) (space page : ℕ)
    → Chronicled catalog base st → AreLawful catalog base pages st h → NoneOfSpace h space → get st.owner page ≡ Some space
    → let after = now catalog base st h in
    (get after.owner page ≡ Some space) × (get (all_images after) page ≡ get (all_images st) page)
    × ((a n : ℕ) → page_in base a ≡ page → get st.book a ≡ Some n → get after.book a ≡ Some n)

-- a persistent object came to lie on its page by a commit that wrote that
abbrev pub PersistentAreWritten : Type 0
PersistentAreWritten = (catalog : List Fields) (base pages : ℕ) (st : State) (h : List Done) (a n : ℕ)
    → Chronicled catalog base st → AreLawful catalog base pages st h → last_written h (page_in base a) ≡ None
    → get (persistent_book base (now catalog base st h)) a ≡ Some n → get (persistent_book base st) a ≡ Some n

-- no object of this page moves in the pass, and none is dead after it
abbrev pub Spares : ℕ → State → Entry → ℕ → Option Pass → Type 0
Spares base st e page None = Unit {0}
Spares base st e page (Some p) = (a n : ℕ) → page_in base a ≡ page → get (book_for base st e) a ≡ Some n
    → ((to : ℕ) → Contains p.moves (record { name = n; from = a; to = to }) → ⊥)
    × (((b : ℕ) → get (next_book base st.book e.written (Some p)) b ≡ Some n → ⊥) → ⊥)

abbrev pub EachSpares : List Fields → ℕ → State → ℕ → List Done → Type 0
EachSpares catalog base st page [] = Unit {0}
EachSpares catalog base st page (d ∷ ds) =
    Spares base st (entry_after catalog base st d) page d.pass × EachSpares catalog base (step base st (entry_after catalog base st d)) page ds

-- an object, also one of a space, keeps its address and its name where no pass moves or loses an object of its page
abbrev pub KnownStay : Type 0
KnownStay = (catalog : List Fields) (base pages : ℕ) (st : State) (h : List Done) (a n : ℕ)
    → Chronicled catalog base st → AreLawful catalog base pages st h → EachSpares catalog base st (page_in base a) h
    → get st.book a ≡ Some n → get (now catalog base st h).book a ≡ Some n
