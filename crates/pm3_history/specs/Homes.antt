-- Pages that stay persistent, and what one who holds them may rely on while others commit.
use Rattle.std.specs.Prelude.{ℕ, ◌≡◌, ◌⊎◌, true, List, Some, None, is_some}
use Rattle.std.specs.FinMap.{get}
use Rattle.pm3_types.specs.Fields.{Fields}
use Rattle.pm3_types.specs.Layout.{page_in}
use Rattle.pm3_types.specs.Shown.{Images, FitsImages, shown}
use Rattle.pm3_history.specs.Chronicled.{Chronicled}
use Rattle.pm3_history.specs.Entry.{Done}
use Rattle.pm3_history.specs.LastImages.{last_written}
use Rattle.pm3_history.specs.Lawful.{AreLawful}
use Rattle.pm3_history.specs.Persistent.{persistent_book}
use Rattle.pm3_history.specs.State.{State, all_images, now}

-- the page of the roots, or one with a persistent object
abbrev pub IsHome : ℕ → State → ℕ → Type 0
IsHome base st page = (page ≡ 2) ⊎ ((a : ℕ) × (n : ℕ) × (page_in base a ≡ page) × (get (persistent_book base st) a ≡ Some n))

-- such a page stays one, and belongs to no space
abbrev pub HomesStay : Type 0
HomesStay = (catalog : List Fields) (base pages : ℕ) (st : State) (h : List Done) (page : ℕ)
    → Chronicled catalog base st → AreLawful catalog base pages st h → IsHome base st page
    → IsHome base (now catalog base st h) page × (get (now catalog base st h).owner page ≡ None)

-- and keeps its last image where no commit wrote it
abbrev pub HomesStand : Type 0
HomesStand = (catalog : List Fields) (base pages : ℕ) (st : State) (h : List Done) (page : ℕ)
    → Chronicled catalog base st → AreLawful catalog base pages st h → IsHome base st page → last_written h page ≡ None
    → get (all_images (now catalog base st h)) page ≡ get (all_images st) page

-- Images of such pages, which the book of the persistent objects fits, show after each history what they showed before it: the
-- names in what a transaction holds don't change while others commit.
abbrev pub HeldShowsOn : Type 0
HeldShowsOn = (catalog : List Fields) (base pages : ℕ) (st : State) (h : List Done) (held : Images)
    → Chronicled catalog base st → AreLawful catalog base pages st h → FitsImages catalog base (persistent_book base st) held
    → ((page : ℕ) → is_some (get held page) ≡ true → IsHome base st page)
    → (shown catalog base (now catalog base st h).book held ≡ shown catalog base st.book held)
    × FitsImages catalog base (persistent_book base (now catalog base st h)) held
