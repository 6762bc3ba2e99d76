-- What the next name and the high page bound.
use Rattle.std.specs.Prelude.{ℕ, ◌≡◌, ◌⊎◌, ◌+◌, ◌<◌, true, List, Some, slice_index}
use Rattle.std.specs.FinMap.{get}
use Rattle.pm3_types.specs.Fields.{Fields}
use Rattle.pm3_types.specs.Layout.{Sheet, is_start, page_in}
use Rattle.pm3_types.specs.PageForm.{IsReferenceIn, map_at, tail_at}
use Rattle.pm3_history.specs.Chronicled.{Chronicled}
use Rattle.pm3_history.specs.Entry.{Done}
use Rattle.pm3_history.specs.Lawful.{AreLawful}
use Rattle.pm3_history.specs.Opens.{Origin, Opens}
use Rattle.pm3_history.specs.Persistent.{persistent_book}
use Rattle.pm3_history.specs.State.{State, now}

-- all objects have names below the next name, and the persistent ones and all to which their pages refer lie below the high page
pub record IsBounded (catalog : List Fields) (base : ℕ) (st : State) : Type 0 where
  pub names : (a n : ℕ) → get st.book a ≡ Some n → n < st.next_name
  pub pages : (a n : ℕ) → get (persistent_book base st) a ≡ Some n → page_in base a < st.high_page
  pub references : (a n s k : ℕ) (sheet : Sheet) → get (persistent_book base st) a ≡ Some n → get st.pages (page_in base a) ≡ Some sheet → is_start sheet s ≡ true
      → IsReferenceIn (map_at catalog sheet s) (tail_at sheet s) k
      → (slice_index sheet.words (s + 2 + k) ≡ 0) ⊎ (page_in base (slice_index sheet.words (s + 2 + k)) < st.high_page)

-- so it is at each opening
abbrev pub OpeningsAreBounded : Type 0
OpeningsAreBounded = (base pages : ℕ) (o : Origin) (st : State) → Opens base pages o st → IsBounded o.catalog base st

-- and after each lawful history
abbrev pub HistoriesAreBounded : Type 0
HistoriesAreBounded = (catalog : List Fields) (base pages : ℕ) (st : State) (h : List Done)
    → Chronicled catalog base st → AreLawful catalog base pages st h → IsBounded catalog base st → IsBounded catalog base (now catalog base st h)
