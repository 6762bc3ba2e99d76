-- How a heap starts.
use Rattle.std.specs.Prelude.{ℕ, ◌≡◌, ◌+◌, ◌-◌, ◌≤◌, true, false, nat_lt, if◌then◌else◌, List, Option, Some, None, option_map, replicate, slice_set, slice_index_or}
use Rattle.std.specs.FinMap as map
use Rattle.std.specs.FinSet as set
use Rattle.atomic_table.specs.Seated.{TableId}
use Rattle.pm3_disk.specs.declared.outside.Disk.{Ghosts}
use Rattle.pm3_page.specs.PageMap.{Images}
use Rattle.pm3_page.specs.PageSheets.{sheets_of}
use Rattle.pm3_access.specs.Holding.{SpaceState}
use Rattle.pm3_journal.specs.declared.opened.Opened.{Opened}
use Rattle.pm3_table.specs.declared.view.Told.{Told}
use Rattle.pm3_table.specs.Entries.{images_refer}
use Rattle.pm3_table.specs.Starting.{first_view}
use Rattle.pm3_txn.specs.declared.values.Turn.{Turn as Turns}
use Rattle.pm3_txn.specs.declared.values.Value.{Value}
use Rattle.pm3_txn.specs.declared.values.Value.TheVariants.{Page, Space, Turn}
use Rattle.pm3_txn.specs.Frontiers.{IsTop}
use Rattle.pm3_txn.specs.States.{MutatorState}
use Rattle.pm3_txn.specs.Values.{origin_of}

-- What a heap tells of the store that was opened. Its frontier is the greatest of the high page and of one above each page that
-- the opened images have or name.
pub record IsStarted {D R : Type 0} (g : Ghosts D R) (opened : Opened D R) (told : Told) : Type 0 where
  pub pages : told.pages ≡ opened.marks.pages
  pub next_name : told.next_name ≡ opened.marks.next_name
  pub opening : told.opening ≡ origin_of g opened
  pub frontier : IsTop (λ p. images_refer opened.catalog (sheets_of opened.images.images) p ≡ true) opened.marks.high_page told.frontier

-- the first mutator of a table: it has seen so many faults, has an empty row, and notes no name
abbrev pub first_mutator : {R : Type 0} → TableId → ℕ → R → MutatorState R
first_mutator table faults reader =
    record { pass = (table, first_view faults); space = 0; reader = reader; refs = replicate 512 true; wrote = replicate 512 false; next_name = 0 }

-- the values with which the units of a table start: the opened images, spaces without pages, and the turn's
abbrev pub blank_space : ℕ → SpaceState
blank_space number = record { number = number; images = map.empty; free = set.empty; room = 0; current = None }

abbrev pub page_home : {D R : Type 0} → Images → ℕ → Option (Value D R)
page_home images page = option_map Page (map.get images page)

abbrev pub space_over : {D R : Type 0} → ℕ → (ℕ → Option (Value D R)) → ℕ → Option (Value D R)
space_over pages value u = if nat_lt u pages then value u else Some (Space (blank_space (u - pages)))

abbrev pub first_home : {D R : Type 0} → ℕ → Images → Turns D R → ℕ → Option (Value D R)
first_home pages images turn u = if nat_lt u (pages + 32) then space_over pages (page_home images) u else Some (Turn turn)

-- the homes of the first n units have these values, and the others have none
abbrev pub IsFilled : {V : Type 0} → List (Option V) → (ℕ → Option V) → ℕ → Type 0
IsFilled homes value n = (u : ℕ) → slice_index_or homes u None ≡ (if nat_lt u n then value u else None)

-- a value put into a home, or none
abbrev pub with_home : {V : Type 0} → List (Option V) → ℕ → Option V → List (Option V)
with_home homes u None = homes
with_home homes u (Some x) = slice_set homes u (Some x)

-- the homes have no values from this number on
abbrev pub AreEmptyFrom : {V : Type 0} → List (Option V) → ℕ → Type 0
AreEmptyFrom homes n = (u : ℕ) → n ≤ u → slice_index_or homes u None ≡ None

-- spaces without pages come behind the homes of the pages
abbrev pub GetSpaces : {D R : Type 0} → ℕ → List (Option (Value D R)) → List (Option (Value D R)) → ℕ → Type 0
GetSpaces {D} {R} pages old new n = (value : ℕ → Option (Value D R)) → IsFilled old value pages → IsFilled new (space_over pages value) (pages + n)
