-- The words of the table: the rows, a word for each unit, and three counters.
use Rattle.std.specs.Prelude.{◌≡◌, ℕ, ◌+◌, ◌*◌, ◌/◌, ◌%◌, ◌<◌, List, length, slice_index}
use Rattle.pm3_core.specs.declared.events.TheConstants.{PLACES}

-- the units are the pages, then the 32 spaces, then the turn
abbrev pub space_unit : ℕ → ℕ → ℕ
space_unit pages j = pages + j

abbrev pub turn_unit : ℕ → ℕ
turn_unit pages = pages + 32

-- where the word of a unit is, and that of a counter: pages, names, rows
abbrev pub unit_at : ℕ → ℕ
unit_at u = PLACES + u

abbrev pub counter_at : ℕ → ℕ → ℕ
counter_at pages c = PLACES + (pages + 33) + c

-- a unit's word: the lock's holder, the marker and the space, each a number plus one, or 0
abbrev pub unit_word : ℕ → ℕ → ℕ → ℕ
unit_word lock mark space = lock + 256 * mark + 65536 * space

abbrev pub mark_in : ℕ → ℕ
mark_in word = word / 256 % 256

abbrev pub space_in : ℕ → ℕ
space_in word = word / 65536 % 256

-- the words are those of the rows, of the units and of the counters
pub record Encodes (pages : ℕ) (row : ℕ → ℕ) (lock mark space counter : ℕ → ℕ) (words : List ℕ) : Type 0 where
  pub wide : length words ≡ PLACES + (pages + 33) + 3
  pub rows : (n : ℕ) → n < PLACES → slice_index words n ≡ row n
  pub units : (u : ℕ) → u < pages + 33 → slice_index words (unit_at u) ≡ unit_word (lock u) (mark u) (space u)
  pub counters : (c : ℕ) → c < 3 → slice_index words (counter_at pages c) ≡ counter c
