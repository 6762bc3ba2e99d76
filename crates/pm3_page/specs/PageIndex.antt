-- The index of a page's image, by tables.
use Rattle.std.specs.Prelude.{◌≡◌, ℕ, ◌<◌, ◌≤◌, ◌⊎◌, List, length, slice_index, nat_lt}
use Rattle.std.specs.FinSet as set
use Rattle.pm3_page.specs.Bits.{has_bit, pages_of}
use Rattle.pm3_page.specs.PageMap.{slot_of}

-- slots lead from a page to an index, and homes from an index to its page
pub record IsIndex (slots homes words : List ℕ) : Type 0 where
  pub home : (i : ℕ) → i < length homes → slot_of slots (slice_index homes i) ≡ i
  pub own : (page : ℕ) → slot_of slots page < length homes → slice_index homes (slot_of slots page) ≡ page
  pub within : (page : ℕ) → (slot_of slots page < length homes) ⊎ (slot_of slots page ≡ 65535)
  pub marked : (page : ℕ) → has_bit words page ≡ nat_lt (slot_of slots page) (length homes)
  pub count : length homes ≡ set.len (pages_of words)
  pub long : length slots ≤ 16384
  pub short : length words ≤ 256

-- the tables have a place for each page
pub record IsReady (slots words : List ℕ) : Type 0 where
  pub slots_made : length slots ≡ 16384
  pub words_made : length words ≡ 256
