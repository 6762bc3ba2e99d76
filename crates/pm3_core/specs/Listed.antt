-- How the list of marked pages keeps step with the marks.
use Rattle.std.specs.Prelude.{◌≡◌, ℕ, Bool, true, false, ◌<◌, ◌+◌, ◌-◌, ◌≢◌, nat_lt, ◌==◌, if◌then◌else◌, List, length, Option, Some, None, is_some, slice_index, slice_index_or, slice_set}
use Rattle.pm3_core.specs.Snapshot.{Marking}

-- each marked page stands in the list at its seat, and each listed page is marked and has its seat there
pub record IsListed (marks : List (Option Marking)) (listed seats : List ℕ) : Type 0 where
  pub wide : length seats ≡ length marks
  pub seated : (page : ℕ) → is_some (slice_index_or marks page None) ≡ true
      → slice_index seats page < length listed
  pub found : (page : ℕ) → is_some (slice_index_or marks page None) ≡ true
      → slice_index listed (slice_index seats page) ≡ page
  pub within : (i : ℕ) → i < length listed → slice_index listed i < length marks
  pub only : (i : ℕ) → i < length listed
      → is_some (slice_index_or marks (slice_index listed i) None) ≡ true
  pub back : (i : ℕ) → i < length listed → slice_index seats (slice_index listed i) ≡ i

-- the mark with a place read off, where it is this mutator's
abbrev pub joined : ℕ → ℕ → Option Marking → Option Marking
joined who n None = None
joined who n (Some marking) =
    if marking.by == who
    then Some (record { by = marking.by; read = slice_set marking.read n true })
    else Some marking

-- the page is the one that a word names
abbrev pub is_named : Option ℕ → ℕ → Bool
is_named None page = false
is_named (Some other) page = other == page

-- the mark of a page after a mutator reads off a place, whose word names some page or none
abbrev pub with_read : ℕ → ℕ → Option ℕ → ℕ → Option Marking → Option Marking
with_read who n named page mark = if is_named named page then mark else joined who n mark

-- a page is off the list: the last page has its seat, and the others have theirs
pub record Delists (listed seats listed' seats' : List ℕ) (page : ℕ) : Type 0 where
  pub length_is : length listed' + 1 ≡ length listed
  pub moved : slice_index seats page + 1 < length listed
      → slice_index listed' (slice_index seats page) ≡ slice_index listed (length listed - 1)
  pub others : (k : ℕ) → k ≢ slice_index seats page → k + 1 < length listed
      → slice_index listed' k ≡ slice_index listed k
  pub seats_are : seats'
      ≡ (if nat_lt (slice_index seats page + 1) (length listed)
      then slice_set seats (slice_index listed (length listed - 1)) (slice_index seats page)
      else seats)
