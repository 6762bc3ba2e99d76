-- The list of records of a journal.
use Rattle.std.specs.Prelude.{◌≡◌, ℕ, suc, zero, ◌+◌, ◌≤◌, List, [], ◌∷◌, length, take, Option, Some, None}
use Rattle.pm3_journal.specs.Format.{JournalRecord, record_size}
use Rattle.pm3_journal.specs.FileHead.{head_departure, page_count_of}
use Rattle.pm3_journal.specs.Reading.{State, at_start, next, Reading, Ends, Broken, Found, record_at}

-- the records, or the offset of the first field that is damaged
pub data Listed : Type 0 where
  Damaged : ℕ → Listed
  Whole : List JournalRecord → Listed

abbrev pub before_list : JournalRecord → Listed → Listed
before_list r (Damaged place) = Damaged place
before_list r (Whole rs) = Whole (r ∷ rs)

-- what is read at an offset, before the list behind it
abbrev pub with_reading : Reading → (JournalRecord → Listed) → Listed
with_reading Ends behind = Whole []
with_reading (Broken place) behind = Damaged place
with_reading (Found r) behind = before_list r (behind r)

-- the list from an offset on, of at most so many records
abbrev pub records_from : ℕ → State → ℕ → List ℕ → Listed
records_from zero s at bytes = Whole []
records_from (suc most) s at bytes = with_reading (record_at s at bytes) (λ r. records_from most (next s r) (at + record_size r) bytes)

abbrev pub with_head : Option ℕ → Listed → Listed
with_head (Some field) list = Damaged field
with_head None list = list

-- What the bytes of a journal say: the longest list of records that stand one behind the other from byte 32 on. What
-- follows is unread.
unfoldable pub records : List ℕ → Listed
records bytes = with_head (head_departure (take 32 bytes)) (records_from (length bytes) (at_start (page_count_of (take 32 bytes))) 32 bytes)

-- the state behind these records
abbrev pub after : State → List JournalRecord → State
after s [] = s
after s (r ∷ rs) = after (next s r) rs

-- these records stand one behind the other from one offset to another
abbrev pub Stand : State → ℕ → List ℕ → List JournalRecord → ℕ → Type 0
Stand s at bytes [] end = at ≡ end
Stand s at bytes (r ∷ rs) end = (record_at s at bytes ≡ Found r) × Stand (next s r) (at + record_size r) bytes rs end

-- a head for so many pages, and behind it these records up to an offset
pub record HasFront (pages : ℕ) (rs : List JournalRecord) (end : ℕ) (bytes : List ℕ) : Type 0 where
  pub head : head_departure (take 32 bytes) ≡ None
  pub page_count : page_count_of (take 32 bytes) ≡ pages
  pub stand : Stand (at_start pages) 32 bytes rs end
  pub within : end ≤ length bytes
