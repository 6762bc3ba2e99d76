-- What clauses see of a journal, and its next states.
use Rattle.std.specs.Prelude.{◌≡◌, ℕ, ◌+◌, ◌≤◌, Bool, true, false, List, [], ◌∷◌, ◌++◌, Option, Some, None}
use Rattle.std.specs.Option.{option_or}
use Rattle.pm3_journal.specs.Format.{JournalRecord, record_size}
use Rattle.pm3_journal.specs.Summaries.{Summary, summary_of}
use Rattle.pm3_journal.specs.Reading.{next_seq}

pub record JournalState (D : Type 0) : Type 0 where
  pub disk : D
  pub pages : ℕ  -- the page count
  pub summaries : List Summary  -- its records, but for their images
  pub end : ℕ  -- the offset of the gate behind the list
  pub next : ℕ  -- the sequence number that is due
  pub is_closed : Bool  -- that gate is there and closed
  pub stopped : Option ℕ  -- the number that was due when a call failed
  pub is_torn : Bool  -- a closing of the first gate failed, which may be open or closed since
  pub failed : Option JournalRecord  -- the record whose append failed, which the disk may have
  pub since : ℕ  -- the moment from which on the journal's records are kept
  pub room : Option ℕ  -- how many pages the next record may have without taking memory
  pub images : List (ℕ × List ℕ)  -- the last images in the records that were recovered, until they are taken
  pub offsets : List (Option ℕ)  -- by page number, where these images stand

-- the journal with one record more, over its disk as it is then
abbrev pub grown : {D : Type 0} → JournalRecord → D → JournalState D → JournalState D
grown r disk j = record j {
  disk = disk;
  summaries = j.summaries ++ summary_of r ∷ [];
  end = j.end + record_size r;
  next = next_seq j.next;
  is_closed = true;
  room = None;
}

-- the journal after the append of this record failed, stopped at the number that was due
abbrev pub halted : {D : Type 0} → JournalRecord → D → JournalState D → JournalState D
halted r disk j = record j { disk = disk; stopped = Some j.next; failed = Some r }

-- The journal after its first gate was closed at this moment. One that was stopped stays so, and no record is left that
-- it may have.
abbrev pub emptied : {D : Type 0} → ℕ → D → JournalState D → JournalState D
emptied now disk j = record j {
  disk = disk;
  summaries = [];
  end = 32;
  is_closed = true;
  is_torn = false;
  failed = None;
  since = now;
}

-- the journal after a closing that failed, stopped at the number that was due, or at an earlier one
abbrev pub torn : {D : Type 0} → D → JournalState D → JournalState D
torn disk j = record j { disk = disk; stopped = option_or j.stopped (Some j.next); is_torn = true }

-- a record of so many pages takes no memory
abbrev pub HasRoom : Option ℕ → ℕ → Type 0
HasRoom room count = (most : ℕ) × (room ≡ Some most) × (count ≤ most)
