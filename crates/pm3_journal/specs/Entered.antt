-- The record of an entry.
use Rattle.std.specs.Prelude.{ℕ, map}
use Rattle.pm3_journal.specs.Format.{JournalRecord}
use Rattle.pm3_journal.specs.Summaries.{part_of}
use Rattle.pm3_journal.specs.declared.entry.Entry.{Entry}

-- an entry with its sequence number
abbrev pub record_of : ℕ → Entry → JournalRecord
record_of seq entry = record {
  seq = seq;
  next_name = entry.next_name;
  tag = entry.tag;
  high_page = entry.high_page;
  pins = entry.pins;
  moved = entry.moved;
  parts = map part_of entry.pages.items;
}
