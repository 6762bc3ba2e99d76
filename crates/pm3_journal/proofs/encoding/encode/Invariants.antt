use Rattle.std.proofs.Common.{◌≡◌, ◌+◌, ◌*◌, ◌≤◌, ◌++◌, map, length, drop, vec_len, vec_capacity}
use Rattle.pm3_journal.specs.Entered.{record_of}
use Rattle.pm3_journal.specs.Format.{body, parts_bytes}
use Rattle.pm3_journal.specs.Summaries.{part_of}
use Rattle.pm3_journal.proofs.encoding.encode.Given as goal

abbrev pub invariant-loop-i : goal.invariant-loop-i
invariant-loop-i l = record {
  so_far : l.buffer.items ++ parts_bytes (map part_of (drop l.i l.entry.pages.items)) ≡ body (record_of l.fn.seq l.entry);
  len : vec_len l.buffer ≡ 47 + 4104 * l.i;
  room : 55 + 4104 * length l.entry.pages.items ≤ vec_capacity l.buffer;
  capacity : vec_capacity l.fn.buffer ≤ vec_capacity l.buffer;
}
