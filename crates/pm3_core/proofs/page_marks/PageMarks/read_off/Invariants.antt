use Rattle.std.proofs.Common.{◌≡◌, length}
use Rattle.pm3_core.specs.Listed.{with_read}
use Rattle.pm3_core.proofs.Listing.{IsReadTo}
use Rattle.pm3_core.proofs.page_marks.PageMarks.read_off.Given as goal

-- the fields of the open value come in their order: readings, listed, seats
abbrev pub invariant-loop-page : goal.invariant-loop-page
invariant-loop-page l = record {
  wide : length l.self-inside.1.0.items ≡ length l.initial.self-inside.1.0.items;
  listed : l.self-inside.1.1.0 ≡ l.initial.self-inside.1.1.0;
  seats : l.self-inside.1.1.1.0 ≡ l.initial.self-inside.1.1.1.0;
  to : IsReadTo l.initial.self-inside.1.0.items l.initial.self-inside.1.1.1.0.items l.page-index (with_read l.who l.place l.named) l.self-inside.1.0.items;
}
