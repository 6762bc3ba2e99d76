use Rattle.std.proofs.Common.{arith}
use Rattle.pm3_journal.proofs.Entering.{numbers_end}
use Rattle.pm3_journal.proofs.summary.summarize.Goals as goal

pub returns : goal.returns
returns c =
    let pages_are = numbers_end c.args.entry.now.pages.items c.loop-i.i c.loop-i.numbers.items (omega (arith, c.len-i-end.ensures)) c.loop-i.invariant.so_far in
    λ i. record { seq = c.args.seq; next_name = c.args.entry.now.next_name; tag = c.args.entry.now.tag; high_page = c.args.entry.now.high_page; pins = c.args.entry.now.pins; moved = c.args.entry.now.moved; pages = pages_are i }
