use Rattle.std.proofs.Common.{rules, ◌+◌, ◌/◌, ◌≤◌, length}
use Rattle.pm3_page.proofs.Bitmaps.{has_bit-grown}
use Rattle.std.proofs.lemmas.List.{take_all}
use Rattle.pm3_page.proofs.bits.Bits.grow.Goals as goal

pub returns-clause-same : goal.returns-clause-same
returns-clause-same c = λ q.
    let short : length c.args.self.now.words.items ≤ c.args.page / 64 + 1 = search rules in
    rw (c.in-Ok.ensures.items, take_all (c.args.page / 64 + 1) c.args.self.now.words.items short) (has_bit-grown _ _ q)
