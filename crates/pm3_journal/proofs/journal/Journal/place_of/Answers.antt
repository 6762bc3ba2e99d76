use Rattle.std.proofs.Common.{rules, ◌≡◌, Some, None, slice_index_or, arith}
use Rattle.pm3_journal.proofs.journal.Journal.place_of.Goals as goal

pub overflow_add-result : goal.overflow_add-result
overflow_add-result g c =
    let here : slice_index_or c.self.inside.offsets.items c.args.page None ≡ Some c.in-Some-Some.place = search rules in
    omega (arith, c.self.invariant.2 c.args.page c.in-Some-Some.place here, c.requires)
