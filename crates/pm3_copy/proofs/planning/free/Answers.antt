use Rattle.std.proofs.Common.{◌≡◌, ◌∙◌, false, sym, subst}
use Rattle.std.specs.FinSet as set
use Rattle.pm3_copy.specs.Spreading.{Frees}
use Rattle.pm3_copy.proofs.Freeing.{frees_now}
use Rattle.pm3_copy.proofs.planning.free.Goals as goal

pub returns : goal.returns
returns c =
    let is : set.contains c.args.pinned.now c.args.page ≡ false = sym c.has.ensures ∙ c.if-has.false in
    subst (Frees c.args.pinned.now c.args.page c.args.freed.now) (sym c.in_ok-add.ensures.added) (frees_now c.args.pinned.now c.args.freed.now c.args.page is)
