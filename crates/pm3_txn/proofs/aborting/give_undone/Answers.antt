use Rattle.std.proofs.Common.{subst}
use Rattle.pm3_txn.specs.Aborting.{IsSpaceOwed}
use Rattle.pm3_txn.proofs.Returned.{all_bare, space_still, still_owed}
use Rattle.pm3_txn.proofs.aborting.give_undone.Goals as goal

pub give_all-requires-2-clause-owed : goal.give_all-requires-2-clause-owed
give_all-requires-2-clause-owed g c =
    still_owed c.args.heap.now c.args.mutator c.give_all.new.mutator c.args.undone.pages.images c.args.undone.written.images c.give_all.ensures.given c.give_all.ensures.gone c.give_all.ensures.others
    c.requires.apart c.requires.written

pub give_space-requires-clause-owed : goal.give_space-requires-clause-owed
give_space-requires-clause-owed g c =
    subst (IsSpaceOwed c.args.heap.now.1 c.give_all-2.new.mutator.pass.1 c.give_all-2.new.mutator.space) c.in-Some.is
    (space_still c.args.heap.now c.args.mutator c.give_all.new.mutator c.args.undone.pages.images c.args.undone.written.images c.give_all.ensures.given c.give_all.ensures.gone c.give_all.ensures.others
    c.args.undone.space c.give_all-2.new.mutator c.give_all-2.ensures.given c.give_all-2.ensures.gone c.give_all-2.ensures.others c.requires.all c.requires.pages c.requires.written c.requires.space)

pub returns-clause-bare : goal.returns-clause-bare
returns-clause-bare g c =
    all_bare c.args.heap.now c.args.mutator c.give_all.new.mutator c.args.undone.pages.images c.args.undone.written.images c.give_all.ensures.given c.give_all.ensures.gone c.give_all.ensures.others
    c.args.undone.space c.give_all-2.new.mutator c.give_all-2.ensures.given c.give_all-2.ensures.gone c.give_all-2.ensures.others c.requires.all c.give_space.new.self c.give_space.ensures.given
