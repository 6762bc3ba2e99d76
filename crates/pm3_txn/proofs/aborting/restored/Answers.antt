use Rattle.std.proofs.Common.{subst}
use Rattle.pm3_txn.specs.Aborting.{IsSpaceOwed}
use Rattle.pm3_txn.proofs.Restored.{all_bare, pages_owed, space_still}
use Rattle.pm3_txn.proofs.aborting.restored.Goals as goal

pub give_all-requires-clause-owed : goal.give_all-requires-clause-owed
give_all-requires-clause-owed g c = pages_owed g.D.Reader.Reader.content c.args.heap.now c.args.mutator c.clear_written.new.mutator c.args.undone.pages.images c.args.undone.space c.requires.owed c.clear_written.ensures.cleared c.clear_written.ensures.held

pub give_space-requires-clause-owed : goal.give_space-requires-clause-owed
give_space-requires-clause-owed g c =
    subst (IsSpaceOwed c.args.heap.now.1 c.give_all.new.mutator.pass.1 c.give_all.new.mutator.space) c.in-Some.is
    (space_still g.D.Reader.Reader.content c.args.heap.now c.args.mutator c.clear_written.new.mutator c.args.undone.pages.images c.args.undone.space c.requires.owed c.clear_written.ensures.cleared c.clear_written.ensures.held
    c.give_all.new.mutator c.give_all.ensures.given c.give_all.ensures.gone c.give_all.ensures.others c.requires.all c.requires.space)

pub returns-clause-bare : goal.returns-clause-bare
returns-clause-bare g c =
    all_bare g.D.Reader.Reader.content c.args.heap.now c.args.mutator c.clear_written.new.mutator c.args.undone.pages.images c.args.undone.space c.requires.owed c.clear_written.ensures.cleared c.clear_written.ensures.held
    c.give_all.new.mutator c.give_all.ensures.given c.give_all.ensures.gone c.give_all.ensures.others c.requires.all c.give_space.new.self c.give_space.ensures.given
