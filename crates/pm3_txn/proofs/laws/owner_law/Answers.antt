use Rattle.pm3_txn.proofs.OwnerKnows.{new_names_are_new, others_are_bare, spaces_are_last, unnamed_have_none}
use Rattle.pm3_txn.proofs.laws.owner_law.Goals as goal

pub returns : goal.returns
returns c = record { names = new_names_are_new; bare = others_are_bare; spaces = spaces_are_last; unnamed = unnamed_have_none }
