use Rattle.oo7_objects.specs.Wholes.{name_at}
use Rattle.oo7_objects.proofs.Knowing.{made_tells}
use Rattle.oo7_index.proofs.Creating.{new_index}
use Rattle.oo7_index.proofs.trees.create.Goals as goal

pub returns-clause-index : goal.returns-clause-index
returns-clause-index g c = made_tells c.in_default.ensures.made (λ st v w new. new_index w v (name_at c.make.new.txn st c.args.tree) new)
