use Rattle.oo7_objects.specs.Wholes.{name_at}
use Rattle.oo7_objects.proofs.Knowing.{known_both, known_so}
use Rattle.oo7_index.proofs.Looking.{key_place}
use Rattle.oo7_index.proofs.entries.entry_at.Goals as goal

pub word-requires-clause-there : goal.word-requires-clause-there
word-requires-clause-there g c = known_so c.requires.there (λ st w is. key_place w (name_at c.args.txn.now st c.args.leaf) is.0.is c.args.at c.requires.low.1)

pub returns-clause-told : goal.returns-clause-told
returns-clause-told g c = known_both c.requires.there c.word.ensures.kept c.in-Ok.ensures.told (λ st w is key. record { leaf_is = is.0; here = is.1; key_is = key })
