use Rattle.pm3_txn.proofs.Storing.{put_well, put_refused}
use Rattle.pm3_txn.proofs.mutator.Mutator.put.Goals as goal

pub returns-in-Err-clause-cleared : goal.returns-in-Err-clause-cleared
returns-in-Err-clause-cleared g c =
    (put_refused c.args.heap.now.1.pages c.args.self.now c.store.new.self c.check.new.self c.store-in-Err.new.self c.set_tag.new.self c.args.j c.args.word c.in-Err.busy
    c.store.ensures c.in-Err.ensures.busy c.check.ensures.rest c.store-in-Err.ensures c.set_tag.ensures).0

pub returns-clause-pinned : goal.returns-clause-pinned
returns-clause-pinned g c =
    (put_well c.args.heap.now.1.pages c.args.self.now c.store.new.self c.check.new.self c.set_tag-2.new.self c.args.j c.args.word c.args.is_ref
    c.store.ensures c.in_default.ensures.stands c.check.ensures.rest c.set_tag-2.ensures).pinned
