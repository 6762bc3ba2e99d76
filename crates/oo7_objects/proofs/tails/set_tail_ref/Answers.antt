use Rattle.pm3_types.specs.declared.places.Place.TheVariants as places
use Rattle.pm3_access.specs.declared.places.Place.TheVariants.{Tail}
use Rattle.oo7_objects.proofs.Excluding.{item_spot, store_refused}
use Rattle.oo7_objects.proofs.Writing.{item_sets}
use Rattle.oo7_objects.proofs.tails.set_tail_ref.Goals as goal

pub returns-clause-made : goal.returns-clause-made
returns-clause-made g c = (item_sets g.D.Reader.Reader.content c.args.txn.now c.stand.ensures.underway c.stand.ensures.frame c.requires.classes c.set_tail_ref.new.self c.set_tail_ref.ensures.heap c.args.i c.args.at c.args.k c.requires.tagged c.in_default.ensures.written).made

pub returns-clause-row : goal.returns-clause-row
returns-clause-row g c = (item_sets g.D.Reader.Reader.content c.args.txn.now c.stand.ensures.underway c.stand.ensures.frame c.requires.classes c.set_tail_ref.new.self c.set_tail_ref.ensures.heap c.args.i c.args.at c.args.k c.requires.tagged c.in_default.ensures.written).row 0 0

pub returns-in-Err-clause-kept : goal.returns-in-Err-clause-kept
returns-in-Err-clause-kept g c = (store_refused c.stand.ensures.frame g.D.Reader.Reader.content c.args.txn.now c.set_tail_ref.new.self c.set_tail_ref.ensures.heap c.stand.ensures.underway c.stand-in-Err.ensures.underway c.requires.classes g.D.Reader.Reader.faults c.args.i c.args.k (Tail c.args.at) (places.TailRef c.args.at) c.in-Err.fault (item_spot c.args.at) c.requires.there c.requires.tagged c.in-Err.ensures.refused).kept

pub returns-in-Err-clause-row : goal.returns-in-Err-clause-row
returns-in-Err-clause-row g c = (store_refused c.stand.ensures.frame g.D.Reader.Reader.content c.args.txn.now c.set_tail_ref.new.self c.set_tail_ref.ensures.heap c.stand.ensures.underway c.stand-in-Err.ensures.underway c.requires.classes g.D.Reader.Reader.faults c.args.i c.args.k (Tail c.args.at) (places.TailRef c.args.at) c.in-Err.fault (item_spot c.args.at) c.requires.there c.requires.tagged c.in-Err.ensures.refused).row

pub returns-in-Err-clause-refused : goal.returns-in-Err-clause-refused
returns-in-Err-clause-refused g c = (store_refused c.stand.ensures.frame g.D.Reader.Reader.content c.args.txn.now c.set_tail_ref.new.self c.set_tail_ref.ensures.heap c.stand.ensures.underway c.stand-in-Err.ensures.underway c.requires.classes g.D.Reader.Reader.faults c.args.i c.args.k (Tail c.args.at) (places.TailRef c.args.at) c.in-Err.fault (item_spot c.args.at) c.requires.there c.requires.tagged c.in-Err.ensures.refused).refused
