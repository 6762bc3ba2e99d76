use Rattle.std.proofs.Common.{slice_get}
use Rattle.pm3_types.specs.Layout.{size_by}
use Rattle.pm3_txn.specs.States.{told_in}
use Rattle.pm3_txn.proofs.Made.{placed_first, placed_then}
use Rattle.pm3_txn.proofs.transaction.Txn.place_new.Goals as goal

pub returns-in-Some-clause-placed : goal.returns-in-Some-clause-placed
returns-in-Some-clause-placed g c = placed_first c.args.self.now c.args.ty c.args.tail (size_by (slice_get (told_in c.args.self.now).opening.catalog c.args.ty) c.args.tail) c.args.name c.place_here.new.self c.in-Some.at c.requires.space c.in-Some.ensures.placed

pub returns-clause-placed : goal.returns-clause-placed
returns-clause-placed g c = placed_then c.args.self.now c.args.ty c.args.tail (size_by (slice_get (told_in c.args.self.now).opening.catalog c.args.ty) c.args.tail) c.args.name c.place_here.new.self c.make_room.new.self c.place_here-2.new.self c.in-Some-place_here.at
    c.in_default.ensures.placed.0 c.in_default.ensures.placed.1 c.in_default-make_room.ensures.made c.in-Some-place_here.ensures.placed
