use Rattle.std.proofs.Common.{slice_index_or, false}
use Rattle.pm3_txn.specs.Refusals.{word_at}
use Rattle.oo7_objects.proofs.Moves.{kept_by}
use Rattle.oo7_objects.proofs.Rows.{placed_row, refused_row}
use Rattle.oo7_objects.proofs.Turning.{copied_name, copied_tag, refused_tag}
use Rattle.oo7_objects.proofs.places.copy.Goals as goal

pub returns-clause-led : goal.returns-clause-led
returns-clause-led g c = λ st opens. copied_name g.D.Reader.Reader.content c.args.txn.now c.stand.ensures.underway c.copy.new.self c.args.i c.args.j c.requires.low.1 c.requires.tagged c.in_default.ensures.placed st

pub returns-clause-tag : goal.returns-clause-tag
returns-clause-tag g c = copied_tag g.D.Reader.Reader.content c.args.txn.now c.stand.ensures.underway c.copy.new.self c.args.i c.args.j c.requires.low.1 c.requires.tagged c.in_default.ensures.placed

pub returns-clause-kept : goal.returns-clause-kept
returns-clause-kept g c = kept_by c.args.txn.now c.copy.new.self c.copy.ensures.heap c.in_default.ensures.placed.goes_on

pub returns-clause-row : goal.returns-clause-row
returns-clause-row g c = placed_row c.args.txn.now c.copy.new.self c.args.j (word_at c.args.txn.now c.args.i) (slice_index_or c.args.txn.now.mutator.refs c.args.i false) c.in_default.ensures.placed

pub returns-in-Err-clause-tag : goal.returns-in-Err-clause-tag
returns-in-Err-clause-tag g c = refused_tag g.D.Reader.Reader.content c.args.txn.now c.stand.ensures.underway c.copy.new.self c.args.j (word_at c.args.txn.now c.args.i) c.in-Err.busy c.requires.low.1 c.in-Err.ensures.marked

pub returns-in-Err-clause-kept : goal.returns-in-Err-clause-kept
returns-in-Err-clause-kept g c = kept_by c.args.txn.now c.copy.new.self c.copy.ensures.heap c.in-Err.ensures.marked.goes_on

pub returns-in-Err-clause-row : goal.returns-in-Err-clause-row
returns-in-Err-clause-row g c = refused_row c.args.txn.now c.copy.new.self c.args.j (word_at c.args.txn.now c.args.i) c.in-Err.busy c.in-Err.ensures.marked
