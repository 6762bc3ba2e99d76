use Rattle.oo7_objects.proofs.Moves.{kept_by}
use Rattle.oo7_objects.proofs.Rows.{cleared_name, cleared_row}
use Rattle.oo7_objects.proofs.Turning.{cleared_tag}
use Rattle.oo7_objects.proofs.places.clear.Goals as goal

pub returns-clause-nil : goal.returns-clause-nil
returns-clause-nil g c = cleared_name c.args.txn.now c.clear.new.self c.args.j c.clear.ensures.cleared

pub returns-clause-tag : goal.returns-clause-tag
returns-clause-tag g c = cleared_tag g.D.Reader.Reader.content c.args.txn.now c.stand.ensures.underway c.clear.new.self c.args.j c.requires.low c.clear.ensures.cleared

pub returns-clause-kept : goal.returns-clause-kept
returns-clause-kept g c = kept_by c.args.txn.now c.clear.new.self c.clear.ensures.heap c.clear.ensures.cleared.goes_on

pub returns-clause-row : goal.returns-clause-row
returns-clause-row g c = cleared_row c.args.txn.now c.clear.new.self c.args.j c.clear.ensures.cleared
