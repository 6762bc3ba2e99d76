use Rattle.std.proofs.Common.{rules}
use Rattle.oo7_objects.proofs.Spotting.{spot_named}
use Rattle.oo7_objects.proofs.Stays.{read_stayed, stayed_kept, stayed_row}
use Rattle.oo7_objects.proofs.spots.spot_of.Goals as goal

pub returns-clause-told : goal.returns-clause-told
returns-clause-told g c = spot_named g.D.Reader.Reader.content c.args.txn.now c.stand.ensures.underway c.stack_word-at.new.self c.args.i c.spot_at.result.page c.spot_at.result.word c.stack_word-at.ensures.read (search rules)
    (stayed_kept c.args.txn.now c.stack_word-at.new.self c.stack_word-at.ensures.heap (read_stayed c.args.txn.now c.stack_word-at.new.self c.args.i c.stack_word-at.ensures.read)) c.requires.some

pub returns-clause-kept : goal.returns-clause-kept
returns-clause-kept g c = stayed_kept c.args.txn.now c.stack_word-at.new.self c.stack_word-at.ensures.heap (read_stayed c.args.txn.now c.stack_word-at.new.self c.args.i c.stack_word-at.ensures.read)

pub returns-clause-row : goal.returns-clause-row
returns-clause-row g c = stayed_row g.D.Reader.Reader.content c.args.txn.now c.stack_word-at.new.self c.stack_word-at.ensures.heap c.stand.ensures.underway (read_stayed c.args.txn.now c.stack_word-at.new.self c.args.i c.stack_word-at.ensures.read) 0 0
