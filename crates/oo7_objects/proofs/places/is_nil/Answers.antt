use Rattle.std.proofs.lemmas.Bool.{eq-eqb, eqb-true}
use Rattle.oo7_objects.proofs.Stays.{read_stayed, stayed_kept, stayed_row}
use Rattle.oo7_objects.proofs.Turning.{nil_word}
use Rattle.oo7_objects.proofs.places.is_nil.Goals as goal

pub returns-clause-nil : goal.returns-clause-nil
returns-clause-nil g c = λ st opens. (let is = nil_word g.D.Reader.Reader.content c.args.txn.now c.stand.ensures.underway c.args.k c.stack_word-word.result c.requires.tagged c.stack_word-word.ensures.word st opens in (λ test. is.0 (eqb-true c.stack_word-word.result 0 test), λ named. eq-eqb c.stack_word-word.result 0 (is.1 named)))

pub returns-clause-kept : goal.returns-clause-kept
returns-clause-kept g c = stayed_kept c.args.txn.now c.stack_word-word.new.self c.stack_word-word.ensures.heap (read_stayed c.args.txn.now c.stack_word-word.new.self c.args.k c.stack_word-word.ensures.read)

pub returns-clause-row : goal.returns-clause-row
returns-clause-row g c = stayed_row g.D.Reader.Reader.content c.args.txn.now c.stack_word-word.new.self c.stack_word-word.ensures.heap c.stand.ensures.underway (read_stayed c.args.txn.now c.stack_word-word.new.self c.args.k c.stack_word-word.ensures.read) 0 0
