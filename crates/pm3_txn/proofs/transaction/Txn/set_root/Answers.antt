use Rattle.std.proofs.Common.{◌≡◌, ◌∙◌, true, false, Bool, List, slice_index_or, rules, ap, subst}
use Rattle.pm3_txn.specs.Underway.{IsUnderway}
use Rattle.pm3_txn.proofs.RootSteps.{root_stored_from}
use Rattle.pm3_txn.proofs.RowReads.{word_known}
use Rattle.pm3_txn.proofs.transaction.Txn.set_root.Goals as goal

pub returns-clause-written : goal.returns-clause-written
returns-clause-written g c =
    root_stored_from c.args.self.now c.touch_roots.new.self c.row_word-at.new.self c.store_root.new.self c.args.slot c.args.i c.row_word-at.result
    c.in_default.ensures.touched c.row_word-at.ensures.read c.row_word-at.ensures.word c.store_root.ensures.stored

pub store_root-requires-clause-known : goal.store_root-requires-clause-known
store_root-requires-clause-known g c =
    let tagged : slice_index_or c.args.self.now.mutator.refs c.args.i false ≡ true = (search rules) in
    word_known g.D.Reader.Reader.content c.touch_roots.new.self c.row_word-at.new.self c.args.i c.row_word-at.result c.row_word-at.ensures.read
    (subst (IsUnderway g.D.Reader.Reader.content) c.self.view_is c.self.invariant)
    (ap (λ (refs : List Bool). slice_index_or refs c.args.i false) c.in_default.ensures.touched.same.refs ∙ tagged) c.row_word-at.ensures.word
