use Rattle.std.proofs.Common.{◌≡◌, ◌∙◌, inr, true, false, Bool, List, slice_index_or, rules, ap, subst}
use Rattle.pm3_txn.specs.Underway.{IsUnderway}
use Rattle.pm3_txn.proofs.PlaceSteps.{object_stored_from, lacking_from}
use Rattle.pm3_txn.proofs.RowReads.{word_known}
use Rattle.pm3_txn.proofs.transaction.Txn.write_from.Goals as goal

pub returns-clause-written : goal.returns-clause-written
returns-clause-written g c =
    object_stored_from c.args.self.now c.object.new.self c.row_word-value.new.self c.store.new.self c.args.i c.in-Ok.at c.args.k c.args.place c.row_word-value.result
    c.in-Ok.ensures.there c.row_word-value.ensures.read c.row_word-value.ensures.word c.in_default.ensures.stored

pub store-requires-clause-word : goal.store-requires-clause-word
store-requires-clause-word g c is_ref =
    let tagged : slice_index_or c.args.self.now.mutator.refs c.args.k false ≡ true = (search rules) in
    word_known g.D.Reader.Reader.content c.object.new.self c.row_word-value.new.self c.args.k c.row_word-value.result c.row_word-value.ensures.read
    (subst (IsUnderway g.D.Reader.Reader.content) c.self.view_is c.self.invariant)
    (ap (λ (refs : List Bool). slice_index_or refs c.args.k false) c.in-Ok.ensures.there.touched.same.refs ∙ tagged) c.row_word-value.ensures.word

pub returns-in-Err-store-clause-refused : goal.returns-in-Err-store-clause-refused
returns-in-Err-store-clause-refused g c =
    let first : slice_index_or c.args.self.now.mutator.refs c.args.i false ≡ true = (search rules) in
    let second : slice_index_or c.args.self.now.mutator.refs c.args.k false ≡ true = (search rules) in
    inr (
      first,
      inr (
        second,
        inr (lacking_from c.args.self.now c.object.new.self c.row_word-value.new.self c.store.new.self c.args.i c.in-Ok.at c.args.k c.args.place c.in-Err-store.ty c.of_lack.result
            c.in-Ok.ensures.there c.row_word-value.ensures.read c.in-Err-store.ensures.same c.in-Err-store.ensures.lacks c.of_lack.ensures),
      ),
    )
