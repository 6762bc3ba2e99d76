use Rattle.std.proofs.Common.{rules, ◌∙◌, inr, sym, subst}
use Rattle.pm3_txn.specs.Refusals.{IsReferencePlace}
use Rattle.pm3_txn.specs.Underway.{IsUnderway}
use Rattle.pm3_txn.proofs.RowReads.{place_form, place_page, place_home, place_above, place_refused, place_missing, place_held}
use Rattle.pm3_txn.proofs.transaction.Txn.object.Goals as goal

pub page_of-page-requires-clause-reference : goal.page_of-page-requires-clause-reference
page_of-page-requires-clause-reference g c =
    let place : IsReferencePlace c.args.self.now c.args.i = (search rules, search rules) in
    rw (← c.self.view_is) at (place_form g.D.Reader.Reader.content c.args.self.now c.row_word-at.new.self c.args.i c.row_word-at.ensures.read
    (subst (IsUnderway g.D.Reader.Reader.content) c.self.view_is c.self.invariant) place c.row_word-at.result c.row_word-at.ensures.word)

pub touch-requires-clause-page : goal.touch-requires-clause-page
touch-requires-clause-page g c absent =
    let place : IsReferencePlace c.args.self.now c.args.i = (search rules, search rules) in
    place_page g.D.Reader.Reader.content c.args.self.now c.row_word-at.new.self c.args.i c.row_word-at.ensures.read
    (subst (IsUnderway g.D.Reader.Reader.content) c.self.view_is c.self.invariant) place c.row_word-at.result c.row_word-at.ensures.word c.page_of-page.result c.page_of-page.ensures absent

pub touch-requires-clause-home : goal.touch-requires-clause-home
touch-requires-clause-home g c absent =
    let place : IsReferencePlace c.args.self.now c.args.i = (search rules, search rules) in
    place_home g.D.Reader.Reader.content c.args.self.now c.row_word-at.new.self c.args.i c.row_word-at.ensures.read
    (subst (IsUnderway g.D.Reader.Reader.content) c.self.view_is c.self.invariant) place c.row_word-at.result c.row_word-at.ensures.word c.page_of-page.result c.page_of-page.ensures absent

pub returns-in-Err-clause-refused : goal.returns-in-Err-clause-refused
returns-in-Err-clause-refused g c =
    let place : IsReferencePlace c.args.self.now c.args.i = (search rules, search rules) in
    place_refused g.D.Reader.Reader.faults c.args.self.now c.row_word-at.new.self c.touch.new.self c.args.i c.row_word-at.result c.page_of-page.result c.in-Err.fault c.row_word-at.ensures.read
    place c.row_word-at.ensures.word c.page_of-page.ensures c.in-Err.ensures.refused

pub returns-then-not-begins-clause-refused : goal.returns-then-not-begins-clause-refused
returns-then-not-begins-clause-refused g c =
    let place : IsReferencePlace c.args.self.now c.args.i = (search rules, search rules) in (
      place,
      inr (place_missing c.args.self.now c.row_word-at.new.self c.touch.new.self c.args.i c.row_word-at.result c.page_of-page.result c.word_of.result c.row_word-at.ensures.read
          c.row_word-at.ensures.word c.page_of-page.ensures c.in_default.ensures.touched (sym c.begins.ensures ∙ c.if-not-begins.true) c.word_of.ensures),
    )

pub word_of-requires : goal.word_of-requires
word_of-requires g c =
    let place : IsReferencePlace c.args.self.now c.args.i = (search rules, search rules) in
    place_above g.D.Reader.Reader.content c.args.self.now c.row_word-at.new.self c.args.i c.row_word-at.ensures.read
    (subst (IsUnderway g.D.Reader.Reader.content) c.self.view_is c.self.invariant) place c.row_word-at.result c.row_word-at.ensures.word

pub returns-clause-there : goal.returns-clause-there
returns-clause-there g c =
    let place : IsReferencePlace c.args.self.now c.args.i = (search rules, search rules) in
    place_held g.D.Reader.Reader.content c.args.self.now c.row_word-at.new.self c.touch.new.self c.args.i c.row_word-at.result c.page_of-page.result c.row_word-at.ensures.read
    (subst (IsUnderway g.D.Reader.Reader.content) c.self-2.view_is c.self-2.invariant) place c.row_word-at.ensures.word c.page_of-page.ensures c.in_default.ensures.touched
    (sym c.begins.ensures ∙ c.if-not-begins.false)
