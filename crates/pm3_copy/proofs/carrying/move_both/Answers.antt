use Rattle.std.proofs.Common.{◌++◌, ◌+◌, ◌∙◌, ℕ, List, [], length, ap, sym, subst}
use Rattle.std.proofs.lemmas.List.{append-nil}
use Rattle.pm3_core.specs.declared.naming.TheConstants.{BASE}
use Rattle.pm3_types.specs.PassMoves.{IsRising, paired, moved_by}
use Rattle.pm3_copy.specs.Fresh.{AreNext}
use Rattle.pm3_copy.specs.Blocks.{AreBothNumbered}
use Rattle.pm3_copy.specs.Moving.{AreMoved}
use Rattle.pm3_copy.proofs.BothMoves.{both_moved}
use Rattle.pm3_copy.proofs.carrying.move_both.Goals as goal

pub returns-clause-moved : goal.returns-clause-moved
returns-clause-moved c =
    let room = c.requires.room in
    let first = c.move_all-table in
    let second = c.move_all-others in
    let settled = first.ensures.settled room.0 room.1 room.2 room.3 in
    let Are : List ℕ → List ℕ → Type 0 = λ olds others. AreMoved c.args.catalog.now BASE c.args.volatile.now.images c.args.promoted c.args.kept
    (λ w. moved_by (paired olds c.move_all-table.result.table.news.items ++ paired others c.move_all-others.result.table.news.items) w) c.args.fresh.now.images c.move_all-others.new.fresh.images in
    let both : Are c.args.promoted c.args.kept = both_moved c.args.catalog.now BASE c.args.volatile.now.images c.args.promoted c.args.kept first.result.table.news.items second.result.table.news.items
    c.requires.promoted_rise c.requires.kept_rise first.ensures.all second.ensures.all c.requires.apart c.args.fresh.now.images first.new.fresh.images second.new.fresh.images first.ensures.copied second.ensures.copied
    first.result.last settled.0.up_to second.ensures.before in
    subst (λ olds. Are olds c.move_all-others.result.table.olds.items) (sym first.ensures.olds) (subst (Are c.args.promoted) (sym second.ensures.olds) both)

pub returns-clause-settled : goal.returns-clause-settled
returns-clause-settled c first second next long longer =
    let one = c.move_all-table.ensures.settled first second next long in
    let two = c.move_all-others.ensures.settled second [] (subst (AreNext c.move_all-table.new.fresh.images (c.move_all-table.result.last + 1)) (sym (append-nil second)) one.1) longer in
    (one.0.are, two.0.are)

pub returns-clause-tables : goal.returns-clause-tables
returns-clause-tables c =
    let first = c.move_all-table.ensures in
    let second = c.move_all-others.ensures in
    let Are : List ℕ → List ℕ → Type 0 = AreBothNumbered BASE c.args.index.blocks.by_page.items c.args.index.numbers.items in
    record {
      promoted = subst IsRising (sym first.olds) c.requires.promoted_rise;
      kept = subst IsRising (sym second.olds) c.requires.kept_rise;
      numbered = subst (Are c.move_all-table.result.table.olds.items) (sym second.olds) (subst (λ olds. Are olds c.args.kept) (sym first.olds) c.requires.numbered);
      promoted_whole = first.all ∙ sym (ap (λ (xs : List ℕ). length xs) first.olds);
      kept_whole = second.all ∙ sym (ap (λ (xs : List ℕ). length xs) second.olds);
    }
