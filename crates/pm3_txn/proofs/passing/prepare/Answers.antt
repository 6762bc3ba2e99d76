use Rattle.std.proofs.Common.{◌∙◌}
use Rattle.std.specs.FinMap as map
use Rattle.pm3_access.specs.Parting.{joined}
use Rattle.pm3_txn.specs.PassSteps.{HasKeptRow}
use Rattle.pm3_txn.proofs.PassDraws.{row_both}
use Rattle.pm3_txn.proofs.Preparing.{kept_logged, logged_filled, passing_logged, refused_on}
use Rattle.pm3_txn.proofs.passing.prepare.Goals as goal

pub returns-clause-refused : goal.returns-clause-refused
returns-clause-refused g c =
    let old = c.args.mutator.now in let named = c.named_pages.new.mutator in let read = c.pins.new.mutator in let tried = c.planned.new.mutator in let last = c.unmark_all.new.mutator in
    let first : HasKeptRow old read = row_both old named read (kept_logged old named c.named_pages.ensures.only) (kept_logged named read c.in-Ok-pins.ensures.pinned.1.only) in
    record {
      ready = passing_logged g.D.Reader.Reader.content c.args.heap.now tried last (joined c.planned.new.parted) c.unmark_all.ensures.unmarked.only c.planned.ensures.ready;
      bare = c.unmark_all.ensures.unmarked.marks;
      kept = row_both old read last first (row_both read tried last c.planned.ensures.drawn.1.kept (kept_logged tried last c.unmark_all.ensures.unmarked.only));
      parts = c.planned.ensures.parts;
      why = refused_on c.args.heap.now.1 old read tried last (map.contains_key c.args.parted.now.volatile.images) c.in-Err.cause first
          (logged_filled named read c.in-Ok-pins.ensures.pinned.1.only ∙ logged_filled old named c.named_pages.ensures.only) (logged_filled tried last c.unmark_all.ensures.unmarked.only) c.in-Err.ensures.refused;
    }
