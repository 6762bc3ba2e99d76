use Rattle.std.proofs.Common.{ℕ, false, subst}
use Rattle.std.specs.FinMap as map
use Rattle.pm3_txn.specs.Pinning.{ArePinned}
use Rattle.pm3_txn.proofs.Pinned.{has_pinned, marked_both, marked_scanned}
use Rattle.pm3_txn.proofs.pinning.pins.Goals as goal

pub returns-in-Ok-pinned_by-clause-pinned : goal.returns-in-Ok-pinned_by-clause-pinned
returns-in-Ok-pinned_by-clause-pinned g c = (
  c.scan.new.words,
  has_pinned c.args.mutator.now c.mark_all.new.mutator c.scan.new.self c.args.heap.now.1.pages (map.contains_key c.args.volatile.now.images) c.scan.new.words c.in-Ok-pinned_by.pinned
      c.mark_all.ensures.marked c.scan.ensures.log c.scan.ensures.full c.scan.ensures.read c.scan.ensures.marks c.scan.ensures.cleared
      (subst (λ (n : ℕ). ArePinned n (map.contains_key c.args.volatile.now.images) c.scan.new.words c.in-Ok-pinned_by.pinned) c.page_count-pages.ensures.count c.in-Ok-pinned_by.ensures),
)

pub unmark_all-requires-clause-marked : goal.unmark_all-requires-clause-marked
unmark_all-requires-clause-marked g c =
    (marked_scanned c.args.mutator.now c.mark_all.new.mutator c.scan.new.self (map.contains_key c.args.volatile.now.images) c.scan.new.words c.mark_all.ensures.marked c.scan.ensures.log).marks

pub returns-clause-refused : goal.returns-clause-refused
returns-clause-refused g c =
    marked_both c.args.mutator.now c.scan.new.self c.unmark_all.new.mutator (map.contains_key c.args.volatile.now.images) (λ p. false)
    (marked_scanned c.args.mutator.now c.mark_all.new.mutator c.scan.new.self (map.contains_key c.args.volatile.now.images) c.scan.new.words c.mark_all.ensures.marked c.scan.ensures.log)
    c.unmark_all.ensures.unmarked
