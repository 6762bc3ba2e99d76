use Rattle.std.proofs.Common.{◌∙◌, false, slice_index_or, sym, ap, subst}
use Rattle.pm3_txn.specs.Forks.{HasReadRow}
use Rattle.pm3_txn.specs.States.{MutatorState}
use Rattle.pm3_txn.proofs.RowCopied.{copied_more, copied_none, copy_refused, read_more, read_nothing}
use Rattle.pm3_txn.proofs.mutator.Mutator.copy_row.Goals as goal

pub loop-place-init : goal.loop-place-init
loop-place-init g c = record {
  read = read_nothing c.args.self.now;
  copied = copied_none c.args.heap.now.1.pages c.args.self.now c.args.made.now;
  kept = c.requires.of;
  other = c.requires.other;
}

pub loop-place-preserved : goal.loop-place-preserved
loop-place-preserved g c =
    let read : HasReadRow c.args.self.now c.stack_word-word.new.self =
    subst (λ (m : MutatorState g.row.D-Reader.Denot). HasReadRow c.args.self.now m) (sym c.stack_word-word.ensures.read) (read_more c.args.self.now c.loop-place.self c.loop-place.place c.loop-place.invariant.read) in
    record {
      read = read;
      copied = copied_more c.args.heap.now.1.pages c.args.self.now c.loop-place.place c.args.made.now c.loop-place.made c.put.new.self c.stack_word-word.result c.is_reference-is_ref.result
          c.loop-place-test.true c.loop-place.invariant.other.tags.0 (c.stack_word-word.ensures.word ∙ c.loop-place.invariant.read.words c.loop-place.place) c.loop-place.invariant.copied
          (c.is_reference-is_ref.ensures ∙ ap (λ (m : MutatorState g.row.D-Reader.Denot). slice_index_or m.refs c.loop-place.place false) read.rest)
          c.in_default.ensures.put c.in_default.ensures.pinned c.in_default.ensures.calm;
      kept = c.stack_word-word.ensures.kept;
      other = c.put.ensures.kept;
    }

pub returns-in-Err-clause-read : goal.returns-in-Err-clause-read
returns-in-Err-clause-read g c =
    subst (λ (m : MutatorState g.row.D-Reader.Denot). HasReadRow c.args.self.now m) (sym c.stack_word-word.ensures.read) (read_more c.args.self.now c.loop-place.self c.loop-place.place c.loop-place.invariant.read)

pub returns-in-Err-clause-refused : goal.returns-in-Err-clause-refused
returns-in-Err-clause-refused g c =
    copy_refused c.args.heap.now.1.pages c.args.self.now c.loop-place.place c.args.made.now c.loop-place.made c.put.new.self c.stack_word-word.result c.is_reference-is_ref.result
    c.loop-place-test.true c.loop-place.invariant.other.tags.0 (c.stack_word-word.ensures.word ∙ c.loop-place.invariant.read.words c.loop-place.place) c.loop-place.invariant.copied
    c.in-Err.busy c.in-Err.ensures.cleared c.in-Err.ensures.marked
