use Rattle.std.proofs.Common.{◌≡◌, ◌∙◌, ℕ, false, ap}
use Rattle.std.specs.Ordering.{nat_cmp}
use Rattle.std.specs.FinSet as set
use Rattle.std.specs.FinSet.{contains-empty}
use Rattle.pm3_access.specs.FreeList.{Numbers}
use Rattle.pm3_txn.specs.Slots.{turn_state}
use Rattle.pm3_txn.proofs.PassEnded.{ended, freed_bare, freed_in_space, goes_on, may_give, may_promote, of_first, of_given, of_settled, of_table, pinned_bare, pinned_in_space, row_known, still_lawful, turn_held}
use Rattle.pm3_txn.proofs.ending.end_pass.Goals as goal

none_in : (none : Numbers) → none ≡ set.empty → (q : ℕ) → set.contains none q ≡ false
none_in none is q = ap (λ (s : Numbers). set.contains s q) is ∙ contains-empty nat_cmp q

pub promote_all-requires-clause-of : goal.promote_all-requires-clause-of
promote_all-requires-clause-of g c =
    let commit = c.requires.1.1.0 in
    of_table g.D.Reader.Reader.content c.args.heap.now c.args.mutator.now commit.0 commit.1.has

pub promote_all-requires-clause-own : goal.promote_all-requires-clause-own
promote_all-requires-clause-own g c =
    let commit = c.requires.1.1.0 in
    may_promote g.D.Reader.Reader.content c.args.heap.now c.args.mutator.now commit.0 commit.1.has _ _ _ _ commit.2

pub give_back-requires : goal.give_back-requires
give_back-requires g c κs within =
    let commit = c.requires.1.1.0 in
    let content = g.D.Reader.Reader.content in let heap = c.args.heap.now in let m = c.args.mutator.now in (
      within.0,
      (
        within.1,
        (
          of_settled content heap m commit.0 commit.1.has _ _ _ _ commit.2 c.promote_all.new.mutator c.promote_all.ensures,
          (
            turn_held content heap m commit.0 commit.1.has _ _ _ _ commit.2 c.promote_all.new.mutator c.promote_all.ensures,
            may_give g.D.Disk content heap m commit.0 g.commit commit.1 c.pass_law.ensures.follows c.quiet_law.ensures.others _ _ _ _ commit.2 c.promote_all.new.mutator c.promote_all.ensures
                c.page_count.ensures.least (turn_state c.args.turn) c.requires.1.1.1.0 c.requires.1.1.1.1,
          ),
        ),
      ),
    )

pub unmark_others-requires-clause-of : goal.unmark_others-requires-clause-of
unmark_others-requires-clause-of g c =
    let commit = c.requires.1.1.0 in
    of_given g.D.Reader.Reader.content c.args.heap.now c.args.mutator.now commit.0 commit.1.has _ _ _ _ commit.2 c.promote_all.new.mutator c.promote_all.ensures
    g.commit (g.D.Disk.faults c.args.turn.journal.disk) c.give_back.new.self c.give_back.ensures.ended c.new-none.result (none_in c.new-none.result c.new-none.ensures)

pub unmark_others-requires-clause-own : goal.unmark_others-requires-clause-own
unmark_others-requires-clause-own g c =
    let commit = c.requires.1.1.0 in
    freed_in_space g.D.Reader.Reader.content c.args.heap.now c.args.mutator.now commit.0 commit.1.has _ _ _ _ commit.2 c.promote_all.new.mutator c.promote_all.ensures
    g.commit (g.D.Disk.faults c.args.turn.journal.disk) c.give_back.new.self c.give_back.ensures.ended c.new-none.result (none_in c.new-none.result c.new-none.ensures)

pub unmark_others-requires-clause-marked : goal.unmark_others-requires-clause-marked
unmark_others-requires-clause-marked g c =
    let commit = c.requires.1.1.0 in
    freed_bare g.D.Reader.Reader.content c.args.heap.now c.args.mutator.now commit.0 commit.1.has _ _ _ _ commit.2 c.promote_all.new.mutator c.promote_all.ensures
    g.commit (g.D.Disk.faults c.args.turn.journal.disk) c.give_back.new.self c.give_back.ensures.ended c.new-none.result (none_in c.new-none.result c.new-none.ensures)

pub unmark_others-requires-2-clause-of : goal.unmark_others-requires-2-clause-of
unmark_others-requires-2-clause-of g c =
    let commit = c.requires.1.1.0 in
    of_first g.D.Reader.Reader.content c.args.heap.now c.args.mutator.now commit.0 commit.1.has _ _ _ _ commit.2 c.promote_all.new.mutator c.promote_all.ensures
    g.commit (g.D.Disk.faults c.args.turn.journal.disk) c.give_back.new.self c.give_back.ensures.ended c.new-none.result (none_in c.new-none.result c.new-none.ensures)
    c.unmark_others.new.mutator c.unmark_others.ensures.only c.unmark_others.ensures.marks

pub unmark_others-requires-2-clause-own : goal.unmark_others-requires-2-clause-own
unmark_others-requires-2-clause-own g c =
    let commit = c.requires.1.1.0 in
    pinned_in_space g.D.Reader.Reader.content c.args.heap.now c.args.mutator.now commit.0 commit.1.has _ _ _ _ commit.2 c.promote_all.new.mutator c.promote_all.ensures
    g.commit (g.D.Disk.faults c.args.turn.journal.disk) c.give_back.new.self c.give_back.ensures.ended c.new-none.result (none_in c.new-none.result c.new-none.ensures)
    c.unmark_others.new.mutator c.unmark_others.ensures.only c.unmark_others.ensures.marks

pub unmark_others-requires-2-clause-marked : goal.unmark_others-requires-2-clause-marked
unmark_others-requires-2-clause-marked g c =
    let commit = c.requires.1.1.0 in
    pinned_bare g.D.Reader.Reader.content c.args.heap.now c.args.mutator.now commit.0 commit.1.has _ _ _ _ commit.2 c.promote_all.new.mutator c.promote_all.ensures
    g.commit (g.D.Disk.faults c.args.turn.journal.disk) c.give_back.new.self c.give_back.ensures.ended c.new-none.result (none_in c.new-none.result c.new-none.ensures)
    c.unmark_others.new.mutator c.unmark_others.ensures.only c.unmark_others.ensures.marks

pub returns-clause-ended : goal.returns-clause-ended
returns-clause-ended g c =
    let commit = c.requires.1.1.0 in
    ended g.D.Reader.Reader.content c.args.heap.now c.args.mutator.now commit.0 commit.1.has _ _ _ _ commit.2 c.promote_all.new.mutator c.promote_all.ensures
    g.commit (g.D.Disk.faults c.args.turn.journal.disk) c.give_back.new.self c.give_back.ensures.ended c.new-none.result (none_in c.new-none.result c.new-none.ensures)
    c.unmark_others.new.mutator c.unmark_others.ensures.only c.unmark_others.ensures.marks c.unmark_others-2.new.mutator c.unmark_others-2.ensures.only c.unmark_others-2.ensures.marks

pub returns-clause-kept : goal.returns-clause-kept
returns-clause-kept g c =
    let commit = c.requires.1.1.0 in
    let content = g.D.Reader.Reader.content in let heap = c.args.heap.now in let m = c.args.mutator.now in
    goes_on content heap m commit.0 commit.1.has _ _ _ _ commit.2 c.promote_all.new.mutator c.promote_all.ensures
    g.commit (g.D.Disk.faults c.args.turn.journal.disk) c.give_back.new.self c.give_back.ensures.ended c.new-none.result (none_in c.new-none.result c.new-none.ensures)
    c.unmark_others.new.mutator c.unmark_others.ensures.only c.unmark_others.ensures.marks c.unmark_others-2.new.mutator c.unmark_others-2.ensures.only c.unmark_others-2.ensures.marks
    (still_lawful g.D.Disk content heap m commit.0 g.commit commit.1 c.pass_law.ensures.follows c.quiet_law.ensures.others)
    (row_known g.D.Disk content heap m commit.0 g.commit commit.1 c.pass_law.ensures.follows c.quiet_law.ensures.others c.quiet_law.ensures.pinned)
