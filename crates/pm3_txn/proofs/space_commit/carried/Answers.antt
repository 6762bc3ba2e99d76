use Rattle.std.proofs.Common.{ℕ, sym, subst}
use Rattle.pm3_access.specs.declared.parted.Parted.{Parted}
use Rattle.pm3_access.specs.Parting.{joined}
use Rattle.pm3_txn.specs.declared.prepared.Prepared.{Prepared}
use Rattle.pm3_txn.specs.PassEnding.{IsPassCommit}
use Rattle.pm3_txn.specs.Slots.{turn_state}
use Rattle.pm3_txn.specs.SpaceCommits.{HasAppended, IsAppendFault, MayAppend, carried_of, commit_of}
use Rattle.pm3_txn.proofs.CommitSteps.{err_map, ok_map}
use Rattle.pm3_txn.proofs.SpaceCommitted.{along, along_back, committed, ended_space, space_commit}
use Rattle.pm3_txn.proofs.space_commit.carried.Goals as goal

pub appended-requires : goal.appended-requires
appended-requires g c κs within = (
  within.0,
  (
    within.1,
    (
      (
        carried_of c.args.parted c.args.prepared c.args.mutator.pass.1.log c.carry-pins.new.parted,
        along (λ (p : Parted) (x : Prepared). IsPassCommit g.D.Reader.Reader.content c.args.heap.now c.args.mutator (carried_of c.args.parted c.args.prepared c.args.mutator.pass.1.log c.carry-pins.new.parted) (commit_of c.args.heap.now.1 c.args.mutator p x c.carry-pins.new.parted c.carry-pins.result.2))
            c.args.parted g.before.0 c.args.prepared g.before.1 c.requires.1.1.0 c.carry-pins.ensures.commit,
        c.carry-pins.ensures.left,
      ),
      (
        c.requires.1.1.1.1.1.0,
        (
          along (λ (p : Parted) (x : Prepared). MayAppend c.args.heap.now.1 c.args.mutator.next_name c.carry-pins.result.2.tag (turn_state c.args.turn) c.carry-pins.new.parted c.carry-pins.result.2
              (commit_of c.args.heap.now.1 c.args.mutator p x c.carry-pins.new.parted c.carry-pins.result.2)) c.args.parted g.before.0 c.args.prepared g.before.1 c.requires.1.1.0
              (subst (λ (k : ℕ). MayAppend c.args.heap.now.1 c.args.mutator.next_name k (turn_state c.args.turn) c.carry-pins.new.parted c.carry-pins.result.2
              (commit_of c.args.heap.now.1 c.args.mutator c.args.parted c.args.prepared c.carry-pins.new.parted c.carry-pins.result.2)) (sym c.carry-pins.ensures.append.entry.tag_is) c.carry-pins.ensures.append),
          c.carry-pins.ensures.room,
        ),
      ),
    ),
  ),
)

pub returns-clause-committed : goal.returns-clause-committed
returns-clause-committed g c = ok_map _ _ c.appended.result c.appended.ensures.appended (λ done is.
    committed g.D.Reader.Reader.content c.args.heap.now c.args.mutator c.args.parted c.args.prepared c.requires.1.1.1.0 c.requires.1.1.1.1.0 c.carry-pins.new.parted c.carry-pins.result.2 c.args.tag (turn_state c.args.turn) c.carry-pins.ensures.append
    c.frame_of_runs.ensures c.pass_law.ensures.follows c.carry-pins.ensures.commit done.0 done.1
    (along_back (λ (p : Parted) (x : Prepared). HasAppended (turn_state c.args.turn) c.args.mutator done.0 (commit_of c.args.heap.now.1 c.args.mutator p x c.carry-pins.new.parted c.carry-pins.result.2) done.1) c.args.parted g.before.0 c.args.prepared g.before.1 c.requires.1.1.0 is))

pub returns-clause-fault : goal.returns-clause-fault
returns-clause-fault g c = err_map _ _ c.appended.result c.appended.ensures.fault (λ fault is.
    ended_space g.D.Reader.Reader.content c.args.heap.now (joined c.args.parted) c.args.tag (turn_state c.args.turn) c.args.mutator (commit_of c.args.heap.now.1 c.args.mutator c.args.parted c.args.prepared c.carry-pins.new.parted c.carry-pins.result.2) fault
    (space_commit g.D.Reader.Reader.content c.args.heap.now c.args.mutator c.args.parted c.args.prepared c.requires.1.1.1.0 c.requires.1.1.1.1.0 c.carry-pins.new.parted c.carry-pins.result.2 c.args.tag (turn_state c.args.turn) c.carry-pins.ensures.append)
    (along_back (λ (p : Parted) (x : Prepared). IsAppendFault g.D.Reader.Reader.content c.args.heap.now (turn_state c.args.turn) c.args.mutator (commit_of c.args.heap.now.1 c.args.mutator p x c.carry-pins.new.parted c.carry-pins.result.2) fault) c.args.parted g.before.0 c.args.prepared g.before.1 c.requires.1.1.0 is))
