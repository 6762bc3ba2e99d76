use Rattle.std.proofs.Common.{refl, ap, subst}
use Rattle.std.specs.FinMap.{contains_key}
use Rattle.pm3_access.specs.Acts.{space_left}
use Rattle.pm3_access.specs.Holding.{Holding}
use Rattle.pm3_access.specs.Parting.{joined}
use Rattle.pm3_txn.specs.CommitParts.{HasMoreFree}
use Rattle.pm3_txn.specs.PassSteps.{IsPassRefusal}
use Rattle.pm3_txn.specs.SpaceCommits.{HasGoneOn}
use Rattle.pm3_txn.specs.States.{MutatorState}
use Rattle.pm3_txn.proofs.CommitSteps.{err_map, ok_map}
use Rattle.pm3_txn.proofs.SpaceCommitted.{gone_on, gone_underway, may_give_back, more_free, more_parted, parted_by, refusal_is, value_room}
use Rattle.pm3_txn.proofs.SpaceFrom.{committed_from, ended_from}
use Rattle.pm3_txn.proofs.space_commit.commit_space.Goals as goal

pub prepare-requires-clause-parted : goal.prepare-requires-clause-parted
prepare-requires-clause-parted g c = parted_by c.args.held c.in-Ok.parted c.in-Ok.ensures.joined c.in-Ok.ensures.rejoin c.in-Ok.ensures.written c.in-Ok.ensures.others

pub carried-requires : goal.carried-requires
carried-requires g c κs within =
    let made = c.in-Ok-prepare.ensures.prepared in
    let kept = made.kept.rest in (
      within.0,
      (
        within.1,
        (
          (refl, refl),
          (
            made.ready,
            (
              more_parted c.in-Ok.parted c.prepare.new.parted made.parts (parted_by c.args.held c.in-Ok.parted c.in-Ok.ensures.joined c.in-Ok.ensures.rejoin c.in-Ok.ensures.written c.in-Ok.ensures.others),
              (
                value_room g.D.Disk g.D.Reader.Reader.content c.args.heap.now c.args.mutator.pass.1 c.prepare.new.mutator.pass.1 c.args.turn c.prepare.new.turn c.prepare.ensures.room
                    (ap (λ (x : MutatorState _). x.pass.1.seen) kept) (ap (λ (x : MutatorState _). x.pass.1.lost) kept) (ap (λ (x : MutatorState _). x.pass.1.faults) kept) c.requires.value,
                made.planned,
              ),
            ),
          ),
        ),
      ),
    )

pub returns-in-Ok-prepare-clause-committed : goal.returns-in-Ok-prepare-clause-committed
returns-in-Ok-prepare-clause-committed g c = ok_map _ _ c.carried.result c.carried.ensures.committed (λ done is.
    committed_from c.args.heap.now.1 c.args.tag c.args.mutator c.prepare.new.mutator c.in-Ok-prepare.ensures.prepared.kept c.args.turn c.prepare.new.turn c.prepare.ensures.room c.args.held (joined c.prepare.new.parted) done.0 done.1
    (subst (λ (h : Holding). HasMoreFree h (joined c.prepare.new.parted)) c.in-Ok.ensures.joined (more_free c.in-Ok.parted c.prepare.new.parted c.in-Ok-prepare.ensures.prepared.parts)) is)

pub returns-in-Ok-prepare-clause-fault : goal.returns-in-Ok-prepare-clause-fault
returns-in-Ok-prepare-clause-fault g c = err_map _ _ c.carried.result c.carried.ensures.fault (λ fault is.
    ended_from g.D.Reader.Reader.content c.args.heap.now c.args.held (joined c.prepare.new.parted) c.args.tag c.args.mutator c.prepare.new.mutator c.in-Ok-prepare.ensures.prepared.kept c.args.turn c.prepare.new.turn c.prepare.ensures.room fault
    (subst (λ (h : Holding). HasMoreFree h (joined c.prepare.new.parted)) c.in-Ok.ensures.joined (more_free c.in-Ok.parted c.prepare.new.parted c.in-Ok-prepare.ensures.prepared.parts)) is)

pub give_back-requires : goal.give_back-requires
give_back-requires g c κs within = (within.0, (within.1, (c.in-Err.ensures.refused.ready.underway.mutator.of, (c.in-Err.ensures.refused.ready.turn, may_give_back g.D.Disk g.D.Reader.Reader.content c.args.heap.now c.args.mutator c.prepare.new.mutator c.in-Ok.parted c.prepare.new.parted c.in-Err.cause c.args.turn c.prepare.new.turn c.requires.value c.prepare.ensures.room c.in-Err.ensures.refused))))

pub invariant_of-result : goal.invariant_of-result
invariant_of-result g c = rw c.rejoin.ensures (gone_underway g.D.Disk g.D.Reader.Reader.content c.args.heap.now c.args.mutator c.prepare.new.mutator c.in-Ok.parted c.prepare.new.parted c.in-Err.cause c.args.turn c.prepare.new.turn c.requires.value c.prepare.ensures.room c.in-Err.ensures.refused c.give_back.new.self c.give_back.ensures.ended c.args.tag)

pub returns-in-Err-clause-fault : goal.returns-in-Err-clause-fault
returns-in-Err-clause-fault g c = rw c.rejoin.ensures (
  subst (λ (h : Holding). HasGoneOn c.args.heap.now h c.args.tag c.args.mutator (record { heap = c.args.heap.now; mutator = c.give_back.new.self; held = joined c.prepare.new.parted; tag = c.args.tag }))
      c.in-Ok.ensures.joined (gone_on g.D.Disk g.D.Reader.Reader.content c.args.heap.now c.args.mutator c.prepare.new.mutator c.in-Ok.parted c.prepare.new.parted c.in-Err.cause c.args.turn c.prepare.new.turn c.requires.value c.prepare.ensures.room c.in-Err.ensures.refused c.give_back.new.self c.give_back.ensures.ended c.args.tag),
  subst (λ (h : Holding). IsPassRefusal c.args.heap.now.1 c.args.mutator c.give_back.new.self (contains_key (space_left h.space)) c.in-Err.cause) c.in-Ok.ensures.joined
      (refusal_is g.D.Disk g.D.Reader.Reader.content c.args.heap.now c.args.mutator c.prepare.new.mutator c.in-Ok.parted c.prepare.new.parted c.in-Err.cause c.args.turn c.prepare.new.turn c.requires.value c.prepare.ensures.room c.in-Err.ensures.refused c.give_back.new.self c.give_back.ensures.ended c.args.tag),
)
