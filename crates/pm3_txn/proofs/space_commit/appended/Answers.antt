use Rattle.std.proofs.Common.{◌≡◌, ◌∙◌, ℕ, Ok, Err, inl, inr, ⊎_elim, sym, arith}
use Rattle.pm3_journal.specs.declared.faults.AppendFault.TheVariants.{Stopped}
use Rattle.pm3_txn.proofs.CommitWith.{not_stopped}
use Rattle.pm3_txn.proofs.PassAppends.{appended, end_is, fails, fit, grown_good, grown_heard, lost_is}
use Rattle.pm3_txn.proofs.space_commit.appended.Goals as goal

pub append-requires-clause-fit : goal.append-requires-clause-fit
append-requires-clause-fit g c = fit g.D.Disk g.D.Reader.Reader.content c.args.heap.now c.page_count.ensures.small c.args.mutator c.args.turn c.args.entry c.args.parted g.commit c.requires.1.1.1.0 c.requires.1.1.1.1.0 (let due = c.next.ensures in let low = c.next.type_inv in omega (arith, due, low))

pub passed-mutator-requires : goal.passed-mutator-requires
passed-mutator-requires g c κs within = (
  within.0,
  (
    within.1,
    (
      c.requires.1.1.0,
      (
        grown_good g.D.Disk g.D.Reader.Reader.content c.args.heap.now c.page_count.ensures.small c.args.mutator c.args.turn c.args.entry c.args.parted g.commit c.requires.1.1.1.0 c.requires.1.1.1.1.0
            c.append.new.self (let other : (seq : ℕ) → Ok c.in-Ok.receipt ≡ Err (Stopped seq) → ⊥ = λ seq at. cc at in (not_stopped c.append.result c.args.turn.journal.stopped c.append.ensures.stopped (λ seq at. other seq (sym c.in-Ok.is ∙ at)))) c.in-Ok.ensures.grown c.in-Ok.ensures.added c.in-Ok.ensures.honest,
        (
          (
            grown_heard g.D.Disk g.D.Reader.Reader.content c.args.heap.now c.page_count.ensures.small c.args.mutator c.args.turn c.args.entry c.args.parted g.commit c.requires.1.1.1.0 c.requires.1.1.1.1.0
                c.append.new.self (let other : (seq : ℕ) → Ok c.in-Ok.receipt ≡ Err (Stopped seq) → ⊥ = λ seq at. cc at in (not_stopped c.append.result c.args.turn.journal.stopped c.append.ensures.stopped (λ seq at. other seq (sym c.in-Ok.is ∙ at)))) c.in-Ok.ensures.grown c.in-Ok.ensures.added c.in-Ok.ensures.honest,
            lost_is g.D.Disk g.D.Reader.Reader.content c.args.heap.now c.page_count.ensures.small c.args.mutator c.args.turn c.args.entry c.args.parted g.commit c.requires.1.1.1.0 c.requires.1.1.1.1.0 (let other : (seq : ℕ) → Ok c.in-Ok.receipt ≡ Err (Stopped seq) → ⊥ = λ seq at. cc at in (not_stopped c.append.result c.args.turn.journal.stopped c.append.ensures.stopped (λ seq at. other seq (sym c.in-Ok.is ∙ at)))),
          ),
          c.requires.1.1.1.1.1,
        ),
      ),
    ),
  ),
)

pub returns-in-Ok-clause-appended : goal.returns-in-Ok-clause-appended
returns-in-Ok-clause-appended g c = appended g.D.Disk g.D.Reader.Reader.content c.args.heap.now c.page_count.ensures.small c.args.mutator c.args.turn c.args.entry c.args.parted g.commit c.requires.1.1.1.0 c.requires.1.1.1.1.0
    c.append.new.self (let other : (seq : ℕ) → Ok c.in-Ok.receipt ≡ Err (Stopped seq) → ⊥ = λ seq at. cc at in (not_stopped c.append.result c.args.turn.journal.stopped c.append.ensures.stopped (λ seq at. other seq (sym c.in-Ok.is ∙ at)))) c.in-Ok.ensures.grown c.in-Ok.ensures.added c.in-Ok.ensures.honest c.passed-mutator.result c.in-Ok.receipt c.passed-mutator.ensures.given c.in-Ok.ensures.receipt

pub pass_failed-mutator-requires : goal.pass_failed-mutator-requires
pass_failed-mutator-requires g c κs within = (
  within.0,
  (
    within.1,
    (
      (c.requires.1.1.0.0, c.requires.1.1.0.1.has, c.requires.1.1.0.2),
      fails g.D.Disk g.D.Reader.Reader.content c.args.heap.now c.page_count.ensures.small c.args.mutator c.args.turn c.args.entry c.args.parted g.commit c.requires.1.1.1.0 c.requires.1.1.1.1.0
          c.pass_law.ensures.follows c.requires.1.1.0.0 c.requires.1.1.0.1 c.append.new.self c.append.result c.append.ensures.stopped c.append.ensures.halted c.append.ensures.part c.append.ensures.fault c.append.ensures.later c.in-Err.fault c.in-Err.is (⊎_elim (λ e. inl (c.in-Err.is ∙ e)) (λ e. inr e) c.in-Err.ensures.refused),
    ),
  ),
)

pub returns-clause-fault : goal.returns-clause-fault
returns-clause-fault g c = (
  rw c.of_append.ensures (
      end_is g.D.Disk g.D.Reader.Reader.content c.args.heap.now c.page_count.ensures.small c.args.mutator c.args.turn c.args.entry c.args.parted g.commit c.requires.1.1.1.0 c.requires.1.1.1.1.0
      c.pass_law.ensures.follows c.requires.1.1.0.0 c.requires.1.1.0.1 c.append.new.self c.append.result c.append.ensures.stopped c.append.ensures.halted c.append.ensures.part c.append.ensures.fault c.append.ensures.later c.in-Err.fault c.in-Err.is (⊎_elim (λ e. inl (c.in-Err.is ∙ e)) (λ e. inr e) c.in-Err.ensures.refused)
      (λ limit at. ((c.append.ensures.full limit).0 at).1) c.pass_failed-mutator.result c.pass_failed-mutator.ensures.failed c.pass_failed-mutator.ensures.heard),
  c.pass_failed-mutator.ensures.bare,
  c.pass_failed-mutator.ensures.kept,
)
