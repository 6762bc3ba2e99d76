use Rattle.std.proofs.Common.{◌≡◌, ◌+◌, length}
use Rattle.pm3_disk.specs.Content.{overwrite, TornWrite}
use Rattle.pm3_disk.proofs.Leaving.{from_synced, from_read, then_step, takes_by}
use Rattle.pm3_journal.specs.Gates.{EntryLeaves}
use Rattle.pm3_journal.proofs.Gating.{on_err, put_behind, staged_by, told_steps}
use Rattle.pm3_journal.proofs.gate.enter.Goals as goal

pub returns-in_err-write_through-2-clause-torn : goal.returns-in_err-write_through-2-clause-torn
returns-in_err-write_through-2-clause-torn g c =
    let at = c.args.at in
    let body = c.args.body.now in
    let put = takes_by g.D.Disk (overwrite (at + 1) body) c.in_ok-write_through.ensures.written in
    let gate = c.requires.gate in
    on_err c.from_residual-in_err-write_through-2.result (told_steps at body (g.D.Disk.content c.args.disk.now) (g.D.Disk.content c.write_through.new.disk) (g.D.Disk.content c.write_through-2.new.disk) gate put c.in_err-write_through-2.ensures.torn)

pub returns-in_err-write_through-2-clause-crash : goal.returns-in_err-write_through-2-clause-crash
returns-in_err-write_through-2-clause-crash g c =
    let at = c.args.at in
    let body = c.args.body.now in
    let behind = from_synced g.D.Disk (TornWrite (at + 1) (length body)) (EntryLeaves at body) c.requires.settled c.write_through.ensures.crash (λ old left told torn. put_behind at body old left torn) in
    let put = takes_by g.D.Disk (overwrite (at + 1) body) c.in_ok-write_through.ensures.written in
    then_step g.D.Disk (λ old mid. mid ≡ overwrite (at + 1) body old) (TornWrite at 1) (EntryLeaves at body) behind put
    (from_read g.D.Disk (TornWrite at 1) c.in_ok-write_through.ensures.settled c.write_through-2.ensures.crash)
    (λ old mid left told is torn. staged_by at body old (c.requires.gate old told) mid left is torn)

pub returns-clause-crash : goal.returns-clause-crash
returns-clause-crash g c =
    let at = c.args.at in
    let body = c.args.body.now in
    let behind = from_synced g.D.Disk (TornWrite (at + 1) (length body)) (EntryLeaves at body) c.requires.settled c.write_through.ensures.crash (λ old left told torn. put_behind at body old left torn) in
    let put = takes_by g.D.Disk (overwrite (at + 1) body) c.in_ok-write_through.ensures.written in
    then_step g.D.Disk (λ old mid. mid ≡ overwrite (at + 1) body old) (TornWrite at 1) (EntryLeaves at body) behind put
    (from_read g.D.Disk (TornWrite at 1) c.in_ok-write_through.ensures.settled c.write_through-2.ensures.crash)
    (λ old mid left told is torn. staged_by at body old (c.requires.gate old told) mid left is torn)
