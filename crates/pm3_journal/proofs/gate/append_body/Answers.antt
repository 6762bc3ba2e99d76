use Rattle.std.proofs.Common.{inl, inr}
use Rattle.pm3_disk.proofs.Leaving.{wider, then_step}
use Rattle.pm3_journal.specs.Gates.{AppendLeaves, Closes, ClosingLeaves, EntryLeaves}
use Rattle.pm3_journal.proofs.Gating.{entered_there}
use Rattle.pm3_journal.proofs.gate.append_body.Goals as goal

pub returns-in_err-close_gate-clause-crash : goal.returns-in_err-close_gate-clause-crash
returns-in_err-close_gate-clause-crash g c =
    wider g.D.Disk (ClosingLeaves c.args.at c.args.is_closed) (AppendLeaves c.args.at c.args.is_closed c.args.body.now) c.close_gate.ensures.crash (λ old left leaves. inl leaves)

pub returns-in_err-enter-clause-crash : goal.returns-in_err-enter-clause-crash
returns-in_err-enter-clause-crash g c =
    let whole = AppendLeaves c.args.at c.args.is_closed c.args.body.now in
    let closing = wider g.D.Disk (ClosingLeaves c.args.at c.args.is_closed) whole c.close_gate.ensures.crash (λ old left leaves. inl leaves) in
    then_step g.D.Disk (Closes c.args.at) (EntryLeaves c.args.at c.args.body.now) whole closing c.in_ok-close_gate.ensures.done c.enter.ensures.crash
    (λ old mid left told closes leaves. inr (mid, closes, leaves))

pub returns-clause-done : goal.returns-clause-done
returns-clause-done g c = entered_there c.args.at c.args.body.now c.args.is_closed _ _ _ c.requires.within c.in_ok-close_gate.ensures.written c.in_ok-enter.ensures.done

pub returns-clause-crash : goal.returns-clause-crash
returns-clause-crash g c =
    let whole = AppendLeaves c.args.at c.args.is_closed c.args.body.now in
    let closing = wider g.D.Disk (ClosingLeaves c.args.at c.args.is_closed) whole c.close_gate.ensures.crash (λ old left leaves. inl leaves) in
    then_step g.D.Disk (Closes c.args.at) (EntryLeaves c.args.at c.args.body.now) whole closing c.in_ok-close_gate.ensures.done c.enter.ensures.crash
    (λ old mid left told closes leaves. inr (mid, closes, leaves))
