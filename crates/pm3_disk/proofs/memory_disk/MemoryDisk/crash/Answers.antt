use Rattle.std.proofs.Common.{◌≡◌, ◌+◌, rules, arith, sym, subst}
use Rattle.pm3_disk.specs.Crash.{left_after, oldest}
use Rattle.pm3_disk.specs.Recording.{may_leave_of}
use Rattle.pm3_disk.proofs.Crashed.{is_left}
use Rattle.pm3_disk.proofs.memory_disk.MemoryDisk.crash.Goals as goal

pub returns-clause-left : goal.returns-clause-left
returns-clause-left c =
    let disk = c.args.self.now in
    let left : c.new-2.result.began ≡ left_after c.args.choice disk.began (oldest (c.args.call + 1) disk.calls) = search rules in
    subst (may_leave_of disk (c.args.call + 1)) (sym left) (is_left c.args.choice disk.began disk.calls (c.args.call + 1) (omega (arith, c.requires)))
