use Rattle.std.proofs.Common.{rules, ◌≡◌, ◌≤◌, ap, arith}
use Rattle.pm3_disk.specs.Recording.{Recording}
use Rattle.pm3_journal.specs.JournalState.{JournalState}
use Rattle.pm3_journal.proofs.tests.refusal.Goals as goal

pub append-requires-clause-room : goal.append-requires-clause-room
append-requires-clause-room g c = (2, ap (λ (s : JournalState Recording). s.room) c.in_ok-reserve.ensures.room, c.requires.few)

pub append-requires-clause-fit : goal.append-requires-clause-fit
append-requires-clause-fit g c =
    let low : 16 ≤ c.args.journal.now.pages = search rules in
    let high : c.args.journal.now.pages ≤ 16384 = search rules in
    let pages : c.reserve.new.self.pages ≡ c.args.journal.now.pages = ap (λ (s : JournalState Recording). s.pages) c.in_ok-reserve.ensures.room in
    let next : c.reserve.new.self.next ≡ c.args.journal.now.next = ap (λ (s : JournalState Recording). s.next) c.in_ok-reserve.ensures.room in
    c.requires.fit c.reserve.new.self.pages c.reserve.new.self.next (omega (arith, pages, low)) (omega (arith, pages, high)) (omega (arith, next, c.requires.next))
