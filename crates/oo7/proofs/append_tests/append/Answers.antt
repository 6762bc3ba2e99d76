use Rattle.std.proofs.Common.{rules, ◌≡◌, ◌≤◌, ap, arith}
use Rattle.oo7.proofs.append_tests.append.Goals as goal

pub append-requires-clause-room : goal.append-requires-clause-room
append-requires-clause-room g c = (2, ap (λ s. s.room) c.in_ok-reserve.ensures.room, omega (arith, c.in_ok-entry.ensures.few))

pub append-requires-clause-fit : goal.append-requires-clause-fit
append-requires-clause-fit g c =
    let low : 16 ≤ c.args.journal.now.pages = search rules in
    let high : c.args.journal.now.pages ≤ 16384 = search rules in
    let pages : c.reserve.new.self.pages ≡ c.args.journal.now.pages = ap (λ s. s.pages) c.in_ok-reserve.ensures.room in
    let next : c.reserve.new.self.next ≡ c.args.journal.now.next = ap (λ s. s.next) c.in_ok-reserve.ensures.room in
    c.in_ok-entry.ensures.fit c.reserve.new.self.pages c.reserve.new.self.next (omega (arith, pages, low)) (omega (arith, pages, high)) (omega (arith, next, c.next.ensures, c.next.type_inv))
