use Rattle.std.proofs.Common.{rules, ◌≡◌, ℕ, ◌≤◌, length, arith}
use Rattle.std.proofs.lemmas.List.{take_all}
use Rattle.pm3_page.specs.PageMap.{slot_of}
use Rattle.pm3_page.proofs.Indexes.{slot_of-filled, index_same}
use Rattle.pm3_page.proofs.slots.Slots.reserve.Goals as goal

pub returns-in_default-grow-clause-index : goal.returns-in_default-grow-clause-index
returns-in_default-grow-clause-index c =
    let slots_same : (page : ℕ) → slot_of c.resize.new.self.items page ≡ slot_of c.args.self.now.by_page.items page = λ page. rw (c.in-Ok.ensures.items, take_all 16384 c.args.self.now.by_page.items c.requires.long) (slot_of-filled c.args.self.now.by_page.items _ page) in
    let made : length c.resize.new.self.items ≤ 16384 = search rules in
    index_same c.args.self.now.by_page.items c.args.self.now.homes.items c.args.self.now.held.words.items c.resize.new.self.items c.grow.new.self.words.items c.requires slots_same c.in_default-grow.ensures.same made (c.in_default-grow.ensures.short (omega arith) c.requires.short)

pub returns-in_default-grow-clause-slots : goal.returns-in_default-grow-clause-slots
returns-in_default-grow-clause-slots c = λ page. rw (c.in-Ok.ensures.items, take_all 16384 c.args.self.now.by_page.items c.requires.long) (slot_of-filled c.args.self.now.by_page.items _ page)

pub returns-in_default-reserve-clause-index : goal.returns-in_default-reserve-clause-index
returns-in_default-reserve-clause-index c =
    let slots_same : (page : ℕ) → slot_of c.resize.new.self.items page ≡ slot_of c.args.self.now.by_page.items page = λ page. rw (c.in-Ok.ensures.items, take_all 16384 c.args.self.now.by_page.items c.requires.long) (slot_of-filled c.args.self.now.by_page.items _ page) in
    let made : length c.resize.new.self.items ≤ 16384 = search rules in
    rw c.in_default-reserve.ensures.items (index_same c.args.self.now.by_page.items c.args.self.now.homes.items c.args.self.now.held.words.items c.resize.new.self.items c.grow.new.self.words.items c.requires slots_same c.in-Ok-grow.ensures.same made (c.in-Ok-grow.ensures.short (omega arith) c.requires.short))

pub returns-in_default-reserve-clause-slots : goal.returns-in_default-reserve-clause-slots
returns-in_default-reserve-clause-slots c = λ page. rw (c.in-Ok.ensures.items, take_all 16384 c.args.self.now.by_page.items c.requires.long) (slot_of-filled c.args.self.now.by_page.items _ page)

pub returns-clause-index : goal.returns-clause-index
returns-clause-index c =
    let slots_same : (page : ℕ) → slot_of c.resize.new.self.items page ≡ slot_of c.args.self.now.by_page.items page = λ page. rw (c.in-Ok.ensures.items, take_all 16384 c.args.self.now.by_page.items c.requires.long) (slot_of-filled c.args.self.now.by_page.items _ page) in
    let made : length c.resize.new.self.items ≤ 16384 = search rules in
    rw c.in-Ok-reserve.ensures.items (index_same c.args.self.now.by_page.items c.args.self.now.homes.items c.args.self.now.held.words.items c.resize.new.self.items c.grow.new.self.words.items c.requires slots_same c.in-Ok-grow.ensures.same made (c.in-Ok-grow.ensures.short (omega arith) c.requires.short))

pub returns-clause-slots : goal.returns-clause-slots
returns-clause-slots c = λ page. rw (c.in-Ok.ensures.items, take_all 16384 c.args.self.now.by_page.items c.requires.long) (slot_of-filled c.args.self.now.by_page.items _ page)
