use Rattle.std.proofs.Common.{rules, ◌≡◌, ℕ, ◌<◌, eqb, cond, length, set, ap, ◌∙◌, arith, length-set}
use Rattle.pm3_page.specs.PageMap.{slot_of}
use Rattle.pm3_page.proofs.Indexes.{few_homes, slots_set, index_put}
use Rattle.pm3_page.proofs.slots.Slots.put.Goals as goal

pub overflow_cast-len : goal.overflow_cast-len
overflow_cast-len c = let few = few_homes c.args.self.now.by_page.items c.args.self.now.homes.items c.args.self.now.held.words.items c.requires.index in omega (arith, c.len.ensures)

pub returns-clause-index : goal.returns-clause-index
returns-clause-index c =
    let count : c.len.result ≡ length c.args.self.now.homes.items = search rules in
    let ready = c.requires.ready in
    let fits : c.args.page < length c.args.self.now.by_page.items = omega (arith, ready.slots_made) in
    let is = λ (q : ℕ). slots_set c.args.self.now.by_page.items c.args.page c.len.result q fits ∙ ap (λ (slot : ℕ). cond (eqb q c.args.page) slot (slot_of c.args.self.now.by_page.items q)) count in
    rw c.in-Ok.ensures.items (index_put c.args.self.now.by_page.items c.args.self.now.homes.items c.args.self.now.held.words.items (set c.args.self.now.by_page.items c.args.page c.len.result) c.set.new.self.words.items c.args.page c.requires.index c.requires.absent is c.set.ensures.set
    (omega (arith, length-set c.args.self.now.by_page.items c.args.page c.len.result, ready.slots_made)) (omega (arith, c.set.ensures.long, ready.words_made)))
