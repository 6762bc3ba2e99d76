use Rattle.std.proofs.Common.{rules, ◌≡◌, ◌+◌, ◌++◌, ◌∷◌, [], length, sym, subst}
use Rattle.oo7_dump.specs.Numbers.{AreNumbers}
use Rattle.oo7_dump.proofs.Noted.{numbers_more}
use Rattle.oo7_dump.proofs.met.Met.add.Goals as goal

pub invariant_of-self-2 : goal.invariant_of-self-2
invariant_of-self-2 c =
    let list = c.self.inside.order.items in
    let old = c.self.inside.tables in
    let made = c.make.new.self in
    let now = c.set.new.self in
    let pushed : c.push.new.self.items ≡ list ++ c.args.at ∷ [] = search rules in
    let number : c.len.result + 1 ≡ length list + 1 = search rules in
    subst (AreNumbers now.ends.items now.numbers.items) (sym pushed)
    (numbers_more old.ends.items old.numbers.items made.ends.items made.numbers.items now.ends.items now.numbers.items list c.args.at (c.len.result + 1) c.self.invariant
    (rw (← c.self.view_is) at c.requires.new) number c.set.ensures.tables c.make.ensures.same c.set.ensures.set)
