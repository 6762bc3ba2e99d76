use Rattle.std.proofs.Common.{◌<◌, ◌≤◌, ◌+◌, sym, subst, arith, rules}
use Rattle.pm3_copy.proofs.Sent.{AreGoing, going_none, going_more, going_all}
use Rattle.pm3_copy.proofs.sending.give_up.Goals as goal

pub loop-next-init : goal.loop-next-init
loop-next-init c = record { going = going_none c.args.pages.now c.args.images.now.images; low = omega arith; room = omega arith }

pub loop-next-preserved : goal.loop-next-preserved
loop-next-preserved c = record {
  going = subst (λ m. AreGoing c.args.pages.now c.args.images.now.images m (c.in-Some.page + 1)) (sym c.take.ensures.images)
      (going_more c.args.pages.now c.args.images.now.images c.loop-next.images.images c.loop-next.next c.in-Some.page c.loop-next.invariant.going c.in-Some.ensures.next);
  low = (let low : c.in-Some.page < 16384 = search rules in omega arith);
  room = (let more : c.loop-next.images.spare ≤ c.take.new.self.spare = search rules in omega (arith, more, c.loop-next.invariant.room));
}

pub returns-clause-gone : goal.returns-clause-gone
returns-clause-gone c = going_all c.args.pages.now c.args.images.now.images c.loop-next.images.images c.loop-next.next c.loop-next.invariant.going c.in_default.ensures.next
