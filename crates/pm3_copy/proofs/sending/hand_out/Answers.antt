use Rattle.std.proofs.Common.{◌<◌, ◌∙◌, sym, arith, rules}
use Rattle.std.specs.FinMap as map
use Rattle.std.proofs.lemmas.Bool.{false≢true}
use Rattle.pm3_copy.proofs.Sent.{sending_none, sending_more, sending_all, one_left, still_free, others_there}
use Rattle.pm3_copy.proofs.sending.hand_out.Goals as goal

pub loop-init : goal.loop-init
loop-init c = record {
  home = c.requires.home;
  sending = λ list more least long. sending_none list more (map.contains_key c.args.from.now.images) c.args.from.now.images c.args.to.now.images c.args.start least;
  low = c.requires.low;
  room = omega arith;
}

pub unreachable-requires : goal.unreachable-requires
unreachable-requires c =
    let pages = c.requires.pages in
    let are = c.loop.invariant.sending pages.0 pages.1 pages.2 pages.3 in
    let one = one_left pages.0 pages.1 (map.contains_key c.loop.from.images) c.args.from.now.images c.args.to.now.images c.loop.from.images c.loop.to.images c.loop.next c.loop.counter are (omega (arith, c.loop-test.true, pages.3)) in
    false≢true (sym (c.in_default.ensures.next one.0 one.1.reached) ∙ one.1.there)

pub send-requires-clause-absent : goal.send-requires-clause-absent
send-requires-clause-absent c =
    let pages = c.requires.pages in
    let are = c.loop.invariant.sending pages.0 pages.1 pages.2 pages.3 in
    still_free pages.0 pages.1 (map.contains_key c.loop.from.images) c.args.from.now.images c.args.to.now.images c.loop.from.images c.loop.to.images c.loop.next c.loop.counter are c.in-Some.page c.requires.apart
    c.in-Some.ensures.next.there

pub loop-preserved : goal.loop-preserved
loop-preserved c = record {
  home = c.send.ensures.home;
  sending = λ list more least long.
      sending_more list more (map.contains_key c.loop.from.images) c.args.from.now.images c.args.to.now.images c.loop.from.images c.loop.to.images c.loop.next c.loop.counter (c.loop.invariant.sending list more least long)
      c.in-Some.page c.send.new.from.images c.send.new.to.images (map.contains_key c.send.new.from.images) (omega (arith, c.loop-test.true, long)) c.in-Some.ensures.next c.in-Some.ensures.next.there c.send.ensures.sent
      (others_there c.in-Some.page c.loop.from.images c.loop.to.images c.send.new.from.images c.send.new.to.images c.send.ensures.sent);
  low = (let low : c.in-Some.page < 16384 = search rules in omega arith);
  room = omega (arith, c.loop.invariant.room, c.send.ensures.room);
}

pub returns-clause-sent : goal.returns-clause-sent
returns-clause-sent c list more least long =
    sending_all list more (map.contains_key c.loop.from.images) c.args.from.now.images c.args.to.now.images c.loop.from.images c.loop.to.images c.loop.next c.loop.counter (c.loop.invariant.sending list more least long)
    (omega (arith, c.loop-test.false, long))
