use Rattle.std.proofs.Common.{◌≡◌, ◌<◌, ◌+◌, ◌∙◌, inl, inr, true, is_some, ap, sym, arith, rules}
use Rattle.std.specs.FinSet as set
use Rattle.std.proofs.lemmas.Bool.{cases_lt, false≢true}
use Rattle.pm3_copy.proofs.LaterPages.{all_later, one_later, none_later}
use Rattle.pm3_copy.proofs.Sent.{sent_none, sent_more, sent_as}
use Rattle.pm3_copy.proofs.sending.send_all.Goals as goal

pub loop-next-init : goal.loop-next-init
loop-next-init c = record {
  home = c.requires.home;
  sent = sent_none (λ p. (set.contains c.args.pages.now p ≡ true) × (p < 0)) c.args.from.now.images c.args.to.now.images (λ p is. omega (arith, is.1));
  low = omega arith;
  room = (let all = ap set.len (all_later c.args.pages.now) in omega (arith, all));
  freed = omega arith;
}

pub send-requires-clause-there : goal.send-requires-clause-there
send-requires-clause-there c =
    ap is_some (c.loop-next.invariant.sent.others c.in-Some.page (λ is. omega (arith, is.1, c.in-Some.ensures.next.reached))).1 ∙ c.requires.there c.in-Some.page c.in-Some.ensures.next.there

pub send-requires-clause-absent : goal.send-requires-clause-absent
send-requires-clause-absent c =
    (c.loop-next.invariant.sent.others c.in-Some.page (λ is. omega (arith, is.1, c.in-Some.ensures.next.reached))).0
    ∙ c.requires.apart c.in-Some.page (c.requires.there c.in-Some.page c.in-Some.ensures.next.there)

pub send-requires-clause-room : goal.send-requires-clause-room
send-requires-clause-room c =
    let less = one_later c.args.pages.now c.loop-next.next c.in-Some.page c.in-Some.ensures.next in
    omega (arith, less, c.loop-next.invariant.room, c.requires.room)

pub loop-next-preserved : goal.loop-next-preserved
loop-next-preserved c = record {
  home = c.send.ensures.home;
  sent = sent_more (λ p. (set.contains c.args.pages.now p ≡ true) × (p < c.loop-next.next)) (λ p. (set.contains c.args.pages.now p ≡ true) × (p < c.in-Some.page + 1)) c.in-Some.page
      c.args.from.now.images c.args.to.now.images c.loop-next.from.images c.loop-next.to.images c.send.new.from.images c.send.new.to.images c.loop-next.invariant.sent c.send.ensures.sent
      (ap is_some (c.loop-next.invariant.sent.others c.in-Some.page (λ is. omega (arith, is.1, c.in-Some.ensures.next.reached))).1 ∙ c.requires.there c.in-Some.page c.in-Some.ensures.next.there)
      (λ p is away. elim (cases_lt p c.loop-next.next) [
        | inl low ↦ (is.0, low)
        | inr high ↦ absurd (false≢true (sym (c.in-Some.ensures.next.least p high (omega (arith, is.1, away))) ∙ is.0))
      ])
      (λ p is. (is.0, omega (arith, is.1, c.in-Some.ensures.next.reached)))
      (c.in-Some.ensures.next.there, omega arith);
  low = (let low : c.in-Some.page < 16384 = search rules in omega arith);
  room = (let less = one_later c.args.pages.now c.loop-next.next c.in-Some.page c.in-Some.ensures.next in omega (arith, less, c.loop-next.invariant.room, c.send.ensures.room));
  freed = omega (arith, c.loop-next.invariant.freed, c.send.ensures.freed);
}

pub returns-clause-sent : goal.returns-clause-sent
returns-clause-sent c =
    sent_as (λ p. (set.contains c.args.pages.now p ≡ true) × (p < c.loop-next.next)) (λ p. set.contains c.args.pages.now p ≡ true) c.args.from.now.images c.args.to.now.images c.loop-next.from.images c.loop-next.to.images
    c.loop-next.invariant.sent
    (λ p is. (is, elim (cases_lt p c.loop-next.next) [ inl low ↦ low | inr high ↦ absurd (false≢true (sym (c.in_default.ensures.next p high) ∙ is)) ]))
    (λ p is. is.0)

pub returns-clause-room : goal.returns-clause-room
returns-clause-room c = (let none = none_later c.args.pages.now c.loop-next.next c.in_default.ensures.next in omega (arith, none, c.loop-next.invariant.room))
