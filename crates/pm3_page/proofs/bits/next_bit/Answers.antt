use Rattle.std.proofs.Common.{rules, ◌+◌, ◌*◌, ◌<◌, ◌≤◌, length, get_or, arith, inl, inr}
use Rattle.std.proofs.lemmas.Bool.{cases_lt}
use Rattle.std.proofs.lemmas.List.{get_or_default}
use Rattle.pm3_page.proofs.Bitmaps.{has_bit_past, none_in_word, least_in_word}
use Rattle.pm3_page.proofs.bits.next_bit.Goals as goal

pub loop-i-init : goal.loop-i-init
loop-i-init c = (omega arith, omega arith, λ q ge lt. absurd (omega arith))

pub loop-i-preserved : goal.loop-i-preserved
loop-i-preserved c =
    let before = c.loop-i.invariant in
    let here : c.loop-i.i < length c.args.words.now = search rules in
    let more = none_in_word c.args.words.now c.args.start c.loop-i.i c.loop-i.low (get_or c.args.words.now c.loop-i.i 0) here (get_or_default c.args.words.now c.loop-i.i 0 (get_or c.args.words.now c.loop-i.i 0) here) before.2 c.in_default.ensures.next in
    (omega arith, omega arith, λ q ge lt. more q ge (omega arith))

pub returns-in-Some-clause-next : goal.returns-in-Some-clause-next
returns-in-Some-clause-next c =
    let before = c.loop-i.invariant in
    let here : c.loop-i.i < length c.args.words.now = search rules in
    least_in_word c.args.words.now c.args.start c.loop-i.i c.loop-i.low c.in-Some.bit (get_or c.args.words.now c.loop-i.i 0) here (get_or_default c.args.words.now c.loop-i.i 0 (get_or c.args.words.now c.loop-i.i 0) here) c.in-Some.ensures.small before.1 before.2 c.in-Some.ensures.next

pub returns-clause-next : goal.returns-clause-next
returns-clause-next c =
    let past = c.loop-i-test.false in
    let end : length c.args.words.now ≤ c.loop-i.i = search rules in
    λ q ge. elim (cases_lt q (64 * c.loop-i.i + c.loop-i.low)) [
      | inl lt ↦ c.loop-i.invariant.2 q ge lt
      | inr above ↦ has_bit_past c.args.words.now q (omega arith)
    ]

pub returns-in-Some-clause-within : goal.returns-in-Some-clause-within
returns-in-Some-clause-within c =
    let here : c.loop-i.i < length c.args.words.now = search rules in
    omega (arith, c.in-Some.ensures.small)
