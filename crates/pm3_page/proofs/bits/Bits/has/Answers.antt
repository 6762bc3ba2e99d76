use Rattle.std.proofs.Common.{rules, ◌≡◌, ℕ, ◌/◌, ◌%◌, ◌<◌, ◌≤◌, eqb, length, get_or, sym, ap, ◌∙◌, arith}
use Rattle.pm3_page.proofs.Bitmaps.{has_bit_past, has_bit_of_word}
use Rattle.std.proofs.lemmas.Nat.Bits.{shr_and_one}
use Rattle.pm3_page.proofs.bits.Bits.has.Goals as goal

pub returns-in-Some : goal.returns-in-Some
returns-in-Some c =
    let words = c.args.self.now.words.items in
    let here : c.args.page / 64 < length words = search rules in
    let read : c.in-Some.word.now ≡ get_or words (c.args.page / 64) c.in-Some.word.now = search rules in
    ap (λ (n : ℕ). eqb n 1) (shr_and_one c.in-Some.word.now (c.args.page % 64))
    ∙ sym (has_bit_of_word words (c.args.page / 64) (c.args.page % 64) c.in-Some.word.now c.args.page here read (omega arith) (omega arith))

pub returns-in-None : goal.returns-in-None
returns-in-None c =
    let words = c.args.self.now.words.items in
    let past : length words ≤ c.args.page / 64 = search rules in
    sym (has_bit_past words c.args.page (omega arith))
