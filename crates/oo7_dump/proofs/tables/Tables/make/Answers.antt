use Rattle.std.proofs.Common.{rules, ◌≡◌, ◌<◌, ◌+◌, ◌-◌, ◌++◌, ℕ, List, length, replicate, take, ap, ◌∙◌, arith, vec_len}
use Rattle.std.proofs.lemmas.List.{take_all}
use Rattle.oo7_dump.specs.Numbers.{end_of}
use Rattle.oo7_dump.proofs.Noted.{noted_made}
use Rattle.oo7_dump.proofs.tables.Tables.make.Goals as goal

pub returns-clause-same : goal.returns-clause-same
returns-clause-same c = λ a.
    let ends = c.args.self.now.ends.items in
    let numbers = c.args.self.now.numbers.items in
    let len : c.len-end.result ≡ length numbers = search rules in
    let none : end_of ends c.args.page < 512 = omega (arith, c.if-end-ge-PAGE_WORDS.false, c.end.ensures) in
    let vec : vec_len c.args.self.now.numbers ≡ length numbers = search rules in
    let more : c.len-end.result + 512 - vec_len c.args.self.now.numbers ≡ 512 = omega (arith, len, vec) in
    let made : c.resize.new.self.items ≡ numbers ++ replicate 512 0 =
    c.in-Ok-resize.ensures.items ∙ ap (λ (n : ℕ). take (c.len-end.result + 512) numbers ++ replicate n 0) more
    ∙ ap (λ (l : List ℕ). l ++ replicate 512 0) (take_all (c.len-end.result + 512) numbers (omega (arith, len))) in
    rw made (rw len (noted_made ends c.widen.new.ends.items numbers c.args.page c.requires.tables c.widen.ensures.same c.in-Ok.ensures.there none a))
