use Rattle.std.proofs.Common.{◌≡◌, ◌-◌, ◌∙◌, length, get_or, ap, arith, rules}
use Rattle.pm3_core.specs.declared.naming.TheConstants.{BASE}
use Rattle.pm3_copy.proofs.BothMoves.{among}
use Rattle.pm3_copy.proofs.Following.{by_first, by_second}
use Rattle.pm3_copy.proofs.Numbered.{numbered_at}
use Rattle.pm3_copy.proofs.tables.Tables.follow.Goals as goal

pub returns-then-number-first : goal.returns-then-number-first
returns-then-number-first c =
    let first : c.len-first.result ≡ length c.args.self.now.promoted.olds.items = search rules in
    c.partner.ensures ∙ by_first c.args.self.now.promoted.olds.items c.args.self.now.promoted.news.items c.args.self.now.kept.olds.items c.args.self.now.kept.news.items c.args.word c.requires.promoted_whole
    (among c.args.self.now.promoted.olds.items c.args.word) (λ there.
    let number = numbered_at BASE c.args.self.now.index.blocks.by_page.items c.args.self.now.index.numbers.items (length c.args.self.now.promoted.olds.items) c.args.self.now.kept.olds.items c.args.word c.requires.numbered.1 there in
    omega (arith, number.3, c.number_of-number.ensures, c.if-number-first.true))

pub partner-requires-2-clause-numbered : goal.partner-requires-2-clause-numbered
partner-requires-2-clause-numbered c there =
    let first : c.len-first.result ≡ length c.args.self.now.promoted.olds.items = search rules in
    let number = numbered_at BASE c.args.self.now.index.blocks.by_page.items c.args.self.now.index.numbers.items (length c.args.self.now.promoted.olds.items) c.args.self.now.kept.olds.items c.args.word c.requires.numbered.1 there in
    let place : c.number_of-number.result - c.len-first.result ≡ number.0 = omega (arith, number.3, c.number_of-number.ensures) in
    (omega (arith, place, number.1), ap (λ k. get_or c.args.self.now.kept.olds.items k 0) place ∙ number.2)

pub returns : goal.returns
returns c =
    let first : c.len-first.result ≡ length c.args.self.now.promoted.olds.items = search rules in
    c.partner-2.ensures ∙ by_second c.args.self.now.promoted.olds.items c.args.self.now.promoted.news.items c.args.self.now.kept.olds.items c.args.self.now.kept.news.items c.args.word c.requires.promoted_whole (λ there.
    let number = numbered_at BASE c.args.self.now.index.blocks.by_page.items c.args.self.now.index.numbers.items 0 c.args.self.now.promoted.olds.items c.args.word c.requires.numbered.0 there in
    omega (arith, number.1, number.3, c.number_of-number.ensures, c.if-number-first.false))
