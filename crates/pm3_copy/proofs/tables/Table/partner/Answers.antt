use Rattle.std.proofs.Common.{◌<◌, ◌≡◌, ◌∙◌, length, get_or, ap, sym, arith, rules}
use Rattle.std.proofs.lemmas.List.{get_or_default}
use Rattle.pm3_copy.specs.Tables.{new_address}
use Rattle.pm3_copy.proofs.Following.{to_partner, stays}
use Rattle.pm3_copy.proofs.tables.Table.partner.Goals as goal
use Rattle.pm3_copy.proofs.tables.Table.partner.Goals.{else-number-len-via-then-number-len+else-index-word, else-number-len-via-else-number-len}

pub returns-then-index-word : goal.returns-then-index-word
returns-then-index-word c =
    let low : c.args.number < length c.args.self.now.olds.items = search rules in
    let there : c.args.number < length c.args.self.now.news.items = omega (arith, low, c.requires.whole) in
    let at : get_or c.args.self.now.olds.items c.args.number 0 ≡ c.args.word = sym (c.index.ensures ∙ get_or_default c.args.self.now.olds.items c.args.number c.index.result.now 0 low) ∙ c.if-index-word.true in
    c.index-then-index-word.ensures ∙ get_or_default c.args.self.now.news.items c.args.number c.index-then-index-word.result.now 0 there
    ∙ sym (to_partner c.args.self.now.olds.items c.args.self.now.news.items c.args.number c.requires.rising c.requires.whole low) ∙ ap (new_address c.args.self.now.olds.items c.args.self.now.news.items) at

pub returns : goal.returns
returns c = sym (stays c.args.self.now.olds.items c.args.self.now.news.items c.args.word (λ there.
    let number = c.requires.numbered there in
    let long : c.len.result ≡ length c.args.self.now.olds.items = search rules in
    elim c.else-number-len.branch [
      | else-number-len-via-then-number-len+else-index-word w ↦
          w.if-index-word.false (w.index.ensures ∙ get_or_default c.args.self.now.olds.items c.args.number w.index.result.now 0 number.0 ∙ number.1)
      | else-number-len-via-else-number-len w ↦ omega (arith, number.0, w.if-number-len.false)
    ]))
