use Rattle.std.proofs.Common.{rules, ◌-◌, ◌∙◌, ℕ, ap, arith}
use Rattle.pm3_journal.specs.Pages.{page_at}
use Rattle.pm3_txn.proofs.Filed.{top_last}
use Rattle.pm3_txn.proofs.recording.high_above.Goals as goal

pub returns : goal.returns
returns c =
    let some = c.if-count-eq0.false in
    let count = c.len-count.ensures.len in
    top_last c.args.pages.now.items c.args.high_page c.number.result c.max.result c.len-count.ensures.rising (omega (arith, some, count))
    (c.number.ensures ∙ ap (λ (n : ℕ). page_at c.args.pages.now.items (n - 1)) count) (search rules)
