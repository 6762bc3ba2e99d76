use Rattle.std.proofs.Common.{◌≡◌, ◌+◌, ◌-◌, ◌/◌, ◌<◌, ℕ, length, Some, sym, ◌∙◌, ap, arith}
use Rattle.pm3_journal.specs.Pages.{page_at}
use Rattle.pm3_journal.proofs.Rising.{image_between, image_found}
use Rattle.pm3_journal.proofs.file_pages.FilePages.get.Goals as goal

pub returns-then-number-page : goal.returns-then-number-page
returns-then-number-page c =
    let middle : ℕ = c.loop-low.low + (c.loop-low.high - c.loop-low.low) / 2 in
    let within : middle < length c.args.self.now.items = omega arith in
    let here : page_at c.args.self.now.items middle ≡ c.args.page = sym c.number-number.ensures ∙ c.if-number-page.true in
    ap Some c.image.ensures.bytes ∙ sym (image_found c.args.page middle c.args.self.now.items c.loop-low.invariant.rising within here)

pub returns : goal.returns
returns c = sym (image_between c.args.page c.loop-low.low c.loop-low.high c.args.self.now.items c.loop-low-test.false c.loop-low.invariant.below c.loop-low.invariant.above)
