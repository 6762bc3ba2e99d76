use Rattle.std.proofs.Common.{sym, ap, ◌∙◌, arith}
use Rattle.std.specs.FinSet as set_of
use Rattle.pm3_page.proofs.Bitmaps.{contains-pages_of, same_pages, one_more_page, few_pages, count_of_more, insert_there}
use mathlib.Core.Bool.{true≢false}
use Rattle.pm3_page.proofs.page_set.PageSet.add.Goals as goal

pub returns-then-has-clause-added : goal.returns-then-has-clause-added
returns-then-has-clause-added c = sym c.self.view_is ∙ insert_there c.self.inside.bits.words.items c.args.page (sym c.has.ensures ∙ c.if-has.true) ∙ ap (λ s. set_of.insert s c.args.page) c.self.view_is

pub invariant_of-self : goal.invariant_of-self
invariant_of-self c = (c.in_default.ensures.short (omega arith) c.self.invariant.0, c.self.invariant.1 ∙ ap set_of.len (sym (same_pages c.self.inside.bits.words.items c.grow.new.self.words.items c.in_default.ensures.same)))

pub returns-in_default-clause-refused : goal.returns-in_default-clause-refused
returns-in_default-clause-refused c = same_pages c.self.inside.bits.words.items c.grow.new.self.words.items c.in_default.ensures.same ∙ c.self.view_is

pub returns-in_default-clause-there : goal.returns-in_default-clause-there
returns-in_default-clause-there c = λ there.
    absurd (true≢false (sym there ∙ ap (λ s. set_of.contains s c.args.page) (sym c.self.view_is) ∙ contains-pages_of c.self.inside.bits.words.items c.args.page ∙ sym c.has.ensures ∙ c.if-has.false))

pub overflow_add-self : goal.overflow_add-self
overflow_add-self c = omega (arith, few_pages c.self.inside.bits.words.items c.self.invariant.0)

pub invariant_of-self-2 : goal.invariant_of-self-2
invariant_of-self-2 c =
    let grown = c.grow.new.self.words.items in
    let short = c.in-Ok.ensures.short (omega arith) c.self.invariant.0 in (
      omega (arith, c.set.ensures.long),
      count_of_more grown c.set.new.self.words.items c.args.page c.self.inside.count c.set.ensures.set
          (c.in-Ok.ensures.same c.args.page ∙ sym c.has.ensures ∙ c.if-has.false)
          (c.self.invariant.1 ∙ ap set_of.len (sym (same_pages c.self.inside.bits.words.items grown c.in-Ok.ensures.same))),
    )

pub returns-clause-added : goal.returns-clause-added
returns-clause-added c =
    let grown = c.grow.new.self.words.items in
    one_more_page grown c.set.new.self.words.items c.args.page c.set.ensures.set
    ∙ ap (λ s. set_of.insert s c.args.page) (same_pages c.self.inside.bits.words.items grown c.in-Ok.ensures.same ∙ c.self.view_is)
