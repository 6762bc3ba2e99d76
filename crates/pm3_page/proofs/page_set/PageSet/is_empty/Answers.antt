use Rattle.std.proofs.Common.{◌≡◌, sym, ap, ◌∙◌}
use Rattle.std.specs.FinSet as set_of
use Rattle.pm3_page.specs.Bits.{pages_of}
use Rattle.std.proofs.lemmas.Bool.{eqb-true, eq-eqb}
use Rattle.std.specs.Ordering.{nat_cmp}
use Rattle.pm3_page.proofs.page_set.PageSet.is_empty.Goals as goal

pub returns : goal.returns
returns c =
    let empty_of_none : pages_of c.self.inside.bits.words.items ≡ set_of.empty → c.args.self.now ≡ set_of.empty = λ e. sym c.self.view_is ∙ e in (
      λ none. empty_of_none (set_of.empty_of_len (pages_of c.self.inside.bits.words.items) (sym c.self.invariant.1 ∙ eqb-true c.self.inside.count 0 none)),
      λ empty. eq-eqb c.self.inside.count 0 (c.self.invariant.1 ∙ ap set_of.len (c.self.view_is ∙ empty) ∙ set_of.len-empty nat_cmp),
    )
