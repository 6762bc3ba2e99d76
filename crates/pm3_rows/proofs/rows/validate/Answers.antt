use Rattle.std.proofs.Common.{◌≡◌, ℕ, sym, ◌∙◌, subst, inr}
use Rattle.pm3_core.specs.Naming.{Names}
use Rattle.pm3_table.specs.declared.view.Deed.TheVariants.{Found}
use Rattle.pm3_table.specs.Deeds.{word_of}
use Rattle.pm3_table.specs.Ops.{did}
use Rattle.pm3_rows.proofs.rows.validate.Goals as goal

pub returns-in_default-clause-stands : goal.returns-in_default-clause-stands
returns-in_default-clause-stands g c =
    let row_is : c.row-row.result ≡ c.args.pass.now.1.row = c.row-row.ensures.0 in
    let own : c.read_word-word.result ≡ word_of c.args.pass.now.1.log c.args.place = c.read_word-word.ensures.own row_is in
    let view = c.read_word-word.ensures.view in
    inr (
      (λ page named. c.in_default.ensures page (subst (λ (z : ℕ × ℕ). Names z.0 z.1 page) (λ i. (sym c.page_count.ensures.0 i, sym own i)) named)),
      (view.0, view.1 ∙ (λ i. did c.args.pass.now.1 (Found (row_is i) c.args.place (own i)))),
    )
