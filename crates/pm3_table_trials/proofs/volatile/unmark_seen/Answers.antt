use Rattle.std.proofs.Common.{sym, ap, ◌∙◌, subst}
use Rattle.pm3_table.specs.declared.view.View.{View}
use Rattle.pm3_table.specs.Telling.{HasInSpace}
use Rattle.pm3_table_trials.proofs.volatile.unmark_seen.Goals as goal

pub unmark-requires-clause-has : goal.unmark-requires-clause-has
unmark-requires-clause-has g c = (c.args.space, c.requires.has)

pub word_of_page-requires-clause-has : goal.word_of_page-requires-clause-has
word_of_page-requires-clause-has g c = (c.args.space, subst (λ (v : View). HasInSpace c.args.shared.now.1 v c.args.space c.args.page) (sym c.unmark.ensures.1) c.requires.has)

pub returns-clause-has : goal.returns-clause-has
returns-clause-has g c = subst (λ (v : View). HasInSpace c.args.shared.now.1 v c.args.space c.args.page) (sym (ap (λ p. p.1) c.word_of_page.ensures ∙ c.unmark.ensures.1)) c.requires.has
