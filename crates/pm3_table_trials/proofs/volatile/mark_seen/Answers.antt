use Rattle.std.proofs.Common.{true, sym, ap, ◌∙◌, subst}
use Rattle.pm3_table.specs.declared.view.View.{View}
use Rattle.pm3_table.specs.Deeds.{marks_of}
use Rattle.pm3_table.specs.Telling.{HasInSpace}
use Rattle.pm3_table.proofs.Put.{put_here}
use Rattle.pm3_table_trials.proofs.volatile.mark_seen.Goals as goal

pub mark-requires-clause-has : goal.mark-requires-clause-has
mark-requires-clause-has g c = (c.args.space, c.requires.has)

pub word_of_page-requires-clause-has : goal.word_of_page-requires-clause-has
word_of_page-requires-clause-has g c = (c.args.space, subst (λ (v : View). HasInSpace c.args.shared.now.1 v c.args.space c.args.page) (sym c.mark.ensures.1) c.requires.has)

pub returns-clause-has : goal.returns-clause-has
returns-clause-has g c = subst (λ (v : View). HasInSpace c.args.shared.now.1 v c.args.space c.args.page) (sym (ap (λ p. p.1) c.word_of_page.ensures ∙ c.mark.ensures.1)) c.requires.has

pub returns-clause-marked : goal.returns-clause-marked
returns-clause-marked g c = ap (λ (v : View). marks_of v.log c.args.page) (ap (λ p. p.1) c.word_of_page.ensures ∙ c.mark.ensures.1)
    ∙ put_here (marks_of c.args.pass.now.1.log) c.args.page true
