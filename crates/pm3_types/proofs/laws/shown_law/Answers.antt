use Rattle.pm3_types.proofs.Books.{get-shown, shown_at, shown_from, shown_alike, shown_changed}
use Rattle.pm3_types.proofs.OneObject.{one_object}
use Rattle.pm3_types.proofs.laws.shown_law.Goals as goal

pub returns-clause-pointwise : goal.returns-clause-pointwise
returns-clause-pointwise c = λ catalog base book images n. get-shown catalog base book images n

pub returns-clause-shows : goal.returns-clause-shows
returns-clause-shows c = λ catalog base book images a n one has. shown_at catalog base book images a n one has

pub returns-clause-only : goal.returns-clause-only
returns-clause-only c = λ catalog base book images n r is. shown_from catalog base book images n r is

pub returns-clause-alike : goal.returns-clause-alike
returns-clause-alike c = λ catalog base book images now alike. shown_alike catalog base book images now alike

pub returns-clause-changed : goal.returns-clause-changed
returns-clause-changed c = λ catalog base book images now a n r one has is others. shown_changed catalog base book images now a n r one has is others

pub returns-clause-on_a_page : goal.returns-clause-on_a_page
returns-clause-on_a_page c = λ catalog base book images p at n sheet now r one low on has others is.
    one_object catalog base book images p at n sheet now r one low on has others is
