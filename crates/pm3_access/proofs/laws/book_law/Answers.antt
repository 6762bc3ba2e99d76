use Rattle.pm3_access.proofs.BookSteps.{nothing_named, made_held, others_new}
use Rattle.pm3_access.proofs.laws.book_law.Goals as goal

pub returns-clause-nothing : goal.returns-clause-nothing
returns-clause-nothing c = λ catalog base n. nothing_named catalog base n

pub returns-clause-made : goal.returns-clause-made
returns-clause-made c = λ catalog base book h new ty tail n a map given is. made_held catalog base book h new ty tail n a given map is

pub returns-clause-others : goal.returns-clause-others
returns-clause-others c = λ catalog base book h new ty tail n a m given apart other. others_new catalog base book h new ty tail n a given m apart other
