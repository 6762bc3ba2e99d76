use Rattle.pm3_access.proofs.WriteSteps.{write_step, write_fits, no_write_step}
use Rattle.pm3_access.proofs.BodyWriting.{one_word_written}
use Rattle.pm3_access.proofs.laws.write_law.Goals as goal

pub returns-clause-value : goal.returns-clause-value
returns-clause-value c = λ catalog base book h new a n map place v held value is. write_step catalog base book h a n map place v held new value is

pub returns-clause-fits : goal.returns-clause-fits
returns-clause-fits c = λ catalog base book h new a n map place v held known is. write_fits catalog base book h a n map place v held new known is

pub returns-clause-no_place : goal.returns-clause-no_place
returns-clause-no_place c = λ catalog base book h a n map place v held none. no_write_step catalog base book h a n map place v held none

pub returns-clause-one_word : goal.returns-clause-one_word
returns-clause-one_word c = one_word_written
