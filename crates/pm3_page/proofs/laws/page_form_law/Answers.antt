use Rattle.pm3_page.proofs.FileForms.{read_form, form_read, read_sound, read_same, written_same}
use Rattle.pm3_page.proofs.Faulty.{fault_stands}
use Rattle.pm3_page.proofs.laws.page_form_law.Goals as goal

pub returns-clause-sound : goal.returns-clause-sound
returns-clause-sound c = λ catalog base pages page words sheet all e.
    (read_form catalog base pages page words sheet all e, read_sound catalog base pages page words sheet all e)

pub returns-clause-every : goal.returns-clause-every
returns-clause-every c = λ catalog base pages page words starts form. form_read catalog base pages page words starts form

pub returns-clause-same_words : goal.returns-clause-same_words
returns-clause-same_words c = λ catalog base pages page words sheet most all e. read_same catalog base pages page words sheet most all e

pub returns-clause-same_image : goal.returns-clause-same_image
returns-clause-same_image c = λ catalog base pages image most sound. written_same catalog base pages image.page image.sheet most sound

pub returns-clause-fault : goal.returns-clause-fault
returns-clause-fault c = λ catalog base pages page i words others starts all e same form.
    fault_stands catalog base pages page i words others starts all e same form
