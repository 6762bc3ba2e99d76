use Rattle.pm3_types.proofs.OnePage.{page_has_form, one_catalog}
use Rattle.pm3_types.proofs.Departing.{departure_stands}
use Rattle.pm3_types.proofs.laws.pages.Goals as goal

pub returns-clause-form : goal.returns-clause-form
returns-clause-form c = page_has_form

pub returns-clause-one : goal.returns-clause-one
returns-clause-one c = one_catalog

pub returns-clause-departure : goal.returns-clause-departure
returns-clause-departure c = λ bytes at maps long departs are. departure_stands bytes at maps long departs are
