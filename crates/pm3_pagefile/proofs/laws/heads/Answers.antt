use Rattle.pm3_pagefile.proofs.OneHead.{head_has_form, one_head}
use Rattle.pm3_pagefile.proofs.HeadStands.{head_departure_stands}
use Rattle.pm3_pagefile.proofs.laws.heads.Goals as goal

pub returns-clause-form : goal.returns-clause-form
returns-clause-form c = head_has_form

pub returns-clause-one : goal.returns-clause-one
returns-clause-one c = one_head

pub returns-clause-stands : goal.returns-clause-stands
returns-clause-stands c = head_departure_stands
