use Rattle.pm3_access.proofs.InPlace.{nothing_in_place, admitted_in_place, space_in_place, grown_in_place, written_in_place}
use Rattle.pm3_access.proofs.MakeSteps.{made_in_place}
use Rattle.pm3_access.proofs.laws.place_law.Goals as goal

pub returns-clause-nothing : goal.returns-clause-nothing
returns-clause-nothing c = nothing_in_place

pub returns-clause-admitted : goal.returns-clause-admitted
returns-clause-admitted c = λ h image places absent. admitted_in_place h places image absent

pub returns-clause-space : goal.returns-clause-space
returns-clause-space c = λ h space places none home absent. space_in_place h places space none home absent

pub returns-clause-grown : goal.returns-clause-grown
returns-clause-grown c = λ h image places absent. grown_in_place h places image absent

pub returns-clause-written : goal.returns-clause-written
returns-clause-written c = λ catalog base h new a place v places is. written_in_place h places catalog base a place v new is

pub returns-clause-made : goal.returns-clause-made
returns-clause-made c = λ catalog base h new ty tail n a places made. made_in_place catalog base h new ty tail n a places made
