use Rattle.oo7_schema.proofs.NewNames.{alike_have_one_reading, is_alike_to_its_reading}
use Rattle.oo7_schema.proofs.laws.readings.Goals as goal

pub returns-clause-one : goal.returns-clause-one
returns-clause-one c = alike_have_one_reading

pub returns-clause-own : goal.returns-clause-own
returns-clause-own c = is_alike_to_its_reading
