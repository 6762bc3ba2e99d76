use Rattle.pm3_access.proofs.MakeSteps.{made_step, made_fits, made_new}
use Rattle.pm3_access.proofs.laws.make_law.Goals as goal

pub returns-clause-step : goal.returns-clause-step
returns-clause-step c = λ catalog base book h new ty tail n a places low may fresh made. made_step catalog base h new ty tail n a places made book low may fresh

pub returns-clause-fits : goal.returns-clause-fits
returns-clause-fits c = λ catalog base book h new ty tail n a places low may fresh made. made_fits catalog base h new ty tail n a places made book low may fresh

pub returns-clause-address : goal.returns-clause-address
returns-clause-address c = λ catalog base book h new ty tail n a places low may fresh made. made_new catalog base h new ty tail n a places made book low may fresh
