use Rattle.oo7_dump.proofs.Loading.{loads_then}
use Rattle.oo7_dump.proofs.walking.meet_reached.Goals as goal

pub returns-in-Ok-meet_from_roots-clause-loads : goal.returns-in-Ok-meet_from_roots-clause-loads
returns-in-Ok-meet_from_roots-clause-loads g c = loads_then c.in-Ok.ensures.loads c.in-Ok-meet_from_roots.ensures.loads

pub returns-in-Err-meet_from_roots-clause-loads : goal.returns-in-Err-meet_from_roots-clause-loads
returns-in-Err-meet_from_roots-clause-loads g c = loads_then c.in-Ok.ensures.loads c.in-Err-meet_from_roots.ensures.loads
