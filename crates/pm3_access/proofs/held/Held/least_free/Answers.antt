use Rattle.std.proofs.Common.{rules, ◌+◌, refl}
use Rattle.std.specs.FinSet as set
use Rattle.pm3_core.specs.declared.naming.TheConstants.{BASE}
use Rattle.pm3_access.specs.Holding.{by_space, with_free}
use Rattle.pm3_access.proofs.SoundingHeld.{sound_by_space, sound_option}
use Rattle.pm3_access.proofs.held.Held.least_free.Goals as goal

pub returns-clause-taken : goal.returns-clause-taken
returns-clause-taken c = search rules

pub returns-clause-form : goal.returns-clause-form
returns-clause-form c =
    λ catalog refers sound. sound_option catalog BASE refers c.take_least.result c.args.self.now _ (λ page. by_space (λ s. with_free s (set.remove s.free page) (s.room + 1)) c.args.self.now)
    (returns-clause-taken c)
    (λ page. sound_by_space catalog BASE refers (λ s. with_free s (set.remove s.free page) (s.room + 1)) c.args.self.now (λ s. refl) sound) sound
