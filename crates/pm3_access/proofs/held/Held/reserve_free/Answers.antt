use Rattle.std.proofs.Common.{rules, max, refl}
use Rattle.pm3_core.specs.declared.naming.TheConstants.{BASE}
use Rattle.pm3_access.specs.Holding.{by_space, with_free}
use Rattle.pm3_access.proofs.SoundingHeld.{sound_by_space, sound_result}
use Rattle.pm3_access.proofs.held.Held.reserve_free.Goals as goal

pub returns-clause-room : goal.returns-clause-room
returns-clause-room c = search rules

pub returns-clause-refused : goal.returns-clause-refused
returns-clause-refused c = search rules

pub returns-clause-form : goal.returns-clause-form
returns-clause-form c =
    λ catalog refers sound. sound_result catalog BASE refers c.reserve.result c.args.self.now _ (by_space (λ s. with_free s s.free (max s.room c.args.more)) c.args.self.now)
    (returns-clause-room c) (returns-clause-refused c)
    (sound_by_space catalog BASE refers (λ s. with_free s s.free (max s.room c.args.more)) c.args.self.now (λ s. refl)) sound
