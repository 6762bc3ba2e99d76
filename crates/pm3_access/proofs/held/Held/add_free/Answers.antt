use Rattle.std.proofs.Common.{rules, ◌-◌, refl, sym, subst}
use Rattle.std.specs.FinSet as set
use Rattle.pm3_core.specs.declared.naming.TheConstants.{BASE}
use Rattle.pm3_access.specs.Access.{HaveForm}
use Rattle.pm3_access.specs.Holding.{with_free}
use Rattle.pm3_access.proofs.SoundingHeld.{sound_by_space}
use Rattle.pm3_access.proofs.held.Held.add_free.Goals as goal

pub returns-clause-added : goal.returns-clause-added
returns-clause-added c = search rules

pub returns-clause-form : goal.returns-clause-form
returns-clause-form c =
    λ catalog refers sound. subst (HaveForm catalog refers) (sym (returns-clause-added c))
    (sound_by_space catalog BASE refers (λ s. with_free s (set.insert s.free c.args.page) (s.room - 1)) c.args.self.now (λ s. refl) sound)
