use Rattle.std.proofs.Common.{◌≡◌, true, false, inl, inr, sym, subst, List}
use Rattle.pm3_core.specs.declared.events.Event.{Event}
use Rattle.pm3_core.specs.Machine.{opening, reached, run}
use Rattle.pm3_core.specs.Standing.{Stood}
use Rattle.pm3_core.proofs.Stood.{StoodFrom, run_stands, stood_stands, reached_named}
use Rattle.pm3_core.proofs.law.standing_law.Goals as goal

-- nothing stands at the opening
pub returns-clause-since : goal.returns-clause-since
returns-clause-since c pages events n = (λ stands. from_load (run_stands pages n events opening stands), to_stands)
  where
    from_load : StoodFrom pages n events opening → Stood pages n events opening
    from_load (inl start) = let wrong : false ≡ true = start.0 in cc
    from_load (inr stood) = stood

    to_stands : Stood pages n events opening → (reached pages events).stands n ≡ true
    to_stands stood =
        subst (λ (list : List Event). (run pages list opening).stands n ≡ true) (sym stood.are) (stood_stands pages n stood.before stood.load stood.since opening (stood.loads, stood.unmarked) stood.kept)

pub returns-clause-named : goal.returns-clause-named
returns-clause-named c = reached_named
