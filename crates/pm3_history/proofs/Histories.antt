-- Histories of several commits.
use Rattle.std.proofs.Common.{ℕ, List, [], ◌∷◌, ◌++◌, refl}
use Rattle.pm3_types.specs.Fields.{Fields}
use Rattle.pm3_history.specs.Entry.{Done}
use Rattle.pm3_history.specs.State.{State, step, entry_after, now}
use Rattle.pm3_history.specs.Lawful.{AreLawful}
use Rattle.pm3_history.specs.Opens.{LawfulFrom}
use Rattle.pm3_history.specs.HistoryLaws.{GoesOn, GraphIsFold, LawfulParts, LooseIsLawful}

pub goes_on : GoesOn
goes_on catalog base st [] more = refl
goes_on catalog base st (d ∷ ds) more = goes_on catalog base (step base st (entry_after catalog base st d)) ds more

pub graph_is : GraphIsFold
graph_is catalog base st [] = refl
graph_is catalog base st (d ∷ ds) = graph_is catalog base (step base st (entry_after catalog base st d)) ds

pub lawful_split : (catalog : List Fields) (base pages : ℕ) (st : State) (h more : List Done)
    → AreLawful catalog base pages st (h ++ more)
    → AreLawful catalog base pages st h × AreLawful catalog base pages (now catalog base st h) more
lawful_split catalog base pages st [] more are = (tt, are)
lawful_split catalog base pages st (d ∷ ds) more are =
    let rest = lawful_split catalog base pages (step base st (entry_after catalog base st d)) ds more are.1 in
    ((are.0, rest.0), rest.1)

pub lawful_join : (catalog : List Fields) (base pages : ℕ) (st : State) (h more : List Done)
    → AreLawful catalog base pages st h × AreLawful catalog base pages (now catalog base st h) more
    → AreLawful catalog base pages st (h ++ more)
lawful_join catalog base pages st [] more are = are.1
lawful_join catalog base pages st (d ∷ ds) more are =
    (are.0.0, lawful_join catalog base pages (step base st (entry_after catalog base st d)) ds more (are.0.1, are.1))

pub lawful_parts : LawfulParts
lawful_parts catalog base pages st h more =
    (lawful_split catalog base pages st h more, lawful_join catalog base pages st h more)

pub loose_is_lawful : LooseIsLawful
unfolding LawfulFrom
loose_is_lawful base pages o h none st opens = absurd (none st opens)
