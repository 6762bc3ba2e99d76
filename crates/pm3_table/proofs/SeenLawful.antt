-- What a view has seen is lawful.
use Rattle.std.proofs.Common.{◌≡◌, ℕ, List, ◌++◌, Option, ap, ◌∙◌, subst}
use Rattle.atomic_table.specs.Table.{State}
use Rattle.pm3_core.specs.declared.naming.TheConstants.{BASE}
use Rattle.pm3_history.specs.Entry.{Done}
use Rattle.pm3_history.specs.Lawful.{AreLawful}
use Rattle.pm3_history.specs.Opens.{LawfulFrom}
use Rattle.pm3_history.proofs.Histories.{lawful_split}
use Rattle.pm3_table.specs.declared.view.Told.{Told}
use Rattle.pm3_table.specs.declared.view.View.{View}
use Rattle.pm3_table.specs.Crew.{Lives}
use Rattle.pm3_table.specs.Rule.{Ruled}
use Rattle.pm3_table.specs.Telling.{Lawful}
use Rattle.pm3_table.proofs.RowSteps.{here_is, here_lives}

-- a beginning of a lawful history is lawful
pub lawful_begun : (told : Told) (h seen after : List Done) → h ≡ seen ++ after → Lawful told h → Lawful told seen
unfolding LawfulFrom
lawful_begun told h seen after is lawful = λ st opens.
    (lawful_split told.opening.catalog BASE told.pages st seen after (subst (λ (l : List Done). AreLawful told.opening.catalog BASE told.pages st l) is (lawful st opens))).0

pub seen_lawful : {V : Type 0} (stands : Told → List Done → List Done → ℕ → V → Type 0) (spans : V → List ℕ) (counted : V → ℕ) (told : Told) (s : State (Option V) View)
    (r : Ruled stands spans counted told s) (id : ℕ) (v : View) → Lives s.views id v → Lawful told v.seen
seen_lawful stands spans counted told s r id v l =
    let know = r.units.known v.row (here_lives stands spans counted told s r id v l) in
    lawful_begun told r.history v.seen know.after (know.is ∙ ap (λ (y : View). y.seen ++ know.after) (here_is stands spans counted told s r id v l)) r.lawful.0
