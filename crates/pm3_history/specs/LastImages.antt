-- The last images after a history.
use Rattle.std.specs.Prelude.{ℕ, ◌≡◌, ◌++◌, cond, List, [], ◌∷◌, Option, Some, None}
use Rattle.std.specs.Option.{option_or}
use Rattle.std.specs.FinMap.{get, contains_key}
use Rattle.pm3_types.specs.Fields.{Fields}
use Rattle.pm3_types.specs.Layout.{Sheet}
use Rattle.pm3_history.specs.Entry.{Pass, Done}
use Rattle.pm3_history.specs.State.{State, now}

-- the image of a page in the last commit that wrote it
abbrev pub last_written : List Done → ℕ → Option Sheet
last_written [] page = None
last_written (d ∷ ds) page = option_or (last_written ds page) (get d.written page)

-- the image that a space has of a page after a commit: the pass's own, none of a page that the pass had, else the one before
abbrev pub left_by : Option Pass → ℕ → Option Sheet → Option Sheet
left_by None page before = before
left_by (Some p) page before = option_or (get p.after page) (cond (contains_key p.before page) None before)

-- after a commit the pages have its images over those before it
abbrev pub WrittenStand : Type 0
WrittenStand = (catalog : List Fields) (base : ℕ) (st : State) (h : List Done) (d : Done) (page : ℕ)
    → get (now catalog base st (h ++ d ∷ [])).pages page ≡ option_or (get d.written page) (get (now catalog base st h).pages page)

-- and the spaces have those of its pass
abbrev pub LeftStand : Type 0
LeftStand = (catalog : List Fields) (base : ℕ) (st : State) (h : List Done) (d : Done) (page : ℕ)
    → get (now catalog base st (h ++ d ∷ [])).volatile page ≡ left_by d.pass page (get (now catalog base st h).volatile page)

-- a page has the image of the last commit that wrote it, else the one that it had
abbrev pub LastIsWritten : Type 0
LastIsWritten = (catalog : List Fields) (base : ℕ) (st : State) (h : List Done) (page : ℕ)
    → get (now catalog base st h).pages page ≡ option_or (last_written h page) (get st.pages page)
