-- The last images after a history.
use Rattle.std.proofs.Common.{◌≡◌, ◌∙◌, ℕ, [], ◌∷◌, Option, Some, None, refl, ap}
use Rattle.std.specs.Option.{option_or}
use Rattle.std.specs.FinMap.{get}
use Rattle.pm3_types.specs.Layout.{Sheet}
use Rattle.pm3_types.specs.Shown.{Images}
use Rattle.pm3_history.specs.Laid.{without}
use Rattle.pm3_history.specs.Entry.{Pass}
use Rattle.pm3_history.specs.State.{State, step, entry_after, next_volatile, now}
use Rattle.pm3_history.specs.LastImages.{last_written, left_by, WrittenStand, LeftStand, LastIsWritten}
use Rattle.pm3_history.proofs.Histories.{goes_on}
use Rattle.pm3_history.proofs.Laying.{get-laid, get-without}

pub written_stand : WrittenStand
written_stand catalog base st h d page =
    ap (λ (s : State). get s.pages page) (goes_on catalog base st h (d ∷ [])) ∙ get-laid (now catalog base st h).pages d.written page

left : (images : Images) (pass : Option Pass) (page : ℕ) → get (next_volatile images pass) page ≡ left_by pass page (get images page)
left images None page = refl
left images (Some p) page =
    get-laid (without images p.before) p.after page ∙ ap (option_or (get p.after page)) (get-without images p.before page)

pub left_stand : LeftStand
left_stand catalog base st h d page =
    ap (λ (s : State). get s.volatile page) (goes_on catalog base st h (d ∷ [])) ∙ left (now catalog base st h).volatile d.pass page

or_or : (a b c : Option Sheet) → option_or a (option_or b c) ≡ option_or (option_or a b) c
or_or None b c = refl
or_or (Some x) b c = refl

pub last_is_written : LastIsWritten
last_is_written catalog base st [] page = refl
last_is_written catalog base st (d ∷ ds) page =
    last_is_written catalog base (step base st (entry_after catalog base st d)) ds page
    ∙ ap (option_or (last_written ds page)) (get-laid st.pages d.written page)
    ∙ or_or (last_written ds page) (get d.written page) (get st.pages page)
