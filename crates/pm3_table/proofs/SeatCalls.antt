-- What splits and joins of seats ask, over passes' fields.
use Rattle.std.proofs.Common.{◌≡◌, ℕ, true, List, [], Option, refl, sym, subst}
use Rattle.atomic_table.specs.Table.{Splits, Joins}
use Rattle.pm3_history.specs.Entry.{Done}
use Rattle.pm3_table.specs.declared.view.Told.{Told}
use Rattle.pm3_table.specs.declared.view.View.{View}
use Rattle.pm3_table.specs.Ops.{drew_row}
use Rattle.pm3_table.specs.Rule.{Ruled}
use Rattle.pm3_table.specs.Seats.{left_view, new_view, both_views, first_of, IsBlank}
use Rattle.pm3_table.specs.Starting.{spent_view}
use Rattle.pm3_table.proofs.SeatSteps.{splits, joins}

module _ {V : Type 0} (stands : Told → List Done → List Done → ℕ → V → Type 0) (spans : V → List ℕ) (counted : V → ℕ) (told : Told) (id : ℕ) (v : View) (live : v.live ≡ true) where
  pub split_call : (n : ℕ) (w : View) → w ≡ drew_row v n → Splits {S = Option V} (Ruled stands spans counted told) id w (left_view w) (new_view (first_of w.rows) w)
  split_call n w is = subst (λ (y : View). Splits {S = Option V} (Ruled stands spans counted told) id y (left_view y) (new_view (first_of y.rows) y)) (sym is)
      (λ s r seat. splits stands spans counted told s r id (drew_row v n) (seat, live) n v.rows refl)

  pub join_call : (other : ℕ) (x : View) → x.live ≡ true → IsBlank x → x.drawing ≡ 0 → x.rows ≡ []
      → Joins {S = Option V} (Ruled stands spans counted told) id v other x (both_views v x) spent_view
  join_call other x lives blank idle no_rows = λ s r seat apart at. joins stands spans counted told s r id v (seat, live) other x apart at lives blank idle no_rows
