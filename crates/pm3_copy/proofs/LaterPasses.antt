-- What a pass leaves where it is, and what a later pass finds of it.
use Rattle.std.proofs.Common.{◌≡◌, ◌==◌, ◌∙◌, ◌⊎◌, inl, inr, ℕ, suc, true, List, [], ◌∷◌, ◌++◌, take, drop, None, is_some, refl, sym, ap, arith}
use Rattle.std.specs.FinMap.{get}
use Rattle.std.specs.FinSet as set
use Rattle.std.specs.List.{Contains}
use Rattle.std.proofs.lemmas.Bool.{cond-false, ne_eqb, false≢true}
use Rattle.pm3_types.specs.Fields.{Fields}
use Rattle.pm3_types.specs.Layout.{page_in}
use Rattle.pm3_types.specs.Least.Least.{begin}
use Rattle.pm3_types.specs.PassMoves.{Move, AreMoves, paired, moved_by, moves_of, settled, sizes, wanted_by}
use Rattle.pm3_types.specs.PassSets.{Before, Promoted, is_pinned}
use Rattle.pm3_types.specs.PassShown.{AreJoined}
use Rattle.pm3_types.specs.Shown.{Images}
use Rattle.pm3_types.proofs.PassCarried.{no_object}
use Rattle.pm3_types.proofs.PassLater.{nothing_later}
use Rattle.pm3_copy.specs.CarriedOut.{IsCarriedOut}
use Rattle.pm3_copy.specs.PassLaws.{IsQuiet}
use Rattle.pm3_copy.specs.Planning.{PlanState, IsPlan}

-- what is none of the old addresses stays
stays_behind : (olds news : List ℕ) (ms : List Move) (w : ℕ) → (Contains olds w → ⊥) → moved_by (paired olds news ++ ms) w ≡ moved_by ms w
stays_behind [] news ms w never = refl
stays_behind (x ∷ xs) [] ms w never = refl
stays_behind (x ∷ xs) (y ∷ ys) ms w never =
    cond-false (x == w) _ _ (ne_eqb x w (λ e. never (0, omega arith, e))) ∙ stays_behind xs ys ms w (λ c. never (suc c.0, omega (arith, c.1), c.2))

stays_last : (olds news : List ℕ) (w : ℕ) → (Contains olds w → ⊥) → moved_by (paired olds news) w ≡ w
stays_last [] news w never = refl
stays_last (x ∷ xs) [] w never = refl
stays_last (x ∷ xs) (y ∷ ys) w never =
    cond-false (x == w) _ _ (ne_eqb x w (λ e. never (0, omega arith, e))) ∙ stays_last xs ys w (λ c. never (suc c.0, omega (arith, c.1), c.2))

module _ (catalog : List Fields) (base : ℕ) (before : Before) (fresh : List ℕ) (moves : List Move) (are : AreMoves catalog base before fresh moves) where
  -- what is no mover stays
  unmoved : (a : ℕ) → (Contains are.promoted a → ⊥) → (Contains are.kept a → ⊥) → moved_by moves a ≡ a
  unmoved a none neither =
      ap (λ ms. moved_by ms a) are.are
      ∙ stays_behind are.promoted (settled base (sizes catalog base before.space are.promoted) (take (wanted_by catalog base before.space are.promoted) fresh))
      (moves_of catalog base before.space are.kept (drop (wanted_by catalog base before.space are.promoted) fresh)) a none
      ∙ stays_last are.kept (settled base (sizes catalog base before.space are.kept) (drop (wanted_by catalog base before.space are.promoted) fresh)) a neither

  pub pinned_quiet : (p : ℕ) → set.contains before.pinned p ≡ true → IsQuiet catalog base before moves p
  pinned_quiet p pin a on =
      let here : is_pinned base before a ≡ true = ap (set.contains before.pinned) on ∙ pin in (
        unmoved a (λ c. false≢true (sym (are.of_promoted.only a c).1 ∙ here)) (λ c. false≢true (sym (are.of_kept.only a c).1 ∙ here)),
        λ dead. dead.1 (inr (begin a (dead.0, here, λ is. dead.1 (inl is)))),
      )

  pub others_quiet : (p : ℕ) → get before.space p ≡ None → IsQuiet catalog base before moves p
  others_quiet p none a on =
      let away : get before.space (page_in base a) ≡ None = ap (get before.space) on ∙ none in (
        unmoved a (nothing_later catalog base before are.promoted a (inl are.of_promoted) away) (nothing_later catalog base before are.kept a (inr are.of_kept) away),
        λ dead. no_object base before.space a away dead.0,
      )

-- what was promoted stands on no page of the space
pub gone_from : (catalog : List Fields) (base : ℕ) (before : Before) (fresh : List ℕ) (all now space written : Images) (done : IsCarriedOut catalog base before fresh all now space written) → AreJoined space written now
    → (later : Before) → later.space ≡ space → (a : ℕ) → Promoted catalog base before a → get later.space (page_in base (moved_by done.moves a)) ≡ None
gone_from catalog base before fresh all now space written done joined later same a is =
    ap (λ (s : Images). get s (page_in base (moved_by done.moves a))) same ∙ elim (joined.apart (page_in base (moved_by done.moves a))) [
      | inl none ↦ none
      | inr none ↦ absurd (false≢true (sym (ap is_some none) ∙ done.persistent a is))
    ]

-- so no plan of a later pass has it
pub planned_away : (catalog : List Fields) (base : ℕ) (before : Before) (fresh : List ℕ) (all now space written : Images) (done : IsCarriedOut catalog base before fresh all now space written) → AreJoined space written now
    → (later : Before) (plan : PlanState) → later.space ≡ space → IsPlan catalog base later plan
    → (a : ℕ) → Promoted catalog base before a → Contains plan.promoted (moved_by done.moves a) ⊎ Contains plan.kept (moved_by done.moves a) → ⊥
planned_away catalog base before fresh all now space written done joined later plan same is_plan a is = by
  where
    away : get later.space (page_in base (moved_by done.moves a)) ≡ None
    away = gone_from catalog base before fresh all now space written done joined later same a is

    by : Contains plan.promoted (moved_by done.moves a) ⊎ Contains plan.kept (moved_by done.moves a) → ⊥
    by (inl there) = nothing_later catalog base later plan.promoted (moved_by done.moves a) (inl is_plan.promoted) away there
    by (inr there) = nothing_later catalog base later plan.kept (moved_by done.moves a) (inr is_plan.kept) away there
