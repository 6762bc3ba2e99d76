-- What steps leave of the parts on failed commits and on the last mutator.
use Rattle.std.proofs.Common.{◌≡◌, ◌≢◌, ◌⊎◌, ℕ, ◌+◌, true, List, [], ◌∷◌, ◌++◌, refl, sym, ap, ◌∙◌, inl, inr, ⊎_elim, arith}
use mathlib.Core.Logic.{dite}
use native.Mathlib.Decide.{ℕ_discrete}
use Rattle.pm3_core.specs.Machine.{put}
use Rattle.pm3_history.specs.Entry.{Done}
use Rattle.pm3_table.specs.Lost.{LostView, LostRule}
use Rattle.pm3_table.proofs.Put.{put_here, put_else, put_cases}

abbrev pub lost_with : List Done → List Done → LostView
lost_with failed lost = record { live = true; failed = failed; lost = lost }

module _ (turn_holder : ℕ) (lost : List Done) (crew : ℕ → LostView) (r : LostRule turn_holder lost crew) (k : ℕ) (alive : (crew k).live ≡ true) where
  -- k takes the turn, or another unit comes or goes
  pub lost_take : (h : ℕ) (seen : List Done) → (h ≡ k + 1 → seen ≡ lost) → ((j : ℕ) → j ≢ k → h ≡ j + 1 → turn_holder ≡ j + 1)
      → LostRule h lost (put crew k (lost_with (crew k).failed seen))
  lost_take h seen mine others =
      let w : LostView = lost_with (crew k).failed seen in
      let same : (j : ℕ) → (put crew k w j).failed ≡ (crew j).failed = λ j. put_cases (λ v. v.failed ≡ (crew j).failed) crew k w j (λ here. ap (λ (n : ℕ). (crew n).failed) (sym here)) (λ _. refl) in
      let was : (j : ℕ) → (put crew k w j).live ≡ true → (crew j).live ≡ true = λ j. put_cases (λ v. v.live ≡ true → (crew j).live ≡ true) crew k w j (λ here _. ap (λ (n : ℕ). (crew n).live) here ∙ alive) (λ _ x. x) in
      record {
        bearer = r.bearer;
        lives = ⊎_elim inl (λ x. inr (put_cases (λ v. v.live ≡ true) crew k w r.bearer (λ _. refl) (λ _. x))) r.lives;
        bears = λ x. same r.bearer ∙ r.bears (was r.bearer x);
        others = λ j x o. same j ∙ r.others j (was j x) o;
        turn_knows = λ j is. put_cases (λ v. v.lost ≡ lost) crew k w j
            (λ here. mine (is ∙ ap (λ (n : ℕ). n + 1) here))
            (λ o. r.turn_knows j (others j o is));
      }

  -- k gives the turn back with further failed commits, where none failed before or there are none
  pub lost_give : (more seen : List Done) → (lost ≡ []) ⊎ (more ≡ []) → LostRule 0 (lost ++ more) (put crew k (lost_with ((crew k).failed ++ more) seen))
  lost_give more seen single =
      let w : LostView = lost_with ((crew k).failed ++ more) seen in
      let was : (j : ℕ) → (put crew k w j).live ≡ true → (crew j).live ≡ true = λ j. put_cases (λ v. v.live ≡ true → (crew j).live ≡ true) crew k w j (λ here _. ap (λ (n : ℕ). (crew n).live) here ∙ alive) (λ _ x. x) in
      ⊎_elim
      (λ none_lost.
      let nothing : (j : ℕ) → (crew j).live ≡ true → (crew j).failed ≡ [] = λ j x. dite (ℕ_discrete j r.bearer)
      (λ e. ap (λ (n : ℕ). (crew n).failed) e ∙ (r.bears (ap (λ (n : ℕ). (crew n).live) (sym e) ∙ x) ∙ none_lost)) (λ o. r.others j x o) in
      record {
        bearer = k;
        lives = inr (put_cases (λ v. v.live ≡ true) crew k w k (λ _. refl) (λ o. absurd (o refl)));
        bears = λ _. ap (λ (v : LostView). v.failed) (put_here crew k w) ∙ (ap (λ (l : List Done). l ++ more) (nothing k alive) ∙ ap (λ (l : List Done). l ++ more) (sym none_lost));
        others = λ j x o. ap (λ (v : LostView). v.failed) (put_else crew k w j o) ∙ nothing j (was j x);
        turn_knows = λ j is. absurd (omega (arith, is));
      })
      (λ nothing.
      let same_list : (l : List Done) → l ++ more ≡ l = λ l. ap (λ (m : List Done). l ++ m) nothing ∙ append_nothing l in
      let same : (j : ℕ) → (put crew k w j).failed ≡ (crew j).failed = λ j. put_cases (λ v. v.failed ≡ (crew j).failed) crew k w j (λ here. same_list (crew k).failed ∙ ap (λ (n : ℕ). (crew n).failed) (sym here)) (λ _. refl) in
      record {
        bearer = r.bearer;
        lives = ⊎_elim (λ e. inl (same_list lost ∙ e)) (λ x. inr (put_cases (λ v. v.live ≡ true) crew k w r.bearer (λ _. refl) (λ _. x))) r.lives;
        bears = λ x. same r.bearer ∙ (r.bears (was r.bearer x) ∙ sym (same_list lost));
        others = λ j x o. same j ∙ r.others j (was j x) o;
        turn_knows = λ j is. absurd (omega (arith, is));
      })
      single
    where
      append_nothing : (h : List Done) → h ++ [] ≡ h
      append_nothing [] = refl
      append_nothing (e ∷ es) = ap (λ (l : List Done). e ∷ l) (append_nothing es)
