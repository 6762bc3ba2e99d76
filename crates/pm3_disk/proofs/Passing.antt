-- How what is known of what a crash may leave goes on from call to call.
use Rattle.std.proofs.Common.{◌≡◌, ⊎_elim, ℕ, ◌<◌, ◌≤◌, List, arith, subst, sym}
use Rattle.std.proofs.lemmas.Bool.{cases_lt}
use Rattle.pm3_disk.specs.Content.{Unchanged}
use Rattle.pm3_disk.specs.Moments.{Passes, After, HoldsSince}

module _ {t0 : ℕ} {i0 : ℕ → List ℕ → Type 0} where
  -- no call was made yet
  pub no_call : (P : List ℕ → Type 0) → Passes t0 t0 i0 i0 P
  no_call P = record { later = omega arith; stays = λ t c le left. left; no_other = λ t c le left. left; since = λ t c lt le left. absurd (omega arith) }

  -- what is left since has what P implies
  pub weaker : {t1 : ℕ} {i1 : ℕ → List ℕ → Type 0} {P : List ℕ → Type 0} (Q : List ℕ → Type 0) → Passes t0 t1 i0 i1 P → ((c : List ℕ) → P c → Q c) → Passes t0 t1 i0 i1 Q
  weaker Q passes has = record { later = passes.later; stays = passes.stays; no_other = passes.no_other; since = λ t c lt le left. has c (passes.since t c lt le left) }

  -- one call more
  pub then_call : {t1 t2 : ℕ} {i1 i2 : ℕ → List ℕ → Type 0} {P Q : List ℕ → Type 0} → Passes t0 t1 i0 i1 P → Passes t1 t2 i1 i2 Q → ((c : List ℕ) → Q c → P c) → Passes t0 t2 i0 i2 P
  then_call {t1} {t2} {i1} {i2} {P} {Q} so_far call has = record {
    later = omega (arith, so_far.later, call.later);
    stays = λ t c le left. call.stays t c (omega (arith, so_far.later)) (so_far.stays t c le left);
    no_other = λ t c le left. so_far.no_other t c le (call.no_other t c (omega (arith, so_far.later)) left);
    since = λ t c lt le left. ⊎_elim (λ new. has c (call.since t c new le left)) (λ old. so_far.since t c lt old (call.no_other t c old left)) (cases_lt t1 t);
  }

  -- what was so of all that is left since an earlier moment is so still
  pub holds_on : {from t1 : ℕ} {i1 : ℕ → List ℕ → Type 0} {P Q : List ℕ → Type 0} → HoldsSince from t0 i0 P → Passes t0 t1 i0 i1 Q → ((c : List ℕ) → Q c → P c) → HoldsSince from t1 i1 P
  holds_on {from} {t1} {i1} {P} {Q} holds call has = record {
    each = λ t c ge le left. ⊎_elim (λ new. has c (call.since t c new le left)) (λ old. holds.each t c ge old (call.no_other t c old left)) (cases_lt t0 t);
  }

-- what a crash at the last moment may leave has what all that it may leave at the first and since has
pub at_last : {t0 t1 : ℕ} {i0 i1 : ℕ → List ℕ → Type 0} {P : List ℕ → Type 0} → Passes t0 t1 i0 i1 P → ((c : List ℕ) → i0 t0 c → P c) → (c : List ℕ) → i1 t1 c → P c
at_last {t0} {t1} {i0} {i1} {P} passes first c left = ⊎_elim new old (cases_lt t0 t1)
  where
    new : t0 < t1 → P c
    new lt = passes.since t1 c lt (omega arith) left

    old : t1 ≤ t0 → P c
    old le =
        let same : t1 ≡ t0 = omega (arith, passes.later) in
        first c (passes.no_other t0 c (omega arith) (subst (λ (t : ℕ). i1 t c) same left))

-- one call more that changes no byte
pub then_look : {t0 t1 t2 : ℕ} {i0 i1 i2 : ℕ → List ℕ → Type 0} {P : List ℕ → Type 0} → Passes t0 t1 i0 i1 P → ((c : List ℕ) → i0 t0 c → P c) → Passes t1 t2 i1 i2 (After (i1 t1) Unchanged) → Passes t0 t2 i0 i2 P
then_look {t0} {t1} {t2} {i0} {i1} {i2} {P} so_far first call = then_call so_far call was_there
  where
    was_there : (c : List ℕ) → After (i1 t1) Unchanged c → P c
    was_there c (d, left, same) = subst P (sym same) (at_last so_far first d left)
