-- The least number above all that are named.
use Rattle.std.proofs.Common.{◌≡◌, ◌≢◌, ◌⊎◌, ℕ, ◌+◌, ◌<◌, max, refl, ◌∙◌, subst, inl, inr, ⊎_elim, arith}
use mathlib.Core.Logic.{dite}
use native.Mathlib.Decide.{ℕ_discrete}
use Rattle.pm3_txn.specs.Frontiers.{IsTop, Below}

-- where nothing is named, it is the first number
pub top_none : (P : ℕ → Type 0) (a : ℕ) → ((p : ℕ) → P p → ⊥) → IsTop P a a
top_none P a none = record { most = omega arith; above = λ p named. absurd (none p named); met = inl refl }

pub top_one : (a q t : ℕ) → t ≡ max a (q + 1) → IsTop (λ p. q ≡ p) a t
top_one a q t is = record {
  most = omega (arith, is);
  above = λ p same. omega (arith, is, same);
  met = chosen (dite (ℕ_discrete t a) inl inr);
}
  where
    chosen : (t ≡ a) ⊎ (t ≢ a) → (t ≡ a) ⊎ ((p : ℕ) × (q ≡ p) × (t ≡ p + 1))
    chosen (inl same) = inl same
    chosen (inr other) = inr (q, refl, omega (arith, is, other))

pub top_same : (P Q : ℕ → Type 0) (a t : ℕ) → ((p : ℕ) → P p → Q p) → ((p : ℕ) → Q p → P p) → IsTop P a t → IsTop Q a t
top_same P Q a t to from top = record {
  most = top.most;
  above = λ p named. top.above p (from p named);
  met = ⊎_elim inl (λ o. inr (o.0, to o.0 o.1, o.2)) top.met;
}

pub top_join : (P Q : ℕ → Type 0) (a b c : ℕ) → IsTop P a b → IsTop Q b c → IsTop (λ p. P p ⊎ Q p) a c
top_join P Q a b c one two = record {
  most = (let x = one.most in let y = two.most in omega (arith, x, y));
  above = λ p named. either p named;
  met = met two.met one.met;
}
  where
    either : (p : ℕ) → P p ⊎ Q p → p < c
    either p (inl x) = let low = one.above p x in let y = two.most in omega (arith, low, y)
    either p (inr y) = two.above p y

    met : (c ≡ b) ⊎ ((p : ℕ) × Q p × (c ≡ p + 1)) → (b ≡ a) ⊎ ((p : ℕ) × P p × (b ≡ p + 1)) → (c ≡ a) ⊎ ((p : ℕ) × (P p ⊎ Q p) × (c ≡ p + 1))
    met (inr o) x = inr (o.0, inr o.1, o.2)
    met (inl same) (inl first) = inl (same ∙ first)
    met (inl same) (inr o) = inr (o.0, inl o.1, same ∙ o.2)

-- what the first n numbers name, one more at a time
pub below_none : (P : ℕ → ℕ → Type 0) (a : ℕ) → IsTop (Below P 0) a a
below_none P a = top_none (Below P 0) a (λ p named. let low = named.1 in omega (arith, low))

pub below_more : (P : ℕ → ℕ → Type 0) (n a b c : ℕ) → IsTop (Below P n) a b → IsTop (P n) b c → IsTop (Below P (n + 1)) a c
below_more P n a b c before one =
    top_same (λ p. Below P n p ⊎ P n p) (Below P (n + 1)) a c to from (top_join (Below P n) (P n) a b c before one)
  where
    to : (p : ℕ) → Below P n p ⊎ P n p → Below P (n + 1) p
    to p (inl x) = (x.0, (let low = x.1 in omega (arith, low)), x.2)
    to p (inr y) = (n, omega arith, y)

    from : (p : ℕ) → Below P (n + 1) p → Below P n p ⊎ P n p
    from p x = dite (ℕ_discrete x.0 n) (λ same. inr (subst (λ (k : ℕ). P k p) same x.2)) (λ other. inl (x.0, (let low = x.1 in omega (arith, low, other)), x.2))

-- nothing more is named by the next
pub below_skip : (P : ℕ → ℕ → Type 0) (n a b : ℕ) → IsTop (Below P n) a b → ((p : ℕ) → P n p → ⊥) → IsTop (Below P (n + 1)) a b
below_skip P n a b before none = below_more P n a b b before (top_none (P n) b none)

-- all that names is below
pub below_all : (P : ℕ → ℕ → Type 0) (n a b : ℕ) → ((k p : ℕ) → P k p → k < n) → IsTop (Below P n) a b → IsTop (λ p. (k : ℕ) × P k p) a b
below_all P n a b low top = top_same (Below P n) (λ p. (k : ℕ) × P k p) a b (λ p x. (x.0, x.2)) (λ p x. (x.0, low x.0 p x.1, x.1)) top
