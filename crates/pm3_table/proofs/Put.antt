-- Functions changed at one number.
use Rattle.std.proofs.Common.{◌≡◌, ◌≢◌, ℕ, Bool, true, false, ◌==◌, if◌then◌else◌, refl, sym, ap, ◌∙◌, arith}
use Rattle.std.proofs.lemmas.Bool.Decides.{nat_tests}
use Rattle.pm3_core.specs.Machine.{put}

eq_true : (k n : ℕ) → k ≡ n → (k == n) ≡ true
eq_true k n e = grind (arith, nat_tests)

eq_false : (k n : ℕ) → k ≢ n → (k == n) ≡ false
eq_false k n e = grind (arith, nat_tests)

is_eq : (k n : ℕ) → (k == n) ≡ true → k ≡ n
is_eq k n e = grind (arith, nat_tests)

not_eq : (k n : ℕ) → (k == n) ≡ false → k ≢ n
not_eq k n e same = grind (arith, nat_tests)

module _ {A : Type 0} where
  abbrev pick : Bool → A → A → A
  pick b x y = if b then x else y

  pub put_at : (f : ℕ → A) (n : ℕ) (x : A) (k : ℕ) → k ≡ n → put f n x k ≡ x
  put_at f n x k e = ap (λ b. pick b x (f k)) (eq_true k n e)

  pub put_here : (f : ℕ → A) (n : ℕ) (x : A) → put f n x n ≡ x
  put_here f n x = put_at f n x n refl

  pub put_else : (f : ℕ → A) (n : ℕ) (x : A) (k : ℕ) → k ≢ n → put f n x k ≡ f k
  put_else f n x k e = ap (λ b. pick b x (f k)) (eq_false k n e)

  cases_by : (P : A → Type 0) (f : ℕ → A) (n : ℕ) (x : A) (k : ℕ) (b : Bool) → (k == n) ≡ b → (k ≡ n → P x) → (k ≢ n → P (f k)) → P (pick b x (f k))
  cases_by P f n x k true e here there = here (is_eq k n e)
  cases_by P f n x k false e here there = there (not_eq k n e)

  -- what holds of the new value, and of the others, holds of each
  pub put_cases : (P : A → Type 0) (f : ℕ → A) (n : ℕ) (x : A) (k : ℕ) → (k ≡ n → P x) → (k ≢ n → P (f k)) → P (put f n x k)
  put_cases P f n x k here there = cases_by P f n x k (k == n) refl here there

  pub put_same_at : (f : ℕ → A) (n : ℕ) (x : A) → x ≡ f n → (k : ℕ) → put f n x k ≡ f k
  put_same_at f n x e k = put_cases (λ y. y ≡ f k) f n x k (λ here. e ∙ ap f (sym here)) (λ _. refl)

  -- nothing is changed where the value was there
  pub put_same : (f : ℕ → A) (n : ℕ) (x : A) → x ≡ f n → put f n x ≡ f
  put_same f n x e = λ i k. put_same_at f n x e k i

module _ {A B : Type 0} where
  map_at : (g : A → B) (f : ℕ → A) (n : ℕ) (x : A) (k : ℕ) (b : Bool) → g (pick b x (f k)) ≡ pick b (g x) (g (f k))
  map_at g f n x k true = refl
  map_at g f n x k false = refl

  -- what is made of the values is changed at that number
  pub put_map : (g : A → B) (f : ℕ → A) (n : ℕ) (x : A) → (λ k. g (put f n x k)) ≡ put (λ j. g (f j)) n (g x)
  put_map g f n x = λ i k. map_at g f n x k (k == n) i
