-- Lists read as functions of a number.
use Rattle.std.proofs.Common.{◌≡◌, ℕ, suc, zero, ◌<◌, List, [], ◌∷◌, length, get_or, replicate, refl, ap, ◌∙◌, All, arith, get_or-set_same, get_or-set_other}
use Rattle.std.proofs.Math.ListN.{set}
use Rattle.std.proofs.lemmas.Bool.{cases_eq}
use Rattle.std.proofs.lemmas.Bool.Decides.{nat_tests}
use Rattle.pm3_core.specs.Machine.{put}

-- two functions are one
abbrev pub IsSame : {A : Type 0} → (ℕ → A) → (ℕ → A) → Type 0
IsSame f g = f ≡ g

-- what is made of the items of a written list is changed at one number
pub put-set_at : {A B : Type 0} → (f : A → B) (xs : List A) (n : ℕ) (x d : A) (k : ℕ) → n < length xs → f (get_or (set xs n x) k d) ≡ put (λ j. f (get_or xs j d)) n (f x) k
put-set_at f xs n x d k below = grind (arith, nat_tests, get_or-set_same xs n x d below, get_or-set_other xs n k x d, cases_eq k n)

pub put-set : {A B : Type 0} → (f : A → B) (xs : List A) (n : ℕ) (x d : A) → n < length xs → IsSame (λ k. f (get_or (set xs n x) k d)) (put (λ j. f (get_or xs j d)) n (f x))
put-set f xs n x d below = λ i k. put-set_at f xs n x d k below i

-- a list of one value, read with that value as the default
pub get_or-replicate_default : {A : Type 0} → (n : ℕ) (x : A) (k : ℕ) → get_or (replicate n x) k x ≡ x
get_or-replicate_default zero x k = refl
get_or-replicate_default (suc n) x zero = refl
get_or-replicate_default (suc n) x (suc k) = get_or-replicate_default n x k

pub constant : {A B : Type 0} → (f : A → B) (xs : List A) (n : ℕ) (x : A) → xs ≡ replicate n x → IsSame (λ k. f (get_or xs k x)) (λ k. f x)
constant f xs n x is = λ i k. (ap (λ ys. f (get_or ys k x)) is ∙ ap f (get_or-replicate_default n x k)) i

-- what holds of each item of a list holds of its first and of the rest
pub each_first : {X : Type 0} → (P : X → Type 0) (x : X) (xs : List X) → All P (x ∷ xs) → P x
each_first P x xs each = each 0 x (omega arith)

pub each_rest : {X : Type 0} → (P : X → Type 0) (x : X) (xs : List X) → All P (x ∷ xs) → All P xs
each_rest P x xs each = λ k d below. each (suc k) d (omega (arith, below))

pub each_more : {X : Type 0} → (P : X → Type 0) (x : X) (xs : List X) → P x → All P xs → All P (x ∷ xs)
each_more P x xs first rest zero d below = first
each_more P x xs first rest (suc k) d below = rest k d (omega (arith, below))

pub each_none : {X : Type 0} → (P : X → Type 0) → All P []
each_none P = λ k d below. absurd (omega (arith, below))
