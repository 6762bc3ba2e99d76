-- Lists whose items are related place by place.
use Rattle.std.proofs.Common.{◌≡◌, ◌+◌, ℕ, zero, suc, List, [], ◌∷◌, ◌++◌, length, Bool, true, false, cond, Option, None, Some, refl, ap, subst, map, take, drop, get_or, replicate}
use Rattle.std.specs.Prelude.{◌||◌, filter, fold, flat_map, count_by, find}
use Rattle.std.specs.List.{AllZip, list_any}

pub zip_join : {A B : Type 0} (R : A → B → Type 0) (xs xs2 : List A) (ys ys2 : List B) → AllZip R xs ys → AllZip R xs2 ys2 → AllZip R (xs ++ xs2) (ys ++ ys2)
zip_join R [] xs2 [] ys2 first second = second
zip_join R [] xs2 (y ∷ ys) ys2 first second = absurd first
zip_join R (x ∷ xs) xs2 [] ys2 first second = absurd first
zip_join R (x ∷ xs) xs2 (y ∷ ys) ys2 first second = (first.0, zip_join R xs xs2 ys ys2 first.1 second)

pub zip_map : {A B C D : Type 0} (R : A → B → Type 0) (S : C → D → Type 0) (h : A → C) (k : B → D) (alike : (x : A) (y : B) → R x y → S (h x) (k y))
    (xs : List A) (ys : List B) → AllZip R xs ys → AllZip S (map h xs) (map k ys)
zip_map R S h k alike [] [] zipped = tt
zip_map R S h k alike [] (y ∷ ys) zipped = absurd zipped
zip_map R S h k alike (x ∷ xs) [] zipped = absurd zipped
zip_map R S h k alike (x ∷ xs) (y ∷ ys) zipped = (alike x y zipped.0, zip_map R S h k alike xs ys zipped.1)

pub zip_flat : {A B C D : Type 0} (R : A → B → Type 0) (S : C → D → Type 0) (h : A → List C) (k : B → List D) (alike : (x : A) (y : B) → R x y → AllZip S (h x) (k y))
    (xs : List A) (ys : List B) → AllZip R xs ys → AllZip S (flat_map h xs) (flat_map k ys)
zip_flat R S h k alike [] [] zipped = tt
zip_flat R S h k alike [] (y ∷ ys) zipped = absurd zipped
zip_flat R S h k alike (x ∷ xs) [] zipped = absurd zipped
zip_flat R S h k alike (x ∷ xs) (y ∷ ys) zipped =
    zip_join S (h x) (flat_map h xs) (k y) (flat_map k ys) (alike x y zipped.0) (zip_flat R S h k alike xs ys zipped.1)

zip_cons : {A B : Type 0} (R : A → B → Type 0) (b : Bool) (x : A) (xs : List A) (y : B) (ys : List B) → R x y → AllZip R xs ys
    → AllZip R (cond b (x ∷ xs) xs) (cond b (y ∷ ys) ys)
zip_cons R true x xs y ys here rest = (here, rest)
zip_cons R false x xs y ys here rest = rest

pub zip_filter : {A B : Type 0} (R : A → B → Type 0) (p : A → Bool) (q : B → Bool) (alike : (x : A) (y : B) → R x y → p x ≡ q y)
    (xs : List A) (ys : List B) → AllZip R xs ys → AllZip R (filter p xs) (filter q ys)
zip_filter R p q alike [] [] zipped = tt
zip_filter R p q alike [] (y ∷ ys) zipped = absurd zipped
zip_filter R p q alike (x ∷ xs) [] zipped = absurd zipped
zip_filter R p q alike (x ∷ xs) (y ∷ ys) zipped =
    subst (λ (b : Bool). AllZip R (cond (p x) (x ∷ filter p xs) (filter p xs)) (cond b (y ∷ filter q ys) (filter q ys))) (alike x y zipped.0)
    (zip_cons R (p x) x (filter p xs) y (filter q ys) zipped.0 (zip_filter R p q alike xs ys zipped.1))

pub zip_length : {A B : Type 0} (R : A → B → Type 0) (xs : List A) (ys : List B) → AllZip R xs ys → length xs ≡ length ys
zip_length R [] [] zipped = refl
zip_length R [] (y ∷ ys) zipped = absurd zipped
zip_length R (x ∷ xs) [] zipped = absurd zipped
zip_length R (x ∷ xs) (y ∷ ys) zipped = ap (λ (n : ℕ). suc n) (zip_length R xs ys zipped.1)

pub zip_fold : {A B C D : Type 0} (R : A → B → Type 0) (P : C → D → Type 0) (f : C → A → C) (g : D → B → D)
    (alike : (c : C) (d : D) (x : A) (y : B) → P c d → R x y → P (f c x) (g d y))
    (c : C) (d : D) (xs : List A) (ys : List B) → P c d → AllZip R xs ys → P (fold f c xs) (fold g d ys)
zip_fold R P f g alike c d [] [] begun zipped = begun
zip_fold R P f g alike c d [] (y ∷ ys) begun zipped = absurd zipped
zip_fold R P f g alike c d (x ∷ xs) [] begun zipped = absurd zipped
zip_fold R P f g alike c d (x ∷ xs) (y ∷ ys) begun zipped =
    zip_fold R P f g alike (f c x) (g d y) xs ys (alike c d x y begun zipped.0) zipped.1

pub zip_count : {A B : Type 0} (R : A → B → Type 0) (p : A → Bool) (q : B → Bool) (alike : (x : A) (y : B) → R x y → p x ≡ q y)
    (xs : List A) (ys : List B) → AllZip R xs ys → count_by p xs ≡ count_by q ys
zip_count R p q alike xs ys zipped =
    zip_fold R (λ (a b : ℕ). a ≡ b) (λ a x. a + cond (p x) 1 0) (λ a y. a + cond (q y) 1 0)
    (λ a b x y same pair. λ i. same i + cond (alike x y pair i) 1 0) 0 0 xs ys refl zipped

pub zip_any : {A B : Type 0} (R : A → B → Type 0) (p : A → Bool) (q : B → Bool) (alike : (x : A) (y : B) → R x y → p x ≡ q y)
    (xs : List A) (ys : List B) → AllZip R xs ys → list_any p xs ≡ list_any q ys
zip_any R p q alike [] [] zipped = refl
zip_any R p q alike [] (y ∷ ys) zipped = absurd zipped
zip_any R p q alike (x ∷ xs) [] zipped = absurd zipped
zip_any R p q alike (x ∷ xs) (y ∷ ys) zipped = λ i. alike x y zipped.0 i || zip_any R p q alike xs ys zipped.1 i

pub zip_get : {A B : Type 0} (R : A → B → Type 0) (d : A) (e : B) (past : R d e) (xs : List A) (ys : List B) (k : ℕ) → AllZip R xs ys → R (get_or xs k d) (get_or ys k e)
zip_get R d e past [] [] k zipped = past
zip_get R d e past [] (y ∷ ys) k zipped = absurd zipped
zip_get R d e past (x ∷ xs) [] k zipped = absurd zipped
zip_get R d e past (x ∷ xs) (y ∷ ys) zero zipped = zipped.0
zip_get R d e past (x ∷ xs) (y ∷ ys) (suc k) zipped = zip_get R d e past xs ys k zipped.1

pub zip_drop : {A B : Type 0} (R : A → B → Type 0) (k : ℕ) (xs : List A) (ys : List B) → AllZip R xs ys → AllZip R (drop k xs) (drop k ys)
zip_drop R zero xs ys zipped = zipped
zip_drop R (suc k) [] [] zipped = tt
zip_drop R (suc k) [] (y ∷ ys) zipped = absurd zipped
zip_drop R (suc k) (x ∷ xs) [] zipped = absurd zipped
zip_drop R (suc k) (x ∷ xs) (y ∷ ys) zipped = zip_drop R k xs ys zipped.1

pub zip_take : {A B : Type 0} (R : A → B → Type 0) (k : ℕ) (xs : List A) (ys : List B) → AllZip R xs ys → AllZip R (take k xs) (take k ys)
zip_take R zero xs ys zipped = tt
zip_take R (suc k) [] [] zipped = tt
zip_take R (suc k) [] (y ∷ ys) zipped = absurd zipped
zip_take R (suc k) (x ∷ xs) [] zipped = absurd zipped
zip_take R (suc k) (x ∷ xs) (y ∷ ys) zipped = (zipped.0, zip_take R k xs ys zipped.1)

-- equal lists, zipped with themselves
pub zip_same : {A : Type 0} (xs : List A) → AllZip (λ (x y : A). x ≡ y) xs xs
zip_same [] = tt
zip_same (x ∷ xs) = (refl, zip_same xs)

pub same_zip : {A : Type 0} (xs ys : List A) → AllZip (λ (x y : A). x ≡ y) xs ys → xs ≡ ys
same_zip [] [] zipped = refl
same_zip [] (y ∷ ys) zipped = absurd zipped
same_zip (x ∷ xs) [] zipped = absurd zipped
same_zip (x ∷ xs) (y ∷ ys) zipped = λ i. zipped.0 i ∷ same_zip xs ys zipped.1 i

-- what two options found have in common
abbrev pub Either : {A B : Type 0} → (A → B → Type 0) → Option A → Option B → Type 0
Either R None None = Unit {0}
Either R None (Some y) = ⊥
Either R (Some x) None = ⊥
Either R (Some x) (Some y) = R x y

found_first : {A B : Type 0} (R : A → B → Type 0) (b : Bool) (x : A) (y : B) (o : Option A) (p : Option B) → R x y → Either R o p
    → Either R (cond b (Some x) o) (cond b (Some y) p)
found_first R true x y o p here rest = here
found_first R false x y o p here rest = rest

pub zip_find : {A B : Type 0} (R : A → B → Type 0) (p : A → Bool) (q : B → Bool) (alike : (x : A) (y : B) → R x y → p x ≡ q y)
    (xs : List A) (ys : List B) → AllZip R xs ys → Either R (find p xs) (find q ys)
zip_find R p q alike [] [] zipped = tt
zip_find R p q alike [] (y ∷ ys) zipped = absurd zipped
zip_find R p q alike (x ∷ xs) [] zipped = absurd zipped
zip_find R p q alike (x ∷ xs) (y ∷ ys) zipped =
    subst (λ (b : Bool). Either R (cond (p x) (Some x) (find p xs)) (cond b (Some y) (find q ys))) (alike x y zipped.0)
    (found_first R (p x) x y (find p xs) (find q ys) zipped.0 (zip_find R p q alike xs ys zipped.1))

pub flat_same : {A B C : Type 0} (R : A → B → Type 0) (h : A → List C) (k : B → List C) (alike : (x : A) (y : B) → R x y → h x ≡ k y)
    (xs : List A) (ys : List B) → AllZip R xs ys → flat_map h xs ≡ flat_map k ys
flat_same R h k alike [] [] zipped = refl
flat_same R h k alike [] (y ∷ ys) zipped = absurd zipped
flat_same R h k alike (x ∷ xs) [] zipped = absurd zipped
flat_same R h k alike (x ∷ xs) (y ∷ ys) zipped = λ i. alike x y zipped.0 i ++ flat_same R h k alike xs ys zipped.1 i

pub map_same : {A B C : Type 0} (R : A → B → Type 0) (h : A → C) (k : B → C) (alike : (x : A) (y : B) → R x y → h x ≡ k y)
    (xs : List A) (ys : List B) → AllZip R xs ys → map h xs ≡ map k ys
map_same R h k alike [] [] zipped = refl
map_same R h k alike [] (y ∷ ys) zipped = absurd zipped
map_same R h k alike (x ∷ xs) [] zipped = absurd zipped
map_same R h k alike (x ∷ xs) (y ∷ ys) zipped = λ i. alike x y zipped.0 i ∷ map_same R h k alike xs ys zipped.1 i

pub zip_replicate : {A B : Type 0} (R : A → B → Type 0) (n : ℕ) (x : A) (y : B) → R x y → AllZip R (replicate n x) (replicate n y)
zip_replicate R zero x y alike = tt
zip_replicate R (suc n) x y alike = (alike, zip_replicate R n x y alike)
