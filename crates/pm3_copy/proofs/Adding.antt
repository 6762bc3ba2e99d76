-- Objects that are found one after another.
use Rattle.std.proofs.Common.{◌≡◌, ◌++◌, ◌⊎◌, inl, inr, ◌∙◌, ℕ, List, [], ◌∷◌, refl, sym, ap, subst, append_assoc}
use Rattle.std.specs.List.{Contains}
use Rattle.std.proofs.lemmas.List.Elements.{Contains-append_left}
use Rattle.pm3_copy.specs.Finds.{Finds, Adds}

pub append_nil : {A : Type 0} (xs : List A) → xs ≡ xs ++ []
append_nil [] = refl
append_nil (x ∷ xs) = ap (λ ys. x ∷ ys) (append_nil xs)

-- what was found stays found
pub adds_keeps : (P : ℕ → Type 0) (old new : Finds) (a : ℕ) → Adds P old new → Contains old.list a → Contains new.list a
adds_keeps P old new a adds is = subst (λ xs. Contains xs a) (sym adds.front.1) (Contains-append_left old.list adds.front.0 a is)

-- nothing passes
pub adds_none : (P : ℕ → Type 0) (found : Finds) → ((a : ℕ) → Contains found.objects a → P a → ⊥) → Adds P found found
adds_none P found never = record {
  objects = refl;
  front = ([], append_nil found.list);
  has = λ a there is. absurd (never a there is);
  only = λ a is. inl is;
}

-- what passes one test, and then what passes another
pub adds_then : (P Q R : ℕ → Type 0) (old mid new : Finds) → Adds P old mid → Adds Q mid new
    → ((a : ℕ) → Contains old.objects a → R a → P a ⊎ Q a) → ((a : ℕ) → P a → R a) → ((a : ℕ) → Q a → R a) → Adds R old new
adds_then P Q R old mid new first second one p q = record {
  objects = second.objects ∙ first.objects;
  front = (first.front.0 ++ second.front.0, second.front.1 ∙ ap (λ xs. xs ++ second.front.0) first.front.1 ∙ append_assoc old.list first.front.0 second.front.0);
  has = λ a there is. elim (one a there is) [
    | inl before ↦ adds_keeps Q mid new a second (first.has a there before)
    | inr now ↦ second.has a (subst (λ xs. Contains xs a) (sym first.objects) there) now
  ];
  only = λ a is. elim (second.only a is) [
    | inl was ↦ elim (first.only a was) [ inl older ↦ inl older | inr by ↦ inr (by.0, p a by.1) ]
    | inr now ↦ inr (subst (λ xs. Contains xs a) first.objects now.0, q a now.1)
  ];
}

-- the same by another test that the same objects pass
pub adds_as : (P Q : ℕ → Type 0) (old new : Finds) → Adds P old new → ((a : ℕ) → Contains old.objects a → Q a → P a) → ((a : ℕ) → P a → Q a) → Adds Q old new
adds_as P Q old new adds back on = record {
  objects = adds.objects;
  front = adds.front;
  has = λ a there is. adds.has a there (back a there is);
  only = λ a is. elim (adds.only a is) [ inl was ↦ inl was | inr by ↦ inr (by.0, on a by.1) ];
}
