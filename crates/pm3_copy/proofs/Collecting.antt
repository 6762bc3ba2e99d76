-- The objects of images are collected in the order of their addresses.
use Rattle.std.proofs.Common.{◌≡◌, ℕ, ◌+◌, ◌<◌, ◌≤◌, ◌++◌, ◌⊎◌, true, false, List, [], ◌∷◌, Some, is_some, refl, sym, ap, subst, ◌∙◌, arith, inl, inr, append_assoc}
use Rattle.std.proofs.lemmas.Bool.{cases_lt, cases_eq, false≢true}
use Rattle.std.specs.FinMap as map
use Rattle.pm3_types.specs.Layout.{PageImage, begins_at, page_in}
use Rattle.pm3_types.specs.PassMoves.{IsListOf}
use Rattle.pm3_types.proofs.Addressing as addressing
use Rattle.pm3_page.specs.PageMap.{Images, IsAtHome}
use Rattle.pm3_copy.specs.Whole.{IsObjectOf}
use Rattle.pm3_copy.proofs.Listing.{list_none, list_one, list_join, list_as}
use Rattle.pm3_types.proofs.FormedObjects.{address_of, page_is}
use Rattle.pm3_copy.proofs.Wholes.{above_page, below_page, object_of, object_begins}

-- a list behind another, in which the objects up to an address have been collected
pub record AreAdded (base : ℕ) (image : PageImage) (at : ℕ) (old now : List ℕ) : Type 0 where
  pub more : List ℕ
  pub is : now ≡ old ++ more
  pub list : IsListOf (λ a. (begins_at base image a ≡ true) × (a ≤ at)) more

append_nil : (xs : List ℕ) → xs ≡ xs ++ []
append_nil [] = refl
append_nil (x ∷ xs) = ap (λ ys. x ∷ ys) (append_nil xs)

pub added_none : (base : ℕ) (image : PageImage) (old : List ℕ) → 0 < base → AreAdded base image 0 old old
added_none base image old more = record {
  more = [];
  is = append_nil old;
  list = list_none (λ a. (begins_at base image a ≡ true) × (a ≤ 0)) (λ a is. (let low = addressing.above_base base a (address_of base image a is.0) in omega (arith, is.1)));
}

pub added_more : (base : ℕ) (image : PageImage) (at next : ℕ) (old now new : List ℕ) → AreAdded base image at old now → at < next → begins_at base image next ≡ true
    → ((m : ℕ) → at < m → m < next → begins_at base image m ≡ false) → new ≡ now ++ next ∷ [] → AreAdded base image next old new
added_more base image at next old now new are less is between pushed = record {
  more = are.more ++ next ∷ [];
  is = pushed ∙ ap (λ xs. xs ++ next ∷ []) are.is ∙ append_assoc old are.more (next ∷ []);
  list = list_join (λ a. (begins_at base image a ≡ true) × (a ≤ at)) (λ a. a ≡ next) (λ a. (begins_at base image a ≡ true) × (a ≤ next)) are.more (next ∷ []) are.list (list_one next)
      (λ a b p q. omega (arith, p.1)) parts (λ a p. (p.0, omega (arith, p.1))) (λ a e. (ap (begins_at base image) e ∙ is, omega arith));
}
  where
    parts : (a : ℕ) → (begins_at base image a ≡ true) × (a ≤ next) → ((begins_at base image a ≡ true) × (a ≤ at)) ⊎ (a ≡ next)
    parts a p = elim (cases_lt at a) [
      | inr low ↦ inl (p.0, low)
      | inl above ↦ elim (cases_lt a next) [
        | inl below ↦ absurd (false≢true (sym (between a above below) ∙ p.0))
        | inr high ↦ inr (omega (arith, p.1))
      ]
    ]

pub added_all : (base : ℕ) (image : PageImage) (at : ℕ) (old now : List ℕ) → AreAdded base image at old now → ((b : ℕ) → at < b → begins_at base image b ≡ false)
    → (more : List ℕ) × (now ≡ old ++ more) × IsListOf (λ a. begins_at base image a ≡ true) more
added_all base image at old now are past = (are.more, are.is, list_as _ (λ a. begins_at base image a ≡ true) are.more are.list (λ a p. p.0) (λ a is. (is, at_most a is)))
  where
    at_most : (a : ℕ) → begins_at base image a ≡ true → a ≤ at
    at_most a is = elim (cases_lt at a) [ inl above ↦ absurd (false≢true (sym (past a above) ∙ is)) | inr low ↦ low ]

-- the objects of the pages below a number
pub AreBelow : ℕ → Images → ℕ → List ℕ → Type 0
AreBelow base images n list = IsListOf (λ a. IsObjectOf base images a × (page_in base a < n)) list

pub below_none : (base : ℕ) (images : Images) → AreBelow base images 0 []
unfolding AreBelow
below_none base images = list_none _ (λ a p. omega (arith, p.1))

there_is : (images : Images) (p : ℕ) (image : PageImage) → map.get images p ≡ Some image → map.contains_key images p ≡ false → ⊥
there_is images p image on none = false≢true (sym none ∙ ap is_some on)

pub below_more : (base : ℕ) (images : Images) (n p : ℕ) (image : PageImage) (list new : List ℕ) → IsAtHome images → AreBelow base images n list → n ≤ p → map.get images p ≡ Some image
    → ((q : ℕ) → n ≤ q → q < p → map.contains_key images q ≡ false)
    → (more : List ℕ) × (new ≡ list ++ more) × IsListOf (λ a. begins_at base image a ≡ true) more → AreBelow base images (p + 1) new
unfolding AreBelow
below_more base images n p image list new home are low on between (more, is, rest) =
    subst (AreBelow base images (p + 1)) (sym is)
    (list_join (λ a. IsObjectOf base images a × (page_in base a < n)) (λ a. begins_at base image a ≡ true) (λ a. IsObjectOf base images a × (page_in base a < p + 1)) list more are rest
    less parts (λ a q. (q.0, omega (arith, q.1))) (λ a b. (object_of base images p image a home on b, (let e = page_is base image a b in let h = home p image on in omega arith))))
  where
    less : (a b : ℕ) → IsObjectOf base images a × (page_in base a < n) → begins_at base image b ≡ true → a < b
    less a b first second =
        let high = below_page base a (address_of base first.0.image a first.0.begins) in
        let above = above_page base b (address_of base image b second) in
        let e = page_is base image b second in
        let h = home p image on in
        omega (arith, first.1)

    parts : (a : ℕ) → IsObjectOf base images a × (page_in base a < p + 1) → (IsObjectOf base images a × (page_in base a < n)) ⊎ (begins_at base image a ≡ true)
    parts a q = elim (cases_lt (page_in base a) n) [
      | inl before ↦ inl (q.0, before)
      | inr behind ↦ elim (cases_eq (page_in base a) p) [
        | inl same ↦ inr (object_begins base images p image a on q.0 same)
        | inr apart ↦ absurd (there_is images (page_in base a) q.0.image q.0.on (between (page_in base a) behind (omega (arith, q.1))))
      ]
    ]

pub below_all : (base : ℕ) (images : Images) (n : ℕ) (list : List ℕ) → AreBelow base images n list → ((q : ℕ) → n ≤ q → map.contains_key images q ≡ false) → IsListOf (IsObjectOf base images) list
unfolding AreBelow
below_all base images n list are past = list_as _ (IsObjectOf base images) list are (λ a p. p.0) (λ a object. (object, low a object))
  where
    low : (a : ℕ) → IsObjectOf base images a → page_in base a < n
    low a object = elim (cases_lt (page_in base a) n) [ inl is ↦ is | inr behind ↦ absurd (there_is images (page_in base a) object.image object.on (past (page_in base a) behind)) ]
