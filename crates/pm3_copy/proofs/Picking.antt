-- Objects are picked in the order of their addresses.
use Rattle.std.proofs.Common.{◌≡◌, ◌<◌, ◌≤◌, ◌+◌, ◌⊎◌, inl, inr, ◌∙◌, ℕ, List, [], ◌∷◌, length, get_or, sym, ap, subst, arith}
use Rattle.std.specs.Ordering.{nat_cmp}
use Rattle.std.specs.FinSet as set
use Rattle.std.specs.List.{Contains}
use Rattle.std.proofs.lemmas.Bool.{cases_eq, cases_lt}
use Rattle.std.proofs.lemmas.List.{get_or_default}
use Rattle.pm3_types.specs.Layout.{page_in}
use Rattle.pm3_types.specs.PassMoves.{IsRising, IsListOf}
use Rattle.pm3_copy.specs.Finds.{Finds}
use Rattle.pm3_copy.specs.Spreading.{AreOnOne, ArePicked, IsBefore, Picks, TakesUp}
use Rattle.pm3_copy.proofs.Listing.{list_none, list_one, list_join, list_as}

-- between two addresses of a page lie addresses of this page
same_page : (base a b c : ℕ) → a ≤ b → b ≤ c → page_in base c ≡ page_in base a → page_in base b ≡ page_in base a
unfolding page_in
same_page base a b c first second same = omega arith

-- what lies on one page, up to a later member on it
pub on_one_more : (base : ℕ) (list : List ℕ) (first last next : ℕ) → IsRising list → first ≤ last → next < length list → AreOnOne base list first (last + 1)
    → page_in base (get_or list next 0) ≡ page_in base (get_or list last 0) → AreOnOne base list first (next + 1)
on_one_more base list first last next rising behind low are same k from below =
    same_page base (get_or list first 0) (get_or list k 0) (get_or list next 0) (no_less first k from (omega arith)) (no_less k next (omega arith) low) (same ∙ are last behind (omega arith))
  where
    no_less : (i j : ℕ) → i ≤ j → j < length list → get_or list i 0 ≤ get_or list j 0
    no_less i j up inside = elim (cases_eq i j) [ inl e ↦ (let value = ap (λ n. get_or list n 0) e in omega arith) | inr apart ↦ (let less = rising i j (omega arith) inside in omega arith) ]

module _ (base : ℕ) (pinned : set.FinSet nat_cmp) (but : List ℕ) (found : Finds) where
  pub picked_none : ArePicked base pinned but found 0 []
  unfolding ArePicked
  picked_none = list_none _ (λ a p. omega (arith, p.1.low))

  pub picked_more : (n : ℕ) (list new : List ℕ) → IsRising found.objects → n < length found.objects → TakesUp (Picks base pinned but found (get_or found.objects n 0)) (get_or found.objects n 0) list new → ArePicked base pinned but found n list → ArePicked base pinned but found (n + 1) new
  unfolding ArePicked
  picked_more n list new rising low takes are = by takes
    where
      split : (a : ℕ) → Picks base pinned but found a × IsBefore found.objects (n + 1) a → (Picks base pinned but found a × IsBefore found.objects n a) ⊎ (a ≡ get_or found.objects n 0)
      split a (picks, before) = elim (cases_eq before.place n) [
        | inl same ↦ inr (sym before.is ∙ ap (λ k. get_or found.objects k 0) same)
        | inr apart ↦ inl (picks, record { place = before.place; low = omega (arith, before.low); is = before.is })
      ]

      wider : (a : ℕ) → Picks base pinned but found a × IsBefore found.objects n a → Picks base pinned but found a × IsBefore found.objects (n + 1) a
      wider a (picks, before) = (picks, record { place = before.place; low = omega (arith, before.low); is = before.is })

      by : TakesUp (Picks base pinned but found (get_or found.objects n 0)) (get_or found.objects n 0) list new → IsListOf (λ a. Picks base pinned but found a × IsBefore found.objects (n + 1) a) new
      by (inl (picks, is)) = subst (IsListOf (λ a. Picks base pinned but found a × IsBefore found.objects (n + 1) a)) (sym is)
          (list_join (λ a. Picks base pinned but found a × IsBefore found.objects n a) (λ a. a ≡ get_or found.objects n 0) (λ a. Picks base pinned but found a × IsBefore found.objects (n + 1) a)
          list (get_or found.objects n 0 ∷ []) are (list_one (get_or found.objects n 0))
          (λ a b p e. (let step = rising p.1.place n p.1.low low in let at = p.1.is in omega arith))
          split wider
          (λ a e. (subst (Picks base pinned but found) (sym e) picks, record { place = n; low = omega arith; is = sym e })))
      by (inr (never, is)) = subst (IsListOf (λ a. Picks base pinned but found a × IsBefore found.objects (n + 1) a)) (sym is)
          (list_as _ (λ a. Picks base pinned but found a × IsBefore found.objects (n + 1) a) list are wider
          (λ a p. elim (split a p) [ inl before ↦ before | inr same ↦ absurd (never (subst (Picks base pinned but found) same p.0)) ]))

  -- nothing is picked of those up to another place
  pub picked_skip : (n m : ℕ) (list : List ℕ) → n ≤ m → ((k : ℕ) → n ≤ k → k < m → Picks base pinned but found (get_or found.objects k 0) → ⊥) → ArePicked base pinned but found n list → ArePicked base pinned but found m list
  unfolding ArePicked
  picked_skip n m list up never are =
      list_as (λ a. Picks base pinned but found a × IsBefore found.objects n a) (λ a. Picks base pinned but found a × IsBefore found.objects m a) list are
      (λ a p. (p.0, record { place = p.1.place; low = omega (arith, p.1.low, up); is = p.1.is })) back
    where
      back : (a : ℕ) → Picks base pinned but found a × IsBefore found.objects m a → Picks base pinned but found a × IsBefore found.objects n a
      back a (picks, before) = elim (cases_lt before.place n) [
        | inl low ↦ (picks, record { place = before.place; low = low; is = before.is })
        | inr behind ↦ absurd (never before.place behind before.low (subst (Picks base pinned but found) (sym before.is) picks))
      ]

  pub picked_all : (n : ℕ) (list : List ℕ) → length found.objects ≤ n → ((a : ℕ) → Contains found.list a → Contains found.objects a) → ArePicked base pinned but found n list → IsListOf (Picks base pinned but found) list
  unfolding ArePicked
  picked_all n list end whole are = list_as _ (Picks base pinned but found) list are (λ a p. p.0) (λ a p. (p, at a (whole a p.0)))
    where
      at : (a : ℕ) → Contains found.objects a → IsBefore found.objects n a
      at a (k, low, is) = record { place = k; low = omega arith; is = get_or_default found.objects k 0 a low ∙ is }
