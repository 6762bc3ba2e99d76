-- Where objects go, one after another.
use Rattle.std.proofs.Common.{◌≡◌, ◌≢◌, ◌<◌, ◌≤◌, ◌+◌, ◌∙◌, ◌⊎◌, inl, inr, ℕ, nat_le, false, List, [], ◌∷◌, ◌++◌, length, get_or, Some, is_some, refl, sym, ap, subst, arith, length-append}
use Rattle.std.specs.FinMap as map_of
use Rattle.std.proofs.Math.ListN.{get_or-append}
use Rattle.std.proofs.lemmas.List.{append_assoc, get_or_push}
use Rattle.std.proofs.lemmas.Bool.{cases_eq, cases_lt, cond-true, cond-false, le-leb, leb-true, cases_Bool, false≢true}
use Rattle.pm3_types.specs.Layout.{address, page_in}
use Rattle.pm3_types.specs.PassMoves.{settle, settled, pages_behind}
use Rattle.pm3_types.proofs.Addressing.{page_in-address}
use Rattle.pm3_page.specs.Next.{IsLeast}
use Rattle.pm3_page.specs.PageMap.{Images}
use Rattle.pm3_copy.specs.Fresh.{blank, AreNext}
use Rattle.pm3_copy.proofs.Settling.{fits_here, goes_on}

-- the least number is one alone
pub same_least : (has : ℕ → _) (start p q : ℕ) → IsLeast has start p → IsLeast has start q → p ≡ q
same_least has start p q one other = elim (cases_eq p q) [
  | inl same ↦ same
  | inr apart ↦ elim (cases_lt p q) [
    | inl below ↦ absurd (false≢true (sym (other.least p one.reached below) ∙ one.there))
    | inr above ↦ absurd (false≢true (sym (one.least q other.reached (omega arith)) ∙ other.there))
  ]
]

-- the next pages of images that are as they were from there on
pub next_kept : (old new : Images) (start : ℕ) (pages : List ℕ) → ((p : ℕ) → start ≤ p → map_of.get new p ≡ map_of.get old p) → AreNext old start pages → AreNext new start pages
next_kept old new start [] same are = tt
next_kept old new start (p ∷ ps) same (least, three, blank_, rest) =
    let there = same p least.reached in (
      record {
        reached = least.reached;
        there = ap is_some there ∙ least.there;
        least = λ q from below. ap is_some (same q from) ∙ least.least q from below;
      },
      three,
      there ∙ blank_,
      next_kept old new (p + 1) ps (λ q from. same q (omega (arith, least.reached))) rest,
    )

-- an object that fits goes behind the last one
settle_here : (base s : ℕ) (ss : List ℕ) (page end : ℕ) (pages : List ℕ) → end + s ≤ 512 → settle base (s ∷ ss) page end pages ≡ address base page end ∷ settle base ss page (end + s) pages
settle_here base s ss page end [] low = cond-true (nat_le (end + s) 512) _ _ (le-leb (end + s) 512 low)
settle_here base s ss page end (p ∷ ps) low = cond-true (nat_le (end + s) 512) _ _ (le-leb (end + s) 512 low)

-- another goes to the next page
settle_next : (base s : ℕ) (ss : List ℕ) (page end p : ℕ) (ps : List ℕ) → 512 < end + s → s ≤ 510 → settle base (s ∷ ss) page end (p ∷ ps) ≡ settle base (s ∷ ss) p 2 ps
settle_next base s ss page end p ps high low = elim (cases_Bool (nat_le (end + s) 512)) [
  | inl is ↦ (let most = leb-true (end + s) 512 is in absurd (omega arith))
  | inr none ↦ cond-false (nat_le (end + s) 512) _ _ none ∙ sym (settle_here base s ss p 2 ps (omega arith))
]

too_much : (s : ℕ) → 0 < s → nat_le (512 + s) 512 ≡ false
too_much s more = elim (cases_Bool (nat_le (512 + s) 512)) [ inl is ↦ (let most = leb-true (512 + s) 512 is in absurd (omega arith)) | inr none ↦ none ]

-- a full page counts for nothing
pub settle_full : (base : ℕ) (sizes : List ℕ) (page other : ℕ) (pages : List ℕ) → ((i : ℕ) → i < length sizes → 0 < get_or sizes i 0) → settle base sizes page 512 pages ≡ settle base sizes other 512 pages
settle_full base [] page other pages some = refl
settle_full base (s ∷ ss) page other [] some = (let full = too_much s (some 0 (omega arith)) in cond-false (nat_le (512 + s) 512) _ _ full ∙ sym (cond-false (nat_le (512 + s) 512) _ _ full))
settle_full base (s ∷ ss) page other (p ∷ ps) some = (let full = too_much s (some 0 (omega arith)) in cond-false (nat_le (512 + s) 512) _ _ full ∙ sym (cond-false (nat_le (512 + s) 512) _ _ full))

-- the objects up to the i-th have places on the first of these pages, and the others will have theirs behind them
pub record AreSettling (base : ℕ) (sizes : List ℕ) (pages more : List ℕ) (after : ℕ) (images : Images) (left : List ℕ) (news : List ℕ) (page end : ℕ) : Type 0 where
  pub rest : List ℕ
  pub next : AreNext images (page + 1) (rest ++ more)
  pub enough : length rest ≡ pages_behind left end
  pub places : settled base sizes pages ≡ news ++ settle base left page end rest
  pub behind : end < 512 → after < page
  pub low : end ≤ 512
  pub above : after ≤ page
  pub up_to : (i : ℕ) → i < length news → page_in base (get_or news i 0) ≤ page

module _ (base : ℕ) (sizes : List ℕ) (pages more : List ℕ) (after : ℕ) where
  -- the page is full: the next one is begun
  pub to_next : (images : Images) (s : ℕ) (ss news : List ℕ) (page end p : ℕ) → AreSettling base sizes pages more after images (s ∷ ss) news page end → 512 < end + s → s ≤ 510
      → IsLeast (map_of.contains_key images) (page + 1) p
      → AreSettling base sizes pages more after images (s ∷ ss) news p 2 × (3 ≤ p) × (map_of.get images p ≡ Some (blank p))
  to_next images s ss news page end p are high small least = by are.rest are.next are.enough are.places
    where
      by : (rest : List ℕ) → AreNext images (page + 1) (rest ++ more) → length rest ≡ pages_behind (s ∷ ss) end → settled base sizes pages ≡ news ++ settle base (s ∷ ss) page end rest
          → AreSettling base sizes pages more after images (s ∷ ss) news p 2 × (3 ≤ p) × (map_of.get images p ≡ Some (blank p))
      by [] next enough places = (let step = goes_on s end ss high in absurd (omega (arith, step, enough)))
      by (q ∷ qs) (first, three, there, rest) enough places =
          let same : q ≡ p = same_least (map_of.contains_key images) (page + 1) q p first least in
          let step = goes_on s end ss high in
          let here = fits_here s 2 ss (omega arith) in (
            record {
              rest = qs;
              next = subst (λ n. AreNext images (n + 1) (qs ++ more)) same rest;
              enough = omega (arith, enough, step, here);
              places = places ∙ ap (λ xs. news ++ xs) (settle_next base s ss page end q qs high small) ∙ ap (λ n. news ++ settle base (s ∷ ss) n 2 qs) same;
              behind = λ _. omega (arith, are.above, least.reached);
              low = omega arith;
              above = omega (arith, are.above, least.reached);
              up_to = λ i less. omega (arith, are.up_to i less, least.reached);
            },
            subst (λ n. 3 ≤ n) same three,
            subst (λ n. map_of.get images n ≡ Some (blank n)) same there,
          )

  -- an object takes its place
  pub to_place : (old new : Images) (s : ℕ) (ss news : List ℕ) (page end : ℕ) → AreSettling base sizes pages more after old (s ∷ ss) news page end → end + s ≤ 512 → 0 < s
      → ((p : ℕ) → p ≢ page → map_of.get new p ≡ map_of.get old p)
      → AreSettling base sizes pages more after new ss (news ++ address base page end ∷ []) page (end + s)
  to_place old new s ss news page end are fits some others = record {
    rest = are.rest;
    next = next_kept old new (page + 1) (are.rest ++ more) (λ p from. others p (λ e. omega (arith, e))) are.next;
    enough = are.enough ∙ fits_here s end ss fits;
    places = are.places ∙ ap (λ xs. news ++ xs) (settle_here base s ss page end are.rest fits) ∙ sym (append_assoc news (address base page end ∷ []) (settle base ss page (end + s) are.rest));
    behind = λ _. are.behind (omega arith);
    low = fits;
    above = are.above;
    up_to = λ i less. up_to i less (cases_lt i (length news));
  }
    where
      up_to : (i : ℕ) → i < length (news ++ address base page end ∷ []) → (i < length news) ⊎ (length news ≤ i) → page_in base (get_or (news ++ address base page end ∷ []) i 0) ≤ page
      up_to i less (inl before) = subst (λ a. page_in base a ≤ page) (sym (get_or-append news (address base page end ∷ []) 0 i before)) (are.up_to i before)
      up_to i less (inr last) =
          let long = length-append news (address base page end ∷ []) in
          let same = get_or_push news (address base page end) 0 i (omega (arith, long)) in
          let on_page = ap (page_in base) same ∙ page_in-address base page end (omega arith) in
          omega (arith, on_page)
