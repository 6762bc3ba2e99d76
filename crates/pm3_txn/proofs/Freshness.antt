-- Blank images of the least free pages.
use Rattle.std.proofs.Common.{◌≡◌, ◌<◌, ◌≤◌, ◌+◌, ◌==◌, ◌||◌, ◌∙◌, ◌⊎◌, inl, inr, ℕ, Bool, true, false, cond, Option, Some, None, is_some, refl, sym, ap, subst, arith}
use Rattle.std.proofs.lemmas.Bool.{cases_eq, cases_lt, eq-eqb, ne_eqb, false≢true}
use Rattle.std.specs.Cmp.{nat_cmp_total}
use Rattle.std.specs.FinMap as map
use Rattle.std.specs.FinMap.{get-empty, len-insert}
use Rattle.std.specs.FinSet as set
use Rattle.std.specs.Ordering.{nat_cmp}
use Rattle.pm3_types.specs.Layout.{PageImage, blank_sheet}
use Rattle.pm3_copy.specs.Fresh.{AreBlank}
use Rattle.pm3_page.specs.Next.{IsLeast, IsNext}
use Rattle.pm3_page.specs.PageMap.{Images}
use Rattle.pm3_access.specs.Parts.{RestFreeIs, SpaceRest}
use Rattle.pm3_access.proofs.Homes.{get_same, get_other, some_of}
use Rattle.pm3_txn.specs.PassSteps.{AreAllFresh, AreFresh, IsNewFree, is_free}

-- each free page below a number has an image, and only these have
pub record AreTo (s : Option SpaceRest) (fresh : Images) (from : ℕ) : Type 0 where
  pub blank : AreBlank fresh
  pub free : (q : ℕ) → map.contains_key fresh q ≡ true → is_free s q ≡ true
  pub below : (q : ℕ) → map.contains_key fresh q ≡ true → q < from
  pub all : (q : ℕ) → is_free s q ≡ true → q < from → map.contains_key fresh q ≡ true

none_in : (q : ℕ) → map.contains_key {X = PageImage} {R = nat_cmp} map.empty q ≡ false
none_in q = ap is_some (get-empty nat_cmp q)

none_blank : AreBlank map.empty
none_blank p image is = absurd (false≢true (sym (none_in p) ∙ ap is_some is))

pub none_to : (s : Option SpaceRest) (fresh : Images) → fresh ≡ map.empty → AreTo s fresh 0
none_to s fresh none = subst (λ (x : Images). AreTo s x 0) (sym none) (record {
  blank = none_blank;
  free = λ q is. absurd (false≢true (sym (none_in q) ∙ is));
  below = λ q is. absurd (false≢true (sym (none_in q) ∙ is));
  all = λ q is low. absurd (omega (arith, low));
})

-- an image more
module _ (fresh new : Images) (page : ℕ) (image : PageImage) (is : image ≡ record { page = page; sheet = blank_sheet }) (put : new ≡ map.insert fresh image.page image) where
  added : new ≡ map.insert fresh page image
  added = put ∙ ap (λ (i : PageImage). map.insert fresh i.page image) is

  here : (q : ℕ) → q ≡ page → map.get new q ≡ Some image
  here q e = ap (λ (x : Images). map.get x q) added ∙ get_same fresh page q image e

  there : (q : ℕ) → (q ≡ page → ⊥) → map.get new q ≡ map.get fresh q
  there q ne = ap (λ (x : Images). map.get x q) added ∙ get_other fresh page q image ne

  pub has_more : (q : ℕ) → map.contains_key fresh q ≡ true → map.contains_key new q ≡ true
  has_more q on = elim (cases_eq q page) [
    | inl e ↦ ap is_some (here q e)
    | inr ne ↦ ap is_some (there q ne) ∙ on
  ]

  pub has_only : (q : ℕ) → map.contains_key new q ≡ true → (q ≡ page) ⊎ (map.contains_key fresh q ≡ true)
  has_only q on = elim (cases_eq q page) [
    | inl e ↦ inl e
    | inr ne ↦ inr (sym (ap is_some (there q ne)) ∙ on)
  ]

  pub has_page : map.contains_key new page ≡ true
  has_page = ap is_some (here page refl)

  pub blank_more : 3 ≤ page → page < 16384 → AreBlank fresh → AreBlank new
  blank_more high low old q x on = elim (cases_eq q page) [
    | inl e ↦ (let same : image ≡ x = some_of image x (sym (here q e) ∙ on) in
        (omega (arith, e, high), omega (arith, e, low), sym same ∙ is ∙ (λ i. record { page = sym e i; sheet = blank_sheet })))
    | inr ne ↦ old q x (sym (there q ne) ∙ on)
  ]

  pub len_more : map.contains_key fresh page ≡ false → map.len new ≡ map.len fresh + 1
  len_more none = ap map.len added ∙ len-insert nat_cmp_total fresh page image ∙ ap (λ (b : Bool). cond b (map.len fresh) (map.len fresh + 1)) none

  pub more_to : (s : Option SpaceRest) (from : ℕ) → 3 ≤ page → page < 16384 → IsLeast (is_free s) from page → AreTo s fresh from → AreTo s new (page + 1)
  more_to s from high low next to = record {
    blank = blank_more high low to.blank;
    free = λ q on. of_free q (has_only q on);
    below = λ q on. of_below q (has_only q on);
    all = λ q free under. elim (cases_eq q page) [
      | inl e ↦ ap is_some (here q e)
      | inr ne ↦ has_more q (elim (cases_lt q from) [
        | inl before ↦ to.all q free before
        | inr after ↦ absurd (false≢true (sym (next.least q after (omega (arith, under, ne))) ∙ free))
      ])
    ];
  }
    where
      of_free : (q : ℕ) → (q ≡ page) ⊎ (map.contains_key fresh q ≡ true) → is_free s q ≡ true
      of_free q (inl e) = ap (is_free s) e ∙ next.there
      of_free q (inr on) = to.free q on

      of_below : (q : ℕ) → (q ≡ page) ⊎ (map.contains_key fresh q ≡ true) → q < page + 1
      of_below q (inl e) = omega (arith, e)
      of_below q (inr on) = (let under = to.below q on in let reach = next.reached in omega (arith, under, reach))

  -- a page that was drawn, once all other free pages have one
  pub fresh_drawn : (old s : Option SpaceRest) → 3 ≤ page → page < 16384 → IsNewFree old s page → AreFresh old fresh → AreAllFresh old fresh → AreFresh s new × AreAllFresh s new
  fresh_drawn old s high low drawn are all = (
    record { blank = blank_more high low are.blank; free = λ q on. free_of q (has_only q on); least = λ p q on free under. every p free },
    every,
  )
    where
      free_of : (q : ℕ) → (q ≡ page) ⊎ (map.contains_key fresh q ≡ true) → is_free s q ≡ true
      free_of q (inl e) = drawn.free q ∙ ap (λ (b : Bool). b || is_free old q) (eq-eqb q page e)
      free_of q (inr on) = drawn.free q ∙ second (q == page) (is_free old q) (are.free q on)
        where
          second : (a b : Bool) → b ≡ true → (a || b) ≡ true
          second true b is_b = refl
          second false b is_b = is_b

      every : (q : ℕ) → is_free s q ≡ true → map.contains_key new q ≡ true
      every q free = elim (cases_eq q page) [
        | inl e ↦ ap is_some (here q e)
        | inr ne ↦ has_more q (all q (sym (drawn.free q ∙ ap (λ (b : Bool). b || is_free old q) (ne_eqb q page ne)) ∙ free))
      ]

pub to_fresh : (s : Option SpaceRest) (fresh : Images) (from : ℕ) → AreTo s fresh from → AreFresh s fresh
to_fresh s fresh from to = record {
  blank = to.blank;
  free = to.free;
  least = λ p q on free under. to.all p free (let low = to.below q on in omega (arith, low, under));
}

-- once no further page is free all have one
pub to_all : (s : Option SpaceRest) (fresh : Images) (from : ℕ) → AreTo s fresh from → ((q : ℕ) → from ≤ q → is_free s q ≡ false) → AreAllFresh s fresh
to_all s fresh from to none q free = elim (cases_lt q from) [
  | inl before ↦ to.all q free before
  | inr after ↦ absurd (false≢true (sym (none q after) ∙ free))
]

-- the next free page is one of the parts
pub next_of : (o : Option SpaceRest) (start page : ℕ) → RestFreeIs o (λ free. IsNext (set.contains free) start (Some page)) → IsLeast (is_free o) start page
next_of None start page is = absurd is
next_of (Some s) start page is = record { reached = is.reached; there = is.there; least = is.least }

pub next_none : (o : Option SpaceRest) (start : ℕ) → RestFreeIs o (λ free. IsNext (set.contains free) start None) → (q : ℕ) → start ≤ q → is_free o q ≡ false
next_none None start is q above = refl
next_none (Some s) start is q above = is q above

pub not_in : (s : Option SpaceRest) (fresh : Images) (from page : ℕ) → from ≤ page → AreTo s fresh from → map.contains_key fresh page ≡ false
not_in s fresh from page reached to = of (map.contains_key fresh page) refl
  where
    of : (b : Bool) → map.contains_key fresh page ≡ b → map.contains_key fresh page ≡ false
    of true on = (let low = to.below page on in absurd (omega (arith, low, reached)))
    of false none = none

pub absent : (fresh : Images) (page : ℕ) → map.contains_key fresh page ≡ false → map.get fresh page ≡ None
absent fresh page none = of (map.get fresh page) refl
  where
    of : (o : Option PageImage) → map.get fresh page ≡ o → map.get fresh page ≡ None
    of None is_none = is_none
    of (Some x) some = absurd (false≢true (sym none ∙ ap is_some some))

-- a new free page has none yet
pub not_fresh : (old s : Option SpaceRest) (fresh : Images) (page : ℕ) → AreFresh old fresh → IsNewFree old s page → map.contains_key fresh page ≡ false
not_fresh old s fresh page are drawn = of (map.contains_key fresh page) refl
  where
    of : (b : Bool) → map.contains_key fresh page ≡ b → map.contains_key fresh page ≡ false
    of true on = absurd (false≢true (sym drawn.none ∙ are.free page on))
    of false none = none

-- where there are too few of them each free page has one
pub all_so_far : (count wanted : ℕ) (s : Option SpaceRest) (fresh : Images) → count < wanted → (count ≡ wanted) ⊎ AreAllFresh s fresh → AreAllFresh s fresh
all_so_far count wanted s fresh few (inl same) = absurd (omega (arith, few, same))
all_so_far count wanted s fresh few (inr all) = all
