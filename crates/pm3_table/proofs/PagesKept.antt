-- What steps leave of the part on pages and spaces.
use Rattle.std.proofs.Common.{◌≡◌, ◌≢◌, ◌⊎◌, ℕ, ◌+◌, ◌-◌, ◌<◌, ◌≤◌, ◌==◌, ◌||◌, Bool, true, false, if◌then◌else◌, List, [], ◌∷◌, ◌++◌, length, refl, sym, ap, ◌∙◌, subst, inl, inr, ⊎_elim, arith}
use Rattle.std.proofs.Math.ListN.{set}
use Rattle.std.proofs.lemmas.Bool.Decides.{nat_tests}
use mathlib.Core.Option.{Option, none, some, some-injective, some-ne-none}
use mathlib.Core.Logic.{dite}
use native.Mathlib.Decide.{ℕ_discrete}
use lib.ListN.{get_elem?}
use Rattle.atomic_table.proofs.Lists.{set_here, set_else}
use Rattle.pm3_core.specs.Machine.{put}
use Rattle.pm3_history.specs.Entry.{Done}
use Rattle.pm3_table.specs.declared.view.Hold.{Hold}
use Rattle.pm3_table.specs.declared.view.Hold.TheVariants.{Took, Gave}
use Rattle.pm3_table.specs.declared.view.Span.{Span}
use Rattle.pm3_table.specs.declared.view.Span.TheVariants.{Spread}
use Rattle.pm3_table.specs.Entries.{writes}
use Rattle.pm3_table.specs.Histories.{some_has}
use Rattle.pm3_table.specs.Holds.{holds_of, spans_of, is_in, without_number}
use Rattle.pm3_table.specs.Pages.{PageView, PagesRule}
use Rattle.pm3_table.specs.Words.{space_unit}
use Rattle.pm3_table.proofs.Put.{put_at, put_else, put_cases}
use Rattle.pm3_table.proofs.Has.{has_one}

-- the view of a mutator
abbrev pub page_with : List Hold → List Span → List ℕ → List ℕ → PageView
page_with holds spans steady pages = record { live = true; holds = holds; spans = spans; steady = steady; pages = pages }

pub yes_or_no : (b : Bool) → (b ≡ true) ⊎ (b ≡ false)
yes_or_no true = inl refl
yes_or_no false = inr refl

abbrev OutOf : ℕ → ℕ → List ℕ → Bool → Type 0
OutOf n q xs there = (n ≢ q) × (there ≡ true)

not_first : (n q x : ℕ) (xs : List ℕ) → (x == q) ≡ false → (is_in n (without_number q xs) ≡ true → OutOf n q xs (is_in n xs))
    → ((x == n) ≡ true) ⊎ ((x == n) ≡ false) → ((x == n) || is_in n (without_number q xs)) ≡ true → OutOf n q xs ((x == n) || is_in n xs)
not_first n q x xs e rest (inl same) h = ((λ is. grind (arith, nat_tests, e, same, is)), grind (arith, nat_tests, same))
not_first n q x xs e rest (inr other) h = let r = rest (grind (arith, nat_tests, other, h)) in (r.0, grind (arith, nat_tests, r.1))

chosen_out : (n q x : ℕ) (xs : List ℕ) (b : Bool) → (x == q) ≡ b → (is_in n (without_number q xs) ≡ true → OutOf n q xs (is_in n xs))
    → is_in n (if b then without_number q xs else (x ∷ without_number q xs)) ≡ true → OutOf n q xs ((x == n) || is_in n xs)
chosen_out n q x xs true e rest h = let r = rest h in (r.0, grind (arith, nat_tests, r.1))
chosen_out n q x xs false e rest h = not_first n q x xs e rest (yes_or_no (x == n)) h

-- a list without a number
pub in_without : (n q : ℕ) (xs : List ℕ) → is_in n (without_number q xs) ≡ true → (n ≢ q) × (is_in n xs ≡ true)
in_without n q [] h = absurd (cc)
in_without n q (x ∷ xs) h = chosen_out n q x xs (x == q) refl (in_without n q xs) h

module _ {S : Type 0} (empty : S) (spans : S → List ℕ) (pages frontier : ℕ) (refers : Done → ℕ → Bool) (keeps : ℕ → Done → ℕ → Bool) where
  module _ (top : ℕ) (used : ℕ → Bool) (mark space holder : ℕ → ℕ) (history : List Done) (homes : List (Option S)) (crew : ℕ → PageView)
      (r : PagesRule empty spans pages frontier refers keeps top used mark space holder history homes crew) where
    abbrev Rule : ℕ → (ℕ → Bool) → (ℕ → ℕ) → (ℕ → ℕ) → (ℕ → ℕ) → List Done → List (Option S) → (ℕ → PageView) → Type 0
    Rule = PagesRule empty spans pages frontier refers keeps

    -- a page is marked by who holds its space, or unmarked
    pub marks_part : (q h : ℕ) → (h ≢ 0 → (space q ≢ 0) × (holder (space_unit pages (space q - 1)) ≡ h)) → Rule top used (put mark q h) space holder history homes crew
    marks_part q h may = record {
      opened = r.opened;
      low = r.low;
      blank = r.blank;
      bare = r.bare;
      volatile = r.volatile;
      marks = λ p. put_cases (λ x. x ≢ 0 → (space p ≢ 0) × (holder (space_unit pages (space p - 1)) ≡ x)) mark q h p
          (λ here. subst (λ (n : ℕ). h ≢ 0 → (space n ≢ 0) × (holder (space_unit pages (space n - 1)) ≡ h)) (sym here) may) (λ _. r.marks p);
      at_home = r.at_home;
      held = r.held;
      steady = r.steady;
      drawn = r.drawn;
      apart = r.apart;
      named = r.named;
      written = r.written;
      kept = r.kept;
    }

    -- a persistent page is used and unmarked
    pub not_marked : (q : ℕ) → space q ≡ 0 → mark q ≡ 0
    not_marked q none_is = dite (ℕ_discrete (mark q) 0) (λ e. e) (λ o. absurd ((r.marks q o).0 none_is))

    -- a held page is used, and of no space
    pub held_page : (q : ℕ) → q < pages → holder q ≢ 0 → (used q ≡ true) × (space q ≡ 0)
    held_page q low taken = (
      ⊎_elim (λ y. y) (λ n. absurd (taken (r.blank q low n).0)) (yes_or_no (used q)),
      dite (ℕ_discrete (space q) 0) (λ e. e) (λ o. absurd (taken (r.volatile q o).1)),
    )

    -- a counter rises, and no page is drawn
    pub pages_higher : (top' : ℕ) → top ≤ top' → Rule top' used mark space holder history homes crew
    pages_higher top' up = record {
      opened = r.opened;
      low = λ p is. let was = r.low p is in (was.0, omega (arith, was.1, up));
      blank = r.blank;
      bare = r.bare;
      volatile = r.volatile;
      marks = r.marks;
      at_home = r.at_home;
      held = r.held;
      steady = r.steady;
      drawn = λ k live p is. let was = r.drawn k live p is in (was.0, was.1, omega (arith, was.2, up), was.3);
      apart = r.apart;
      named = r.named;
      written = r.written;
      kept = r.kept;
    }

    module _ (k : ℕ) (alive : (crew k).live ≡ true) where
      was_live : (w : PageView) (i : ℕ) → (put crew k w i).live ≡ true → (crew i).live ≡ true
      was_live w i live = dite (ℕ_discrete i k) (λ e. ap (λ (n : ℕ). (crew n).live) e ∙ alive) (λ o. ap (λ (v : PageView). v.live) (sym (put_else crew k w i o)) ∙ live)

      was_pages : (w : PageView) → w.pages ≡ (crew k).pages → (i : ℕ) → (put crew k w i).pages ≡ (crew i).pages
      was_pages w same i = put_cases (λ v. v.pages ≡ (crew i).pages) crew k w i (λ here. same ∙ ap (λ (n : ℕ). (crew n).pages) (sym here)) (λ _. refl)

      same_apart : (w : PageView) → w.pages ≡ (crew k).pages → (i j p : ℕ) → (put crew k w i).live ≡ true → (put crew k w j).live ≡ true
          → is_in p (put crew k w i).pages ≡ true → is_in p (put crew k w j).pages ≡ true → i ≡ j
      same_apart w same i j p li lj a b = r.apart i j p (was_live w i li) (was_live w j lj)
          (ap (is_in p) (sym (was_pages w same i)) ∙ a) (ap (is_in p) (sym (was_pages w same j)) ∙ b)

      -- k takes the unit u, which is at home with x
      pub pages_take : (u : ℕ) (x : S) → holder u ≡ 0 → (u < pages → (used u ≡ true) × (space u ≡ 0)) → get_elem? homes u ≡ some (some x) → u < length homes
          → Rule top used mark space (put holder u (k + 1)) history (set homes u none)
          (put crew k (page_with (Took u ∷ (crew k).holds) (Spread u (spans x) ∷ (crew k).spans) (crew k).steady (crew k).pages))
      pages_take u x free steady at inside =
          let w : PageView = page_with (Took u ∷ (crew k).holds) (Spread u (spans x) ∷ (crew k).spans) (crew k).steady (crew k).pages in record {
            opened = r.opened;
            low = r.low;
            blank = λ p low not_used. let was = r.blank p low not_used in
                (put_else holder u (k + 1) p (λ e. let s = steady (subst (λ (n : ℕ). n < pages) e low) in let a : used p ≡ true = ap used e ∙ s.0 in cc) ∙ was.0, was.1);
            bare = λ p low either. set_else homes u p none (λ e. let s = steady (subst (λ (n : ℕ). n < pages) e low) in
                ⊎_elim (λ n. let a : used p ≡ true = ap used e ∙ s.0 in cc) (λ n. n (ap space e ∙ s.1)) either) ∙ r.bare p low either;
            volatile = λ p is. let was = r.volatile p is in
                (was.0, put_else holder u (k + 1) p (λ e. is (ap space e ∙ (steady (subst (λ (n : ℕ). n < pages) e (r.low p was.2).0)).1)) ∙ was.1, was.2, was.3);
            marks = λ p is. let was = r.marks p is in
                (was.0, put_else holder u (k + 1) (space_unit pages (space p - 1)) (λ e. is (sym was.1 ∙ (ap holder e ∙ free))) ∙ was.1);
            at_home = λ j low y home. dite (ℕ_discrete (space_unit pages j) u)
                (λ e. absurd (some-ne-none y (some-injective (some y) none (sym home ∙ (ap (get_elem? (set homes u none)) e ∙ set_here homes u none inside)))))
                (λ o. r.at_home j low y (sym (set_else homes u (space_unit pages j) none o) ∙ home));
            held = λ i. put_cases (λ v. v.live ≡ true → (j : ℕ) → j < 32 → holds_of v.holds (space_unit pages j) ≡ true → (p : ℕ) → spans_of v.spans (space_unit pages j) p ≡ (space p == j + 1)) crew k w i
                (λ _ _ j low. dite (ℕ_discrete (space_unit pages j) u)
                (λ e _ p. ap (λ (f : ℕ → Bool). f p) (put_at (spans_of (crew k).spans) u (λ n. is_in n (spans x)) (space_unit pages j) e)
                ∙ r.at_home j low x (ap (get_elem? homes) e ∙ at) p)
                (λ o holds p. ap (λ (f : ℕ → Bool). f p) (put_else (spans_of (crew k).spans) u (λ n. is_in n (spans x)) (space_unit pages j) o)
                ∙ r.held k alive j low (sym (put_else (holds_of (crew k).holds) u true (space_unit pages j) o) ∙ holds) p))
                (λ _ live. r.held i live);
            steady = λ i. put_cases (λ v. v.live ≡ true → (p : ℕ) → is_in p v.steady ≡ true → (used p ≡ true) × (space p ≡ 0)) crew k w i (λ _ _. r.steady k alive) (λ _. r.steady i);
            drawn = λ i. put_cases (λ v. v.live ≡ true → (p : ℕ) → is_in p v.pages ≡ true → (frontier ≤ p) × (p < pages) × (p < top) × (used p ≡ false)) crew k w i (λ _ _. r.drawn k alive) (λ _. r.drawn i);
            apart = same_apart w refl;
            named = r.named;
            written = r.written;
            kept = r.kept;
          }

      -- k gives the unit u back with x, and commits come that name used pages, write persistent ones alone and leave to a space its own
      pub pages_give : (u : ℕ) (x : S) (more : List Done) → holder u ≡ k + 1 → u < length homes
          → ((j : ℕ) → j < 32 → space_unit pages j ≡ u → (p : ℕ) → is_in p (spans x) ≡ (space p == j + 1))
          → ((p : ℕ) → mark p ≢ 0 → space_unit pages (space p - 1) ≢ u)
          → ((p : ℕ) → some_has refers more p ≡ true → used p ≡ true)
          → ((p : ℕ) → some_has writes more p ≡ true → (used p ≡ true) × (space p ≡ 0))
          → ((j p : ℕ) → some_has (keeps j) more p ≡ true → space p ≡ j + 1)
          → Rule top used mark space (put holder u 0) (history ++ more) (set homes u (some x))
          (put crew k (page_with (Gave u ∷ (crew k).holds) (crew k).spans (crew k).steady (crew k).pages))
      pages_give u x more mine inside fits unmarked uses persists keeps_own =
          let w : PageView = page_with (Gave u ∷ (crew k).holds) (crew k).spans (crew k).steady (crew k).pages in
          let taken : holder u ≢ 0 = λ z. omega (arith, z, mine) in record {
            opened = r.opened;
            low = r.low;
            blank = λ p low not_used. let was = r.blank p low not_used in (put_cases (λ h. h ≡ 0) holder u 0 p (λ _. refl) (λ _. was.0), was.1);
            bare = λ p low either. set_else homes u p (some x) (λ e. let h = held_page u (subst (λ (n : ℕ). n < pages) e low) taken in
                ⊎_elim (λ n. let a : used p ≡ true = ap used e ∙ h.0 in cc) (λ n. n (ap space e ∙ h.1)) either) ∙ r.bare p low either;
            volatile = λ p is. let was = r.volatile p is in (was.0, put_cases (λ h. h ≡ 0) holder u 0 p (λ _. refl) (λ _. was.1), was.2, was.3);
            marks = λ p is. let was = r.marks p is in (was.0, put_else holder u 0 (space_unit pages (space p - 1)) (unmarked p is) ∙ was.1);
            at_home = λ j low y home. dite (ℕ_discrete (space_unit pages j) u)
                (λ e p. let is : x ≡ y = some-injective x y (some-injective (some x) (some y) (sym (set_here homes u (some x) inside) ∙ (ap (get_elem? (set homes u (some x))) (sym e) ∙ home))) in
                ap (λ (z : S). is_in p (spans z)) (sym is) ∙ fits j low e p)
                (λ o. r.at_home j low y (sym (set_else homes u (space_unit pages j) (some x) o) ∙ home));
            held = λ i. put_cases (λ v. v.live ≡ true → (j : ℕ) → j < 32 → holds_of v.holds (space_unit pages j) ≡ true → (p : ℕ) → spans_of v.spans (space_unit pages j) p ≡ (space p == j + 1)) crew k w i
                (λ _ _ j low. dite (ℕ_discrete (space_unit pages j) u)
                (λ e holds. let a : holds_of (Gave u ∷ (crew k).holds) (space_unit pages j) ≡ false = put_at (holds_of (crew k).holds) u false (space_unit pages j) e in absurd (cc))
                (λ o holds p. r.held k alive j low (sym (put_else (holds_of (crew k).holds) u false (space_unit pages j) o) ∙ holds) p))
                (λ _ live. r.held i live);
            steady = λ i. put_cases (λ v. v.live ≡ true → (p : ℕ) → is_in p v.steady ≡ true → (used p ≡ true) × (space p ≡ 0)) crew k w i (λ _ _. r.steady k alive) (λ _. r.steady i);
            drawn = λ i. put_cases (λ v. v.live ≡ true → (p : ℕ) → is_in p v.pages ≡ true → (frontier ≤ p) × (p < pages) × (p < top) × (used p ≡ false)) crew k w i (λ _ _. r.drawn k alive) (λ _. r.drawn i);
            apart = same_apart w refl;
            named = λ p is. ⊎_elim (r.named p) (uses p) (has_one refers history more p is);
            written = λ p is. ⊎_elim (r.written p) (persists p) (has_one writes history more p is);
            kept = λ j p is. ⊎_elim (r.kept j p) (λ new. inl (keeps_own j p new)) (has_one (keeps j) history more p is);
          }

      -- k draws the page at the counter
      pub pages_draw : frontier ≤ top → top < pages
          → Rule (top + 1) used mark space holder history homes (put crew k (page_with (crew k).holds (crew k).spans (crew k).steady (top ∷ (crew k).pages)))
      pages_draw from below =
          let w : PageView = page_with (crew k).holds (crew k).spans (crew k).steady (top ∷ (crew k).pages) in
          let fresh : (i p : ℕ) → (crew i).live ≡ true → is_in p (crew i).pages ≡ true → top ≢ p = λ i p live is e. let was = r.drawn i live p is in omega (arith, was.2, e) in
          let now_in : (p : ℕ) → is_in p (top ∷ (crew k).pages) ≡ true → (top ≡ p) ⊎ (is_in p (crew k).pages ≡ true) = λ p is. ⊎_elim (λ y. inl (grind (arith, nat_tests, y))) (λ n. inr (grind (arith, nat_tests, n, is))) (yes_or_no (top == p)) in record {
            opened = r.opened;
            low = λ p is. let was = r.low p is in (was.0, omega (arith, was.1));
            blank = r.blank;
            bare = r.bare;
            volatile = r.volatile;
            marks = r.marks;
            at_home = r.at_home;
            held = λ i. put_cases (λ v. v.live ≡ true → (j : ℕ) → j < 32 → holds_of v.holds (space_unit pages j) ≡ true → (p : ℕ) → spans_of v.spans (space_unit pages j) p ≡ (space p == j + 1)) crew k w i (λ _ _. r.held k alive) (λ _. r.held i);
            steady = λ i. put_cases (λ v. v.live ≡ true → (p : ℕ) → is_in p v.steady ≡ true → (used p ≡ true) × (space p ≡ 0)) crew k w i (λ _ _. r.steady k alive) (λ _. r.steady i);
            drawn = λ i. put_cases (λ v. v.live ≡ true → (p : ℕ) → is_in p v.pages ≡ true → (frontier ≤ p) × (p < pages) × (p < top + 1) × (used p ≡ false)) crew k w i
                (λ _ _ p is. ⊎_elim
                (λ e. (
                  subst (λ (n : ℕ). frontier ≤ n) e from,
                  subst (λ (n : ℕ). n < pages) e below,
                  omega (arith, e),
                  ⊎_elim (λ y. absurd (let was = r.low p y in omega (arith, was.1, e))) (λ n. n) (yes_or_no (used p)),
                ))
                (λ old. let was = r.drawn k alive p old in (was.0, was.1, omega (arith, was.2), was.3))
                (now_in p is))
                (λ _ live p is. let was = r.drawn i live p is in (was.0, was.1, omega (arith, was.2), was.3));
            apart = λ i j p li lj. put_cases (λ v. is_in p v.pages ≡ true → is_in p (put crew k w j).pages ≡ true → i ≡ j) crew k w i
                (λ hi a. put_cases (λ v. is_in p v.pages ≡ true → i ≡ j) crew k w j
                (λ hj b. hi ∙ sym hj)
                (λ oj b. ⊎_elim (λ e. absurd (fresh j p (was_live w j lj) b e)) (λ old. absurd (oj (r.apart j k p (was_live w j lj) alive b old))) (now_in p a)))
                (λ oi a. put_cases (λ v. is_in p v.pages ≡ true → i ≡ j) crew k w j
                (λ hj b. ⊎_elim (λ e. absurd (fresh i p (was_live w i li) a e)) (λ old. r.apart i k p (was_live w i li) alive a old ∙ sym hj) (now_in p b))
                (λ oj b. r.apart i j p (was_live w i li) (was_live w j lj) a b));
            named = r.named;
            written = r.written;
            kept = r.kept;
          }

      -- k knows one more page to be persistent
      pub pages_look : (q : ℕ) → used q ≡ true → space q ≡ 0
          → Rule top used mark space holder history homes (put crew k (page_with (crew k).holds (crew k).spans (q ∷ (crew k).steady) (crew k).pages))
      pages_look q is_used none_is =
          let w : PageView = page_with (crew k).holds (crew k).spans (q ∷ (crew k).steady) (crew k).pages in record {
            opened = r.opened;
            low = r.low;
            blank = r.blank;
            bare = r.bare;
            volatile = r.volatile;
            marks = r.marks;
            at_home = r.at_home;
            held = λ i. put_cases (λ v. v.live ≡ true → (j : ℕ) → j < 32 → holds_of v.holds (space_unit pages j) ≡ true → (p : ℕ) → spans_of v.spans (space_unit pages j) p ≡ (space p == j + 1)) crew k w i (λ _ _. r.held k alive) (λ _. r.held i);
            steady = λ i. put_cases (λ v. v.live ≡ true → (p : ℕ) → is_in p v.steady ≡ true → (used p ≡ true) × (space p ≡ 0)) crew k w i
                (λ _ _ p is. dite (ℕ_discrete q p)
                (λ e. (ap used (sym e) ∙ is_used, ap space (sym e) ∙ none_is))
                (λ o. r.steady k alive p (grind (arith, nat_tests, o, is))))
                (λ _. r.steady i);
            drawn = λ i. put_cases (λ v. v.live ≡ true → (p : ℕ) → is_in p v.pages ≡ true → (frontier ≤ p) × (p < pages) × (p < top) × (used p ≡ false)) crew k w i (λ _ _. r.drawn k alive) (λ _. r.drawn i);
            apart = same_apart w refl;
            named = r.named;
            written = r.written;
            kept = r.kept;
          }
