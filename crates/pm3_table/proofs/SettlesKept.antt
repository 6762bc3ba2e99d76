-- What a settling leaves of the part on pages and spaces, and of the part on units.
use Rattle.std.proofs.Common.{◌≡◌, ◌≢◌, ◌⊎◌, ℕ, ◌+◌, ◌-◌, ◌<◌, ◌≤◌, ◌==◌, Bool, true, false, if◌then◌else◌, List, ◌∷◌, refl, sym, ap, ◌∙◌, subst, inl, inr, ⊎_elim, arith}
use Rattle.std.proofs.lemmas.Bool.Decides.{nat_tests}
use mathlib.Core.Option.{Option, none, some, some-injective, some-ne-none}
use mathlib.Core.Logic.{dite}
use native.Mathlib.Decide.{ℕ_discrete}
use lib.ListN.{get_elem?}
use Rattle.pm3_core.specs.Machine.{put}
use Rattle.pm3_history.specs.Entry.{Done}
use Rattle.pm3_table.specs.declared.view.Hold.{Hold}
use Rattle.pm3_table.specs.declared.view.Span.TheVariants.{Went}
use Rattle.pm3_table.specs.Holds.{holds_of, spans_of, is_in, without_number}
use Rattle.pm3_table.specs.Pages.{PageView, PagesRule}
use Rattle.pm3_table.specs.Words.{space_unit}
use Rattle.pm3_table.proofs.Put.{put_at, put_else, put_cases}
use Rattle.pm3_table.proofs.PagesKept.{page_with, in_without}

-- the number that `Went` has for a space's number plus one
abbrev pub where_to : ℕ → ℕ → ℕ
where_to pages z = if z == 0 then 0 else pages + z

went : (pages z j : ℕ) → (where_to pages z == space_unit pages j + 1) ≡ (z == j + 1)
went pages z j = grind (arith, nat_tests)

module _ {S : Type 0} (empty : S) (spans : S → List ℕ) (pages frontier : ℕ) (refers : Done → ℕ → Bool) (keeps : ℕ → Done → ℕ → Bool)
    (top : ℕ) (used : ℕ → Bool) (mark space holder : ℕ → ℕ) (history : List Done) (homes homes' : List (Option S)) (crew : ℕ → PageView)
    (r : PagesRule empty spans pages frontier refers keeps top used mark space holder history homes crew)
    (k : ℕ) (alive : (crew k).live ≡ true) (q z l : ℕ) (holds' : List Hold) (steady' : List ℕ) where
  -- The page q goes to the space z - 1, or to none with the lock l. It was drawn by k, or is of a space of k's and comes to no
  -- other; each space that it leaves or comes to is out, and no other view holds it.
  pub settle_part : q < pages → frontier ≤ q → q < top
      → (used q ≡ false) ⊎ (space q ≢ 0)
      → (used q ≡ true → (z ≡ 0) ⊎ (z ≡ space q))
      → ((i : ℕ) → i ≢ k → (crew i).live ≡ true → is_in q (crew i).pages ≡ false)
      → z ≤ 32 → (z ≢ 0 → l ≡ 0)
      → ((j : ℕ) → j < 32 → (space q ≡ j + 1) ⊎ (z ≡ j + 1)
      → (get_elem? homes (space_unit pages j) ≡ some none) × ((i : ℕ) → i ≢ k → (crew i).live ≡ true → holds_of (crew i).holds (space_unit pages j) ≡ false))
      → ((i : ℕ) → i ≢ q → get_elem? homes' i ≡ get_elem? homes i)
      → (z ≢ 0 → get_elem? homes' q ≡ get_elem? homes q)
      → ((j : ℕ) → holds_of holds' (space_unit pages j) ≡ true → holds_of (crew k).holds (space_unit pages j) ≡ true)
      → ((p : ℕ) → is_in p steady' ≡ true → (is_in p (crew k).steady ≡ true) ⊎ ((p ≡ q) × (z ≡ 0)))
      → PagesRule empty spans pages frontier refers keeps top (put used q true) (put mark q 0) (put space q z) (put holder q l) history homes'
      (put crew k (page_with holds' (Went q (where_to pages z) ∷ (crew k).spans) steady' (without_number q (crew k).pages)))
  settle_part low from under fresh within alone small free theirs elsewhere stays holding settled =
      let w : PageView = page_with holds' (Went q (where_to pages z) ∷ (crew k).spans) steady' (without_number q (crew k).pages) in
      let was_live : (i : ℕ) → (put crew k w i).live ≡ true → (crew i).live ≡ true = λ i live. dite (ℕ_discrete i k) (λ e. ap (λ (n : ℕ). (crew n).live) e ∙ alive) (λ o. ap (λ (v : PageView). v.live) (sym (put_else crew k w i o)) ∙ live) in
      let not_steady : (p : ℕ) → (used p ≡ true) × (space p ≡ 0) → p ≢ q = λ p is e. ⊎_elim (λ n. let a : used q ≡ true = ap used (sym e) ∙ is.0 in cc) (λ n. n (ap space (sym e) ∙ is.1)) fresh in
      let both_not : (j : ℕ) → ((space q ≡ j + 1) ⊎ (z ≡ j + 1) → ⊥) → (space q == j + 1) ≡ (z == j + 1) = λ j no. let a : (space q == j + 1) ≡ false = (let b : space q ≢ j + 1 = λ e. no (inl e) in grind (arith, nat_tests, b)) in
      let c : (z == j + 1) ≡ false = (let b : z ≢ j + 1 = λ e. no (inr e) in grind (arith, nat_tests, b)) in a ∙ sym c in
      let same : (j p : ℕ) → ((space q ≡ j + 1) ⊎ (z ≡ j + 1) → ⊥) → (space p == j + 1) ≡ (put space q z p == j + 1) = λ j p no. put_cases (λ s. (space p == j + 1) ≡ (s == j + 1)) space q z p (λ here. ap (λ (n : ℕ). space n == j + 1) here ∙ both_not j no) (λ _. refl) in
      let away : (j : ℕ) → space_unit pages j ≢ q = λ j e. omega (arith, e, low) in
      let unlocked : (p : ℕ) → p ≢ q → put holder q l p ≡ holder p = λ p o. put_else holder q l p o in
      record {
        opened = λ p is. put_cases (λ b. b ≡ true) used q true p (λ _. refl) (λ _. r.opened p is);
        low = λ p. put_cases (λ b. b ≡ true → (p < pages) × (p < top)) used q true p (λ here _. (subst (λ (n : ℕ). n < pages) (sym here) low, subst (λ (n : ℕ). n < top) (sym here) under)) (λ _. r.low p);
        blank = λ p below. put_cases (λ b. b ≡ false → (put holder q l p ≡ 0) × (put space q z p ≡ 0)) used q true p (λ _ e. absurd (cc))
            (λ o e. let was = r.blank p below e in (unlocked p o ∙ was.0, put_else space q z p o ∙ was.1));
        bare = λ p below either. dite (ℕ_discrete p q)
            (λ here. ⊎_elim (λ e. let a : put used q true p ≡ true = put_at used q true p here in absurd (cc))
            (λ is. let z_is : z ≢ 0 = λ e. is (put_at space q z p here ∙ e) in ap (get_elem? homes') here ∙ (stays z_is ∙ r.bare q low fresh)) either)
            (λ o. elsewhere p o ∙ r.bare p below (⊎_elim (λ e. inl (sym (put_else used q true p o) ∙ e)) (λ is. inr (λ e. is (put_else space q z p o ∙ e))) either));
        volatile = λ p. put_cases (λ s. s ≢ 0 → (s ≤ 32) × (put holder q l p ≡ 0) × (put used q true p ≡ true) × (frontier ≤ p)) space q z p
            (λ here is. (small, put_at holder q l p here ∙ free is, put_at used q true p here, subst (λ (n : ℕ). frontier ≤ n) (sym here) from))
            (λ o is. let was = r.volatile p is in (was.0, unlocked p o ∙ was.1, put_else used q true p o ∙ was.2, was.3));
        marks = λ p. put_cases (λ m. m ≢ 0 → (put space q z p ≢ 0) × (put holder q l (space_unit pages (put space q z p - 1)) ≡ m)) mark q 0 p
            (λ _ is. absurd (is refl))
            (λ o is. let was = r.marks p is in let s = put_else space q z p o in
            ((λ e. was.0 (sym s ∙ e)), put_else holder q l (space_unit pages (put space q z p - 1)) (away (put space q z p - 1)) ∙ (ap (λ (n : ℕ). holder (space_unit pages (n - 1))) s ∙ was.1)));
        at_home = λ j below x home p. let was : get_elem? homes (space_unit pages j) ≡ some (some x) = sym (elsewhere (space_unit pages j) (away j)) ∙ home in
            r.at_home j below x was p ∙ same j p (λ either. some-ne-none x (some-injective (some x) none (sym was ∙ (theirs j below either).0)));
        held = λ i. put_cases (λ v. v.live ≡ true → (j : ℕ) → j < 32 → holds_of v.holds (space_unit pages j) ≡ true → (p : ℕ) → spans_of v.spans (space_unit pages j) p ≡ (put space q z p == j + 1)) crew k w i
            (λ _ _ j below holds p. let was = r.held k alive j below (holding j holds) p in dite (ℕ_discrete p q)
            (λ here. put_at (spans_of (crew k).spans (space_unit pages j)) q (where_to pages z == space_unit pages j + 1) p here
            ∙ (went pages z j ∙ ap (λ (s : ℕ). s == j + 1) (sym (put_at space q z p here))))
            (λ o. put_else (spans_of (crew k).spans (space_unit pages j)) q (where_to pages z == space_unit pages j + 1) p o
            ∙ (was ∙ ap (λ (s : ℕ). s == j + 1) (sym (put_else space q z p o)))))
            (λ other live j below holds p. r.held i live j below holds p
            ∙ same j p (λ either. let no : holds_of (crew i).holds (space_unit pages j) ≡ false = (theirs j below either).1 i other live in cc));
        steady = λ i. put_cases (λ v. v.live ≡ true → (p : ℕ) → is_in p v.steady ≡ true → (put used q true p ≡ true) × (put space q z p ≡ 0)) crew k w i
            (λ _ _ p is. ⊎_elim
            (λ old. let was = r.steady k alive p old in let o = not_steady p was in (put_else used q true p o ∙ was.0, put_else space q z p o ∙ was.1))
            (λ new. (put_at used q true p new.0, put_at space q z p new.0 ∙ new.1))
            (settled p is))
            (λ _ live p is. let was = r.steady i live p is in let o = not_steady p was in (put_else used q true p o ∙ was.0, put_else space q z p o ∙ was.1));
        drawn = λ i. put_cases (λ v. v.live ≡ true → (p : ℕ) → is_in p v.pages ≡ true → (frontier ≤ p) × (p < pages) × (p < top) × (put used q true p ≡ false)) crew k w i
            (λ _ _ p is. let old = in_without p q (crew k).pages is in let was = r.drawn k alive p old.1 in (was.0, was.1, was.2, put_else used q true p old.0 ∙ was.3))
            (λ other live p is. let was = r.drawn i live p is in
            let o : p ≢ q = λ e. let a : is_in q (crew i).pages ≡ true = ap (λ (n : ℕ). is_in n (crew i).pages) (sym e) ∙ is in let b : is_in q (crew i).pages ≡ false = alone i other live in cc in
            (was.0, was.1, was.2, put_else used q true p o ∙ was.3));
        apart = λ i j p li lj a b.
            let old : (n : ℕ) → is_in p (put crew k w n).pages ≡ true → is_in p (crew n).pages ≡ true = λ n. put_cases (λ v. is_in p v.pages ≡ true → is_in p (crew n).pages ≡ true) crew k w n
            (λ here is. ap (λ (m : ℕ). is_in p (crew m).pages) here ∙ (in_without p q (crew k).pages is).1) (λ _ is. is) in
            r.apart i j p (was_live i li) (was_live j lj) (old i a) (old j b);
        named = λ p is. put_cases (λ b. b ≡ true) used q true p (λ _. refl) (λ _. r.named p is);
        written = λ p is. let was = r.written p is in let o = not_steady p was in (put_else used q true p o ∙ was.0, put_else space q z p o ∙ was.1);
        kept = λ j p is. ⊎_elim
            (λ own. dite (ℕ_discrete p q)
            (λ here. let in_q : space q ≡ j + 1 = ap space (sym here) ∙ own in
            let used_q : used q ≡ true = (r.volatile q (λ e. omega (arith, e, in_q))).2 in
            ⊎_elim (λ none. inr (put_at used q true p here, put_at space q z p here ∙ none)) (λ stays_in. inl (put_at space q z p here ∙ (stays_in ∙ in_q))) (within used_q))
            (λ o. inl (put_else space q z p o ∙ own)))
            (λ was. let o = not_steady p was in inr (put_else used q true p o ∙ was.0, put_else space q z p o ∙ was.1))
            (r.kept j p is);
      }
