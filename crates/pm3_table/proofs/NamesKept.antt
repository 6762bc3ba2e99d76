-- What steps leave of the part on names, and of the parts on whose commits are counted and on failed commits.
use Rattle.std.proofs.Common.{◌≡◌, ◌≢◌, ◌⊎◌, ℕ, ◌+◌, ◌<◌, ◌≤◌, ◌==◌, ◌||◌, Bool, true, false, if◌then◌else◌, List, [], ◌∷◌, ◌++◌, refl, sym, ap, ◌∙◌, subst, inl, inr, ⊎_elim, arith}
use Rattle.std.proofs.lemmas.Bool.Decides.{nat_tests}
use mathlib.Core.Logic.{dite}
use native.Mathlib.Decide.{ℕ_discrete}
use Rattle.pm3_core.specs.Machine.{put}
use Rattle.pm3_history.specs.Entry.{Done}
use Rattle.pm3_table.specs.declared.view.Kept.{Kept}
use Rattle.pm3_table.specs.Histories.{some_has, by, AllBy}
use Rattle.pm3_table.specs.Holds.{is_in}
use Rattle.pm3_table.specs.Names.{NameView, NamesRule, spare}
use Rattle.pm3_table.specs.Counts.{CountView, counts, counted_under, is_kept, kept_under, Distinct, CountsRule}
use Rattle.pm3_table.proofs.Put.{put_here, put_else, put_cases}
use Rattle.pm3_table.proofs.PagesKept.{yes_or_no}
use Rattle.pm3_table.proofs.Has.{has_one, none_join, by-append, by_all, by_others, below-append, below_by, below_higher}

abbrev pub name_with : List ℕ → NameView
name_with names = record { live = true; names = names }

more_spare : (has : ℕ → Bool) (n x : ℕ) (xs : List ℕ) (b : Bool) → has x ≡ b → (is_in n (spare has xs) ≡ true → (is_in n xs ≡ true) × (has n ≡ false))
    → is_in n (if b then spare has xs else (x ∷ spare has xs)) ≡ true → (((x == n) || is_in n xs) ≡ true) × (has n ≡ false)
more_spare has n x xs true e rest h = let r = rest h in (grind (arith, nat_tests, r.0), r.1)
more_spare has n x xs false e rest h = dite (ℕ_discrete x n)
    (λ same. (grind (arith, nat_tests, same), sym (ap has same) ∙ e))
    (λ other. let r = rest (grind (arith, nat_tests, other, h)) in (grind (arith, nat_tests, r.0), r.1))

-- the names of a list that no commit makes
pub in_spare : (has : ℕ → Bool) (n : ℕ) (xs : List ℕ) → is_in n (spare has xs) ≡ true → (is_in n xs ≡ true) × (has n ≡ false)
in_spare has n [] h = absurd (cc)
in_spare has n (x ∷ xs) h = more_spare has n x xs (has x) refl (in_spare has n xs) h

module _ (makes : Done → ℕ → Bool) (first top : ℕ) (history : List Done) (crew : ℕ → NameView) (r : NamesRule makes first top history crew) where
  names_live : (k : ℕ) (w : NameView) → (crew k).live ≡ true → (i : ℕ) → (put crew k w i).live ≡ true → (crew i).live ≡ true
  names_live k w alive i live = dite (ℕ_discrete i k) (λ e. ap (λ (n : ℕ). (crew n).live) e ∙ alive) (λ o. ap (λ (v : NameView). v.live) (sym (put_else crew k w i o)) ∙ live)

  -- k adds commits, whose new names it drew
  pub names_join : (k : ℕ) → (crew k).live ≡ true → (more : List Done) → ((n : ℕ) → some_has makes more n ≡ true → is_in n (crew k).names ≡ true)
      → NamesRule makes first top (history ++ more) (put crew k (name_with (spare (some_has makes more) (crew k).names)))
  names_join k alive more drawn =
      let w : NameView = name_with (spare (some_has makes more) (crew k).names) in
      let old : (i n : ℕ) → is_in n (put crew k w i).names ≡ true → is_in n (crew i).names ≡ true = λ i n. put_cases (λ v. is_in n v.names ≡ true → is_in n (crew i).names ≡ true) crew k w i
      (λ here is. ap (λ (m : ℕ). is_in n (crew m).names) here ∙ (in_spare (some_has makes more) n (crew k).names is).0) (λ _ is. is) in
      record {
        low = λ n is. ⊎_elim (r.low n) (λ new. (r.drawn k alive n (drawn n new)).1) (has_one makes history more n is);
        drawn = λ i. put_cases (λ v. v.live ≡ true → (n : ℕ) → is_in n v.names ≡ true → (first ≤ n) × (n < top) × (some_has makes (history ++ more) n ≡ false)) crew k w i
            (λ _ _ n is. let p = in_spare (some_has makes more) n (crew k).names is in let was = r.drawn k alive n p.0 in (was.0, was.1, none_join makes history more n was.2 p.1))
            (λ other live n is. let was = r.drawn i live n is in (
              was.0,
              was.1,
              none_join makes history more n was.2
                  (⊎_elim (λ y. absurd (other (r.apart i k n live alive is (drawn n y)))) (λ x. x) (yes_or_no (some_has makes more n))),
            ));
        apart = λ i j n li lj a b. r.apart i j n (names_live k w alive i li) (names_live k w alive j lj) (old i n a) (old j n b);
      }

  -- k draws the name at the counter
  pub names_draw : (k : ℕ) → (crew k).live ≡ true → first ≤ top → NamesRule makes first (top + 1) history (put crew k (name_with (top ∷ (crew k).names)))
  names_draw k alive from =
      let w : NameView = name_with (top ∷ (crew k).names) in
      let new_or : (n : ℕ) → is_in n (top ∷ (crew k).names) ≡ true → (top ≡ n) ⊎ (is_in n (crew k).names ≡ true) = λ n is. dite (ℕ_discrete top n) (λ e. inl e) (λ o. inr (grind (arith, nat_tests, o, is))) in
      let fresh : (i n : ℕ) → (crew i).live ≡ true → is_in n (crew i).names ≡ true → top ≢ n = λ i n live is e. let was = r.drawn i live n is in omega (arith, was.1, e) in
      record {
        low = λ n is. let was = r.low n is in omega arith;
        drawn = λ i. put_cases (λ v. v.live ≡ true → (n : ℕ) → is_in n v.names ≡ true → (first ≤ n) × (n < top + 1) × (some_has makes history n ≡ false)) crew k w i
            (λ _ _ n is. ⊎_elim
            (λ e. (omega (arith, from, e), omega (arith, e), ⊎_elim (λ y. absurd (let was = r.low n y in omega (arith, was, e))) (λ x. x) (yes_or_no (some_has makes history n))))
            (λ old. let was = r.drawn k alive n old in (was.0, omega (arith, was.1), was.2))
            (new_or n is))
            (λ other live n is. let was = r.drawn i live n is in (was.0, omega (arith, was.1), was.2));
        apart = λ i j n li lj. put_cases (λ v. is_in n v.names ≡ true → is_in n (put crew k w j).names ≡ true → i ≡ j) crew k w i
            (λ hi a. put_cases (λ v. is_in n v.names ≡ true → i ≡ j) crew k w j
            (λ hj b. hi ∙ sym hj)
            (λ oj b. ⊎_elim (λ e. absurd (fresh j n (names_live k w alive j lj) b e)) (λ old. absurd (oj (r.apart j k n (names_live k w alive j lj) alive b old))) (new_or n a)))
            (λ oi a. put_cases (λ v. is_in n v.names ≡ true → i ≡ j) crew k w j
            (λ hj b. ⊎_elim (λ e. absurd (fresh i n (names_live k w alive i li) a e)) (λ old. r.apart i k n (names_live k w alive i li) alive a old ∙ sym hj) (new_or n b))
            (λ oj b. r.apart i j n (names_live k w alive i li) (names_live k w alive j lj) a b));
      }

  -- the counter rises, and no name is drawn
  pub names_higher : (top' : ℕ) → top ≤ top' → NamesRule makes first top' history crew
  names_higher top' up = record {
    low = λ n is. let was = r.low n is in omega (arith, was, up);
    drawn = λ k live n is. let was = r.drawn k live n is in (was.0, omega (arith, was.1, up), was.2);
    apart = r.apart;
  }

abbrev pub count_with : List ℕ → List Done → List Kept → CountView
count_with rows mine kept = record { live = true; rows = rows; mine = mine; kept = kept }

module _ (made : ℕ) (history : List Done) (crew : ℕ → CountView) (r : CountsRule made history crew) where
  -- a live view counts its own number, and so is below the number of rows made
  pub live_low : (k : ℕ) → (crew k).live ≡ true → (k < made) × (r.keeper k ≡ k)
  live_low k live = r.one k k live (inl (grind (arith, nat_tests)))

  pub own_of : (k : ℕ) → (crew k).live ≡ true → (crew k).mine ≡ by k history
  own_of k live = mine_is k (crew k) (by k history) (r.entries k k live (grind (arith, nat_tests)))
    where
      mine_is : (k : ℕ) (v : CountView) (l : List Done) → counted_under k v k ≡ l → v.mine ≡ l
      mine_is k v l is = grind (arith, nat_tests, is)

  -- k adds commits of its own
  pub counts_join : (k : ℕ) → (crew k).live ≡ true → (more : List Done) → AllBy k more
      → CountsRule made (history ++ more) (put crew k (count_with (crew k).rows ((crew k).mine ++ more) (crew k).kept))
  counts_join k alive more own =
      let w : CountView = count_with (crew k).rows ((crew k).mine ++ more) (crew k).kept in
      let low = live_low k alive in
      let was_live : (i : ℕ) → (put crew k w i).live ≡ true → (crew i).live ≡ true = λ i live. dite (ℕ_discrete i k) (λ e. ap (λ (n : ℕ). (crew n).live) e ∙ alive) (λ o. ap (λ (v : CountView). v.live) (sym (put_else crew k w i o)) ∙ live) in
      let still : (i : ℕ) → (crew i).live ≡ true → (put crew k w i).live ≡ true = λ i live. put_cases (λ v. v.live ≡ true) crew k w i (λ _. refl) (λ _. live) in
      let same_counts : (j n : ℕ) → counts j (put crew k w j) n ≡ counts j (crew j) n = λ j n. put_cases (λ v. counts j v n ≡ counts j (crew j) n) crew k w j (λ here. ap (λ (m : ℕ). (j == n) || is_kept (crew m).kept n) (sym here)) (λ _. refl) in
      let same_rows : (j : ℕ) → (put crew k w j).rows ≡ (crew j).rows = λ j. put_cases (λ v. v.rows ≡ (crew j).rows) crew k w j (λ here. ap (λ (m : ℕ). (crew m).rows) (sym here)) (λ _. refl) in
      let no_more : (j n : ℕ) → counts j (crew j) n ≡ true → (crew j).live ≡ true → (n ≡ k → ⊥) → by n history ≡ by n (history ++ more) = λ j n _ _ o. sym (by-append n history more ∙ (ap (λ (l : List Done). by n history ++ l) (by_others k n more own o) ∙ append_nothing (by n history))) in
      record {
        low = below-append made history more r.low (below_by made k more own low.0);
        keeper = r.keeper;
        lives = λ n below. still (r.keeper n) (r.lives n below);
        kept = λ n below. ⊎_elim (λ a. inl (same_counts (r.keeper n) n ∙ a)) (λ a. inr (ap (is_in n) (same_rows (r.keeper n)) ∙ a)) (r.kept n below);
        one = λ j n live either. r.one j n (was_live j live) (⊎_elim (λ a. inl (sym (same_counts j n) ∙ a)) (λ a. inr (ap (is_in n) (sym (same_rows j)) ∙ a)) either);
        entries = λ j n live. put_cases (λ v. counts j v n ≡ true → counted_under j v n ≡ by n (history ++ more)) crew k w j
            (λ here c. let here_is : counts k (crew k) n ≡ true = grind (arith, nat_tests, here, c) in dite (ℕ_discrete n k)
            (λ e. mine_more j n (crew k) more (here ∙ sym e) ∙ (ap (λ (l : List Done). l ++ more) (own_of k alive ∙ ap (λ (m : ℕ). by m history) (sym e))
            ∙ (ap (λ (l : List Done). by n history ++ l) (sym (by_all k more own) ∙ ap (λ (m : ℕ). by m more) (sym e)) ∙ sym (by-append n history more))))
            (λ o. mine_same j n (crew k) more (λ e. o (sym e ∙ here)) ∙ (ap (λ (m : ℕ). counted_under m (crew k) n) here ∙ (r.entries k n alive here_is ∙ no_more k n here_is alive o))))
            (λ other c. let live_j = was_live j live in r.entries j n live_j c ∙ no_more j n c live_j (λ e. other (sym (r.one j n live_j (inl c)).1 ∙ (ap r.keeper e ∙ low.1))));
        drawn = λ j n live is. let live_j = was_live j live in let was = r.drawn j n live_j (ap (is_in n) (sym (same_rows j)) ∙ is) in
            let o : n ≡ k → ⊥ = λ e. let a : (crew n).live ≡ true = ap (λ (m : ℕ). (crew m).live) e ∙ alive in cc in (
              put_cases (λ v. v.live ≡ false) crew k w n (λ e. absurd (o e)) (λ _. was.0),
              by-append n history more ∙ (ap (λ (l : List Done). l ++ by n more) was.1 ∙ by_others k n more own o),
              same_counts j n ∙ was.2,
            );
        once = λ j live. subst Distinct (sym (same_rows j)) (r.once j (was_live j live));
      }
    where
      append_nothing : (h : List Done) → h ++ [] ≡ h
      append_nothing [] = refl
      append_nothing (e ∷ es) = ap (λ (l : List Done). e ∷ l) (append_nothing es)

      mine_more : (j n : ℕ) (v : CountView) (more : List Done) → j ≡ n → counted_under j (count_with v.rows (v.mine ++ more) v.kept) n ≡ v.mine ++ more
      mine_more j n v more e = ap (λ (b : Bool). if b then (v.mine ++ more) else kept_under v.kept n) (let t : (j == n) ≡ true = grind (arith, nat_tests, e) in t)

      mine_same : (j n : ℕ) (v : CountView) (more : List Done) → (j ≡ n → ⊥) → counted_under j (count_with v.rows (v.mine ++ more) v.kept) n ≡ counted_under j v n
      mine_same j n v more o = let t : (j == n) ≡ false = grind (arith, nat_tests, o) in
          ap (λ (b : Bool). if b then (v.mine ++ more) else kept_under v.kept n) t ∙ ap (λ (b : Bool). if b then v.mine else kept_under v.kept n) (sym t)

  -- k draws the row `made`, which no one has
  pub rows_draw : (k : ℕ) → (crew k).live ≡ true → by made history ≡ [] → CountsRule (made + 1) history (put crew k (count_with (made ∷ (crew k).rows) (crew k).mine (crew k).kept))
  rows_draw k alive fresh =
      let w : CountView = count_with (made ∷ (crew k).rows) (crew k).mine (crew k).kept in
      let was_live : (i : ℕ) → (put crew k w i).live ≡ true → (crew i).live ≡ true = λ i live. dite (ℕ_discrete i k) (λ e. ap (λ (n : ℕ). (crew n).live) e ∙ alive) (λ o. ap (λ (v : CountView). v.live) (sym (put_else crew k w i o)) ∙ live) in
      let same_counts : (j n : ℕ) → counts j (put crew k w j) n ≡ counts j (crew j) n = λ j n. put_cases (λ v. counts j v n ≡ counts j (crew j) n) crew k w j (λ here. ap (λ (m : ℕ). (j == n) || is_kept (crew m).kept n) (sym here)) (λ _. refl) in
      let rows_are : (j n : ℕ) → is_in n (put crew k w j).rows ≡ true → ((j ≡ k) × (made ≡ n)) ⊎ (is_in n (crew j).rows ≡ true) = λ j n. put_cases (λ v. is_in n v.rows ≡ true → ((j ≡ k) × (made ≡ n)) ⊎ (is_in n (crew j).rows ≡ true)) crew k w j
      (λ here is. dite (ℕ_discrete made n) (λ e. inl (here, e)) (λ o. inr (ap (λ (m : ℕ). is_in n (crew m).rows) here ∙ (let t : is_in n (crew k).rows ≡ true = grind (arith, nat_tests, o, is) in t))))
      (λ _ is. inr is) in
      let at_made : put r.keeper made k made ≡ k = put_here r.keeper made k in
      let stays : (n : ℕ) → n < made → put r.keeper made k n ≡ r.keeper n = λ n below. put_else r.keeper made k n (λ e. omega (arith, e, below)) in
      let more_rows : (j n : ℕ) → is_in n (crew j).rows ≡ true → is_in n (put crew k w j).rows ≡ true = λ j n is. put_cases (λ v. is_in n v.rows ≡ true) crew k w j
      (λ here. let t : is_in n (crew k).rows ≡ true = ap (λ (m : ℕ). is_in n (crew m).rows) (sym here) ∙ is in grind (arith, nat_tests, t)) (λ _. is) in
      let new_row : is_in made (put crew k w k).rows ≡ true = put_cases (λ v. is_in made v.rows ≡ true) crew k w k (λ _. grind (arith, nat_tests)) (λ o. absurd (o refl)) in
      record {
        low = below_higher made (made + 1) history r.low (omega arith);
        keeper = put r.keeper made k;
        lives = λ n below. put_cases (λ m. (put crew k w m).live ≡ true) r.keeper made k n
            (λ _. put_cases (λ v. v.live ≡ true) crew k w k (λ _. refl) (λ o. absurd (o refl)))
            (λ o. put_cases (λ v. v.live ≡ true) crew k w (r.keeper n) (λ _. refl) (λ _. r.lives n (omega (arith, o, below))));
        kept = λ n below. put_cases (λ m. (counts m (put crew k w m) n ≡ true) ⊎ (is_in n (put crew k w m).rows ≡ true)) r.keeper made k n
            (λ e. inr (ap (λ (m : ℕ). is_in m (put crew k w k).rows) e ∙ new_row))
            (λ o. ⊎_elim (λ a. inl (same_counts (r.keeper n) n ∙ a)) (λ a. inr (more_rows (r.keeper n) n a)) (r.kept n (omega (arith, o, below))));
        one = λ j n live either. ⊎_elim
            (λ a. let was = r.one j n (was_live j live) (inl (sym (same_counts j n) ∙ a)) in (omega (arith, was.0), stays n was.0 ∙ was.1))
            (λ a. ⊎_elim
            (λ new. (omega (arith, new.1), ap (put r.keeper made k) (sym new.1) ∙ (at_made ∙ sym new.0)))
            (λ old. let was = r.one j n (was_live j live) (inr old) in (omega (arith, was.0), stays n was.0 ∙ was.1))
            (rows_are j n a))
            either;
        entries = λ j n live. put_cases (λ v. counts j v n ≡ true → counted_under j v n ≡ by n history) crew k w j
            (λ here c. let here_is : counts k (crew k) n ≡ true = grind (arith, nat_tests, here, c) in ap (λ (m : ℕ). counted_under m (crew k) n) here ∙ r.entries k n alive here_is)
            (λ other c. r.entries j n (was_live j live) c);
        drawn = λ j n live is. ⊎_elim
            (λ new. (
              put_cases (λ v. v.live ≡ false) crew k w n
                  (λ e. absurd (let a = (live_low k alive).0 in omega (arith, a, e, new.1)))
                  (λ _. ⊎_elim (λ y. absurd (let a = (live_low n y).0 in omega (arith, a, new.1))) (λ x. x) (yes_or_no (crew n).live)),
              ap (λ (m : ℕ). by m history) (sym new.1) ∙ fresh,
              ⊎_elim (λ y. absurd (let a = (r.one j n (was_live j live) (inl (sym (same_counts j n) ∙ y))).0 in omega (arith, a, new.1))) (λ x. x) (yes_or_no (counts j (put crew k w j) n)),
            ))
            (λ old. let was = r.drawn j n (was_live j live) old in
            let o : n ≡ k → ⊥ = λ e. let a : (crew n).live ≡ true = ap (λ (m : ℕ). (crew m).live) e ∙ alive in cc in
            (put_cases (λ v. v.live ≡ false) crew k w n (λ e. absurd (o e)) (λ _. was.0), was.1, same_counts j n ∙ was.2))
            (rows_are j n is);
        once = λ j. put_cases (λ v. v.live ≡ true → Distinct v.rows) crew k w j
            (λ _ _. (⊎_elim (λ y. absurd (let a = (r.one k made alive (inr y)).0 in omega (arith, a))) (λ x. x) (yes_or_no (is_in made (crew k).rows)), r.once k alive))
            (λ _ live. r.once j live);
      }
