-- A table can start with such homes.
use Rattle.std.proofs.Common.{◌≡◌, ℕ, zero, suc, ◌-◌, ◌<◌, ◌≤◌, List, [], ◌∷◌, ◌++◌, length, length-append, replicate, true, false, Option, None, Some, refl, sym, ap, ◌∙◌, subst, arith}
use Rattle.std.proofs.lemmas.List.{length-replicate}
use mathlib.Core.Option.{some}
use mathlib.Core.Logic.{dite}
use native.Mathlib.Decide.{dec_lt}
use lib.ListN.{get_elem?}
use Rattle.std.specs.Ordering.{nat_cmp}
use Rattle.std.specs.FinMap.{get, get-empty}
use Rattle.pm3_history.specs.Opens.{Origin}
use Rattle.pm3_table.specs.declared.marks.Marks4.{Marks4}
use Rattle.pm3_table.specs.declared.view.Told.{Told}
use Rattle.pm3_table.specs.FirstHomes.{FirstHomes, opening_in, told_by, turn_home}
use Rattle.pm3_table.specs.Holds.{is_in}
use Rattle.pm3_table.specs.OpensBelow.{OpensBelow}
use Rattle.pm3_table.specs.Telling.{spans_in}
use Rattle.pm3_table_trials.specs.declared.tallies.Tally.{Tally}
use Rattle.pm3_table_trials.specs.Filled.{blank, filled, first_of_used}
use Rattle.pm3_table_trials.specs.Tallies.{Counts, untold}
use Rattle.pm3_table_trials.proofs.Blank.{filled_long}
use Rattle.pm3_table_trials.proofs.Nothing.{none_refer}

at_front : (n i : ℕ) (a : Option Tally) (ys : List (Option Tally)) → i < n → get_elem? (replicate n a ++ ys) i ≡ some a
at_front zero i a ys low = absurd (omega arith)
at_front (suc n) zero a ys low = refl
at_front (suc n) (suc i) a ys low = at_front n i a ys (omega (arith, low))

at_past : (n i : ℕ) (a : Option Tally) (ys : List (Option Tally)) → n ≤ i → get_elem? (replicate n a ++ ys) i ≡ get_elem? ys (i - n)
at_past zero i a ys low = ap (get_elem? ys) (let e : i ≡ i - 0 = omega arith in e)
at_past (suc n) zero a ys low = absurd (omega (arith, low))
at_past (suc n) (suc i) a ys low = at_past n i a ys (omega (arith, low)) ∙ ap (get_elem? ys) (let e : i - n ≡ suc i - suc n = omega arith in e)

append_assoc : (xs ys zs : List (Option Tally)) → (xs ++ ys) ++ zs ≡ xs ++ (ys ++ zs)
append_assoc [] ys zs = refl
append_assoc (x ∷ xs) ys zs = ap (λ (l : List (Option Tally)). x ∷ l) (append_assoc xs ys zs)

module _ (used : ℕ) (low : used ≤ 16) where
  abbrev rest : List (Option Tally)
  rest = replicate (16 - used) None ++ replicate 33 (Some blank)

  apart : first_of_used used ≡ replicate used (Some blank) ++ rest
  apart = append_assoc (replicate used (Some blank)) (replicate (16 - used) None) (replicate 33 (Some blank))

  all_at : (xs : List (Option Tally)) (n i : ℕ) → xs ≡ replicate n (Some blank) → i < n → get_elem? xs i ≡ some (Some blank)
  all_at xs n i is below = ap (λ (l : List (Option Tally)). get_elem? l i) (is ∙ sym (append_nil (replicate n (Some blank)))) ∙ at_front n i (Some blank) [] below
    where
      append_nil : (xs : List (Option Tally)) → xs ++ [] ≡ xs
      append_nil [] = refl
      append_nil (x ∷ xs) = ap (λ (l : List (Option Tally)). x ∷ l) (append_nil xs)

  pub used_has : (u : ℕ) → u < used → get_elem? (first_of_used used) u ≡ some (Some blank)
  used_has u below = ap (λ (l : List (Option Tally)). get_elem? l u) apart ∙ at_front used u (Some blank) rest below

  pub unused_has : (u : ℕ) → used ≤ u → u < 16 → get_elem? (first_of_used used) u ≡ some None
  unused_has u above below = ap (λ (l : List (Option Tally)). get_elem? l u) apart
      ∙ (at_past used u (Some blank) rest above ∙ at_front (16 - used) (u - used) None (replicate 33 (Some blank)) (omega (arith, above, below, low)))

  pub other_has : (u : ℕ) → 16 ≤ u → u < 49 → get_elem? (first_of_used used) u ≡ some (Some blank)
  other_has u above below = ap (λ (l : List (Option Tally)). get_elem? l u) apart
      ∙ (at_past used u (Some blank) rest (omega (arith, above, low))
      ∙ (at_past (16 - used) (u - used) None (replicate 33 (Some blank)) (omega (arith, above, low))
      ∙ all_at (replicate 33 (Some blank)) 33 (u - used - (16 - used)) refl (omega (arith, above, below, low))))

  first_long : length (first_of_used used) ≡ 49
  first_long = let a = filled_long used (16 - used) in
      length-append (filled used (16 - used)) (replicate 33 (Some blank)) ∙ (let b : length (replicate 33 (Some blank)) ≡ 33 = length-replicate 33 (Some blank) in omega (arith, a, b, low))

  pub starts : (told : Told) (homes : List (Option Tally)) → told.pages ≡ 16 → told.frontier ≡ used → told.opening ≡ untold → homes ≡ first_of_used used
      → FirstHomes {V = Tally} Counts (λ _. []) told homes
  starts told homes pages frontier opening is = subst (FirstHomes {V = Tally} Counts (λ _. []) told) (sym is) (record {
    wide = first_long ∙ omega (arith, pages);
    good = λ u below. dite (dec_lt u used)
        (λ a. (Some blank, used_has u a, (refl, λ _. refl)))
        (λ a. dite (dec_lt u 16)
        (λ b. (None, unused_has u (omega (arith, a)) b, (omega (arith, b, pages), refl, ap (λ (o : Origin). get o.images u) opening ∙ get-empty nat_cmp u)))
        (λ b. (Some blank, other_has u (omega (arith, b)) (omega (arith, below, pages)), (refl, λ _. refl))));
    bare = λ p from below. unused_has p (omega (arith, from, frontier)) (omega (arith, below, pages));
    spaces = λ j below x at p. no_pages p x;
  })
    where
      no_pages : (p : ℕ) (x : Option Tally) → is_in p (spans_in {V = Tally} (λ _. []) x) ≡ false
      no_pages p None = refl
      no_pages p (Some y) = refl

-- nothing is told of the opening, whatever the turn's home has
untold_in : (x : Option Tally) → opening_in {V = Tally} (λ _. untold) x ≡ untold
untold_in None = refl
untold_in (Some y) = refl

differ : false ≡ true → ⊥
differ e = cc

untold_below : (pages frontier next_name : ℕ) → OpensBelow record { pages = pages; frontier = frontier; next_name = next_name; opening = untold }
untold_below pages frontier next_name = record {
  pages = λ p is. absurd (differ (sym (none_refer [] p) ∙ is));
  names = λ st opens n r at. absurd (let e = opens.file_told in cc);
}

pub told_opening : (marks : Marks4) (homes : List (Option Tally)) → (told_by {V = Tally} (λ _. untold) marks homes).opening ≡ untold
told_opening marks homes = untold_in (turn_home marks homes)

pub opens_below : (marks : Marks4) (homes : List (Option Tally)) → OpensBelow (told_by {V = Tally} (λ _. untold) marks homes)
opens_below marks homes = subst (λ (o : Origin). OpensBelow record { pages = marks.pages; frontier = marks.frontier; next_name = marks.next_name; opening = o })
    (sym (untold_in (turn_home marks homes))) (untold_below marks.pages marks.frontier marks.next_name)
