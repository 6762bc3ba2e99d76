-- What draws leave of the part on counters.
use Rattle.std.proofs.Common.{◌≡◌, ◌⊎◌, ℕ, ◌+◌, ◌<◌, ◌≤◌, true, min, sym, subst, ⊎_elim, arith}
use Rattle.std.proofs.lemmas.Bool.Decides.{nat_tests}
use mathlib.Core.Logic.{dite}
use native.Mathlib.Decide.{dec_le}
use Rattle.pm3_core.specs.Machine.{put}
use Rattle.pm3_table.specs.Crew.{total}
use Rattle.pm3_table.specs.Holds.{is_in}
use Rattle.pm3_table.specs.Draws.{DrawView, is_drawing, drew, DrawsRule}
use Rattle.pm3_table.proofs.Put.{put_cases, put_map}
use Rattle.pm3_table.proofs.Totals.{total_put, total_part, total_ones}

one_at_most : (c : ℕ) (v : DrawView) → is_drawing c v ≤ 1
one_at_most c v = grind (arith, nat_tests)

module _ (limit first counter : ℕ → ℕ) (crew : ℕ → DrawView) (r : DrawsRule limit first counter crew) where
  -- views that count the same, and draw as they did
  sum_at : (c k : ℕ) (w : DrawView) → k < 32 → total 32 (λ j. drew c (put crew k w j)) + drew c (crew k) ≡ total 32 (λ j. drew c (crew j)) + drew c w
  sum_at c k w low = subst (λ (f : ℕ → ℕ). total 32 f + drew c (crew k) ≡ total 32 (λ j. drew c (crew j)) + drew c w)
      (sym (put_map (drew c) crew k w)) (total_put 32 (λ j. drew c (crew j)) k (drew c w) low)

  busy_at : (c k : ℕ) (w : DrawView) → k < 32 → total 32 (λ j. is_drawing c (put crew k w j)) + is_drawing c (crew k) ≡ total 32 (λ j. is_drawing c (crew j)) + is_drawing c w
  busy_at c k w low = subst (λ (f : ℕ → ℕ). total 32 f + is_drawing c (crew k) ≡ total 32 (λ j. is_drawing c (crew j)) + is_drawing c w)
      (sym (put_map (is_drawing c) crew k w)) (total_put 32 (λ j. is_drawing c (crew j)) k (is_drawing c w) low)

  -- a counter is no less than it was at first, up to its limit
  pub from_first : (c : ℕ) → c < 3 → first c ≤ counter c
  from_first c low = let a = r.sum c low in omega (arith, a)

  -- before a fetch the counter is past its limit by less than 32
  pub room : (c k : ℕ) → c < 3 → k < 32 → (crew k).live ≡ true → (crew k).drawing ≡ c + 1 → counter c < limit c + 32
  room c k low row live drawing = dite (dec_le (limit c) (counter c))
      (λ past. let a = r.excess c low past in let b : is_drawing c (crew k) ≤ total 32 (λ j. is_drawing c (crew j)) = total_part 32 (λ j. is_drawing c (crew j)) k row in
      let one : is_drawing c (crew k) ≡ 1 = grind (arith, nat_tests, live, drawing) in omega (arith, a, b, one))
      (λ below. omega (arith, below))

  module _ (k : ℕ) (row : k < 32) (alive : (crew k).live ≡ true) (w : DrawView) (live : w.live ≡ true) where
    -- The view of k changes and the counters `counter'` come; what k counts from each counter rises by what that counter rises
    -- below its limit.
    pub draws_part : (counter' : ℕ → ℕ)
        → ((c : ℕ) → counter c ≤ counter' c)
        → ((c : ℕ) → is_in c w.filled ≡ true → limit c ≤ counter' c)
        → ((c : ℕ) → c < 3 → min (counter' c) (limit c) + drew c (crew k) ≡ min (counter c) (limit c) + drew c w)
        → ((c : ℕ) → c < 3 → limit c ≤ counter' c → (limit c ≤ counter c) ⊎ (counter' c ≡ limit c))
        → ((c : ℕ) → c < 3 → limit c ≤ counter c → counter' c + is_drawing c w ≤ counter c + is_drawing c (crew k))
        → DrawsRule limit first counter' (put crew k w)
    draws_part counter' up filled sums reach excess = record {
      full = λ j. put_cases (λ v. v.live ≡ true → (c : ℕ) → is_in c v.filled ≡ true → limit c ≤ counter' c) crew k w j
          (λ _ _. filled)
          (λ _ is c full. let a = r.full j is c full in omega (arith, a, up c));
      excess = λ c low past. ⊎_elim
          (λ was. let a = r.excess c low was in let b = busy_at c k w row in let d = excess c low was in omega (arith, a, b, d, past, was))
          (λ exact. let ones : total 32 (λ j. is_drawing c (put crew k w j)) ≤ 32 = total_ones 32 (λ j. is_drawing c (put crew k w j)) (λ j. one_at_most c (put crew k w j)) in
          omega (arith, exact, ones))
          (reach c low past);
      sum = λ c low. let a = r.sum c low in let b = sum_at c k w row in let d = sums c low in omega (arith, a, b, d);
    }
