-- Names in order: ranges joined, and that none stands twice in one.
use Rattle.std.proofs.Common.{◌≡◌, ◌+◌, ◌*◌, ◌<◌, ◌≤◌, ℕ, zero, suc, List, [], ◌∷◌, ◌++◌, Bool, true, false, cond, refl, sym, arith, ap, ◌∙◌}
use Rattle.std.specs.Prelude.{◌==◌, flat_map}
use Rattle.std.specs.List.{range_with_len}
use Rattle.std.proofs.Math.Nat.{suc-mul, zero-mul}
use Rattle.oo7_schema.specs.Entries.{times, Once}
use Rattle.oo7_schema.proofs.Testing.{same_number, test_false}
use Rattle.oo7_schema.proofs.Deciding.{times_cons}
use Rattle.oo7_schema.proofs.Holding.{in_front, times_join}

pub range_join : (s a b : ℕ) → range_with_len s (a + b) ≡ range_with_len s a ++ range_with_len (s + a) b
range_join s zero b =
    let none : zero + b ≡ b = omega arith in
    let at : s ≡ s + zero = omega arith in
    ap (range_with_len s) none ∙ ap (λ (t : ℕ). range_with_len t b) at
range_join s (suc a) b =
    let more : suc a + b ≡ suc (a + b) = omega arith in
    let at : s + 1 + a ≡ s + suc a = omega arith in
    ap (range_with_len s) more ∙ ap (λ (ns : List ℕ). s ∷ ns) (range_join (s + 1) a b) ∙ ap (λ (t : ℕ). s ∷ (range_with_len (s + 1) a ++ range_with_len t b)) at

pub before_range : (s n x : ℕ) → x < s → times x (range_with_len s n) ≡ 0
before_range s zero x low = refl
before_range s (suc n) x low =
    let other : (s == x) ≡ false = test_false s x (λ same. absurd (omega (arith, same, low))) in
    times_cons x s (range_with_len (s + 1) n) ∙ ap (λ (b : Bool). cond b 1 0 + times x (range_with_len (s + 1) n)) other ∙ omega (arith, before_range (s + 1) n x (omega arith))

pub range_once : (s n : ℕ) → Once (range_with_len s n)
range_once s zero x = omega arith
range_once s (suc n) x = by_test (range_once (s + 1) n x) (s == x) refl
  where
    by_test : times x (range_with_len (s + 1) n) ≤ 1 → (b : Bool) → (s == x) ≡ b → times x (s ∷ range_with_len (s + 1) n) ≤ 1
    by_test most true is =
        let same : s ≡ x = same_number s x is in
        omega (arith, in_front x s (range_with_len (s + 1) n) same, before_range (s + 1) n x (omega (arith, same)))
    by_test most false is =
        let none : times x (s ∷ range_with_len (s + 1) n) ≡ 0 + times x (range_with_len (s + 1) n) =
        times_cons x s (range_with_len (s + 1) n) ∙ ap (λ (b : Bool). cond b 1 0 + times x (range_with_len (s + 1) n)) is in
        omega (arith, most, none)

-- ranges of one length, each from where the one before ends
ranges_from : (s each t n : ℕ) → flat_map (λ (k : ℕ). range_with_len (s + k * each) each) (range_with_len t n) ≡ range_with_len (s + t * each) (n * each)
ranges_from s each t zero = ap (range_with_len (s + t * each)) (sym (zero-mul each))
ranges_from s each t (suc n) =
    let next : s + (t + 1) * each ≡ s + t * each + each = (let one_more : t + 1 ≡ suc t = omega arith in ap (λ (k : ℕ). s + k * each) one_more ∙ omega (arith, suc-mul t each)) in
    let whole : each + n * each ≡ suc n * each = omega (arith, suc-mul n each) in
    ap (λ (ns : List ℕ). range_with_len (s + t * each) each ++ ns) (ranges_from s each (t + 1) n ∙ ap (λ (k : ℕ). range_with_len k (n * each)) next)
    ∙ sym (range_join (s + t * each) each (n * each)) ∙ ap (range_with_len (s + t * each)) whole

pub ranges_join : (s each n : ℕ) → flat_map (λ (k : ℕ). range_with_len (s + k * each) each) (range_with_len 0 n) ≡ range_with_len s (n * each)
ranges_join s each n =
    let first : s + zero * each ≡ s = omega (arith, zero-mul each) in
    ranges_from s each 0 n ∙ ap (λ (k : ℕ). range_with_len k (n * each)) first

-- a name stands no more often in lists than in those that have them
pub fewer_times : (few many : ℕ → List ℕ) (x : ℕ) → ((k : ℕ) → times x (few k) ≤ times x (many k)) → (ks : List ℕ) → times x (flat_map few ks) ≤ times x (flat_map many ks)
fewer_times few many x each [] = omega arith
fewer_times few many x each (k ∷ ks) =
    omega (arith, each k, fewer_times few many x each ks, times_join x (few k) (flat_map few ks), times_join x (many k) (flat_map many ks))
