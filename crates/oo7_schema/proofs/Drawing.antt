-- Numbers that are drawn below bounds, and where those of a composite part stand among them.
use Rattle.std.proofs.Common.{◌≡◌, ◌+◌, ◌-◌, ◌*◌, ◌%◌, ◌<◌, ◌≤◌, ℕ, zero, suc, List, [], ◌∷◌, ◌++◌, length, sym, arith, ap, subst, ◌∙◌, drop, replicate, append_assoc, drop-drop}
use Rattle.std.specs.Prelude.{slice_index}
use Rattle.std.specs.List.{AllByRecursion, AllZip, concat}
use Rattle.rand_pcg.specs.Lcg.{Lcg}
use Rattle.rand_pcg.specs.Pcg.{pcg32}
use Rattle.oo7_schema.specs.declared.sizes.Params.{Params}
use Rattle.oo7_schema.specs.Draws.{below, drawn}
use Rattle.oo7_schema.specs.Composites.{connection_bounds, composite_bounds, part_draws, connection_draws}
use Rattle.oo7_schema.proofs.Zips.{zip_drop, zip_get}
use Rattle.oo7_schema.proofs.Swapping.{all_join}
use Rattle.oo7_schema.proofs.Counting.{repeated_length}
use Rattle.oo7_schema.proofs.Pieces.{Ahead, blocks_past, blocks_ahead}

abbrev pub AreBelow : List ℕ → List ℕ → Type 0
AreBelow nums bounds = AllZip (λ (n b : ℕ). n < b) nums bounds

pub drawn_below : (bounds : List ℕ) (g : Lcg) → AllByRecursion (λ (b : ℕ). 1 ≤ b) bounds → AreBelow (drawn bounds g) bounds
drawn_below [] g all = tt
drawn_below (b ∷ bounds) g all = (rest_below (pcg32 g).0 b all.0, drawn_below bounds (below b g).1 all.1)
  where
    rest_below : (k n : ℕ) → 1 ≤ n → k % n < n
    rest_below k n some = grind arith

-- the numbers of a composite part are within what their uses ask
pub record AreDrawn (p : Params) (nums : List ℕ) : Type 0 where
  pub date : (a : ℕ) → a < p.atomics → slice_index (part_draws nums a) 1 < 1000
  pub x : (a : ℕ) → a < p.atomics → slice_index (part_draws nums a) 2 < 100000
  pub y : (a : ℕ) → a < p.atomics → slice_index (part_draws nums a) 3 < 100000
  pub target : (a m : ℕ) → a < p.atomics → suc m < p.connections → slice_index (connection_draws p nums a (suc m)) 0 < p.atomics

-- the bounds of a part, of a connection but for a part's first, and of all connections but a part's first
abbrev part_bounds : List ℕ
part_bounds = 10 ∷ 1000 ∷ 100000 ∷ 100000 ∷ []

abbrev target_bounds : Params → List ℕ
target_bounds p = p.atomics ∷ 10 ∷ 1000 ∷ []

abbrev all_parts : Params → List ℕ
all_parts p = concat (replicate p.atomics part_bounds)

abbrev all_connections : Params → List ℕ
all_connections p = concat (replicate p.atomics (connection_bounds p))

module _ (p : Params) (nums rest : List ℕ) (drawn : AreBelow nums (composite_bounds p ++ rest)) where
  behind : (k : ℕ) → drop (suc (suc k)) (composite_bounds p ++ rest) ≡ drop k (all_parts p ++ (all_connections p ++ rest))
  behind k = ap (drop k) (append_assoc (all_parts p) (all_connections p) rest)

  part_ahead : (a : ℕ) → a < p.atomics → Ahead part_bounds (drop (2 + 4 * a) (composite_bounds p ++ rest))
  part_ahead a low =
      let ahead : Ahead part_bounds (drop (a * 4) (all_parts p ++ (all_connections p ++ rest))) = blocks_ahead part_bounds (all_connections p ++ rest) p.atomics a low in
      let place : 2 + 4 * a ≡ suc (suc (a * 4)) = omega arith in
      record { rest = ahead.rest; is = ap (λ (k : ℕ). drop k (composite_bounds p ++ rest)) place ∙ behind (a * 4) ∙ ahead.is }

  parts_below : (a : ℕ) (low : a < p.atomics) → AreBelow (part_draws nums a) (part_bounds ++ (part_ahead a low).rest)
  parts_below a low =
      subst (λ (bs : List ℕ). AreBelow (part_draws nums a) bs) (part_ahead a low).is
      (zip_drop (λ (n b : ℕ). n < b) (2 + 4 * a) nums (composite_bounds p ++ rest) drawn)

  connections_long : 1 ≤ p.connections → length (connection_bounds p) ≡ 3 * p.connections - 1
  connections_long some =
      let long : length (concat (replicate (p.connections - 1) (target_bounds p))) ≡ (p.connections - 1) * 3 = repeated_length (target_bounds p) (p.connections - 1) in
      ap (λ (k : ℕ). suc (suc k)) long ∙ omega (arith, some)

  target_ahead : (a m : ℕ) → a < p.atomics → suc m < p.connections
      → Ahead (target_bounds p) (drop (2 + 4 * p.atomics + a * (3 * p.connections - 1) + (3 * suc m - 1)) (composite_bounds p ++ rest))
  target_ahead a m low few =
      let blocks : Ahead (connection_bounds p) (drop (a * length (connection_bounds p)) (all_connections p ++ rest)) = blocks_ahead (connection_bounds p) rest p.atomics a low in
      let ahead : Ahead (target_bounds p) (drop (m * 3) (concat (replicate (p.connections - 1) (target_bounds p)) ++ blocks.rest)) =
      blocks_ahead (target_bounds p) blocks.rest (p.connections - 1) m (omega arith) in
      let wide : a * length (connection_bounds p) ≡ a * (3 * p.connections - 1) = ap (λ (k : ℕ). a * k) (connections_long (omega arith)) in
      let place : 2 + 4 * p.atomics + a * (3 * p.connections - 1) + (3 * suc m - 1) ≡ suc (suc (p.atomics * 4 + (a * length (connection_bounds p) + suc (suc (m * 3))))) = omega (arith, wide) in
      record {
        rest = ahead.rest;
        is = ap (λ (k : ℕ). drop k (composite_bounds p ++ rest)) place ∙ behind (p.atomics * 4 + (a * length (connection_bounds p) + suc (suc (m * 3))))
            ∙ sym (drop-drop (a * length (connection_bounds p) + suc (suc (m * 3))) (p.atomics * 4) (all_parts p ++ (all_connections p ++ rest)))
            ∙ ap (drop (a * length (connection_bounds p) + suc (suc (m * 3)))) (blocks_past part_bounds (all_connections p ++ rest) p.atomics)
            ∙ sym (drop-drop (suc (suc (m * 3))) (a * length (connection_bounds p)) (all_connections p ++ rest)) ∙ ap (drop (suc (suc (m * 3)))) blocks.is ∙ ahead.is;
      }

  target_below : (a m : ℕ) → a < p.atomics → suc m < p.connections → slice_index (connection_draws p nums a (suc m)) 0 < p.atomics
  target_below a m low few =
      let ahead : Ahead (target_bounds p) (drop (2 + 4 * p.atomics + a * (3 * p.connections - 1) + (3 * suc m - 1)) (composite_bounds p ++ rest)) = target_ahead a m low few in
      zip_get (λ (n b : ℕ). n < b) 0 1 (omega arith) (connection_draws p nums a (suc m)) (target_bounds p ++ ahead.rest) 0
      (subst (λ (bs : List ℕ). AreBelow (connection_draws p nums a (suc m)) bs) ahead.is
      (zip_drop (λ (n b : ℕ). n < b) (2 + 4 * p.atomics + a * (3 * p.connections - 1) + (3 * suc m - 1)) nums (composite_bounds p ++ rest) drawn))

  pub are_drawn : AreDrawn p nums
  are_drawn = record {
    date = λ a low. zip_get (λ (n b : ℕ). n < b) 0 1 (omega arith) (part_draws nums a) (part_bounds ++ (part_ahead a low).rest) 1 (parts_below a low);
    x = λ a low. zip_get (λ (n b : ℕ). n < b) 0 1 (omega arith) (part_draws nums a) (part_bounds ++ (part_ahead a low).rest) 2 (parts_below a low);
    y = λ a low. zip_get (λ (n b : ℕ). n < b) 0 1 (omega arith) (part_draws nums a) (part_bounds ++ (part_ahead a low).rest) 3 (parts_below a low);
    target = target_below;
  }

-- each bound is one at least
pub all_repeated : (P : ℕ → Type 0) (xs : List ℕ) (n : ℕ) → AllByRecursion P xs → AllByRecursion P (concat (replicate n xs))
all_repeated P xs zero all = tt
all_repeated P xs (suc n) all = all_join P xs (concat (replicate n xs)) all (all_repeated P xs n all)

pub some_bounds : (p : Params) → 1 ≤ p.atomics → AllByRecursion (λ (b : ℕ). 1 ≤ b) (composite_bounds p)
some_bounds p some = (
  omega arith,
  (
    omega arith,
    all_join (λ (b : ℕ). 1 ≤ b) (all_parts p) (all_connections p)
        (all_repeated (λ (b : ℕ). 1 ≤ b) part_bounds p.atomics (omega arith, (omega arith, (omega arith, (omega arith, tt)))))
        (all_repeated (λ (b : ℕ). 1 ≤ b) (connection_bounds p) p.atomics (
          omega arith,
          (omega arith, all_repeated (λ (b : ℕ). 1 ≤ b) (target_bounds p) (p.connections - 1) (some, (omega arith, (omega arith, tt)))),
        )),
  ),
)
