-- The part of the rule on the three counters: pages, names and rows.
use Rattle.std.specs.Prelude.{◌≡◌, ℕ, ◌+◌, ◌-◌, ◌<◌, ◌≤◌, ◌==◌, ◌&&◌, Bool, true, if◌then◌else◌, min, List}
use Rattle.pm3_table.specs.Crew.{total}
use Rattle.pm3_table.specs.Holds.{is_in}

pub record DrawView : Type 0 where
  pub live : Bool
  pub drawing : ℕ
  pub filled : List ℕ
  pub drew_pages : ℕ
  pub drew_names : ℕ
  pub rows : ℕ

-- it stands between the load and the fetch of a draw on the counter
abbrev pub is_drawing : ℕ → DrawView → ℕ
is_drawing c v = if v.live && (v.drawing == c + 1) then 1 else 0

-- how much it counts as drawn from the counter
abbrev pub drew : ℕ → DrawView → ℕ
drew c v =
    if v.live
    then (if c == 0 then v.drew_pages else (if c == 1 then v.drew_names else v.rows))
    else 0

-- A counter that a view saw full is. Past its limit a counter's excess and the draws under way are at most 32. Up to the
-- limit it is what it began with and all that the views count.
pub record DrawsRule (limit first counter : ℕ → ℕ) (crew : ℕ → DrawView) : Type 0 where
  pub full : (k : ℕ) → (crew k).live ≡ true → (c : ℕ) → is_in c (crew k).filled ≡ true → limit c ≤ counter c
  pub excess : (c : ℕ) → c < 3 → limit c ≤ counter c
      → (counter c - limit c) + total 32 (λ k. is_drawing c (crew k)) ≤ 32
  pub sum : (c : ℕ) → c < 3 → min (counter c) (limit c) ≡ first c + total 32 (λ k. drew c (crew k))
