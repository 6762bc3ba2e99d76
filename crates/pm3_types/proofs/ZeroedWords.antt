-- Words of which a part was made zero.
use Rattle.std.proofs.Common.{◌≡◌, ◌<◌, ◌≤◌, ◌+◌, ◌-◌, ◌++◌, ◌∙◌, ℕ, List, length, get_or, take, drop, replicate, ap, arith, length-append, length-drop, length-take-le, get_or-take, get_or-drop}
use Rattle.std.proofs.lemmas.List.{length-replicate, get_or-replicate, get_or_append_left, get_or-append_right}
use Rattle.pm3_types.specs.Layout.{zeroed}

abbrev none : ℕ
none = 0

module _ (words : List ℕ) (from to : ℕ) (order : from ≤ to) (within : to ≤ length words) where
  front_length : length (take from words ++ replicate (to - from) 0) ≡ to
  front_length = omega (arith, length-append (take from words) (replicate (to - from) 0), length-take-le from words (omega arith), length-replicate (to - from) none)

  pub length-zeroed : length (zeroed words from to) ≡ length words
  length-zeroed = omega (arith, length-append (take from words ++ replicate (to - from) 0) (drop to words), front_length, length-drop to words)

  pub zeroed_before : (i : ℕ) → i < from → get_or (zeroed words from to) i 0 ≡ get_or words i 0
  zeroed_before i low =
      get_or_append_left (take from words ++ replicate (to - from) 0) (drop to words) 0 i (omega (arith, front_length))
      ∙ get_or_append_left (take from words) (replicate (to - from) 0) 0 i (omega (arith, length-take-le from words (omega arith)))
      ∙ get_or-take from words i 0 low

  pub zeroed_within : (i : ℕ) → from ≤ i → i < to → get_or (zeroed words from to) i 0 ≡ 0
  zeroed_within i high low =
      get_or_append_left (take from words ++ replicate (to - from) 0) (drop to words) 0 i (omega (arith, front_length))
      ∙ get_or-append_right (take from words) (replicate (to - from) none) from i 0 (length-take-le from words (omega arith)) high
      ∙ get_or-replicate (to - from) (i - from) none none (omega arith)

  pub zeroed_behind : (i : ℕ) → to ≤ i → get_or (zeroed words from to) i 0 ≡ get_or words i 0
  zeroed_behind i high =
      get_or-append_right (take from words ++ replicate (to - from) 0) (drop to words) to i 0 front_length high
      ∙ get_or-drop to words (i - to) 0 ∙ ap (λ (k : ℕ). get_or words k 0) place
    where
      place : to + (i - to) ≡ i
      place = omega arith
