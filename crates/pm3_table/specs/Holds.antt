-- What a mutator holds, and which pages its spaces have.
use Rattle.std.specs.Prelude.{ℕ, ◌+◌, ◌==◌, ◌||◌, Bool, true, false, if◌then◌else◌, List, [], ◌∷◌}
use Rattle.pm3_core.specs.Machine.{put}
use Rattle.pm3_table.specs.declared.view.Hold.{Hold}
use Rattle.pm3_table.specs.declared.view.Hold.TheVariants.{Took, Gave}
use Rattle.pm3_table.specs.declared.view.Span.{Span}
use Rattle.pm3_table.specs.declared.view.Span.TheVariants.{Spread, Went}

-- whether it holds a unit
abbrev pub holds_of : List Hold → ℕ → Bool
holds_of [] = λ _. false
holds_of (Took u ∷ hs) = put (holds_of hs) u true
holds_of (Gave u ∷ hs) = put (holds_of hs) u false

-- a number is in a list
abbrev pub is_in : ℕ → List ℕ → Bool
is_in n [] = false
is_in n (x ∷ xs) = (x == n) || is_in n xs

-- whether a page is one of the unit's: as the unit was taken, and but for the pages that went elsewhere since
abbrev pub spans_of : List Span → ℕ → ℕ → Bool
spans_of [] = λ _ _. false
spans_of (Spread u pages ∷ ss) = put (spans_of ss) u (λ p. is_in p pages)
spans_of (Went page to ∷ ss) = λ u. put (spans_of ss u) page (to == u + 1)

-- the list without a number
abbrev pub without_number : ℕ → List ℕ → List ℕ
without_number n [] = []
without_number n (x ∷ xs) = if x == n then without_number n xs else (x ∷ without_number n xs)
