-- What a sink has taken, piece by piece.
use Rattle.std.proofs.Common.{◌≡◌, ℕ, ◌+◌, List, ◌++◌, take, drop, Option, Some, None, option_map, refl, ap, sym, ◌∙◌, append_assoc}
use Rattle.std.proofs.Math.Seq.{take-add}

-- some first bytes, and then some first of the rest
takes_more : (before : Option (List ℕ)) (bytes : List ℕ) (done count : ℕ) → option_map (λ taken. taken ++ take count (drop done bytes)) (option_map (λ taken. taken ++ take done bytes) before) ≡ option_map (λ taken. taken ++ take (done + count) bytes) before
takes_more None bytes done count = refl
takes_more (Some taken) bytes done count = ap Some (append_assoc taken _ _ ∙ ap (λ (piece : List ℕ). taken ++ piece) (sym (take-add done count bytes)))

pub taken_so_far : (before mid now : Option (List ℕ)) (bytes : List ℕ) (done count : ℕ) → mid ≡ option_map (λ taken. taken ++ take done bytes) before → now ≡ option_map (λ taken. taken ++ take count (drop done bytes)) mid → now ≡ option_map (λ taken. taken ++ take (done + count) bytes) before
taken_so_far before mid now bytes done count earlier later = later ∙ ap (option_map (λ taken. taken ++ take count (drop done bytes))) earlier ∙ takes_more before bytes done count
