-- As many looks as a build makes objects find all that its design reaches.
use Rattle.std.proofs.Common.{◌≡◌, ℕ, List, length, arith, ap, ◌∙◌}
use Rattle.std.proofs.lemmas.List.FromFn.{length-range_with_len}
use Rattle.oo7_schema.specs.Draws.{begun, drawn}
use Rattle.oo7_schema.specs.Sizes.{params_of, size_at}
use Rattle.oo7_schema.specs.Sized.{build_bounds, objects_made, objects_built, design}
use Rattle.oo7_schema.specs.DesignLaws.{BuiltIsClosed}
use Rattle.oo7_schema.proofs.Naming.{named}
use Rattle.oo7_schema.proofs.Flattening.{named_there}
use Rattle.oo7_schema.proofs.Building.{all_named, built}
use Rattle.oo7_schema.proofs.ClosedDesigns.{designs_are_closed}

pub built_is_closed : BuiltIsClosed
built_is_closed = λ number seed low.
    let long : length (named (objects_made number (params_of (size_at number)) (drawn (build_bounds (params_of (size_at number))) (begun seed 7)))) ≡ objects_built (params_of (size_at number)) =
    ap (λ (ns : List ℕ). length ns) (all_named number seed low) ∙ length-range_with_len 1 (objects_built (params_of (size_at number))) in
    designs_are_closed (design number seed) (named (objects_made number (params_of (size_at number)) (drawn (build_bounds (params_of (size_at number))) (begun seed 7))))
    (objects_built (params_of (size_at number))) (built number seed low)
    (λ n some. named_there (objects_made number (params_of (size_at number)) (drawn (build_bounds (params_of (size_at number))) (begun seed 7))) n some) (omega (arith, long))
