-- Places of objects on fresh pages, computed from the definition.
use Rattle.std.proofs.Common.{◌≡◌, [], ◌∷◌, refl}
use Rattle.pm3_types.specs.Layout.{address}
use Rattle.pm3_types.specs.PassMoves.{settled, pages_wanted, paired, moved_by}

-- what does not fit behind the last object goes to the next page, where the rest follows it
next_page : settled 0 (300 ∷ 300 ∷ 10 ∷ []) (5 ∷ 7 ∷ []) ≡ address 0 5 2 ∷ address 0 7 2 ∷ address 0 7 302 ∷ []
next_page = refl

-- an object of 510 words fills a page
whole_page : settled 0 (510 ∷ 2 ∷ []) (5 ∷ 7 ∷ []) ≡ address 0 5 2 ∷ address 0 7 2 ∷ []
whole_page = refl

two_pages : pages_wanted (300 ∷ 300 ∷ 10 ∷ []) ≡ 2
two_pages = refl

no_page : pages_wanted [] ≡ 0
no_page = refl

followed : moved_by (paired (16 ∷ 32 ∷ []) (64 ∷ 80 ∷ [])) 32 ≡ 80
followed = refl

unmoved : moved_by (paired (16 ∷ 32 ∷ []) (64 ∷ 80 ∷ [])) 48 ≡ 48
unmoved = refl
