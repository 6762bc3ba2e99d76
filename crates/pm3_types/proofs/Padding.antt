-- Writing bytes behind the filled front of a page.
use Rattle.std.proofs.Common.{◌≡◌, ◌≤◌, ◌<◌, ◌+◌, ◌-◌, ◌*◌, ℕ, List, [], ◌∷◌, ◌++◌, length, take, drop, get_or, replicate, refl, sym, arith, ap, ◌∙◌, append_assoc, length-append, add-one}
use Rattle.std.proofs.lemmas.List.{drop-replicate, length-take-le}
use Rattle.std.proofs.Math.Seq.{take-append_seam, drop-append-add, take-suc}
use Rattle.pm3_types.specs.Fields.{Fields}
use Rattle.pm3_types.specs.PageOne.{zeros, padded, maps_bytes, map_bytes}

-- the bytes of so many types
pub length-maps_bytes : (maps : List Fields) → length (maps_bytes maps) ≡ 8 * length maps
length-maps_bytes [] = refl
length-maps_bytes (map ∷ maps) = omega (arith, length-maps_bytes maps)

-- bytes of lists of types one after another
pub maps_bytes-append : (xs ys : List Fields) → maps_bytes (xs ++ ys) ≡ maps_bytes xs ++ maps_bytes ys
maps_bytes-append [] ys = refl
maps_bytes-append (x ∷ xs) ys = ap (λ (bytes : List ℕ). map_bytes x ++ bytes) (maps_bytes-append xs ys)

-- bytes written at the start of a page of zeros
pub padded-front : (n k : ℕ) (bytes old : List ℕ) → k ≡ n → old ≡ replicate k 0 → bytes ++ drop (length bytes) old ≡ padded n bytes
unfolding padded zeros
padded-front n k bytes old same is = rw (is, drop-replicate, same)

-- bytes written behind the front lengthen it
pub padded-append : (n at : ℕ) (front bytes : List ℕ) → at ≡ length front → at + length bytes ≤ n
    → take at (padded n front) ++ bytes ++ drop (at + length bytes) (padded n front) ≡ padded n (front ++ bytes)
unfolding padded zeros
padded-append n at front bytes e fits =
    let same : n - length front - length bytes ≡ n - length (front ++ bytes) = omega (arith, length-append front bytes) in
    rw (e, take-append_seam, drop-append-add, drop-replicate) (ap (λ (k : ℕ). (front ++ bytes) ++ replicate k 0) same)

-- one more type behind those that are written
pub padded-maps_bytes : (front : List ℕ) (maps : List Fields) (i : ℕ) (map : Fields) (old new : List ℕ)
    → length front ≡ 8 → length maps ≤ 256 → i < length maps → map ≡ get_or maps i map
    → old ≡ padded 4096 (front ++ maps_bytes (take i maps))
    → new ≡ take (8 + 8 * i) old ++ map_bytes map ++ drop (8 + 8 * i + 8) old
    → new ≡ padded 4096 (front ++ maps_bytes (take (i + 1) maps))
padded-maps_bytes front maps i map old new eight few here is was now =
    now ∙ ap (λ (page : List ℕ). take (8 + 8 * i) page ++ map_bytes map ++ drop (8 + 8 * i + 8) page) was
    ∙ padded-append 4096 (8 + 8 * i) (front ++ maps_bytes (take i maps)) (map_bytes map) place fits
    ∙ ap (padded 4096) (append_assoc front (maps_bytes (take i maps)) (map_bytes map) ∙ ap (λ (bytes : List ℕ). front ++ bytes) more)
  where
    shown : maps_bytes (take i maps ++ map ∷ []) ≡ maps_bytes (take i maps) ++ map_bytes map
    shown = maps_bytes-append (take i maps) (map ∷ [])

    longer : take (i + 1) maps ≡ take i maps ++ map ∷ []
    longer = rw add-one (take-suc maps i map here ∙ ap (λ (m : Fields). take i maps ++ m ∷ []) (sym is))

    more : maps_bytes (take i maps) ++ map_bytes map ≡ maps_bytes (take (i + 1) maps)
    more = sym shown ∙ ap maps_bytes (sym longer)

    place : 8 + 8 * i ≡ length (front ++ maps_bytes (take i maps))
    place = omega (arith, length-append front (maps_bytes (take i maps)), length-maps_bytes (take i maps), length-take-le i maps (omega arith))

    fits : 8 + 8 * i + 8 ≤ 4096
    fits = omega arith
