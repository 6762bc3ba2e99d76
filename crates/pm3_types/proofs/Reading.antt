-- Bytes of page 1 that do not depart from the form are those that are written.
use Rattle.std.proofs.Common.{◌≡◌, ◌≤◌, ◌<◌, ◌+◌, ◌-◌, ◌*◌, ℕ, suc, List, [], ◌∷◌, ◌++◌, length, take, drop, replicate, true, Option, None, Some, refl, sym, arith, ap, ◌∙◌, append_assoc, length-append}
use Rattle.std.proofs.lemmas.List.{take-append-drop, length-drop}
use Rattle.std.specs.Int.{w32, to_le_bytes}
use Rattle.std.specs.Option.{option_or}
use Rattle.pm3_types.specs.Fields.{Fields}
use Rattle.pm3_types.specs.Bytes.{is_zero}
use Rattle.pm3_types.specs.PageOne.{zeros, padded, catalog_head, catalog_page, map_bytes, maps_bytes}
use Rattle.pm3_types.specs.CatalogForm.{map_departure, maps_departure, IsCauseOf}
use Rattle.pm3_types.specs.declared.catalogs.CatalogFault.{CatalogFault}
use Rattle.pm3_types.specs.declared.catalogs.CatalogFault.TheVariants.{Damaged, Memory}
use Rattle.pm3_types.proofs.ZeroBytes.{zeros_of}
use Rattle.pm3_types.proofs.Padding.{maps_bytes-append}

-- a head is the number that it gives and four zeros
pub head_of : (head : List ℕ) (count : ℕ) → length head ≡ 8 → to_le_bytes w32 count ≡ take 4 head → is_zero (drop 4 head) ≡ true → head ≡ catalog_head count
head_of head count eight number gap =
    let four : length (drop 4 head) ≡ 4 = omega (arith, length-drop 4 head) in
    sym (take-append-drop 4 head)
    ∙ ap (λ (front : List ℕ). front ++ drop 4 head) (sym number)
    ∙ ap (λ (back : List ℕ). to_le_bytes w32 count ++ back) (zeros_of (drop 4 head) gap ∙ ap (λ (k : ℕ). replicate k 0) four)

-- a front before a padded list
pub padded-behind : (k n : ℕ) (front back : List ℕ) → length front ≡ k → front ++ padded n back ≡ padded (k + n) (front ++ back)
unfolding padded zeros
padded-behind k n front back is =
    let same : n - length back ≡ k + n - length (front ++ back) = omega (arith, length-append front back) in
    sym (append_assoc front back (replicate (n - length back) 0)) ∙ ap (λ (m : ℕ). (front ++ back) ++ replicate m 0) same

-- maps and zeros behind them are the padded maps
pub padded-zeros : (n : ℕ) (front rest : List ℕ) → length front + length rest ≡ n → is_zero rest ≡ true → front ++ rest ≡ padded n front
unfolding padded zeros
padded-zeros n front rest whole gap =
    let same : length rest ≡ n - length front = omega arith in
    ap (λ (back : List ℕ). front ++ back) (zeros_of rest gap ∙ ap (λ (k : ℕ). replicate k 0) same)

-- a head and the padded maps behind it are the page
pub page_of : (bytes : List ℕ) (maps : List Fields) (count : ℕ) → length maps ≡ count → take 8 bytes ≡ catalog_head count → drop 8 bytes ≡ padded 4088 (maps_bytes maps)
    → bytes ≡ catalog_page maps
page_of bytes maps count number head back =
    sym (take-append-drop 8 bytes)
    ∙ ap (λ (front : List ℕ). front ++ drop 8 bytes) head
    ∙ ap (λ (rest : List ℕ). catalog_head count ++ rest) back
    ∙ padded-behind 8 4088 (catalog_head count) (maps_bytes maps) refl
    ∙ ap (λ (n : ℕ). padded 4096 (catalog_head n ++ maps_bytes maps)) (sym number)

-- what was read of the types so far: the maps, the bytes behind them, and the departure that is left
pub record SoFar (count i : ℕ) (bytes : List ℕ) (maps : List Fields) (rest : List ℕ) : Type 0 where
  pub number : length maps ≡ i
  pub behind : length rest + 8 * i ≡ 4088
  pub same : bytes ≡ maps_bytes maps ++ rest
  pub left : maps_departure (count - i) (8 + 8 * i) rest ≡ maps_departure count 8 bytes

departure_step : (n i at : ℕ) (rest : List ℕ) → i < n
    → maps_departure (n - i) at rest ≡ option_or (map_departure at (take 8 rest)) (maps_departure (n - (i + 1)) (at + 8) (drop 8 rest))
departure_step n i at rest less =
    let more : n - i ≡ suc (n - (i + 1)) = omega arith in
    ap (λ (k : ℕ). maps_departure k at rest) more

-- the departure of a type is that of the page
pub departs_here : (count i : ℕ) (bytes : List ℕ) (maps : List Fields) (rest : List ℕ) (offset : Option ℕ) → i < count → SoFar count i bytes maps rest
    → option_or (map_departure (8 + 8 * i) (take 8 rest)) (maps_departure (count - (i + 1)) (8 + 8 * i + 8) (drop 8 rest)) ≡ offset
    → maps_departure count 8 bytes ≡ offset
departs_here count i bytes maps rest offset less so_far is =
    sym so_far.left ∙ departure_step count i (8 + 8 * i) rest less ∙ is

-- so is its cause
pub cause_here : (count i : ℕ) (bytes : List ℕ) (maps : List Fields) (rest : List ℕ) (fault : CatalogFault) → i < count → SoFar count i bytes maps rest
    → IsCauseOf (map_departure (8 + 8 * i) (take 8 rest)) fault → IsCauseOf (maps_departure count 8 bytes) fault
cause_here count i bytes maps rest (Damaged offset) less so_far is =
    departs_here count i bytes maps rest (Some offset) less so_far
    (ap (λ (o : Option ℕ). option_or o (maps_departure (count - (i + 1)) (8 + 8 * i + 8) (drop 8 rest))) is)
cause_here count i bytes maps rest Memory less so_far is = is

-- one more type was read
pub one_more : (count i : ℕ) (bytes : List ℕ) (maps : List Fields) (rest : List ℕ) (map : Fields) → count ≤ 256 → i < count → SoFar count i bytes maps rest
    → take 8 rest ≡ map_bytes map → map_departure (8 + 8 * i) (take 8 rest) ≡ None
    → SoFar count (i + 1) bytes (maps ++ map ∷ []) (drop 8 rest)
one_more count i bytes maps rest map few less so_far entry sound = record {
  number = omega (arith, so_far.number, length-append maps (map ∷ []));
  behind = omega (arith, so_far.behind, length-drop 8 rest);
  same = so_far.same ∙ ap (λ (back : List ℕ). maps_bytes maps ++ back) split
      ∙ sym (append_assoc (maps_bytes maps) (map_bytes map) (drop 8 rest))
      ∙ ap (λ (front : List ℕ). front ++ drop 8 rest) (sym (maps_bytes-append maps (map ∷ [])));
  left = ap (λ (at : ℕ). maps_departure (count - (i + 1)) at (drop 8 rest)) place
      ∙ ap (λ (o : Option ℕ). option_or o (maps_departure (count - (i + 1)) (8 + 8 * i + 8) (drop 8 rest))) (sym sound)
      ∙ sym (departure_step count i (8 + 8 * i) rest less) ∙ so_far.left;
}
  where
    split : rest ≡ map_bytes map ++ drop 8 rest
    split = sym (take-append-drop 8 rest) ∙ ap (λ (front : List ℕ). front ++ drop 8 rest) entry

    place : 8 + 8 * (i + 1) ≡ 8 + 8 * i + 8
    place = omega arith
