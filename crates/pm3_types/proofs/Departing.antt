-- Where a page departs from the form of a catalog, and that nothing behind that place can mend it.
use Rattle.std.proofs.Common.{◌≡◌, ◌⊎◌, inl, inr, ⊎_elim, ℕ, zero, suc, ◌+◌, ◌-◌, ◌*◌, ◌%◌, ◌<◌, ◌≤◌, ◌∙◌, Bool, true, false, List, length, take, drop, get_or, nat_le, nat_lt, Option, None, Some, refl, arith, sym, ap, ◌++◌, length-append, take-take, take_all, get_or-take}
use Rattle.std.proofs.lemmas.List.{drop-take, length-replicate}
use Rattle.std.proofs.lemmas.Bool.{cases_lt, cond-true, cond-false}
use Rattle.std.proofs.lemmas.Bool.Decides.{nat_tests}
use Rattle.std.specs.Prelude.{◌^◌, ◌==◌, ◌&&◌, slice_index}
use Rattle.std.specs.Int.{w32}
use Rattle.std.specs.Option.{option_or}
use Rattle.pm3_types.specs.Fields.{Fields}
use Rattle.pm3_types.specs.Bytes.{is_zero, number_at, unless}
use Rattle.pm3_types.specs.PageOne.{catalog_page, catalog_head, maps_bytes, padded, zeros}
use Rattle.pm3_types.specs.CatalogForm.{departure, head_departure, map_departure, maps_departure}
use Rattle.pm3_types.specs.PageLaws.{DepartureStands, behind_field, behind_type_field}
use Rattle.pm3_types.proofs.Padding.{length-maps_bytes}
use Rattle.pm3_types.proofs.OnePage.{page_has_form}

some_same : (a b : ℕ) → Some a ≡ Some b → a ≡ b
some_same a b e = cc

pub unless_at : (good : Bool) (at o : ℕ) → unless good at ≡ Some o → o ≡ at
unless_at true at o is = absurd (cc is)
unless_at false at o is = sym (some_same at o is)

pub either : (p q : Option ℕ) (o : ℕ) → option_or p q ≡ Some o → (p ≡ Some o) ⊎ ((p ≡ None) × (q ≡ Some o))
either None q o is = inr (refl, is)
either (Some x) q o is = inl is

-- a departure is no earlier than the first field, and no later than the last
within : (good : Bool) (at o top : ℕ) (later : Option ℕ) → at ≤ top → (later ≡ Some o → (at ≤ o) × (o ≤ top)) → option_or (unless good at) later ≡ Some o
    → (at ≤ o) × (o ≤ top)
within true at o top later low rest is = rest is
within false at o top later low rest is =
    let here : at ≡ o = some_same at o is in
    (omega arith, omega arith)

last_field : (good : Bool) (at from o top : ℕ) → from ≤ at → at ≤ top → unless good at ≡ Some o → (from ≤ o) × (o ≤ top)
last_field good at from o top low high is = (omega (arith, unless_at good at o is), omega (arith, unless_at good at o is))

-- of the eight bytes of a type
pub map_within : (at : ℕ) (entry : List ℕ) (o : ℕ) → map_departure at entry ≡ Some o → (at ≤ o) × (o ≤ at + 4)
map_within at entry o is =
    within (nat_le (slice_index entry 0) 32) at o (at + 4) _ (omega arith) (λ one. below at (at + 1) (omega arith)
    (within (nat_le (slice_index entry 1) 2) (at + 1) o (at + 4) _ (omega arith) (λ two. below (at + 1) (at + 2) (omega arith)
    (within (slice_index entry 2 == 0 && slice_index entry 3 == 0) (at + 2) o (at + 4) _ (omega arith)
    (last_field (nat_lt (number_at w32 4 entry) (2 ^ slice_index entry 0)) (at + 4) (at + 2) o (at + 4) (omega arith) (omega arith)) two)) one)) is
  where
    below : (a b : ℕ) → a ≤ b → (b ≤ o) × (o ≤ at + 4) → (a ≤ o) × (o ≤ at + 4)
    below a b low (from, until) = (omega arith, until)

-- of so many types
pub maps_within : (n at : ℕ) (bytes : List ℕ) (o : ℕ) → maps_departure n at bytes ≡ Some o → (at ≤ o) × (o ≤ at + 8 * n)
maps_within zero at bytes o is = (omega (arith, unless_at (is_zero bytes) at o is), omega (arith, unless_at (is_zero bytes) at o is))
maps_within (suc n) at bytes o is =
    ⊎_elim (λ here. let near = map_within at (take 8 bytes) o here in (near.0, omega (arith, near.1)))
    (λ later. let near = maps_within n (at + 8) (drop 8 bytes) o later.1 in (omega (arith, near.0), omega (arith, near.1)))
    (either (map_departure at (take 8 bytes)) (maps_departure n (at + 8) (drop 8 bytes)) o is)

-- one more test that is the same, up to the departure
same_test : (a b : Bool) (at o : ℕ) (p q : Option ℕ) → option_or (unless a at) p ≡ Some o → (p ≡ Some o → at ≤ o) → (at ≤ o → b ≡ a)
    → (p ≡ Some o → q ≡ Some o) → option_or (unless b at) q ≡ Some o
same_test true b at o p q is low same more = ap (λ (c : Bool). option_or (unless c at) q) (same (low is)) ∙ more is
same_test false b at o p q is low same more =
    let here : at ≡ o = some_same at o is in
    ap (λ (c : Bool). option_or (unless c at) q) (same (omega arith)) ∙ is

-- two lists that are the same up to a byte
module _ (xs ys : List ℕ) (e : ℕ) (same : take e ys ≡ take e xs) where
  front_same : 8 ≤ e → take 8 ys ≡ take 8 xs
  front_same long = sym (take-take 8 e ys long) ∙ ap (take 8) same ∙ take-take 8 e xs long

  behind_same : 8 ≤ e → take (e - 8) (drop 8 ys) ≡ take (e - 8) (drop 8 xs)
  behind_same long =
      let whole : 8 + (e - 8) ≡ e = omega arith in
      sym (drop-take 8 (e - 8) ys) ∙ ap (λ (n : ℕ). drop 8 (take n ys)) whole ∙ ap (drop 8) same ∙ ap (λ (n : ℕ). drop 8 (take n xs)) (sym whole)
      ∙ drop-take 8 (e - 8) xs

  byte_same : (i : ℕ) → i < 8 → i < e → get_or (take 8 ys) i 0 ≡ get_or (take 8 xs) i 0
  byte_same i low there =
      get_or-take 8 ys i 0 low ∙ sym (get_or-take e ys i 0 there) ∙ ap (λ (l : List ℕ). get_or l i 0) same ∙ get_or-take e xs i 0 there
      ∙ sym (get_or-take 8 xs i 0 low)

-- the departure of a type stands, whatever is behind its field
map_stands : (k o e : ℕ) (xs ys : List ℕ) → map_departure k (take 8 xs) ≡ Some o → behind_type_field (o - k) ≤ e → take e ys ≡ take e xs
    → map_departure k (take 8 ys) ≡ Some o
map_stands k o e xs ys is far same =
    same_test _ _ k o _ _ is (λ one. omega (arith, (map_within k (take 8 xs) o is).0)) (λ low. ap (λ (b : ℕ). nat_le b 32) (byte 0 (omega arith) (bound 0 (omega arith))))
    (λ one. same_test _ _ (k + 1) o _ _ one (λ two. second two) (λ low. ap (λ (b : ℕ). nat_le b 2) (byte 1 (omega arith) (bound 1 low)))
    (λ two. same_test _ _ (k + 2) o _ _ two (λ three. omega (arith, unless_at (nat_lt (number_at w32 4 (take 8 xs)) (2 ^ slice_index (take 8 xs) 0)) (k + 4) o three))
    (λ low. (λ i. (byte 2 (omega arith) (omega (arith, gap low)) i == 0) && (byte 3 (omega arith) (omega (arith, gap low)) i == 0)))
    (λ three. ap (λ (entry : List ℕ). unless (nat_lt (number_at w32 4 entry) (2 ^ slice_index entry 0)) (k + 4)) (front_same xs ys e same (whole three)) ∙ three)))
  where
    byte : (i : ℕ) → i < 8 → i < e → get_or (take 8 ys) i 0 ≡ get_or (take 8 xs) i 0
    byte i low there = byte_same xs ys e same i low there

    bound : (i : ℕ) → k + i ≤ o → i < e
    bound i low = grind (arith, nat_tests, far, low)

    gap : k + 2 ≤ o → 3 < e
    gap low = grind (arith, nat_tests, far, low)

    second : option_or (unless (slice_index (take 8 xs) 2 == 0 && slice_index (take 8 xs) 3 == 0) (k + 2)) (unless (nat_lt (number_at w32 4 (take 8 xs)) (2 ^ slice_index (take 8 xs) 0)) (k + 4)) ≡ Some o → k + 1 ≤ o
    second two =
        omega (
          arith,
          (within (slice_index (take 8 xs) 2 == 0 && slice_index (take 8 xs) 3 == 0) (k + 2) o (k + 4) _ (omega arith)
              (last_field (nat_lt (number_at w32 4 (take 8 xs)) (2 ^ slice_index (take 8 xs) 0)) (k + 4) (k + 2) o (k + 4) (omega arith) (omega arith)) two).0,
        )

    whole : unless (nat_lt (number_at w32 4 (take 8 xs)) (2 ^ slice_index (take 8 xs) 0)) (k + 4) ≡ Some o → 8 ≤ e
    whole three =
        let at : o ≡ k + 4 = unless_at (nat_lt (number_at w32 4 (take 8 xs)) (2 ^ slice_index (take 8 xs) 0)) (k + 4) o three in
        grind (arith, nat_tests, far, at)

-- the byte behind the field of a type that begins at this one of the page
abbrev behind_in : ℕ → ℕ
behind_in o = o - o % 8 + behind_type_field (o % 8)

behind_more : (d : ℕ) → d < 8 → d < behind_type_field d
behind_more d low = grind (arith, nat_tests)

maps_stand : (n k o e : ℕ) (xs ys : List ℕ) → maps_departure n k xs ≡ Some o → o < k + 8 * n → k % 8 ≡ 0 → k + e ≡ behind_in o → take e ys ≡ take e xs
    → maps_departure n k ys ≡ Some o
maps_stand zero k o e xs ys is low at far same = absurd (omega (arith, unless_at (is_zero xs) k o is))
maps_stand (suc n) k o e xs ys is low at far same =
    ⊎_elim (λ here. ap (λ (p : Option ℕ). option_or p (maps_departure n (k + 8) (drop 8 ys))) (map_stands k o e xs ys here (first here) same))
    (λ later. ap (λ (entry : List ℕ). option_or (map_departure k entry) (maps_departure n (k + 8) (drop 8 ys))) (front_same xs ys e same (long later.1))
    ∙ ap (λ (p : Option ℕ). option_or p (maps_departure n (k + 8) (drop 8 ys))) later.0
    ∙ maps_stand n (k + 8) o (e - 8) (drop 8 xs) (drop 8 ys) later.1 (omega arith) (omega arith) (omega (arith, far, long later.1)) (behind_same xs ys e same (long later.1)))
    (either (map_departure k (take 8 xs)) (maps_departure n (k + 8) (drop 8 xs)) o is)
  where
    first : map_departure k (take 8 xs) ≡ Some o → behind_type_field (o - k) ≤ e
    first here =
        let near = map_within k (take 8 xs) o here in
        let place : o % 8 ≡ o - k = omega (arith, near, at) in
        let size : e ≡ behind_type_field (o % 8) = omega (arith, far, place, near) in
        let end : behind_type_field (o % 8) ≡ behind_type_field (o - k) = ap behind_type_field place in
        omega (arith, size, end)

    long : maps_departure n (k + 8) (drop 8 xs) ≡ Some o → 8 ≤ e
    long later =
        let near = maps_within n (k + 8) (drop 8 xs) o later in
        let more : o % 8 < behind_type_field (o % 8) = behind_more (o % 8) (omega arith) in
        omega (arith, far, near.0, more)

-- numbers of the same bytes
number_alike : (xs ys : List ℕ) → get_or xs 0 0 ≡ get_or ys 0 0 → get_or xs 1 0 ≡ get_or ys 1 0 → get_or xs 2 0 ≡ get_or ys 2 0 → get_or xs 3 0 ≡ get_or ys 3 0
    → number_at w32 0 xs ≡ number_at w32 0 ys
unfolding number_at
number_alike xs ys a b c d = omega (arith, a, b, c, d)

number_of_front : (n : ℕ) (page : List ℕ) → 4 ≤ n → number_at w32 0 (take n page) ≡ number_at w32 0 page
number_of_front n page long = number_alike (take n page) page (at 0 (omega arith)) (at 1 (omega arith)) (at 2 (omega arith)) (at 3 (omega arith))
  where
    at : (i : ℕ) → i < 4 → get_or (take n page) i 0 ≡ get_or page i 0
    at i low = get_or-take n page i 0 (omega arith)

below : (m n : ℕ) → m < n → nat_lt m n ≡ true
below m n is = grind (arith, nat_tests)

not_below : (m n : ℕ) → n ≤ m → nat_lt m n ≡ false
not_below m n is = grind (arith, nat_tests)

until_number : (types at : ℕ) → at ≡ 0 → behind_field types at ≡ 4
until_number types at is = ap (behind_field types) is

until_gap : (types at : ℕ) → at ≡ 4 → behind_field types at ≡ 8
until_gap types at is = ap (behind_field types) is

until_type : (types at : ℕ) → 8 ≤ at → at < 8 + 8 * types → behind_field types at ≡ behind_in at
until_type types at low high =
    cond-false (nat_lt at 4) _ _ (not_below at 4 (omega arith)) ∙ cond-false (nat_lt at 8) _ _ (not_below at 8 low)
    ∙ cond-true (nat_lt at (8 + 8 * types)) _ _ (below at (8 + 8 * types) high)

until_end : (types at : ℕ) → at ≡ 8 + 8 * types → behind_field types at ≡ 4096
until_end types at is =
    cond-false (nat_lt at 4) _ _ (not_below at 4 (omega arith)) ∙ cond-false (nat_lt at 8) _ _ (not_below at 8 (omega arith))
    ∙ cond-false (nat_lt at (8 + 8 * types)) _ _ (not_below at (8 + 8 * types) (omega arith))

departs_by : (head rest : List ℕ) (at : ℕ) → head_departure head ≡ Some at → option_or (head_departure head) (maps_departure (number_at w32 0 head) 8 rest) ≡ Some at
departs_by head rest at is = ap (λ (o : Option ℕ). option_or o (maps_departure (number_at w32 0 head) 8 rest)) is

-- a page that is the same up to the end of the first field that departs departs there too
module _ (bytes others : List ℕ) (at : ℕ) (long : length bytes ≡ 4096) (whole : length others ≡ 4096) (departs : departure bytes ≡ Some at)
    (same : take (behind_field (number_at w32 0 bytes) at) others ≡ take (behind_field (number_at w32 0 bytes) at) bytes) where
  up_to : (n : ℕ) → behind_field (number_at w32 0 bytes) at ≡ n → take n others ≡ take n bytes
  up_to n is = ap (λ (k : ℕ). take k others) (sym is) ∙ same ∙ ap (λ (k : ℕ). take k bytes) is

  number_departs : unless (nat_le (number_at w32 0 (take 8 bytes)) 256) 0 ≡ Some at → departure others ≡ Some at
  number_departs here =
      let zero_at : at ≡ 0 = unless_at (nat_le (number_at w32 0 (take 8 bytes)) 256) 0 at here in
      let four : take 4 others ≡ take 4 bytes = up_to 4 (until_number (number_at w32 0 bytes) at zero_at) in
      let number : number_at w32 0 (take 8 others) ≡ number_at w32 0 (take 8 bytes) =
      number_of_front 8 others (omega arith) ∙ sym (number_of_front 4 others (omega arith)) ∙ ap (number_at w32 0) four ∙ number_of_front 4 bytes (omega arith)
      ∙ sym (number_of_front 8 bytes (omega arith)) in
      departs_by (take 8 others) (drop 8 others) at
      (ap (λ (o : Option ℕ). option_or o (unless (is_zero (drop 4 (take 8 others))) 4)) (ap (λ (n : ℕ). unless (nat_le n 256) 0) number ∙ here))

  gap_departs : head_departure (take 8 bytes) ≡ Some at → unless (is_zero (drop 4 (take 8 bytes))) 4 ≡ Some at → departure others ≡ Some at
  gap_departs is here =
      let four_at : at ≡ 4 = unless_at (is_zero (drop 4 (take 8 bytes))) 4 at here in
      departs_by (take 8 others) (drop 8 others) at (ap head_departure (up_to 8 (until_gap (number_at w32 0 bytes) at four_at)) ∙ is)

  head_stands : head_departure (take 8 bytes) ≡ Some at → departure others ≡ Some at
  head_stands is =
      ⊎_elim number_departs (λ later. gap_departs is later.1)
      (either (unless (nat_le (number_at w32 0 (take 8 bytes)) 256) 0) (unless (is_zero (drop 4 (take 8 bytes))) 4) at is)

  type_departs : (n : ℕ) → n ≡ number_at w32 0 (take 8 bytes) → head_departure (take 8 bytes) ≡ None → maps_departure n 8 (drop 8 bytes) ≡ Some at → at < 8 + 8 * n
      → departure others ≡ Some at
  type_departs n number none is low =
      let number_here : n ≡ number_at w32 0 bytes = number ∙ number_of_front 8 bytes (omega arith) in
      let near = maps_within n 8 (drop 8 bytes) at is in
      let until : behind_field (number_at w32 0 bytes) at ≡ behind_in at =
      ap (λ (k : ℕ). behind_field k at) (sym number_here) ∙ until_type n at near.0 low in
      let agree : take (behind_in at) others ≡ take (behind_in at) bytes = up_to (behind_in at) until in
      let more : at % 8 < behind_type_field (at % 8) = behind_more (at % 8) (omega arith) in
      let far : 8 ≤ behind_in at = omega (arith, near.0, more) in
      ap (λ (head : List ℕ). option_or (head_departure head) (maps_departure (number_at w32 0 head) 8 (drop 8 others))) (front_same bytes others (behind_in at) agree far)
      ∙ ap (λ (o : Option ℕ). option_or o (maps_departure (number_at w32 0 (take 8 bytes)) 8 (drop 8 others))) none
      ∙ ap (λ (k : ℕ). maps_departure k 8 (drop 8 others)) (sym number)
      ∙ maps_stand n 8 at (behind_in at - 8) (drop 8 bytes) (drop 8 others) is low (omega arith) (omega (arith, far)) (behind_same bytes others (behind_in at) agree far)

  end_departs : (n : ℕ) → n ≡ number_at w32 0 (take 8 bytes) → at ≡ 8 + 8 * n → departure others ≡ Some at
  end_departs n number is =
      let number_here : n ≡ number_at w32 0 bytes = number ∙ number_of_front 8 bytes (omega arith) in
      let until : behind_field (number_at w32 0 bytes) at ≡ 4096 = ap (λ (k : ℕ). behind_field k at) (sym number_here) ∙ until_end n at is in
      let one : others ≡ bytes = sym (take_all 4096 others (omega arith)) ∙ up_to 4096 until ∙ take_all 4096 bytes (omega arith) in
      ap departure one ∙ departs

  maps_stand_there : (n : ℕ) → n ≡ number_at w32 0 (take 8 bytes) → head_departure (take 8 bytes) ≡ None → maps_departure n 8 (drop 8 bytes) ≡ Some at
      → departure others ≡ Some at
  maps_stand_there n number none is =
      let near = maps_within n 8 (drop 8 bytes) at is in
      elim (cases_lt at (8 + 8 * n)) [
        | inl low ↦ type_departs n number none is low
        | inr past ↦ end_departs n number (omega (arith, near.1, past))
      ]

  pub stands : departure others ≡ Some at
  stands =
      ⊎_elim head_stands (λ later. maps_stand_there (number_at w32 0 (take 8 bytes)) refl later.0 later.1)
      (either (head_departure (take 8 bytes)) (maps_departure (number_at w32 0 (take 8 bytes)) 8 (drop 8 bytes)) at departs)

-- a catalog's page has so many bytes
length-catalog_page : (maps : List Fields) → length maps ≤ 256 → length (catalog_page maps) ≡ 4096
unfolding padded zeros
length-catalog_page maps few =
    let front : length (catalog_head (length maps) ++ maps_bytes maps) ≡ 8 + 8 * length maps =
    length-append (catalog_head (length maps)) (maps_bytes maps) ∙ ap (λ (n : ℕ). 8 + n) (length-maps_bytes maps) in
    length-append (catalog_head (length maps) ++ maps_bytes maps) _ ∙ omega (arith, front, length-replicate {A = ℕ} (4096 - length (catalog_head (length maps) ++ maps_bytes maps)) 0)

none_is_some : (o : Option ℕ) (at : ℕ) → o ≡ None → o ≡ Some at → ⊥
none_is_some o at none some = cc

-- nothing behind the first field that departs can mend the page
pub departure_stands : DepartureStands
departure_stands bytes at maps long departs are same =
    none_is_some (departure (catalog_page maps)) at (page_has_form maps are) (stands bytes (catalog_page maps) at long (length-catalog_page maps are.0) departs same)
