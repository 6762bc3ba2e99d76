-- What the pieces of some bytes say.
use Rattle.std.proofs.Common.{◌≡◌, ◌≢◌, ◌+◌, ◌*◌, ◌-◌, ◌<◌, ◌≤◌, ℕ, suc, zero, Bool, true, false, List, [], ◌∷◌, length, take, drop, get_or, Option, Some, None, refl, sym, ◌∙◌, ap, arith, if◌then◌else◌, subst}
use Rattle.std.proofs.lemmas.List.{take-take, drop-take, get_or-take, get_or-drop}
use Rattle.std.proofs.lemmas.Bool.{and_parts, and_from, and_left, and_right, leb-true, le-leb, lt-leb, ne_eqb, eq-eqb, eqb-true}
use Rattle.pm3_journal.specs.Format.{PagePart, JournalRecord, record_size, parts_size}
use Rattle.pm3_types.specs.Bytes.{piece}
use Rattle.pm3_journal.specs.Reading.{State, Reading, Ends, Found, Parts, Bad, Good, with_part, parts_at, with_front, record_at}
use Rattle.pm3_journal.specs.RecordFront.{is_due, seq_of, number_of, front_departure, part_departure, stands, record_with}

-- a piece of the first `end` bytes depends on these alone
pub piece_same : (at n end : ℕ) (c old : List ℕ) → take end c ≡ take end old → at + n ≤ end → piece at n c ≡ piece at n old
piece_same at n end c old same le =
    sym (drop-take at n c) ∙ ap (drop at) (sym (take-take (at + n) end c le) ∙ ap (take (at + n)) same ∙ take-take (at + n) end old le) ∙ drop-take at n old

pub first_of_piece : (at n : ℕ) (c : List ℕ) → get_or (piece at (suc n) c) 0 0 ≡ get_or c at 0
first_of_piece at n c =
    let here : at + 0 ≡ at = omega arith in
    get_or-take (suc n) (drop at c) 0 0 (omega arith) ∙ get_or-drop at c 0 0 ∙ ap (λ (k : ℕ). get_or c k 0) here

-- no record stands behind a closed gate
stands_closed : (due : Option ℕ) (left : ℕ) (front : List ℕ) → get_or front 0 0 ≢ 1 → stands due left front ≡ false
unfolding stands
stands_closed due left front closed = and_left _ _ (ne_eqb (get_or front 0 0) 1 closed)

-- nor where its front isn't there
pub stands_short : (due : Option ℕ) (left : ℕ) (front : List ℕ) → left < 48 → stands due left front ≡ false
unfolding stands
stands_short due left front short = and_right _ _ (and_left _ _ (lt-leb 48 left short))

not_there : (b : Bool) (x : Reading) → b ≡ false → (if b then x else Ends) ≡ Ends
not_there true x is = absurd (cc is)
not_there false x is = refl

pub closed_ends : (s : State) (at : ℕ) (c : List ℕ) → get_or c at 0 ≢ 1 → record_at s at c ≡ Ends
unfolding record_at
closed_ends s at c closed =
    not_there (stands s.due (length c - at) (piece at 48 c)) _ (stands_closed s.due (length c - at) (piece at 48 c) (λ is. closed (sym (first_of_piece at 47 c) ∙ is)))

pub short_ends : (s : State) (at : ℕ) (c : List ℕ) → length c < at + 48 → record_at s at c ≡ Ends
unfolding record_at
short_ends s at c short =
    not_there (stands s.due (length c - at) (piece at 48 c)) _ (stands_short s.due (length c - at) (piece at 48 c) (omega arith))

pub record IsStanding (due : Option ℕ) (left : ℕ) (front : List ℕ) : Type 0 where
  pub gate : get_or front 0 0 ≡ 1
  pub front_there : 48 ≤ left
  pub is_next : is_due due (seq_of front) ≡ true
  pub whole : 48 + 4104 * number_of front ≤ left

pub stands_so : (due : Option ℕ) (left : ℕ) (front : List ℕ) → stands due left front ≡ true → IsStanding due left front
unfolding stands
stands_so due left front stood =
    let one = and_parts _ _ stood in
    let two = and_parts _ _ one.1 in
    let three = and_parts _ _ two.1 in
    record { gate = eqb-true _ _ one.0; front_there = leb-true _ _ two.0; is_next = three.0; whole = leb-true _ _ three.1 }

pub stands_by : (due : Option ℕ) (left : ℕ) (front : List ℕ) → IsStanding due left front → stands due left front ≡ true
unfolding stands
stands_by due left front is =
    and_from _ _ (eq-eqb _ _ is.gate) (and_from _ _ (le-leb _ _ is.front_there) (and_from _ _ is.is_next (le-leb _ _ is.whole)))

-- a record was read: what that says
pub record HasRead (s : State) (at : ℕ) (c : List ℕ) (r : JournalRecord) : Type 0 where
  pub stood : IsStanding s.due (length c - at) (piece at 48 c)
  pub fine : front_departure s.pages (piece at 48 c) ≡ None
  pub parts_there : parts_at (number_of (piece at 48 c)) s.pages 1 (at + 48) c ≡ Good r.parts
  pub is : record_with (piece at 48 c) r.parts ≡ r

found_by : (at : ℕ) (front : List ℕ) (d : Option ℕ) (p : Parts) (r : JournalRecord) → with_front at front d p ≡ Found r → (d ≡ None) × ((parts : List PagePart) × (p ≡ Good parts) × (record_with front parts ≡ r))
found_by at front (Some field) p r is = absurd (cc is)
found_by at front None (Bad place) r is = absurd (cc is)
found_by at front None (Good parts) r is = (refl, (parts, refl, cc is))

there_by : (b : Bool) (x : Reading) (r : JournalRecord) → (if b then x else Ends) ≡ Found r → (b ≡ true) × (x ≡ Found r)
there_by true x r is = (refl, is)
there_by false x r is = absurd (cc is)

pub has_read : (s : State) (at : ℕ) (c : List ℕ) (r : JournalRecord) → record_at s at c ≡ Found r → HasRead s at c r
unfolding record_at
has_read s at c r is =
    let there = there_by _ _ r is in
    let found = found_by at (piece at 48 c) _ _ r there.1 in
    let parts_are : found.1.0 ≡ r.parts = ap (λ (x : JournalRecord). x.parts) found.1.2 in
    record {
      stood = stands_so s.due (length c - at) (piece at 48 c) there.0;
      fine = found.0;
      parts_there = found.1.1 ∙ ap Good parts_are;
      is = ap (record_with (piece at 48 c)) (sym parts_are) ∙ found.1.2;
    }

there_so : (b : Bool) (x y : Reading) → b ≡ true → x ≡ y → (if b then x else Ends) ≡ y
there_so true x y is same = same
there_so false x y is same = absurd (cc is)

found_so : (at : ℕ) (front : List ℕ) (d : Option ℕ) (p : Parts) (parts : List PagePart) → d ≡ None → p ≡ Good parts → with_front at front d p ≡ Found (record_with front parts)
found_so at front (Some field) p parts fine good = absurd (cc fine)
found_so at front None (Bad place) parts fine good = absurd (cc good)
found_so at front None (Good others) parts fine good =
    let same : others ≡ parts = cc good in
    ap (λ (ps : List PagePart). Found (record_with front ps)) same

pub reads_so : (s : State) (at : ℕ) (c : List ℕ) (r : JournalRecord) → HasRead s at c r → record_at s at c ≡ Found r
unfolding record_at
reads_so s at c r has =
    there_so _ _ (Found r) (stands_by s.due (length c - at) (piece at 48 c) has.stood) (found_so at (piece at 48 c) _ _ r.parts has.fine has.parts_there ∙ ap Found has.is)

pub with_part_by : (at : ℕ) (d : Option ℕ) (part : PagePart) (more : Parts) (parts : List PagePart) → with_part at d part more ≡ Good parts → (d ≡ None) × ((rest : List PagePart) × (more ≡ Good rest) × (part ∷ rest ≡ parts))
with_part_by at (Some field) part more parts is = absurd (cc is)
with_part_by at None part (Bad place) parts is = absurd (cc is)
with_part_by at None part (Good rest) parts is = (refl, (rest, refl, cc is))

-- so many parts were read, and they have 4104 bytes each
pub parts_sizes : (n pages last at : ℕ) (c : List ℕ) (parts : List PagePart) → parts_at n pages last at c ≡ Good parts → (length parts ≡ n) × (parts_size parts ≡ 4104 * n)
parts_sizes zero pages last at c parts is =
    let none : [] ≡ parts = cc is in
    (subst (λ (p : List PagePart). length p ≡ 0) none refl, subst (λ (p : List PagePart). parts_size p ≡ 0) none refl)
parts_sizes (suc n) pages last at c parts is =
    let by = with_part_by at (part_departure pages last (piece at 8 c)) _ _ parts is in
    let less = parts_sizes n pages _ (at + 4104) c by.1.0 by.1.1 in
    (subst (λ (p : List PagePart). length p ≡ suc n) by.1.2 (ap suc less.0), subst (λ (p : List PagePart). parts_size p ≡ 4104 * suc n) by.1.2 (omega (arith, less.1)))

pub size_is : (s : State) (at : ℕ) (c : List ℕ) (r : JournalRecord) → HasRead s at c r → record_size r ≡ 48 + 4104 * number_of (piece at 48 c)
size_is s at c r has = ap (λ (n : ℕ). 48 + n) ((parts_sizes _ s.pages 1 (at + 48) c r.parts has.parts_there).1)
