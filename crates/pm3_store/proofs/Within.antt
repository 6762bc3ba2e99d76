-- The pages of a journal's records are pages of the store.
use Rattle.std.proofs.Common.{◌≡◌, ◌⊎◌, inl, inr, ◌+◌, ◌-◌, ◌<◌, ◌≤◌, ℕ, suc, zero, Bool, true, List, [], ◌∷◌, length, take, Option, Some, None, is_some, refl, sym, ◌∙◌, ap, subst, arith, if◌then◌else◌, eqb}
use Rattle.std.specs.Int.{w32, w64, from_le_bytes}
use Rattle.std.proofs.lemmas.Bool.{and_parts, leb-true, eqb-true, cases_Bool}
use Rattle.pm3_types.specs.Bytes.{Number, Zeros, piece, number_at, is_between}
use Rattle.pm3_journal.specs.FileHead.{head_departure, kind, page_count_of}
use Rattle.pm3_journal.specs.Format.{PagePart, JournalRecord, record_size}
use Rattle.pm3_journal.specs.Opening.{image_in, last_image}
use Rattle.pm3_journal.specs.Reading.{State, at_start, next, Reading, Ends, Broken, Found, Good, part_at, parts_at, record_at}
use Rattle.pm3_journal.specs.RecordFront.{number_of, part_departure}
use Rattle.pm3_journal.specs.Records.{Listed, Damaged, Whole, before_list, with_reading, records_from, with_head, records}
use Rattle.pm3_journal.proofs.Departing.{fields_fine}
use Rattle.pm3_journal.proofs.Emptying.{whole_head}
use Rattle.pm3_journal.proofs.Listing.{whole_is}
use Rattle.pm3_journal.proofs.Pieces.{has_read, with_part_by}

-- a page that a record may have
abbrev pub IsWithin : ℕ → ℕ → Type 0
IsWithin page pages = (2 ≤ page) × (page < pages)

part_range : (pages last : ℕ) (field : List ℕ) → part_departure pages last field ≡ None
    → (last + 1 ≤ number_at w32 0 field) × (number_at w32 0 field ≤ pages - 1)
unfolding part_departure is_between
part_range pages last field fine =
    let one = fields_fine (Number 0 w32 (last + 1) (pages - 1)) (Zeros 4 4 ∷ []) field fine in
    let two = and_parts _ _ one.0 in
    let three = and_parts _ _ two.1 in
    (leb-true _ _ three.0, leb-true _ _ three.1)

step_within : (page number pages : ℕ) (image : List ℕ) (was : Option (List ℕ)) → IsWithin number pages → (is_some was ≡ true → IsWithin page pages)
    → is_some (if eqb number page then Some image else was) ≡ true → IsWithin page pages
step_within page number pages image was here before = elim (cases_Bool (eqb number page)) [
  | inl same ↦ λ is. subst (λ (p : ℕ). IsWithin p pages) (eqb-true number page same) here
  | inr other ↦ λ is. before (sym (ap (λ (b : Bool). is_some (if b then Some image else was)) other) ∙ is)
]

parts_within : (page n pages last at : ℕ) (c : List ℕ) (parts : List PagePart) (was : Option (List ℕ)) → parts_at n pages last at c ≡ Good parts → 1 ≤ last
    → (is_some was ≡ true → IsWithin page pages) → is_some (image_in page parts was) ≡ true → IsWithin page pages
parts_within page zero pages last at c parts was is low before there =
    let none : [] ≡ parts = cc is in
    before (subst (λ (p : List PagePart). is_some (image_in page p was) ≡ true) (sym none) there)
parts_within page (suc n) pages last at c parts was is low before there =
    let by = with_part_by at (part_departure pages last (piece at 8 c)) (part_at at c) (parts_at n pages (number_at w32 0 (piece at 8 c)) (at + 4104) c) parts is in
    let range = part_range pages last (piece at 8 c) by.0 in
    let number = number_at w32 0 (piece at 8 c) in
    let image = piece (at + 8) 4096 c in
    let here : IsWithin (number_at w32 0 (piece at 8 c)) pages = (omega (arith, range.0, low), omega (arith, range.0, range.1)) in
    parts_within page n pages (number_at w32 0 (piece at 8 c)) (at + 4104) c by.1.0 (if eqb number page then Some image else was) by.1.1 (omega (arith, range.0))
    (step_within page (number_at w32 0 (piece at 8 c)) pages (piece (at + 8) 4096 c) was here before)
    (subst (λ (p : List PagePart). is_some (image_in page p was) ≡ true) (sym by.1.2) there)

list_by : (r : JournalRecord) (l : Listed) (rs : List JournalRecord) → before_list r l ≡ Whole rs → (rest : List JournalRecord) × (l ≡ Whole rest) × (r ∷ rest ≡ rs)
list_by r (Damaged place) rs is = absurd (cc is)
list_by r (Whole rest) rs is = (rest, refl, whole_is is)

abbrev IsFirst : Reading → (JournalRecord → Listed) → List JournalRecord → Type 0
IsFirst reading behind rs = (r : JournalRecord) × (rest : List JournalRecord) × (reading ≡ Found r) × (behind r ≡ Whole rest) × (r ∷ rest ≡ rs)

reading_by : (reading : Reading) (behind : JournalRecord → Listed) (rs : List JournalRecord) → with_reading reading behind ≡ Whole rs → ([] ≡ rs) ⊎ IsFirst reading behind rs
reading_by Ends behind rs is = inl (whole_is is)
reading_by (Broken place) behind rs is = absurd (cc is)
reading_by (Found r) behind rs is =
    let by = list_by r (behind r) rs is in
    inr (r, by.0, refl, by.1, by.2)

list_within : (page most : ℕ) (s : State) (at : ℕ) (c : List ℕ) (rs : List JournalRecord) (was : Option (List ℕ)) → records_from most s at c ≡ Whole rs
    → (is_some was ≡ true → IsWithin page s.pages) → is_some (last_image page rs was) ≡ true → IsWithin page s.pages
list_within page zero s at c rs was is before there =
    before (subst (λ (l : List JournalRecord). is_some (last_image page l was) ≡ true) (sym (whole_is is)) there)
list_within page (suc most) s at c rs was is before there = elim (reading_by (record_at s at c) (λ r. records_from most (next s r) (at + record_size r) c) rs is) [
  | inl none ↦ before (subst (λ (l : List JournalRecord). is_some (last_image page l was) ≡ true) (sym none) there)
  | inr first ↦ (let r = first.0 in
      let has = has_read s at c first.0 first.2 in
      list_within page most (next s first.0) (at + record_size first.0) c first.1 (image_in page first.0.parts was) first.3
      (parts_within page (number_of (piece at 48 c)) s.pages 1 (at + 48) c first.0.parts was has.parts_there (omega arith) before)
      (subst (λ (l : List JournalRecord). is_some (last_image page l was) ≡ true) (sym first.4) there))
]

list_there : (d : Option ℕ) (list : Listed) (rs : List JournalRecord) → with_head d list ≡ Whole rs → list ≡ Whole rs
list_there None list rs is = is
list_there (Some field) list rs is = absurd (cc is)

-- a page that the records have is one from 2 on, of the store
pub page_within : (bytes : List ℕ) (rs : List JournalRecord) (page : ℕ) → records bytes ≡ Whole rs → is_some (last_image page rs None) ≡ true
    → IsWithin page (page_count_of (take 32 bytes))
unfolding records
page_within bytes rs page is there =
    list_within page (length bytes) (at_start (page_count_of (take 32 bytes))) 32 bytes rs None
    (list_there (head_departure (take 32 bytes)) (records_from (length bytes) (at_start (page_count_of (take 32 bytes))) 32 bytes) rs is) (λ never. absurd (cc never)) there

-- so many pages a journal that has a list may have
pub pages_range : (bytes : List ℕ) (rs : List JournalRecord) → records bytes ≡ Whole rs → (16 ≤ page_count_of (take 32 bytes)) × (page_count_of (take 32 bytes) ≤ 16384)
unfolding head_departure is_between
pages_range bytes rs is =
    let one = fields_fine (Number 0 w64 (from_le_bytes w64 kind) (from_le_bytes w64 kind)) (Number 8 w32 1 1 ∷ Number 12 w32 16 16384 ∷ Zeros 16 16 ∷ []) (take 32 bytes) (whole_head bytes rs is) in
    let two = fields_fine (Number 8 w32 1 1) (Number 12 w32 16 16384 ∷ Zeros 16 16 ∷ []) (take 32 bytes) one.1 in
    let three = fields_fine (Number 12 w32 16 16384) (Zeros 16 16 ∷ []) (take 32 bytes) two.1 in
    let parts = and_parts _ _ three.0 in
    let bounds = and_parts _ _ parts.1 in
    (leb-true _ _ bounds.0, leb-true _ _ bounds.1)
