-- The list of records, as it grows at its end.
use Rattle.std.proofs.Common.{◌≡◌, ◌+◌, ◌<◌, ◌≤◌, ℕ, suc, zero, List, [], ◌∷◌, ◌++◌, length, take, refl, sym, ◌∙◌, ap, arith, subst}
use Rattle.std.proofs.lemmas.List.{take-take}
use Rattle.pm3_journal.specs.Format.{JournalRecord, record_size}
use Rattle.pm3_journal.specs.FileHead.{head_departure, page_count_of}
use Rattle.pm3_journal.specs.Reading.{State, at_start, next, Reading, Ends, Found, record_at}
use Rattle.pm3_journal.specs.Records.{Whole, before_list, with_reading, records_from, with_head, records, after, Stand, HasFront}
use Rattle.pm3_journal.proofs.Locality.{found_same}

-- each record has a byte at least
pub stand_length : (s : State) (at : ℕ) (c : List ℕ) (rs : List JournalRecord) (end : ℕ) → Stand s at c rs end → at + length rs ≤ end
stand_length s at c [] end stand = omega (arith, stand)
stand_length s at c (r ∷ rs) end stand = omega (arith, stand_length (next s r) (at + record_size r) c rs end stand.1)

pub stand_same : (s : State) (at : ℕ) (c old : List ℕ) (rs : List JournalRecord) (end : ℕ) → take end c ≡ take end old → end ≤ length c → Stand s at old rs end → Stand s at c rs end
stand_same s at c old [] end same within stand = stand
stand_same s at c old (r ∷ rs) end same within stand =
    let fits : at + record_size r ≤ end = omega (arith, stand_length (next s r) (at + record_size r) old rs end stand.1) in
    (found_same s at end c old r same within fits stand.0, stand_same (next s r) (at + record_size r) c old rs end same within stand.1)

pub stand_push : (s : State) (at : ℕ) (c : List ℕ) (rs : List JournalRecord) (end : ℕ) (r : JournalRecord) → Stand s at c rs end → record_at (after s rs) end c ≡ Found r → Stand s at c (rs ++ r ∷ []) (end + record_size r)
stand_push s at c [] end r stand found =
    let here : record_at s at c ≡ Found r = subst (λ (e : ℕ). record_at s e c ≡ Found r) (sym stand) found in
    let behind : at + record_size r ≡ end + record_size r = ap (λ (e : ℕ). e + record_size r) stand in
    (here, behind)
stand_push s at c (first ∷ rs) end r stand found = (stand.0, stand_push (next s first) (at + record_size first) c rs end r stand.1 found)

pub after_push : (s : State) (rs : List JournalRecord) (r : JournalRecord) → after s (rs ++ r ∷ []) ≡ next (after s rs) r
after_push s [] r = refl
after_push s (first ∷ rs) r = after_push (next s first) rs r

pub pages_after : (s : State) (rs : List JournalRecord) → (after s rs).pages ≡ s.pages
pages_after s [] = refl
pages_after s (r ∷ rs) = pages_after (next s r) rs

pub front_same : (pages : ℕ) (rs : List JournalRecord) (end : ℕ) (c old : List ℕ) → take end c ≡ take end old → end ≤ length c → HasFront pages rs end old → HasFront pages rs end c
front_same pages rs end c old same within front =
    let long : 32 ≤ end = omega (arith, stand_length (at_start pages) 32 old rs end front.stand) in
    let head : take 32 old ≡ take 32 c = sym (take-take 32 end old long) ∙ ap (take 32) (sym same) ∙ take-take 32 end c long in
    record {
      head = ap head_departure (sym head) ∙ front.head;
      page_count = ap page_count_of (sym head) ∙ front.page_count;
      stand = stand_same (at_start pages) 32 c old rs end same within front.stand;
      within = within;
    }

list_from : (most : ℕ) (s : State) (at : ℕ) (c : List ℕ) (rs : List JournalRecord) (end : ℕ) → length rs < most → Stand s at c rs end → record_at (after s rs) end c ≡ Ends → records_from most s at c ≡ Whole rs
list_from zero s at c rs end few stand ends = absurd (omega arith)
list_from (suc most) s at c [] end few stand ends =
    let here : record_at s at c ≡ Ends = subst (λ (e : ℕ). record_at s e c ≡ Ends) (sym stand) ends in
    ap (λ (reading : Reading). with_reading reading (λ r. records_from most (next s r) (at + record_size r) c)) here
list_from (suc most) s at c (r ∷ rs) end few stand ends =
    let rest = list_from most (next s r) (at + record_size r) c rs end (omega arith) stand.1 ends in
    ap (λ (reading : Reading). with_reading reading (λ r. records_from most (next s r) (at + record_size r) c)) stand.0 ∙ ap (before_list r) rest

-- the records up to where the list ends are all
pub records_are : (pages : ℕ) (rs : List JournalRecord) (end : ℕ) (c : List ℕ) → HasFront pages rs end c → record_at (after (at_start pages) rs) end c ≡ Ends → records c ≡ Whole rs
unfolding records
records_are pages rs end c front ends =
    let few : length rs < length c = omega (arith, stand_length (at_start pages) 32 c rs end front.stand, front.within) in
    ap (λ (d : _). with_head d (records_from (length c) (at_start (page_count_of (take 32 c))) 32 c)) front.head
    ∙ ap (λ (p : ℕ). records_from (length c) (at_start p) 32 c) front.page_count
    ∙ list_from (length c) (at_start pages) 32 c rs end few front.stand ends

pub front_push : (pages : ℕ) (c : List ℕ) (rs : List JournalRecord) (end : ℕ) (r : JournalRecord) → HasFront pages rs end c → record_at (after (at_start pages) rs) end c ≡ Found r → end + record_size r ≤ length c → HasFront pages (rs ++ r ∷ []) (end + record_size r) c
front_push pages c rs end r front found within = record {
  head = front.head;
  page_count = front.page_count;
  stand = stand_push (at_start pages) 32 c rs end r front.stand found;
  within = within;
}

pub whole_is : {a b : List JournalRecord} → Whole a ≡ Whole b → a ≡ b
whole_is same = cc same
