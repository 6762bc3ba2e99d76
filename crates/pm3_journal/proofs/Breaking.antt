-- Where a journal is damaged.
use Rattle.std.proofs.Common.{◌≡◌, ◌+◌, ◌<◌, ℕ, suc, zero, List, [], ◌∷◌, length, take, Option, Some, sym, ◌∙◌, ap, arith, subst}
use Rattle.pm3_journal.specs.Format.{JournalRecord, record_size}
use Rattle.pm3_journal.specs.FileHead.{head_departure, page_count_of}
use Rattle.pm3_journal.specs.Reading.{State, at_start, next, Reading, Broken, record_at}
use Rattle.pm3_journal.specs.Records.{Damaged, before_list, with_reading, records_from, with_head, records, after, Stand, HasFront}
use Rattle.pm3_journal.proofs.Listing.{stand_length}

broken_from : (most : ℕ) (s : State) (at : ℕ) (c : List ℕ) (rs : List JournalRecord) (end place : ℕ) → length rs < most → Stand s at c rs end → record_at (after s rs) end c ≡ Broken place → records_from most s at c ≡ Damaged place
broken_from zero s at c rs end place few stand broken = absurd (omega arith)
broken_from (suc most) s at c [] end place few stand broken =
    let here : record_at s at c ≡ Broken place = subst (λ (e : ℕ). record_at s e c ≡ Broken place) (sym stand) broken in
    ap (λ (reading : Reading). with_reading reading (λ r. records_from most (next s r) (at + record_size r) c)) here
broken_from (suc most) s at c (r ∷ rs) end place few stand broken =
    let rest = broken_from most (next s r) (at + record_size r) c rs end place (omega arith) stand.1 broken in
    ap (λ (reading : Reading). with_reading reading (λ r. records_from most (next s r) (at + record_size r) c)) stand.0 ∙ ap (before_list r) rest

pub records_broken : (pages : ℕ) (rs : List JournalRecord) (end place : ℕ) (c : List ℕ) → HasFront pages rs end c → record_at (after (at_start pages) rs) end c ≡ Broken place → records c ≡ Damaged place
unfolding records
records_broken pages rs end place c front broken =
    let few : length rs < length c = omega (arith, stand_length (at_start pages) 32 c rs end front.stand, front.within) in
    ap (λ (d : Option ℕ). with_head d (records_from (length c) (at_start (page_count_of (take 32 c))) 32 c)) front.head
    ∙ ap (λ (p : ℕ). records_from (length c) (at_start p) 32 c) front.page_count
    ∙ broken_from (length c) (at_start pages) 32 c rs end place few front.stand broken

pub head_broken : (c : List ℕ) (field : ℕ) → head_departure (take 32 c) ≡ Some field → records c ≡ Damaged field
unfolding records
head_broken c field damaged = ap (λ (d : Option ℕ). with_head d (records_from (length c) (at_start (page_count_of (take 32 c))) 32 c)) damaged
