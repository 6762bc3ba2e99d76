-- Nothing behind a damaged field mends a journal.
use Rattle.std.proofs.Common.{◌≡◌, ◌⊎◌, ⊎_elim, inl, inr, ◌+◌, ◌-◌, ◌≤◌, ℕ, suc, zero, Bool, true, false, if◌then◌else◌, List, [], ◌∷◌, length, take, Option, Some, None, refl, sym, ◌∙◌, ap, subst, arith}
use Rattle.std.proofs.lemmas.List.{take-take}
use Rattle.pm3_types.specs.Bytes.{number_at, piece}
use Rattle.std.specs.Int.{w32}
use Rattle.pm3_journal.specs.Damage.{NothingMends}
use Rattle.pm3_journal.specs.FileHead.{head_departure, page_count_of}
use Rattle.pm3_journal.specs.Format.{PagePart, JournalRecord, record_size}
use Rattle.pm3_journal.specs.Reading.{State, at_start, next, Reading, Ends, Broken, Found, Parts, Bad, Good, part_at, with_part, parts_at, with_front, record_at}
use Rattle.pm3_journal.specs.RecordFront.{front_departure, number_of, part_departure, stands}
use Rattle.pm3_journal.specs.Records.{Listed, Damaged, Whole, before_list, with_reading, records_from, with_head, records, after, Stand, HasFront}
use Rattle.pm3_journal.proofs.Breaking.{head_broken, records_broken}
use Rattle.pm3_journal.proofs.Listing.{front_same}
use Rattle.pm3_journal.proofs.Pieces.{IsStanding, piece_same, stands_by, stands_so}

-- pages that are bad at an offset: a field departs here, or one of the pages behind is bad
bad_by : (at place : ℕ) (d : Option ℕ) (part : PagePart) (more : Parts) → with_part at d part more ≡ Bad place → ((field : ℕ) × (d ≡ Some field) × (at + field ≡ place)) ⊎ ((d ≡ None) × (more ≡ Bad place))
bad_by at place (Some field) part more is = inl (field, refl, cc is)
bad_by at place None part (Bad other) is = inr (refl, cc is)
bad_by at place None part (Good parts) is = absurd (cc is)

bad_behind : (n pages last at place : ℕ) (c : List ℕ) → parts_at n pages last at c ≡ Bad place → at ≤ place
bad_behind zero pages last at place c is = absurd (cc is)
bad_behind (suc n) pages last at place c is = ⊎_elim
    (λ (here : (field : ℕ) × (part_departure pages last (piece at 8 c) ≡ Some field) × (at + field ≡ place)). omega (arith, here.2))
    (λ (later : (part_departure pages last (piece at 8 c) ≡ None) × (parts_at n pages (number_at w32 0 (piece at 8 c)) (at + 4104) c ≡ Bad place)). omega (arith, bad_behind n pages (number_at w32 0 (piece at 8 c)) (at + 4104) place c later.1))
    (bad_by at place (part_departure pages last (piece at 8 c)) (part_at at c) (parts_at n pages (number_at w32 0 (piece at 8 c)) (at + 4104) c) is)

bad_same : (n pages last at place : ℕ) (c others : List ℕ) → take (place + 48) others ≡ take (place + 48) c → parts_at n pages last at c ≡ Bad place → parts_at n pages last at others ≡ Bad place
bad_same zero pages last at place c others same is = absurd (cc is)
bad_same (suc n) pages last at place c others same is = ⊎_elim here (later (bad_same n pages (number_at w32 0 (piece at 8 c)) (at + 4104) place c others same)) (bad_by at place (part_departure pages last (piece at 8 c)) (part_at at c) (parts_at n pages (number_at w32 0 (piece at 8 c)) (at + 4104) c) is)
  where
    field_same : piece at 8 others ≡ piece at 8 c
    field_same = piece_same at 8 (place + 48) others c same (omega (arith, bad_behind (suc n) pages last at place c is))

    here : (field : ℕ) × (part_departure pages last (piece at 8 c) ≡ Some field) × (at + field ≡ place) → parts_at (suc n) pages last at others ≡ Bad place
    here (field, departs, place_is) =
        ap (λ (d : Option ℕ). with_part at d (part_at at others) (parts_at n pages (number_at w32 0 (piece at 8 others)) (at + 4104) others)) (ap (part_departure pages last) field_same ∙ departs) ∙ ap Bad place_is

    later : (parts_at n pages (number_at w32 0 (piece at 8 c)) (at + 4104) c ≡ Bad place → parts_at n pages (number_at w32 0 (piece at 8 c)) (at + 4104) others ≡ Bad place)
        → (part_departure pages last (piece at 8 c) ≡ None) × (parts_at n pages (number_at w32 0 (piece at 8 c)) (at + 4104) c ≡ Bad place) → parts_at (suc n) pages last at others ≡ Bad place
    later deeper (fine, bad) =
        ap (λ (d : Option ℕ). with_part at d (part_at at others) (parts_at n pages (number_at w32 0 (piece at 8 others)) (at + 4104) others)) (ap (part_departure pages last) field_same ∙ fine)
        ∙ ap (λ (m : ℕ). with_part at None (part_at at others) (parts_at n pages m (at + 4104) others)) (ap (number_at w32 0) field_same)
        ∙ ap (with_part at None (part_at at others)) (deeper bad)

-- a record that is broken stands there, and a field of its front or of its pages departs
record IsBroken (s : State) (at place : ℕ) (c : List ℕ) : Type 0 where
  stood : IsStanding s.due (length c - at) (piece at 48 c)
  field : ((field : ℕ) × (front_departure s.pages (piece at 48 c) ≡ Some field) × (at + field ≡ place)) ⊎ ((front_departure s.pages (piece at 48 c) ≡ None) × (parts_at (number_of (piece at 48 c)) s.pages 1 (at + 48) c ≡ Bad place))

stands_there : (b : Bool) (x : Reading) (place : ℕ) → (if b then x else Ends) ≡ Broken place → (b ≡ true) × (x ≡ Broken place)
stands_there true x place is = (refl, is)
stands_there false x place is = absurd (cc is)

field_by : (at place : ℕ) (front : List ℕ) (d : Option ℕ) (p : Parts) → with_front at front d p ≡ Broken place → ((field : ℕ) × (d ≡ Some field) × (at + field ≡ place)) ⊎ ((d ≡ None) × (p ≡ Bad place))
field_by at place front (Some field) p is = inl (field, refl, cc is)
field_by at place front None (Bad other) is = inr (refl, cc is)
field_by at place front None (Good parts) is = absurd (cc is)

is_broken : (s : State) (at place : ℕ) (c : List ℕ) → record_at s at c ≡ Broken place → IsBroken s at place c
unfolding record_at
is_broken s at place c is =
    let there = stands_there (stands s.due (length c - at) (piece at 48 c)) (with_front at (piece at 48 c) (front_departure s.pages (piece at 48 c)) (parts_at (number_of (piece at 48 c)) s.pages 1 (at + 48) c)) place is in
    record {
      stood = stands_so s.due (length c - at) (piece at 48 c) there.0;
      field = field_by at place (piece at 48 c) (front_departure s.pages (piece at 48 c)) (parts_at (number_of (piece at 48 c)) s.pages 1 (at + 48) c) there.1;
    }

broken_behind : (s : State) (at place : ℕ) (c : List ℕ) → IsBroken s at place c → at ≤ place
broken_behind s at place c broken = ⊎_elim
    (λ (here : (field : ℕ) × (front_departure s.pages (piece at 48 c) ≡ Some field) × (at + field ≡ place)). omega (arith, here.2))
    (λ (later : (front_departure s.pages (piece at 48 c) ≡ None) × (parts_at (number_of (piece at 48 c)) s.pages 1 (at + 48) c ≡ Bad place)). omega (arith, bad_behind (number_of (piece at 48 c)) s.pages 1 (at + 48) place c later.1))
    broken.field

chosen : (b : Bool) (x y : Reading) → b ≡ true → x ≡ y → (if b then x else Ends) ≡ y
chosen true x y is same = same
chosen false x y is same = absurd (cc is)

broken_same : (s : State) (at place : ℕ) (c others : List ℕ) → length c ≤ length others → take (place + 48) others ≡ take (place + 48) c → IsBroken s at place c → record_at s at others ≡ Broken place
unfolding record_at
broken_same s at place c others longer same broken =
    chosen (stands s.due (length others - at) (piece at 48 others)) (with_front at (piece at 48 others) (front_departure s.pages (piece at 48 others)) (parts_at (number_of (piece at 48 others)) s.pages 1 (at + 48) others)) (Broken place)
    (stands_by s.due (length others - at) (piece at 48 others) stood) (⊎_elim here later broken.field)
  where
    front : piece at 48 others ≡ piece at 48 c
    front = piece_same at 48 (place + 48) others c same (omega (arith, broken_behind s at place c broken))

    stood : IsStanding s.due (length others - at) (piece at 48 others)
    stood = subst (IsStanding s.due (length others - at)) (sym front) record {
      gate = broken.stood.gate;
      front_there = omega (arith, broken.stood.front_there, longer);
      is_next = broken.stood.is_next;
      whole = omega (arith, broken.stood.whole, longer);
    }

    here : (field : ℕ) × (front_departure s.pages (piece at 48 c) ≡ Some field) × (at + field ≡ place) → with_front at (piece at 48 others) (front_departure s.pages (piece at 48 others)) (parts_at (number_of (piece at 48 others)) s.pages 1 (at + 48) others) ≡ Broken place
    here (field, departs, place_is) =
        ap (λ (d : Option ℕ). with_front at (piece at 48 others) d (parts_at (number_of (piece at 48 others)) s.pages 1 (at + 48) others)) (ap (front_departure s.pages) front ∙ departs) ∙ ap Broken place_is

    later : (front_departure s.pages (piece at 48 c) ≡ None) × (parts_at (number_of (piece at 48 c)) s.pages 1 (at + 48) c ≡ Bad place) → with_front at (piece at 48 others) (front_departure s.pages (piece at 48 others)) (parts_at (number_of (piece at 48 others)) s.pages 1 (at + 48) others) ≡ Broken place
    later (fine, bad) =
        ap (λ (d : Option ℕ). with_front at (piece at 48 others) d (parts_at (number_of (piece at 48 others)) s.pages 1 (at + 48) others)) (ap (front_departure s.pages) front ∙ fine)
        ∙ ap (λ (n : ℕ). with_front at (piece at 48 others) None (parts_at n s.pages 1 (at + 48) others)) (ap number_of front)
        ∙ ap (with_front at (piece at 48 others) None) (bad_same (number_of (piece at 48 c)) s.pages 1 (at + 48) place c others same bad)

-- a damaged list: some records stand, and the next is broken
record IsListBroken (s : State) (at place : ℕ) (c : List ℕ) : Type 0 where
  list : List JournalRecord
  end : ℕ
  stand : Stand s at c list end
  broken : record_at (after s list) end c ≡ Broken place

before_damaged : (r : JournalRecord) (list : Listed) (place : ℕ) → before_list r list ≡ Damaged place → list ≡ Damaged place
before_damaged r (Damaged other) place is = is
before_damaged r (Whole rs) place is = absurd (cc is)

list_damaged : (most : ℕ) (s : State) (at place : ℕ) (c : List ℕ) → records_from most s at c ≡ Damaged place → IsListBroken s at place c
list_damaged zero s at place c is = absurd (cc is)
list_damaged (suc most) s at place c is = by_reading (λ r. list_damaged most (next s r) (at + record_size r) place c) (record_at s at c) refl is
  where
    by_reading : ((r : JournalRecord) → records_from most (next s r) (at + record_size r) c ≡ Damaged place → IsListBroken (next s r) (at + record_size r) place c) → (reading : Reading) → record_at s at c ≡ reading → with_reading reading (λ r. records_from most (next s r) (at + record_size r) c) ≡ Damaged place → IsListBroken s at place c
    by_reading deeper Ends here damaged = absurd (cc damaged)
    by_reading deeper (Broken other) here damaged =
        let same : other ≡ place = cc damaged in
        record { list = []; end = at; stand = refl; broken = here ∙ ap Broken same }
    by_reading deeper (Found r) here damaged =
        let behind = deeper r (before_damaged r (records_from most (next s r) (at + record_size r) c) place damaged) in
        record { list = r ∷ behind.list; end = behind.end; stand = (here, behind.stand); broken = behind.broken }

head_or_list : (d : Option ℕ) (list : Listed) (place : ℕ) → with_head d list ≡ Damaged place → (d ≡ Some place) ⊎ ((d ≡ None) × (list ≡ Damaged place))
head_or_list (Some field) list place is = inl (ap Some (cc is))
head_or_list None list place is = inr (refl, is)

damaged_by : (c : List ℕ) (place : ℕ) → records c ≡ Damaged place → (head_departure (take 32 c) ≡ Some place) ⊎ ((head_departure (take 32 c) ≡ None) × (records_from (length c) (at_start (page_count_of (take 32 c))) 32 c ≡ Damaged place))
unfolding records
damaged_by c place is = head_or_list (head_departure (take 32 c)) (records_from (length c) (at_start (page_count_of (take 32 c))) 32 c) place is

pub nothing_mends : NothingMends
nothing_mends c others place damaged longer same = ⊎_elim head list (damaged_by c place damaged)
  where
    head_same : take 32 others ≡ take 32 c
    head_same = sym (take-take 32 (place + 48) others (omega arith)) ∙ ap (take 32) same ∙ take-take 32 (place + 48) c (omega arith)

    head : head_departure (take 32 c) ≡ Some place → records others ≡ Damaged place
    head departs = head_broken others place (ap head_departure head_same ∙ departs)

    list : (head_departure (take 32 c) ≡ None) × (records_from (length c) (at_start (page_count_of (take 32 c))) 32 c ≡ Damaged place) → records others ≡ Damaged place
    list (fine, is) =
        let pages : ℕ = page_count_of (take 32 c) in
        let found = list_damaged (length c) (at_start (page_count_of (take 32 c))) 32 place c is in
        let broken = is_broken (after (at_start (page_count_of (take 32 c))) found.list) found.end place c found.broken in
        let low : found.end ≤ place = broken_behind (after (at_start (page_count_of (take 32 c))) found.list) found.end place c broken in
        let within : found.end ≤ length c = omega (arith, broken.stood.front_there) in
        let front : HasFront (page_count_of (take 32 c)) found.list found.end c = record { head = fine; page_count = refl; stand = found.stand; within = within } in
        let same_end : take found.end others ≡ take found.end c = sym (take-take found.end (place + 48) others (omega (arith, low))) ∙ ap (take found.end) same ∙ take-take found.end (place + 48) c (omega (arith, low)) in
        records_broken (page_count_of (take 32 c)) found.list found.end place others
        (front_same (page_count_of (take 32 c)) found.list found.end others c same_end (omega (arith, within, longer)) front)
        (broken_same (after (at_start (page_count_of (take 32 c))) found.list) found.end place c others longer same broken)
