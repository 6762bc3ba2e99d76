-- The records of a journal that are read one after another.
use Rattle.std.proofs.Common.{◌≡◌, ◌+◌, ◌*◌, ◌-◌, ◌≤◌, ℕ, List, [], ◌∷◌, ◌++◌, map, length, get_or, Bool, true, false, Option, Some, None, refl, sym, ◌∙◌, ap, subst, arith, if◌then◌else◌}
use Rattle.std.proofs.lemmas.List.{map_push, length-map}
use Rattle.pm3_journal.specs.Format.{JournalRecord, record_size, page_in}
use Rattle.pm3_journal.specs.Summaries.{Summary, summary_of}
use Rattle.pm3_journal.specs.Findings.{HasHead, HasParts, HasRecord, HasList, IsFrontAt}
use Rattle.pm3_journal.specs.Offsets.{offset_in, last_offset}
use Rattle.pm3_types.specs.Bytes.{piece}
use Rattle.pm3_journal.specs.Reading.{State, at_start, next, next_seq, Reading, Ends, Broken, Found, Parts, Bad, with_front, parts_at, record_at}
use Rattle.pm3_journal.specs.RecordFront.{number_of, stands, front_departure, record_with}
use Rattle.pm3_journal.specs.Records.{records, Damaged, after, Stand, HasFront}
use Rattle.pm3_journal.proofs.Behind.{count_parts}
use Rattle.pm3_journal.proofs.Breaking.{records_broken}
use Rattle.pm3_journal.proofs.Listing.{front_push, after_push}
use Rattle.pm3_journal.proofs.Locality.{found_within}

not_there : (b : Bool) (x : Reading) → b ≡ false → (if b then x else Ends) ≡ Ends
not_there true x is = absurd (cc is)
not_there false x is = refl

-- the list ends where no record of it stands
pub ends_by : (s : State) (at : ℕ) (bytes : List ℕ) → stands s.due (length bytes - at) (piece at 48 bytes) ≡ false → record_at s at bytes ≡ Ends
unfolding record_at
ends_by s at bytes missing = not_there (stands s.due (length bytes - at) (piece at 48 bytes)) _ missing

there : (b : Bool) (x : Reading) → b ≡ true → (if b then x else Ends) ≡ x
there true x is = refl
there false x is = absurd (cc is)

module _ (s : State) (at : ℕ) (bytes front : List ℕ) (here : IsFrontAt s.due at front bytes) where
  read_there : record_at s at bytes ≡ with_front at front (front_departure s.pages front) (parts_at (number_of front) s.pages 1 (at + 48) bytes)
  unfolding record_at
  read_there =
      let stood_here : stands s.due (length bytes - at) (piece at 48 bytes) ≡ true = ap (stands s.due (length bytes - at)) (sym here.is) ∙ here.stands_there in
      there (stands s.due (length bytes - at) (piece at 48 bytes)) _ stood_here
      ∙ ap (λ (f : List ℕ). with_front at f (front_departure s.pages f) (parts_at (number_of f) s.pages 1 (at + 48) bytes)) (sym here.is)

  pub front_broken : (field : ℕ) → front_departure s.pages front ≡ Some field → record_at s at bytes ≡ Broken (at + field)
  front_broken field damaged = read_there ∙ ap (λ (d : Option ℕ). with_front at front d (parts_at (number_of front) s.pages 1 (at + 48) bytes)) damaged

  pub part_broken : (place : ℕ) → front_departure s.pages front ≡ None → parts_at (number_of front) s.pages 1 (at + 48) bytes ≡ Bad place → record_at s at bytes ≡ Broken place
  part_broken place fine bad =
      read_there ∙ ap (λ (d : Option ℕ). with_front at front d (parts_at (number_of front) s.pages 1 (at + 48) bytes)) fine ∙ ap (λ (p : Parts). with_front at front None p) bad

  pub record_there : (head : Summary) (numbers : List ℕ) (old new : List (Option ℕ)) → front_departure s.pages front ≡ None → (has : HasParts (number_of front) s.pages (at + 48) bytes numbers old new) → head ≡ summary_of (record_with front has.parts) → HasRecord s at bytes head old new
  record_there head numbers old new fine has shown = record {
    r = record_with front has.parts;
    found = read_there ∙ ap (λ (d : Option ℕ). with_front at front d (parts_at (number_of front) s.pages 1 (at + 48) bytes)) fine ∙ ap (λ (p : Parts). with_front at front None p) has.are;
    shown = shown;
    offsets_are = has.offsets_are;
  }

pub last_offset_push : (page : ℕ) (s : State) (at : ℕ) (c : List ℕ) (rs : List JournalRecord) (end : ℕ) (r : JournalRecord) (was : Option ℕ) → Stand s at c rs end → last_offset page at (rs ++ r ∷ []) was ≡ offset_in page (end + 48) r.parts (last_offset page at rs was)
last_offset_push page s at c [] end r was stand = ap (λ (e : ℕ). offset_in page (e + 48) r.parts was) stand
last_offset_push page s at c (first ∷ rs) end r was stand =
    last_offset_push page (next s first) (at + record_size first) c rs end r (offset_in page (at + 48) first.parts was) stand.1

pub list_start : (pages : ℕ) (bytes : List ℕ) (summaries : List Summary) (offsets : List (Option ℕ)) → HasHead pages bytes → ((page : ℕ) → get_or offsets page None ≡ None) → summaries ≡ [] → HasList pages 32 None summaries offsets bytes
list_start pages bytes summaries offsets head blank none = record {
  list = [];
  front = record { head = head.fine; page_count = head.page_count; stand = refl; within = head.there };
  state = refl;
  shown = none;
  offsets_are = blank;
}

module _ (pages end : ℕ) (due : Option ℕ) (summaries : List Summary) (offsets : List (Option ℕ)) (bytes : List ℕ) (has : HasList pages end due summaries offsets bytes) where
  pub list_step : (head : Summary) (offsets_now : List (Option ℕ)) (end_now : ℕ) (due_now : Option ℕ) (heads_now : List Summary) → HasRecord (record { pages = pages; due = due }) end bytes head offsets offsets_now → end_now ≡ end + (48 + 4104 * length head.pages) → due_now ≡ Some (next_seq head.seq) → heads_now ≡ summaries ++ head ∷ [] → HasList pages end_now due_now heads_now offsets_now bytes
  list_step head offsets_now end_now due_now heads_now found end_is due_is summaries_are =
      let found_here : record_at (after (at_start pages) has.list) end bytes ≡ Found found.r = subst (λ (s : State). record_at s end bytes ≡ Found found.r) (sym has.state) found.found in
      let size : end_now ≡ end + record_size found.r = omega (arith, end_is, ap (λ (h : Summary). length h.pages) found.shown, length-map found.r.parts page_in, count_parts found.r.parts) in
      let fits : end + record_size found.r ≤ length bytes = found_within (record { pages = pages; due = due }) end bytes found.r found.found in
      record {
        list = has.list ++ found.r ∷ [];
        front = subst (λ (e : ℕ). HasFront pages (has.list ++ found.r ∷ []) e bytes) (sym size) (front_push pages bytes has.list end found.r has.front found_here fits);
        state = after_push (at_start pages) has.list found.r ∙ ap (λ (s : State). next s found.r) has.state ∙ ap (λ (d : Option ℕ). record { pages = pages; due = d }) (ap (λ (h : Summary). Some (next_seq h.seq)) (sym found.shown) ∙ sym due_is);
        shown = summaries_are ∙ ap (λ (l : List Summary). l ++ head ∷ []) has.shown ∙ ap (λ (h : Summary). map summary_of has.list ++ h ∷ []) found.shown ∙ sym (map_push summary_of has.list found.r);
        offsets_are = λ page.
            found.offsets_are page ∙ ap (offset_in page (end + 48) found.r.parts) (has.offsets_are page) ∙ sym (last_offset_push page (at_start pages) 32 bytes has.list end found.r None has.front.stand);
      }

  pub list_broken : (n place : ℕ) → n ≡ pages → record_at (record { pages = n; due = due }) end bytes ≡ Broken place → records bytes ≡ Damaged place
  list_broken n place n_is broken =
      let s_n : State = record { pages = n; due = due } in
      let state : s_n ≡ after (at_start pages) has.list = ap (λ (m : ℕ). record { pages = m; due = due }) n_is ∙ sym has.state in
      records_broken pages has.list end place bytes has.front (subst (λ (s : State). record_at s end bytes ≡ Broken place) state broken)

-- a list that was read is that of a table and a page count that are the same
pub list_as : (pages n end : ℕ) (due : Option ℕ) (summaries : List Summary) (offsets table : List (Option ℕ)) (bytes : List ℕ) → HasList n end due summaries offsets bytes → pages ≡ n → table ≡ offsets → HasList pages end due summaries table bytes
list_as pages n end due summaries offsets table bytes has count same =
    subst (λ (t : List (Option ℕ)). HasList pages end due summaries t bytes) (sym same) (subst (λ (m : ℕ). HasList m end due summaries offsets bytes) (sym count) has)
