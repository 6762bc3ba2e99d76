-- How one state of a journal is told from another. Nothing else rests on this.
use Rattle.std.specs.Prelude.{◌≡◌, ℕ, Bool, List, Option, refl}
use Rattle.std.specs.Coded.{Coded, code_by, coded×, coded_ℕ, coded_bool, coded_list, coded_option}
use Rattle.pm3_journal.specs.Format.{PagePart, Image, JournalRecord}
use Rattle.pm3_journal.specs.JournalState.{JournalState}
use Rattle.pm3_journal.specs.Summaries.{Summary}

abbrev pub pair_of : PagePart → ℕ × List ℕ
pair_of (Image page image) = (page, image)

abbrev pub part_by : ℕ × List ℕ → PagePart
part_by pair = Image pair.0 pair.1

abbrev pub part_back : (part : PagePart) → part_by (pair_of part) ≡ part
part_back (Image page image) = refl

abbrev pub part_code : Coded PagePart
part_code = code_by (ℕ × List ℕ) (coded× coded_ℕ (coded_list coded_ℕ)) pair_of part_by part_back

abbrev pub Numbers : Type 0
Numbers = ℕ × (ℕ × (ℕ × (ℕ × (ℕ × ℕ))))

abbrev pub numbers_code : Coded Numbers
numbers_code = coded× coded_ℕ (coded× coded_ℕ (coded× coded_ℕ (coded× coded_ℕ (coded× coded_ℕ coded_ℕ))))

abbrev pub summary_code : Coded Summary
summary_code = code_by (Numbers × List ℕ) (coded× numbers_code (coded_list coded_ℕ))
    (λ s. ((s.seq, (s.next_name, (s.tag, (s.high_page, (s.pins, s.moved))))), s.pages))
    (λ p. record {
      seq = p.0.0;
      next_name = p.0.1.0;
      tag = p.0.1.1.0;
      high_page = p.0.1.1.1.0;
      pins = p.0.1.1.1.1.0;
      moved = p.0.1.1.1.1.1;
      pages = p.1;
    }) (λ _. refl)

abbrev pub record_code : Coded JournalRecord
record_code = code_by (Numbers × List PagePart) (coded× numbers_code (coded_list part_code))
    (λ r. ((r.seq, (r.next_name, (r.tag, (r.high_page, (r.pins, r.moved))))), r.parts))
    (λ p. record {
      seq = p.0.0;
      next_name = p.0.1.0;
      tag = p.0.1.1.0;
      high_page = p.0.1.1.1.0;
      pins = p.0.1.1.1.1.0;
      moved = p.0.1.1.1.1.1;
      parts = p.1;
    }) (λ _. refl)

-- the pages, the summaries, the end of the list, the number due, and whether the gate there is closed
abbrev pub Listed : Type 0
Listed = ℕ × (List Summary × (ℕ × (ℕ × Bool)))

-- the number at which it stopped, whether it is torn, the record that failed, and the moment from which on it keeps
abbrev pub Stopping : Type 0
Stopping = Option ℕ × (Bool × (Option JournalRecord × ℕ))

-- the room, and the images with their offsets
abbrev pub Held : Type 0
Held = Option ℕ × (List (ℕ × List ℕ) × List (Option ℕ))

abbrev pub state_code : {D : Type 0} → Coded D → Coded (JournalState D)
state_code {D} disk_code = code_by (D × (Listed × (Stopping × Held)))
    (coded× disk_code (coded×
    (coded× coded_ℕ (coded× (coded_list summary_code) (coded× coded_ℕ (coded× coded_ℕ coded_bool)))) (coded×
    (coded× (coded_option coded_ℕ) (coded× coded_bool (coded× (coded_option record_code) coded_ℕ)))
    (coded× (coded_option coded_ℕ) (coded× (coded_list (coded× coded_ℕ (coded_list coded_ℕ))) (coded_list (coded_option coded_ℕ)))))))
    (λ j. (
      j.disk,
      (
        (j.pages, (j.summaries, (j.end, (j.next, j.is_closed)))),
        ((j.stopped, (j.is_torn, (j.failed, j.since))), (j.room, (j.images, j.offsets))),
      ),
    ))
    (λ p. record {
      disk = p.0;
      pages = p.1.0.0;
      summaries = p.1.0.1.0;
      end = p.1.0.1.1.0;
      next = p.1.0.1.1.1.0;
      is_closed = p.1.0.1.1.1.1;
      stopped = p.1.1.0.0;
      is_torn = p.1.1.0.1.0;
      failed = p.1.1.0.1.1.0;
      since = p.1.1.0.1.1.1;
      room = p.1.1.1.0;
      images = p.1.1.1.1.0;
      offsets = p.1.1.1.1.1;
    }) (λ _. refl)
