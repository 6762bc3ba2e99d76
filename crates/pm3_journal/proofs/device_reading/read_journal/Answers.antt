use Rattle.std.proofs.Common.{◌≡◌, ℕ, List, ◌<◌, ◌^◌, length, get_or, Option, None, Err, sym, ◌∙◌, ap, subst, rules}
use Rattle.std.proofs.lemmas.List.{length-replicate}
use Rattle.pm3_disk.proofs.OnlyReading.{reads_on}
use Rattle.pm3_journal.specs.Offsets.{AreHeld, AreLow, has_offset, images_at}
use Rattle.pm3_journal.specs.Reading.{Ends, record_at}
use Rattle.pm3_journal.proofs.Breaking.{head_broken}
use Rattle.pm3_journal.proofs.Faulting.{err_is}
use Rattle.pm3_journal.proofs.Noting.{whole_table}
use Rattle.pm3_journal.proofs.Recovering.{list_as}
use Rattle.pm3_journal.proofs.Picturing.{no_offset, offsets_within}
use Rattle.pm3_journal.proofs.device_reading.read_journal.Goals as goal

pub returns-in-Err-clause-damaged : goal.returns-in-Err-clause-damaged
returns-in-Err-clause-damaged g c offset is bytes told = head_broken bytes offset (c.read_head.ensures.damaged offset (c.in-Err.is ∙ ap Err (err_is is)) bytes told)

pub returns-in-Err-read_list-clause-reads : goal.returns-in-Err-read_list-clause-reads
returns-in-Err-read_list-clause-reads g c = reads_on c.read_head.ensures.reads c.read_list.ensures.reads

pub returns-in_default-gate_is_closed-clause-reads : goal.returns-in_default-gate_is_closed-clause-reads
returns-in_default-gate_is_closed-clause-reads g c = reads_on (reads_on c.read_head.ensures.reads c.read_list.ensures.reads) c.gate_is_closed.ensures.reads

pub read_images-requires-clause-within : goal.read_images-requires-clause-within
read_images-requires-clause-within g c bytes told page place is =
    let size : length c.read_list.new.offsets ≡ c.in-Ok-blank_table.offsets.len = search rules in
    let table = c.deref.ensures.value ∙ whole_table c.in-Ok-blank_table.offsets.len c.read_list.new.offsets c.in-Ok-blank_table.offsets.items size in
    let told_then = sym (c.gate_is_closed.ensures.reads.same ∙ c.read_list.ensures.reads.same) ∙ told in
    offsets_within (length c.deref_mut.result.now) _ _ _ c.read_list.new.offsets bytes (c.in-Ok-read_list.ensures.good bytes told_then) page place (ap (λ (t : List (Option ℕ)). get_or t page None) (sym table) ∙ is)

pub returns-in-Err-read_images-clause-reads : goal.returns-in-Err-read_images-clause-reads
returns-in-Err-read_images-clause-reads g c = reads_on (reads_on (reads_on c.read_head.ensures.reads c.read_list.ensures.reads) c.gate_is_closed.ensures.reads) c.read_images.ensures.reads

pub returns-clause-reads : goal.returns-clause-reads
returns-clause-reads g c = reads_on (reads_on (reads_on c.read_head.ensures.reads c.read_list.ensures.reads) c.gate_is_closed.ensures.reads) c.read_images.ensures.reads

pub read_list-requires-clause-head : goal.read_list-requires-clause-head
read_list-requires-clause-head g c bytes told =
    let head = c.in-Ok-read_head.ensures.head bytes (sym c.read_head.ensures.reads.same ∙ told) in
    let count : c.in-Ok-read_head.pages ≡ length c.deref_mut.result.now = sym (ap length (c.deref_mut.ensures.value ∙ c.in-Ok-blank_table.ensures) ∙ length-replicate c.in-Ok-read_head.pages no_offset) in
    record { fine = head.fine; page_count = head.page_count ∙ count; there = head.there }

pub returns-clause-found : goal.returns-clause-found
returns-clause-found g c bytes told =
    let size : length c.read_list.new.offsets ≡ c.in-Ok-blank_table.offsets.len = search rules in
    let table = whole_table c.in-Ok-blank_table.offsets.len c.read_list.new.offsets c.in-Ok-blank_table.offsets.items size in
    let count : c.in-Ok-read_head.pages ≡ length c.deref_mut.result.now = sym (ap length (c.deref_mut.ensures.value ∙ c.in-Ok-blank_table.ensures) ∙ length-replicate c.in-Ok-read_head.pages no_offset) in
    let told_list = c.read_head.ensures.reads.same ∙ told in
    let told_gate = c.read_list.ensures.reads.same ∙ told_list in
    let told_images = c.gate_is_closed.ensures.reads.same ∙ told_gate in
    record {
      list = list_as c.in-Ok-read_head.pages _ _ _ _ _ _ bytes (c.in-Ok-read_list.ensures.good bytes told_list) count table;
      ends = subst (λ (n : ℕ). record_at (record { pages = n; due = c.in-Ok-read_list.list.due }) c.in-Ok-read_list.list.end bytes ≡ Ends) (sym count) (c.in-Ok-read_list.ensures.ends bytes told_list);
      gate = c.in-Ok-gate_is_closed.ensures.gate bytes told_gate;
      images = c.in-Ok-read_images.ensures.images bytes told_images ∙ ap (λ (t : List (Option ℕ)). images_at 0 t bytes) c.deref.ensures.value;
    }

pub returns-clause-sound : goal.returns-clause-sound
returns-clause-sound g c =
    let size : length c.read_list.new.offsets ≡ c.in-Ok-blank_table.offsets.len = search rules in
    let table = whole_table c.in-Ok-blank_table.offsets.len c.read_list.new.offsets c.in-Ok-blank_table.offsets.items size in
    let count : c.in-Ok-read_head.pages ≡ length c.deref_mut.result.now = sym (ap length (c.deref_mut.ensures.value ∙ c.in-Ok-blank_table.ensures) ∙ length-replicate c.in-Ok-read_head.pages no_offset) in
    let short : c.first_number-next.result < 2 ^ 64 = search rules in
    record {
      due = c.first_number-next.ensures.due;
      positive = c.first_number-next.ensures.positive;
      short = short;
      first = λ none. c.first_number-next.ensures.first (c.in-Ok-read_list.ensures.first none);
      least = c.in-Ok-read_head.ensures.range.0;
      most = c.in-Ok-read_head.ensures.range.1;
      table = c.in-Ok-read_list.ensures.pages ∙ sym count;
      low = subst AreLow (sym table) c.read_list.ensures.table.low;
      held = subst (AreHeld c.in-Ok-read_list.list.entries.summaries) (sym table) c.in-Ok-read_list.ensures.held;
      images = λ page. c.in-Ok-read_images.ensures.has page ∙ ap (λ (t : List (Option ℕ)). has_offset (get_or t page None)) c.deref.ensures.value;
    }
