use Rattle.std.proofs.Common.{◌≡◌, ◌+◌, ◌*◌, ◌≤◌, ◌++◌, ◌∷◌, [], List, ℕ, length, Some, Err, refl, sym, ◌∙◌, ap, subst, arith, rules}
use Rattle.std.proofs.lemmas.List.{length_push}
use Rattle.pm3_disk.proofs.OnlyReading.{no_read, reads_on}
use Rattle.pm3_journal.specs.Findings.{HasRecord}
use Rattle.pm3_journal.specs.Reading.{next_seq}
use Rattle.pm3_journal.specs.RecordFront.{number_of}
use Rattle.pm3_journal.specs.Summaries.{Summary}
use Rattle.pm3_journal.proofs.Faulting.{err_is}
use Rattle.pm3_journal.proofs.Noting.{held_more, held_none}
use Rattle.pm3_journal.proofs.Pieces.{short_ends}
use Rattle.pm3_journal.proofs.Recovering.{ends_by, list_broken, list_start, list_step}
use Rattle.pm3_journal.proofs.list_reading.read_list.Goals as goal

pub returns-in-Ok-None-clause-ends : goal.returns-in-Ok-None-clause-ends
returns-in-Ok-None-clause-ends g c bytes told =
    let none = rw c.in-Ok-None.field-0-is at c.in-Ok-None.ensures.none in
    ends_by (record { pages = length c.args.offsets.now; due = c.loop-end.due }) c.loop-end.end bytes (none bytes (c.loop-end.invariant.reads.same ∙ told))

pub returns-in-Ok-None-clause-reads : goal.returns-in-Ok-None-clause-reads
returns-in-Ok-None-clause-reads g c = reads_on c.loop-end.invariant.reads c.next_front.ensures.reads

pub returns-in-Err-clause-reads : goal.returns-in-Err-clause-reads
returns-in-Err-clause-reads g c = reads_on c.loop-end.invariant.reads c.next_front.ensures.reads

pub returns-in-Err-read_record-clause-damaged : goal.returns-in-Err-read_record-clause-damaged
returns-in-Err-read_record-clause-damaged g c offset is bytes told =
    let told_then = c.next_front.ensures.reads.same ∙ (c.loop-end.invariant.reads.same ∙ told) in
    list_broken _ _ _ _ _ bytes (c.loop-end.invariant.so_far bytes told) _ offset c.loop-end.invariant.size (c.read_record.ensures.damaged offset (c.in-Err-read_record.is ∙ ap Err (err_is is)) bytes told_then)

pub returns-in-Err-read_record-clause-reads : goal.returns-in-Err-read_record-clause-reads
returns-in-Err-read_record-clause-reads g c = reads_on (reads_on c.loop-end.invariant.reads c.next_front.ensures.reads) c.read_record.ensures.reads

pub loop-end-init : goal.loop-end-init
loop-end-init g c = record {
  window = c.requires.window;
  reads = no_read c.args.disk.now;
  honest = refl;
  size = refl;
  table = c.requires.table;
  within = c.requires.within;
  pages = c.in-Ok.ensures.1;
  first = λ none. refl;
  positive = tt;
  held = held_none c.in-Ok.entries.summaries c.args.offsets.now c.in-Ok.ensures.0 c.requires.blank;
  so_far = λ bytes told. list_start (length c.args.offsets.now) bytes c.in-Ok.entries.summaries c.args.offsets.now (c.requires.head bytes told) c.requires.blank c.in-Ok.ensures.0;
}

pub loop-end-preserved : goal.loop-end-preserved
loop-end-preserved g c =
    let count : c.len.result ≡ length c.in-Ok-read_record.summary.pages = search rules in
    let number = c.in-Ok-read_record.ensures.number in
    let fits : c.loop-end.end + 48 + 4104 * number_of c.in-Ok-Some.front ≤ c.args.len = search rules in
    let seq : c.successor.result ≡ next_seq c.in-Ok-read_record.summary.seq = search rules in
    let pushed = c.add.ensures.summaries ∙ ap (λ (l : List Summary). l ++ c.in-Ok-read_record.summary ∷ []) c.reserve.ensures.same in
    record {
      window = c.in-Ok-read_record.ensures.window;
      reads = reads_on (reads_on c.loop-end.invariant.reads c.next_front.ensures.reads) c.read_record.ensures.reads;
      honest = c.in-Ok-read_record.ensures.cause ∙ c.in-Ok-Some.ensures.cause.calm ∙ c.loop-end.invariant.honest;
      size = c.read_record.ensures.size ∙ c.loop-end.invariant.size;
      table = c.read_record.ensures.table;
      within = omega (arith, count, fits, number);
      pages = c.add.ensures.pages ∙ c.reserve.ensures.pages ∙ c.loop-end.invariant.pages;
      first = λ none. absurd (omega (arith, ap length (sym none ∙ c.add.ensures.summaries), length_push c.reserve.new.self.summaries c.in-Ok-read_record.summary));
      positive = c.successor.ensures.positive;
      held = held_more c.loop-end.entries.summaries c.add.new.self.summaries c.in-Ok-read_record.summary c.loop-end.offsets c.read_record.new.offsets c.loop-end.invariant.held c.in-Ok-read_record.ensures.noted c.in-Ok-read_record.ensures.above pushed;
      so_far = λ bytes told.
          let found = c.in-Ok-read_record.ensures.good bytes (c.next_front.ensures.reads.same ∙ (c.loop-end.invariant.reads.same ∙ told)) in
          let found_here = subst (λ (n : ℕ). HasRecord (record { pages = n; due = c.loop-end.due }) c.loop-end.end bytes c.in-Ok-read_record.summary c.loop-end.offsets c.read_record.new.offsets) c.loop-end.invariant.size found in
          list_step _ _ _ _ _ bytes (c.loop-end.invariant.so_far bytes told) c.in-Ok-read_record.summary c.read_record.new.offsets _ _ _ found_here (ap (λ (n : ℕ). c.loop-end.end + (48 + 4104 * n)) count) (ap Some seq) pushed;
    }

pub returns-clause-ends : goal.returns-clause-ends
returns-clause-ends g c bytes told =
    let here = c.requires.len bytes told in
    let past = c.loop-end-test.false in
    short_ends (record { pages = length c.args.offsets.now; due = c.loop-end.due }) c.loop-end.end bytes (omega (arith, here, past))
