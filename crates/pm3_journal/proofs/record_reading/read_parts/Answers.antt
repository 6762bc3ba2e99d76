use Rattle.std.proofs.Common.{◌≡◌, ◌+◌, ◌*◌, ◌^◌, ◌<◌, ◌≤◌, ℕ, length, Some, None, All, refl, sym, ◌∙◌, ap, subst, arith, length-set}
use Rattle.std.proofs.lemmas.List.Elements.{All-push}
use Rattle.std.specs.Int.{w32}
use Rattle.pm3_disk.proofs.OnlyReading.{reads_on}
use Rattle.pm3_types.specs.Bytes.{number_at, piece}
use Rattle.pm3_journal.specs.Reading.{Bad}
use Rattle.pm3_journal.specs.RecordFront.{part_departure}
use Rattle.pm3_journal.proofs.Faulting.{damaged_same}
use Rattle.pm3_journal.proofs.Noting.{low_set, noted_more, parts_bad, parts_step, parts_end}
use Rattle.pm3_journal.proofs.record_reading.read_parts.Goals as goal

pub returns-in-Some-clause-damaged : goal.returns-in-Some-clause-damaged
returns-in-Some-clause-damaged g c offset is bytes told =
    let here = c.in-Ok-read.ensures.piece bytes (c.loop-i.invariant.reads.same ∙ told) in
    let damaged : part_departure (length c.args.offsets.now) c.loop-i.last (piece (c.args.at + 4104 * c.loop-i.i) 8 bytes) ≡ Some c.in-Some.offset = ap (part_departure (length c.args.offsets.now) c.loop-i.last) (sym here) ∙ sym c.in-Some.ensures.is in
    parts_bad _ _ _ _ _ (c.args.at + 4104 * c.loop-i.i) bytes _ _ _ (c.loop-i.invariant.so_far bytes told) refl c.in-Some.offset c.loop-i-test.true damaged ∙ ap Bad (damaged_same _ _ is)

pub loop-i-preserved : goal.loop-i-preserved
loop-i-preserved g c =
    let below = c.in_default-departing_part.ensures.below refl in
    let above = c.in_default-departing_part.ensures.above refl in
    let number = c.u32_at-last.ensures.number in
    let within : c.u32_at-last.result < length c.loop-i.offsets = omega (arith, below, number, c.loop-i.invariant.size) in
    let low : c.u32_at-last.result < length c.args.offsets.now = omega (arith, below, number) in
    let high : 2 ≤ c.u32_at-last.result = omega (arith, above, number, c.loop-i.invariant.least) in
    let fits : c.args.at + 4104 * c.loop-i.i + 8 + 4096 < 2 ^ 64 = omega (arith, c.requires.small, c.loop-i-test.true) in
    let same = length-set c.loop-i.offsets c.u32_at-last.result (Some (c.args.at + 4104 * c.loop-i.i + 8)) in
    record {
      window = c.in-Ok-read.ensures.window;
      reads = reads_on c.loop-i.invariant.reads c.read.ensures.reads;
      honest = c.in-Ok-read.ensures.cause.calm ∙ c.loop-i.invariant.honest;
      size = same ∙ c.loop-i.invariant.size;
      table = record {
        least = omega (arith, same, c.loop-i.invariant.table.least);
        most = omega (arith, same, c.loop-i.invariant.table.most);
        low = low_set c.loop-i.offsets c.u32_at-last.result (c.args.at + 4104 * c.loop-i.i + 8) within fits c.loop-i.invariant.table.low;
      };
      room = omega (arith, c.add.ensures.capacity, c.loop-i.invariant.room);
      len = c.add.ensures.len ∙ ap (λ (n : ℕ). n + 1) c.loop-i.invariant.len;
      least = omega (arith, high);
      below = low;
      pages = subst (All (λ page. page < length c.args.offsets.now)) (sym c.add.ensures.items) (All-push (λ page. page < length c.args.offsets.now) _ c.u32_at-last.result c.loop-i.invariant.pages low);
      above = subst (All (λ page. 2 ≤ page)) (sym c.add.ensures.items) (All-push (λ page. 2 ≤ page) _ c.u32_at-last.result c.loop-i.invariant.above high);
      noted = noted_more c.loop-i.numbers.items c.add.new.numbers.items c.args.offsets.now c.loop-i.offsets c.u32_at-last.result (c.args.at + 4104 * c.loop-i.i + 8) within c.loop-i.invariant.noted c.add.ensures.items;
      so_far = λ bytes told.
          let here = c.in-Ok-read.ensures.piece bytes (c.loop-i.invariant.reads.same ∙ told) in
          let fine : part_departure (length c.args.offsets.now) c.loop-i.last (piece (c.args.at + 4104 * c.loop-i.i) 8 bytes) ≡ None = ap (part_departure (length c.args.offsets.now) c.loop-i.last) (sym here) ∙ sym c.in_default-departing_part.ensures.is in
          parts_step _ _ _ _ _ (c.args.at + 4104 * c.loop-i.i) bytes _ _ _ (c.loop-i.invariant.so_far bytes told) refl c.u32_at-last.result _ c.loop-i-test.true fine (number ∙ ap (number_at w32 0) here) within c.add.ensures.items;
    }

pub returns-clause-good : goal.returns-clause-good
returns-clause-good g c bytes told = parts_end _ _ _ _ _ (c.args.at + 4104 * c.loop-i.i) bytes _ _ _ (c.loop-i.invariant.so_far bytes told) refl c.loop-i-test.false
