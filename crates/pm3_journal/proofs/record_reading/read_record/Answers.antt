use Rattle.std.proofs.Common.{◌+◌, ◌-◌, ℕ, length, Err, sym, ◌∙◌, ap, subst, arith}
use Rattle.pm3_journal.specs.Findings.{HasParts}
use Rattle.pm3_journal.specs.Reading.{Broken, parts_at}
use Rattle.pm3_journal.specs.RecordFront.{number_of, summary_with}
use Rattle.pm3_journal.proofs.Faulting.{err_is, damaged_same}
use Rattle.pm3_journal.proofs.Pieces.{stands_so}
use Rattle.pm3_journal.proofs.Recovering.{front_broken, part_broken, record_there}
use Rattle.pm3_journal.proofs.record_reading.read_record.Goals as goal

pub returns-in-Some-clause-damaged : goal.returns-in-Some-clause-damaged
returns-in-Some-clause-damaged g c offset is bytes told =
    front_broken (record { pages = length c.args.offsets.now; due = c.args.due }) c.args.at bytes c.args.front.now (c.requires.here bytes told) c.in-Some.field (sym c.in-Some.ensures.is) ∙ ap Broken (damaged_same _ _ is)

pub read_parts-requires-clause-within : goal.read_parts-requires-clause-within
read_parts-requires-clause-within g c bytes told =
    let standing = stands_so c.args.due (length bytes - c.args.at) c.args.front.now (c.requires.here bytes told).stands_there in
    omega (arith, standing.whole, c.part_count-count.ensures)

pub returns-in-Err-clause-damaged : goal.returns-in-Err-clause-damaged
returns-in-Err-clause-damaged g c offset is bytes told =
    let bad = c.read_parts.ensures.damaged offset (c.in-Err.is ∙ ap Err (err_is is)) bytes told in
    part_broken (record { pages = length c.args.offsets.now; due = c.args.due }) c.args.at bytes c.args.front.now (c.requires.here bytes told) offset (sym c.in_default.ensures.is)
    (ap (λ (n : ℕ). parts_at n (length c.args.offsets.now) 1 (c.args.at + 48) bytes) (sym c.part_count-count.ensures) ∙ bad)

pub returns-clause-good : goal.returns-clause-good
returns-clause-good g c bytes told =
    let has : HasParts (number_of c.args.front.now) (length c.args.offsets.now) (c.args.at + 48) bytes c.in-Ok.numbers.items c.args.offsets.now c.read_parts.new.offsets = subst (λ (n : ℕ). HasParts n (length c.args.offsets.now) (c.args.at + 48) bytes c.in-Ok.numbers.items c.args.offsets.now c.read_parts.new.offsets) c.part_count-count.ensures (c.in-Ok.ensures.good bytes told) in
    record_there (record { pages = length c.args.offsets.now; due = c.args.due }) c.args.at bytes c.args.front.now (c.requires.here bytes told) _ c.in-Ok.numbers.items c.args.offsets.now c.read_parts.new.offsets (sym c.in_default.ensures.is) has
    (c.decode.ensures ∙ ap (summary_with c.args.front.now) has.numbers_are)
