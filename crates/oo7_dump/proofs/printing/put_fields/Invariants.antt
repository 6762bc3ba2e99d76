use Rattle.std.proofs.Common.{◌≡◌, ◌+◌, ◌-◌, ◌++◌, map, slice_index}
use Rattle.std.specs.List.{range_with_len}
use Rattle.pm3_core.specs.declared.naming.TheConstants.{BASE}
use Rattle.pm3_types.specs.Dump.{fields_text}
use Rattle.pm3_types.specs.Layout.{word_in}
use Rattle.oo7_dump.proofs.printing.put_fields.Given as goal

abbrev pub invariant-loop-field : goal.invariant-loop-field
invariant-loop-field l =
    l.text ++ fields_text l.met l.map l.field (map (λ f. slice_index l.image.sheet.words (word_in BASE l.at + 2 + f)) (range_with_len l.field (l.map.count - l.field)))
    ≡ l.initial.text ++ fields_text l.met l.map 0 (map (λ f. slice_index l.image.sheet.words (word_in BASE l.at + 2 + f)) (range_with_len 0 l.map.count))
