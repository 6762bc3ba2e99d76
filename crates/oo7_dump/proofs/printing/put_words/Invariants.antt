use Rattle.std.proofs.Common.{◌≡◌, ◌+◌, ◌*◌, ◌/◌, ◌%◌, ◌++◌, slice_index}
use Rattle.std.specs.List.{flat_map}
use Rattle.pm3_core.specs.declared.naming.TheConstants.{BASE}
use Rattle.pm3_types.specs.Dump.{byte_text}
use Rattle.pm3_types.specs.Layout.{word_in}
use Rattle.pm3_types.specs.Shown.{byte_in, list_of}
use Rattle.oo7_dump.proofs.printing.put_words.Given as goal

abbrev pub invariant-loop-place : goal.invariant-loop-place
invariant-loop-place l =
    l.text ≡ l.initial.text ++ flat_map byte_text (list_of (8 * l.place) (λ k. byte_in (slice_index l.image.sheet.words (word_in BASE l.at + 2 + l.from + k / 8)) (k % 8)))
