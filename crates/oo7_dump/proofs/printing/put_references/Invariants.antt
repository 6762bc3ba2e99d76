use Rattle.std.proofs.Common.{◌≡◌, ◌+◌, ◌++◌, slice_index}
use Rattle.std.specs.Prelude.{codes}
use Rattle.std.specs.List.{flat_map}
use Rattle.pm3_core.specs.declared.naming.TheConstants.{BASE}
use Rattle.pm3_types.specs.Dump.{name_text}
use Rattle.pm3_types.specs.Layout.{word_in}
use Rattle.pm3_types.specs.Shown.{list_of}
use Rattle.oo7_dump.proofs.printing.put_references.Given as goal

abbrev pub invariant-loop-place : goal.invariant-loop-place
invariant-loop-place l =
    l.text ≡ l.initial.text ++ flat_map (λ n. codes " @" ++ name_text l.met n) (list_of l.place (λ k. slice_index l.image.sheet.words (word_in BASE l.at + 2 + l.from + k)))
