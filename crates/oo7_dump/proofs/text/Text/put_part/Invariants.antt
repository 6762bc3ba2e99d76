use Rattle.std.proofs.Common.{◌≡◌, ◌++◌}
use Rattle.std.specs.List.{flat_map}
use Rattle.pm3_types.specs.Dump.{byte_text}
use Rattle.pm3_types.specs.Shown.{byte_in, list_of}
use Rattle.oo7_dump.proofs.text.Text.put_part.Given as goal

abbrev pub invariant-loop-place : goal.invariant-loop-place
invariant-loop-place l = l.self ≡ l.initial.self ++ flat_map byte_text (list_of l.place (byte_in l.word))
