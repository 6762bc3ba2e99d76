use Rattle.std.proofs.Common.{◌∙◌, sym}
use Rattle.pm3_types.proofs.OnePage.{one_catalog}
use Rattle.oo7.proofs.opening.types_differ.Goals as goal

pub returns-clause-same : goal.returns-clause-same
returns-clause-same c none =
    one_catalog c.args.one.now c.args.other.now c.types_are_sound.ensures c.types_are_sound-2.ensures (sym c.encode_into.ensures ∙ c.first_difference.ensures.none none ∙ c.encode_into-2.ensures)
