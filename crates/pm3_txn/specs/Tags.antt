-- Tags of places.
use Rattle.std.specs.Prelude.{Bool, true, false}
use Rattle.pm3_txn.specs.declared.mutator.Tag.{Tag}
use Rattle.pm3_txn.specs.declared.mutator.Tag.TheVariants.{Ref, Number}

-- the tag of a place that is tagged as a reference, or is not
abbrev pub tag_of : Bool → Tag
tag_of true = Ref
tag_of false = Number
