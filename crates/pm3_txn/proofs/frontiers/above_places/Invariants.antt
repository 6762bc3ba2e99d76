use Rattle.std.proofs.Common.{Some}
use Rattle.pm3_core.specs.declared.naming.TheConstants.{BASE}
use Rattle.pm3_types.specs.Layout.{word_in}
use Rattle.pm3_txn.specs.Frontiers.{IsTop, Below, IsPlaceNamed}
use Rattle.pm3_txn.proofs.frontiers.above_places.Given as goal

abbrev pub invariant-loop-place : goal.invariant-loop-place
invariant-loop-place l = IsTop (Below (IsPlaceNamed (Some l.map) l.len l.image.sheet (word_in BASE l.at)) l.place) l.initial.top l.top
