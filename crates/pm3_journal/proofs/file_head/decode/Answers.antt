use Rattle.std.proofs.Common.{◌≡◌, true, rules}
use Rattle.pm3_types.specs.Bytes.{are_zeros}
use Rattle.pm3_journal.proofs.Departing.{zeros_within}
use Rattle.pm3_journal.proofs.file_head.decode.Goals as goal

pub returns-clause-size : goal.returns-clause-size
returns-clause-size c =
    let zeros : are_zeros 16 16 c.args.head.now ≡ true = search rules in
    zeros_within 16 16 c.args.head.now zeros
