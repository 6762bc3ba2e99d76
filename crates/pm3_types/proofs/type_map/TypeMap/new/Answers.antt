use Rattle.std.proofs.Common.{rules, ◌<◌, ◌^◌}
use Rattle.pm3_types.proofs.TypeMaps.{is_reference-past}
use Rattle.pm3_types.proofs.type_map.TypeMap.new.Goals as goal

pub returns-clause-bounded : goal.returns-clause-bounded
returns-clause-bounded c = λ f past.
    let within : c.args.refs < 2 ^ c.args.count = search rules in
    is_reference-past _ c.args.count f within past
