use Rattle.std.proofs.Common.{◌<◌, ◌/◌, ◌^◌, arith}
use Rattle.pm3_types.specs.Fields.{Fields}
use Rattle.pm3_copy.proofs.ReferencePlaces.{none_past, none_left, next_left, field_low}
use Rattle.pm3_copy.proofs.objects.next_field.Goals as goal

pub returns-then-from-clause-next : goal.returns-then-from-clause-next
returns-then-from-clause-next c = rw (← c.map.view_is) (none_past (record { count = c.map.inside.count; refs = c.map.inside.refs; tail = c.map.inside.tail }) c.args.from c.map.invariant (omega arith))

pub returns-then-rest-eq0-clause-next : goal.returns-then-rest-eq0-clause-next
returns-then-rest-eq0-clause-next c = rw (← c.map.view_is) (none_left (record { count = c.map.inside.count; refs = c.map.inside.refs; tail = c.map.inside.tail }) c.args.from c.if-rest-eq0.true)

pub returns-clause-next : goal.returns-clause-next
returns-clause-next c =
    let some : 0 < c.map.inside.refs / 2 ^ c.args.from = omega (arith, c.if-rest-eq0.false) in
    rw (← c.map.view_is) (next_left (record { count = c.map.inside.count; refs = c.map.inside.refs; tail = c.map.inside.tail }) c.args.from (omega arith) some)

pub returns-clause-within : goal.returns-clause-within
returns-clause-within c =
    let some : 0 < c.map.inside.refs / 2 ^ c.args.from = omega (arith, c.if-rest-eq0.false) in
    let map : Fields = record { count = c.map.inside.count; refs = c.map.inside.refs; tail = c.map.inside.tail } in
    rw (← c.map.view_is) (field_low map _ c.map.invariant (next_left map c.args.from (omega arith) some).there)
