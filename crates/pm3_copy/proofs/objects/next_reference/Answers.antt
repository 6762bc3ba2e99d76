use Rattle.pm3_copy.proofs.ReferencePlaces.{by_field, by_tail}
use Rattle.pm3_copy.proofs.objects.next_reference.Goals as goal

pub returns-in-Some : goal.returns-in-Some
returns-in-Some c = by_field c.args.map c.args.len c.args.from c.in-Some.field c.in-Some.ensures.within c.in-Some.ensures.next

pub returns : goal.returns
returns c = by_tail c.args.map c.args.len c.args.from c.next_in_tail.result c.in_default.ensures.next c.next_in_tail.ensures
