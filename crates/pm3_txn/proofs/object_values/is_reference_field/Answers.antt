use Rattle.std.proofs.Common.{rules, ◌≡◌, sym, ap, ◌∙◌, arith, nat_lt, false}
use Rattle.pm3_types.specs.Fields.{Fields, is_reference}
use Rattle.pm3_types.proofs.TypeMaps.{is_reference-past}
use Rattle.pm3_txn.proofs.object_values.is_reference_field.Goals as goal

pub returns-else-f-lt32 : goal.returns-else-f-lt32
returns-else-f-lt32 c =
    let past : is_reference c.args.map c.args.f ≡ false =
    ap (λ (m : Fields). is_reference m c.args.f) (sym c.map.view_is)
    ∙ is_reference-past _ c.map.inside.count c.args.f c.map.invariant.1 (omega (arith, c.map.invariant.0)) in
    let above : nat_lt c.args.f 32 ≡ false = search rules in
    above ∙ sym past
