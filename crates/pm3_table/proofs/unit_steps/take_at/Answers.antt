use Rattle.std.proofs.Common.{rules, ◌≡◌, ◌+◌, ◌<◌, true, refl, sym, ap, ◌∙◌}
use Rattle.pm3_table.specs.declared.view.Told.{Told}
use Rattle.pm3_table.specs.declared.view.View.{View}
use Rattle.pm3_table.specs.Starting.{told_of}
use Rattle.pm3_table.specs.Telling.{is_steady}
use Rattle.pm3_table.proofs.Asked.{within}
use Rattle.pm3_table.proofs.UnitCalls.{take_call}
use Rattle.pm3_table.proofs.unit_steps.take_at.Goals as goal

pub compare_exchange-found-requires : goal.compare_exchange-found-requires
compare_exchange-found-requires g c = let key = c.shared.inside.table.shared.key in let v = g.V.Chronicle in let laws = g.met.V.Chronicle in
    let t : Told = told_of v.opening key.pages key.frontier key.next_name key.turn.value in
    let me = c.pass.inside.seat.me in
    let told_is : c.args.shared.now.1 ≡ t = ap (λ z. z.1) (sym c.shared.view_is) in (
      search rules,
      search rules,
      take_call v.stands v.spans v.counted t (laws.frame t) (laws.alike t) _ _ _ c.pass.invariant.live _ _ c.args.unit _ _ refl c.requires.aim.1 (c.requires.aim.0 ∙ told_is) (λ i. sym c.pass.invariant.row_is i + 1)
          (within _ _ me.0 t _ _ c.pass.view_is c.shared.view_is (λ (x : Told) (y : View). c.args.unit < x.pages + 33) c.requires.unit.0) (within _ _ me.0 t _ _ c.pass.view_is c.shared.view_is (λ (x : Told) (y : View). c.args.unit < x.pages → is_steady x y c.args.unit ≡ true) c.requires.steady),
    )
