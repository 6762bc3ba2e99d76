use Rattle.std.proofs.Common.{rules, ◌≡◌, true, refl, sym, ap, ◌∙◌, arith}
use Rattle.pm3_table.specs.declared.view.Told.{Told}
use Rattle.pm3_table.specs.declared.view.View.{View}
use Rattle.pm3_table.specs.Holds.{holds_of}
use Rattle.pm3_table.specs.Settles.{MaySettleIn}
use Rattle.pm3_table.specs.Starting.{told_of}
use Rattle.pm3_table.specs.Words.{space_unit}
use Rattle.pm3_table.proofs.Asked.{within}
use Rattle.pm3_table.proofs.RowCalls.{settle_in_call}
use Rattle.pm3_table.proofs.unit_steps.settle_in_at.Goals as goal

pub store-requires : goal.store-requires
store-requires g c = let key = c.shared.inside.table.shared.key in let v = g.V.Chronicle in let laws = g.met.V.Chronicle in
    let t : Told = told_of v.opening key.pages key.frontier key.next_name key.turn.value in
    let me = c.pass.inside.seat.me in
    let told_is : c.args.shared.now.1 ≡ t = ap (λ z. z.1) (sym c.shared.view_is) in (
      search rules,
      search rules,
      settle_in_call v.stands v.spans v.counted t _ _ _ c.pass.invariant.live (laws.frame t) (laws.alike t) _ _ _ _ c.args.space c.args.page refl (c.requires.aim.1 ∙ ap (λ (x : Told). space_unit x.pages c.args.space) told_is) c.requires.aim.0 (omega arith)
          (within _ _ me.0 t _ _ c.pass.view_is c.shared.view_is (λ (x : Told) (y : View). MaySettleIn x y c.args.space c.args.page) c.requires.page.1) c.requires.space.0 (within _ _ me.0 t _ _ c.pass.view_is c.shared.view_is (λ (x : Told) (y : View). holds_of y.holds (space_unit x.pages c.args.space) ≡ true) c.requires.space.1),
    )
