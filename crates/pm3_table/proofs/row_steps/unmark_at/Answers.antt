use Rattle.std.proofs.Common.{rules, ◌≡◌, true, refl, sym, ap, arith}
use Rattle.pm3_table.specs.declared.view.Told.{Told}
use Rattle.pm3_table.specs.declared.view.View.{View}
use Rattle.pm3_table.specs.Deeds.{marks_of}
use Rattle.pm3_table.specs.Starting.{told_of}
use Rattle.pm3_table.specs.Telling.{HasInSpace}
use Rattle.pm3_table.proofs.Asked.{within}
use Rattle.pm3_table.proofs.RowCalls.{unmark_call}
use Rattle.pm3_table.proofs.row_steps.unmark_at.Goals as goal

pub store-requires : goal.store-requires
store-requires g c = let key = c.shared.inside.table.shared.key in let v = g.V.Chronicle in let laws = g.met.V.Chronicle in
    let t : Told = told_of v.opening key.pages key.frontier key.next_name key.turn.value in
    let me = c.pass.inside.seat.me in
    let told_is : c.args.shared.now.1 ≡ t = ap (λ z. z.1) (sym c.shared.view_is) in (
      search rules,
      search rules,
      unmark_call v.stands v.spans v.counted t _ _ _ c.pass.invariant.live _ _ _ c.args.space c.args.page refl c.requires.aim (omega arith)
          (within _ _ me.0 t _ _ c.pass.view_is c.shared.view_is (λ (x : Told) (y : View). HasInSpace x y c.args.space c.args.page) c.requires.has) (within _ _ me.0 t _ _ c.pass.view_is c.shared.view_is (λ (x : Told) (y : View). marks_of y.log c.args.page ≡ true) c.requires.held),
    )
