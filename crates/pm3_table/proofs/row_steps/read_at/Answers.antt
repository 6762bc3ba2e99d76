use Rattle.std.proofs.Common.{rules, ◌≡◌, refl, sym, ap}
use Rattle.pm3_table.specs.declared.view.Told.{Told}
use Rattle.pm3_table.specs.Starting.{told_of}
use Rattle.pm3_table.proofs.RowCalls.{read_call}
use Rattle.pm3_table.proofs.row_steps.read_at.Goals as goal

pub load-requires : goal.load-requires
load-requires g c = let key = c.shared.inside.table.shared.key in let v = g.V.Chronicle in let laws = g.met.V.Chronicle in
    let t : Told = told_of v.opening key.pages key.frontier key.next_name key.turn.value in
    let me = c.pass.inside.seat.me in
    let told_is : c.args.shared.now.1 ≡ t = ap (λ z. z.1) (sym c.shared.view_is) in (
      search rules,
      search rules,
      read_call v.stands v.spans v.counted t _ _ _ c.pass.invariant.live _ _ _ c.args.row c.args.place refl c.requires.aim.0 c.requires.aim.1 c.requires.low.0 c.requires.low.1,
    )
