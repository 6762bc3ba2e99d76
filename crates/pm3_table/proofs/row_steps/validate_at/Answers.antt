use Rattle.std.proofs.Common.{rules, ◌≡◌, refl, sym, ap, ◌∙◌}
use Rattle.pm3_core.specs.Naming.{Names}
use Rattle.pm3_table.specs.declared.view.Told.{Told}
use Rattle.pm3_table.specs.declared.view.View.{View}
use Rattle.pm3_table.specs.Deeds.{word_of}
use Rattle.pm3_table.specs.Starting.{told_of}
use Rattle.pm3_table.proofs.Asked.{within}
use Rattle.pm3_table.proofs.RowCalls.{validate_call}
use Rattle.pm3_table.proofs.row_steps.validate_at.Goals as goal

pub load-requires : goal.load-requires
load-requires g c = let key = c.shared.inside.table.shared.key in let v = g.V.Chronicle in let laws = g.met.V.Chronicle in
    let t : Told = told_of v.opening key.pages key.frontier key.next_name key.turn.value in
    let me = c.pass.inside.seat.me in
    let told_is : c.args.shared.now.1 ≡ t = ap (λ z. z.1) (sym c.shared.view_is) in (
      search rules,
      search rules,
      validate_call v.stands v.spans v.counted t _ _ _ c.pass.invariant.live _ _ _ c.args.place c.args.page _ refl (c.requires.aim.0 ∙ told_is) c.requires.aim.1 c.requires.aim.2 c.requires.low
          (within _ _ me.0 t _ _ c.pass.view_is c.shared.view_is (λ (x : Told) (y : View). Names x.pages (word_of y.log c.args.place) c.args.page) c.requires.named),
    )
