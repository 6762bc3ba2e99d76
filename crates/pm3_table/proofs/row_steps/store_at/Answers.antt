use Rattle.std.proofs.Common.{rules, ◌+◌, ◌*◌, sym}
use Rattle.pm3_table.specs.Starting.{told_of}
use Rattle.pm3_table.proofs.RowCalls.{store_call}
use Rattle.pm3_table.proofs.row_steps.store_at.Goals as goal

pub store-requires : goal.store-requires
store-requires g c = let key = c.shared.inside.table.shared.key in let v = g.V.Chronicle in (
  search rules,
  search rules,
  store_call v.stands v.spans v.counted (told_of v.opening key.pages key.frontier key.next_name key.turn.value) _ _ _ c.pass.invariant.live _ _ c.args.place c.args.word
      (λ i. 512 * sym c.pass.invariant.row_is i + c.args.place) c.requires.aim c.requires.low,
)
