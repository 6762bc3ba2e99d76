use Rattle.std.proofs.Common.{rules, ◌+◌, Option, List, get_or, sym, ap, ◌∙◌, subst}
use Rattle.pm3_table.specs.FirstHomes.{FirstHomes, told_by}
use Rattle.pm3_table.proofs.Opens.{turn_has, opens_by}
use Rattle.pm3_table.proofs.shared.Shared.start.Goals as goal

pub unreachable-requires : goal.unreachable-requires
unreachable-requires g c = let v = g.V.Chronicle in let x = c.index.result.now in
    turn_has v.stands v.spans v.counted v.opening c.args.marks c.args.homes c.requires.homes x
    (c.index.ensures ∙ ap (λ (l : List (Option g.row.V.Denot)). get_or l (c.args.marks.pages + 32) x) c.homes.view_is) c.in_default-index.is

pub new-requires : goal.new-requires
new-requires g c = let v = g.V.Chronicle in let x = c.index.result.now in
    let here : List (Option g.row.V.Denot) = c.homes.inside.slots.items in
    opens_by v.stands v.spans v.counted v.opening c.args.marks here (subst (λ (l : List (Option g.row.V.Denot)). FirstHomes v.stands v.spans (told_by v.opening c.args.marks l) l) (sym c.homes.view_is) c.requires.homes)
    x c.of-turn.result.value c.deref.result.now c.index.ensures (search rules) (search rules) c.requires.rows (search rules) (search rules)
