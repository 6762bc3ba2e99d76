use Rattle.std.proofs.Common.{rules, ◌≡◌, ◌+◌, ◌++◌, ◌*◌, ◌∷◌, [], List, ℕ, subst, sym, ap, ◌∙◌, arith}
use Rattle.pm3_types.specs.PageOne.{maps_bytes}
use Rattle.pm3_types.specs.CatalogForm.{map_departure, IsCauseOf}
use Rattle.pm3_types.proofs.Padding.{length-maps_bytes}
use Rattle.pm3_types.proofs.Reading.{one_more, cause_here, padded-zeros}
use Rattle.pm3_types.proofs.page_one.read_maps.Goals as goal

pub returns-in-Err-clause-fault : goal.returns-in-Err-clause-fault
returns-in-Err-clause-fault c =
    cause_here c.args.count c.loop-i.i c.args.bytes.now _ _ c.in-Err.fault (search rules) c.loop-i.invariant
    (subst (λ (entry : List ℕ). IsCauseOf (map_departure (8 + 8 * c.loop-i.i) entry) c.in-Err.fault) c.split_at.ensures.front c.in-Err.ensures.fault)

pub loop-i-preserved : goal.loop-i-preserved
loop-i-preserved c =
    let pushed : c.push.new.self.items ≡ c.loop-i.maps.items ++ c.in-Ok.map ∷ [] = search rules in
    rw (pushed, c.split_at.ensures.back)
    (one_more c.args.count c.loop-i.i c.args.bytes.now c.loop-i.maps.items c.loop-i.rest.now c.in-Ok.map c.requires.few (search rules) c.loop-i.invariant
    (sym c.split_at.ensures.front ∙ c.in-Ok.ensures.same)
    (ap (map_departure (8 + 8 * c.loop-i.i)) (sym c.split_at.ensures.front) ∙ c.in-Ok.ensures.sound))

pub returns-clause-same : goal.returns-clause-same
returns-clause-same c =
    c.loop-i.invariant.same
    ∙ padded-zeros 4088 (maps_bytes c.loop-i.maps.items) c.loop-i.rest.now
    (omega (arith, c.loop-i.invariant.number, c.loop-i.invariant.behind, length-maps_bytes c.loop-i.maps.items))
    (sym c.is_zero.ensures ∙ c.if-not-is_zero.false)
