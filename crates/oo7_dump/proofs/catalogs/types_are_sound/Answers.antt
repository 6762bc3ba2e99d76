use Rattle.std.proofs.Common.{◌≡◌, ◌<◌, length, sym, ap, subst, ◌∙◌, arith, inl, inr}
use Rattle.std.specs.Prelude.{slice_get}
use Rattle.std.proofs.lemmas.Bool.{cases_lt}
use Rattle.std.proofs.lemmas.Option.{slice_get_within}
use Rattle.pm3_types.specs.Fields.{Fields, IsTypeMap}
use Rattle.oo7_dump.proofs.TypeMapsOf.{maps_from_each}
use Rattle.oo7_dump.proofs.catalogs.types_are_sound.Goals as goal

pub loop-ty-preserved : goal.loop-ty-preserved
loop-ty-preserved c = λ i m below is. elim (cases_lt i c.loop-ty.ty) [
  | inl before ↦ c.loop-ty.invariant i m before is
  | inr last ↦
      let here : i ≡ c.loop-ty.ty = omega arith in
      let same : c.in-Some.map ≡ m = cc (sym c.in-Some.is ∙ c.get.ensures ∙ ap (slice_get c.args.catalog.now) (sym here) ∙ is) in
      subst (λ (x : Fields). IsTypeMap x.count x.refs) (c.map.view_is ∙ same) c.map.invariant
]

pub returns : goal.returns
returns c = (
  c.len-ty-end.ensures.few,
  maps_from_each c.args.catalog.now (λ i m is.
      let within : i < length c.args.catalog.now = slice_get_within c.args.catalog.now i m is in
      let below : i < c.loop-ty.ty = omega (arith, c.len-ty-end.ensures.count) in
      c.loop-ty.invariant i m below is),
)
