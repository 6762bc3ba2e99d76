use Rattle.std.proofs.Common.{rules, ◌≡◌, ◌≢◌, ◌<◌, ◌^◌, Option, Some, sym, subst, arith}
use Rattle.pm3_core.specs.declared.naming.TheConstants.{BASE}
use Rattle.pm3_types.specs.PageForm.{is_memory_reference}
use Rattle.pm3_access.specs.Access.{HaveForm}
use Rattle.pm3_access.specs.Holding.{HeldSpaceState}
use Rattle.pm3_access.specs.Making.{IsMade, current_image}
use Rattle.pm3_access.specs.Sound.{HasLowPage}
use Rattle.pm3_access.proofs.CallPlaces.{of}
use Rattle.pm3_access.proofs.CallSteps.{make_call}
use Rattle.pm3_access.proofs.MakeSteps.{make_place}
use Rattle.pm3_types.proofs.PlacedForm.{nil_refers}
use Rattle.pm3_access.proofs.SoundingMade.{sound_made}
use Rattle.pm3_access.proofs.held.Held.make.Goals as goal

pub returns-in_default-clause-made : goal.returns-in_default-clause-made
returns-in_default-clause-made c = search rules

pub returns-in_default-clause-form : goal.returns-in_default-clause-form
returns-in_default-clause-form c = λ refers nil form. subst (HaveForm c.args.catalog.now refers) (sym ((returns-in_default-clause-made c).1)) form

pub returns-in_default-clause-sound : goal.returns-in_default-clause-sound
returns-in_default-clause-sound c = λ pages sound. returns-in_default-clause-form c (is_memory_reference BASE pages) (nil_refers BASE pages) sound

pub returns-clause-made : goal.returns-clause-made
returns-clause-made c = search rules

pub returns-clause-form : goal.returns-clause-form
returns-clause-form c =
    let type_low : c.args.ty < 2 ^ 16 = search rules in
    let tail_low : c.args.tail < 2 ^ 32 = search rules in
    let space : Some c.in-Some.space ≡ c.args.self.now.space = search rules in
    let page_low = subst (λ (o : Option HeldSpaceState). HasLowPage (current_image o)) space c.make.ensures.low in
    λ refers nil form. sound_made c.args.catalog.now BASE refers nil c.args.ty c.args.tail c.args.name c.requires.there type_low tail_low c.requires.named c.requires.empty c.args.self.now c.make.result _
    (returns-clause-made c) page_low form

pub returns-clause-sound : goal.returns-clause-sound
returns-clause-sound c = λ pages sound. returns-clause-form c (is_memory_reference BASE pages) (nil_refers BASE pages) sound

pub returns-clause-step : goal.returns-clause-step
returns-clause-step c =
    let type_low : c.args.ty < 2 ^ 16 = search rules in
    let tail_low : c.args.tail < 2 ^ 32 = search rules in
    let space : Some c.in-Some.space ≡ c.args.self.now.space = search rules in
    let page_low = subst (λ (o : Option HeldSpaceState). HasLowPage (current_image o)) space c.make.ensures.low in
    let named : c.args.name ≢ 0 = omega (arith, c.requires.named.0) in
    make_call c.args.catalog.now BASE c.args.self.now _ c.args.ty c.args.tail c.args.name (rw (← c.self.view_is) c.self.invariant.1) page_low
    (record { there = c.requires.there; type_low = type_low; tail_low = tail_low; tail_is = c.requires.empty; named = named }) c.make.result (returns-clause-made c)

pub invariant_of-self-2 : goal.invariant_of-self-2
invariant_of-self-2 c =
    let made : IsMade BASE c.args.catalog.now (of c.self.inside.pages c.self.inside.space) c.args.ty c.args.tail c.args.name c.make.result (of c.self.inside.pages (Some c.make.new.self)) = search rules in
    (c.self.invariant.0, make_place c.args.catalog.now BASE (of c.self.inside.pages c.self.inside.space) (of c.self.inside.pages (Some c.make.new.self)) c.args.ty c.args.tail c.args.name c.make.result made c.self.invariant.1, c.self.invariant.2)
