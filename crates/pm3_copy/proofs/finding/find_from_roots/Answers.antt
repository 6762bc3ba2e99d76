use Rattle.std.proofs.Common.{◌≡◌, ◌+◌, ◌∙◌, ℕ, true, slice_index, refl, sym, subst, arith}
use Rattle.pm3_copy.specs.Finds.{Adds}
use Rattle.pm3_copy.specs.References.{RootsOn}
use Rattle.pm3_copy.proofs.Adding.{adds_as}
use Rattle.pm3_copy.proofs.References.{pages_more, LeadsBelow}
use Rattle.pm3_copy.proofs.finding.find_from_roots.Goals as goal

pub loop-slot-preserved : goal.loop-slot-preserved
loop-slot-preserved c =
    let Leads : ℕ → ℕ → Type 0 = λ slot b. b ≡ slice_index c.args.image.now.sheet.words (2 + slot) in
    pages_more (λ p. true) Leads c.loop-slot.slot c.loop-slot.slot c.args.found.now c.loop-slot.found c.find.new.self (omega arith) refl (λ q low high. absurd (omega arith)) c.loop-slot.invariant
    (adds_as (λ b. b ≡ c.root.result) (Leads c.loop-slot.slot) c.loop-slot.found c.find.new.self c.find.ensures (λ b there e. e ∙ sym c.root.ensures) (λ b e. e ∙ c.root.ensures))

pub returns : goal.returns
returns c =
    let Below : ℕ → ℕ → Type 0 = LeadsBelow (λ p. true) (λ slot b. b ≡ slice_index c.args.image.now.sheet.words (2 + slot)) in
    let end : c.loop-slot.slot ≡ 16 = omega arith in
    adds_as (Below 16) (RootsOn c.args.image.now) c.args.found.now c.loop-slot.found (let P : ℕ → Type 0 = λ n. Adds (Below n) c.args.found.now c.loop-slot.found in subst P end c.loop-slot.invariant)
    (λ b there p. record { page = p.0; low = p.1; there = refl; leads = sym p.2 }) (λ b r. (r.page, r.low, sym r.leads))
