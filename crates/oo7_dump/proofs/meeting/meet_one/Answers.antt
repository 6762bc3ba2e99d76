use Rattle.std.proofs.Common.{◌≡◌, ◌∷◌, [], ℕ, sym, subst}
use Rattle.pm3_core.specs.declared.naming.TheConstants.{BASE}
use Rattle.pm3_types.specs.Numbering.{meet}
use Rattle.oo7_dump.specs.Raw.{raw_at}
use Rattle.oo7_dump.proofs.MeetingOne.{meets_nil, reference_parts}
use Rattle.oo7_dump.proofs.meeting.meet_one.Goals as goal

pub returns-then-name-eq0-clause-met : goal.returns-then-name-eq0-clause-met
returns-then-name-eq0-clause-met g c = λ all among.
    subst (λ (n : ℕ). c.args.met.now ≡ meet (raw_at c.args.catalog.now BASE all) c.args.met.now (n ∷ [])) (sym c.if-name-eq0.true) (meets_nil c.args.catalog.now all c.args.met.now)

pub meet_new-requires-clause-address : goal.meet_new-requires-clause-address
meet_new-requires-clause-address g c = (reference_parts BASE c.args.pages c.args.name c.requires.reference c.if-name-eq0.false).0

pub meet_new-requires-clause-page : goal.meet_new-requires-clause-page
meet_new-requires-clause-page g c = let parts = reference_parts BASE c.args.pages c.args.name c.requires.reference c.if-name-eq0.false in (parts.1, parts.2)
