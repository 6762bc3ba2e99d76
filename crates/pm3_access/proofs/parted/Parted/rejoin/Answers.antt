use Rattle.std.proofs.Common.{rules, ◌≡◌, sym, ap, ◌∙◌, subst}
use Rattle.std.specs.FinMap as map
use Rattle.pm3_access.specs.Acts.{AreInPlace}
use Rattle.pm3_access.specs.Parting.{joined}
use Rattle.pm3_access.specs.Parts.{RestState}
use Rattle.pm3_access.proofs.Founds.{both_found}
use Rattle.pm3_access.proofs.Joined.{joined_held}
use Rattle.pm3_access.proofs.parted.Parted.rejoin.Goals as goal

pub invariant_of-result : goal.invariant_of-result
invariant_of-result c =
    rw c.put_all-left.ensures.both (joined_held c.rest.inside.pages.images c.args.self.written.images c.rest.inside.found.images c.rest.invariant.0 c.requires.written_home c.rest.invariant.1 (λ page no_written no_other.
    ap (λ (r : RestState). map.get r.found page) c.rest.view_is
    ∙ c.requires.kept page no_written (ap (λ (r : RestState). map.get r.pages.images page) (sym c.rest.view_is) ∙ no_other)))

pub invariant_of-result-2 : goal.invariant_of-result-2
invariant_of-result-2 c =
    let same : (record { pages = record { left = c.put_all-left.result.0.images; found = c.rest.inside.found.images }; space = c.match-space.result }) ≡ joined c.args.self = search rules in (
      rw c.put_all-left.ensures.both (both_found c.rest.inside.pages.images c.args.self.written.images c.rest.inside.found.images c.rest.invariant.2 (λ page none.
          c.requires.found page (ap (λ (r : RestState). map.get r.found page) (sym c.rest.view_is) ∙ none))),
      subst AreInPlace (sym same) c.requires.places,
      c.put_all-left.ensures.others,
    )
