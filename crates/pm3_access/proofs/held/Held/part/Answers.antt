use Rattle.std.proofs.Common.{rules, ◌≡◌, sym, ap, ◌∙◌, subst}
use Rattle.std.specs.FinMap as map
use Rattle.pm3_access.specs.Acts.{AreInPlace}
use Rattle.pm3_access.specs.Holding.{HeldImages, AreFound}
use Rattle.pm3_access.proofs.Founds.{written_found, others_found}
use Rattle.pm3_access.proofs.Joined.{written_of, unwritten_of, written_home, unwritten_home, apart_so, kept_so}
use Rattle.pm3_access.proofs.held.Held.part.Goals as goal

all_found : (c : goal.After-part_space-volatile) → AreFound c.pages.inside.left.images c.pages.inside.found.images
all_found c page none =
    ap (λ (h : HeldImages). map.get h.left page) c.pages.view_is ∙ c.self.invariant.0 page (ap (λ (h : HeldImages). map.get h.found page) (sym c.pages.view_is) ∙ none)

pub invariant_of-result : goal.invariant_of-result
invariant_of-result c = (
  unwritten_home c.pages.inside.left.images c.pages.inside.found.images c.take_written.new.pages.images c.pages.invariant.left_home c.take_written.ensures.others,
  c.pages.invariant.found_home,
  others_found c.pages.inside.left.images c.pages.inside.found.images c.take_written.new.pages.images c.take_written.ensures.others (all_found c),
)

pub returns-clause-joined : goal.returns-clause-joined
returns-clause-joined c = search rules

pub returns-clause-rejoin : goal.returns-clause-rejoin
returns-clause-rejoin c = record {
  written_home = written_home c.pages.inside.left.images c.pages.inside.found.images c.take_written.new.written.images c.pages.invariant.left_home c.take_written.ensures.written;
  found = written_found c.pages.inside.left.images c.pages.inside.found.images c.take_written.new.written.images c.take_written.ensures.written (all_found c);
  apart = apart_so c.pages.inside.left.images c.pages.inside.found.images c.take_written.new.written.images c.take_written.new.pages.images c.take_written.ensures.written c.take_written.ensures.others;
  room = c.take_written.ensures.room;
  written_room = c.take_written.ensures.written_room;
  kept = kept_so c.pages.inside.left.images c.pages.inside.found.images c.take_written.new.written.images c.take_written.new.pages.images c.take_written.ensures.both c.pages.invariant;
  volatile_home = c.part_space-volatile.ensures.home;
  space_kept = c.part_space-volatile.ensures.kept;
  places = subst AreInPlace (c.self.view_is ∙ sym (returns-clause-joined c)) c.self.invariant.1;
}

pub returns-clause-written : goal.returns-clause-written
returns-clause-written c =
    let same : c.args.self.pages ≡ record { left = c.pages.inside.left.images; found = c.pages.inside.found.images } = search rules in
    written_of (record { left = c.pages.inside.left.images; found = c.pages.inside.found.images }) c.args.self.pages c.take_written.new.written.images same c.take_written.ensures.written

pub returns-clause-others : goal.returns-clause-others
returns-clause-others c =
    let same : c.args.self.pages ≡ record { left = c.pages.inside.left.images; found = c.pages.inside.found.images } = search rules in
    unwritten_of (record { left = c.pages.inside.left.images; found = c.pages.inside.found.images }) c.args.self.pages c.take_written.new.pages.images same c.take_written.ensures.others
