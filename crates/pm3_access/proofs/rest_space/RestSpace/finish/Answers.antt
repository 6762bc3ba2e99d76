use Rattle.std.proofs.Common.{rules, ◌≡◌, ◌||◌, ◌&&◌, ◌∙◌, ℕ, not, refl, sym, ap, arith}
use Rattle.std.specs.Cmp.{nat_cmp_total}
use Rattle.std.specs.FinSet as set_of
use Rattle.std.specs.FinSet.{contains-union}
use Rattle.pm3_access.specs.FreeList.{Numbers}
use Rattle.pm3_access.specs.Parts.{SpaceRest, is_filled}
use Rattle.pm3_access.proofs.rest_space.RestSpace.finish.Goals as goal

pub returns : goal.returns
returns c = record {
  number = ap (λ (s : SpaceRest). s.number) c.self.view_is;
  images = refl;
  free = λ p. ap (λ (s : Numbers). set_of.contains s p) c.add_set.ensures.pages ∙ contains-union nat_cmp_total c.release.new.self.pages c.args.freed.now p
      ∙ ap (λ (s : Numbers). set_of.contains s p || set_of.contains c.args.freed.now p) c.release.ensures.pages
      ∙ ap (λ b. b || set_of.contains c.args.freed.now p) (c.take_filled.ensures.pages p
      ∙ ap (λ (s : SpaceRest). set_of.contains s.free p && not (is_filled c.args.volatile.images c.args.written.now.images p)) c.self.view_is);
  room =
      (let was = ap (λ (s : SpaceRest). s.room) c.self.view_is in let one = c.take_filled.ensures.room in let two = c.release.ensures.room in let three = c.add_set.ensures.room in
      omega (arith, was, one, two, three));
  current = refl;
}
