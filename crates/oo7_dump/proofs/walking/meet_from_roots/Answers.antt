use Rattle.std.proofs.Common.{◌≡◌, true, sym, subst}
use Rattle.std.specs.Prelude.{All}
use Rattle.pm3_core.specs.declared.naming.TheConstants.{BASE}
use Rattle.pm3_types.specs.PageForm.{is_memory_reference}
use Rattle.oo7_dump.proofs.Loading.{loads_then, roots_refer}
use Rattle.oo7_dump.proofs.walking.meet_from_roots.Goals as goal

pub root_addresses-requires-clause-home : goal.root_addresses-requires-clause-home
root_addresses-requires-clause-home g c = λ image is. (c.requires.sound 2 image is).0

pub meet_all-requires-clause-references : goal.meet_all-requires-clause-references
meet_all-requires-clause-references g c =
    subst (All (λ name. is_memory_reference BASE c.args.pages name ≡ true)) (sym c.deref.ensures.value)
    (roots_refer c.args.catalog.now c.args.pages c.args.images.now.images c.in-Ok.roots.items c.requires.sound c.requires.there c.in-Ok.ensures)

pub returns-clause-loads : goal.returns-clause-loads
returns-clause-loads g c = loads_then c.in-Ok-meet_all.ensures.loads c.look_at_all.ensures.loads
