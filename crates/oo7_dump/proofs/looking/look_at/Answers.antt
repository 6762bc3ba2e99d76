use Rattle.pm3_core.specs.declared.naming.TheConstants.{BASE}
use Rattle.pm3_types.specs.Numbering.{names_of}
use Rattle.oo7_dump.specs.Places.{place_word, references_in}
use Rattle.oo7_dump.specs.Raw.{raw_at}
use Rattle.oo7_dump.proofs.Loading.{among_before}
use Rattle.oo7_dump.proofs.MeetingOne.{met_by_pages}
use Rattle.oo7_dump.proofs.looking.look_at.Goals as goal

pub returns-clause-met : goal.returns-clause-met
returns-clause-met g c =
    met_by_pages c.meet_places.result c.args.catalog.now c.meet_places.new.images.images c.args.met.now c.meet_places.new.met
    (references_in c.parts_at-map.result.0 (place_word c.args.images.now.images c.args.at) c.parts_at-map.result.1)
    (λ all. names_of c.args.catalog.now (raw_at c.args.catalog.now BASE all c.args.at))
    (λ all among. c.parts_at-map.ensures.names all (among_before c.meet_places.ensures.loads all among)) c.meet_places.ensures.met

pub returns-clause-damaged : goal.returns-clause-damaged
returns-clause-damaged g c = λ page word is. (
  references_in c.parts_at-map.result.0 (place_word c.args.images.now.images c.args.at) c.parts_at-map.result.1,
  c.parts_at-map.ensures.names,
  c.meet_places.ensures.damaged page word is,
)
