use Rattle.std.proofs.Common.{ℕ, List, Option, None, subst}
use Rattle.pm3_core.specs.declared.naming.TheConstants.{BASE}
use Rattle.oo7_dump.specs.Lost.{IsLost}
use Rattle.oo7_dump.specs.Places.{place_word}
use Rattle.oo7_dump.specs.Raw.{raw_at}
use Rattle.oo7_dump.proofs.Loading.{among_before, loads_then}
use Rattle.oo7_dump.proofs.Placed.{meets_place, place_among, same_word}
use Rattle.oo7_dump.proofs.meeting.meet_places.Goals as goal

pub returns-in-Err-clause-loads : goal.returns-in-Err-clause-loads
returns-in-Err-clause-loads g c = loads_then c.loop-place.invariant.loads c.in-Err.ensures.loads

pub returns-in-Err-clause-damaged : goal.returns-in-Err-clause-damaged
returns-in-Err-clause-damaged g c = λ page word is.
    let lost = c.in-Err.ensures.damaged page word is in
    let word_of = place_word c.args.images.now.images c.args.at in
    let same = same_word g.R.Reader c.args.catalog.now c.args.pages c.args.reader.now c.loop-place.reader c.args.images.now.images c.loop-place.images.images None c.args.at c.loop-place.place
    c.loop-place.invariant.loads c.requires.at in
    record {
      at = word_of c.loop-place.place;
      among = place_among c.args.map word_of c.args.places c.loop-place.place c.loop-place-test.true lost.0;
      lost = subst (λ (content : Option (List ℕ)). IsLost c.args.catalog.now c.args.pages content c.meet_place.new.images.images (word_of c.loop-place.place) page word) c.loop-place.invariant.loads.same
          (subst (λ (n : ℕ). IsLost c.args.catalog.now c.args.pages (g.R.Reader.content c.loop-place.reader) c.meet_place.new.images.images n page word) same lost.1);
    }

pub loop-place-preserved : goal.loop-place-preserved
loop-place-preserved g c = record {
  loads = loads_then c.loop-place.invariant.loads c.in-Ok.ensures.loads;
  held = c.in-Ok.ensures.held;
  met = λ all among. meets_place c.args.map (place_word c.args.images.now.images c.args.at) (raw_at c.args.catalog.now BASE all) c.args.met.now c.loop-place.met c.meet_place.new.met c.loop-place.place
      (place_word c.loop-place.images.images c.args.at c.loop-place.place)
      (same_word g.R.Reader c.args.catalog.now c.args.pages c.args.reader.now c.loop-place.reader c.args.images.now.images c.loop-place.images.images None c.args.at c.loop-place.place c.loop-place.invariant.loads c.requires.at)
      (c.loop-place.invariant.met all (among_before c.in-Ok.ensures.loads all among)) (c.in-Ok.ensures.met all among);
}
