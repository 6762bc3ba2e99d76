use Rattle.std.proofs.Common.{ℕ, sym, subst, ◌∙◌}
use Rattle.oo7_dump.specs.Lost.{IsLost}
use Rattle.oo7_dump.proofs.meeting.meet_place.Goals as goal

pub word_at-name-requires-clause-low : goal.word_at-name-requires-clause-low
word_at-name-requires-clause-low g c = (c.requires.sound _ c.requires.at.image c.requires.at.on).2

pub returns-clause-damaged : goal.returns-clause-damaged
returns-clause-damaged g c = λ page word is. (
  sym c.is_place.ensures ∙ c.if-not-is_place.false,
  subst (λ (n : ℕ). IsLost c.args.catalog.now c.args.pages (g.R.Reader.content c.args.reader.now) c.meet_one.new.images.images n page word) c.word_at-name.ensures (c.meet_one.ensures.damaged page word is),
)
