use Rattle.std.proofs.Common.{◌||◌, ◌&&◌, ◌==◌, ℕ, List, is_some, Option, sym, ◌∙◌, ap}
use Rattle.pm3_journal.specs.Offsets.{has_offset}
use Rattle.pm3_journal.specs.Pages.{image_of}
use Rattle.pm3_journal.proofs.Rising.{image_pushed}
use Rattle.pm3_journal.proofs.image_reading.add_image.Goals as goal

pub returns-clause-has : goal.returns-clause-has
returns-clause-has g c q =
    ap (λ (l : List (ℕ × List ℕ)). is_some (image_of q l)) c.push.ensures.pushed ∙ image_pushed q c.args.page _ c.args.images.now.items
    ∙ sym (ap (λ (o : Option ℕ). is_some (image_of q c.args.images.now.items) || (has_offset o && c.args.page == q)) c.in-Some.is)
