use Rattle.std.proofs.Common.{◌++◌, ℕ, List, get_or, None, sym, ◌∙◌, ap, arith}
use Rattle.pm3_disk.proofs.OnlyReading.{reads_on}
use Rattle.pm3_journal.specs.Offsets.{one_at}
use Rattle.pm3_journal.proofs.Picturing.{images_step, room_step, room_there, has_more}
use Rattle.pm3_journal.proofs.Scanning.{window_on}
use Rattle.pm3_journal.proofs.image_reading.read_images.Goals as goal

pub loop-page-preserved : goal.loop-page-preserved
loop-page-preserved g c = record {
  window = window_on c.args.window.now c.loop-page.invariant.window c.add_image.ensures.reads;
  reads = reads_on c.loop-page.invariant.reads c.add_image.ensures.reads;
  honest = c.in-Ok-add_image.ensures.cause.calm ∙ c.loop-page.invariant.honest;
  below = c.in-Ok-add_image.ensures.below;
  room = room_step c.args.offsets.now c.loop-page.page _ _ (omega arith) c.loop-page.invariant.room c.in-Ok-add_image.ensures.room;
  has = has_more c.loop-page.page c.args.offsets.now c.loop-page.images.items c.add_image.new.images.items c.loop-page.invariant.has c.in-Ok-add_image.ensures.has;
  so_far = λ bytes told.
      c.in-Ok-add_image.ensures.added bytes (c.loop-page.invariant.reads.same ∙ told)
      ∙ ap (λ (l : List (ℕ × List ℕ)). l ++ one_at c.loop-page.page (get_or c.args.offsets.now c.loop-page.page None) bytes) (c.loop-page.invariant.so_far bytes told)
      ∙ sym (images_step c.args.offsets.now c.loop-page.page bytes (omega arith));
}

pub add_image-requires-clause-room : goal.add_image-requires-clause-room
add_image-requires-clause-room g c has = room_there c.args.offsets.now c.loop-page.page _ (omega arith) c.loop-page.invariant.room has
