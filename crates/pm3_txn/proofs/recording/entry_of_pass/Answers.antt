use Rattle.std.proofs.Common.{◌<◌, ◌∙◌, ℕ, List, length, refl, sym, ap, subst, arith}
use Rattle.pm3_journal.specs.Pages.{page_at}
use Rattle.pm3_txn.specs.Committing.{HasItem}
use Rattle.pm3_txn.specs.Frontiers.{IsTop}
use Rattle.pm3_txn.proofs.Filed.{items_long, items_within, top_written}
use Rattle.pm3_txn.proofs.recording.entry_of_pass.Goals as goal

pub high_above-high_page-requires : goal.high_above-high_page-requires
high_above-high_page-requires g c = record {
  low = subst (λ (l : List (ℕ × List ℕ)). (i : ℕ) → i < length l → page_at l i < 16384) (sym c.encode_all.ensures.items) (items_within c.args.catalog.now c.args.written.now.images c.requires.sound);
}

pub returns-clause-entry : goal.returns-clause-entry
returns-clause-entry g c = record {
  tag_is = refl;
  names = (let greater = c.max.ensures in let low = c.requires.names in (omega (arith, greater), omega (arith, greater, low.0, low.1)));
  top = top_written c.args.catalog.now c.args.written.now.images c.args.turn.now.high_page c.high_above-high_page.result
      (subst (λ (l : List (ℕ × List ℕ)). IsTop (HasItem l) c.args.turn.now.high_page c.high_above-high_page.result) c.encode_all.ensures.items c.high_above-high_page.ensures);
  few = (let one = c.ranges.pins.fits in let other = c.ranges.moved.fits in (omega (arith, one), omega (arith, other)));
  pages = c.encode_all.ensures.items;
}

pub returns-clause-count : goal.returns-clause-count
returns-clause-count g c = ap length c.encode_all.ensures.items ∙ items_long c.args.catalog.now c.args.written.now.images
