use Rattle.std.proofs.Common.{◌<◌, ℕ, List, length, refl, sym, ap, subst, arith}
use Rattle.pm3_journal.specs.JournalState.{JournalState}
use Rattle.pm3_journal.specs.Pages.{page_at}
use Rattle.pm3_txn.specs.Committing.{HasItem}
use Rattle.pm3_txn.specs.Frontiers.{IsTop}
use Rattle.pm3_txn.proofs.Filed.{items_long, items_within, top_written}
use Rattle.pm3_txn.proofs.recording.entry_for.Goals as goal

pub high_above-high_page-requires : goal.high_above-high_page-requires
high_above-high_page-requires g c = record {
  low = subst (λ (l : List (ℕ × List ℕ)). (i : ℕ) → i < length l → page_at l i < 16384) (sym c.in_ok-pages.ensures.items) (items_within c.args.catalog.now c.args.written.now.images c.requires.sound);
}

pub returns-clause-entry : goal.returns-clause-entry
returns-clause-entry g c = record {
  tag_is = refl;
  name = refl;
  top = top_written c.args.catalog.now c.args.written.now.images c.args.turn.now.high_page c.high_above-high_page.result
      (subst (λ (l : List (ℕ × List ℕ)). IsTop (HasItem l) c.args.turn.now.high_page c.high_above-high_page.result) c.in_ok-pages.ensures.items c.high_above-high_page.ensures);
  none = (refl, refl);
  pages = c.in_ok-pages.ensures.items;
}

pub returns-clause-enough : goal.returns-clause-enough
returns-clause-enough g c =
    let long = ap length c.in_ok-pages.ensures.items in
    let count = items_long c.args.catalog.now c.args.written.now.images in
    let made = c.len.ensures.count in
    (c.len.result, ap (λ (j : JournalState _). j.room) c.in-Ok.ensures.room, omega (arith, long, count, made))
