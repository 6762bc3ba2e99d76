use Rattle.pm3_txn.proofs.OwnerDraws.{holdings_draw, drawn_names_are_unused, free_pages_are_bare, drawn_pages_are_bare, holdings_reuse}
use Rattle.pm3_txn.proofs.OwnerFree.{holdings_free, holdings_room}
use Rattle.pm3_txn.proofs.OwnerMakes.{holdings_make, holdings_undo}
use Rattle.pm3_txn.proofs.laws.drawn_law.Goals as goal

pub returns : goal.returns
returns c = record {
  draws = holdings_draw;
  names = drawn_names_are_unused;
  free = free_pages_are_bare;
  pages = drawn_pages_are_bare;
  reuses = holdings_reuse;
  frees = holdings_free;
  room = holdings_room;
  makes = holdings_make;
  undone = holdings_undo;
}
