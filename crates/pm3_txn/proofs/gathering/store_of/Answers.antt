use Rattle.std.proofs.Common.{Option, IfSome, subst, arith}
use Rattle.pm3_page.specs.PageMap.{PageMap}
use Rattle.pm3_txn.specs.Gathering.{AreImagesOf}
use Rattle.pm3_txn.proofs.gathering.store_of.Goals as goal

pub returns-in-Some-clause-store : goal.returns-in-Some-clause-store
returns-in-Some-clause-store g c = record {
  turn = c.gathered-turn.result.0;
  ends = c.gathered-turn.ensures.turn;
  keeps = c.stopped-keeps.ensures.keeps;
  due = (let due = c.next.ensures in let low = c.next.type_inv in omega (arith, due, low));
  rest = (λ i. record {
    pages = c.gathered-turn.result.0.file;
    journal = c.gathered-turn.result.0.journal;
    catalog = c.args.catalog;
    images = c.in-Some.images;
    marks = record { pages = c.args.pages; high_page = c.gathered-turn.result.0.high_page; next_name = c.gathered-turn.result.0.next_name; next_seq = c.next.ensures i };
  });
  images = subst (λ (o : Option PageMap). IfSome o (λ images. AreImagesOf c.args.homes images.images)) c.in-Some.is c.gathered-turn.ensures.images;
}
