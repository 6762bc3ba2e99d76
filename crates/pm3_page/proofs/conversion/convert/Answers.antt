use Rattle.std.proofs.Common.{arith, sym, ◌∙◌, length-set}
use Rattle.pm3_page.proofs.Scanning.{scan_more}
use Rattle.pm3_page.proofs.conversion.convert.Goals as goal

pub loop-i-preserved : goal.loop-i-preserved
loop-i-preserved c =
    rw c.put.ensures (record {
      so_far =
          scan_more c.args.catalog.now _ c.args.page c.loop-i.words c.loop-i.starts c.loop-i.reading c.loop-i.i c.in-Some.step (omega arith) (omega arith)
          (sym c.in-Some.ensures)
          ∙ c.loop-i.invariant.so_far;
      words = omega (arith, length-set c.loop-i.words c.loop-i.i c.in-Some.step.word);
      starts = omega (arith, length-set c.loop-i.starts c.loop-i.i c.in-Some.step.begins);
    })
