use Rattle.std.proofs.Common.{◌≡◌, length, take, drop}
use Rattle.pm3_core.specs.declared.naming.TheConstants.{BASE}
use Rattle.pm3_page.specs.References.{refer_by}
use Rattle.pm3_page.specs.Scan.{scan, reading_to, joined}
use Rattle.pm3_page.proofs.conversion.convert.Given as goal

-- what has been read so far and what is ahead are the whole page
abbrev pub invariant-loop-i : goal.invariant-loop-i
invariant-loop-i l = record {
  so_far :
      joined (take l.i l.words) (take l.i l.starts) (scan l.catalog (refer_by BASE l.way) l.page (drop l.i l.words) l.reading l.i)
      ≡ scan l.catalog (refer_by BASE l.way) l.page l.fn.words (reading_to 0 0) 0;
  words : length l.words ≡ 512;
  starts : length l.starts ≡ 512;
}
