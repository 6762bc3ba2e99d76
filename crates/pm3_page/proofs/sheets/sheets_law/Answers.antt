use Rattle.pm3_page.proofs.SheetsOf.{get-sheets_of}
use Rattle.pm3_page.proofs.sheets.sheets_law.Goals as goal

pub returns : goal.returns
returns c = get-sheets_of
