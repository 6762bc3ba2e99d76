use Rattle.std.proofs.Common.{◌≡◌, ◌<◌, rules, length, get_or, Some, None}
use Rattle.std.proofs.lemmas.List.{get_or_read}
use Rattle.pm3_core.proofs.page_marks.PageMarks.is_whole.Goals as goal

pub returns-in-Some : goal.returns-in-Some
returns-in-Some c =
    let below : c.args.page < length c.self.inside.readings.items = search rules in
    let read : c.index.result.now ≡ get_or c.self.inside.readings.items c.args.page None =
    get_or_read c.self.inside.readings.items c.args.page c.index.result.now below c.index.ensures None in
    let is : get_or c.self.inside.readings.items c.args.page None ≡ Some c.in-Some.reading = cc in
    rw (← c.self.view_is) (rw is c.is_whole.ensures)
