use Rattle.std.proofs.Common.{rules, ◌≡◌, replicate, false}
use Rattle.pm3_page.proofs.images.Image.blank.Goals as goal

pub returns : goal.returns
returns c =
    let words : c.in-Ok.words.items ≡ replicate 512 0 = search rules in
    let starts : c.new.result ≡ replicate 512 false = c.new.ensures in
    λ i. record { page = c.args.page; sheet = record { words = words i; starts = starts i } }
