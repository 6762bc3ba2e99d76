use Rattle.std.proofs.Common.{rules, ◌≡◌, ◌++◌, ◌∙◌, length, drop, replicate}
use Rattle.pm3_types.specs.PageOne.{catalog_head}
use Rattle.pm3_types.proofs.Padding.{padded-front}
use Rattle.pm3_types.proofs.page_one.write_head.Goals as goal

pub returns : goal.returns
returns c =
    let blank : c.fill.new.self ≡ replicate (length c.args.out.now) 0 = c.fill.ensures.after (λ y e. search rules) in
    let written : c.put.new.out ≡ catalog_head c.args.count ++ drop 8 c.fill.new.self = search rules in
    written ∙ padded-front 4096 _ (catalog_head c.args.count) _ c.requires blank
