use Rattle.std.proofs.Common.{◌≡◌, ℕ, ◌-◌, ◌++◌, length, take, replicate, ap, ◌∙◌, arith}
use Rattle.std.proofs.lemmas.List.{length-take-le}
use Rattle.pm3_types.specs.PageOne.{padded, zeros}
use Rattle.pm3_pagefile.proofs.padding.clear_behind.Goals as goal

pub returns : goal.returns
unfolding padded zeros
returns c =
    let front : length (take c.args.count c.args.page.now) ≡ c.args.count = length-take-le c.args.count c.args.page.now (omega (arith, c.requires.fits, c.requires.size)) in
    let count : length c.split_at_mut-rest.result.1.now ≡ 4096 - length (take c.args.count c.args.page.now) = omega (arith, c.split_at_mut-rest.ensures.back_len, c.requires.size, front) in
    let rest : c.fill.new.self ≡ replicate (4096 - length (take c.args.count c.args.page.now)) 0 = c.fill.ensures.after (λ y same. same) ∙ ap (λ (n : ℕ). replicate n 0) count in
    let first : c.split_at_mut-rest.result.0.now ≡ take c.args.count c.args.page.now = c.split_at_mut-rest.ensures.front in
    λ i. first i ++ rest i
