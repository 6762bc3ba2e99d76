use Rattle.std.proofs.Common.{◌≡◌, ℕ, ◌-◌, length, replicate, ap, ◌∙◌, arith}
use Rattle.pm3_types.specs.PageOne.{padded, zeros}
use Rattle.pm3_pagefile.proofs.padding.write_padded.Goals as goal

pub returns : goal.returns
unfolding padded zeros
returns c =
    let front : c.copy_from_slice.new.self ≡ c.args.front.now = c.copy_from_slice.ensures.after in
    let count : length c.split_at_mut-head.result.1.now ≡ 4096 - length c.args.front.now = omega (arith, c.split_at_mut-head.ensures.back_len, c.requires.size) in
    let rest : c.fill.new.self ≡ replicate (4096 - length c.args.front.now) 0 = c.fill.ensures.after (λ y same. same) ∙ ap (λ (n : ℕ). replicate n 0) count in
    cc
