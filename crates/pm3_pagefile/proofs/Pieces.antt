-- Pieces of pages.
use Rattle.std.proofs.Common.{◌≡◌, ℕ, ◌-◌, ◌*◌, ◌≤◌, min, List, length, take, drop, sym, ap, subst, ◌∙◌}
use Rattle.std.proofs.lemmas.List.{length-drop, length-take-le, take_at, take_min}
use Rattle.pm3_disk.specs.Content.{IsRead}
use Rattle.pm3_types.specs.PageOne.{padded, zeros}
use Rattle.pm3_pagefile.specs.PageBytes.{page_at}

-- the front of a page that was padded behind its first bytes
pub take-padded : (count : ℕ) (page : List ℕ) → count ≤ length page → take count (padded 4096 (take count page)) ≡ take count page
unfolding padded
take-padded count page fits = take_at (take count page) (zeros (4096 - length (take count page))) count (length-take-le count page fits)

-- a page that was padded is padded behind its own front
pub padded-take : (count : ℕ) (old new : List ℕ) → count ≤ length old → new ≡ padded 4096 (take count old) → new ≡ padded 4096 (take count new)
padded-take count old new fits is =
    let front : take count new ≡ take count old = ap (take count) is ∙ take-padded count old fits in
    is ∙ ap (padded 4096) (sym front)

-- a read of a page gives as much of it as is there
part_read : (bytes out : List ℕ) (page count : ℕ) → length out ≡ 4096 → IsRead bytes (4096 * page) count out → take count out ≡ page_at page bytes
part_read bytes out page count size read =
    let there : min 4096 (length bytes - 4096 * page) ≡ min 4096 (length (drop (4096 * page) bytes)) = ap (min 4096) (sym (length-drop (4096 * page) bytes)) in
    let short : count ≡ min 4096 (length (drop (4096 * page) bytes)) = read.size ∙ ap (λ (n : ℕ). min n (length bytes - 4096 * page)) size ∙ there in
    read.given ∙ ap (λ (n : ℕ). take n (drop (4096 * page) bytes)) short ∙ take_min 4096 (drop (4096 * page) bytes)

pub part_given : (bytes out now : List ℕ) (page seen count : ℕ) → seen ≡ page → length out ≡ 4096 → count ≤ length out → IsRead bytes (4096 * seen) count out
    → now ≡ padded 4096 (take count out) → take count now ≡ page_at page bytes
part_given bytes out now page seen count same size fits read is =
    let there : IsRead bytes (4096 * page) count out = subst (λ (p : ℕ). IsRead bytes (4096 * p) count out) same read in
    ap (take count) is ∙ take-padded count out fits ∙ part_read bytes out page count size there
