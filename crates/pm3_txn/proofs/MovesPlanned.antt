-- How many moves a plan has.
use Rattle.std.proofs.Common.{◌≡◌, ◌≤◌, ◌+◌, ◌++◌, ◌∙◌, ℕ, suc, Bool, true, false, cond, nat_le, List, [], ◌∷◌, take, drop, length, length-append, refl, sym, ap, arith}
use Rattle.std.proofs.lemmas.Bool.{false≢true}
use Rattle.std.proofs.lemmas.List.{length-drop, length-map, length-take-le}
use Rattle.pm3_core.specs.declared.naming.TheConstants.{BASE}
use Rattle.pm3_types.specs.Fields.{Fields}
use Rattle.pm3_types.specs.Layout.{address}
use Rattle.pm3_types.specs.PassMoves.{moves_of, pages_behind, paired, settle, settled, size_from, sizes, wanted_by}
use Rattle.pm3_types.specs.Shown.{Images}

paired_long : (olds news : List ℕ) → length news ≡ length olds → length (paired olds news) ≡ length olds
paired_long [] news same = refl
paired_long (old ∷ olds) [] same = same
paired_long (old ∷ olds) (new ∷ news) same = (let rest = paired_long olds news (omega (arith, same)) in omega (arith, rest))

cond_long : (b : Bool) (x y : List ℕ) (n : ℕ) → (b ≡ true → length x ≡ n) → (b ≡ false → length y ≡ n) → length (cond b x y) ≡ n
cond_long true x y n when_true when_false = when_true refl
cond_long false x y n when_true when_false = when_false refl

where_true : (b : Bool) (x y n : ℕ) → b ≡ true → cond b x y ≤ n → x ≤ n
where_true true x y n is few = few
where_true false x y n is few = absurd (false≢true is)

where_false : (b : Bool) (x y n : ℕ) → b ≡ false → cond b x y ≤ n → y ≤ n
where_false true x y n is few = absurd (false≢true (sym is))
where_false false x y n is few = few

-- where there are enough pages each object has a place
settle_long : (ss : List ℕ) (page end : ℕ) (pages : List ℕ) → pages_behind ss end ≤ length pages → length (settle BASE ss page end pages) ≡ length ss
settle_long [] page end pages few = refl
settle_long (s ∷ ss) page end [] few = cond_long (nat_le (end + s) 512) (address BASE page end ∷ settle BASE ss page (end + s) []) [] (suc (length ss))
    (λ fits. ap suc (settle_long ss page (end + s) [] (where_true (nat_le (end + s) 512) (pages_behind ss (end + s)) (1 + pages_behind ss (2 + s)) 0 fits few)))
    (λ off. absurd (let more = where_false (nat_le (end + s) 512) (pages_behind ss (end + s)) (1 + pages_behind ss (2 + s)) 0 off few in omega (arith, more)))
settle_long (s ∷ ss) page end (p ∷ ps) few = cond_long (nat_le (end + s) 512) (address BASE page end ∷ settle BASE ss page (end + s) (p ∷ ps)) (address BASE p 2 ∷ settle BASE ss p (2 + s) ps) (suc (length ss))
    (λ fits. ap suc (settle_long ss page (end + s) (p ∷ ps) (where_true (nat_le (end + s) 512) (pages_behind ss (end + s)) (1 + pages_behind ss (2 + s)) (length (p ∷ ps)) fits few)))
    (λ off. ap suc (settle_long ss p (2 + s) ps (let more = where_false (nat_le (end + s) 512) (pages_behind ss (end + s)) (1 + pages_behind ss (2 + s)) (length (p ∷ ps)) off few in omega (arith, more))))

moves_long : (catalog : List Fields) (space : Images) (olds pages : List ℕ) → wanted_by catalog BASE space olds ≤ length pages → length (moves_of catalog BASE space olds pages) ≡ length olds
moves_long catalog space olds pages few = paired_long olds (settled BASE (sizes catalog BASE space olds) pages)
    (settle_long (sizes catalog BASE space olds) 0 512 pages few ∙ length-map olds (size_from catalog BASE space))

-- as many as it has objects that move, where there are as many fresh pages as it wants
pub planned_long : (catalog : List Fields) (space : Images) (promoted kept fresh : List ℕ) → length fresh ≡ wanted_by catalog BASE space promoted + wanted_by catalog BASE space kept
    → length (moves_of catalog BASE space promoted (take (wanted_by catalog BASE space promoted) fresh) ++ moves_of catalog BASE space kept (drop (wanted_by catalog BASE space promoted) fresh))
    ≡ length promoted + length kept
planned_long catalog space promoted kept fresh long =
    length-append (moves_of catalog BASE space promoted (take first fresh)) (moves_of catalog BASE space kept (drop first fresh))
    ∙ (let one = moves_long catalog space promoted (take first fresh) (let taken = length-take-le first fresh (omega (arith, long)) in omega (arith, taken)) in
    let other = moves_long catalog space kept (drop first fresh) (let left = length-drop first fresh in omega (arith, left, long)) in omega (arith, one, other))
  where
    first : ℕ
    first = wanted_by catalog BASE space promoted
