-- The way down: what is before a node on it has smaller keys, and what is behind has none.
use Rattle.std.proofs.Common.{◌≡◌, ◌+◌, ◌-◌, ◌<◌, ◌≤◌, ◌++◌, ◌∙◌, ℕ, zero, suc, List, [], ◌∷◌, sym, ap, subst, arith}
use Rattle.std.specs.Prelude.{flat_map}
use Rattle.std.specs.List.{AllByRecursion, range_with_len}
use Rattle.std.proofs.lemmas.Grind.{flat_map-append}
use Rattle.std.proofs.lemmas.List.{append-nil, append_assoc}
use Rattle.std.proofs.lemmas.List.Folds.{flat_map-map}
use Rattle.oo7_schema.specs.Entries.{Entry}
use Rattle.oo7_schema.specs.Lookup.{Look, word, reference}
use Rattle.oo7_schema.specs.Nodes.{IsChain, IsIndex, IsNode, IsRoot, child, first_of, held, leaf_entries, leaves, leaves_of}
use Rattle.oo7_schema.proofs.Pieces.{all_together}
use Rattle.oo7_schema.proofs.Ranges.{range_join}
use Rattle.oo7_index.specs.Descents.{IsFirst, IsOnWay}

-- what holds of each element holds where less is asked
all_so : {X : Type 0} (P Q : X → Type 0) (xs : List X) → ((x : X) → P x → Q x) → AllByRecursion P xs → AllByRecursion Q xs
all_so P Q [] so all = tt
all_so P Q (x ∷ xs) so all = (so x all.0, all_so P Q xs so all.1)

pub held_join : (look : Look) (xs ys : List ℕ) → held look (xs ++ ys) ≡ held look xs ++ held look ys
held_join look xs ys = flat_map-append (leaf_entries look) xs ys

-- of the entries of many leaves, from those of each piece
all_held : (look : Look) (P : Entry → Type 0) (of : ℕ → List ℕ) (s n : ℕ) → ((k : ℕ) → s ≤ k → k < s + n → AllByRecursion P (held look (of k))) → AllByRecursion P (held look (flat_map of (range_with_len s n)))
all_held look P of s zero each = tt
all_held look P of s (suc n) each =
    subst (AllByRecursion P) (sym (held_join look (of s) (flat_map of (range_with_len (s + 1) n))))
    (all_together P (held look (of s)) (held look (flat_map of (range_with_len (s + 1) n))) (each s (omega arith) (omega arith))
    (all_held look P of (s + 1) n (λ k low high. each k (omega (arith, low)) (omega (arith, high)))))

-- a range parted at one of its numbers
pub parted : (n m : ℕ) → m < n → range_with_len 0 n ≡ range_with_len 0 m ++ (m ∷ range_with_len (m + 1) (n - m - 1))
parted n m low =
    let whole : n ≡ m + suc (n - m - 1) = omega (arith, low) in
    let start : 0 + m ≡ m = omega arith in
    ap (range_with_len 0) whole ∙ range_join 0 m (suc (n - m - 1)) ∙ ap (λ (k : ℕ). range_with_len 0 m ++ (k ∷ range_with_len (k + 1) (n - m - 1))) start

pub regroup : (a b c d e : List ℕ) → a ++ ((b ++ (c ++ d)) ++ e) ≡ (a ++ b) ++ (c ++ (d ++ e))
regroup a b c d e =
    ap (λ (x : List ℕ). a ++ x) (append_assoc b (c ++ d) e ∙ ap (λ (x : List ℕ). b ++ x) (append_assoc c d e)) ∙ sym (append_assoc a b (c ++ (d ++ e)))

-- the leaves under child k of a node, and those under the children before child m and behind it
abbrev pub under : Look → ℕ → ℕ → ℕ → List ℕ
under look h n k = leaves look h (child look n k)

abbrev pub left_of : Look → ℕ → ℕ → ℕ → List ℕ
left_of look h n m = flat_map (under look h n) (range_with_len 0 m)

abbrev pub right_of : Look → ℕ → ℕ → ℕ → List ℕ
right_of look h n m = flat_map (under look h n) (range_with_len (m + 1) (word look n 0 + 1 - m - 1))

-- the leaves under a node are these, about those under child m
pub pieces : (look : Look) (h n m : ℕ) → m ≤ word look n 0 → leaves look (suc h) n ≡ left_of look h n m ++ (under look h n m ++ right_of look h n m)
pieces look h n m most =
    flat_map-map (leaves look h) (child look n) (range_with_len 0 (word look n 0 + 1))
    ∙ ap (flat_map (under look h n)) (parted (word look n 0 + 1) m (omega (arith, most)))
    ∙ flat_map-append (under look h n) (range_with_len 0 m) (m ∷ range_with_len (m + 1) (word look n 0 + 1 - m - 1))

module _ (look : Look) (key : ℕ) (es : List Entry) where
  module _ (h n m : ℕ) (way : IsOnWay look key es (suc h) n) (first : IsFirst (λ (k : ℕ). word look n (1 + k)) key (word look n 0) m) where
    abbrev left : List ℕ
    left = left_of look h n m

    abbrev right : List ℕ
    right = right_of look h n m

    all_leaves : way.before ++ (leaves look (suc h) n ++ way.behind) ≡ (way.before ++ left) ++ (under look h n m ++ (right ++ way.behind))
    all_leaves = ap (λ (x : List ℕ). way.before ++ (x ++ way.behind)) (pieces look h n m first.most) ∙ regroup way.before left (under look h n m) right way.behind

    low_left : AllByRecursion (λ (e : Entry). e.0 < key) (held look left)
    low_left = all_held look (λ (e : Entry). e.0 < key) (under look h n) 0 m (λ k start end. before k end)
      where
        before : (k : ℕ) → k < 0 + m → AllByRecursion (λ (e : Entry). e.0 < key) (held look (under look h n k))
        before k end =
            let most = first.most in
            let last : m - 1 < word look n 0 = omega (arith, end, most) in
            let small : word look n (1 + (m - 1)) < key = first.lower (m - 1) (omega (arith, end)) in
            all_so (λ (e : Entry). e.0 ≤ word look n (1 + (m - 1))) (λ (e : Entry). e.0 < key) (held look (under look h n k)) (λ e le. omega (arith, le, small))
            ((way.node.2 (m - 1) last).upto k (omega (arith, end)))

    high_right : AllByRecursion (λ (e : Entry). key ≤ e.0) (held look right)
    high_right = all_held look (λ (e : Entry). key ≤ e.0) (under look h n) (m + 1) (word look n 0 + 1 - m - 1) (λ k start end. after k start end)
      where
        after : (k : ℕ) → m + 1 ≤ k → k < m + 1 + (word look n 0 + 1 - m - 1) → AllByRecursion (λ (e : Entry). key ≤ e.0) (held look (under look h n k))
        after k start end =
            let most = first.most in
            let inside : m < word look n 0 = omega (arith, start, end, most) in
            let great : key ≤ word look n (1 + m) = first.here inside in
            all_so (λ (e : Entry). word look n (1 + m) ≤ e.0) (λ (e : Entry). key ≤ e.0) (held look (under look h n k)) (λ e le. omega (arith, le, great))
            ((way.node.2 m inside).behind k (omega (arith, start)) (omega (arith, end, most)))

    pub way_down : (below : ℕ) → below ≡ child look n m → IsOnWay look key es h below
    way_down below is = subst (IsOnWay look key es h) (sym is) (record {
      before = way.before ++ left;
      behind = right ++ way.behind;
      entries = way.entries ∙ ap (held look) all_leaves;
      chain = subst (λ (ls : List ℕ). IsChain look (first_of ls) ls) all_leaves way.chain;
      low = subst (AllByRecursion (λ (e : Entry). e.0 < key)) (sym (held_join look way.before left)) (all_together (λ (e : Entry). e.0 < key) (held look way.before) (held look left) way.low low_left);
      high = subst (AllByRecursion (λ (e : Entry). key ≤ e.0)) (sym (held_join look right way.behind)) (all_together (λ (e : Entry). key ≤ e.0) (held look right) (held look way.behind) high_right way.high);
      node = way.node.1 m first.most;
    })

  -- the root is on the way to each key
  pub way_begins : (tree h : ℕ) → IsIndex look tree es → word look tree 0 ≡ suc h → IsOnWay look key es h (reference look tree 2)
  way_begins tree h index height =
      let all : leaves_of look (word look tree 0) (reference look tree 2) ≡ leaves look h (reference look tree 2) ++ [] =
      ap (λ (k : ℕ). leaves_of look k (reference look tree 2)) height ∙ sym (append-nil (leaves look h (reference look tree 2))) in record {
        before = [];
        behind = [];
        entries = index.entries ∙ ap (held look) all;
        chain = subst (λ (ls : List ℕ). IsChain look (first_of ls) ls) all index.chain;
        low = tt;
        high = tt;
        node = node_at (word look tree 0) height index.root;
      }
    where
      node_at : (k : ℕ) → k ≡ suc h → IsRoot look k (reference look tree 2) → IsNode look h (reference look tree 2)
      node_at k same there = subst (λ (j : ℕ). IsRoot look j (reference look tree 2)) same there

  -- a tree of height 0 has no entry
  pub none_there : (tree : ℕ) → IsIndex look tree es → word look tree 0 ≡ 0 → es ≡ []
  none_there tree index height = index.entries ∙ ap (λ (k : ℕ). held look (leaves_of look k (reference look tree 2))) height
