-- The end of the way: the entries from a key on, from the leaf at which it ends.
use Rattle.std.proofs.Common.{◌≡◌, ◌≢◌, ◌+◌, ◌-◌, ◌<◌, ◌≤◌, ◌++◌, ◌∙◌, ℕ, zero, suc, Bool, true, false, cond, leb, List, [], ◌∷◌, drop, map, refl, sym, ap, subst, arith}
use Rattle.std.specs.List.{AllByRecursion, range_with_len}
use Rattle.std.proofs.lemmas.Bool.{le-leb, leb-true}
use Rattle.std.proofs.lemmas.List.{append_assoc, map-append}
use Rattle.std.proofs.lemmas.List.FromFn.{length-map-range_with_len}
use Rattle.std.proofs.Math.Seq.{drop-append_seam}
use Rattle.oo7_schema.specs.Entries.{Entry, from_key}
use Rattle.oo7_schema.specs.Lookup.{Look, word, reference}
use Rattle.oo7_schema.specs.Nodes.{IsChain, entry_at, first_of, held, leaf_entries}
use Rattle.oo7_index.specs.Cursors.{From}
use Rattle.oo7_index.specs.Descents.{IsFirst, IsOnWay}
use Rattle.oo7_index.proofs.Descending.{held_join, parted}

not_least : (key k : ℕ) → k < key → leb key k ≡ false
not_least key k low = of (leb key k) refl
  where
    of : (b : Bool) → leb key k ≡ b → leb key k ≡ false
    of true is = absurd (let le = leb-true key k is in omega (arith, low, le))
    of false is = is

-- smaller keys are passed over
passed : (key : ℕ) (xs ys : List Entry) → AllByRecursion (λ (e : Entry). e.0 < key) xs → from_key key (xs ++ ys) ≡ from_key key ys
passed key [] ys low = refl
passed key (x ∷ xs) ys low = ap (λ (b : Bool). cond b (x ∷ xs ++ ys) (from_key key (xs ++ ys))) (not_least key x.0 low.0) ∙ passed key xs ys low.1

-- where the first is not smaller all are taken
taken : (key : ℕ) (xs : List Entry) → AllByRecursion (λ (e : Entry). key ≤ e.0) xs → from_key key xs ≡ xs
taken key [] high = refl
taken key (x ∷ xs) high = ap (λ (b : Bool). cond b (x ∷ xs) (from_key key xs)) (le-leb key x.0 high.0)

pub chain_past : (look : Look) (f l : ℕ) (xs ys : List ℕ) → IsChain look f (xs ++ (l ∷ ys)) → IsChain look (reference look l 1) ys
chain_past look f l [] ys chain = chain.2
chain_past look f l (x ∷ xs) ys chain = chain_past look (reference look x 1) l xs ys chain.2

all_made : (P : Entry → Type 0) (make : ℕ → Entry) (s n : ℕ) → ((k : ℕ) → s ≤ k → k < s + n → P (make k)) → AllByRecursion P (map make (range_with_len s n))
all_made P make s zero each = tt
all_made P make s (suc n) each = (each s (omega arith) (omega arith), all_made P make (s + 1) n (λ k low high. each k (omega (arith, low)) (omega (arith, high))))

module _ (look : Look) (key : ℕ) (es : List Entry) (leaf m : ℕ) (way : IsOnWay look key es 0 leaf) (first : IsFirst (λ (k : ℕ). word look leaf (2 + k)) key (word look leaf 0) m) where
  abbrev front : List Entry
  front = map (entry_at look leaf) (range_with_len 0 m)

  low_front : AllByRecursion (λ (e : Entry). e.0 < key) front
  low_front = all_made (λ (e : Entry). e.0 < key) (entry_at look leaf) 0 m (λ k start end. first.lower k (omega (arith, end)))

  chain : IsChain look (reference look leaf 1) way.behind
  chain = chain_past look (first_of (way.before ++ (leaf ∷ way.behind))) leaf way.before way.behind way.chain

  at_leaf : from_key key es ≡ from_key key (leaf_entries look leaf ++ held look way.behind)
  at_leaf = ap (from_key key) (way.entries ∙ held_join look way.before (leaf ∷ way.behind)) ∙ passed key (held look way.before) (leaf_entries look leaf ++ held look way.behind) way.low

  -- in the leaf
  pub arrives : m < word look leaf 0 → From look leaf m (from_key key es)
  arrives low = record {
    following = way.behind;
    chain = chain;
    here = low;
    is = at_leaf ∙ ap (λ (x : List Entry). from_key key (x ++ held look way.behind)) split
        ∙ ap (from_key key) (append_assoc front (entry_at look leaf m ∷ rest) (held look way.behind))
        ∙ passed key front ((entry_at look leaf m ∷ rest) ++ held look way.behind) low_front
        ∙ ap (λ (b : Bool). cond b ((entry_at look leaf m ∷ rest) ++ held look way.behind) (from_key key (rest ++ held look way.behind))) (le-leb key (word look leaf (2 + m)) (first.here low))
        ∙ ap (λ (x : List Entry). x ++ held look way.behind) (sym dropped);
  }
    where
      rest : List Entry
      rest = map (entry_at look leaf) (range_with_len (m + 1) (word look leaf 0 - m - 1))

      split : leaf_entries look leaf ≡ front ++ (entry_at look leaf m ∷ rest)
      split = ap (map (entry_at look leaf)) (parted (word look leaf 0) m low) ∙ map-append (entry_at look leaf) (range_with_len 0 m) (m ∷ range_with_len (m + 1) (word look leaf 0 - m - 1))

      dropped : drop m (leaf_entries look leaf) ≡ entry_at look leaf m ∷ rest
      dropped = ap (drop m) split ∙ ap (λ (k : ℕ). drop k (front ++ (entry_at look leaf m ∷ rest))) (sym (length-map-range_with_len (entry_at look leaf) 0 m))
          ∙ drop-append_seam front (entry_at look leaf m ∷ rest)

  behind_leaf : word look leaf 0 ≤ m → from_key key es ≡ held look way.behind
  behind_leaf high =
      let most = first.most in
      let same : word look leaf 0 ≡ m = omega (arith, high, most) in
      at_leaf ∙ ap (λ (k : ℕ). from_key key (map (entry_at look leaf) (range_with_len 0 k) ++ held look way.behind)) same
      ∙ passed key front (held look way.behind) low_front ∙ taken key (held look way.behind) way.high

  -- behind the last leaf
  pub arrives_out : word look leaf 0 ≤ m → reference look leaf 1 ≡ 0 → from_key key es ≡ []
  arrives_out high none = behind_leaf high ∙ of way.behind chain
    where
      of : (ls : List ℕ) → IsChain look (reference look leaf 1) ls → held look ls ≡ []
      of [] is = refl
      of (l ∷ ls) is = absurd (is.1 none)

  -- in the leaf that follows
  pub arrives_on : (next : ℕ) → word look leaf 0 ≤ m → next ≡ reference look leaf 1 → next ≢ 0 → 1 ≤ word look next 0 → From look next 0 (from_key key es)
  arrives_on next high is some filled = of way.behind chain (behind_leaf high)
    where
      of : (ls : List ℕ) → IsChain look (reference look leaf 1) ls → from_key key es ≡ held look ls → From look next 0 (from_key key es)
      of [] to same = absurd (some (is ∙ to))
      of (l ∷ ls) to same = (let e : next ≡ l = is ∙ to.0 in record {
        following = ls;
        chain = subst (λ (m : ℕ). IsChain look (reference look m 1) ls) (sym e) to.2;
        here = omega (arith, filled);
        is = same ∙ ap (λ (m : ℕ). leaf_entries look m ++ held look ls) (sym e);
      })
