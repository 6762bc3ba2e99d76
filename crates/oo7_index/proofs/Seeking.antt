-- What is told of a tree, and of a child on the way down.
use Rattle.std.proofs.Common.{◌≡◌, ◌≢◌, ◌+◌, ◌<◌, ◌≤◌, ◌∙◌, ℕ, inl, inr, refl, sym, ap, subst, arith}
use Rattle.std.proofs.lemmas.Bool.{cases_eq}
use Rattle.pm3_types.specs.Graph.{Part}
use Rattle.pm3_history.specs.State.{State}
use Rattle.pm3_txn.specs.States.{TxnState}
use Rattle.oo7_schema.specs.Lookup.{word, reference}
use Rattle.oo7_objects.specs.Wholes.{IsOfClass, Kept, KeepsRow, Knows, look_of, name_at}
use Rattle.oo7_index.proofs.Blaming.{known_before}
use Rattle.oo7_index.specs.Descents.{IsBelow, IsFirst}
use Rattle.oo7_index.specs.Looks.{LacksChild, LooksNode, LooksTree}

-- a tree whose two words were read
module _ {R : Type 0} {a b c d : TxnState R} (tree height entries : ℕ) (known : Knows a (λ st w. name_at a st tree ≢ 0)) (kept_b : Kept a b) (row_b : KeepsRow a b 0 0) (kept_c : Kept b c)
    (row_c : KeepsRow b c 0 0) (kept_d : Kept c d) (classed : Knows b (λ st w. IsOfClass w (name_at a st tree) 11)) (high : Knows c (λ st w. word (look_of w) (name_at b st tree) 0 ≡ height))
    (many : Knows d (λ st w. word (look_of w) (name_at c st tree) 1 ≡ entries)) where
  record WasRead (st : State) (w : Part) : Type 0 where
    pub some : name_at a st tree ≢ 0
    pub of : IsOfClass w (name_at a st tree) 11
    pub height_is : word (look_of w) (name_at a st tree) 0 ≡ height
    pub entries_are : word (look_of w) (name_at a st tree) 1 ≡ entries

  was_read : Knows d (λ st w. WasRead st w)
  was_read = record {
    of = λ st g w whole. (let in_c = kept_d.was st g w whole in
        let in_b = kept_c.was st g w in_c in
        let in_a = kept_b.was st g w in_b in
        let first = row_b.names st in_a.opens tree (inr (omega arith)) in
        let second = row_c.names st in_b.opens tree (inr (omega arith)) in
        record {
          some = known.of st g w in_a;
          of = classed.of st g w in_b;
          height_is = subst (λ (n : ℕ). word (look_of w) n 0 ≡ height) first (high.of st g w in_c);
          entries_are = subst (λ (n : ℕ). word (look_of w) n 1 ≡ entries) (second ∙ first) (many.of st g w whole);
        });
  }

  pub tree_seen : height ≤ 16 → entries ≤ 4194304 → Knows d (λ st w. LooksTree w (name_at a st tree) × (word (look_of w) (name_at a st tree) 0 ≡ height))
  tree_seen low few = record {
    of = λ st g w whole. (let is = was_read.of st g w whole in
        (record { name = is.some; is = is.of; height = subst (λ (n : ℕ). n ≤ 16) (sym is.height_is) low; entries = subst (λ (n : ℕ). n ≤ 4194304) (sym is.entries_are) few }, is.height_is));
  }

  pub tree_departs : (height ≤ 16 → entries ≤ 4194304 → ⊥) → Knows d (λ st w. (name_at a st tree ≡ name_at a st tree) × (LooksTree w (name_at a st tree) → ⊥))
  tree_departs none = record {
    of = λ st g w whole. (let is = was_read.of st g w whole in
        (refl, λ tree. none (subst (λ (n : ℕ). n ≤ 16) is.height_is tree.height) (subst (λ (n : ℕ). n ≤ 4194304) is.entries_are tree.entries)));
  }

-- an inner node, the first of its keys that is not below, and its child there
module _ {R : Type 0} {a b c e : TxnState R} (node key count at : ℕ) (kept_b : Kept a b) (row_b : KeepsRow a b 0 0) (seen : Knows b (λ st w. LooksNode w 10 (name_at a st node) × (word (look_of w) (name_at a st node) 0 ≡ count)))
    (kept_c : Kept b c) (row_c : KeepsRow b c 0 0) (found : Knows c (λ st w. IsFirst (λ (k : ℕ). word (look_of w) (name_at b st node) (1 + k)) key count at)) (kept_e : Kept c e) where
  record IsChosen (st : State) (w : Part) : Type 0 where
    pub inner : LooksNode w 10 (name_at a st node)
    pub first : IsFirst (λ (k : ℕ). word (look_of w) (name_at a st node) (1 + k)) key (word (look_of w) (name_at a st node) 0) at
    pub same : name_at c st node ≡ name_at a st node

  chosen : Knows e (λ st w. IsChosen st w)
  chosen = record {
    of = λ st g w whole. (let in_c = kept_e.was st g w whole in
        let in_b = kept_c.was st g w in_c in
        let in_a = kept_b.was st g w in_b in
        let before = row_b.names st in_a.opens node (inr (omega arith)) in
        let is = seen.of st g w in_b in
        record {
          inner = is.0;
          first = subst (λ (n : ℕ). IsFirst (λ (k : ℕ). word (look_of w) (name_at a st node) (1 + k)) key n at) (sym is.1)
              (subst (λ (n : ℕ). IsFirst (λ (k : ℕ). word (look_of w) n (1 + k)) key count at) before (found.of st g w in_c));
          same = row_c.names st in_b.opens node (inr (omega arith)) ∙ before;
        });
  }

  pub went_down : Knows e (λ st w. (reference (look_of w) (name_at c st node) (16 + at) ≡ name_at e st node) × (name_at e st node ≢ 0)) → Knows e (λ st w. IsBelow w (name_at a st node) key (name_at e st node))
  went_down read = record {
    of = λ st g w whole. (let is = chosen.of st g w whole in
        let there = read.of st g w whole in
        record { inner = is.inner; m = at; first = is.first; is = sym there.0 ∙ ap (λ (n : ℕ). reference (look_of w) n (16 + at)) is.same; some = there.1 });
  }

  pub lacks : Knows e (λ st w. (name_at c st node ≡ name_at a st node) × ((n : ℕ) → n ≡ name_at a st node → reference (look_of w) n (16 + at) ≡ 0 → LacksChild w n))
  lacks = record {
    of = λ st g w whole. (let is = chosen.of st g w whole in
        (is.same, λ n same nil. record { m = at; most = subst (λ (k : ℕ). at ≤ word (look_of w) k 0) (sym same) is.first.most; nil = nil }));
  }

-- the words of a node up to one, and that one
module _ {R : Type 0} {a b c : TxnState R} (node from count m key found : ℕ) (kept : Kept a b) (row : KeepsRow a b 0 0)
    (lower : Knows b (λ st w. (k : ℕ) → k < m → word (look_of w) (name_at a st node) (from + k) < key)) (kept_c : Kept b c)
    (told : Knows c (λ st w. word (look_of w) (name_at b st node) (from + m) ≡ found)) where
  word_there : Knows c (λ st w. word (look_of w) (name_at a st node) (from + m) ≡ found)
  word_there = known_before (λ (st : State) (w : Part) (n : ℕ). word (look_of w) n (from + m) ≡ found) node 0 0 kept row (inr (omega arith)) kept_c told

  pub first_found : m ≤ count → key ≤ found → Knows c (λ st w. IsFirst (λ (k : ℕ). word (look_of w) (name_at a st node) (from + k)) key count m)
  first_found most high = record {
    of = λ st g w whole. (let is = word_there.of st g w whole in
        record { most = most; lower = lower.of st g w (kept_c.was st g w whole); here = λ within. subst (λ (n : ℕ). key ≤ n) (sym is) high });
  }

  pub lower_next : found < key → Knows c (λ st w. (k : ℕ) → k < m + 1 → word (look_of w) (name_at a st node) (from + k) < key)
  lower_next low = record {
    of = λ st g w whole. (let is = word_there.of st g w whole in
        let before = lower.of st g w (kept_c.was st g w whole) in
        λ k within. elim (cases_eq k m) [
          | inl same ↦ subst (λ (j : ℕ). word (look_of w) (name_at a st node) (from + j) < key) (sym same) (subst (λ (n : ℕ). n < key) (sym is) low)
          | inr other ↦ before k (omega (arith, within, other))
        ]);
  }
