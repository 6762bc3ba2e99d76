-- The object of an entry: what stands at its place of the leaf, put at a place of the row.
use Rattle.std.proofs.Common.{◌≡◌, ◌≢◌, ◌+◌, ◌-◌, ◌<◌, ◌≤◌, ◌∙◌, ℕ, min, inr, sym, subst, arith}
use Rattle.pm3_types.specs.Graph.{Part}
use Rattle.pm3_txn.specs.States.{TxnState}
use Rattle.oo7_schema.specs.Lookup.{word, reference}
use Rattle.oo7_schema.specs.Nodes.{entry_at}
use Rattle.oo7_objects.specs.Wholes.{Kept, KeepsRow, Knows, look_of, name_at}
use Rattle.oo7_objects.proofs.Knowing.{kept_same, known_both}
use Rattle.oo7_index.specs.Cursors.{IsCursor}
use Rattle.oo7_index.specs.Looks.{LooksNode}

pub least_low : (m at count : ℕ) → m ≡ min at (count - 1) → 1 ≤ count → count ≤ 15 → m < 15
least_low m at count is some most = omega (arith, is, some, most)

least_is : (m at count : ℕ) → m ≡ min at (count - 1) → at < count → m ≡ at
least_is m at count is low = omega (arith, is, low)

-- the entry that was asked for, and where its leaf is
pub record IsAsked (w : Part) (leaf here key at m : ℕ) : Type 0 where
  pub key_is : word (look_of w) leaf (2 + at) ≡ key
  pub least : m ≡ at
  pub same : here ≡ leaf

module _ {R : Type 0} {a b e : TxnState R} (leaf key at count m : ℕ) (cursor : Knows a (λ st w. IsCursor w (name_at a st leaf) key at))
    (kept : Kept a b) (row : KeepsRow a b 0 0) (seen : Knows b (λ st w. LooksNode w 9 (name_at a st leaf) × (word (look_of w) (name_at a st leaf) 0 ≡ count)))
    (least : m ≡ min at (count - 1)) (after : Kept b e) where
  pub asked : Knows e (λ st w. IsAsked w (name_at a st leaf) (name_at b st leaf) key at m)
  asked = record {
    of = λ st g w whole. (let in_b = after.was st g w whole in
        let in_a = kept.was st g w in_b in
        let cur = cursor.of st g w in_a in
        let is = seen.of st g w in_b in
        record { key_is = cur.key_is; least = least_is m at count least (subst (λ (n : ℕ). at < n) is.1 cur.here); same = row.names st in_a.opens leaf (inr (omega arith)) });
  }

  pub valued : (j : ℕ) → Knows e (λ st w. (reference (look_of w) (name_at b st leaf) (17 + m) ≡ name_at e st j) × (name_at e st j ≢ 0))
      → Knows e (λ st w. (entry_at (look_of w) (name_at a st leaf) at ≡ (key, name_at e st j)) × (name_at e st j ≢ 0))
  valued j read = known_both asked (kept_same e) read (λ st w is there.
      ((let object : reference (look_of w) (name_at a st leaf) (17 + at) ≡ name_at e st j = sym (λ i. reference (look_of w) (is.same i) (17 + is.least i)) ∙ there.0 in λ i. (is.key_is i, object i)), there.1))
