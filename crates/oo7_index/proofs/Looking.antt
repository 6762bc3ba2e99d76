-- What a look at a node tells, and which places it has.
use Rattle.std.proofs.Common.{◌≡◌, ◌≢◌, ◌+◌, ◌<◌, ◌≤◌, ◌⊎◌, ◌&&◌, ◌∙◌, inl, inr, ℕ, zero, suc, Bool, true, not, nat_lt, refl, sym, ap, subst, arith}
use Rattle.std.specs.Prelude.{slice_get}
use Rattle.std.specs.List.{list_all, range_with_len}
use Rattle.std.proofs.lemmas.Bool.{and_parts}
use Rattle.std.specs.FinMap.{get}
use Rattle.pm3_types.specs.declared.places.Place.TheVariants.{Word, Reference}
use Rattle.pm3_types.specs.Fields.{is_reference}
use Rattle.pm3_types.specs.Graph.{Part}
use Rattle.pm3_types.specs.Record.{Record}
use Rattle.pm3_history.specs.State.{State}
use Rattle.pm3_history.proofs.Laying.{one_value}
use Rattle.pm3_txn.specs.States.{TxnState}
use Rattle.oo7_schema.specs.Lookup.{word}
use Rattle.oo7_schema.specs.Schema.{Inner, Leaf, Tree, schema}
use Rattle.oo7_objects.specs.Wholes.{HasPlace, IsOfClass, Kept, KeepsRow, Knows, look_of, name_at}
use Rattle.oo7_objects.proofs.Classes.{class_reference, class_word}
use Rattle.oo7_index.specs.Looks.{LooksNode}
use Rattle.oo7_index.proofs.Blaming.{known_before}

-- an object has one class
pub one_class : (w : Part) (n a b : ℕ) → IsOfClass w n a → IsOfClass w n b → a ≡ b
one_class w n a b one two = sym one.of ∙ ap (λ (r : Record). r.ty) (one_value (get w.records n) one.object two.object one.is two.is) ∙ two.of

in_range : (p : ℕ → Bool) (a n k : ℕ) → list_all p (range_with_len a n) ≡ true → k < n → p (a + k) ≡ true
in_range p a zero k all low = absurd (omega (arith, low))
in_range p a (suc n) zero all low =
    let e : a + 0 ≡ a = omega arith in ap p e ∙ (and_parts (p a) (list_all p (range_with_len (a + 1) n)) all).0
in_range p a (suc n) (suc j) all low =
    let e : a + suc j ≡ a + 1 + j = omega arith in
    ap p e ∙ in_range p (a + 1) n j (and_parts (p a) (list_all p (range_with_len (a + 1) n)) all).1 (omega (arith, low))

leaf_words : list_all (λ (f : ℕ). nat_lt f 32 && not (is_reference Leaf f)) (range_with_len 2 15) ≡ true
unfolding is_reference
leaf_words = refl

leaf_objects : list_all (λ (f : ℕ). nat_lt f 32 && is_reference Leaf f) (range_with_len 17 15) ≡ true
unfolding is_reference
leaf_objects = refl

inner_words : list_all (λ (f : ℕ). nat_lt f 32 && not (is_reference Inner f)) (range_with_len 1 15) ≡ true
unfolding is_reference
inner_words = refl

inner_objects : list_all (λ (f : ℕ). nat_lt f 32 && is_reference Inner f) (range_with_len 16 16) ≡ true
unfolding is_reference
inner_objects = refl

leaf_count : (nat_lt 0 32 && not (is_reference Leaf 0)) ≡ true
unfolding is_reference
leaf_count = refl

leaf_next : (nat_lt 1 32 && is_reference Leaf 1) ≡ true
unfolding is_reference
leaf_next = refl

inner_count : (nat_lt 0 32 && not (is_reference Inner 0)) ≡ true
unfolding is_reference
inner_count = refl

tree_height : (nat_lt 0 3 && not (is_reference Tree 0)) ≡ true
unfolding is_reference
tree_height = refl

tree_entries : (nat_lt 1 3 && not (is_reference Tree 1)) ≡ true
unfolding is_reference
tree_entries = refl

tree_root : (nat_lt 2 3 && is_reference Tree 2) ≡ true
unfolding is_reference
tree_root = refl

-- the places of nodes
pub count_place : (w : Part) (n class : ℕ) → (class ≡ 9) ⊎ (class ≡ 10) → IsOfClass w n class → HasPlace w n (Word 0)
count_place w n class (inl leaf) of = class_word w n class Leaf (ap (slice_get schema) leaf) of 0 leaf_count
count_place w n class (inr inner) of = class_word w n class Inner (ap (slice_get schema) inner) of 0 inner_count

pub key_place : (w : Part) (n : ℕ) → IsOfClass w n 9 → (k : ℕ) → k < 15 → HasPlace w n (Word (2 + k))
key_place w n of k low = class_word w n 9 Leaf refl of (2 + k) (in_range (λ (f : ℕ). nat_lt f 32 && not (is_reference Leaf f)) 2 15 k leaf_words low)

pub object_place : (w : Part) (n : ℕ) → IsOfClass w n 9 → (k : ℕ) → k < 15 → HasPlace w n (Reference (17 + k))
object_place w n of k low = class_reference w n 9 Leaf refl of (17 + k) (in_range (λ (f : ℕ). nat_lt f 32 && is_reference Leaf f) 17 15 k leaf_objects low)

pub next_place : (w : Part) (n : ℕ) → IsOfClass w n 9 → HasPlace w n (Reference 1)
next_place w n of = class_reference w n 9 Leaf refl of 1 leaf_next

pub inner_key : (w : Part) (n : ℕ) → IsOfClass w n 10 → (k : ℕ) → k < 15 → HasPlace w n (Word (1 + k))
inner_key w n of k low = class_word w n 10 Inner refl of (1 + k) (in_range (λ (f : ℕ). nat_lt f 32 && not (is_reference Inner f)) 1 15 k inner_words low)

pub child_place : (w : Part) (n : ℕ) → IsOfClass w n 10 → (k : ℕ) → k < 16 → HasPlace w n (Reference (16 + k))
child_place w n of k low = class_reference w n 10 Inner refl of (16 + k) (in_range (λ (f : ℕ). nat_lt f 32 && is_reference Inner f) 16 16 k inner_objects low)

pub height_place : (w : Part) (n : ℕ) → IsOfClass w n 11 → HasPlace w n (Word 0)
height_place w n of = class_word w n 11 Tree refl of 0 tree_height

pub entries_place : (w : Part) (n : ℕ) → IsOfClass w n 11 → HasPlace w n (Word 1)
entries_place w n of = class_word w n 11 Tree refl of 1 tree_entries

pub root_place : (w : Part) (n : ℕ) → IsOfClass w n 11 → HasPlace w n (Reference 2)
root_place w n of = class_reference w n 11 Tree refl of 2 tree_root

module _ {R : Type 0} {a b c : TxnState R} (node class count : ℕ) (before : Kept a b) (row : KeepsRow a b 0 0) (after : Kept b c)
    (classed : Knows b (λ st w. IsOfClass w (name_at a st node) class)) (counted : Knows c (λ st w. word (look_of w) (name_at b st node) 0 ≡ count)) where
  counted_there : Knows c (λ st w. word (look_of w) (name_at a st node) 0 ≡ count)
  counted_there = known_before {a = a} {b = b} {c = c} (λ (st : State) (w : Part) (n : ℕ). word (look_of w) n 0 ≡ count) node 0 0 before row (inr (omega arith)) after counted

  -- a node that was looked at
  pub node_seen : Knows a (λ st w. name_at a st node ≢ 0) → 1 ≤ count → count ≤ 15 → Knows c (λ st w. LooksNode w class (name_at a st node) × (word (look_of w) (name_at a st node) 0 ≡ count))
  node_seen name some most = record {
    of = λ st g w whole. (let is = counted_there.of st g w whole in
        (record { name = name.of st g w (before.was st g w (after.was st g w whole)); is = classed.of st g w (after.was st g w whole); some = subst (λ (n : ℕ). 1 ≤ n) (sym is) some; most = subst (λ (n : ℕ). n ≤ 15) (sym is) most }, is));
  }

  -- and one that has no such number of entries
  pub node_departs : (1 ≤ count → count ≤ 15 → ⊥) → Knows c (λ st w. (name_at a st node ≡ name_at a st node) × (LooksNode w class (name_at a st node) → ⊥))
  node_departs none = record {
    of = λ st g w whole. (let is = counted_there.of st g w whole in
        (refl, λ node. none (subst (λ (n : ℕ). 1 ≤ n) is node.some) (subst (λ (n : ℕ). n ≤ 15) is node.most)));
  }
