-- No object of an index departs: what a tree leads to is a node, or a leaf of its chain.
use Rattle.std.proofs.Common.{◌≡◌, ◌≢◌, ◌+◌, ◌<◌, ◌≤◌, ◌++◌, ◌∙◌, ℕ, zero, suc, List, [], ◌∷◌, Some, None, refl, sym, ap, subst, arith}
use Rattle.std.specs.Prelude.{flat_map, slice_get}
use Rattle.std.specs.FinMap.{get}
use Rattle.std.specs.List.{AllByRecursion, range_with_len}
use Rattle.std.proofs.lemmas.List.{append-nil}
use Rattle.std.proofs.lemmas.List.Folds.{flat_map-map}
use Rattle.pm3_types.specs.Fields.{Fields}
use Rattle.pm3_types.specs.Graph.{Part}
use Rattle.pm3_history.proofs.Laying.{one_value, some_none}
use Rattle.oo7_schema.specs.Entries.{Entry}
use Rattle.oo7_schema.specs.Lookup.{Look, listed_schema, reference, word}
use Rattle.oo7_schema.specs.Nodes.{IsChain, IsIndex, IsInner, IsLeaf, IsNode, IsOf, IsRoot, child, first_of, leaves, leaves_of, tree_leaves}
use Rattle.oo7_schema.specs.Schema.{Inner, Leaf, Tree, schema}
use Rattle.oo7_schema.proofs.Pieces.{all_second, all_together}
use Rattle.oo7_objects.specs.Wholes.{IsOfClass, look_of}
use Rattle.oo7_index.specs.Departures.{Departs, Leads, NoneDeparts, no_inner, no_leaf, no_next, no_root, no_tree, root, under}
use Rattle.oo7_index.specs.Looks.{LooksNode}
use Rattle.oo7_index.proofs.Arriving.{chain_past}
use Rattle.oo7_index.proofs.Descending.{left_of, pieces, regroup, right_of}

-- the leaves under a node, among these
record IsWithin (look : Look) (all : List ℕ) (h n : ℕ) : Type 0 where
  pub before : List ℕ
  pub behind : List ℕ
  pub is : all ≡ before ++ (leaves look h n ++ behind)

within_down : (look : Look) (all : List ℕ) (h n m : ℕ) → m ≤ word look n 0 → IsWithin look all (suc h) n → IsWithin look all h (child look n m)
within_down look all h n m most within = record {
  before = within.before ++ left_of look h n m;
  behind = right_of look h n m ++ within.behind;
  is = within.is ∙ ap (λ (x : List ℕ). within.before ++ (x ++ within.behind)) (pieces look h n m most)
      ∙ regroup within.before (left_of look h n m) (leaves look h (child look n m)) (right_of look h n m) within.behind;
}

-- each leaf under a node is one
all_flat : (P : ℕ → Type 0) (of : ℕ → List ℕ) (s n : ℕ) → ((k : ℕ) → s ≤ k → k < s + n → AllByRecursion P (of k)) → AllByRecursion P (flat_map of (range_with_len s n))
all_flat P of s zero each = tt
all_flat P of s (suc n) each = all_together P (of s) (flat_map of (range_with_len (s + 1) n)) (each s (omega arith) (omega arith))
    (all_flat P of (s + 1) n (λ k low high. each k (omega (arith, low)) (omega (arith, high))))

leaves_are : (look : Look) (h n : ℕ) → IsNode look h n → AllByRecursion (IsLeaf look) (leaves look h n)
leaves_are look zero n node = (node, tt)
leaves_are look (suc h) n node =
    subst (AllByRecursion (IsLeaf look)) (sym (flat_map-map (leaves look h) (child look n) (range_with_len 0 (word look n 0 + 1))))
    (all_flat (IsLeaf look) (λ (k : ℕ). leaves look h (child look n k)) 0 (word look n 0 + 1) (λ k low high. leaves_are look h (child look n k) (node.1 k (omega (arith, high)))))

module _ (w : Part) (nil : get w.records 0 ≡ None) where
  -- an object is not nil
  named : (class n : ℕ) → IsOf (look_of w) class n → n ≢ 0
  named class n of zero_is = some_none (look_of w n) of.object of.is (ap (look_of w) zero_is ∙ nil)

  classed : (class n : ℕ) (map : Fields) → slice_get schema class ≡ Some map → slice_get listed_schema class ≡ Some map → IsOf (look_of w) class n → IsOfClass w n class
  classed class n map there listed of = record {
    object = of.object;
    is = of.is;
    of = of.of;
    map = map;
    map_is = there;
    fields = of.fits.fields
        ∙ ap (λ (m : Fields). m.count) (one_value (slice_get listed_schema of.object.ty) of.fits.map map of.fits.of (ap (slice_get listed_schema) of.of ∙ listed));
  }

  leaf_looks : (n : ℕ) → IsLeaf (look_of w) n → LooksNode w 9 n
  leaf_looks n leaf = record { name = named 9 n leaf.is; is = classed 9 n Leaf refl refl leaf.is; some = leaf.some; most = leaf.most }

  inner_looks : (n : ℕ) → IsInner (look_of w) n → LooksNode w 10 n
  inner_looks n inner = record { name = named 10 n inner.is; is = classed 10 n Inner refl refl inner.is; some = inner.some; most = inner.most }

  node_named : (h n : ℕ) → IsNode (look_of w) h n → n ≢ 0
  node_named zero n node = named 9 n node.is
  node_named (suc h) n node = named 10 n node.0.is

  module _ (tree : ℕ) (es : List Entry) (index : IsIndex (look_of w) tree es) where
    root_node : (h : ℕ) → word (look_of w) tree 0 ≡ suc h → IsNode (look_of w) h (reference (look_of w) tree 2)
    root_node h height = subst (λ (k : ℕ). IsRoot (look_of w) k (reference (look_of w) tree 2)) height index.root

    all_is : (h : ℕ) → word (look_of w) tree 0 ≡ suc h → tree_leaves (look_of w) tree ≡ leaves (look_of w) h (reference (look_of w) tree 2)
    all_is h height = ap (λ (k : ℕ). leaves_of (look_of w) k (reference (look_of w) tree 2)) height

    led_node : (h n : ℕ) → Leads w tree h n → IsNode (look_of w) h n
    led_node h _ (root _ looks height) = root_node h height
    led_node h _ (under _ n m leads inner most) = (led_node (suc h) n leads).1 m most

    led_within : (h n : ℕ) → Leads w tree h n → IsWithin (look_of w) (tree_leaves (look_of w) tree) h n
    led_within h _ (root _ looks height) = record { before = []; behind = []; is = all_is h height ∙ sym (append-nil (leaves (look_of w) h (reference (look_of w) tree 2))) }
    led_within h _ (under _ n m leads inner most) = within_down (look_of w) (tree_leaves (look_of w) tree) h n m most (led_within (suc h) n leads)

    all_leaves : (k : ℕ) → word (look_of w) tree 0 ≡ k → AllByRecursion (IsLeaf (look_of w)) (tree_leaves (look_of w) tree)
    all_leaves zero height = subst (λ (k : ℕ). AllByRecursion (IsLeaf (look_of w)) (leaves_of (look_of w) k (reference (look_of w) tree 2))) (sym height) tt
    all_leaves (suc h) height = subst (AllByRecursion (IsLeaf (look_of w))) (sym (all_is h height)) (leaves_are (look_of w) h (reference (look_of w) tree 2) (root_node h height))

    -- the leaf that follows a leaf of the tree
    next_is : (n : ℕ) → Leads w tree 0 n → reference (look_of w) n 1 ≢ 0 → IsLeaf (look_of w) (reference (look_of w) n 1)
    next_is n leads some =
        let within = led_within 0 n leads in
        of within.behind
        (chain_past (look_of w) (first_of (within.before ++ (n ∷ within.behind))) n within.before within.behind (subst (λ (ls : List ℕ). IsChain (look_of w) (first_of ls) ls) within.is index.chain))
        (all_second (IsLeaf (look_of w)) (n ∷ []) within.behind
        (all_second (IsLeaf (look_of w)) within.before (n ∷ within.behind) (subst (AllByRecursion (IsLeaf (look_of w))) within.is (all_leaves (word (look_of w) tree 0) refl))))
      where
        of : (ls : List ℕ) → IsChain (look_of w) (reference (look_of w) n 1) ls → AllByRecursion (IsLeaf (look_of w)) ls → IsLeaf (look_of w) (reference (look_of w) n 1)
        of [] chain all = absurd (some chain)
        of (l ∷ ls) chain all = subst (IsLeaf (look_of w)) (sym chain.0) all.0

    none_of : (n : ℕ) → Departs w tree n → ⊥
    none_of _ (no_tree none) = none (record {
      name = named 11 tree index.is;
      is = classed 11 tree Tree refl refl index.is;
      height = index.height;
      entries = subst (λ (k : ℕ). k ≤ 4194304) (sym index.count) index.most;
    })
    none_of _ (no_root h looks height lost) = node_named h (reference (look_of w) tree 2) (root_node h height) lost
    none_of _ (no_inner h n leads so) =
        let node = led_node (suc h) n leads in
        let lacks = so (inner_looks n node.0) in
        node_named h (child (look_of w) n lacks.m) (node.1 lacks.m lacks.most) lacks.nil
    none_of _ (no_leaf n leads none) = none (leaf_looks n (led_node 0 n leads))
    none_of _ (no_next n leads looks none some) = none (leaf_looks (reference (look_of w) n 1) (next_is n leads some))

pub none_departs : NoneDeparts
none_departs w tree es nil index n departs = none_of w nil tree es index n departs
