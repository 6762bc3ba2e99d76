-- From an entry to the next one.
use Rattle.std.proofs.Common.{◌≡◌, ◌≢◌, ◌+◌, ◌<◌, ◌≤◌, ◌++◌, ◌∙◌, ℕ, zero, suc, List, [], ◌∷◌, length, drop, refl, sym, ap, subst, arith}
use Rattle.std.proofs.lemmas.List.FromFn.{length-map-range_with_len}
use Rattle.pm3_txn.specs.States.{TxnState}
use Rattle.oo7_schema.specs.Entries.{Entry}
use Rattle.oo7_schema.specs.Lookup.{Look, word, reference}
use Rattle.oo7_schema.specs.Nodes.{IsChain, entry_at, held, leaf_entries}
use Rattle.oo7_objects.specs.Wholes.{Knows, look_of, name_at}
use Rattle.oo7_index.specs.Cursors.{From, IsBehind, IsCursor, IsNext}

pub entries_long : (look : Look) (leaf : ℕ) → length (leaf_entries look leaf) ≡ word look leaf 0
entries_long look leaf = length-map-range_with_len (entry_at look leaf) 0 (word look leaf 0)

-- without the first of what is left
one_less : (es ls : List Entry) (at : ℕ) → at < length es → drop 1 (drop at es ++ ls) ≡ drop (at + 1) es ++ ls
one_less [] ls at low = absurd (omega (arith, low))
one_less (e ∷ es) ls zero low = refl
one_less (e ∷ es) ls (suc at) low =
    let same : suc (at + 1) ≡ suc at + 1 = omega arith in
    one_less es ls at (omega (arith, low)) ∙ ap (λ (n : ℕ). drop n (e ∷ es) ++ ls) same

past : (es : List Entry) (at : ℕ) → length es ≤ at → drop at es ≡ []
past [] zero low = refl
past [] (suc at) low = refl
past (e ∷ es) zero low = absurd (omega (arith, low))
past (e ∷ es) (suc at) low = past es at (omega (arith, low))

module _ (look : Look) (leaf at : ℕ) (rest : List Entry) (behind : IsBehind look leaf at rest) where
  left : rest ≡ drop (at + 1) (leaf_entries look leaf) ++ held look behind.from.following
  left = behind.is ∙ ap (drop 1) behind.from.is
      ∙ one_less (leaf_entries look leaf) (held look behind.from.following) at (subst (λ (n : ℕ). at < n) (sym (entries_long look leaf)) behind.from.here)

  -- in the same leaf
  pub step_here : at + 1 < word look leaf 0 → From look leaf (at + 1) rest
  step_here low = record { following = behind.from.following; chain = behind.from.chain; here = low; is = left }

  at_end : word look leaf 0 ≤ at + 1 → rest ≡ held look behind.from.following
  at_end high = left ∙ ap (λ (es : List Entry). es ++ held look behind.from.following) (past (leaf_entries look leaf) (at + 1) (subst (λ (n : ℕ). n ≤ at + 1) (sym (entries_long look leaf)) high))

  -- behind the last leaf
  pub step_out : word look leaf 0 ≤ at + 1 → reference look leaf 1 ≡ 0 → rest ≡ []
  step_out high none = at_end high ∙ of behind.from.following behind.from.chain
    where
      of : (ls : List ℕ) → IsChain look (reference look leaf 1) ls → held look ls ≡ []
      of [] chain = refl
      of (l ∷ ls) chain = absurd (chain.1 none)

  -- in the leaf that follows
  pub step_on : (next : ℕ) → word look leaf 0 ≤ at + 1 → next ≡ reference look leaf 1 → next ≢ 0 → 1 ≤ word look next 0 → From look next 0 rest
  step_on next high is some filled = of behind.from.following behind.from.chain (at_end high)
    where
      of : (ls : List ℕ) → IsChain look (reference look leaf 1) ls → rest ≡ held look ls → From look next 0 rest
      of [] chain same = absurd (some (is ∙ chain))
      of (l ∷ ls) chain same = (let e : next ≡ l = is ∙ chain.0 in record {
        following = ls;
        chain = subst (λ (m : ℕ). IsChain look (reference look m 1) ls) (sym e) chain.2;
        here = omega (arith, filled);
        is = same ∙ ap (λ (m : ℕ). leaf_entries look m ++ held look ls) (sym e);
      })

-- the three as answers of a call: what is known of the leaf at the first moment and at the last
module _ {R : Type 0} (a c : TxnState R) (leaf : ℕ) (key at : ℕ) where
  pub goes_here : (next_key next : ℕ) → next ≡ at + 1 → Knows c (λ st w. name_at c st leaf ≡ name_at a st leaf)
      → Knows c (λ st w. IsCursor w (name_at a st leaf) next_key (at + 1))
      → Knows c (λ st w. IsCursor w (name_at c st leaf) next_key next × ((rest : List Entry) → IsBehind (look_of w) (name_at a st leaf) at rest → From (look_of w) (name_at c st leaf) next rest))
  goes_here next_key next is same cursor = record {
    of = λ st g w whole. (let cur = cursor.of st g w whole in
        let here = same.of st g w whole in (
          subst (λ (n : ℕ). IsCursor w n next_key next) (sym here) (subst (IsCursor w (name_at a st leaf) next_key) (sym is) cur),
          λ rest behind. subst (λ (n : ℕ). From (look_of w) n next rest) (sym here)
              (subst (λ (m : ℕ). From (look_of w) (name_at a st leaf) m rest) (sym is) (step_here (look_of w) (name_at a st leaf) at rest behind cur.here)),
        ));
  }

  pub goes_out : Knows c (λ st w. (word (look_of w) (name_at a st leaf) 0 ≤ at + 1) × (reference (look_of w) (name_at a st leaf) 1 ≡ 0))
      → Knows c (λ st w. (rest : List Entry) → IsBehind (look_of w) (name_at a st leaf) at rest → rest ≡ [])
  goes_out last = record { of = λ st g w whole. (let is = last.of st g w whole in λ rest behind. step_out (look_of w) (name_at a st leaf) at rest behind is.0 is.1) }

  pub goes_on : (next_key next : ℕ) → Knows c (λ st w. (word (look_of w) (name_at a st leaf) 0 ≤ at + 1) × IsNext w (name_at a st leaf) (name_at c st leaf) next_key next)
      → Knows c (λ st w. IsCursor w (name_at c st leaf) next_key next × ((rest : List Entry) → IsBehind (look_of w) (name_at a st leaf) at rest → From (look_of w) (name_at c st leaf) next rest))
  goes_on next_key next last = record {
    of = λ st g w whole. (let is = last.of st g w whole in (
      is.1.cursor,
      λ rest behind. subst (λ (m : ℕ). From (look_of w) (name_at c st leaf) m rest) (sym is.1.first)
          (step_on (look_of w) (name_at a st leaf) at rest behind (name_at c st leaf) is.0 is.1.is is.1.some is.1.cursor.leaf_is.some),
    ));
  }
