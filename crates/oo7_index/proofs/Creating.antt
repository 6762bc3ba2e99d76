-- A tree that was made new is an index without entries.
use Rattle.std.proofs.Common.{◌≡◌, ◌≤◌, ◌∙◌, ℕ, Bool, cond, [], Option, Some, refl, sym, ap, subst, arith}
use Rattle.std.proofs.lemmas.Bool.{eq-eqb, false≢true}
use Rattle.pm3_types.specs.declared.places.Place.TheVariants.{Reference, Word}
use Rattle.pm3_types.specs.Fields.{is_reference}
use Rattle.pm3_types.specs.Graph.{Part}
use Rattle.pm3_types.specs.Record.{Record}
use Rattle.oo7_schema.specs.Lookup.{reference, value_in, word}
use Rattle.oo7_schema.specs.Nodes.{IsChain, IsIndex, IsRoot, first_of, held, leaves_of, nodes_of}
use Rattle.oo7_schema.specs.Entries.{Once}
use Rattle.oo7_schema.specs.Schema.{Tree}
use Rattle.oo7_objects.specs.Wholes.{HasNew, look_of, new_object}

-- what stands in a new tree
no_height : value_in (Some (new_object 11 0)) (Word 0) ≡ 0
unfolding is_reference
no_height = refl

no_entries : value_in (Some (new_object 11 0)) (Word 1) ≡ 0
unfolding is_reference
no_entries = refl

no_root : value_in (Some (new_object 11 0)) (Reference 2) ≡ 0
unfolding is_reference
no_root = refl

pub new_index : (w v : Part) (n : ℕ) → HasNew w n (new_object 11 0) v → IsIndex (look_of w) n []
new_index w v n new = record {
  is = record { object = new_object 11 0; is = there; of = refl; fits = record { map = Tree; of = refl; fields = refl; tail = λ empty. refl; bytes = λ never. absurd (false≢true never) } };
  height = subst (λ (k : ℕ). k ≤ 16) (sym height) (omega arith);
  count = entries;
  most = omega arith;
  root = subst (λ (k : ℕ). IsRoot (look_of w) k (reference (look_of w) n 2)) (sym height) root;
  entries = sym (ap (λ (k : ℕ). held (look_of w) (leaves_of (look_of w) k (reference (look_of w) n 2))) height);
  rising = tt;
  chain = subst (λ (k : ℕ). IsChain (look_of w) (first_of (leaves_of (look_of w) k (reference (look_of w) n 2))) (leaves_of (look_of w) k (reference (look_of w) n 2))) (sym height) refl;
  once = subst (λ (k : ℕ). Once (nodes_of (look_of w) k (reference (look_of w) n 2))) (sym height) (λ m. omega arith);
}
  where
    there : look_of w n ≡ Some (new_object 11 0)
    there = new.like.objects n ∙ ap (λ (b : Bool). cond b (Some (new_object 11 0)) (look_of v n)) (eq-eqb n n refl)

    height : word (look_of w) n 0 ≡ 0
    height = ap (λ (o : Option Record). value_in o (Word 0)) there ∙ no_height

    entries : word (look_of w) n 1 ≡ 0
    entries = ap (λ (o : Option Record). value_in o (Word 1)) there ∙ no_entries

    root : reference (look_of w) n 2 ≡ 0
    root = ap (λ (o : Option Record). value_in o (Reference 2)) there ∙ no_root
