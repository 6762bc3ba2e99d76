-- A transaction that begins.
use Rattle.std.proofs.Common.{◌≡◌, inl, ℕ, false, List, Option, replicate, refl, sym, subst}
use Rattle.std.proofs.lemmas.List.{length-replicate}
use Rattle.atomic_table.specs.Seated.{TableId}
use Rattle.pm3_access.specs.Holding.{Holding, nothing_held}
use Rattle.pm3_table.specs.declared.view.Told.{Told}
use Rattle.pm3_txn.specs.States.{MutatorState}
use Rattle.pm3_txn.specs.Underway.{Belongs, HoldsNothing, IsUnderway}
use Rattle.pm3_txn.proofs.NamesBelow.{names_none}
use Rattle.pm3_txn.proofs.OwnerGoes.{holdings_begin}

pub begun_txn : {R : Type 0} (content : R → Option (List ℕ)) (heap : TableId × Told) (m m' : MutatorState R) (held : Holding) (tag : ℕ)
    → Belongs content heap m → HoldsNothing m → m' ≡ record m { wrote = replicate 512 false; next_name = 0 } → held ≡ nothing_held
    → IsUnderway content (record { heap = heap; mutator = m'; held = held; tag = tag })
begun_txn {R} content heap m m' held tag belongs bare same nothing =
    subst (λ (x : MutatorState R). IsUnderway content (record { heap = heap; mutator = x; held = held; tag = tag })) (sym same)
    (subst (λ (h : Holding). IsUnderway content (record { heap = heap; mutator = record m { wrote = replicate 512 false; next_name = 0 }; held = h; tag = tag })) (sym nothing)
    (record {
      mutator = record {
        of = belongs.mutator.of;
        unmarked = belongs.mutator.unmarked;
        lawful = belongs.mutator.lawful;
        reads = belongs.mutator.reads;
        tags = (belongs.mutator.tags.0, length-replicate 512 false);
        space = belongs.mutator.space;
      };
      known = λ q is. inl (belongs.known q is);
      holding = holdings_begin heap.1 m.pass.1 m.space belongs.mutator.lawful bare;
      named = names_none 0 nothing_held refl;
    }))
