-- A run keeps names and makes none but new ones.
use Rattle.std.proofs.Common.{◌≡◌, ◌∙◌, ◌⊎◌, inl, inr, ℕ, Bool, true, false, List, [], ◌∷◌, Option, None, Some, is_some, refl, sym, ap, subst}
use Rattle.std.specs.Prelude.{◌==◌, ◌||◌, slice_get, Ok, Err}
use Rattle.std.specs.Ordering.{nat_cmp, eq_by_cmp}
use Rattle.std.specs.Cmp.{nat_cmp_total}
use Rattle.std.specs.FinMap.{get, insert, get-insert}
use Rattle.std.proofs.lemmas.Bool.{cond-true, cond-false}
use Rattle.pm3_types.specs.declared.places.Place.{Place}
use Rattle.pm3_types.specs.declared.places.Place.TheVariants as places
use Rattle.pm3_types.specs.Fields.{Fields}
use Rattle.pm3_types.specs.Record.{Record, blank}
use Rattle.pm3_types.specs.Places.{is_place, value_at, with_value}
use Rattle.pm3_types.specs.Graph.{Part}
use Rattle.pm3_types.proofs.Books.{same_key}
use Rattle.pm3_graph.specs.declared.operations.Op.{Op}
use Rattle.pm3_graph.specs.declared.operations.Op.TheVariants.{New, Word, SetWord, Reference, SetReference, TailRef, SetTailRef, Byte, SetByte, Root, SetRoot}
use Rattle.pm3_graph.specs.Operation.{Outcome, read_of, write_of, new_of, root_of, set_root_of, step_if, unless_taken, with_record, with_root, IsStep, IsRun, IsNewTo}
use Rattle.pm3_graph.specs.Frame.{AreNewTo}

-- h has the names of g, and each further one is new to every part to which what was done is new
pub record Grows (IsNew : Part → Type 0) (g h : Part) : Type 0 where
  pub kept : (n : ℕ) → is_some (get g.records n) ≡ true → is_some (get h.records n) ≡ true
  pub new : (n : ℕ) → is_some (get h.records n) ≡ true → (is_some (get g.records n) ≡ true) ⊎ ((x : Part) → IsNew x → get x.records n ≡ None)

-- a record put in is there, and all else is as it was
put_cases : (g : Part) (name n : ℕ) (r : Record) → (b : Bool) → eq_by_cmp nat_cmp n name ≡ b
    → (is_some (get (insert g.records name r) n) ≡ is_some (get g.records n)) ⊎ ((n ≡ name) × (is_some (get (insert g.records name r) n) ≡ true))
put_cases g name n r true same =
    inr (same_key n name same, ap is_some (get-insert nat_cmp_total g.records name r n ∙ cond-true (eq_by_cmp nat_cmp n name) (Some r) (get g.records n) same))
put_cases g name n r false other =
    inl (ap is_some (get-insert nat_cmp_total g.records name r n ∙ cond-false (eq_by_cmp nat_cmp n name) (Some r) (get g.records n) other))

module _ (catalog : List Fields) (IsNew : Part → Type 0) (g : Part) where
  Holds : Outcome → Type 0
  Holds (Ok made) = Grows IsNew g made.1
  Holds (Err fault) = Unit {0}

  itself : (h : Part) → h.records ≡ g.records → Grows IsNew g h
  itself h same = record {
    kept = λ n is. ap (λ (m : _). is_some (get m n)) same ∙ is;
    new = λ n is. inl (sym (ap (λ (m : _). is_some (get m n)) same) ∙ is);
  }

  put : (name : ℕ) (r : Record) → (is_some (get g.records name) ≡ true) ⊎ ((x : Part) → IsNew x → get x.records name ≡ None) → Grows IsNew g (with_record g name r)
  put name r there = record {
    kept = λ n is. kept n is (put_cases g name n r (eq_by_cmp nat_cmp n name) refl);
    new = λ n is. new n is (put_cases g name n r (eq_by_cmp nat_cmp n name) refl);
  }
    where
      kept : (n : ℕ) → is_some (get g.records n) ≡ true
          → (is_some (get (insert g.records name r) n) ≡ is_some (get g.records n)) ⊎ ((n ≡ name) × (is_some (get (insert g.records name r) n) ≡ true))
          → is_some (get (insert g.records name r) n) ≡ true
      kept n is (inl same) = same ∙ is
      kept n is (inr here) = here.1

      new : (n : ℕ) → is_some (get (insert g.records name r) n) ≡ true
          → (is_some (get (insert g.records name r) n) ≡ is_some (get g.records n)) ⊎ ((n ≡ name) × (is_some (get (insert g.records name r) n) ≡ true))
          → (is_some (get g.records n) ≡ true) ⊎ ((x : Part) → IsNew x → get x.records n ≡ None)
      new n is (inl same) = inl (sym same ∙ is)
      new n is (inr here) =
          (let P : ℕ → Type 0 = λ m. (is_some (get g.records m) ≡ true) ⊎ ((x : Part) → IsNew x → get x.records m ≡ None) in subst P (sym here.0) there)

  step_holds : (b : Bool) (answer : ℕ) (h : Part) → Grows IsNew g h → Holds (step_if b answer h)
  unfolding Holds
  step_holds true answer h made = made
  step_holds false answer h made = tt

  read_holds : (name : ℕ) (place : Place) (o : Option Record) → Holds (read_of catalog g name place o)
  unfolding Holds
  read_holds name place None = tt
  read_holds name place (Some r) = step_holds (is_place catalog r place) (value_at r place) g (itself g refl)

  write_holds : (name : ℕ) (place : Place) (v : ℕ) (o : Option Record) → get g.records name ≡ o → Holds (write_of catalog g name place v o)
  unfolding Holds
  write_holds name place v None is = tt
  write_holds name place v (Some r) is =
      step_holds (is_place catalog r place) 0 (with_record g name (with_value r place v)) (put name (with_value r place v) (inl (ap is_some is)))

  new_holds : (name ty tail : ℕ) (taken : Bool) (o : Option Fields) → ((x : Part) → IsNew x → get x.records name ≡ None)
      → Holds (unless_taken taken name (new_of g name ty tail o))
  unfolding Holds
  new_holds name ty tail true o fresh = tt
  new_holds name ty tail false None fresh = tt
  new_holds name ty tail false (Some map) fresh = put name (blank map ty tail) (inr fresh)

  root_holds : (slot : ℕ) (o : Option (List ℕ)) → Holds (root_of g slot o)
  unfolding Holds
  root_holds slot None = tt
  root_holds slot (Some names) = itself g refl

  set_root_holds : (slot to : ℕ) (o : Option (List ℕ)) → Holds (set_root_of g slot to o)
  unfolding Holds
  set_root_holds slot to None = tt
  set_root_holds slot to (Some names) = itself (with_root g names slot to) refl

  of_outcome : (answer : ℕ) (h : Part) (o : Outcome) → o ≡ Ok (answer, h) → Holds o → Grows IsNew g h
  unfolding Holds
  of_outcome answer h o is holds = subst Holds is holds

step_grows : (catalog : List Fields) (op : Op) (g h : Part) (answer : ℕ) → IsStep catalog op g answer h → Grows (λ x. IsNewTo x op) g h
step_grows catalog (New name ty tail) g h answer is =
    of_outcome catalog (λ x. IsNewTo x (New name ty tail)) g answer h _ is
    (new_holds catalog (λ x. IsNewTo x (New name ty tail)) g name ty tail (name == 0 || is_some (get g.records name)) (slice_get catalog ty) (λ x new. new))
step_grows catalog (Word name f) g h answer is = of_outcome catalog _ g answer h _ is (read_holds catalog _ g name (places.Word f) (get g.records name))
step_grows catalog (SetWord name f v) g h answer is = of_outcome catalog _ g answer h _ is (write_holds catalog _ g name (places.Word f) v (get g.records name) refl)
step_grows catalog (Reference name f) g h answer is = of_outcome catalog _ g answer h _ is (read_holds catalog _ g name (places.Reference f) (get g.records name))
step_grows catalog (SetReference name f to) g h answer is = of_outcome catalog _ g answer h _ is (write_holds catalog _ g name (places.Reference f) to (get g.records name) refl)
step_grows catalog (TailRef name k) g h answer is = of_outcome catalog _ g answer h _ is (read_holds catalog _ g name (places.TailRef k) (get g.records name))
step_grows catalog (SetTailRef name k to) g h answer is = of_outcome catalog _ g answer h _ is (write_holds catalog _ g name (places.TailRef k) to (get g.records name) refl)
step_grows catalog (Byte name k) g h answer is = of_outcome catalog _ g answer h _ is (read_holds catalog _ g name (places.Byte k) (get g.records name))
step_grows catalog (SetByte name k v) g h answer is = of_outcome catalog _ g answer h _ is (write_holds catalog _ g name (places.Byte k) v (get g.records name) refl)
step_grows catalog (Root slot) g h answer is = of_outcome catalog _ g answer h _ is (root_holds catalog _ g slot g.roots)
step_grows catalog (SetRoot slot to) g h answer is = of_outcome catalog _ g answer h _ is (set_root_holds catalog _ g slot to g.roots)

pub run_grows : (catalog : List Fields) (ops : List (Op × ℕ)) (g h : Part) → IsRun catalog ops g h → Grows (λ x. AreNewTo x ops) g h
run_grows catalog [] g h is = itself catalog (λ x. AreNewTo x []) g h (ap (λ (x : Part). x.records) is)
run_grows catalog (e ∷ es) g h is =
    let first : Grows (λ x. IsNewTo x e.0) g is.0 = step_grows catalog e.0 g is.0 e.1 is.1 in
    let rest : Grows (λ x. AreNewTo x es) is.0 h = run_grows catalog es is.0 h is.2 in
    record {
      kept = λ n there. rest.kept n (first.kept n there);
      new = λ n there. by first n (rest.new n there);
    }
  where
    later : (n : ℕ) → (m : Part) → (is_some (get g.records n) ≡ true) ⊎ ((x : Part) → IsNewTo x e.0 → get x.records n ≡ None)
        → (is_some (get g.records n) ≡ true) ⊎ ((x : Part) → AreNewTo x (e ∷ es) → get x.records n ≡ None)
    later n m (inl old) = inl old
    later n m (inr new) = inr (λ x are. new x are.0)

    by : {m : Part} → Grows (λ x. IsNewTo x e.0) g m → (n : ℕ) → (is_some (get m.records n) ≡ true) ⊎ ((x : Part) → AreNewTo x es → get x.records n ≡ None)
        → (is_some (get g.records n) ≡ true) ⊎ ((x : Part) → AreNewTo x (e ∷ es) → get x.records n ≡ None)
    by {m} first n (inl there) = later n m (first.new n there)
    by first n (inr new) = inr (λ x are. new x are.1)
